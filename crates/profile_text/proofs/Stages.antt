-- The lines that have come at a stage, and which may come next.
use Rattle.std.proofs.Common.{◌≡◌, ◌==◌, ◌&&◌, ◌<◌, ◌≤◌, ◌+◌, ◌-◌, ◌^◌, ℕ, Bool, true, false, cond, nat_lt, nat_le}
use Rattle.std.proofs.Common.{List, [], ◌∷◌, ◌++◌, length, map, take, get_or, Option, Some, None, inl, inr, refl, ap}
use Rattle.std.proofs.Common.{sym, ◌∙◌, subst, arith, append_assoc, length-append, length-take-le}
use Rattle.std.specs.Prelude.{MatchOption, All, AllPairs, slice_get}
use Rattle.std.proofs.lemmas.List.{append-nil, map-append, length_push, get_or_append_left, get_or_at, take_more}
use Rattle.std.proofs.lemmas.Grind.{flat_map-append}
use Rattle.std.proofs.lemmas.List.Elements.{All-head, All-tail, All-push, All-weaker}
use Rattle.std.proofs.lemmas.List.Quantifiers.{all_pairs_push}
use Rattle.std.proofs.lemmas.Option.{slice_get-get_or, some_pair_parts}
use Rattle.std.proofs.lemmas.Bool.{cases_lt}
use Rattle.std.proofs.lemmas.Bool.Decides.{nat_tests}
use Rattle.text_fields.specs.Reading.{◌>>=◌}
use Rattle.plan_core.specs.declared.profiles.Node.{Node}
use Rattle.plan_core.specs.declared.profiles.Edge.{Edge}
use Rattle.plan_core.specs.declared.profiles.Profile.{Profile}
use Rattle.plan_core.specs.Graphs.{EndsBefore, Joins}
use Rattle.profile_text.specs.declared.lines.ContextLine.{ContextLine}
use Rattle.profile_text.specs.declared.lines.TextLine.{TextLine}
use Rattle.profile_text.specs.declared.lines.TextLine.TheVariants.{Head, Distance, Granted, Joined, End}
use Rattle.profile_text.specs.declared.steps.Stage.{Stage}
use Rattle.profile_text.specs.declared.steps.Stage.TheVariants.{Start, Headed, Contexts, Edges, Ended}
use Rattle.profile_text.specs.Distinct.{are_distinct}
use Rattle.profile_text.specs.Profile.{line_text, text_of, context_line, context_lines, lines_of, IsContext, NodeFits}
use Rattle.profile_text.specs.Profile.{IsProfile}
use Rattle.profile_text.specs.Grammar.{Begins, Whole}
use Rattle.profile_text.specs.Steps.{blank_profile, ends_before, is_behind, comes_behind, joins_next, comes_next}
use Rattle.profile_text.specs.Steps.{admits, added}
use Rattle.profile_text.proofs.LineLaws.{LineFits}

-- the lines that have come, from the profile read so far
abbrev pub so_far : Stage → Profile → List TextLine
so_far Start p = []
so_far Headed p = Head ∷ []
so_far Contexts p = Head ∷ Distance p.distance ∷ context_lines 0 p.contexts p.graph.nodes
so_far Edges p = Head ∷ Distance p.distance ∷ (context_lines 0 p.contexts p.graph.nodes ++ map Joined p.graph.edges)
so_far Ended p = lines_of p

-- what hasn't come is blank
abbrev pub Tidy : Stage → Profile → Type 0
Tidy Start p = p ≡ blank_profile
Tidy Headed p = p ≡ blank_profile
Tidy Contexts p = p.graph.edges ≡ []
Tidy Edges p = Unit {0}
Tidy Ended p = Unit {0}

-- the lines after one more, and what then hasn't come
pub record Adds (l : TextLine) (stage : Stage) (p : Profile) (next : Stage) : Type 0 where
  pub lines : so_far next (added l p) ≡ so_far stage p ++ (l ∷ [])
  pub tidy : Tidy next (added l p)

pub context_lines_push : (k : ℕ) (cs : List (List ℕ)) (ns : List Node) (c : List ℕ) (n : Node) → length ns ≡ length cs
    → context_lines k (cs ++ (c ∷ [])) (ns ++ (n ∷ []))
    ≡ context_lines k cs ns ++ (context_line (k + length cs) c n ∷ [])
context_lines_push k [] [] c n same = ap (λ i. context_line i c n ∷ []) (let e : k ≡ k + 0 = omega arith in e)
context_lines_push k [] (m ∷ ns) c n same = absurd (omega arith)
context_lines_push k (d ∷ cs) [] c n same = absurd (omega arith)
context_lines_push k (d ∷ cs) (m ∷ ns) c n same =
    let later = context_lines_push (k + 1) cs ns c n (omega arith) in
    let place : k + 1 + length cs ≡ k + length (d ∷ cs) = omega arith in
    ap (λ ls. context_line k d m ∷ ls) (later
    ∙ ap (λ i. context_lines (k + 1) cs ns ++ (context_line i c n ∷ [])) place)

same_from : (a b : ℕ) (t : Bool) → ((a == b) && t) ≡ true → (a ≡ b) × (t ≡ true)
same_from a b true e = (grind (arith, nat_tests), refl)
same_from a b false e = absurd (grind (arith, nat_tests))

granted_at : (t : Bool) (c : ContextLine) (p : Profile) → comes_next c p ≡ t → Tidy Contexts p
    → length p.graph.nodes ≡ length p.contexts
    → MatchOption (cond t (Some Contexts) None) (Unit {0}) (Adds (Granted c) Contexts p)
granted_at true c p is tidy sizes =
    let number : c.number ≡ length p.contexts = (same_from c.number (length p.contexts) (are_distinct c.addrs) is).0 in
    let place : 0 + length p.contexts ≡ c.number = omega arith in
    let push = context_lines_push 0 p.contexts p.graph.nodes c.addrs
    (record { grants = c.grants; accesses = c.accesses }) sizes in
    record {
      lines = ap (λ ls. Head ∷ Distance p.distance ∷ ls)
          (push ∙ ap (λ i. context_lines 0 p.contexts p.graph.nodes
          ++ (context_line i c.addrs (record { grants = c.grants; accesses = c.accesses }) ∷ [])) place);
      tidy = tidy;
    }
granted_at false c p is tidy sizes = tt

joined_first : (t : Bool) (e : Edge) (p : Profile) → Tidy Contexts p
    → MatchOption (cond t (Some Edges) None) (Unit {0}) (Adds (Joined e) Contexts p)
joined_first true e p tidy = record { lines = rw tidy refl; tidy = tt }
joined_first false e p tidy = tt

joined_more : (t : Bool) (e : Edge) (p : Profile)
    → MatchOption (cond t (Some Edges) None) (Unit {0}) (Adds (Joined e) Edges p)
joined_more true e p = record { lines = rw (map-append Joined p.graph.edges (e ∷ []), append_assoc) refl; tidy = tt }
joined_more false e p = tt

pub adds_at : (stage : Stage) (l : TextLine) (p : Profile) → Tidy stage p → length p.graph.nodes ≡ length p.contexts
    → MatchOption (admits stage p l) (Unit {0}) (Adds l stage p)
adds_at Start Head p t sizes = record { lines = refl; tidy = t }
adds_at Headed (Distance d) p t sizes =
    let none : p.contexts ≡ [] = ap (λ (q : Profile). q.contexts) t in
    record { lines = rw none refl; tidy = ap (λ (q : Profile). q.graph.edges) t }
adds_at Contexts (Granted c) p t sizes = granted_at (comes_next c p) c p refl t sizes
adds_at Contexts (Joined e) p t sizes = joined_first (joins_next e p) e p t
adds_at Contexts End p t sizes = record {
  lines =
      rw (t, append-nil (context_lines 0 p.contexts p.graph.nodes)) refl;
  tidy = tt;
}
adds_at Edges (Joined e) p t sizes = joined_more (joins_next e p) e p
adds_at Edges End p t sizes = record { lines = refl; tidy = tt }
adds_at _ _ p t sizes = tt

-- the stage and the profile after some lines
abbrev pub run : Stage → Profile → List TextLine → Option (Stage × Profile)
run stage p [] = Some (stage, p)
run stage p (l ∷ ls) = admits stage p l >>= (λ next. run next (added l p) ls)

run_on : (o : Option Stage) (p : Profile) (xs ys : List TextLine)
    → ((stage : Stage) → run stage p (xs ++ ys) ≡ (run stage p xs >>= (λ r. run r.0 r.1 ys)))
    → (o >>= (λ next. run next p (xs ++ ys))) ≡ ((o >>= (λ next. run next p xs)) >>= (λ r. run r.0 r.1 ys))
run_on None p xs ys later = refl
run_on (Some stage) p xs ys later = later stage

pub run-append : (stage : Stage) (p : Profile) (xs ys : List TextLine)
    → run stage p (xs ++ ys) ≡ (run stage p xs >>= (λ r. run r.0 r.1 ys))
run-append stage p [] ys = refl
run-append stage p (x ∷ xs) ys = run_on (admits stage p x) (added x p) xs ys (λ next. run-append next (added x p) xs ys)

abbrev profile_of : ℕ → List (List ℕ) → List Node → List Edge → Profile
profile_of d cs ns es = record { distance = d; contexts = cs; graph = record { nodes = ns; edges = es } }

same_itself : (n : ℕ) → (n == n) ≡ true
same_itself n = grind (arith, nat_tests)

run_contexts : (d : ℕ) (done : List (List ℕ)) (dn : List Node) (es : List Edge) (cs : List (List ℕ)) (ns : List Node)
    (ls : List TextLine)
    → All IsContext cs → length ns ≡ length cs
    → run Contexts (profile_of d done dn es) (context_lines (length done) cs ns ++ ls)
    ≡ run Contexts (profile_of d (done ++ cs) (dn ++ ns) es) ls
run_contexts d done dn es [] [] ls are same = rw (append-nil done, append-nil dn) refl
run_contexts d done dn es [] (n ∷ ns) ls are same = absurd (omega arith)
run_contexts d done dn es (c ∷ cs) [] ls are same = absurd (omega arith)
run_contexts d done dn es (c ∷ cs) (n ∷ ns) ls are same =
    let here : are_distinct c ≡ true = (All-head IsContext c cs are).1 in
    let later = run_contexts d (done ++ (c ∷ [])) (dn ++ (n ∷ [])) es cs ns ls (All-tail IsContext c cs are)
    (omega arith) in
    let place : length done + 1 ≡ length (done ++ (c ∷ [])) = sym (length_push done c) in
    let list : (done ++ (c ∷ [])) ++ cs ≡ done ++ (c ∷ cs) = append_assoc done (c ∷ []) cs in
    let nodes : (dn ++ (n ∷ [])) ++ ns ≡ dn ++ (n ∷ ns) = append_assoc dn (n ∷ []) ns in
    rw (same_itself (length done), here, place) (later
    ∙ (ap (λ xs. run Contexts (profile_of d xs ((dn ++ (n ∷ [])) ++ ns) es) ls) list
    ∙ ap (λ xs. run Contexts (profile_of d (done ++ (c ∷ cs)) xs es) ls) nodes))

before_to : (e f : Edge) → EndsBefore e f → ends_before e f ≡ true
before_to e f h = grind (arith, nat_tests)

before_from : (e f : Edge) → ends_before e f ≡ true → EndsBefore e f
before_from e f h = grind (arith, nat_tests)

before_trans : (e f g : Edge) → EndsBefore e f → EndsBefore f g → EndsBefore e g
before_trans e f g first second = grind arith

behind_at : (done : List Edge) (e : Edge) → ((d : Edge) → 0 < length done
    → EndsBefore (get_or done (length done - 1) d) e) → comes_behind done e ≡ true
behind_at [] e before = refl
behind_at (f ∷ done) e before =
    let place : slice_get (f ∷ done) (length (f ∷ done) - 1) ≡ Some (get_or (f ∷ done) (length (f ∷ done) - 1) f) =
    slice_get-get_or (f ∷ done) (length (f ∷ done) - 1) f (omega arith) in
    ap (λ o. is_behind o e) place ∙ before_to (get_or (f ∷ done) (length (f ∷ done) - 1) f) e (before f (omega arith))

behind_from : (done : List Edge) (e : Edge) → comes_behind done e ≡ true → (d : Edge) → 0 < length done
    → EndsBefore (get_or done (length done - 1) d) e
behind_from done e behind d some =
    let place : slice_get done (length done - 1) ≡ Some (get_or done (length done - 1) d) =
    slice_get-get_or done (length done - 1) d (omega arith) in
    before_from (get_or done (length done - 1) d) e (sym (ap (λ o. is_behind o e) place) ∙ behind)

joins_to : (n : ℕ) (e : Edge) (behind : Bool) → Joins n e → 0 < e.weight → behind ≡ true
    → (nat_le e.low e.high && nat_lt e.high n && nat_le 1 e.weight && behind) ≡ true
joins_to n e true joins some is = grind (arith, nat_tests)
joins_to n e false joins some is = absurd cc

joins_from : (n : ℕ) (e : Edge) (behind : Bool)
    → (nat_le e.low e.high && nat_lt e.high n && nat_le 1 e.weight && behind) ≡ true
    → (e.low ≤ e.high) × (e.high < n) × (0 < e.weight) × (behind ≡ true)
joins_from n e true is = (grind (arith, nat_tests), grind (arith, nat_tests), grind (arith, nat_tests), refl)
joins_from n e false is = absurd (grind (arith, nat_tests))

abbrev Weighs : Edge → Type 0
Weighs e = 0 < e.weight

-- the next edge comes behind the last
next_behind : (done : List Edge) (e : Edge) (es : List Edge) → AllPairs EndsBefore (done ++ (e ∷ es))
    → comes_behind done e ≡ true
next_behind done e es pairs =
    behind_at done e (λ d some.
    let long : length (done ++ (e ∷ es)) ≡ length done + length (e ∷ es) = length-append done (e ∷ es) in
    let last : get_or (done ++ (e ∷ es)) (length done - 1) d ≡ get_or done (length done - 1) d =
    get_or_append_left done (e ∷ es) d (length done - 1) (omega arith) in
    let here : get_or (done ++ (e ∷ es)) (length done) d ≡ e = get_or_at done e es d (length done) refl in
    rw last at (rw here at (pairs (length done - 1) (length done) d (omega arith) (omega arith))))

run_edges : (d : ℕ) (cs : List (List ℕ)) (ns : List Node) (done es : List Edge) → All (Joins (length cs)) es
    → All Weighs es → AllPairs EndsBefore (done ++ es)
    → run Edges (profile_of d cs ns done) (map Joined es ++ (End ∷ [])) ≡ Some (Ended, profile_of d cs ns (done ++ es))
run_edges d cs ns done [] joins some pairs = rw (append-nil done) refl
run_edges d cs ns done (e ∷ es) joins some pairs =
    let test : joins_next e (profile_of d cs ns done) ≡ true =
    joins_to (length cs) e (comes_behind done e) (All-head (Joins (length cs)) e es joins) (All-head Weighs e es some)
    (next_behind done e es pairs) in
    let list : (done ++ (e ∷ [])) ++ es ≡ done ++ (e ∷ es) = append_assoc done (e ∷ []) es in
    let P : List Edge → Type 0 = λ xs. AllPairs EndsBefore xs in
    let later = run_edges d cs ns (done ++ (e ∷ [])) es (All-tail (Joins (length cs)) e es joins)
    (All-tail Weighs e es some) (subst P (sym list) pairs) in
    rw test (later ∙ ap (λ xs. Some (Ended, profile_of d cs ns xs)) list)

run_tail : (d : ℕ) (cs : List (List ℕ)) (ns : List Node) (es : List Edge) → All (Joins (length cs)) es → All Weighs es
    → AllPairs EndsBefore es
    → run Contexts (profile_of d cs ns []) (map Joined es ++ (End ∷ [])) ≡ Some (Ended, profile_of d cs ns es)
run_tail d cs ns [] joins some pairs = refl
run_tail d cs ns (e ∷ es) joins some pairs =
    let test : joins_next e (profile_of d cs ns []) ≡ true =
    joins_to (length cs) e true (All-head (Joins (length cs)) e es joins) (All-head Weighs e es some) refl in
    rw test (run_edges d cs ns (e ∷ []) es (All-tail (Joins (length cs)) e es joins) (All-tail Weighs e es some) pairs)

-- all lines of a profile are taken
pub run_whole : (p : Profile) → IsProfile p → run Start blank_profile (lines_of p) ≡ Some (Ended, p)
run_whole p is =
    let joined : context_lines 0 p.contexts p.graph.nodes ++ map Joined p.graph.edges ++ (End ∷ [])
    ≡ context_lines 0 p.contexts p.graph.nodes ++ (map Joined p.graph.edges ++ (End ∷ [])) =
    append_assoc (context_lines 0 p.contexts p.graph.nodes) (map Joined p.graph.edges) (End ∷ []) in
    let joins : All (Joins (length p.contexts)) p.graph.edges =
    subst (λ n. All (Joins n) p.graph.edges) is.sizes is.ordered.joins in
    rw (
      joined,
      run_contexts p.distance [] [] [] p.contexts p.graph.nodes
          (map Joined p.graph.edges ++ (End ∷ [])) is.contexts is.sizes,
    )
    (run_tail p.distance p.contexts p.graph.nodes p.graph.edges joins is.counted is.ordered.ascending)

-- a line that may not come continues no profile
pub no_profile_goes_on : (lines : List TextLine) (l : TextLine) (stage : Stage) (p : Profile)
    → run Start blank_profile lines ≡ Some (stage, p) → admits stage p l ≡ None → Begins (lines ++ (l ∷ [])) → ⊥
no_profile_goes_on lines l stage p ran blocked (q, more, is_profile, is) =
    let whole = run_whole q is_profile in
    let parts = run-append Start blank_profile (lines ++ (l ∷ [])) more in
    let front = run-append Start blank_profile lines (l ∷ []) in
    let none : run Start blank_profile (lines ++ (l ∷ [])) ≡ None = rw (front, ran, blocked) refl in
    let all : run Start blank_profile ((lines ++ (l ∷ [])) ++ more) ≡ None = rw (parts, none) refl in
    let ended : run Start blank_profile ((lines ++ (l ∷ [])) ++ more) ≡ Some (Ended, q) = rw (← is) whole in
    let wrong : ◌≡◌ {A = Option (Stage × Profile)} None (Some (Ended, q)) = sym all ∙ ended in
    absurd cc

-- lines that are a whole profile have ended
pub whole_ends : (lines : List TextLine) (stage : Stage) (p : Profile) → run Start blank_profile lines ≡ Some (stage, p)
    → Whole lines → stage ≡ Ended
whole_ends lines stage p ran (q, is_profile, is) =
    let ended : run Start blank_profile lines ≡ Some (Ended, q) = rw (← is) (run_whole q is_profile) in
    (some_pair_parts stage Ended p q (sym ran ∙ ended)).0

pub ended_is_last : (p : Profile) (l : TextLine) → admits Ended p l ≡ None
ended_is_last p Head = refl
ended_is_last p (Distance d) = refl
ended_is_last p (Granted c) = refl
ended_is_last p (Joined e) = refl
ended_is_last p End = refl

-- the lines so far begin a profile
pub begins : (stage : Stage) (p : Profile) → IsProfile p → Begins (so_far stage p)
begins Start p is = (p, lines_of p, is, refl)
begins Headed p is = (
  p,
  Distance p.distance ∷ (context_lines 0 p.contexts p.graph.nodes ++ map Joined p.graph.edges ++ (End ∷ [])),
  is,
  refl,
)
begins Contexts p is = (p, map Joined p.graph.edges ++ (End ∷ []), is, rw append_assoc refl)
begins Edges p is = (p, End ∷ [], is, refl)
begins Ended p is = (p, [], is, sym (append-nil (lines_of p)))

-- lines that fit, one by one
abbrev pub LinesFit : List TextLine → Type 0
LinesFit [] = Unit {0}
LinesFit (l ∷ ls) = LineFits l × LinesFit ls

fit-append : (xs ys : List TextLine) → LinesFit xs → LinesFit ys → LinesFit (xs ++ ys)
fit-append [] ys xs_fit ys_fit = ys_fit
fit-append (x ∷ xs) ys xs_fit ys_fit = (xs_fit.0, fit-append xs ys xs_fit.1 ys_fit)

front_fits : (xs ys : List TextLine) → LinesFit (xs ++ ys) → LinesFit xs
front_fits [] ys fit = tt
front_fits (x ∷ xs) ys fit = (fit.0, front_fits xs ys fit.1)

pub back_fits : (xs ys : List TextLine) → LinesFit (xs ++ ys) → LinesFit ys
back_fits [] ys fit = fit
back_fits (x ∷ xs) ys fit = back_fits xs ys fit.1

contexts_fit : (k : ℕ) (cs : List (List ℕ)) (ns : List Node) → k + length cs < 2 ^ 32 → All IsContext cs
    → All NodeFits ns → LinesFit (context_lines k cs ns)
contexts_fit k [] ns few cs_fit ns_fit = tt
contexts_fit k (c ∷ cs) [] few cs_fit ns_fit = tt
contexts_fit k (c ∷ cs) (n ∷ ns) few cs_fit ns_fit =
    let node = All-head NodeFits n ns ns_fit in (
      (omega arith, node.0, node.1, (All-head IsContext c cs cs_fit).0),
      contexts_fit (k + 1) cs ns (omega arith) (All-tail IsContext c cs cs_fit) (All-tail NodeFits n ns ns_fit),
    )

edges_fit : (n : ℕ) (es : List Edge) → n < 2 ^ 32 → All (Joins n) es → LinesFit (map Joined es)
edges_fit n [] few joins = tt
edges_fit n (e ∷ es) few joins =
    let here = All-head (Joins n) e es joins in
    ((omega (arith, here.0, here.1), omega (arith, here.1), here.2), edges_fit n es few (All-tail (Joins n) e es joins))

-- the lines of a profile fit
pub profile_fits : (p : Profile) → IsProfile p → LinesFit (lines_of p)
profile_fits p is =
    let edges = edges_fit (length p.graph.nodes) p.graph.edges (omega (arith, is.sizes, is.few)) is.ordered.joins in
    let contexts = contexts_fit 0 p.contexts p.graph.nodes (omega (arith, is.few)) is.contexts is.nodes in (
      tt,
      (
        is.near,
        fit-append (context_lines 0 p.contexts p.graph.nodes ++ map Joined p.graph.edges) (End ∷ [])
            (fit-append (context_lines 0 p.contexts p.graph.nodes) (map Joined p.graph.edges) contexts edges) (tt, tt),
      ),
    )

-- lines that begin a profile fit
pub begun_fits : (lines : List TextLine) → Begins lines → LinesFit lines
begun_fits lines (p, more, is_profile, is) =
    let P : List TextLine → Type 0 = LinesFit in
    front_fits lines more (subst P is (profile_fits p is_profile))

-- a profile with a line that may come is one
pub added_fits : (stage : Stage) (l : TextLine) (p : Profile) (next : Stage) → LineFits l → IsProfile p
    → admits stage p l ≡ Some next → IsProfile (added l p)
added_fits stage Head p next fits is goes = is
added_fits stage (Distance d) p next fits is goes = record {
  near = fits;
  few = is.few;
  sizes = is.sizes;
  contexts = is.contexts;
  nodes = is.nodes;
  ordered = is.ordered;
  counted = is.counted;
}
added_fits stage (Granted c) p next fits is goes =
    let test = comes_of stage c p next goes in
    let parts = same_from c.number (length p.contexts) (are_distinct c.addrs) test in
    let more_nodes : length (p.graph.nodes ++ (record { grants = c.grants; accesses = c.accesses } ∷ []))
    ≡ length p.graph.nodes + 1 = length_push p.graph.nodes (record { grants = c.grants; accesses = c.accesses }) in
    record {
      near = is.near;
      few = omega (arith, length_push p.contexts c.addrs, parts.0, fits.0);
      sizes = omega (arith, more_nodes, length_push p.contexts c.addrs, is.sizes);
      contexts = All-push IsContext p.contexts c.addrs is.contexts (fits.3, parts.1);
      nodes = All-push NodeFits p.graph.nodes (record { grants = c.grants; accesses = c.accesses }) is.nodes
          (fits.1, fits.2);
      ordered = record {
        joins = All-weaker (Joins (length p.graph.nodes))
            (Joins (length (p.graph.nodes ++ (record { grants = c.grants; accesses = c.accesses } ∷ []))))
            (λ e h. (h.0, omega (arith, h.1, more_nodes), h.2)) p.graph.edges is.ordered.joins;
        ascending = is.ordered.ascending;
      };
      counted = is.counted;
    }
  where
    comes_of : (stage : Stage) (c : ContextLine) (p : Profile) (next : Stage) → admits stage p (Granted c) ≡ Some next
        → comes_next c p ≡ true
    comes_of Start c p next goes = absurd cc
    comes_of Headed c p next goes = absurd cc
    comes_of Contexts c p next goes = passed (comes_next c p) goes
      where
        passed : (t : Bool) → cond t (Some Contexts) None ≡ Some next → t ≡ true
        passed true e = refl
        passed false e = absurd cc
    comes_of Edges c p next goes = absurd cc
    comes_of Ended c p next goes = absurd cc
added_fits stage (Joined e) p next fits is goes =
    let test = joins_of stage e p next goes in
    let parts = joins_from (length p.contexts) e (comes_behind p.graph.edges e) test in
    record {
      near = is.near;
      few = is.few;
      sizes = is.sizes;
      contexts = is.contexts;
      nodes = is.nodes;
      ordered = record {
        joins = All-push (Joins (length p.graph.nodes)) p.graph.edges e is.ordered.joins
            (parts.0, omega (arith, parts.1, is.sizes), fits.2);
        ascending = all_pairs_push EndsBefore p.graph.edges e is.ordered.ascending (λ k d inside.
            let last : EndsBefore (get_or p.graph.edges (length p.graph.edges - 1) d) e =
            behind_from p.graph.edges e parts.3 d (omega arith) in
            elim (cases_lt k (length p.graph.edges - 1)) [
              | inl low ↦ before_trans (get_or p.graph.edges k d) (get_or p.graph.edges (length p.graph.edges - 1) d) e
                  (is.ordered.ascending k (length p.graph.edges - 1) d low (omega arith)) last
              | inr high ↦ (let at : length p.graph.edges - 1 ≡ k =
                  omega arith in subst (λ i. EndsBefore (get_or p.graph.edges i d) e) at last)
            ]);
      };
      counted = All-push Weighs p.graph.edges e is.counted parts.2;
    }
  where
    joins_of : (stage : Stage) (e : Edge) (p : Profile) (next : Stage) → admits stage p (Joined e) ≡ Some next
        → joins_next e p ≡ true
    joins_of Start e p next goes = absurd cc
    joins_of Headed e p next goes = absurd cc
    joins_of Contexts e p next goes = passed (joins_next e p) goes
      where
        passed : (t : Bool) → cond t (Some Edges) None ≡ Some next → t ≡ true
        passed true e = refl
        passed false e = absurd cc
    joins_of Edges e p next goes = passed (joins_next e p) goes
      where
        passed : (t : Bool) → cond t (Some Edges) None ≡ Some next → t ≡ true
        passed true e = refl
        passed false e = absurd cc
    joins_of Ended e p next goes = absurd cc
added_fits stage End p next fits is goes = is

pub text_push : (ls : List TextLine) (l : TextLine) → text_of (ls ++ (l ∷ [])) ≡ text_of ls ++ line_text l
text_push ls l = rw (flat_map-append line_text ls (l ∷ []), append-nil (line_text l)) refl

-- one context more, written
pub contexts_more : (cs : List (List ℕ)) (ns : List Node) (at : ℕ) (c : List ℕ) (n : Node) → length ns ≡ length cs
    → at < length cs → c ≡ get_or cs at c → n ≡ get_or ns at n
    → text_of (context_lines 0 (take (at + 1) cs) (take (at + 1) ns))
    ≡ text_of (context_lines 0 (take at cs) (take at ns)) ++ line_text (context_line at c n)
contexts_more cs ns at c n same inside c_is n_is =
    let list : take (at + 1) cs ≡ take at cs ++ (c ∷ []) = take_more cs at c inside
    ∙ ap (λ x. take at cs ++ (x ∷ [])) (sym c_is) in
    let nodes : take (at + 1) ns ≡ take at ns ++ (n ∷ []) = take_more ns at n (omega arith)
    ∙ ap (λ x. take at ns ++ (x ∷ [])) (sym n_is) in
    let cs_long : length (take at cs) ≡ at = length-take-le at cs (omega arith) in
    let ns_long : length (take at ns) ≡ at = length-take-le at ns (omega arith) in
    let push = context_lines_push 0 (take at cs) (take at ns) c n (omega arith) in
    let place : 0 + length (take at cs) ≡ at = omega arith in
    rw (list, nodes, push, place) (text_push (context_lines 0 (take at cs) (take at ns)) (context_line at c n))
