-- A text is of one profile, and has one answer.
use Rattle.std.proofs.Common.{◌≡◌, ℕ, ◌+◌, List, [], ◌∷◌, ◌++◌, length, map, refl, ap, subst, sym, ◌∙◌, arith}
use Rattle.std.proofs.Common.{append_assoc, ◌⊎◌, inl, inr}
use Rattle.std.specs.Prelude.{MatchResult, IfOk, IfErr, Result, Ok, Err}
use Rattle.std.proofs.lemmas.List.{append-nil}
use Rattle.plan_core.specs.declared.profiles.Node.{Node}
use Rattle.plan_core.specs.declared.profiles.Edge.{Edge}
use Rattle.plan_core.specs.declared.profiles.Profile.{Profile}
use Rattle.profile_text.specs.declared.lines.TextLine.{TextLine}
use Rattle.profile_text.specs.declared.lines.TextLine.TheVariants.{Head, Distance, Granted, Joined, End}
use Rattle.profile_text.specs.declared.refusals.ProfileRefusal.{ProfileRefusal}
use Rattle.profile_text.specs.declared.refusals.ProfileRefusal.TheVariants.{Line, Memory}
use Rattle.profile_text.specs.Profile.{line_text, text_of, context_lines, lines_of, profile_text, IsProfile}
use Rattle.profile_text.specs.Grammar.{Begins, FirstBad, Refuses}
use Rattle.profile_text.proofs.Laws.{TextLaws}
use Rattle.profile_text.proofs.LineLaws.{one_line, line_some}
use Rattle.profile_text.proofs.Stages.{LinesFit, begun_fits, profile_fits}

-- b goes on after a, and so does the text before y
record Longer (a b : List TextLine) (x y : List ℕ) : Type 0 where
  more : List TextLine
  lines : b ≡ a ++ more
  texts : x ≡ text_of more ++ y

longer_by : (l : TextLine) (a b : List TextLine) (m : TextLine) (x y : List ℕ) → l ≡ m → Longer a b x y
    → Longer (l ∷ a) (m ∷ b) x y
longer_by l a b m x y same longer = record { more = longer.more; lines = cc (same, longer.lines); texts = longer.texts }

-- of two lists of lines at one place, one goes on after the other
compare : (laws : TextLaws) (a b : List TextLine) (x y : List ℕ) → LinesFit a → LinesFit b
    → text_of a ++ x ≡ text_of b ++ y → Longer a b x y ⊎ Longer b a y x
compare laws [] b x y a_fit b_fit same = inl (record { more = b; lines = refl; texts = same })
compare laws (l ∷ a) [] x y a_fit b_fit same = inr (record { more = l ∷ a; lines = refl; texts = sym same })
compare laws (l ∷ a) (m ∷ b) x y a_fit b_fit same =
    let left = append_assoc (line_text l) (text_of a) x in
    let right = append_assoc (line_text m) (text_of b) y in
    let apart : line_text l ++ (text_of a ++ x) ≡ line_text m ++ (text_of b ++ y) = cc in
    let one = one_line laws l m (text_of a ++ x) (text_of b ++ y) a_fit.0 b_fit.0 apart in
    elim (compare laws a b x y a_fit.1 b_fit.1 one.1) [
      | inl longer ↦
          inl (longer_by l a b m x y one.0 longer)
      | inr shorter ↦ inr (longer_by m b a l y x (sym one.0) shorter)
    ]

begins_front : (xs ys : List TextLine) → Begins (xs ++ ys) → Begins xs
begins_front xs ys (p, more, fits, is) = (p, ys ++ more, fits, rw (is, append_assoc) refl)

-- admitted lines that go on where no line goes on are none
ends_at : (lines : List TextLine) (rest : List ℕ) (more : List TextLine) (y : List ℕ) → ((l : TextLine) (after : List ℕ)
    → rest ≡ line_text l ++ after → Begins (lines ++ (l ∷ []))
    → ⊥) → Begins (lines ++ more) → rest ≡ text_of more ++ y → more ≡ []
ends_at lines rest [] y none goes text = refl
ends_at lines rest (l ∷ more) y none goes text =
    let apart : rest ≡ line_text l ++ (text_of more ++ y) = rw text (append_assoc (line_text l) (text_of more) y) in
    let joined : (lines ++ (l ∷ [])) ++ more ≡ lines ++ (l ∷ more) = append_assoc lines (l ∷ []) more in
    let P : List TextLine → Type 0 = Begins in
    absurd (none l (text_of more ++ y) apart (begins_front (lines ++ (l ∷ [])) more (subst P (sym joined) goes)))

-- no admitted lines go on after those before the first bad line
no_longer : (text : List ℕ) (n : ℕ) (bad : FirstBad text n) (b : List TextLine) (y : List ℕ) → Begins b
    → Longer bad.lines b bad.rest y → b ≡ bad.lines
no_longer text n bad b y goes longer =
    let P : List TextLine → Type 0 = Begins in
    let none : longer.more ≡ [] = ends_at bad.lines bad.rest longer.more y bad.no_next
    (subst P longer.lines goes) longer.texts in
    rw (longer.lines, none) (append-nil bad.lines)

-- a text has one first bad line
pub one_bad : (laws : TextLaws) (text : List ℕ) (n m : ℕ) → FirstBad text n → FirstBad text m → n ≡ m
one_bad laws text n m one other =
    let same : text_of one.lines ++ one.rest ≡ text_of other.lines ++ other.rest = cc (one.front, other.front) in
    elim (compare laws one.lines other.lines one.rest other.rest (begun_fits one.lines one.admitted)
    (begun_fits other.lines other.admitted) same) [
      | inl longer ↦ cc (no_longer text n one other.lines other.rest other.admitted longer, one.number, other.number)
      | inr longer ↦ cc (no_longer text m other one.lines one.rest one.admitted longer, one.number, other.number)
    ]

empty_apart : (c : ℕ) (line cs xs ys : List ℕ) → line ≡ c ∷ cs → [] ≡ (line ++ xs) ++ ys → ⊥
empty_apart c line cs xs ys is same = let some = rw is at same in absurd cc

-- no text is left after a whole one
none_left : (more : List TextLine) (rest : List ℕ) → [] ≡ text_of more ++ rest → (more ≡ []) × (rest ≡ [])
none_left [] rest same = (refl, sym same)
none_left (l ∷ more) rest same =
    let some = line_some l in
    absurd (empty_apart some.0 (line_text l) some.1 (text_of more) rest some.2 same)

whole_begins : (p : Profile) → IsProfile p → Begins (lines_of p)
whole_begins p is = (p, [], is, sym (append-nil (lines_of p)))

whole_text : (p : Profile) (text : List ℕ) → text ≡ profile_text p → text ≡ text_of (lines_of p) ++ []
whole_text p text same = rw (append-nil (profile_text p)) same

-- a profile's text has no bad line
pub not_bad : (laws : TextLaws) (p : Profile) (text : List ℕ) (n : ℕ) → IsProfile p → text ≡ profile_text p
    → FirstBad text n → ⊥
not_bad laws p text n is text_is bad =
    let same : text_of bad.lines ++ bad.rest ≡ text_of (lines_of p) ++ [] = cc (bad.front, whole_text p text text_is) in
    elim (compare laws bad.lines (lines_of p) bad.rest [] (begun_fits bad.lines bad.admitted)
    (profile_fits p is) same) [
      | inl longer ↦
          (let all : lines_of p ≡ bad.lines = no_longer text n bad (lines_of p) [] (whole_begins p is) longer in
          let none : longer.more ≡ [] = ends_at bad.lines bad.rest longer.more [] bad.no_next (let P : List TextLine
          → Type 0 = Begins in subst P longer.lines (whole_begins p is)) longer.texts in
          let empty : bad.rest ≡ [] = rw (longer.texts, none) refl in
          bad.unfinished empty (p, is, all))
      | inr shorter ↦
          (let none = none_left shorter.more bad.rest shorter.texts in
          let all : lines_of p ≡ bad.lines = rw (shorter.lines, none.0) (sym (append-nil (lines_of p))) in
          bad.unfinished none.1 (p, is, all))
    ]

-- the parts of a profile, from its lines
abbrev contexts_in : List TextLine → List (List ℕ)
contexts_in [] = []
contexts_in (Granted c ∷ ls) = c.addrs ∷ contexts_in ls
contexts_in (_ ∷ ls) = contexts_in ls

abbrev nodes_in : List TextLine → List Node
nodes_in [] = []
nodes_in (Granted c ∷ ls) = record { grants = c.grants; accesses = c.accesses } ∷ nodes_in ls
nodes_in (_ ∷ ls) = nodes_in ls

abbrev edges_in : List TextLine → List Edge
edges_in [] = []
edges_in (Joined e ∷ ls) = e ∷ edges_in ls
edges_in (_ ∷ ls) = edges_in ls

contexts_tail : (es : List Edge) → contexts_in (map Joined es ++ (End ∷ [])) ≡ []
contexts_tail [] = refl
contexts_tail (e ∷ es) = contexts_tail es

nodes_tail : (es : List Edge) → nodes_in (map Joined es ++ (End ∷ [])) ≡ []
nodes_tail [] = refl
nodes_tail (e ∷ es) = nodes_tail es

edges_tail : (es : List Edge) → edges_in (map Joined es ++ (End ∷ [])) ≡ es
edges_tail [] = refl
edges_tail (e ∷ es) = ap (λ xs. e ∷ xs) (edges_tail es)

contexts_back : (k : ℕ) (cs : List (List ℕ)) (ns : List Node) (es : List Edge) → length ns ≡ length cs
    → contexts_in (context_lines k cs ns ++ (map Joined es ++ (End ∷ []))) ≡ cs
contexts_back k [] ns es same = contexts_tail es
contexts_back k (c ∷ cs) [] es same = absurd (omega arith)
contexts_back k (c ∷ cs) (n ∷ ns) es same = ap (λ xs. c ∷ xs) (contexts_back (k + 1) cs ns es (omega arith))

nodes_back : (k : ℕ) (cs : List (List ℕ)) (ns : List Node) (es : List Edge) → length ns ≡ length cs
    → nodes_in (context_lines k cs ns ++ (map Joined es ++ (End ∷ []))) ≡ ns
nodes_back k [] [] es same = nodes_tail es
nodes_back k [] (n ∷ ns) es same = absurd (omega arith)
nodes_back k (c ∷ cs) [] es same = absurd (omega arith)
nodes_back k (c ∷ cs) (n ∷ ns) es same = ap (λ xs. n ∷ xs) (nodes_back (k + 1) cs ns es (omega arith))

edges_back : (k : ℕ) (cs : List (List ℕ)) (ns : List Node) (es : List Edge)
    → edges_in (context_lines k cs ns ++ (map Joined es ++ (End ∷ []))) ≡ es
edges_back k [] ns es = edges_tail es
edges_back k (c ∷ cs) [] es = edges_tail es
edges_back k (c ∷ cs) (n ∷ ns) es = edges_back (k + 1) cs ns es

-- the lines behind the first two
tail_shape : (p : Profile) → lines_of p
    ≡ Head ∷ Distance p.distance ∷ (context_lines 0 p.contexts p.graph.nodes
    ++ (map Joined p.graph.edges ++ (End ∷ [])))
tail_shape p = ap (λ ls. Head ∷ Distance p.distance ∷ ls)
    (append_assoc (context_lines 0 p.contexts p.graph.nodes) (map Joined p.graph.edges) (End ∷ []))

contexts_of : (p : Profile) → IsProfile p → contexts_in (lines_of p) ≡ p.contexts
contexts_of p is = ap contexts_in (tail_shape p) ∙ contexts_back 0 p.contexts p.graph.nodes p.graph.edges is.sizes

nodes_of : (p : Profile) → IsProfile p → nodes_in (lines_of p) ≡ p.graph.nodes
nodes_of p is = ap nodes_in (tail_shape p) ∙ nodes_back 0 p.contexts p.graph.nodes p.graph.edges is.sizes

edges_of : (p : Profile) → edges_in (lines_of p) ≡ p.graph.edges
edges_of p = ap edges_in (tail_shape p) ∙ edges_back 0 p.contexts p.graph.nodes p.graph.edges

-- profiles with the same lines are one profile
one_profile : (p q : Profile) → IsProfile p → IsProfile q → lines_of p ≡ lines_of q → p ≡ q
one_profile p q p_is q_is same =
    let tails : Distance p.distance ≡ Distance q.distance = cc in
    let distance : p.distance ≡ q.distance = cc in
    let contexts : p.contexts ≡ q.contexts = sym (contexts_of p p_is) ∙ (ap contexts_in same ∙ contexts_of q q_is) in
    let nodes : p.graph.nodes ≡ q.graph.nodes = sym (nodes_of p p_is) ∙ (ap nodes_in same ∙ nodes_of q q_is) in
    let edges : p.graph.edges ≡ q.graph.edges = sym (edges_of p) ∙ (ap edges_in same ∙ edges_of q) in
    ap (λ (d : ℕ). record p { distance = d }) distance
    ∙ (ap (λ (cs : List (List ℕ)). record p { distance = q.distance; contexts = cs }) contexts
    ∙ (ap (λ (ns : List Node). record q { graph = record p.graph { nodes = ns } }) nodes
    ∙ ap (λ (es : List Edge). record q { graph = record q.graph { edges = es } }) edges))

-- profiles that have one text are one profile
pub one_text : (laws : TextLaws) (p q : Profile) → IsProfile p → IsProfile q → profile_text p ≡ profile_text q → p ≡ q
one_text laws p q p_is q_is same =
    let ends : text_of (lines_of p) ++ [] ≡ text_of (lines_of q) ++ [] = ap (λ t. t ++ []) same in
    elim (compare laws (lines_of p) (lines_of q) [] [] (profile_fits p p_is) (profile_fits q q_is) ends) [
      | inl longer ↦
          (let none = none_left longer.more [] longer.texts in
          one_profile p q p_is q_is (rw (longer.lines, none.0) (sym (append-nil (lines_of p)))))
      | inr longer ↦
          (let none = none_left longer.more [] longer.texts in
          sym (one_profile q p q_is p_is (rw (longer.lines, none.0) (sym (append-nil (lines_of q))))))
    ]

-- the text of a profile is read as that profile, if memory suffices
pub only_from : (laws : TextLaws) (r : Result Profile ProfileRefusal) (text : List ℕ) (p : Profile)
    → IfOk r (λ q. IsProfile q × (text ≡ profile_text q)) → IfErr r (Refuses text)
    → IsProfile p → text ≡ profile_text p → MatchResult r (λ q. q ≡ p) (λ e. e ≡ Memory)
only_from laws (Ok q) text p found refused is text_is = one_text laws q p found.0 is (cc (found.1, text_is))
only_from laws (Err (Line n)) text p found refused is text_is = absurd (not_bad laws p text n is text_is refused)
only_from laws (Err Memory) text p found refused is text_is = refl

-- the first bad line is the answer, if memory suffices
pub line_due : (laws : TextLaws) (r : Result Profile ProfileRefusal) (text : List ℕ) (n : ℕ)
    → IfOk r (λ q. IsProfile q × (text ≡ profile_text q)) → IfErr r (Refuses text)
    → FirstBad text n → MatchResult r (λ _. ⊥) (λ e. (e ≡ Line n) ⊎ (e ≡ Memory))
line_due laws (Ok q) text n found refused bad = not_bad laws q text n found.0 found.1 bad
line_due laws (Err (Line m)) text n found refused bad = inl (ap (λ (k : ℕ). Line k) (one_bad laws text m n refused bad))
line_due laws (Err Memory) text n found refused bad = inr refl
