-- A text is of one plan, and has one answer.
use Rattle.std.proofs.Common.{◌≡◌, ℕ, List, [], ◌∷◌, ◌++◌, length, map, refl, ap, subst, sym, ◌∙◌, arith, append_assoc}
use Rattle.std.proofs.Common.{◌⊎◌, inl, inr}
use Rattle.std.specs.Prelude.{MatchResult, IfOk, IfErr, Result, Ok, Err}
use Rattle.std.proofs.lemmas.List.{append-nil, length_push}
use Rattle.std.proofs.lemmas.Grind.{flat_map-append}
use Rattle.plan_core.specs.declared.types.Plan.{Plan}
use Rattle.plan_core.specs.declared.types.PlanLine.{PlanLine}
use Rattle.plan_core.specs.declared.types.Row.{Row}
use Rattle.plan_core.specs.declared.types.Area.{Area}
use Rattle.plan_core.specs.declared.lines.TextLine.{TextLine}
use Rattle.plan_core.specs.declared.lines.TextLine.TheVariants.{Head, Size, Site, Mask, End}
use Rattle.plan_core.specs.declared.refusals.PlanRefusal.{PlanRefusal}
use Rattle.plan_core.specs.declared.refusals.PlanRefusal.TheVariants.{Line, TooMany, Memory}
use Rattle.plan_core.specs.Plan.{line_text, text_of, lines_of, plan_text, IsPlan}
use Rattle.plan_core.specs.Grammar.{is_site, is_row, Begins, Within, FirstBad, FirstOver, Refuses}
use Rattle.plan_core.proofs.LineLaws.{ReadsLines, one_line, line_some}
use Rattle.plan_core.proofs.Counts.{count-append, sites_in_sites, rows_in_sites, sites_in_rows, rows_in_rows}
use Rattle.plan_core.proofs.Counts.{front_within}
use Rattle.plan_core.proofs.Stages.{LinesFit, begun_fits, plan_fits}

-- b goes on after a, and so does the text before y
record Longer (a b : List TextLine) (x y : List ℕ) : Type 0 where
  more : List TextLine
  lines : b ≡ a ++ more
  texts : x ≡ text_of more ++ y

longer_by : (l : TextLine) (a b : List TextLine) (m : TextLine) (x y : List ℕ) → l ≡ m → Longer a b x y
    → Longer (l ∷ a) (m ∷ b) x y
longer_by l a b m x y same longer = record { more = longer.more; lines = cc (same, longer.lines); texts = longer.texts }

-- of two lists of lines at one place, one goes on after the other
compare : ReadsLines → (a b : List TextLine) (x y : List ℕ) → LinesFit a → LinesFit b → text_of a ++ x ≡ text_of b ++ y
    → Longer a b x y ⊎ Longer b a y x
compare reads [] b x y a_fit b_fit same = inl (record { more = b; lines = refl; texts = same })
compare reads (l ∷ a) [] x y a_fit b_fit same = inr (record { more = l ∷ a; lines = refl; texts = sym same })
compare reads (l ∷ a) (m ∷ b) x y a_fit b_fit same =
    let left = append_assoc (line_text l) (text_of a) x in
    let right = append_assoc (line_text m) (text_of b) y in
    let apart : line_text l ++ (text_of a ++ x) ≡ line_text m ++ (text_of b ++ y) = cc in
    let one = one_line reads l m (text_of a ++ x) (text_of b ++ y) a_fit.0 b_fit.0 apart in
    elim (compare reads a b x y a_fit.1 b_fit.1 one.1) [
      | inl longer ↦ inl (longer_by l a b m x y one.0 longer)
      | inr shorter ↦ inr
          (longer_by m b a l y x (sym one.0) shorter)
    ]

begins_front : (xs ys : List TextLine) → Begins (xs ++ ys) → Begins xs
begins_front xs ys (p, more, fits, is) = (p, ys ++ more, fits, rw (is, append_assoc) refl)

-- admitted lines that go on where no line goes on are none
ends_at : (lines : List TextLine) (rest : List ℕ) (more : List TextLine) (y : List ℕ)
    → ((l : TextLine) (after : List ℕ) → rest ≡ line_text l ++ after → Begins (lines ++ (l ∷ [])) → ⊥)
    → Begins (lines ++ more) → rest ≡ text_of more ++ y → more ≡ []
ends_at lines rest [] y none goes text = refl
ends_at lines rest (l ∷ more) y none goes text =
    let apart : rest ≡ line_text l ++ (text_of more ++ y) = rw text (append_assoc (line_text l) (text_of more) y) in
    let joined : (lines ++ (l ∷ [])) ++ more ≡ lines ++ (l ∷ more) = append_assoc lines (l ∷ []) more in
    let P : List TextLine → Type 0 = Begins in
    absurd (none l (text_of more ++ y) apart (begins_front (lines ++ (l ∷ [])) more (subst P (sym joined) goes)))

-- no admitted lines go on after those before the first bad line
no_longer : (text : List ℕ) (n : ℕ) (bad : FirstBad text n) (b : List TextLine) (y : List ℕ) → Begins b
    → Longer bad.lines b bad.rest y → b ≡ bad.lines
no_longer text n bad b y goes longer =
    let P : List TextLine → Type 0 = Begins in
    let none : longer.more ≡ [] = ends_at bad.lines bad.rest longer.more y bad.no_next (subst P longer.lines goes)
    longer.texts in
    rw (longer.lines, none) (append-nil bad.lines)

over_front : (text : List ℕ) (n : ℕ) (o : FirstOver text n) → text ≡ text_of (o.lines ++ (o.over ∷ [])) ++ o.rest
over_front text n o =
    let parts = flat_map-append line_text o.lines (o.over ∷ []) in
    let single : line_text o.over ++ [] ≡ line_text o.over = append-nil (line_text o.over) in
    rw (parts, single, append_assoc) o.front

-- a text has one first bad line
pub one_bad : ReadsLines → (text : List ℕ) (n m : ℕ) → FirstBad text n → FirstBad text m → n ≡ m
one_bad reads text n m one other =
    let same : text_of one.lines ++ one.rest ≡ text_of other.lines ++ other.rest = cc (one.front, other.front) in
    elim (compare reads one.lines other.lines one.rest other.rest (begun_fits one.lines one.admitted)
    (begun_fits other.lines other.admitted) same) [
      | inl longer ↦ cc (no_longer text n one other.lines other.rest other.admitted longer, one.number, other.number)
      | inr longer ↦ cc (no_longer text m other one.lines one.rest one.admitted longer, one.number, other.number)
    ]

-- a text with a bad line first has none that is one too many
pub not_both : ReadsLines → (text : List ℕ) (n m : ℕ) → FirstBad text n → FirstOver text m → ⊥
not_both reads text n m bad over =
    let b : List TextLine = over.lines ++ (over.over ∷ []) in
    let same : text_of bad.lines ++ bad.rest ≡ text_of b ++ over.rest = cc (bad.front, over_front text m over) in
    let P : List TextLine → Type 0 = Within in
    elim (compare reads bad.lines b bad.rest over.rest (begun_fits bad.lines bad.admitted) (begun_fits b over.admitted)
    same) [
      | inl longer ↦ over.too_many (subst P (sym (no_longer text n bad b over.rest over.admitted longer)) bad.within)
      | inr shorter ↦ over.too_many (front_within b shorter.more (subst P shorter.lines bad.within))
    ]

-- a list that ends one later than another's front has that front
front_of : (xs ys : List TextLine) (x y : TextLine) (more : List TextLine) → xs ++ (x ∷ []) ≡ ys ++ (y ∷ more)
    → (zs : List TextLine) × (xs ≡ ys ++ zs)
front_of xs [] x y more same = (xs, refl)
front_of [] (z ∷ []) x y more same = absurd cc
front_of [] (z ∷ w ∷ ys) x y more same = absurd cc
front_of (v ∷ xs) (z ∷ ys) x y more same =
    let heads : v ≡ z = cc in
    let tails : xs ++ (x ∷ []) ≡ ys ++ (y ∷ more) = cc in
    let (zs, is) = front_of xs ys x y more tails in
    (zs, cc)

-- lines that go on after one too many are one too many before
over_by : (text : List ℕ) (n m : ℕ) (one : FirstOver text n) (other : FirstOver text m) (more : List TextLine)
    → other.lines ++ (other.over ∷ []) ≡ (one.lines ++ (one.over ∷ [])) ++ more → n ≡ m
over_by text n m one other [] same =
    let plain : other.lines ++ (other.over ∷ []) ≡ one.lines ++ (one.over ∷ []) =
    rw (append-nil (one.lines ++ (one.over ∷ []))) at same in
    let lengths : length (other.lines ++ (other.over ∷ [])) ≡ length (one.lines ++ (one.over ∷ [])) = ap length plain in
    omega (arith, length_push other.lines other.over, length_push one.lines one.over, lengths, one.number, other.number)
over_by text n m one other (l ∷ more) same =
    let (zs, is) = front_of other.lines (one.lines ++ (one.over ∷ [])) other.over l more same in
    let P : List TextLine → Type 0 = Within in
    absurd (one.too_many (front_within (one.lines ++ (one.over ∷ [])) zs (subst P is other.within)))

-- a text has one line that is the first too many
pub one_over : ReadsLines → (text : List ℕ) (n m : ℕ) → FirstOver text n → FirstOver text m → n ≡ m
one_over reads text n m one other =
    let a : List TextLine = one.lines ++ (one.over ∷ []) in
    let b : List TextLine = other.lines ++ (other.over ∷ []) in
    let same : text_of a ++ one.rest ≡ text_of b ++ other.rest = cc (over_front text n one, over_front text m other) in
    elim (compare reads a b one.rest other.rest (begun_fits a one.admitted) (begun_fits b other.admitted) same) [
      | inl longer ↦ over_by text n m one other longer.more longer.lines
      | inr longer ↦ sym (over_by text m n other one longer.more longer.lines)
    ]

empty_apart : (c : ℕ) (line cs xs ys : List ℕ) → line ≡ c ∷ cs → [] ≡ (line ++ xs) ++ ys → ⊥
empty_apart c line cs xs ys is same = let some = rw is at same in absurd cc

-- no text is left after a whole one
none_left : (more : List TextLine) (rest : List ℕ) → [] ≡ text_of more ++ rest → (more ≡ []) × (rest ≡ [])
none_left [] rest same = (refl, sym same)
none_left (l ∷ more) rest same =
    let some = line_some l in
    absurd (empty_apart some.0 (line_text l) some.1 (text_of more) rest some.2 same)

whole_begins : (p : Plan) → IsPlan p → Begins (lines_of p)
whole_begins p is = (p, [], is.fits, sym (append-nil (lines_of p)))

whole_within : (p : Plan) → IsPlan p → Within (lines_of p)
whole_within p is = (
  omega (
    arith,
    count-append is_site (Head ∷ Size p.area ∷ []) (map Site p.sites ++ map Mask p.rows ++ (End ∷ [])),
    count-append is_site (map Site p.sites ++ map Mask p.rows) (End ∷ []),
    count-append is_site (map Site p.sites) (map Mask p.rows),
    sites_in_sites p.sites,
    sites_in_rows p.rows,
    is.few_sites,
  ),
  omega (
    arith,
    count-append is_row (Head ∷ Size p.area ∷ []) (map Site p.sites ++ map Mask p.rows ++ (End ∷ [])),
    count-append is_row (map Site p.sites ++ map Mask p.rows) (End ∷ []),
    count-append is_row (map Site p.sites) (map Mask p.rows),
    rows_in_sites p.sites,
    rows_in_rows p.rows,
    is.few_rows,
  ),
)

whole_text : (p : Plan) (text : List ℕ) → text ≡ plan_text p → text ≡ text_of (lines_of p) ++ []
whole_text p text same = rw (append-nil (plan_text p)) same

-- a plan's text has no bad line
pub not_bad : ReadsLines → (p : Plan) (text : List ℕ) (n : ℕ) → IsPlan p → text ≡ plan_text p → FirstBad text n → ⊥
not_bad reads p text n is text_is bad =
    let same : text_of bad.lines ++ bad.rest ≡ text_of (lines_of p) ++ [] = cc (bad.front, whole_text p text text_is) in
    elim (compare reads bad.lines (lines_of p) bad.rest [] (begun_fits bad.lines bad.admitted) (plan_fits p is.fits)
    same) [
      | inl longer ↦
          (let all : lines_of p ≡ bad.lines = no_longer text n bad (lines_of p) [] (whole_begins p is) longer in
          let none : longer.more ≡ [] = ends_at bad.lines bad.rest longer.more [] bad.no_next
          (let P : List TextLine → Type 0 = Begins in subst P longer.lines (whole_begins p is)) longer.texts in
          let empty : bad.rest ≡ [] = rw (longer.texts, none) refl in
          bad.unfinished empty (p, all))
      | inr shorter ↦
          (let none = none_left shorter.more bad.rest shorter.texts in
          let all : lines_of p ≡ bad.lines = rw (shorter.lines, none.0) (sym (append-nil (lines_of p))) in
          bad.unfinished none.1 (p, all))
    ]

-- a plan's text has no line too many
pub not_over : ReadsLines → (p : Plan) (text : List ℕ) (n : ℕ) → IsPlan p → text ≡ plan_text p → FirstOver text n → ⊥
not_over reads p text n is text_is over =
    let b : List TextLine = over.lines ++ (over.over ∷ []) in
    let same : text_of b ++ over.rest ≡ text_of (lines_of p) ++ [] =
    cc (over_front text n over, whole_text p text text_is) in
    let P : List TextLine → Type 0 = Within in
    elim (compare reads b (lines_of p) over.rest [] (begun_fits b over.admitted) (plan_fits p is.fits) same) [
      | inl longer ↦ over.too_many (front_within b longer.more (subst P longer.lines (whole_within p is)))
      | inr shorter ↦
          (let none = none_left shorter.more over.rest shorter.texts in
          let all : lines_of p ≡ b = rw (shorter.lines, none.0) (sym (append-nil (lines_of p))) in
          over.too_many (subst P all (whole_within p is)))
    ]

-- the parts of a plan, from its lines
abbrev sites_of : List TextLine → List PlanLine
sites_of [] = []
sites_of (Site s ∷ ls) = s ∷ sites_of ls
sites_of (_ ∷ ls) = sites_of ls

abbrev rows_of : List TextLine → List Row
rows_of [] = []
rows_of (Mask r ∷ ls) = r ∷ rows_of ls
rows_of (_ ∷ ls) = rows_of ls

sites_back : (ss : List PlanLine) (rs : List Row) → sites_of (map Site ss ++ map Mask rs ++ (End ∷ [])) ≡ ss
sites_back [] [] = refl
sites_back [] (r ∷ rs) = sites_back [] rs
sites_back (s ∷ ss) rs = ap (λ xs. s ∷ xs) (sites_back ss rs)

rows_back : (ss : List PlanLine) (rs : List Row) → rows_of (map Site ss ++ map Mask rs ++ (End ∷ [])) ≡ rs
rows_back [] [] = refl
rows_back [] (r ∷ rs) = ap (λ xs. r ∷ xs) (rows_back [] rs)
rows_back (s ∷ ss) rs = rows_back ss rs

-- plans with the same lines are one plan
one_plan : (p q : Plan) → lines_of p ≡ lines_of q → p ≡ q
one_plan p q same =
    let areas : Size p.area ≡ Size q.area = cc in
    let area : p.area ≡ q.area = cc in
    let sites : p.sites ≡ q.sites = cc (ap sites_of same, sites_back p.sites p.rows, sites_back q.sites q.rows) in
    let rows : p.rows ≡ q.rows = cc (ap rows_of same, rows_back p.sites p.rows, rows_back q.sites q.rows) in
    ap (λ (ss : List PlanLine). record p { sites = ss }) sites
    ∙ ap (λ (rs : List Row). record p { sites = q.sites; rows = rs }) rows
    ∙ ap (λ (a : Area). record q { area = a }) area

-- plans that have one text are one plan
pub one_text : ReadsLines → (p q : Plan) → IsPlan p → IsPlan q → plan_text p ≡ plan_text q → p ≡ q
one_text reads p q p_is q_is same =
    let ends : text_of (lines_of p) ++ [] ≡ text_of (lines_of q) ++ [] = ap (λ t. t ++ []) same in
    elim (compare reads (lines_of p) (lines_of q) [] [] (plan_fits p p_is.fits) (plan_fits q q_is.fits) ends) [
      | inl longer ↦
          (let none = none_left longer.more [] longer.texts in
          one_plan p q (rw (longer.lines, none.0) (sym (append-nil (lines_of p)))))
      | inr longer ↦
          (let none = none_left longer.more [] longer.texts in
          sym (one_plan q p (rw (longer.lines, none.0) (sym (append-nil (lines_of q))))))
    ]

-- the text of a plan is read as that plan, if memory suffices
pub only_from : ReadsLines → (r : Result Plan PlanRefusal) (text : List ℕ) (p : Plan)
    → IfOk r (λ q. IsPlan q × (text ≡ plan_text q)) → IfErr r (Refuses text) → IsPlan p → text ≡ plan_text p
    → MatchResult r (λ q. q ≡ p) (λ e. e ≡ Memory)
only_from reads (Ok q) text p found refused is text_is = one_text reads q p found.0 is (cc (found.1, text_is))
only_from reads (Err (Line n)) text p found refused is text_is = absurd (not_bad reads p text n is text_is refused)
only_from reads (Err (TooMany n)) text p found refused is text_is = absurd (not_over reads p text n is text_is refused)
only_from reads (Err Memory) text p found refused is text_is = refl

-- the first bad line is the answer, if memory suffices
pub line_due : ReadsLines → (r : Result Plan PlanRefusal) (text : List ℕ) (n : ℕ)
    → IfOk r (λ q. IsPlan q × (text ≡ plan_text q)) → IfErr r (Refuses text) → FirstBad text n
    → MatchResult r (λ _. ⊥) (λ e. (e ≡ Line n) ⊎ (e ≡ Memory))
line_due reads (Ok q) text n found refused bad = not_bad reads q text n found.0 found.1 bad
line_due reads (Err (Line m)) text n found refused bad =
    inl (ap (λ (k : ℕ). Line k) (one_bad reads text m n refused bad))
line_due reads (Err (TooMany m)) text n found refused bad = absurd (not_both reads text n m bad refused)
line_due reads (Err Memory) text n found refused bad = inr refl

-- the first line too many is the answer, if memory suffices
pub over_due : ReadsLines → (r : Result Plan PlanRefusal) (text : List ℕ) (n : ℕ)
    → IfOk r (λ q. IsPlan q × (text ≡ plan_text q)) → IfErr r (Refuses text) → FirstOver text n
    → MatchResult r (λ _. ⊥) (λ e. (e ≡ TooMany n) ⊎ (e ≡ Memory))
over_due reads (Ok q) text n found refused over = not_over reads q text n found.0 found.1 over
over_due reads (Err (Line m)) text n found refused over = absurd (not_both reads text m n refused over)
over_due reads (Err (TooMany m)) text n found refused over =
    inl (ap (λ (k : ℕ). TooMany k) (one_over reads text m n refused over))
over_due reads (Err Memory) text n found refused over = inr refl
