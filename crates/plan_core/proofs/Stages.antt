-- The lines that have come at a stage, and which may come next.
use Rattle.std.proofs.Common.{◌≡◌, ◌≤◌, ◌+◌, List, [], ◌∷◌, ◌++◌, length, map, Option, Some, None, suc, refl, sym}
use Rattle.std.proofs.Common.{subst, arith, append_assoc}
use Rattle.std.specs.Prelude.{count_by, MatchOption, All}
use Rattle.std.proofs.lemmas.List.{append-nil, map-append, length-append, length-map}
use Rattle.text_fields.specs.Reading.{◌>>=◌}
use Rattle.plan_core.specs.declared.types.Plan.{Plan}
use Rattle.plan_core.specs.declared.types.PlanLine.{PlanLine}
use Rattle.plan_core.specs.declared.types.Row.{Row}
use Rattle.plan_core.specs.declared.lines.TextLine.{TextLine}
use Rattle.plan_core.specs.declared.lines.TextLine.TheVariants.{Head, Size, Site, Mask, End}
use Rattle.plan_core.specs.declared.steps.Stage.{Stage}
use Rattle.plan_core.specs.declared.steps.Stage.TheVariants.{Start, Headed, Sites, Rows, Ended}
use Rattle.plan_core.specs.Plan.{lines_of, FieldsFit, SiteFits, RowFits, LineFits}
use Rattle.plan_core.specs.Grammar.{is_site, is_row, Begins, Whole}
use Rattle.plan_core.specs.Steps.{moves, added}
use Rattle.plan_core.proofs.Counts.{count-append, sites_in_sites, rows_in_sites, sites_in_rows, rows_in_rows}

-- the lines that have come, from the plan read so far
abbrev pub so_far : Stage → Plan → List TextLine
so_far Start p = []
so_far Headed p = Head ∷ []
so_far Sites p = Head ∷ Size p.area ∷ map Site p.sites
so_far Rows p = Head ∷ Size p.area ∷ (map Site p.sites ++ map Mask p.rows)
so_far Ended p = lines_of p

-- what hasn't come is empty
abbrev pub Tidy : Stage → Plan → Type 0
Tidy Start p = (p.sites ≡ []) × (p.rows ≡ [])
Tidy Headed p = (p.sites ≡ []) × (p.rows ≡ [])
Tidy Sites p = p.rows ≡ []
Tidy Rows p = Unit {0}
Tidy Ended p = Unit {0}

-- the lines after one more, and what then hasn't come
pub record Adds (l : TextLine) (stage : Stage) (p : Plan) (next : Stage) : Type 0 where
  pub lines : so_far next (added l p) ≡ so_far stage p ++ (l ∷ [])
  pub tidy : Tidy next (added l p)

pub adds_at : (stage : Stage) (l : TextLine) (p : Plan) → Tidy stage p
    → MatchOption (moves stage l) (Unit {0}) (Adds l stage p)
adds_at Start Head p t = record { lines = refl; tidy = t }
adds_at Headed (Size a) p t = record { lines = rw (t.0) refl; tidy = t.1 }
adds_at Sites (Site s) p t = record { lines = rw (map-append Site p.sites (s ∷ [])) refl; tidy = t }
adds_at Sites (Mask r) p t = record { lines = rw t refl; tidy = tt }
adds_at Sites End p t = record { lines = rw (t, append-nil (map Site p.sites)) refl; tidy = tt }
adds_at Rows (Mask r) p t = record { lines = rw (map-append Mask p.rows (r ∷ []), append_assoc) refl; tidy = tt }
adds_at Rows End p t = record { lines = refl; tidy = tt }
adds_at _ _ p t = tt

-- the stage after some lines
abbrev pub run : Stage → List TextLine → Option Stage
run stage [] = Some stage
run stage (l ∷ ls) = moves stage l >>= (λ next. run next ls)

run_on : (o : Option Stage) (xs ys : List TextLine)
    → ((stage : Stage) → run stage (xs ++ ys) ≡ (run stage xs >>= (λ next. run next ys)))
    → (o >>= (λ next. run next (xs ++ ys))) ≡ ((o >>= (λ next. run next xs)) >>= (λ next. run next ys))
run_on None xs ys later = refl
run_on (Some stage) xs ys later = later stage

pub run-append : (stage : Stage) (xs ys : List TextLine)
    → run stage (xs ++ ys) ≡ (run stage xs >>= (λ next. run next ys))
run-append stage [] ys = refl
run-append stage (x ∷ xs) ys = run_on (moves stage x) xs ys (λ next. run-append next xs ys)

run_sites : (ss : List PlanLine) (ls : List TextLine) → run Sites (map Site ss ++ ls) ≡ run Sites ls
run_sites [] ls = refl
run_sites (s ∷ ss) ls = run_sites ss ls

run_rows : (rs : List Row) → run Rows (map Mask rs ++ (End ∷ [])) ≡ Some Ended
run_rows [] = refl
run_rows (r ∷ rs) = run_rows rs

run_tail : (rs : List Row) → run Sites (map Mask rs ++ (End ∷ [])) ≡ Some Ended
run_tail [] = refl
run_tail (r ∷ rs) = run_rows rs

pub run_whole : (p : Plan) → run Start (lines_of p) ≡ Some Ended
run_whole p =
    let joined : map Site p.sites ++ map Mask p.rows ++ (End ∷ [])
    ≡ map Site p.sites ++ (map Mask p.rows ++ (End ∷ [])) =
    append_assoc (map Site p.sites) (map Mask p.rows) (End ∷ []) in
    rw (joined, run_sites p.sites (map Mask p.rows ++ (End ∷ []))) (run_tail p.rows)

-- a line that may not come continues no plan
pub no_plan_goes_on : (lines : List TextLine) (l : TextLine) (stage : Stage) → run Start lines ≡ Some stage
    → moves stage l ≡ None → Begins (lines ++ (l ∷ [])) → ⊥
no_plan_goes_on lines l stage ran blocked (p, more, fits, is) =
    let whole = run_whole p in
    let parts = run-append Start (lines ++ (l ∷ [])) more in
    let front = run-append Start lines (l ∷ []) in
    let none : run Start (lines ++ (l ∷ [])) ≡ None = rw (front, ran, blocked) refl in
    let all : run Start ((lines ++ (l ∷ [])) ++ more) ≡ None = rw (parts, none) refl in
    let ended : run Start ((lines ++ (l ∷ [])) ++ more) ≡ Some Ended = rw (← is) whole in
    cc

-- lines that are a whole plan have ended
pub whole_ends : (lines : List TextLine) (stage : Stage) → run Start lines ≡ Some stage → Whole lines → stage ≡ Ended
whole_ends lines stage ran (p, is) =
    let ended : run Start lines ≡ Some Ended = rw (← is) (run_whole p) in
    cc

pub ended_is_last : (l : TextLine) → moves Ended l ≡ None
ended_is_last Head = refl
ended_is_last (Size a) = refl
ended_is_last (Site s) = refl
ended_is_last (Mask r) = refl
ended_is_last End = refl

-- the lines so far begin a plan
pub begins : (stage : Stage) (p : Plan) → FieldsFit p → Begins (so_far stage p)
begins Start p fits = (p, lines_of p, fits, refl)
begins Headed p fits = (p, Size p.area ∷ (map Site p.sites ++ map Mask p.rows ++ (End ∷ [])), fits, refl)
begins Sites p fits = (p, map Mask p.rows ++ (End ∷ []), fits, rw append_assoc refl)
begins Rows p fits = (p, End ∷ [], fits, refl)
begins Ended p fits = (p, [], fits, sym (append-nil (lines_of p)))

-- how many sites and rows have come
pub counts : (stage : Stage) (p : Plan) → Tidy stage p
    → (count_by is_site (so_far stage p) ≡ length p.sites) × (count_by is_row (so_far stage p) ≡ length p.rows)
counts Start p t = (rw (t.0) refl, rw (t.1) refl)
counts Headed p t = (rw (t.0) refl, rw (t.1) refl)
counts Sites p t = (
  omega (arith, count-append is_site (Head ∷ Size p.area ∷ []) (map Site p.sites), sites_in_sites p.sites),
  rw t (omega (arith, count-append is_row (Head ∷ Size p.area ∷ []) (map Site p.sites), rows_in_sites p.sites)),
)
counts Rows p t = (
  omega (
    arith,
    count-append is_site (Head ∷ Size p.area ∷ []) (map Site p.sites ++ map Mask p.rows),
    count-append is_site (map Site p.sites) (map Mask p.rows),
    sites_in_sites p.sites,
    sites_in_rows p.rows,
  ),
  omega (
    arith,
    count-append is_row (Head ∷ Size p.area ∷ []) (map Site p.sites ++ map Mask p.rows),
    count-append is_row (map Site p.sites) (map Mask p.rows),
    rows_in_sites p.sites,
    rows_in_rows p.rows,
  ),
)
counts Ended p t = (
  omega (
    arith,
    count-append is_site (Head ∷ Size p.area ∷ []) (map Site p.sites ++ map Mask p.rows ++ (End ∷ [])),
    count-append is_site (map Site p.sites ++ map Mask p.rows) (End ∷ []),
    count-append is_site (map Site p.sites) (map Mask p.rows),
    sites_in_sites p.sites,
    sites_in_rows p.rows,
  ),
  omega (
    arith,
    count-append is_row (Head ∷ Size p.area ∷ []) (map Site p.sites ++ map Mask p.rows ++ (End ∷ [])),
    count-append is_row (map Site p.sites ++ map Mask p.rows) (End ∷ []),
    count-append is_row (map Site p.sites) (map Mask p.rows),
    rows_in_sites p.sites,
    rows_in_rows p.rows,
  ),
)

-- at most this many lines have come
pub few_lines : (stage : Stage) (p : Plan) → length (so_far stage p) ≤ length p.sites + length p.rows + 3
few_lines Start p = omega arith
few_lines Headed p = omega arith
few_lines Sites p = omega (arith, length-map p.sites Site)
few_lines Rows p = omega (
  arith,
  length-append (map Site p.sites) (map Mask p.rows),
  length-map p.sites Site,
  length-map p.rows Mask,
)
few_lines Ended p = omega (
  arith,
  length-append (map Site p.sites ++ map Mask p.rows) (End ∷ []),
  length-append (map Site p.sites) (map Mask p.rows),
  length-map p.sites Site,
  length-map p.rows Mask,
)

-- lines that fit, one by one
abbrev pub LinesFit : List TextLine → Type 0
LinesFit [] = Unit {0}
LinesFit (l ∷ ls) = LineFits l × LinesFit ls

pub fit-append : (xs ys : List TextLine) → LinesFit xs → LinesFit ys → LinesFit (xs ++ ys)
fit-append [] ys xs_fit ys_fit = ys_fit
fit-append (x ∷ xs) ys xs_fit ys_fit = (xs_fit.0, fit-append xs ys xs_fit.1 ys_fit)

pub front_fits : (xs ys : List TextLine) → LinesFit (xs ++ ys) → LinesFit xs
front_fits [] ys fit = tt
front_fits (x ∷ xs) ys fit = (fit.0, front_fits xs ys fit.1)

pub back_fits : (xs ys : List TextLine) → LinesFit (xs ++ ys) → LinesFit ys
back_fits [] ys fit = fit
back_fits (x ∷ xs) ys fit = back_fits xs ys fit.1

sites_fit : (ss : List PlanLine) → All SiteFits ss → LinesFit (map Site ss)
sites_fit [] fit = tt
sites_fit (s ∷ ss) fit = (fit 0 s (omega arith), sites_fit ss (λ k d below. fit (suc k) d (omega arith)))

rows_fit : (rs : List Row) → All RowFits rs → LinesFit (map Mask rs)
rows_fit [] fit = tt
rows_fit (r ∷ rs) fit = (fit 0 r (omega arith), rows_fit rs (λ k d below. fit (suc k) d (omega arith)))

-- the lines of a plan whose fields fit
pub plan_fits : (p : Plan) → FieldsFit p → LinesFit (lines_of p)
plan_fits p fits = (
  tt,
  (
    fits.area,
    fit-append (map Site p.sites ++ map Mask p.rows) (End ∷ [])
        (fit-append (map Site p.sites) (map Mask p.rows) (sites_fit p.sites fits.sites) (rows_fit p.rows fits.rows))
        (tt, tt),
  ),
)

-- lines that begin a plan fit
pub begun_fits : (lines : List TextLine) → Begins lines → LinesFit lines
begun_fits lines (p, more, fits, is) =
    let P : List TextLine → Type 0 = LinesFit in
    front_fits lines more (subst P is (plan_fits p fits))
