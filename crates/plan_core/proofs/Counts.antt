-- How many sites and rows some lines have.
use Rattle.std.proofs.Common.{◌≡◌, ◌+◌, Bool, cond, List, [], ◌∷◌, ◌++◌, length, map, refl, arith}
use Rattle.std.specs.Prelude.{count_by}
use Rattle.std.proofs.lemmas.List.Sums.{sum_by-append}
use Rattle.plan_core.specs.declared.types.PlanLine.{PlanLine}
use Rattle.plan_core.specs.declared.types.Row.{Row}
use Rattle.plan_core.specs.declared.lines.TextLine.{TextLine}
use Rattle.plan_core.specs.declared.lines.TextLine.TheVariants.{Site, Mask}
use Rattle.plan_core.specs.Grammar.{is_site, is_row, Within}

pub count-append : (p : TextLine → Bool) (xs ys : List TextLine) → count_by p (xs ++ ys) ≡ count_by p xs + count_by p ys
count-append p xs ys = sum_by-append (λ x. cond (p x) 1 0) xs ys

pub count-cons : (p : TextLine → Bool) (x : TextLine) (xs : List TextLine)
    → count_by p (x ∷ xs) ≡ cond (p x) 1 0 + count_by p xs
count-cons p x xs = omega (arith, count-append p (x ∷ []) xs)

pub sites_in_sites : (ss : List PlanLine) → count_by is_site (map Site ss) ≡ length ss
sites_in_sites [] = refl
sites_in_sites (s ∷ ss) = omega (arith, count-cons is_site (Site s) (map Site ss), sites_in_sites ss)

pub rows_in_sites : (ss : List PlanLine) → count_by is_row (map Site ss) ≡ 0
rows_in_sites [] = refl
rows_in_sites (s ∷ ss) = omega (arith, count-cons is_row (Site s) (map Site ss), rows_in_sites ss)

pub sites_in_rows : (rs : List Row) → count_by is_site (map Mask rs) ≡ 0
sites_in_rows [] = refl
sites_in_rows (r ∷ rs) = omega (arith, count-cons is_site (Mask r) (map Mask rs), sites_in_rows rs)

pub rows_in_rows : (rs : List Row) → count_by is_row (map Mask rs) ≡ length rs
rows_in_rows [] = refl
rows_in_rows (r ∷ rs) = omega (arith, count-cons is_row (Mask r) (map Mask rs), rows_in_rows rs)

-- the first lines of some that are within the limits are within them
pub front_within : (xs ys : List TextLine) → Within (xs ++ ys) → Within xs
front_within xs ys w =
    (omega (arith, count-append is_site xs ys, w.0), omega (arith, count-append is_row xs ys, w.1))
