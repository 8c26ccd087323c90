-- Which conditions are decided of two values. `equal`, `below` and `near_order` are the table: its
-- rows in their order, of which the first that fits gives the answer. What no row fits is undecided.
use Rattle.std.specs.Prelude.{◌==◌, Bool, true, false, not, ◌&&◌, Option, Some, None, option_map, nat_lt, nat_le}
use Rattle.rv_isa.specs.declared.Cond.{Cond}
use Rattle.rv_isa.specs.declared.Cond.TheVariants.{Eq, Ne, Lt, Ge, Ltu, Geu}
use Rattle.rv_isa.specs.Compute.{is_held}
use Rattle.sym_value.specs.declared.Value.{Value}
use Rattle.sym_value.specs.declared.Value.TheVariants.{Num, Ptr, Mix}
use Rattle.sym_value.specs.Places.{Lives, is_inner, is_on, is_near, shifted, is_low, is_high, is_outer}

-- a row's answer, where its condition holds
abbrev pub where_so : {A : Type 0} → Bool → A → Option A
where_so true answer = Some answer
where_so false answer = None

-- the answer of the first row that has one
abbrev pub or_else : {A : Type 0} → Option A → Option A → Option A
or_else (Some answer) rest = Some answer
or_else None rest = rest

-- a row of the table for one condition: its answer on two values, none where it doesn't fit
abbrev pub Test : Type 0
Test = Value → Value → Option Bool

-- the operands in this order, or the other way round
abbrev pub either_way_test : Test → Test
either_way_test row a b = or_else (row a b) (row b a)

-- Eq: Ptr b o, Ptr b p
abbrev pub same_block : Test
same_block (Ptr b o) (Ptr c p) = where_so (b == c) (o == p)
same_block a b = None

-- Eq: Ptr b o inner, Ptr c p inner, another block
abbrev pub other_block : Lives → Test
other_block live (Ptr b o) (Ptr c p) = where_so (not (b == c) && (is_inner live b o && is_inner live c p)) false
other_block live a b = None

-- Eq: Ptr on, Num outer
abbrev pub apart_from_outer : Lives → Test
apart_from_outer live (Ptr b o) (Num w) = where_so (is_on live b o && is_outer live w) false
apart_from_outer live a b = None

-- Eq: Ptr near, Num 0
abbrev pub near_is_not_zero : Lives → Test
near_is_not_zero live (Ptr b o) (Num w) = where_so (is_near live b o && (w == 0)) false
near_is_not_zero live a b = None

-- Eq: Mix, Num 0
abbrev pub mix_is_not_zero : Test
mix_is_not_zero (Mix l) (Num w) = where_so (w == 0) false
mix_is_not_zero a b = None

-- the rows of Eq, each either way
abbrev pub equal : Lives → Test
equal live a b =
    or_else (either_way_test same_block a b)
    (or_else (either_way_test (other_block live) a b)
    (or_else (either_way_test (apart_from_outer live) a b)
    (or_else (either_way_test (near_is_not_zero live) a b)
    (either_way_test mix_is_not_zero a b))))

-- Ltu and Lt: Ptr b o near, Ptr b p near
abbrev pub near_order : Lives → Test
near_order live (Ptr b o) (Ptr c p) =
    where_so ((b == c) && (is_near live b o && is_near live c p)) (nat_lt (shifted o) (shifted p))
near_order live a b = None

-- Ltu: Ptr on, Num low
abbrev pub on_low : Lives → Test
on_low live (Ptr b o) (Num w) = where_so (is_on live b o && is_low live w) false
on_low live a b = None

-- Ltu: Num low, Ptr on
abbrev pub low_on : Lives → Test
low_on live (Num w) (Ptr b o) = where_so (is_low live w && is_on live b o) true
low_on live a b = None

-- Ltu: Ptr on, Num high
abbrev pub on_high : Lives → Test
on_high live (Ptr b o) (Num w) = where_so (is_on live b o && is_high w) true
on_high live a b = None

-- Ltu: Num high, Ptr on
abbrev pub high_on : Lives → Test
high_on live (Num w) (Ptr b o) = where_so (is_high w && is_on live b o) false
high_on live a b = None

-- Ltu: Ptr near or Mix, Num 0 or Num 1
abbrev pub not_below_one : Lives → Test
not_below_one live (Ptr b o) (Num w) = where_so (is_near live b o && nat_le w 1) false
not_below_one live (Mix l) (Num w) = where_so (nat_le w 1) false
not_below_one live a b = None

-- Ltu: Num 0, Ptr near or Mix
abbrev pub zero_below : Lives → Test
zero_below live (Num w) (Ptr b o) = where_so ((w == 0) && is_near live b o) true
zero_below live (Num w) (Mix l) = where_so (w == 0) true
zero_below live a b = None

-- the rows of Ltu
abbrev pub below : Lives → Test
below live a b =
    or_else (near_order live a b)
    (or_else (on_low live a b)
    (or_else (low_on live a b)
    (or_else (on_high live a b)
    (or_else (high_on live a b)
    (or_else (not_below_one live a b)
    (zero_below live a b))))))

-- Ne, Ge and Geu are the opposites of Eq, Lt and Ltu
abbrev pub decided : Lives → Cond → Test
decided live Eq a b = equal live a b
decided live Ne a b = option_map not (equal live a b)
decided live Lt a b = near_order live a b
decided live Ge a b = option_map not (near_order live a b)
decided live Ltu a b = below live a b
decided live Geu a b = option_map not (below live a b)

-- whether a condition holds of two values, where that is decided; of two numbers it always is
unfoldable pub decide : Lives → Cond → Test
decide live cond (Num v) (Num w) = Some (is_held cond v w)
decide live cond a b = decided live cond a b
