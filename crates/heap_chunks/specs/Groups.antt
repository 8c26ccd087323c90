-- The tests that find the group of the bits, written out row by row.
use Rattle.std.specs.Prelude.{ℕ, ◌+◌, ◌*◌, ◌==◌, nat_lt, List, [], ◌∷◌, if◌then◌else◌}
use Rattle.std.specs.List.{list_any}
use Rattle.rv_isa.specs.declared.Op.TheVariants.{Add, And}
use Rattle.rv_isa.specs.declared.Cond.TheVariants.{Eq}
use Rattle.plan_core.specs.declared.types.Row.{Row}
use Rattle.frag_code.specs.Fragments.{Fragment, Set, Compute, Imm, Seq, If}

-- x30 is 0 exactly where a mask is in the bits; x13 is the bits' complement
abbrev pub mask_test : (mask : ℕ) → Fragment
mask_test mask = if nat_lt mask 2048 then Imm And 30 13 mask else Seq (Set 30 mask) (Compute And 30 30 13)

-- x14 becomes the address of the group's word, or the word for none (x31); x12 is where the tables are
abbrev pub row_tests : List Row → Fragment
row_tests [] = Compute Add 14 31 0
row_tests (row ∷ rows) = Seq (mask_test row.mask) (If Eq 30 0 (Imm Add 14 12 (64 + 4 * row.group)) (row_tests rows))

-- where no mask is 0, no row is tested without bits; x5 is the bits
abbrev pub group_tests : List Row → Fragment
group_tests rows =
    if list_any (λ row. row.mask == 0) rows then row_tests rows else If Eq 5 0 (Compute Add 14 31 0)
    (row_tests rows)
