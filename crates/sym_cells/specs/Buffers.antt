-- The buffers of system calls: the n bytes from a number or a pointer on. A write takes them where each
-- is known; a read stores the bytes of the input there, one after the other.
use Rattle.std.specs.Prelude.{ℕ, zero, suc, ◌+◌, List, [], ◌∷◌, Bool, false, Option, Some, None, option_map}
use Rattle.std.specs.Prelude.{option_and_then, if◌then◌else◌, slice_get}
use Rattle.rv_isa.specs.declared.Width.TheVariants.{ByteU}
use Rattle.machine_spec.specs.Memory.{all_from}
use Rattle.sym_value.specs.declared.Value.{Value}
use Rattle.sym_value.specs.declared.Value.TheVariants.{Num, Ptr}
use Rattle.sym_cells.specs.Cells.{Cells, cell_in, mark_at}
use Rattle.sym_cells.specs.Memory.{Block, Memory, cell_at, is_inside, number_in, stored}

-- all n bytes from a value on can be reached: those of plain memory that pass, or those of one living block
abbrev pub is_inside_one : ℕ → ℕ → Option Block → Bool
is_inside_one o n (Some k) = is_inside k o n
is_inside_one o n None = false

unfoldable pub is_within : (ℕ → Bool) → Memory → ℕ → Value → Bool
is_within passes m n (Num a) = all_from passes a n
is_within passes m n (Ptr b o) = is_inside_one o n (slice_get m.blocks b)
is_within passes m n p = false

-- the n bytes of some cells from an offset on; none where one of them isn't known
abbrev pub numbers_from : Cells → ℕ → ℕ → Option (List ℕ)
numbers_from cells o zero = Some []
numbers_from cells o (suc n) =
    option_and_then (λ b. option_map (λ bs. b ∷ bs) (numbers_from cells (o + 1) n)) (number_in (mark_at cells o))

abbrev pub numbers_in : ℕ → ℕ → Option Block → Option (List ℕ)
numbers_in o n (Some k) = numbers_from (cell_in k.cells) o n
numbers_in o n None = None

-- the bytes that a write of n bytes from a value on takes
unfoldable pub taken : Memory → ℕ → Value → Option (List ℕ)
taken m n (Num a) = numbers_from (cell_at m.plain) a n
taken m n (Ptr b o) = numbers_in o n (slice_get m.blocks b)
taken m n p = None

-- the byte behind the one that a value reaches
abbrev pub next_byte : Value → Value
next_byte (Num a) = Num (a + 1)
next_byte (Ptr b o) = Ptr b (o + 1)
next_byte p = p

-- memory after some bytes are stored from a value on
abbrev pub stored_each : (ℕ → Bool) → List ℕ → Value → Memory → Option Memory
stored_each storable [] p m = Some m
stored_each storable (b ∷ bs) p m =
    option_and_then (stored_each storable bs (next_byte p)) (stored storable m ByteU p (Num b))

-- memory after a read of these bytes into a buffer of n bytes; none where not all n can be stored to
unfoldable pub filled : (ℕ → Bool) → Memory → ℕ → List ℕ → Value → Option Memory
filled storable m n bs p = if is_within storable m n p then stored_each storable bs p m else None
