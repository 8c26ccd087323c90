-- The value of an operation on two values: the table, of which the first row that fits gives it. A row
-- has a function of its own, none where it doesn't fit; `apply` has them in their order.
use Rattle.std.specs.Prelude.{ℕ, ◌+◌, ◌-◌, ◌%◌, ◌^◌, ◌==◌, Bool, true, false, not, ◌&&◌, Option, Some, None, nat_le}
use Rattle.std.specs.Prelude.{bit_and, bit_or, bit_xor, if◌then◌else◌}
use Rattle.rv_isa.specs.declared.Op.{Op}
use Rattle.rv_isa.specs.declared.Op.TheVariants.{Add, Sub, Sll, Slt, Sltu, Xor, Srl, Sra, Or, And}
use Rattle.rv_isa.specs.declared.Cond.TheVariants.{Lt, Ltu}
use Rattle.rv_isa.specs.Compute.{computed}
use Rattle.sym_value.specs.declared.Value.{Value}
use Rattle.sym_value.specs.declared.Value.TheVariants.{Num, Ptr, Mix, Part, Unset}
use Rattle.sym_value.specs.Places.{Lives, is_inner, is_on, is_near, is_outer}
use Rattle.sym_value.specs.Decisions.{where_so, or_else, decide}

-- the value that a row gives an operation and its operands; none where it doesn't fit
abbrev pub Row : Type 0
Row = Op → Value → Value → Option Value

-- the value of the first row that fits
abbrev pub otherwise : Option Value → Value → Value
otherwise (Some value) rest = value
otherwise None rest = rest

-- of Or, Xor and And the operands may also stand the other way round
abbrev pub turned : Row → Row
turned row Or a b = row Or b a
turned row Xor a b = row Xor b a
turned row And a b = row And b a
turned row op a b = None

abbrev pub either_way : Row → Row
either_way row op a b = or_else (row op a b) (turned row op a b)

abbrev pub is_zero : Value → Bool
is_zero (Num w) = w == 0
is_zero a = false

-- o - p modulo 2^32
abbrev pub difference : ℕ → ℕ → ℕ
difference o p = (o + (2 ^ 32 - p)) % 2 ^ 32

-- any: Num v, Num w
abbrev pub of_numbers : Row
of_numbers op (Num v) (Num w) = Some (Num (computed op v w))
of_numbers op a b = None

-- Add, Sub, Or, Xor, Sll, Srl, Sra: any, Num 0
abbrev pub right_zero : Row
right_zero Add a b = where_so (is_zero b) a
right_zero Sub a b = where_so (is_zero b) a
right_zero Or a b = where_so (is_zero b) a
right_zero Xor a b = where_so (is_zero b) a
right_zero Sll a b = where_so (is_zero b) a
right_zero Srl a b = where_so (is_zero b) a
right_zero Sra a b = where_so (is_zero b) a
right_zero op a b = None

-- Add, Or, Xor: Num 0, any
abbrev pub left_zero : Row
left_zero Add a b = where_so (is_zero a) b
left_zero Or a b = where_so (is_zero a) b
left_zero Xor a b = where_so (is_zero a) b
left_zero op a b = None

-- Add, either way: Ptr b o, Num w
abbrev pub moved_up : Row
moved_up Add (Ptr b o) (Num w) = Some (Ptr b ((o + w) % 2 ^ 32))
moved_up Add (Num w) (Ptr b o) = Some (Ptr b ((o + w) % 2 ^ 32))
moved_up op a b = None

-- Sub: Ptr b o, Num w
abbrev pub moved_down : Row
moved_down Sub (Ptr b o) (Num w) = Some (Ptr b (difference o w))
moved_down op a b = None

-- Sub: Ptr b o, Ptr b p
abbrev pub distance : Row
distance Sub (Ptr b o) (Ptr c p) = where_so (b == c) (Num (difference o p))
distance op a b = None

-- Sub: Ptr b o inner, Ptr c p inner, another block
abbrev pub distance_of_blocks : Lives → Row
distance_of_blocks live Sub (Ptr b o) (Ptr c p) =
    where_so (not (b == c) && (is_inner live b o && is_inner live c p)) (Mix (difference o p % 16))
distance_of_blocks live op a b = None

-- Sub: Num w outer, Ptr b o on
abbrev pub outer_less_pointer : Lives → Row
outer_less_pointer live Sub (Num w) (Ptr b o) =
    where_so (is_outer live w && is_on live b o) (Mix (difference w o % 16))
outer_less_pointer live op a b = None

-- Xor: Ptr b o, Ptr b p
abbrev pub xor_in_block : Row
xor_in_block Xor (Ptr b o) (Ptr c p) = where_so (b == c) (if o == p then Num 0 else Mix (bit_xor o p % 16))
xor_in_block op a b = None

-- Xor: Ptr b o inner, Ptr c p inner, another block
abbrev pub xor_of_blocks : Lives → Row
xor_of_blocks live Xor (Ptr b o) (Ptr c p) =
    where_so (not (b == c) && (is_inner live b o && is_inner live c p)) (Mix (bit_xor o p % 16))
xor_of_blocks live op a b = None

-- Xor: Ptr b o on, Num w outer
abbrev pub xor_with_outer : Lives → Row
xor_with_outer live Xor (Ptr b o) (Num w) = where_so (is_on live b o && is_outer live w) (Mix (bit_xor o w % 16))
xor_with_outer live op a b = None

-- Or: Ptr b o near, Ptr c p
abbrev pub or_of_pointers : Lives → Row
or_of_pointers live Or (Ptr b o) (Ptr c p) = where_so (is_near live b o) (Mix (bit_or o p % 16))
or_of_pointers live op a b = None

-- Or: Ptr b o, Num w
abbrev pub or_with_number : Row
or_with_number Or (Ptr b o) (Num w) = Some (Mix (bit_or o w % 16))
or_with_number op a b = None

-- Or: Mix l, and Num w, Ptr c w or Mix w
abbrev pub or_of_mix : Row
or_of_mix Or (Mix l) (Num w) = Some (Mix (bit_or l w % 16))
or_of_mix Or (Mix l) (Ptr c w) = Some (Mix (bit_or l w % 16))
or_of_mix Or (Mix l) (Mix w) = Some (Mix (bit_or l w % 16))
or_of_mix op a b = None

-- And: Ptr b o, Num m, m at most 15
abbrev pub low_bits : Row
low_bits And (Ptr b o) (Num m) = where_so (nat_le m 15) (Num (bit_and o m))
low_bits op a b = None

-- And: Ptr b o, Num m, m at least 2^32 - 16
abbrev pub rounded_down : Row
rounded_down And (Ptr b o) (Num m) = where_so (nat_le (2 ^ 32 - 16) m) (Ptr b (bit_and o m))
rounded_down op a b = None

-- And: Mix l, Num m, m at most 15
abbrev pub low_bits_of_mix : Row
low_bits_of_mix And (Mix l) (Num m) = where_so (nat_le m 15) (Num (bit_and l m))
low_bits_of_mix op a b = None

-- And: Part s i, Num 255
abbrev pub whole_byte : Row
whole_byte And (Part s i) (Num m) = where_so (m == 255) (Part s i)
whole_byte op a b = None

-- Num 1 or 0 where the condition is decided
abbrev pub flag_of : Option Bool → Value
flag_of (Some true) = Num 1
flag_of (Some false) = Num 0
flag_of None = Unset

-- Slt, Sltu: any, any
abbrev pub compared : Lives → Row
compared live Slt a b = Some (flag_of (decide live Lt a b))
compared live Sltu a b = Some (flag_of (decide live Ltu a b))
compared live op a b = None

-- the value of an operation
unfoldable pub apply : Lives → Op → Value → Value → Value
apply live op a b =
    otherwise (of_numbers op a b)
    (otherwise (either_way right_zero op a b)
    (otherwise (either_way left_zero op a b)
    (otherwise (moved_up op a b)
    (otherwise (moved_down op a b)
    (otherwise (distance op a b)
    (otherwise (distance_of_blocks live op a b)
    (otherwise (outer_less_pointer live op a b)
    (otherwise (either_way xor_in_block op a b)
    (otherwise (either_way (xor_of_blocks live) op a b)
    (otherwise (either_way (xor_with_outer live) op a b)
    (otherwise (either_way (or_of_pointers live) op a b)
    (otherwise (either_way or_with_number op a b)
    (otherwise (either_way or_of_mix op a b)
    (otherwise (either_way low_bits op a b)
    (otherwise (either_way rounded_down op a b)
    (otherwise (either_way low_bits_of_mix op a b)
    (otherwise (either_way whole_byte op a b)
    (otherwise (compared live op a b)
    Unset))))))))))))))))))
