-- Which addresses are plain and which can be stored to, by the parts of the address space that are so.
use Rattle.std.specs.Prelude.{ℕ, ◌+◌, List, Bool, true, ◌&&◌, not, nat_le, nat_lt, map}
use Rattle.std.specs.List.{list_any}
use Rattle.sym_cells.specs.Memory.{Span}
use Rattle.sym_memory.specs.declared.parts.PlainPart.{PlainPart}
use Rattle.sym_memory.specs.declared.parts.Access.{Access}
use Rattle.sym_memory.specs.declared.parts.Access.TheVariants.{Load, Store}
use Rattle.sym_memory.specs.declared.spans.PlainSpan.{PlainSpan}

-- what a part allows
abbrev pub allows : Access → PlainPart → Bool
allows Load p = true
allows Store p = p.writable

abbrev pub has_byte : ℕ → PlainPart → Bool
has_byte a p = nat_le p.start a && nat_lt a p.end

-- the part has the address and allows the access
abbrev pub gives : Access → ℕ → PlainPart → Bool
gives access a p = allows access p && has_byte a p

-- the part has n addresses from one on and allows the access
abbrev pub gives_all : Access → (a n : ℕ) → PlainPart → Bool
gives_all access a n p = allows access p && (nat_le p.start a && nat_le (a + n) p.end)

abbrev pub allowed : Access → List PlainPart → ℕ → Bool
allowed access parts a = list_any (gives access a) parts

abbrev pub is_plain_in : List PlainPart → ℕ → Bool
is_plain_in parts = allowed Load parts

abbrev pub is_storable_in : List PlainPart → ℕ → Bool
is_storable_in parts = allowed Store parts

-- an address before a start or from an end on
abbrev pub is_outside : (start end a : ℕ) → Bool
is_outside start end a = not (nat_le start a && nat_lt a end)

-- the span of a buffer with the number of its first cell
abbrev pub span_of : PlainSpan → Span
span_of s = record { first = s.first; cells = s.cells }

abbrev pub spans_of : List PlainSpan → List Span
spans_of spans = map span_of spans
