-- System calls and jumps of the symbol machine on single states: which fault comes first, what buffers in
-- blocks do, and which jumps go through a return address.
use Rattle.std.proofs.Common.{◌≡◌, refl}
use Rattle.std.specs.Prelude.{⊤, [], ◌∷◌, Option, Some, None, replicate, slice_set}
use Rattle.rv_isa.specs.declared.Instr.TheVariants.{Jalr}
use Rattle.rv_isa.specs.declared.Width.TheVariants.{ByteU, Word}
use Rattle.machine_spec.specs.declared.Ending.TheVariants.{Running, Fault}
use Rattle.machine_spec.specs.declared.FaultKind.TheVariants.{F1, F3, F4}
use Rattle.machine_spec.specs.Calls.{bad_descriptor}
use Rattle.sym_value.specs.declared.Value.{Value}
use Rattle.sym_value.specs.declared.Value.TheVariants.{Num, Ptr, Ret, Part, Unset}
use Rattle.sym_value.specs.declared.Whole.TheVariants.{Ret as WholeRet}
use Rattle.sym_cells.specs.Memory.{Memory, granted, dropped, loaded, stored}
use Rattle.sym_spec.specs.Plain.{is_plain, is_plain_store}
use Rattle.sym_spec.specs.SymMachine.{SymMachine, value_of}
use Rattle.sym_spec.specs.SymCalls.{SymTurn, calls}
use Rattle.sym_spec.specs.SymTurns.{acts}
use Rattle.machine_examples.proofs.Files.{p3}
use Rattle.place_spec.specs.Layout.{first_layout}
use Rattle.machine_examples.proofs.Setup.{small_start, empty_area, empty_plan}
use Rattle.machine_examples.proofs.SymRuns.{sym_run_opened}

unfoldable call_opened : ⊤
unfolding sym_run_opened granted dropped
call_opened = tt

-- memory with a block of 16 zero bytes of which byte 3 is then a part of a return address
abbrev part : Value
part = Part (WholeRet 0x10104) 1

abbrev otherwise_same : Memory → Option Memory → Memory
otherwise_same m (Some n) = n
otherwise_same m None = m

abbrev with_part : Memory → Memory
with_part m = otherwise_same m (stored (is_plain_store p3) m ByteU (Ptr 0 3) part)

-- a machine with these values in a7, a0, a1 and a2
abbrev asks : Memory → Value → Value → Value → Value → SymMachine
asks memory number first buffer count = record {
  memory = memory;
  layout = first_layout empty_area;
  at = 0x16090 ∷ [];
  registers = slice_set (slice_set (slice_set (slice_set (replicate 32 (Num 0)) 10 first) 11 buffer) 12 count) 17
      number;
  pc = 0x10100;
  bits = 0;
  ending = Running;
}

abbrev block : Memory
block = granted 1 (small_start p3)

abbrev writes : Value → Value → SymTurn
writes buffer count = calls p3 [] (asks (with_part block) (Num 64) (Num 1) buffer count)

-- an undecided count comes before a buffer that can't be reached, and that before an unknown byte
pub count_before_buffer : (writes (Num 0) Unset).next.ending ≡ Fault F4 0x10100
unfolding call_opened
count_before_buffer = refl

pub buffer_before_bytes : (writes (Ptr 0 0) (Num 17)).next.ending ≡ Fault F1 0x10100
unfolding call_opened
buffer_before_bytes = refl

-- a part isn't written, and the bytes before it are
pub part_is_not_written : (writes (Ptr 0 0) (Num 4)).next.ending ≡ Fault F4 0x10100
unfolding call_opened
part_is_not_written = refl

pub bytes_are_written : (writes (Ptr 0 0) (Num 3)).written ≡ 0 ∷ 0 ∷ 0 ∷ []
unfolding call_opened
bytes_are_written = refl

-- a buffer that is no number and no pointer is undecided, where it is used
pub no_buffer : (writes (Ret 0x10104) (Num 1)).next.ending ≡ Fault F4 0x10100
unfolding call_opened
no_buffer = refl

pub unused_buffer : (writes (Ret 0x10104) (Num 0)).next.ending ≡ Running
unfolding call_opened
unused_buffer = refl

-- a bad descriptor is answered whatever the count is
pub bad_descriptor_first : value_of (calls p3 [] (asks block (Num 64) (Num 5) Unset Unset)).next 10 ≡ Num bad_descriptor
unfolding call_opened
bad_descriptor_first = refl

-- a read fills a block as far as the input goes, but wants room for all that was asked for
abbrev reads : Memory → Value → Value → SymTurn
reads memory buffer count = calls p3 (7 ∷ 8 ∷ []) (asks memory (Num 63) (Num 0) buffer count)

pub read_answers : value_of (reads block (Ptr 0 4) (Num 12)).next 10 ≡ Num 2
unfolding call_opened
read_answers = refl

pub read_fills : loaded (is_plain p3) (reads block (Ptr 0 4) (Num 12)).next.memory Word (Ptr 0 4) ≡ Some (Num 0x807)
unfolding call_opened
read_fills = refl

pub read_wants_room : (reads block (Ptr 0 4) (Num 13)).next.ending ≡ Fault F1 0x10100
unfolding call_opened
read_wants_room = refl

pub dead_block : (reads (dropped 0 block) (Ptr 0 4) (Num 1)).next.ending ≡ Fault F1 0x10100
unfolding call_opened
dead_block = refl

-- a machine with a return address in x5
abbrev returns : SymMachine
returns = record {
  memory = block;
  layout = first_layout empty_area;
  at = 0x16090 ∷ [];
  registers = slice_set (replicate 32 (Num 0)) 5 (Ret 0x10104);
  pc = 0x10110;
  bits = 0;
  ending = Running;
}

-- only a jump to the register itself that links nothing goes back, and leaves ra unset
pub goes_back_pc : (acts p3 empty_plan (Jalr 0 5 0) returns).pc ≡ 0x10104
unfolding call_opened
goes_back_pc = refl

pub goes_back_ra : value_of (acts p3 empty_plan (Jalr 0 5 0) returns) 1 ≡ Unset
unfolding call_opened
goes_back_ra = refl

pub offset_faults : (acts p3 empty_plan (Jalr 0 5 4) returns).ending ≡ Fault F3 0x10110
unfolding call_opened
offset_faults = refl

pub link_faults : (acts p3 empty_plan (Jalr 1 5 0) returns).ending ≡ Fault F3 0x10110
unfolding call_opened
link_faults = refl
