-- What contracts see of a symbol machine between two steps.
use Rattle.std.specs.Prelude.{◌≡◌, ℕ, ◌+◌, ◌≤◌, List, [], true, Option, Some, None, MatchOption, is_some, option_map}
use Rattle.std.specs.Prelude.{option_and_then, unwrap_or, length}
use Rattle.machine_spec.specs.declared.Ending.TheVariants.{Running}
use Rattle.machine_run.specs.declared.pause.Pause.{Pause}
use Rattle.machine_run.specs.declared.pause.Pause.TheVariants as pause
use Rattle.machine_run.specs.Machines.{Wait, Seen}
use Rattle.machine_run.specs.Steps.{waits_of}
use Rattle.sym_value.specs.declared.Value.{Value}
use Rattle.sym_cells.specs.Buffers.{is_within, taken}
use Rattle.sym_spec.specs.declared.StepNote.{StepNote}
use Rattle.sym_spec.specs.Plain.{is_plain, is_plain_store}
use Rattle.sym_spec.specs.SymMachine.{SymMachine, value_of}
use Rattle.sym_spec.specs.SymCalls.{answers, pointer_in, buffer_in}
use Rattle.sym_spec.specs.SymNotes.{empty_note, access_to}
use Rattle.sym_machine.specs.Programs.{Program}
use Rattle.sym_machine.specs.Reached.{behind_by}
use Rattle.sym_machine.specs.Rules.{put_at}

-- the program, whether it waits at a read, the bytes that its last step wrote, and the note of its last
-- completed step
pub record SymSeen : Type 0 where
  pub program : Program
  pub waits : Option Wait
  pub written : List ℕ
  pub last : StepNote

-- what a run sees of it
abbrev pub seen_by_run : SymSeen → Seen Program
seen_by_run s = record { machine = s.program; waits = s.waits; written = s.written }

-- it doesn't wait, and its last step wrote these bytes
abbrev pub between : Program → List ℕ → StepNote → SymSeen
between p written last = record { program = p; waits = None; written = written; last = last }

-- the n bytes of the buffer at a1
abbrev pub buffer_of : SymMachine → ℕ → List ℕ
buffer_of m n = unwrap_or (option_and_then (taken m.memory n) (buffer_in n (value_of m 11))) []

-- they can be reached and are known
pub record IsInMemory (file : List ℕ) (m : SymMachine) (n : ℕ) : Type 0 where
  pub start : Value
  pub starts : buffer_in n (value_of m 11) ≡ Some start
  pub within : is_within (is_plain file) m.memory n start ≡ true
  pub known : is_some (taken m.memory n start) ≡ true

-- the n bytes of the buffer at a1 can be stored to
pub record IsStorable (file : List ℕ) (m : SymMachine) (n : ℕ) : Type 0 where
  pub start : Value
  pub starts : pointer_in (value_of m 11) ≡ Some start
  pub within : is_within (is_plain_store file) m.memory n start ≡ true

-- what is seen of a machine that stands so
abbrev pub written_of : Pause → SymMachine → List ℕ
written_of pause.Nothing m = []
written_of (pause.Output len) m = buffer_of m len
written_of (pause.Input len fed) m = []

abbrev pub seen_of : Pause → StepNote → Program → SymSeen
seen_of pause last p =
    record { program = p; waits = waits_of pause; written = written_of pause p.machine; last = last }

-- a read that waits is one of a machine that runs, its buffer can be stored to, and it was fed no more
-- than it wants; bytes that were written are in memory
abbrev pub IsPaused : Pause → Program → Type 0
IsPaused pause.Nothing p = Unit {0}
IsPaused (pause.Output len) p = IsInMemory p.file p.machine len
IsPaused (pause.Input len fed) p = IsStorable p.file p.machine len × (fed ≤ len) × (p.machine.ending ≡ Running)

-- a machine whose buffer has further bytes behind the first ones
abbrev pub fed_on : List ℕ → SymMachine → ℕ → List ℕ → SymMachine
fed_on file m fed piece = record m {
  memory = put_at (is_plain_store file) piece (option_map (behind_by fed) (pointer_in (value_of m 11))) m.memory;
}

-- a machine that waits was fed a further piece
abbrev pub FedMore : SymSeen → List ℕ → SymSeen → Type 0
FedMore old piece new = MatchOption old.waits ⊥ (λ wait. new ≡ record old {
  program = record old.program { machine = fed_on old.program.file old.program.machine wait.fed piece };
  waits = Some (record { len = wait.len; fed = wait.fed + length piece });
})

-- a read is an access to its buffer, where that is in a block
abbrev pub read_note : SymMachine → ℕ → StepNote
read_note m n = record empty_note { access = access_to (value_of m 11) n }

-- a machine that waits has its answer, the number of bytes that it was fed
abbrev pub Completed : SymSeen → SymSeen → Type 0
Completed old new = MatchOption old.waits ⊥ (λ wait. new ≡ between
    (record old.program { machine = answers wait.fed old.program.machine }) []
    (read_note old.program.machine wait.len))
