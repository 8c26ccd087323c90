-- What a step of the symbol machine answers and does.
use Rattle.std.specs.Prelude.{◌≡◌, ℕ, List}
use Rattle.machine_spec.specs.declared.Ending.TheVariants.{Running}
use Rattle.machine_run.specs.declared.Stepped.{Stepped}
use Rattle.machine_run.specs.declared.Stepped.TheVariants.{Went, Wrote, WantsInput, Exited, Illegal, Fault}
use Rattle.machine_run.specs.Machines.{Turned, quiet}
use Rattle.sym_spec.specs.declared.StepNote.{StepNote}
use Rattle.sym_spec.specs.SymNotes.{empty_note, note}
use Rattle.sym_machine.specs.Programs.{Program}
use Rattle.sym_machine.specs.Seen.{SymSeen, buffer_of, IsInMemory, IsStorable}

-- what the turn of a system call did to the machine alone, by the answer: a read that wants input has
-- changed nothing yet
abbrev pub Called : Stepped → List ℕ → Program → Program → Turned Program → Type 0
Called (WantsInput len) input p new t =
    (new ≡ p) × IsStorable p.file p.machine len × (p.machine.ending ≡ Running)
Called Went input p new t = t ≡ quiet input new
Called (Wrote len) input p new t =
    (t ≡ record { next = new; written = buffer_of new.machine len; left = input }) × IsInMemory new.file new.machine len
    × (new.machine.ending ≡ Running)
Called (Exited status) input p new t = t ≡ quiet input new
Called (Illegal at) input p new t = t ≡ quiet input new
Called (Fault kind at) input p new t = t ≡ quiet input new

-- the note of a step with this answer: one that faults has none
abbrev pub noted : Stepped → StepNote → StepNote
noted (Fault kind at) note = empty_note
noted Went note = note
noted (Wrote len) note = note
noted (WantsInput len) note = note
noted (Exited status) note = note
noted (Illegal at) note = note

-- the note of the last completed step: that of the turn, but at a read that waits that from before
abbrev pub note_after : Stepped → StepNote → StepNote → StepNote
note_after (WantsInput len) before now = before
note_after Went before now = now
note_after (Wrote len) before now = now
note_after (Exited status) before now = now
note_after (Illegal at) before now = now
note_after (Fault kind at) before now = now

-- the note of a step from one machine to another
abbrev pub Notes : Stepped → SymSeen → SymSeen → Type 0
Notes stepped old new =
    new.last ≡ note_after stepped old.last (note old.program.file old.program.plan old.program.machine)
