-- Turns that neither read, write nor end and have an empty note.
use Rattle.std.specs.Prelude.{◌≡◌, ℕ, zero, suc, List, Bool, true, false}
use Rattle.machine_spec.specs.declared.Ending.TheVariants.{Running}
use Rattle.machine_run.specs.Machines.{quiet}
use Rattle.sym_spec.specs.SymMachine.{SymMachine}
use Rattle.sym_spec.specs.SymNotes.{empty_note, note}
use Rattle.sym_machine.specs.Programs.{Program, turn}

-- one such turn, which grants no block
pub record IsQuiet (old new : Program) : Type 0 where
  pub runs : old.machine.ending ≡ Running
  pub turns : (input : List ℕ) → turn input old ≡ quiet input new
  pub note : note old.file old.plan old.machine ≡ empty_note
  pub goes : new.machine.ending ≡ Running
  pub at : new.machine.at ≡ old.machine.at

-- it is taken, or nothing changes
abbrev pub TakesOne : Bool → Program → Program → Type 0
TakesOne true old new = IsQuiet old new
TakesOne false old new = new ≡ old

-- so many, one after another
abbrev pub GoesOn : ℕ → Program → Program → Type 0
GoesOn zero old new = new ≡ old
GoesOn (suc n) old new = (mid : Program) × GoesOn n old mid × IsQuiet mid new

-- the machine became this one, which neither ended nor named a block, or nothing changes
abbrev pub Does : Bool → SymMachine → Program → Program → Type 0
Does true next old new =
    (new ≡ record old { machine = next }) × (next.ending ≡ old.machine.ending) × (next.at ≡ old.machine.at)
Does false next old new = new ≡ old
