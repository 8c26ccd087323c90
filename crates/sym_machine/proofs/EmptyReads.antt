-- Reads that need no input.
use Rattle.std.proofs.Common.{◌≡◌, ℕ, List, true, false, refl, sym, subst}
use Rattle.std.specs.Prelude.{Some}
use Rattle.machine_spec.specs.declared.FaultKind.TheVariants.{F1}
use Rattle.sym_value.specs.declared.Value.{Value}
use Rattle.sym_cells.specs.Buffers.{is_within, filled}
use Rattle.sym_spec.specs.Plain.{is_plain_store}
use Rattle.sym_spec.specs.SymMachine.{SymMachine, faults}
use Rattle.sym_spec.specs.SymCalls.{reads_to, quiet, answers}

-- one into a buffer that can't be stored to faults
pub read_refused : (file input : List ℕ) (n : ℕ) (p : Value) (m : SymMachine)
    → is_within (is_plain_store file) m.memory n p ≡ false
    → reads_to file input n (Some p) m ≡ quiet input (faults F1 m)
unfolding filled
read_refused file input n p m e = rw e refl

-- one of no bytes answers 0
pub read_nothing : (file input : List ℕ) (n : ℕ) (p : Value) (m : SymMachine)
    → is_within (is_plain_store file) m.memory n p ≡ true → n ≡ 0
    → reads_to file input n (Some p) m ≡ quiet input (answers 0 m)
unfolding filled
read_nothing file input n p m e z =
    subst (λ k. is_within (is_plain_store file) m.memory k p ≡ true
    → reads_to file input k (Some p) m ≡ quiet input (answers 0 m)) (sym z) (λ f. rw f refl) e
