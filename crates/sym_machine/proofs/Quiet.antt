-- Turns on numbers, which need no look at blocks and have no note.
use Rattle.std.proofs.Common.{◌≡◌, ◌∙◌, ◌+◌, ◌%◌, ◌^◌, ℕ, Option, Some, None, true, refl, ap, sym}
use Rattle.std.specs.Prelude.{option_and_then}
use Rattle.rv_isa.specs.declared.Cond.{Cond}
use Rattle.rv_isa.specs.declared.Op.{Op}
use Rattle.rv_isa.specs.declared.Op.TheVariants.{Add}
use Rattle.rv_isa.specs.Compute.{computed, is_held}
use Rattle.machine_run.specs.declared.Stepped.{Stepped}
use Rattle.machine_run.specs.declared.Stepped.TheVariants.{Went, Wrote, WantsInput, Exited, Illegal, Fault}
use Rattle.sym_value.specs.declared.Value.{Value}
use Rattle.sym_value.specs.declared.Value.TheVariants.{Num, Ptr, Ret, Mix, Part, Unset}
use Rattle.sym_value.specs.Places.{Lives}
use Rattle.sym_value.specs.Decisions.{decide}
use Rattle.sym_value.specs.Operations.{apply}
use Rattle.sym_spec.specs.declared.StepNote.{StepNote}
use Rattle.sym_spec.specs.SymCalls.{number_of_value}
use Rattle.sym_spec.specs.SymNotes.{empty_note, access_to}
use Rattle.sym_machine.specs.Turning.{is_number}
use Rattle.sym_machine.specs.Steps.{noted}

-- an operation of two numbers
pub applied : (live : Lives) (op : Op) (v w : ℕ) → apply live op (Num v) (Num w) ≡ Num (computed op v w)
unfolding apply
applied live op v w = refl

-- a value that is a number
pub number_there : (v : Value) (n : ℕ) → number_of_value v ≡ Some n → v ≡ Num n
number_there (Num w) n e = cc
number_there (Ptr b o) n e = absurd (cc)
number_there (Ret r) n e = absurd (cc)
number_there (Mix l) n e = absurd (cc)
number_there (Part s i) n e = absurd (cc)
number_there Unset n e = absurd (cc)

-- an operation of two values that are numbers
pub applied_there : (live : Lives) (op : Op) (a b : Value) (v w : ℕ) → number_of_value a ≡ Some v
    → number_of_value b ≡ Some w → Num (computed op v w) ≡ apply live op a b
applied_there live op a b v w e f = rw (number_there a v e, number_there b w f) (sym (applied live op v w))

-- a condition of two values that are numbers
held : (live : Lives) (cond : Cond) (v w : ℕ) → decide live cond (Num v) (Num w) ≡ Some (is_held cond v w)
unfolding decide
held live cond v w = refl

pub decided_there : (live : Lives) (cond : Cond) (a b : Value) (v w : ℕ) → number_of_value a ≡ Some v
    → number_of_value b ≡ Some w → Some (is_held cond v w) ≡ decide live cond a b
decided_there live cond a b v w e f = rw (number_there a v e, number_there b w f) (sym (held live cond v w))

-- the address behind a base that is a number
sum_is : (v w : ℕ) → computed Add v w ≡ (v + w) % 2 ^ 32
unfolding computed
sum_is v w = refl

pub address_there : (live : Lives) (a : Value) (v imm : ℕ) → number_of_value a ≡ Some v
    → apply live Add a (Num imm) ≡ Num ((v + imm) % 2 ^ 32)
address_there live a v imm e = rw (number_there a v e) (applied live Add v imm ∙ ap Num (sum_is v imm))

-- a word that is loaded as a number
pub word_there : (o : Option Value) (n : ℕ) → option_and_then number_of_value o ≡ Some n → o ≡ Some (Num n)
word_there None n e = absurd (cc)
word_there (Some v) n e = ap Some (number_there v n e)

-- a number reaches no block
pub no_access : (v : Value) (n : ℕ) → is_number v ≡ true → access_to v n ≡ None
no_access (Num w) n e = refl
no_access (Ptr b o) n e = absurd (cc)
no_access (Ret r) n e = absurd (cc)
no_access (Mix l) n e = absurd (cc)
no_access (Part s i) n e = absurd (cc)
no_access Unset n e = absurd (cc)

-- an empty note stays empty whatever the answer
pub none_noted : (s : Stepped) (n : StepNote) → n ≡ empty_note → empty_note ≡ noted s n
none_noted Went n e = sym e
none_noted (Wrote len) n e = sym e
none_noted (WantsInput len) n e = sym e
none_noted (Exited status) n e = sym e
none_noted (Illegal at) n e = sym e
none_noted (Fault kind at) n e = refl
