-- What holds between the steps of a tidy run.
use Rattle.std.proofs.Common.{◌≡◌, ℕ, zero, suc, true, false, List, [], refl, sym, subst, arith}
use Rattle.std.specs.Prelude.{IsBitSet, Some}
use Rattle.std.specs.Int.{bit_at}
use Rattle.std.proofs.lemmas.List.Elements.{All-nil}
use Rattle.std.proofs.lemmas.Nat.Bits.{bit_at-zero}
use Rattle.plan_core.specs.declared.types.Plan.{Plan}
use Rattle.site_spec.specs.Plans.{Fits}
use Rattle.site_spec.specs.Sites.{site_at}
use Rattle.sym_spec.specs.SymMachine.{SymMachine, start}
use Rattle.sym_spec.specs.SymNotes.{note}
use Rattle.sym_spec.specs.SymRuns.{step, steps, sym_run}
use Rattle.sym_spec.specs.SymTurns.{turn}
use Rattle.run_laws.specs.Grants.{Run, machine_at}
use Rattle.run_laws.specs.Turns.{SetsBits}
use Rattle.tidy_runs.specs.Tidy.{IsTidy, note_at, stack_at}
use Rattle.tidy_runs.proofs.Bits.{set_at}
use Rattle.tidy_runs.proofs.Steps.{AreTidy, OwnAddress, tidy_step}

-- a turn sets and clears the bits that its note says
abbrev pub TurnsSet : Type 0
TurnsSet = (file : List ℕ) (plan : Plan) (input : List ℕ) (m : SymMachine) → Fits file plan
    → SetsBits file plan m (note file plan m) (turn file plan input m).next

turn_sets : TurnsSet → (run : Run) (n : ℕ) → Fits run.file run.plan
    → SetsBits run.file run.plan (machine_at run n) (note_at run n) (machine_at run (suc n))
unfolding sym_run steps step
turn_sets sets run n fits =
    sets run.file run.plan (sym_run run.file run.plan run.input n).input (machine_at run n) fits

no_bits : (run : Run) → (machine_at run 0).bits ≡ 0
unfolding sym_run steps start
no_bits run = refl

none_set : (k : ℕ) → IsBitSet 0 k → ⊥
none_set k set =
    let one : bit_at 0 k ≡ 1 = set_at 0 k set in
    let none : bit_at 0 k ≡ 0 = bit_at-zero k in
    omega (arith, one, none)

starts_tidy : (run : Run) → AreTidy run.file run.plan.sites [] (machine_at run 0).bits
starts_tidy run = subst (AreTidy run.file run.plan.sites []) (sym (no_bits run)) (record {
  sites = All-nil (λ s. site_at run.file s.addr ≡ Some s);
  once = tt;
  bits_are = λ k. (λ set. absurd (none_set k set), λ held. absurd (let on : false ≡ true = held.4.1 in cc));
})

pub tidy_at : TurnsSet → (run : Run) (n : ℕ) → OwnAddress run.file → Fits run.file run.plan → IsTidy run n
    → AreTidy run.file run.plan.sites (stack_at run n) (machine_at run n).bits
tidy_at sets run zero own fits tidy = starts_tidy run
tidy_at sets run (suc n) own fits tidy =
    let before : AreTidy run.file run.plan.sites (stack_at run n) (machine_at run n).bits =
    tidy_at sets run n own fits (λ i low. tidy i (omega (arith, low))) in
    let here = turn_sets sets run n fits in
    subst (AreTidy run.file run.plan.sites (stack_at run (suc n))) (sym here.bits)
    (tidy_step run.file run.plan fits own (note_at run n) (stack_at run n) (machine_at run n).bits before
    (tidy n (omega arith)) here.alone)
