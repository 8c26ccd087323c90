-- The runs of the two programs on the symbol machine with the stack of 512 bytes.
use Rattle.std.proofs.Common.{◌≡◌, refl}
use Rattle.std.specs.Prelude.{⊤, [], ◌∷◌}
use Rattle.rv_isa.specs.Compute.{computed, is_held}
use Rattle.machine_spec.specs.declared.Ending.TheVariants.{Running, Exit}
use Rattle.machine_spec.specs.Memory.{byte_of}
use Rattle.sym_value.specs.declared.Value.TheVariants.{Ret, Unset}
use Rattle.sym_value.specs.Decisions.{decide}
use Rattle.sym_value.specs.Operations.{apply}
use Rattle.sym_cells.specs.Memory.{loaded, stored}
use Rattle.sym_cells.specs.Buffers.{is_within, taken, filled}
use Rattle.sym_spec.specs.Plain.{is_plain, is_plain_store}
use Rattle.sym_spec.specs.SymMachine.{value_of, back_index}
use Rattle.sym_spec.specs.SymCalls.{calls}
use Rattle.sym_spec.specs.SymTurns.{turn, acts, here}
use Rattle.sym_spec.specs.SymRuns.{step, steps}
use Rattle.match_spec.specs.Stands.{back_of}
use Rattle.machine_examples.proofs.Files.{p2, p3}
use Rattle.machine_examples.proofs.Setup.{sym_start, empty_plan, plan_p3}
use Rattle.machine_examples.proofs.NewFiles.{sites_opened}

-- what a proof unfolds to compute a run of a file that is written out
unfoldable pub sym_run_opened : ⊤
unfolding sites_opened steps step turn acts calls here apply decide loaded stored is_within taken filled is_plain
    is_plain_store back_index computed is_held byte_of
sym_run_opened = tt

-- the first program runs after two turns, has exited with 0 after three, and has written nothing
pub p2_runs : (steps p2 empty_plan 2 (sym_start p2)).machine.ending ≡ Running
unfolding sym_run_opened
p2_runs = refl

pub p2_exits : (steps p2 empty_plan 3 (sym_start p2)).machine.ending ≡ Exit 0
unfolding sym_run_opened
p2_exits = refl

pub p2_writes : (steps p2 empty_plan 3 (sym_start p2)).output ≡ []
unfolding sym_run_opened
p2_writes = refl

-- the second program runs after eleven turns, has exited with 3 after twelve, and has written the byte
-- 65, under the plan without sites
pub p3_runs : (steps p3 empty_plan 11 (sym_start p3)).machine.ending ≡ Running
unfolding sym_run_opened
p3_runs = refl

pub p3_exits : (steps p3 empty_plan 12 (sym_start p3)).machine.ending ≡ Exit 3
unfolding sym_run_opened
p3_exits = refl

pub p3_writes : (steps p3 empty_plan 12 (sym_start p3)).output ≡ 65 ∷ []
unfolding sym_run_opened
p3_writes = refl

-- and under the plan with the site
pub site_p3_runs : (steps p3 plan_p3 11 (sym_start p3)).machine.ending ≡ Running
unfolding sym_run_opened
site_p3_runs = refl

pub site_p3_exits : (steps p3 plan_p3 12 (sym_start p3)).machine.ending ≡ Exit 3
unfolding sym_run_opened
site_p3_exits = refl

pub site_p3_writes : (steps p3 plan_p3 12 (sym_start p3)).output ≡ 65 ∷ []
unfolding sym_run_opened
site_p3_writes = refl

-- the call of the site sets its bit, and goes to its target with its return address in ra
pub site_p3_called_pc : (steps p3 plan_p3 1 (sym_start p3)).machine.pc ≡ 0x10110
unfolding sym_run_opened
site_p3_called_pc = refl

pub site_p3_called_ra : value_of (steps p3 plan_p3 1 (sym_start p3)).machine 1 ≡ Ret 0x10104
unfolding sym_run_opened
site_p3_called_ra = refl

pub site_p3_called_bits : (steps p3 plan_p3 1 (sym_start p3)).machine.bits ≡ 1
unfolding sym_run_opened
site_p3_called_bits = refl

-- without sites it sets no bit
pub p3_called_bits : (steps p3 empty_plan 1 (sym_start p3)).machine.bits ≡ 0
unfolding sym_run_opened
p3_called_bits = refl

-- the word behind the call in the stub stands for that return address
pub site_p3_stands : back_of p3 plan_p3 0x10104 ≡ 0x11024
unfolding sym_run_opened back_of
site_p3_stands = refl

-- the return clears the bit, and ra is unset
pub site_p3_back_pc : (steps p3 plan_p3 9 (sym_start p3)).machine.pc ≡ 0x10104
unfolding sym_run_opened
site_p3_back_pc = refl

pub site_p3_back_ra : value_of (steps p3 plan_p3 9 (sym_start p3)).machine 1 ≡ Unset
unfolding sym_run_opened
site_p3_back_ra = refl

pub site_p3_back_bits : (steps p3 plan_p3 9 (sym_start p3)).machine.bits ≡ 0
unfolding sym_run_opened
site_p3_back_bits = refl
