-- The runs of the two programs on the symbol machine with the whole stack.
use Rattle.std.proofs.Common.{◌≡◌, refl}
use Rattle.std.specs.Prelude.{⊤, [], ◌∷◌}
use Rattle.machine_spec.specs.declared.Ending.TheVariants.{Running, Exit}
use Rattle.machine_spec.specs.Memory.{stack, memory_of}
use Rattle.sym_spec.specs.StartMemory.{start_memory}
use Rattle.sym_spec.specs.SymMachine.{start}
use Rattle.sym_spec.specs.SymRuns.{sym_run}
use Rattle.machine_examples.proofs.Files.{p2, p3}
use Rattle.machine_examples.proofs.Setup.{empty_plan, plan_p3}
use Rattle.machine_examples.proofs.SymRuns.{sym_run_opened}

-- what a proof unfolds to compute such a run
unfoldable pub whole_sym_run_opened : ⊤
unfolding sym_run_opened sym_run start start_memory memory_of stack
whole_sym_run_opened = tt

-- the first program runs after two turns, has exited with 0 after three, and has written nothing
pub p2_runs : (sym_run p2 empty_plan [] 2).machine.ending ≡ Running
unfolding whole_sym_run_opened
p2_runs = refl

pub p2_exits : (sym_run p2 empty_plan [] 3).machine.ending ≡ Exit 0
unfolding whole_sym_run_opened
p2_exits = refl

pub p2_writes : (sym_run p2 empty_plan [] 3).output ≡ []
unfolding whole_sym_run_opened
p2_writes = refl

-- the second program runs after eleven turns, has exited with 3 after twelve, and has written the byte
-- 65, under the plan without sites
pub p3_runs : (sym_run p3 empty_plan [] 11).machine.ending ≡ Running
unfolding whole_sym_run_opened
p3_runs = refl

pub p3_exits : (sym_run p3 empty_plan [] 12).machine.ending ≡ Exit 3
unfolding whole_sym_run_opened
p3_exits = refl

pub p3_writes : (sym_run p3 empty_plan [] 12).output ≡ 65 ∷ []
unfolding whole_sym_run_opened
p3_writes = refl

-- and under the plan with the site
pub site_p3_runs : (sym_run p3 plan_p3 [] 11).machine.ending ≡ Running
unfolding whole_sym_run_opened
site_p3_runs = refl

pub site_p3_exits : (sym_run p3 plan_p3 [] 12).machine.ending ≡ Exit 3
unfolding whole_sym_run_opened
site_p3_exits = refl

pub site_p3_writes : (sym_run p3 plan_p3 [] 12).output ≡ 65 ∷ []
unfolding whole_sym_run_opened
site_p3_writes = refl
