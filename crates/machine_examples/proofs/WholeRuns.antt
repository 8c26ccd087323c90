-- The runs of the first program and of its new file on the flat machine with the whole stack.
use Rattle.std.proofs.Common.{◌≡◌, refl}
use Rattle.std.specs.Prelude.{⊤, []}
use Rattle.machine_spec.specs.declared.Ending.TheVariants.{Running, Exit}
use Rattle.machine_spec.specs.Memory.{stack, memory_of}
use Rattle.flat_spec.specs.Machine.{start}
use Rattle.flat_spec.specs.Runs.{flat_run}
use Rattle.machine_examples.proofs.Files.{p2, new_p2}
use Rattle.machine_examples.proofs.Runs.{run_opened}

-- what a proof unfolds to compute such a run; one that stores to the stack is too deep to compute
unfoldable pub whole_run_opened : ⊤
unfolding run_opened flat_run start memory_of stack
whole_run_opened = tt

-- the program runs after two turns, has exited with 0 after three, and has written nothing
pub p2_runs : (flat_run p2 [] 2).machine.ending ≡ Running
unfolding whole_run_opened
p2_runs = refl

pub p2_exits : (flat_run p2 [] 3).machine.ending ≡ Exit 0
unfolding whole_run_opened
p2_exits = refl

pub p2_writes : (flat_run p2 [] 3).output ≡ []
unfolding whole_run_opened
p2_writes = refl

-- and so does its new file under the plan without sites
pub new_p2_runs : (flat_run new_p2 [] 2).machine.ending ≡ Running
unfolding whole_run_opened
new_p2_runs = refl

pub new_p2_exits : (flat_run new_p2 [] 3).machine.ending ≡ Exit 0
unfolding whole_run_opened
new_p2_exits = refl

pub new_p2_writes : (flat_run new_p2 [] 3).output ≡ []
unfolding whole_run_opened
new_p2_writes = refl
