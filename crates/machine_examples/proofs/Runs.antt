-- The runs of the two programs and of their new files on the flat machine with the stack of 512 bytes.
use Rattle.std.proofs.Common.{◌≡◌, refl}
use Rattle.std.specs.Prelude.{⊤, [], ◌∷◌}
use Rattle.rv_isa.specs.Table.{table, read_by, decoded}
use Rattle.rv_isa.specs.Compute.{computed, is_held}
use Rattle.elf_spec.specs.Fields.{half_at, word_at}
use Rattle.elf_spec.specs.Records.{segment_at}
use Rattle.machine_spec.specs.declared.Ending.TheVariants.{Running, Exit}
use Rattle.machine_spec.specs.Memory.{byte_of}
use Rattle.flat_spec.specs.Stores.{loaded, stored, fetched}
use Rattle.flat_spec.specs.Machine.{register}
use Rattle.flat_spec.specs.Calls.{calls}
use Rattle.flat_spec.specs.Turns.{turn, acts}
use Rattle.flat_spec.specs.Runs.{step, steps}
use Rattle.machine_examples.proofs.Files.{p2, new_p2, p3, new_p3}
use Rattle.machine_examples.proofs.Setup.{flat_start}

-- what a proof unfolds to compute a run of a file that is written out
unfoldable pub run_opened : ⊤
unfolding steps step turn acts calls loaded stored fetched computed is_held table read_by decoded byte_of half_at
    word_at segment_at
run_opened = tt

-- the first program runs after two turns, has exited with 0 after three, and has written nothing
pub p2_runs : (steps 2 (flat_start p2)).machine.ending ≡ Running
unfolding run_opened
p2_runs = refl

pub p2_exits : (steps 3 (flat_start p2)).machine.ending ≡ Exit 0
unfolding run_opened
p2_exits = refl

pub p2_writes : (steps 3 (flat_start p2)).output ≡ []
unfolding run_opened
p2_writes = refl

-- and so does its new file under the plan without sites
pub new_p2_runs : (steps 2 (flat_start new_p2)).machine.ending ≡ Running
unfolding run_opened
new_p2_runs = refl

pub new_p2_exits : (steps 3 (flat_start new_p2)).machine.ending ≡ Exit 0
unfolding run_opened
new_p2_exits = refl

pub new_p2_writes : (steps 3 (flat_start new_p2)).output ≡ []
unfolding run_opened
new_p2_writes = refl

-- the second program runs after eleven turns, has exited with 3 after twelve, and has written the byte 65
pub p3_runs : (steps 11 (flat_start p3)).machine.ending ≡ Running
unfolding run_opened
p3_runs = refl

pub p3_exits : (steps 12 (flat_start p3)).machine.ending ≡ Exit 3
unfolding run_opened
p3_exits = refl

pub p3_writes : (steps 12 (flat_start p3)).output ≡ 65 ∷ []
unfolding run_opened
p3_writes = refl

-- its new file under the plan with the site comes to the call's target after six turns, from the stub
-- and with the site's bit in x4
pub new_p3_called_pc : (steps 6 (flat_start new_p3)).machine.pc ≡ 0x10110
unfolding run_opened
new_p3_called_pc = refl

pub new_p3_called_ra : register (steps 6 (flat_start new_p3)).machine 1 ≡ 0x11024
unfolding run_opened
new_p3_called_ra = refl

pub new_p3_called_bits : register (steps 6 (flat_start new_p3)).machine 4 ≡ 1
unfolding run_opened
new_p3_called_bits = refl

-- it comes back behind the site after twenty turns, and without the bit
pub new_p3_back_pc : (steps 20 (flat_start new_p3)).machine.pc ≡ 0x10104
unfolding run_opened
new_p3_back_pc = refl

pub new_p3_back_bits : register (steps 20 (flat_start new_p3)).machine 4 ≡ 0
unfolding run_opened
new_p3_back_bits = refl

-- it runs after 22 turns, has exited with 3 after 23, and has written the byte 65
pub new_p3_runs : (steps 22 (flat_start new_p3)).machine.ending ≡ Running
unfolding run_opened
new_p3_runs = refl

pub new_p3_exits : (steps 23 (flat_start new_p3)).machine.ending ≡ Exit 3
unfolding run_opened
new_p3_exits = refl

pub new_p3_writes : (steps 23 (flat_start new_p3)).output ≡ 65 ∷ []
unfolding run_opened
new_p3_writes = refl
