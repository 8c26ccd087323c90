-- The countdown, computed.
use Rattle.std.proofs.Common.{◌≡◌, ℕ, refl}
use Rattle.std.specs.Prelude.{⊤, Some, None, option_map}
use Rattle.rv_isa.specs.Table.{table, read_by, decoded}
use Rattle.rv_isa.specs.Encoded.{encoded}
use Rattle.rv_isa.specs.Compute.{computed, is_held}
use Rattle.machine_spec.specs.Memory.{byte_of}
use Rattle.flat_spec.specs.Stores.{fetched}
use Rattle.flat_spec.specs.Machine.{register}
use Rattle.flat_spec.specs.Turns.{turn, acts}
use Rattle.flat_spec.specs.Runs.{step, steps}
use Rattle.frag_code.specs.Code.{instructions_of, code_of}
use Rattle.frag_code.specs.Meaning.{Rights, frag_run}
use Rattle.frag_code.specs.Countdown.{countdown, countdown_words, countdown_start}

-- what a proof unfolds to compute code, a fragment's run and a machine's run
unfoldable opened : ⊤
unfolding instructions_of encoded frag_run computed is_held steps step turn acts fetched table read_by decoded byte_of
opened = tt

pub words_are : code_of countdown ≡ countdown_words
unfolding opened
words_are = refl

pub cost_is : (g : Rights) (registers memory : ℕ → ℕ)
    → option_map (λ s. s.spent) (frag_run g countdown 5 (record { registers = registers; memory = memory; spent = 0 }))
    ≡ Some 39
unfolding opened
cost_is g registers memory = refl

pub turns_are : (g : Rights) (registers memory : ℕ → ℕ) → frag_run g countdown 4
    (record { registers = registers; memory = memory; spent = 0 }) ≡ None
unfolding opened
turns_are g registers memory = refl

pub last_is : (steps 20 countdown_start).machine.pc ≡ 0x10014
unfolding opened
last_is = refl

pub behind_is : (steps 21 countdown_start).machine.pc ≡ 0x10020
unfolding opened
behind_is = refl

pub counted_is : register (steps 21 countdown_start).machine 10 ≡ 0
unfolding opened
counted_is = refl
