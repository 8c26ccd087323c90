-- What the words of a stub do on the flat machine (RISC-V unprivileged manual; x1 is ra). Addresses
-- are taken modulo 2^32.
use Rattle.std.specs.Prelude.{◌≡◌, ◌≢◌, ℕ, ◌-◌, ◌*◌, ◌^◌, ◌<◌, ◌==◌, List, Some, length, bit_and, bit_or, slice_index}
use Rattle.std.specs.Prelude.{if◌then◌else◌}
use Rattle.std.specs.Int.{bit_at}
use Rattle.rv_isa.specs.Addresses.{plus}
use Rattle.machine_spec.specs.declared.Ending.TheVariants.{Running}
use Rattle.machine_spec.specs.Memory.{Range}
use Rattle.flat_spec.specs.Stores.{fetched}
use Rattle.flat_spec.specs.Machine.{Machine, register}
use Rattle.flat_spec.specs.Runs.{State, steps}

-- words stand in memory from an address on, and can be fetched
abbrev pub StandAt : List Range → ℕ → List ℕ → Type 0
StandAt memory at words = (k : ℕ) → k < length words → fetched memory (plus at (4 * k)) ≡ Some (slice_index words k)

-- a running machine at a place, with these words in memory from an address on
pub record RunsAt (m : Machine) (place at : ℕ) (code : List ℕ) : Type 0 where
  pub ending : m.ending ≡ Running
  pub pc : m.pc ≡ place
  pub registers : length m.registers ≡ 32
  pub words : StandAt m.memory at code

-- a machine with its input and its output
abbrev pub state_of : Machine → List ℕ → List ℕ → State
state_of m input output = record { machine = m; input = input; output = output }

-- so many turns lead from a machine to one that runs on at a place, with this word in x4 and a word in
-- ra: nothing but ra, x4 and the pc changes
pub record GoesTo (turns : ℕ) (m : Machine) (input output : List ℕ) (place word : ℕ) : Type 0 where
  pub next : Machine
  pub run : steps turns (state_of m input output) ≡ state_of next input output
  pub ending : next.ending ≡ Running
  pub pc : next.pc ≡ place
  pub memory : next.memory ≡ m.memory
  pub registers : length next.registers ≡ 32
  pub bits : register next 4 ≡ word
  pub link_small : register next 1 < 2 ^ 32
  pub others : (k : ℕ) → k ≢ 1 → k ≢ 4 → register next k ≡ register m k

-- bits of which one is set, or cleared, and all others are as before
abbrev pub SetsBit : ℕ → ℕ → ℕ → Type 0
SetsBit bit before after = (b : ℕ) → b < 32 → bit_at after b ≡ (if b == bit then 1 else bit_at before b)

abbrev pub ClearsBit : ℕ → ℕ → ℕ → Type 0
ClearsBit bit before after = (b : ℕ) → b < 32 → bit_at after b ≡ (if b == bit then 0 else bit_at before b)

-- five turns from the first word set the bit and go to the target, with the place of the sixth word
-- in ra
pub record CallsFrom (at bit target : ℕ) (m : Machine) (input output : List ℕ) : Type 0 where
  pub reaches : GoesTo 5 m input output target (bit_or (register m 4) (2 ^ bit))
  pub link : register reaches.next 1 ≡ plus at 20
  pub one_bit : SetsBit bit (register m 4) (register reaches.next 4)

-- six turns from the sixth word clear the bit and go to the return address
pub record GoesBack (bit back : ℕ) (m : Machine) (input output : List ℕ) : Type 0 where
  pub reaches : GoesTo 6 m input output back (bit_and (register m 4) (2 ^ 32 - 1 - 2 ^ bit))
  pub one_bit : ClearsBit bit (register m 4) (register reaches.next 4)

-- words that call from wherever they stand at this place
abbrev pub Calls : (at bit target : ℕ) → List ℕ → Type 0
Calls at bit target words = (m : Machine) (input output : List ℕ) → RunsAt m at at words
    → CallsFrom at bit target m input output

-- and that go back, from their sixth
abbrev pub Returns : (at bit back : ℕ) → List ℕ → Type 0
Returns at bit back words = (m : Machine) (input output : List ℕ) → RunsAt m (plus at 20) at words
    → GoesBack bit back m input output
