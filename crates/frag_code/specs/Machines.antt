-- What a fragment's code does on the flat machine: what the fragment does with the machine's registers
-- and words.
use Rattle.std.specs.Prelude.{◌≡◌, ◌⊎◌, ℕ, ◌+◌, ◌-◌, ◌*◌, ◌%◌, ◌^◌, ◌<◌, ◌≤◌, List, [], ◌∷◌, true, false, Some, is_some}
use Rattle.std.specs.Prelude.{unwrap_or, length, map}
use Rattle.rv_isa.specs.declared.Width.TheVariants.{Word}
use Rattle.machine_spec.specs.declared.Ending.TheVariants.{Running}
use Rattle.machine_spec.specs.Memory.{Range, shape_of, range_at, byte_of}
use Rattle.machine_spec.specs.Widths.{low_bytes}
use Rattle.flat_spec.specs.Stores.{loaded, stored, fetched, bytes_from, allows_store}
use Rattle.flat_spec.specs.Machine.{Machine, register}
use Rattle.flat_spec.specs.Runs.{steps}
use Rattle.frag_code.specs.Fragments.{Fragment}
use Rattle.frag_code.specs.Forms.{is_target}
use Rattle.frag_code.specs.Meaning.{View, Rights, read, frag_run}

-- a word of code stands at an address: it is fetched there, and none of its bytes can be stored to
abbrev pub IsWordAt : List Range → ℕ → ℕ → Type 0
IsWordAt memory at w =
    (fetched memory at ≡ Some w) × ((k : ℕ) → at ≤ k → k < at + 4 → allows_store (range_at memory k) ≡ false)

-- code stands at an address: each of its words does, modulo 2^32
abbrev pub StandsAt : List Range → ℕ → List ℕ → Type 0
StandsAt memory at [] = Unit {0}
StandsAt memory at (w ∷ ws) = IsWordAt memory (at % 2 ^ 32) w × StandsAt memory (at + 4) ws

-- the machine is about to run code: it runs, and the code stands at its pc; it has 32 registers, and its
-- pc is a word
pub record BeginsAt (code : List ℕ) (m : Machine) : Type 0 where
  pub running : m.ending ≡ Running
  pub stands : StandsAt m.memory m.pc code
  pub place : m.pc < 2 ^ 32
  pub long : length m.registers ≡ 32

-- memory gives these rights; what may be written may be read, so that a written word is seen
abbrev pub HasRights : List Range → Rights → Type 0
HasRights memory g = (a : ℕ) → a % 4 ≡ 0 → g.writes a ≡ true → (is_some (stored memory Word a 0) ≡ true)
    × (g.reads a ≡ true)

-- a view's registers are the machine's, and so are its words wherever they may be read
pub record Shows (g : Rights) (s : View) (m : Machine) : Type 0 where
  pub registers : (r : ℕ) → r < 32 → register m r ≡ read s.registers r
  pub words : (a : ℕ) → a % 4 ≡ 0 → g.reads a ≡ true → loaded m.memory Word a ≡ Some (s.memory a)

-- the whole view of a machine, and all rights that its memory gives
abbrev pub view_of : Machine → View
view_of m = record { registers = register m; memory = λ a. unwrap_or (loaded m.memory Word a) 0; spent = 0 }

abbrev pub rights_of : List Range → Rights
rights_of memory = record {
  reads = λ a. is_some (loaded memory Word a);
  writes = λ a. is_some (stored memory Word a 0);
}

-- a word's bytes are those of another memory, or those of a view's word that may be written
abbrev pub IsWordKept : Rights → View → List Range → List Range → ℕ → Type 0
IsWordKept g s before after a =
    ((k : ℕ) → a ≤ k → k < a + 4 → byte_of after k ≡ byte_of before k)
    ⊎ ((g.writes a ≡ true) × (bytes_from after a 4 ≡ Some (low_bytes 4 (s.memory a))))

-- after at most so many steps the machine runs at a place and shows a view; all else is as before, so
-- that its memory gives the same rights and all code stands where it stood
pub record Arrives (g : Rights) (s : View) (place most : ℕ) (m : Machine) (input output : List ℕ) : Type 0 where
  pub after : Machine
  pub count : ℕ
  pub within : count ≤ most
  pub run : steps count (record { machine = m; input = input; output = output })
      ≡ record { machine = after; input = input; output = output }
  pub running : after.ending ≡ Running
  pub there : after.pc ≡ place
  pub shows : Shows g s after
  pub others : (r : ℕ) → is_target r ≡ false → register after r ≡ register m r
  pub long : length after.registers ≡ 32
  pub shape : map shape_of after.memory ≡ map shape_of m.memory
  pub bytes : (a : ℕ) → a % 4 ≡ 0 → IsWordKept g s m.memory after.memory a
  pub rights : HasRights after.memory g
  pub stands : (at : ℕ) (ws : List ℕ) → StandsAt m.memory at ws → StandsAt after.memory at ws

-- the address behind code
abbrev pub behind_code : List ℕ → Machine → ℕ
behind_code code m = (m.pc + 4 * length code) % 2 ^ 32

-- code does what a fragment does, wherever it stands, also inside larger code: with the registers and
-- words of the machine that begins it, and within the fragment's cost
abbrev pub RunsAs : Fragment → List ℕ → Type 0
RunsAs f code =
    (w : ℕ) (s : View) (m : Machine) (input output : List ℕ) → BeginsAt code m
    → frag_run (rights_of m.memory) f w (view_of m) ≡ Some s
    → Arrives (rights_of m.memory) s (behind_code code m) s.spent m input output

-- the same from any view that the machine shows, under any rights that its memory gives
abbrev pub RunsAsShown : Fragment → List ℕ → Type 0
RunsAsShown f code =
    (g : Rights) (w : ℕ) (before s : View) (m : Machine) (input output : List ℕ) → BeginsAt code m
    → HasRights m.memory g → Shows g before m → frag_run g f w before ≡ Some s
    → Arrives g s (behind_code code m) (s.spent - before.spent) m input output
