-- What a run knows of a machine: its rules, and what is seen of it between two steps.
use Rattle.std.specs.Prelude.{◌≡◌, ℕ, zero, suc, ◌+◌, List, [], Option, Some, None, Bool, length}
use Rattle.machine_spec.specs.declared.Ending.{Ending}
use Rattle.machine_spec.specs.declared.Ending.TheVariants.{Running}

-- what the next turn wants of the outside: nothing, at most so many bytes of the input, or that so many
-- bytes are written
pub data Asks : Type 0 where
  Nothing : Asks
  Input : (most : ℕ) → Asks
  Output : (len : ℕ) → Asks

-- one turn: the machine after it, the bytes that it wrote and the input that it left
pub record Turned (S : Type 0) : Type 0 where
  pub next : S
  pub written : List ℕ
  pub left : List ℕ

-- a turn that neither reads nor writes
abbrev pub quiet : {S : Type 0} → List ℕ → S → Turned S
quiet input m = record { next = m; written = []; left = input }

-- the rules of a machine: whether it runs or how it ended, what its next turn asks for, its turn on an
-- input, the machine at a read whose buffer begins with these bytes, and whether its next step may want memory
-- of the host
pub record Rules (S : Type 0) : Type 0 where
  pub ending : S → Ending
  pub asks : S → Asks
  pub turn : List ℕ → S → Turned S
  pub fed : S → List ℕ → S
  pub may_lack : S → Bool

-- a machine stays as it is
abbrev pub Stays : {S : Type 0} → Rules S → S → Type 0
Stays of m = (input : List ℕ) → of.turn input m ≡ quiet input m

abbrev pub ending_of : {S : Type 0} → Rules S → S → Ending
ending_of of m = of.ending m

-- n turns of a machine that runs at each of them, on any input, neither read nor write and lead from old to new
abbrev pub GoesQuietly : {S : Type 0} → Rules S → ℕ → S → S → Type 0
GoesQuietly of zero old new = new ≡ old
GoesQuietly {S} of (suc n) old new = (mid : S) × GoesQuietly of n old mid × (of.ending mid ≡ Running)
    × ((input : List ℕ) → of.turn input mid ≡ quiet input new)

-- a read that waits: the most bytes that it takes, and how many it was fed
pub record Wait : Type 0 where
  pub len : ℕ
  pub fed : ℕ

-- the machine, whether it waits at a read, and the bytes that its last step wrote
pub record Seen (S : Type 0) : Type 0 where
  pub machine : S
  pub waits : Option Wait
  pub written : List ℕ

-- it waits at a read of at most `len` bytes of the machine m, and was fed these bytes
abbrev pub fed_with : {S : Type 0} → Rules S → ℕ → S → List ℕ → Seen S
fed_with of len m bytes = record {
  machine = of.fed m bytes;
  waits = Some (record { len = len; fed = length bytes });
  written = [];
}

-- a machine that waits was fed so many bytes more
abbrev pub WaitsOn : Option Wait → ℕ → Option Wait → Type 0
WaitsOn None more now = now ≡ None
WaitsOn (Some wait) more now = now ≡ Some (record { len = wait.len; fed = wait.fed + more })
