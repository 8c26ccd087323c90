-- Granules of 16 bytes are copied.
use Rattle.std.specs.Prelude.{◌≡◌, ◌⊎◌, ℕ, ◌+◌, ◌*◌, ◌%◌, ◌^◌, ◌<◌, ◌≤◌, [], ◌∷◌, true}
use Rattle.rv_isa.specs.declared.Op.TheVariants.{Add, Sll}
use Rattle.rv_isa.specs.declared.Cond.TheVariants.{Ne}
use Rattle.frag_code.specs.Ends.{Ends}
use Rattle.frag_code.specs.Fragments.{Fragment, Compute, Imm, Load, Store, While, chained}
use Rattle.frag_code.specs.Meaning.{View, Rights, frag_run}

-- the granule at x5 is written at x6, and both go on to the next
abbrev pub copy_granule : Fragment
copy_granule =
    chained (
    Load 7 5 0
    ∷ Load 28 5 4
    ∷ Load 29 5 8
    ∷ Load 30 5 12
    ∷ Store 6 7 0
    ∷ Store 6 28 4
    ∷ Store 6 29 8
    ∷ Store 6 30 12
    ∷ Imm Add 5 5 16
    ∷ Imm Add 6 6 16
    ∷ []
    )

-- x16 granules from x5 on are written from x6 on
abbrev pub copy_block : Fragment
copy_block = chained (Imm Sll 16 16 4 ∷ Compute Add 16 16 5 ∷ While Ne 5 16 copy_granule ∷ [])

-- the words of n granules from an address on are those that stood from another on; all others stay
pub record CopiedFor (from to n : ℕ) (m m' : ℕ → ℕ) : Type 0 where
  pub copies : (i : ℕ) → i % 4 ≡ 0 → i < 16 * n → m' (to + i) ≡ m (from + i)
  pub others : (k : ℕ) → (k < to) ⊎ (to + 16 * n ≤ k) → m' k ≡ m k

-- both stretches stand at multiples of 4 below 2 ^ 32, apart from each other; the one may be read and
-- holds words, the other may be written
pub record MayCopy (g : Rights) (from to n : ℕ) (m : ℕ → ℕ) : Type 0 where
  pub from_aligned : from % 4 ≡ 0
  pub to_aligned : to % 4 ≡ 0
  pub from_end : from + 16 * n < 2 ^ 32
  pub to_end : to + 16 * n < 2 ^ 32
  pub apart : (from + 16 * n ≤ to) ⊎ (to + 16 * n ≤ from)
  pub reads : (a : ℕ) → from ≤ a → a < from + 16 * n → g.reads a ≡ true
  pub writes : (a : ℕ) → to ≤ a → a < to + 16 * n → g.writes a ≡ true
  pub words : (a : ℕ) → a % 4 ≡ 0 → from ≤ a → a < from + 16 * n → m a < 2 ^ 32

-- the fragment copies
abbrev pub CopiesBlocks : Type 0
CopiesBlocks =
    (g : Rights) (w from to n : ℕ) (s : View) → MayCopy g from to n s.memory → s.registers 5 ≡ from → s.registers 6 ≡ to
    → s.registers 16 ≡ n → n ≤ w
    → Ends (frag_run g copy_block w s) (λ t. CopiedFor from to n s.memory t.memory × (t.spent ≤ s.spent + 33 * n + 9))
