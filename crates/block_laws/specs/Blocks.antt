-- How the live blocks of layouts before and after a request stand to each other.
use Rattle.std.specs.Prelude.{◌≡◌, ◌≢◌, ◌⊎◌, ℕ, List, All, Any}
use Rattle.place_spec.specs.Layout.{Block, Layout}
use Rattle.place_spec.specs.Place.{Placed}
use Rattle.place_spec.specs.Sound.{Apart}

-- a block is where one was placed
abbrev pub IsNew : (need : ℕ) → Placed → Block → Type 0
IsNew need p b = (b.first ≡ p.granule) × (b.granules ≡ need)

abbrev pub IsOneOf : List Block → Block → Type 0
IsOneOf blocks b = Any (λ x. x ≡ b) blocks

-- a block was placed: it stands among the old ones, and shares no granule with them
pub record StandsBeside (need : ℕ) (layout : Layout) (p : Placed) : Type 0 where
  pub new : Any (IsNew need p) p.after.blocks
  pub old : All (IsOneOf p.after.blocks) layout.blocks
  pub each : All (λ b. IsNew need p b ⊎ IsOneOf layout.blocks b) p.after.blocks
  pub apart : All (λ b. Apart p.granule need b.first b.granules) layout.blocks

-- the block at a granule was released: all others are there
pub record StandsWithout (granule : ℕ) (before after : List Block) : Type 0 where
  pub old : All (λ b. b.first ≢ granule → IsOneOf after b) before
  pub each : All (λ b. (b.first ≢ granule) × IsOneOf before b) after
