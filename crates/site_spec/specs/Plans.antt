-- Which plans fit an executable.
use Rattle.std.specs.Prelude.{◌≡◌, ◌≢◌, ℕ, ◌<◌, ◌≤◌, List, true, false, All, AllPairs, Any, IsBitSet, Option, Some}
use Rattle.std.specs.Prelude.{None, IsSome, length, slice_get}
use Rattle.plan_core.specs.declared.types.Plan.{Plan}
use Rattle.plan_core.specs.declared.types.PlanLine.{PlanLine}
use Rattle.plan_core.specs.Plan.{granules}
use Rattle.site_spec.specs.declared.Site.{Site}
use Rattle.site_spec.specs.Places.{text_at, stub_at, reaches}
use Rattle.site_spec.specs.Sites.{site_at}

-- a site line's stub is within reach: a pair reaches every address
abbrev pub IsInReach : List ℕ → Option PlanLine → ℕ → Type 0
IsInReach file None k = Unit {0}
IsInReach file (Some line) k =
    (s : Site) → site_at file line.addr ≡ Some s → s.pair ≡ false → reaches line.addr (stub_at (text_at file) k) ≡ true

pub record Fits (file : List ℕ) (plan : Plan) : Type 0 where
  -- each site line names a site of the file, and no two name one
  pub sites : All (λ line. IsSome (site_at file line.addr)) plan.sites
  pub once : AllPairs (λ l m. l.addr ≢ m.addr) plan.sites
  -- each site has a bit of its own below 32, and a row's mask has bits of sites alone
  pub bits : All (λ line. line.bit < 32) plan.sites
  pub own_bits : AllPairs (λ l m. l.bit ≢ m.bit) plan.sites
  pub masks : All (λ row. (n : ℕ) → IsBitSet row.mask n → Any (λ line. line.bit ≡ n) plan.sites) plan.rows
  -- at most 64 rows, with groups below 16
  pub groups : All (λ row. row.group < 16) plan.rows
  pub few_rows : length plan.rows ≤ 64
  -- the area has at most 256 chunks of at most 2^20 granules, and 1048576 granules in all
  pub log_chunk : plan.area.log_chunk ≤ 20
  pub chunks : plan.area.chunks ≤ 256
  pub area : granules plan.area ≤ 1048576
  -- the stub of each site is within its reach
  pub reach : (k : ℕ) → IsInReach file (slice_get plan.sites k) k
