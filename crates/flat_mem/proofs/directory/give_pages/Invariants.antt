-- The pages of addresses so far have pages.
use Rattle.std.proofs.Common.{◌≡◌, ◌⊎◌, ℕ, ◌+◌, ◌-◌, ◌/◌, ◌<◌, ◌≤◌}
use Rattle.std.specs.Prelude.{slice_index}
use Rattle.flat_mem.specs.Areas.{IsDirectory}
use Rattle.flat_mem.proofs.directory.give_pages.Given as goal

abbrev pub invariant-loop-page : goal.invariant-loop-page
invariant-loop-page l = record {
  directs : IsDirectory l.directory l.given;
  more : l.pages ≤ l.given;
  few : l.given + l.start / 4096 ≤ l.pages + l.page;
  low : l.start / 4096 ≤ l.page;
  high : l.page ≤ l.last + 1;
  kept : (n : ℕ) → 0 < slice_index l.fn.directory n → slice_index l.directory n ≡ slice_index l.fn.directory n;
  fresh : (n : ℕ) → slice_index l.fn.directory n ≡ 0
      → (slice_index l.directory n ≡ 0) ⊎ (l.pages ≤ slice_index l.directory n);
  there : (n : ℕ) → l.start / 4096 ≤ n → n < l.page → 0 < slice_index l.directory n;
}

abbrev pub decreases-loop-page : goal.decreases-loop-page
decreases-loop-page l = l.last + 1 - l.page
