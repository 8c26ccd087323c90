-- Sources that count what they give.
use Rattle.std.proofs.Common.{◌≡◌, ℕ, ◌^◌, ◌<◌, List, refl, ◌∙◌, arith}
use Rattle.std.specs.Prelude.{Option, Some}
use Rattle.halo_outside.specs.Seen.{SourceSeen}
use Rattle.machine_run.specs.Runs.{Draws}
use Rattle.heap_trace.specs.Profiles.{Drawn}

-- nothing was taken
draws_none : (left : List ℕ) (told : Option (List ℕ)) (before : ℕ) → told ≡ Some left → before < 2 ^ 64
    → Draws left told before before
draws_none left told before is fits =
    record { rest = left; rest_is = is; fewer = omega arith; counted = omega arith }

-- more was taken
draws_more : (had : List ℕ) (told told' : Option (List ℕ)) (before mid now : ℕ) → Draws had told before mid
    → ((left : List ℕ) → told ≡ Some left → mid < 2 ^ 64 → Draws left told' mid now) → Draws had told' before now
draws_more had told told' before mid now d next =
    let fits : mid < 2 ^ 64 = omega (arith, d.counted) in
    let e = next d.rest d.rest_is fits in
    record {
      rest = e.rest;
      rest_is = e.rest_is;
      fewer = omega (arith, d.fewer, e.fewer);
      counted = omega (arith, d.fewer, e.fewer, d.counted, e.counted);
    }

-- a source of which nothing was read, and one that was read on
pub drawn_none : (s : SourceSeen) → Drawn s s
drawn_none s = record {
  tells = refl;
  later = omega arith;
  more = omega arith;
  counted = λ left is fits. draws_none left s.told s.taken is fits;
}

pub drawn_more : (a b c : SourceSeen) → Drawn a b → Drawn b c → Drawn a c
drawn_more a b c d e = record {
  tells = e.tells ∙ d.tells;
  later = omega (arith, d.later, e.later);
  more = omega (arith, d.more, e.more);
  counted = λ left is fits. draws_more left b.told c.told a.taken b.taken c.taken (d.counted left is fits) e.counted;
}
