-- Sources that count what they give.
use Rattle.std.proofs.Common.{◌≡◌, ℕ, ◌-◌, ◌^◌, ◌<◌, List, length, ap, ◌∙◌, arith}
use Rattle.std.proofs.lemmas.List.{length-drop}
use Rattle.std.specs.Prelude.{Option, Some}
use Rattle.halo_outside.specs.Seen.{count_after, Moves}
use Rattle.machine_run.specs.Runs.{Draws}
use Rattle.machine_run.proofs.Feeding.{has_moved}

-- nothing was taken
pub draws_none : (left : List ℕ) (told : Option (List ℕ)) (before : ℕ) → told ≡ Some left → before < 2 ^ 64
    → Draws left told before before
draws_none left told before is fits =
    record { rest = left; rest_is = is; fewer = omega arith; counted = omega arith }

-- a read that failed took nothing
pub draws_kept : (had : List ℕ) (told told' : Option (List ℕ)) (before mid now : ℕ) → Draws had told before mid
    → told' ≡ told → now ≡ mid
    → Draws had told' before now
draws_kept had told told' before mid now d same count =
    record { rest = d.rest; rest_is = same ∙ d.rest_is; fewer = d.fewer; counted = count ∙ d.counted }

-- more was taken
pub draws_more : (had : List ℕ) (told told' : Option (List ℕ)) (before mid now : ℕ) → Draws had told before mid
    → ((left : List ℕ) → told ≡ Some left → mid < 2 ^ 64 → Draws left told' mid now) → Draws had told' before now
draws_more had told told' before mid now d next =
    let fits : mid < 2 ^ 64 = omega (arith, d.counted) in
    let e = next d.rest d.rest_is fits in
    record {
      rest = e.rest;
      rest_is = e.rest_is;
      fewer = omega (arith, d.fewer, e.fewer);
      counted = omega (arith, d.fewer, e.fewer, d.counted, e.counted);
    }

-- one read
pub draws_read : (left : List ℕ) (count : ℕ) (told told' : Option (List ℕ)) (before now : ℕ) (buffer buffer' : List ℕ)
    → told ≡ Some left → Moves told told' count buffer buffer' → now ≡ count_after before count
    → Draws left told' before now
draws_read left count told told' before now buffer buffer' is moves counted =
    let h = has_moved left count told told' buffer buffer' is moves in
    let size : length h.rest ≡ length left - count = ap length h.moved.rest_is ∙ length-drop count left in
    record {
      rest = h.rest;
      rest_is = h.left_is;
      fewer = omega (arith, size);
      counted = omega (arith, size, h.moved.within, counted);
    }

-- a further read
pub draws_next : (had : List ℕ) (count : ℕ) (told told' : Option (List ℕ)) (before mid now : ℕ)
    (buffer buffer' : List ℕ)
    → Draws had told before mid → Moves told told' count buffer buffer' → now ≡ count_after mid count
    → Draws had told' before now
draws_next had count told told' before mid now buffer buffer' d moves counted =
    draws_more had told told' before mid now d
    (λ left is fits. draws_read left count told told' mid now buffer buffer' is moves counted)
