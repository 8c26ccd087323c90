-- Bits of site lines as masks.
use Rattle.std.proofs.Common.{◌≡◌, ℕ, suc, ◌+◌, List, [], ◌∷◌, Bool, true, false, cond, map, find, position, refl, ap}
use Rattle.std.proofs.Common.{◌∙◌, arith}
use Rattle.std.specs.Prelude.{Option, Some, None, option_map, option_and_then, slice_get, if◌then◌else◌}
use Rattle.std.specs.List.{position_from}
use Rattle.std.proofs.lemmas.Iterator.Adapters.{position_from-zero}
use Rattle.plan_core.specs.declared.types.PlanLine.{PlanLine}
use Rattle.plan_core.specs.declared.types.Plan.{Plan}
use Rattle.site_spec.specs.declared.Site.{Site}
use Rattle.site_spec.specs.Sites.{site_at}
use Rattle.sym_spec.specs.SymMachine.{set_bit, clear_bit, is_back, back_index}
use Rattle.sym_machine.specs.Found.{mask_of, mask_back, return_of, is_address, comes_to, bits_set, bits_cleared}

pub set_by_mask : (line : Option PlanLine) (bits : ℕ) → set_bit line bits ≡ bits_set (mask_of line) bits
set_by_mask (Some line) bits = refl
set_by_mask None bits = refl

pub cleared_by_mask : (line : Option PlanLine) (bits : ℕ) → clear_bit line bits ≡ bits_cleared (mask_of line) bits
cleared_by_mask (Some line) bits = refl
cleared_by_mask None bits = refl

-- the first element that passes, by its position
from_there : {A : Type 0} (p : A → Bool) (get : ℕ → Option A) (xs : List A) (i : ℕ)
    → ((j : ℕ) → get (i + j) ≡ slice_get xs j) → option_and_then get (position_from p i xs) ≡ find p xs
from_there p get [] i h = refl
from_there p get (x ∷ xs) i h =
    by_test (p x) (from_there p get xs (i + 1) (λ j. ap get (omega arith) ∙ h (suc j)))
  where
    by_test : (b : Bool) → option_and_then get (position_from p (i + 1) xs) ≡ find p xs
        → option_and_then get (cond b (Some i) (position_from p (i + 1) xs)) ≡ cond b (Some x) (find p xs)
    by_test true ih = ap get (omega arith) ∙ h 0
    by_test false ih = ih

by_position : {A : Type 0} (p : A → Bool) (xs : List A) → option_and_then (slice_get xs) (position p xs) ≡ find p xs
by_position p xs = ap (option_and_then (slice_get xs)) (position_from-zero p xs)
    ∙ from_there p (slice_get xs) xs 0 (λ j. ap (slice_get xs) (omega arith))

comes_back : (a : ℕ) (s : Option Site) → is_back a s ≡ is_address a (option_map (λ s. s.back) s)
comes_back a (Some s) = refl
comes_back a None = refl

find_return : (file : List ℕ) (a : ℕ) (lines : List PlanLine)
    → mask_of (find (λ line. is_back a (site_at file line.addr)) lines)
    ≡ option_map (λ r. r.mask) (find (comes_to a) (map (return_of file) lines))
find_return file a [] = refl
find_return file a (line ∷ lines) =
    by_test (is_back a (site_at file line.addr)) (comes_to a (return_of file line))
    (comes_back a (site_at file line.addr)) (find_return file a lines)
  where
    by_test : (b c : Bool) → b ≡ c
        → mask_of (find (λ line. is_back a (site_at file line.addr)) lines)
        ≡ option_map (λ r. r.mask) (find (comes_to a) (map (return_of file) lines))
        → mask_of (if b then Some line else find (λ line. is_back a (site_at file line.addr)) lines)
        ≡ option_map (λ r. r.mask)
        (if c then Some (return_of file line) else find (comes_to a) (map (return_of file) lines))
    by_test true true e ih = refl
    by_test false false e ih = ih
    by_test true false e ih = absurd (cc)
    by_test false true e ih = absurd (cc)

-- the line whose call comes back to an address, in the table of returns
pub line_back : (file : List ℕ) (plan : Plan) (a : ℕ) → mask_back file plan a
    ≡ option_map (λ r. r.mask) (find (comes_to a) (map (return_of file) plan.sites))
unfolding back_index
line_back file plan a =
    ap mask_of (by_position (λ line. is_back a (site_at file line.addr)) plan.sites) ∙ find_return file a plan.sites
