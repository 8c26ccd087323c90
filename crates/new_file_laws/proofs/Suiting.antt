-- A plan that fits an accepted file suits its heap: it has few rows, and its area has room behind the new text.
use Rattle.std.proofs.Common.{◌≡◌, ℕ, zero, suc, ◌+◌, ◌*◌, ◌/◌, ◌^◌, ◌<◌, ◌≤◌, Bool, true, false, List, get_or, refl}
use Rattle.std.proofs.Common.{sym, ap, ◌∙◌, subst, arith}
use Rattle.std.specs.Prelude.{All, Any, IsBitSet, bit_and, nat_lt}
use Rattle.std.proofs.lemmas.Bool.Decides.{nat_tests}
use Rattle.std.proofs.lemmas.Nat.{bit_set_by_shift, pow_pos}
use Rattle.std.proofs.Math.Nat.{div-lt_iff_lt-mul, pow-succ'}
use Rattle.plan_core.specs.declared.types.Area.{Area}
use Rattle.plan_core.specs.declared.types.Plan.{Plan}
use Rattle.plan_core.specs.declared.types.PlanLine.{PlanLine}
use Rattle.plan_core.specs.Plan.{granules}
use Rattle.site_spec.specs.Places.{text_at, data_at}
use Rattle.site_spec.specs.Plans.{Fits}
use Rattle.heap_spec.specs.Places.{area_end}
use Rattle.heap_spec.specs.Service.{Suits}
use Rattle.exec_image.specs.Accepted.{AcceptedFacts}
use Rattle.new_file_laws.proofs.Plains.{IsTextPlace, text_place}

-- a number whose bits are below 32 is a word
double : (d : ℕ) → 2 ^ (32 + suc d) ≡ 2 * 2 ^ (32 + d)
double d = let next : 32 + suc d ≡ suc (32 + d) = omega arith in ap (λ k. 2 ^ k) next ∙ pow-succ' 2 (32 + d)

small_above : (m d : ℕ) → m < 2 ^ (32 + d) → ((k : ℕ) → IsBitSet m k → k < 32) → m < 2 ^ 32
small_above m zero low bits = low
small_above m (suc d) low bits = by_bit (λ less. small_above m d less bits) (nat_lt (m / 2 ^ (32 + d)) 1) refl
  where
    some : 0 < 2 ^ (32 + d)
    some = pow_pos (32 + d)

    twice : m < 2 * 2 ^ (32 + d)
    twice = subst (λ x. m < x) (double d) low

    least : m / 2 ^ (32 + d) < 2
    least = (div-lt_iff_lt-mul some).1 twice

    by_bit : (m < 2 ^ (32 + d) → m < 2 ^ 32) → (b : Bool) → nat_lt (m / 2 ^ (32 + d)) 1 ≡ b → m < 2 ^ 32
    by_bit more true e =
        let none : m / 2 ^ (32 + d) < 1 = grind (arith, nat_tests) in
        let below : m < 1 * 2 ^ (32 + d) = (div-lt_iff_lt-mul some).0 none in
        more (omega (arith, below))
    by_bit more false e =
        let one : 1 ≤ m / 2 ^ (32 + d) = grind (arith, nat_tests) in
        let is : m / 2 ^ (32 + d) ≡ 1 = omega (arith, one, least) in
        let set : bit_and (m / 2 ^ (32 + d)) 1 ≡ 1 = rw is refl in
        let high : 32 + d < 32 = bits (32 + d) ((bit_set_by_shift m (32 + d)).0 set) in
        absurd (omega (arith, high))

below_power : (m : ℕ) → m < 2 ^ (32 + m)
below_power zero = omega arith
below_power (suc m) =
    let less : m < 2 ^ (32 + m) = below_power m in
    let more : suc m < 2 * 2 ^ (32 + m) = omega (arith, less) in
    subst (λ x. suc m < x) (sym (double m)) more

masks : (file : List ℕ) (plan : Plan) → Fits file plan → All (λ row. row.mask < 2 ^ 32) plan.rows
masks file plan fits = λ i d low.
    small_above (get_or plan.rows i d).mask (get_or plan.rows i d).mask (below_power (get_or plan.rows i d).mask)
    (λ n set. bit_small n (fits.masks i d low n set))
  where
    bit_small : (n : ℕ) → Any (λ line. line.bit ≡ n) plan.sites → n < 32
    bit_small n (k, line, there, is, bit) =
        subst (λ x. x < 32) bit (subst (λ (l : PlanLine). l.bit < 32) is (fits.bits k line there))

-- where the area ends
pub end_below : (area : Area) (at : ℕ) → area.chunks ≤ 256 → granules area ≤ 1048576
    → area_end area at ≤ at + 25300000
end_below area at chunks few = bound area.chunks (granules area) chunks few
  where
    bound : (c g : ℕ) → c ≤ 256 → g ≤ 1048576 → at + (128 + 16 * c + 8 * g + 15) / 16 * 16 + 16 * g ≤ at + 25300000
    bound c g l f = omega arith

pub suits : (file : List ℕ) (plan : Plan) → AcceptedFacts file → Fits file plan
    → Suits plan.rows plan.area (text_at file) (data_at file)
suits file plan facts fits =
    let place : IsTextPlace file = text_place file facts.end in
    let end : area_end plan.area (data_at file) ≤ data_at file + 25300000 =
    end_below plan.area (data_at file) fits.chunks fits.area in
    record {
      few_rows = fits.few_rows;
      groups = fits.groups;
      masks = masks file plan fits;
      log_chunk = fits.log_chunk;
      chunks = fits.chunks;
      granules = fits.area;
      page = place.page;
      tables = refl;
      below_stack = omega (arith, place.low, end);
    }
