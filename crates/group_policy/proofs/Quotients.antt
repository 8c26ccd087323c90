-- The quotients of the density are whole, small, and fall where no edge joins a candidate to its group.
use Rattle.std.proofs.Common.{◌≡◌, ℕ, suc, zero, nat_le, ◌&&◌, ◌+◌, ◌-◌, ◌*◌, ◌/◌, ◌^◌, ◌<◌, ◌≤◌, ◌≢◌, ◌==◌, Bool, true}
use Rattle.std.proofs.Common.{◌||◌, max, refl, sym, ◌∙◌, ap, arith}
use mir.Val.{bool_byte}
use lib.Dec.{ltb}
use Rattle.std.proofs.Math.Nat.{mul-div_cancel, mul-le-mul_left, mul-le-mul_right, le_of_mul-le-mul_right, div-le_self}
use Rattle.std.proofs.lemmas.Int.{ints}
use Rattle.std.proofs.lemmas.Bool.{agree_below_at}
use Rattle.std.proofs.lemmas.Bool.Decides.{nat_tests}
use Rattle.group_policy.specs.declared.cut.Cut.{Cut}
use Rattle.group_policy.specs.Cuts.{InRange, IsFair}
use Rattle.group_policy.specs.Densities.{scale, score_of, own_loop, group_places, node_places, joined_places}
use Rattle.group_policy.specs.Densities.{joined_weight, density_of, IsWhole, QuotientsAreWhole}

-- each number up to 36 divides the scale
is_divisor : ℕ → Bool
is_divisor k = (k == 0) || (scale / k * k == scale)

pub divides : (n : ℕ) → n ≤ 36 → n ≢ 0 → scale / n * n ≡ scale
unfolding is_divisor
divides n few some = let below : n < 37 = omega arith in
    let holds : is_divisor n ≡ true = agree_below_at is_divisor (λ _. true) 37 n refl below in grind (arith, nat_tests)

-- a quotient that times its divisor is the weight is the score
pub score_at : (w n q s : ℕ) → 0 < n → q * n ≡ s → w * q ≡ w * s / n
score_at w n q s some e = let regrouped : w * s ≡ w * q * n = grind arith in
    sym (ap (λ t. t / n) regrouped ∙ mul-div_cancel (w * q) some)

pub score_is : (w n : ℕ) → n ≤ 36 → n ≢ 0 → w * (scale / n) ≡ score_of w n
score_is w zero few some = absurd (some refl)
score_is w (suc n) few some = score_at w (suc n) (scale / suc n) scale (omega arith) (divides (suc n) few some)

-- a quotient that times its divisor is the scale gives back the weight
pub regrouped : (w q n s : ℕ) → q * n ≡ s → w * q * n ≡ w * s
regrouped w q n s e = grind arith

pub whole : (w n : ℕ) → n ≤ 36 → (n ≡ 0 → w ≡ 0) → IsWhole w n
whole w zero few empty = let e : w ≡ 0 = empty refl in rw e
whole w (suc n) few empty = let some : suc n ≢ 0 = omega arith in
    rw (← score_is w (suc n) few some) (let d = divides (suc n) few some in regrouped w (scale / suc n) (suc n) scale d)

pub score_small : (w n : ℕ) → w ≤ 44 * 2 ^ 44 → score_of w n < 2 ^ 97
score_small w zero h = omega arith
score_small w (suc n) h = let below : w * scale / suc n ≤ w * scale = div-le_self (w * scale) (suc n) in omega arith

pub falls : (j m a n : ℕ) → 0 < n → 150 * a ≤ 850 * n → j * (a + n) ≤ m * a → 1000 * j ≤ 850 * m
falls j m a n some few h = let room : m * (150 * a) ≤ m * (850 * n) = mul-le-mul_left m few in
    let times : 1000 * j * (a + n) ≤ 850 * m * (a + n) = grind arith in
    let above : 0 < a + n = omega arith in le_of_mul-le-mul_right times above

-- the pairs of some members
abbrev pairs : ℕ → ℕ
pairs n = n * (n - 1) / 2

-- one member more makes a pair with each; the places are few, and fewer than the new pairs leave room for
are_few_pairs : ℕ → Bool
are_few_pairs n = (n == 0)
    || ((pairs (n + 1) == pairs n + n) && (nat_le n (pairs n + 1)
    && (nat_le (pairs n + n + n + 1) 36 && nat_le (150 * (n + pairs n + 1)) (850 * n))))

pub record FewPairs (n : ℕ) : Type 0 where
  pub more : pairs (n + 1) ≡ pairs n + n
  pub some : n ≤ pairs n + 1
  pub few : pairs n + n + n + 1 ≤ 36
  pub room : 150 * (n + pairs n + 1) ≤ 850 * n

pub few_pairs : (n : ℕ) → 1 ≤ n → n ≤ 7 → FewPairs n
unfolding are_few_pairs
few_pairs n some few = let below : n < 8 = omega arith in
    let holds : are_few_pairs n ≡ true = agree_below_at are_few_pairs (λ _. true) 8 n refl below in
    record {
      more = grind (arith, nat_tests);
      some = grind (arith, nat_tests);
      few = grind (arith, nat_tests);
      room =
          grind (arith, nat_tests);
    }

pub own_small : (l : ℕ) → own_loop l ≤ 1
own_small zero = omega arith
own_small (suc _) = omega arith

pub own_byte : (l : ℕ) → bool_byte (ltb 0 l) ≡ own_loop l
own_byte zero = refl
own_byte (suc n) = let some : ltb 0 (suc n) ≡ true = grind (arith, nat_tests) in ap bool_byte some

pub own_none : (l : ℕ) → own_loop l ≡ 0 → l ≡ 0
own_none zero h = refl
own_none (suc _) h = absurd (omega (arith, h))

-- no place inside the joined group means no edge inside it: it has at least the pair with the candidate
pub all_whole : (cut : Cut) → InRange cut → QuotientsAreWhole cut
all_whole cut r = let f = few_pairs cut.nodes r.some r.few in
    let own = own_small cut.node_loop in
    let one : (cut.nodes + 1) * (cut.nodes + 1 - 1) / 2 ≡ pairs cut.nodes + cut.nodes = f.more in
    record {
      group = whole cut.weight (group_places cut) (omega arith)
          (λ h. r.alone (omega (arith, h, f.some)) (omega (arith, h)));
      node = whole cut.node_loop (node_places cut) (omega arith) (λ h. own_none cut.node_loop (omega (arith, h)));
      joined = whole (joined_weight cut) (joined_places cut) (omega arith) (λ h. absurd (omega (arith, h, r.some)));
    }

-- the parts' weights are at most what the greater score has on the places of both
pub sums : (j g x m p q n w l s : ℕ) → g ≤ m → x ≤ m → g * p ≡ w * s → x * q ≡ l * s →
    j * (p + q + n) ≡ (w + l) * s → j * (p + q + n) ≤ m * (p + q)
sums j g x m p q n w l s most_g most_x eg ex ej =
    let front : g * p ≤ m * p = mul-le-mul_right p most_g in
    let back : x * q ≤ m * q = mul-le-mul_right q most_x in grind arith

-- at most 850 thousandths of the greater score are left, so no more than what the tolerance asks for
pub no_gain : (j m t : ℕ) → t ≤ 150 → 1000 * j ≤ 850 * m → 1000 * j ≤ (1000 - t) * m
no_gain j m t few h = let more : 850 * m ≤ (1000 - t) * m = mul-le-mul_right m (omega arith) in omega arith

pub small_product : (k m : ℕ) → k ≤ 1000 → m < 2 ^ 97 → k * m ≤ 2 ^ 107
small_product k m few small = let more : k * m ≤ 1000 * m = mul-le-mul_right m few in omega arith

pub all_fair : (cut : Cut) → InRange cut → IsFair cut (density_of cut)
unfolding density_of
all_fair cut r = let f = few_pairs cut.nodes r.some r.few in
    let own = own_small cut.node_loop in
    let w = all_whole cut r in
    let j = score_of (joined_weight cut) (joined_places cut) in
    let g = score_of cut.weight (group_places cut) in
    let x = score_of cut.node_loop (node_places cut) in
    let m = max g x in
    let small_j : j < 2 ^ 97 = score_small (joined_weight cut) (joined_places cut) (omega arith) in
    let small_g : g < 2 ^ 97 = score_small cut.weight (group_places cut) (omega arith) in
    let small_x : x < 2 ^ 97 = score_small cut.node_loop (node_places cut) (omega arith) in
    let small_m : m < 2 ^ 97 = omega arith in
    let lost : (1000 - cut.tolerance) * m ≤ 2 ^ 107 = small_product (1000 - cut.tolerance) m (omega arith) small_m in
    let joined : cut.cross ≡ 0 → 1000 * j ≤ (1000 - cut.tolerance) * m = λ none.
    let places_are : joined_places cut ≡ group_places cut + node_places cut + cut.nodes = omega (arith, f.more) in
    let e : j * (group_places cut + node_places cut + cut.nodes) ≡ (cut.weight + cut.node_loop) * scale =
    ap (λ t. j * t) (sym places_are) ∙ w.joined ∙ ap (λ t. t * scale) (omega (arith, none)) in
    let both = sums j g x m (group_places cut) (node_places cut) cut.nodes cut.weight cut.node_loop scale
    (omega arith) (omega arith) w.group w.node e in
    no_gain j m cut.tolerance r.tolerance
    (falls j m (group_places cut + node_places cut) cut.nodes (omega (arith, r.some)) (omega (arith, f.room)) both)
    in record {
      low = omega (arith, ints);
      high = omega (arith, ints);
      apart = λ none. let h = joined none in omega (arith, ints, h);
    }
