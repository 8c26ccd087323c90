-- What holds of each of some successive addresses.
use Rattle.std.proofs.Common.{◌≡◌, ℕ, zero, suc, ◌+◌, ◌<◌, ◌≤◌, Bool, true, false, ◌&&◌, refl, arith}
use Rattle.std.specs.Prelude.{nat_eq}
use Rattle.std.proofs.lemmas.Bool.Decides.{nat_tests}
use Rattle.machine_spec.specs.Memory.{all_from}

pub and_first : (p q : Bool) → (p && q) ≡ true → p ≡ true
and_first true q h = refl
and_first false q h = h

pub and_second : (p q : Bool) → (p && q) ≡ true → q ≡ true
and_second true q h = h
and_second false q h = absurd (cc)

-- each address passes
pub each_passes : (test : ℕ → Bool) (a n : ℕ) → all_from test a n ≡ true → (k : ℕ) → a ≤ k → k < a + n → test k ≡ true
each_passes test a zero h k low high = absurd (omega arith)
each_passes test a (suc n) h k low high =
    at (each_passes test (a + 1) n (and_second (test a) (all_from test (a + 1) n) h) k) (nat_eq k a) refl
  where
    at : (a + 1 ≤ k → k < a + 1 + n → test k ≡ true) → (v : Bool) → nat_eq k a ≡ v → test k ≡ true
    at ih true e =
        let same : k ≡ a = grind (arith, nat_tests) in
        rw same (and_first (test a) (all_from test (a + 1) n) h)
    at ih false e =
        let other : a + 1 ≤ k = grind (arith, nat_tests) in
        ih other (omega arith)

-- two tests that agree at each address agree on all
pub all_agree : (test other : ℕ → Bool) (a n : ℕ) → ((k : ℕ) → a ≤ k → k < a + n → test k ≡ other k)
    → all_from test a n ≡ all_from other a n
all_agree test other a zero h = refl
all_agree test other a (suc n) h =
    let here : test a ≡ other a = h a (omega arith) (omega arith) in
    let rest : all_from test (a + 1) n ≡ all_from other (a + 1) n =
    all_agree test other (a + 1) n (λ k low high. h k (omega arith) (omega arith)) in
    rw (here, rest) refl

-- all pass where each does
pub all_pass : (test : ℕ → Bool) (a n : ℕ) → ((k : ℕ) → a ≤ k → k < a + n → test k ≡ true) → all_from test a n ≡ true
all_pass test a zero h = refl
all_pass test a (suc n) h =
    rw (h a (omega arith) (omega arith), all_pass test (a + 1) n (λ k low high. h k (omega arith) (omega arith))) refl
