-- Words that stand in a range of code stand where they can be run.
use Rattle.std.proofs.Common.{◌≡◌, ℕ, zero, suc, ◌+◌, ◌*◌, ◌%◌, ◌^◌, ◌<◌, ◌≤◌, List, [], ◌∷◌, Bool, true, false, ◌&&◌}
use Rattle.std.proofs.Common.{cond, length, refl, ◌∙◌, subst, ap, arith}
use Rattle.std.specs.Prelude.{Some, None, ◌==◌, option_map, slice_index}
use Rattle.rv_isa.specs.declared.Width.TheVariants.{Word}
use Rattle.machine_spec.specs.Memory.{Range, range_at, all_from}
use Rattle.machine_spec.specs.Widths.{number_of, loaded_as}
use Rattle.flat_spec.specs.Stores.{loaded, fetched, bytes_from, allows_fetch, allows_store}
use Rattle.frag_code.specs.Machines.{StandsAt, IsWordAt}

all_passes : (test : ℕ → Bool) (a n : ℕ) → ((k : ℕ) → a ≤ k → k < a + n → test k ≡ true) → all_from test a n ≡ true
all_passes test a zero h = refl
all_passes test a (suc n) h =
    let first : test a ≡ true = h a (omega arith) (omega arith) in
    rw (first, all_passes test (a + 1) n (λ k l m. h k (omega (arith, l)) (omega (arith, m)))) refl

-- a word of a range of code
fetched_there : (memory : List Range) (r : Range) (a w : ℕ) → r.executable ≡ true
    → ((k : ℕ) → a ≤ k → k < a + 4 → range_at memory k ≡ Some r)
    → loaded memory Word a ≡ Some w → fetched memory a ≡ Some w
unfolding fetched loaded
fetched_there memory r a w code lies e = by (a % 4 == 0) refl e
  where
    runs : all_from (λ k. allows_fetch (range_at memory k)) a 4 ≡ true
    runs = all_passes (λ k. allows_fetch (range_at memory k)) a 4 (λ k l m. ap allows_fetch (lies k l m) ∙ code)

    by : (t : Bool) → (a % 4 == 0) ≡ t
        → cond t (option_map (λ bs. loaded_as Word (number_of bs)) (bytes_from memory a 4)) None ≡ Some w
        → cond (t && all_from (λ k. allows_fetch (range_at memory k)) a 4)
        (option_map number_of (bytes_from memory a 4)) None ≡ Some w
    by true t e = rw runs e
    by false t e = absurd (cc)

pub words_stand : (memory : List Range) (r : Range) (at : ℕ) (words : List ℕ) → r.executable ≡ true → r.writable ≡ false
    → at + 4 * length words ≤ 2 ^ 32 → ((a : ℕ) → at ≤ a → a < at + 4 * length words → range_at memory a ≡ Some r)
    → ((k : ℕ) → k < length words → loaded memory Word (at + 4 * k) ≡ Some (slice_index words k))
    → StandsAt memory at words
words_stand memory r at [] code fixed small lies holds = tt
words_stand memory r at (w ∷ ws) code fixed small lies holds = (
  subst (λ a. IsWordAt memory a w) (let e : at ≡ at % 2 ^ 32 = omega (arith, small) in e) (
    fetched_there memory r at w code (λ k l m. lies k l (omega (arith, m)))
        (subst (λ a. loaded memory Word a ≡ Some w) (let e : at + 4 * 0 ≡ at = omega arith in e)
        (holds 0 (omega arith))),
    λ k l m. ap allows_store (lies k l (omega (arith, m))) ∙ fixed,
  ),
  words_stand memory r (at + 4) ws code fixed (omega (arith, small))
      (λ a l m. lies a (omega (arith, l)) (omega (arith, m)))
      (λ k l. subst (λ a. loaded memory Word a ≡ Some (slice_index ws k))
      (let e : at + 4 * suc k ≡ at + 4 + 4 * k = omega arith in e)
      (holds (suc k) (omega (arith, l)))),
)
