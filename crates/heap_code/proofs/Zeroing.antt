-- A block becomes zero, granule by granule, from the last to the first.
use Rattle.std.proofs.Common.{◌≡◌, ℕ, suc, ◌+◌, ◌*◌, ◌%◌, ◌^◌, ◌<◌, ◌≤◌, ◌⊎◌, true, refl, ◌∙◌, inl, inr, arith}
use Rattle.std.proofs.lemmas.Bool.{cases_lt, cases_eq}
use Rattle.rv_isa.specs.declared.Cond.TheVariants.{Ne}
use Rattle.frag_code.specs.Meaning.{View, Rights, put, holds, tested, frag_run}
use Rattle.frag_code.specs.Ends.{Ends}
use Rattle.frag_code.proofs.Rules.{view, seq_ends, skip_ends, imm_then, compute_then, store_then}
use Rattle.frag_code.proofs.Loops.{while_count}
use Rattle.frag_rules.proofs.Values.{sum_is, add_is, times_16, plus_is, ne_no, ne_false}
use Rattle.frag_rules.proofs.Spans.{put_here, put_there}
use Rattle.heap_code.specs.Pieces.{zero_granule, zero_block}

-- the words of n granules are zero, all others are as before
pub record ZeroFor (a n : ℕ) (m m' : ℕ → ℕ) : Type 0 where
  pub zeros : (k : ℕ) → k % 4 ≡ 0 → a ≤ k → k < a + 16 * n → m' k ≡ 0
  pub others : (k : ℕ) → (k < a) ⊎ (a + 16 * n ≤ k) → m' k ≡ m k

-- four words that became zero
abbrev four : (ℕ → ℕ) → ℕ → ℕ → ℕ
four m x = put (put (put (put m x 0) (x + 4) 0) (x + 8) 0) (x + 12) 0

four_zero : (m : ℕ → ℕ) (x k : ℕ) → x % 4 ≡ 0 → k % 4 ≡ 0 → x ≤ k → k < x + 16 → four m x k ≡ 0
four_zero m x k p q l h = by (cases_eq k (x + 12)) (cases_eq k (x + 8)) (cases_eq k (x + 4))
  where
    by : (k ≡ x + 12) ⊎ (k ≡ x + 12 → ⊥) → (k ≡ x + 8) ⊎ (k ≡ x + 8 → ⊥) → (k ≡ x + 4) ⊎ (k ≡ x + 4 → ⊥)
        → four m x k ≡ 0
    by (inl e) s t = put_here (put (put (put m x 0) (x + 4) 0) (x + 8) 0) (x + 12) 0 k e
    by (inr n) (inl e) t =
        put_there (put (put (put m x 0) (x + 4) 0) (x + 8) 0) (x + 12) 0 k n
        ∙ put_here (put (put m x 0) (x + 4) 0) (x + 8) 0 k e
    by (inr n) (inr o) (inl e) =
        put_there (put (put (put m x 0) (x + 4) 0) (x + 8) 0) (x + 12) 0 k n
        ∙ (put_there (put (put m x 0) (x + 4) 0) (x + 8) 0 k o ∙ put_here (put m x 0) (x + 4) 0 k e)
    by (inr n) (inr o) (inr z) =
        put_there (put (put (put m x 0) (x + 4) 0) (x + 8) 0) (x + 12) 0 k n
        ∙ (put_there (put (put m x 0) (x + 4) 0) (x + 8) 0 k o ∙ (put_there (put m x 0) (x + 4) 0 k z
        ∙ put_here m x 0 k (omega (arith, p, q, l, h, n, o, z))))

four_other : (m : ℕ → ℕ) (x k : ℕ) → (k < x) ⊎ (x + 16 ≤ k) → four m x k ≡ m k
four_other m x k o =
    put_there (put (put (put m x 0) (x + 4) 0) (x + 8) 0) (x + 12) 0 k (λ e. by o (omega (arith, e)) (omega (arith, e)))
    ∙ (put_there (put (put m x 0) (x + 4) 0) (x + 8) 0 k (λ e. by o (omega (arith, e)) (omega (arith, e)))
    ∙ (put_there (put m x 0) (x + 4) 0 k (λ e. by o (omega (arith, e)) (omega (arith, e)))
    ∙ put_there m x 0 k (λ e. by o (omega (arith, e)) (omega (arith, e)))))
  where
    by : (k < x) ⊎ (x + 16 ≤ k) → x ≤ k → k < x + 16 → ⊥
    by (inl l) lo hi = omega (arith, l, lo)
    by (inr l) lo hi = omega (arith, l, hi)

module _ (g : Rights) (w a all : ℕ) (m : ℕ → ℕ) (c : ℕ) (aligned : a % 4 ≡ 0) (end : a + 16 * all < 2 ^ 32)
    (may : (k : ℕ) → a ≤ k → k < a + 16 * all → g.writes k ≡ true) where
  -- with n granules left
  record Left (n : ℕ) (t : View) : Type 0 where
    at : t.registers 10 ≡ a + 16 * n
    first : t.registers 6 ≡ a
    few : n ≤ all
    zeros : (k : ℕ) → k % 4 ≡ 0 → a + 16 * n ≤ k → k < a + 16 * all → t.memory k ≡ 0
    others : (k : ℕ) → (k < a + 16 * n) ⊎ (a + 16 * all ≤ k) → t.memory k ≡ m k
    spent : t.spent + 18 * n ≤ c + 6 + 18 * all

  next_ends : (n : ℕ) (t : View) → Left (suc n) t → holds Ne 10 6 t ≡ true
      → Ends (frag_run g zero_granule w (tested t)) (Left n)
  next_ends n t l held =
      let at = l.at in
      let few = l.few in
      let sp = l.spent in
      imm_then _ _ _ _ _ _ _ _ _ _ _ (a + 16 * n) (sum_is _ _ _ (omega (arith, at, few, end)))
      (store_then _ _ _ _ _ _ _ _ _ _ (a + 16 * n) 0 (plus_is _ _ _ (omega arith) (omega (arith, few, end)))
      (omega (arith, aligned))
      (may (a + 16 * n) (omega arith) (omega (arith, few))) refl
      (store_then _ _ _ _ _ _ _ _ _ _ (a + 16 * n + 4) 0 (plus_is _ _ _ refl (omega (arith, few, end)))
      (omega (arith, aligned))
      (may (a + 16 * n + 4) (omega arith) (omega (arith, few))) refl
      (store_then _ _ _ _ _ _ _ _ _ _ (a + 16 * n + 8) 0 (plus_is _ _ _ refl (omega (arith, few, end)))
      (omega (arith, aligned))
      (may (a + 16 * n + 8) (omega arith) (omega (arith, few))) refl
      (store_then _ _ _ _ _ _ _ _ _ _ (a + 16 * n + 12) 0 (plus_is _ _ _ refl (omega (arith, few, end)))
      (omega (arith, aligned))
      (may (a + 16 * n + 12) (omega arith) (omega (arith, few))) refl
      (skip_ends _ _ _ _ _ _ (record {
        at = refl;
        first = l.first;
        few = omega (arith, few);
        zeros = λ k q lo hi. zero_at k q lo hi (cases_lt k (a + 16 * suc n));
        others = λ k o. four_other t.memory (a + 16 * n) k (beside k o) ∙ l.others k (above k o);
        spent = omega (arith, sp);
      }))))))
    where
      zero_at : (k : ℕ) → k % 4 ≡ 0 → a + 16 * n ≤ k → k < a + 16 * all → (k < a + 16 * suc n) ⊎ (a + 16 * suc n ≤ k)
          → four t.memory (a + 16 * n) k ≡ 0
      zero_at k q lo hi (inl h) = four_zero t.memory (a + 16 * n) k (omega (arith, aligned)) q lo (omega (arith, h))
      zero_at k q lo hi (inr h) = four_other t.memory (a + 16 * n) k (inr (omega (arith, h))) ∙ l.zeros k q h hi

      beside : (k : ℕ) → (k < a + 16 * n) ⊎ (a + 16 * all ≤ k) → (k < a + 16 * n) ⊎ (a + 16 * n + 16 ≤ k)
      beside k (inl h) = inl h
      beside k (inr h) = inr (let f = l.few in omega (arith, h, f))

      above : (k : ℕ) → (k < a + 16 * n) ⊎ (a + 16 * all ≤ k) → (k < a + 16 * suc n) ⊎ (a + 16 * all ≤ k)
      above k (inl h) = inl (omega (arith, h))
      above k (inr h) = inr h

  pub zero_ends : (r : ℕ → ℕ) → r 6 ≡ a → r 10 ≡ all → all ≤ w
      → Ends (frag_run g zero_block w (view r m c)) (λ t. (t.registers 10 ≡ a)
      × ((t.registers 6 ≡ a) × (ZeroFor a all m t.memory × (t.spent ≤ c + 18 * all + 9))))
  zero_ends r r6 r10 few =
      imm_then _ _ _ _ _ _ _ _ _ _ _ (16 * all) (times_16 _ _ (omega (arith, r10)) (omega (arith, end)))
      (compute_then _ _ _ _ _ _ _ _ _ _ _ (a + 16 * all) (add_is _ _ _ (omega (arith, r6)) end)
      (seq_ends _ _ _ _ _ _ _ _ Done
      (while_count _ _ Done _ _ _ _ Left next_ends (λ t l.
      ne_no _ _ (let at = l.at in let first = l.first in omega (arith, at, first)))
      (λ n t l held.
      let at = l.at in
      let first = l.first in
      let none : n ≡ 0 = (let e = ne_false (t.registers 10) (t.registers 6) held in omega (arith, e, at, first)) in
      let sp = l.spent in (
        omega (arith, at, none),
        (
          first,
          (
            record {
              zeros = λ k q lo hi. l.zeros k q (omega (arith, lo, none)) hi;
              others = λ k o. l.others k (low n none k o);
            },
            omega (arith, sp, none),
          ),
        ),
      ))
      all few (view (put (put r 10 (16 * all)) 10 (a + 16 * all)) m (c + 3 + 3)) (record {
        at = refl;
        first = r6;
        few = omega arith;
        zeros = λ k q lo hi. absurd (omega (arith, lo, hi));
        others = λ k o. refl;
        spent = omega arith;
      }))
      (λ r' m' c' h. skip_ends _ _ _ _ _ _ h)))
    where
      Done : View → Type 0
      Done t = (t.registers 10 ≡ a) × ((t.registers 6 ≡ a) × (ZeroFor a all m t.memory × (t.spent ≤ c + 18 * all + 9)))

      low : (n : ℕ) → n ≡ 0 → (k : ℕ) → (k < a) ⊎ (a + 16 * all ≤ k) → (k < a + 16 * n) ⊎ (a + 16 * all ≤ k)
      low n e k (inl h) = inl (omega (arith, h, e))
      low n e k (inr h) = inr h
