-- Granules are copied one a turn, the words of each are read before they are written.
use Rattle.std.proofs.Common.{◌≡◌, ◌≢◌, ℕ, suc, ◌+◌, ◌*◌, ◌%◌, ◌^◌, ◌<◌, ◌≤◌, ◌⊎◌, true, refl, sym, ◌∙◌, ap, subst}
use Rattle.std.proofs.Common.{arith, inl, inr}
use Rattle.std.proofs.lemmas.Bool.{cases_eq, cases_lt}
use Rattle.rv_isa.specs.declared.Cond.TheVariants.{Ne}
use Rattle.frag_code.specs.Ends.{Ends}
use Rattle.frag_code.specs.Meaning.{View, Rights, put, tested, holds, frag_run}
use Rattle.frag_code.proofs.Loops.{while_count}
use Rattle.frag_code.proofs.Rules.{view, imm_then, compute_then, load_then, store_then, seq_ends, skip_ends}
use Rattle.frag_rules.proofs.Spans.{put_here, put_there}
use Rattle.frag_rules.proofs.Values.{add_is, times_16, plus_is, ne_no, ne_false}
use Rattle.heap_bytes.specs.Copying.{copy_granule, copy_block, CopiedFor, MayCopy, CopiesBlocks}

-- four words are written
abbrev pub four : (ℕ → ℕ) → (b v0 v1 v2 v3 : ℕ) → ℕ → ℕ
four m b v0 v1 v2 v3 = put (put (put (put m b v0) (b + 4) v1) (b + 8) v2) (b + 12) v3

four_other : (m : ℕ → ℕ) (b v0 v1 v2 v3 k : ℕ) → (k < b) ⊎ (b + 16 ≤ k) → four m b v0 v1 v2 v3 k ≡ m k
four_other m b v0 v1 v2 v3 k out =
    put_there (put (put (put m b v0) (b + 4) v1) (b + 8) v2) (b + 12) v3 k (apart 12 (omega arith) out)
    ∙ (put_there (put (put m b v0) (b + 4) v1) (b + 8) v2 k (apart 8 (omega arith) out)
    ∙ (put_there (put m b v0) (b + 4) v1 k (apart 4 (omega arith) out) ∙ put_there m b v0 k (first out)))
  where
    apart : (j : ℕ) → j < 16 → (k < b) ⊎ (b + 16 ≤ k) → k ≢ b + j
    apart j l (inl o) e = omega (arith, l, o, e)
    apart j l (inr o) e = omega (arith, l, o, e)

    first : (k < b) ⊎ (b + 16 ≤ k) → k ≢ b
    first (inl o) e = omega (arith, o, e)
    first (inr o) e = omega (arith, o, e)

-- each of them is read
four_0 : (m : ℕ → ℕ) (b v0 v1 v2 v3 k : ℕ) → k ≡ b → four m b v0 v1 v2 v3 k ≡ v0
four_0 m b v0 v1 v2 v3 k e =
    put_there (put (put (put m b v0) (b + 4) v1) (b + 8) v2) (b + 12) v3 k (λ q. omega (arith, q, e))
    ∙ (put_there (put (put m b v0) (b + 4) v1) (b + 8) v2 k (λ q. omega (arith, q, e))
    ∙ (put_there (put m b v0) (b + 4) v1 k (λ q. omega (arith, q, e)) ∙ put_here m b v0 k e))

four_1 : (m : ℕ → ℕ) (b v0 v1 v2 v3 k : ℕ) → k ≡ b + 4 → four m b v0 v1 v2 v3 k ≡ v1
four_1 m b v0 v1 v2 v3 k e =
    put_there (put (put (put m b v0) (b + 4) v1) (b + 8) v2) (b + 12) v3 k (λ q. omega (arith, q, e))
    ∙ (put_there (put (put m b v0) (b + 4) v1) (b + 8) v2 k (λ q. omega (arith, q, e))
    ∙ put_here (put m b v0) (b + 4) v1 k e)

four_2 : (m : ℕ → ℕ) (b v0 v1 v2 v3 k : ℕ) → k ≡ b + 8 → four m b v0 v1 v2 v3 k ≡ v2
four_2 m b v0 v1 v2 v3 k e =
    put_there (put (put (put m b v0) (b + 4) v1) (b + 8) v2) (b + 12) v3 k (λ q. omega (arith, q, e))
    ∙ put_here (put (put m b v0) (b + 4) v1) (b + 8) v2 k e

four_3 : (m : ℕ → ℕ) (b v0 v1 v2 v3 k : ℕ) → k ≡ b + 12 → four m b v0 v1 v2 v3 k ≡ v3
four_3 m b v0 v1 v2 v3 k e = put_here (put (put (put m b v0) (b + 4) v1) (b + 8) v2) (b + 12) v3 k e

-- on the way: some granules were copied, n are left
pub record Copying (g : Rights) (from to total most : ℕ) (m : ℕ → ℕ) (n : ℕ) (s : View) : Type 0 where
  pub done : ℕ
  pub sum : done + n ≡ total
  pub at_from : s.registers 5 ≡ from + 16 * done
  pub at_to : s.registers 6 ≡ to + 16 * done
  pub end : s.registers 16 ≡ from + 16 * total
  pub copied : CopiedFor from to done m s.memory
  pub spent : s.spent + 33 * n ≤ most

module _ (g : Rights) (w from to total : ℕ) (m : ℕ → ℕ) (may : MayCopy g from to total m) where
  -- one granule more
  one_more : (done : ℕ) (m1 : ℕ → ℕ) → done < total → CopiedFor from to done m m1
      → CopiedFor from to (suc done) m
      (four m1 (to + 16 * done) (m (from + 16 * done)) (m (from + 16 * done + 4)) (m (from + 16 * done + 8))
      (m (from + 16 * done + 12)))
  one_more done m1 less k = record {
    copies = λ i aligned l. at i aligned l (cases_lt i (16 * done));
    others = λ x out. four_other m1 b v0 v1 v2 v3 x (outside x out) ∙ k.others x (shorter x out);
  }
    where
      b : ℕ
      b = to + 16 * done

      v0 : ℕ
      v0 = m (from + 16 * done)

      v1 : ℕ
      v1 = m (from + 16 * done + 4)

      v2 : ℕ
      v2 = m (from + 16 * done + 8)

      v3 : ℕ
      v3 = m (from + 16 * done + 12)

      outside : (x : ℕ) → (x < to) ⊎ (to + 16 * suc done ≤ x) → (x < b) ⊎ (b + 16 ≤ x)
      outside x (inl o) = inl (omega (arith, o))
      outside x (inr o) = inr (omega (arith, o))

      shorter : (x : ℕ) → (x < to) ⊎ (to + 16 * suc done ≤ x) → (x < to) ⊎ (to + 16 * done ≤ x)
      shorter x (inl o) = inl o
      shorter x (inr o) = inr (omega (arith, o))

      at : (i : ℕ) → i % 4 ≡ 0 → i < 16 * suc done → (i < 16 * done) ⊎ (16 * done ≤ i)
          → four m1 b v0 v1 v2 v3 (to + i) ≡ m (from + i)
      at i aligned l (inl old) = four_other m1 b v0 v1 v2 v3 (to + i) (inl (omega (arith, old)))
          ∙ k.copies i aligned old
      at i aligned l (inr new) =
          first i aligned l new (cases_eq i (16 * done)) (cases_eq i (16 * done + 4)) (cases_eq i (16 * done + 8))
        where
          same : (i x : ℕ) → from + i ≡ x → m x ≡ m (from + i)
          same i x e = ap m (sym e)

          first : (i : ℕ) → i % 4 ≡ 0 → i < 16 * suc done → 16 * done ≤ i → (i ≡ 16 * done) ⊎ (i ≡ 16 * done → ⊥)
              → (i ≡ 16 * done + 4) ⊎ (i ≡ 16 * done + 4 → ⊥) → (i ≡ 16 * done + 8) ⊎ (i ≡ 16 * done + 8 → ⊥)
              → four m1 b v0 v1 v2 v3 (to + i) ≡ m (from + i)
          first i aligned l new (inl e) p q =
              four_0 m1 b v0 v1 v2 v3 (to + i) (omega (arith, e)) ∙ same i (from + 16 * done) (omega (arith, e))
          first i aligned l new (inr n) (inl e) q =
              four_1 m1 b v0 v1 v2 v3 (to + i) (omega (arith, e)) ∙ same i (from + 16 * done + 4) (omega (arith, e))
          first i aligned l new (inr n) (inr o) (inl e) =
              four_2 m1 b v0 v1 v2 v3 (to + i) (omega (arith, e)) ∙ same i (from + 16 * done + 8) (omega (arith, e))
          first i aligned l new (inr n) (inr o) (inr u) =
              let e : i ≡ 16 * done + 12 = omega (arith, aligned, l, new, n, o, u) in
              four_3 m1 b v0 v1 v2 v3 (to + i) (omega (arith, e)) ∙ same i (from + 16 * done + 12) (omega (arith, e))

  -- a word of the source is as it was
  source : (done j : ℕ) (m1 : ℕ → ℕ) → done < total → j < 16 → CopiedFor from to done m m1
      → m1 (from + 16 * done + j) ≡ m (from + 16 * done + j)
  source done j m1 less small k = k.others (from + 16 * done + j) (by may.apart)
    where
      by : (from + 16 * total ≤ to) ⊎ (to + 16 * total ≤ from)
          → (from + 16 * done + j < to) ⊎ (to + 16 * done ≤ from + 16 * done + j)
      by (inl o) = inl (omega (arith, o, less, small))
      by (inr o) = inr (omega (arith, o, less))

  turns : (most n : ℕ) (s : View) → Copying g from to total most m (suc n) s → holds Ne 5 16 s ≡ true
      → Ends (frag_run g copy_granule w (tested s)) (Copying g from to total most m n)
  turns most n s k held =
      let a : ℕ = from + 16 * k.done in
      let b : ℕ = to + 16 * k.done in
      let sum = k.sum in
      let less : k.done < total = omega (arith, sum) in
      let fa = may.from_aligned in
      let ta = may.to_aligned in
      let fe = may.from_end in
      let te = may.to_end in
      let read : (j : ℕ) → j < 16
      → s.memory (from + 16 * k.done + j) ≡ m (from + 16 * k.done + j) =
      λ j l. source k.done j s.memory less l k.copied in
      let small : (j : ℕ) → j % 4 ≡ 0 → j < 16 → m (from + 16 * k.done + j) % 2 ^ 32 ≡ m (from + 16 * k.done + j) =
      λ j q l. let w = may.words (from + 16 * k.done + j) (omega (arith, fa, q)) (omega arith)
      (omega (arith, less, l)) in omega (arith, w) in
      load_then _ _ _ _ _ _ _ _ _ _ a (m a)
      (plus_is (s.registers 5) 0 a (let e = k.at_from in omega (arith, e)) (omega (arith, fe, less)))
      (omega (arith, fa)) (may.reads a (omega arith) (omega (arith, less)))
      (let e : a ≡ a + 0 = omega arith in ap s.memory e ∙ (read 0 (omega arith) ∙ ap m (sym e)))
      (load_then _ _ _ _ _ _ _ _ _ _ (a + 4) (m (a + 4))
      (plus_is (s.registers 5) 4 (a + 4) (let e = k.at_from in omega (arith, e)) (omega (arith, fe, less)))
      (omega (arith, fa)) (may.reads (a + 4) (omega arith) (omega (arith, less))) (read 4 (omega arith))
      (load_then _ _ _ _ _ _ _ _ _ _ (a + 8) (m (a + 8))
      (plus_is (s.registers 5) 8 (a + 8) (let e = k.at_from in omega (arith, e)) (omega (arith, fe, less)))
      (omega (arith, fa)) (may.reads (a + 8) (omega arith) (omega (arith, less))) (read 8 (omega arith))
      (load_then _ _ _ _ _ _ _ _ _ _ (a + 12) (m (a + 12))
      (plus_is (s.registers 5) 12 (a + 12) (let e = k.at_from in omega (arith, e)) (omega (arith, fe, less)))
      (omega (arith, fa)) (may.reads (a + 12) (omega arith) (omega (arith, less))) (read 12 (omega arith))
      (store_then _ _ _ _ _ _ _ _ _ _ b (m a)
      (plus_is (s.registers 6) 0 b (let e = k.at_to in omega (arith, e)) (omega (arith, te, less)))
      (omega (arith, ta)) (may.writes b (omega arith) (omega (arith, less)))
      (let w = may.words a (omega (arith, fa)) (omega arith) (omega (arith, less)) in omega (arith, w))
      (store_then _ _ _ _ _ _ _ _ _ _ (b + 4) (m (a + 4))
      (plus_is (s.registers 6) 4 (b + 4) (let e = k.at_to in omega (arith, e)) (omega (arith, te, less)))
      (omega (arith, ta)) (may.writes (b + 4) (omega arith) (omega (arith, less))) (small 4 refl (omega arith))
      (store_then _ _ _ _ _ _ _ _ _ _ (b + 8) (m (a + 8))
      (plus_is (s.registers 6) 8 (b + 8) (let e = k.at_to in omega (arith, e)) (omega (arith, te, less)))
      (omega (arith, ta)) (may.writes (b + 8) (omega arith) (omega (arith, less))) (small 8 refl (omega arith))
      (store_then _ _ _ _ _ _ _ _ _ _ (b + 12) (m (a + 12))
      (plus_is (s.registers 6) 12 (b + 12) (let e = k.at_to in omega (arith, e)) (omega (arith, te, less)))
      (omega (arith, ta)) (may.writes (b + 12) (omega arith) (omega (arith, less))) (small 12 refl (omega arith))
      (imm_then _ _ _ _ _ _ _ _ _ _ _ (a + 16)
      (add_is (s.registers 5) 16 (a + 16) (let e = k.at_from in omega (arith, e)) (omega (arith, fe, less)))
      (imm_then _ _ _ _ _ _ _ _ _ _ _ (b + 16)
      (add_is (s.registers 6) 16 (b + 16) (let e = k.at_to in omega (arith, e)) (omega (arith, te, less)))
      (skip_ends _ _ _ _ _ _ (record {
        done = suc k.done;
        sum = omega (arith, sum);
        at_from = omega arith;
        at_to = omega arith;
        end = k.end;
        copied = one_more k.done s.memory less k.copied;
        spent = let o = k.spent in omega (arith, o);
      })))))))))))

  pub copy_ends : (r : ℕ → ℕ) (c : ℕ) → r 5 ≡ from → r 6 ≡ to → r 16 ≡ total → total ≤ w
      → Ends (frag_run g copy_block w (view r m c))
      (λ t. CopiedFor from to total m t.memory × (t.spent ≤ c + 33 * total + 9))
  copy_ends r c at_from at_to long few =
      let fe = may.from_end in
      imm_then _ _ _ _ _ _ _ _ _ _ _ (16 * total)
      (times_16 (r 16) (16 * total) (omega (arith, long)) (omega (arith, fe)))
      (compute_then _ _ _ _ _ _ _ _ _ _ _ (from + 16 * total)
      (add_is (16 * total) (r 5) (from + 16 * total) (omega (arith, at_from)) (omega (arith, fe)))
      (seq_ends _ _ _ _ _ _ _ _ (λ t. CopiedFor from to total m t.memory × (t.spent ≤ c + 33 * total + 9))
      (while_count _ _ _ _ _ _ _ (Copying g from to total (c + 6 + 33 * total) m) (turns (c + 6 + 33 * total))
      (λ s k. let a = k.at_from in let e = k.end in let q = k.sum in ne_no (s.registers 5) (s.registers 16)
      (omega (arith, a, e, q)))
      (λ n s k held.
      let a = k.at_from in
      let e = k.end in
      let q = k.sum in
      let o = k.spent in
      let same : s.registers 5 ≡ s.registers 16 = ne_false (s.registers 5) (s.registers 16) held in
      let all : k.done ≡ total = omega (arith, a, e, same) in
      (subst (λ d. CopiedFor from to d m s.memory) all k.copied, omega (arith, o)))
      total few _ (record {
        done = 0;
        sum = omega arith;
        at_from = omega (arith, at_from);
        at_to = omega (arith, at_to);
        end = refl;
        copied = record { copies = λ i q l. absurd (omega (arith, l)); others = λ k out. refl };
        spent = omega arith;
      }))
      (λ r' m' c' q. skip_ends _ _ _ _ _ _ q)))

pub copies_blocks : CopiesBlocks
copies_blocks g w from to n s may at_from at_to long few =
    copy_ends g w from to n s.memory may s.registers s.spent at_from at_to long few
