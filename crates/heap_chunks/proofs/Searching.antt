-- The search for the lowest chunk without owner.
use Rattle.std.proofs.Common.{◌≡◌, ◌≢◌, ℕ, suc, ◌+◌, ◌*◌, ◌<◌, ◌≤◌, ◌⊎◌, true, false, refl, ap, sym, ◌∙◌, subst, inl}
use Rattle.std.proofs.Common.{inr, arith}
use Rattle.std.specs.Prelude.{Option, Some, None, nat_eq}
use Rattle.std.proofs.lemmas.Bool.{cases_eq}
use Rattle.rv_isa.specs.declared.Cond.TheVariants.{Ne}
use Rattle.plan_core.specs.declared.types.Area.{Area}
use Rattle.place_spec.specs.Layout.{Layout, chunk_of}
use Rattle.place_spec.proofs.SoundParts.{Parts}
use Rattle.heap_spec.specs.Places.{chunk_row}
use Rattle.heap_spec.specs.Tables.{Spells, none_word, word_or_none}
use Rattle.frag_code.specs.Fragments.{Load}
use Rattle.frag_code.specs.Meaning.{View, put, holds, tested, frag_run}
use Rattle.frag_code.specs.Ends.{Ends}
use Rattle.frag_code.proofs.Rules.{view, seq_ends, skip_ends, compute_ends, load_ends, imm_then, if_ends}
use Rattle.frag_code.proofs.Loops.{while_count}
use Rattle.frag_rules.proofs.Values.{sum_is, add_is, plus_is, eq_true, eq_false, ne_no, ne_true, ne_false}
use Rattle.heap_chunks.specs.Chunks.{next_chunk, find_idle}
use Rattle.heap_chunks.specs.Results.{HasRoom, Settled, table_rights}
use Rattle.heap_chunks.proofs.Sums.{there}
use Rattle.heap_chunks.proofs.Answering.{may}

module _ (area : Area) (data_at : ℕ) (room : HasRoom area data_at) (layout : Layout) (p : Parts area layout)
    (r m : ℕ → ℕ)
    (s : Spells area data_at m layout) (c : ℕ) (settled : Settled area data_at r) (some : 0 < area.chunks) where
  abbrev end : ℕ
  end = data_at + 16 * area.chunks

  -- x7 at chunk i: its owner, or none at the end
  abbrev Owner : ℕ → (i : ℕ) → Type 0
  Owner x i = ((i < area.chunks) × (x ≡ word_or_none (chunk_of layout i).owner)) ⊎ ((i ≡ area.chunks) × (x ≡ none_word))

  -- all chunks below the one where the search stands have owners
  pub record At (i : ℕ) (most : ℕ) (t : View) : Type 0 where
    pub within : i ≤ area.chunks
    pub place : t.registers 6 ≡ data_at + 16 * i
    pub owner : Owner (t.registers 7) i
    pub below : (j : ℕ) → j < i → (chunk_of layout j).owner ≢ None
    pub last : t.registers 30 ≡ end
    pub others : (k : ℕ) → nat_eq k 6 ≡ false → nat_eq k 7 ≡ false → nat_eq k 30 ≡ false → t.registers k ≡ r k
    pub memory : t.memory ≡ m
    pub spent : t.spent ≤ most

  -- with n chunks left
  pub record Left (n : ℕ) (t : View) : Type 0 where
    pub i : ℕ
    pub left : i + n ≡ area.chunks
    pub at : At i (c + 9 + 12 * i) t

  -- the search is over at a chunk without owner, or at the end
  pub record Over (t : View) : Type 0 where
    pub i : ℕ
    pub at : At i (c + 12 + 12 * area.chunks) t
    pub idle : i < area.chunks → (chunk_of layout i).owner ≡ None

  owned : (i x : ℕ) → Owner x i → x ≢ none_word → (i < area.chunks) × ((chunk_of layout i).owner ≢ None)
  owned i x (inl (l, e)) n = (l, λ o. n (e ∙ ap word_or_none o))
  owned i x (inr (l, e)) n = absurd (n e)

  idle_at : (i x : ℕ) → Owner x i → x ≡ none_word → i < area.chunks → (chunk_of layout i).owner ≡ None
  idle_at i x (inr (l, e)) q h = absurd (omega (arith, l, h))
  idle_at i x (inl (l, e)) q h = by (chunk_of layout i).owner refl e
    where
      by : (o : Option ℕ) → (chunk_of layout i).owner ≡ o → x ≡ word_or_none o → o ≡ None
      by None u e = refl
      by (Some g) u e = absurd (let f = p.owners i g u in omega (arith, f, e, q))

  -- x7 for the next chunk
  load_owner : (i w : ℕ) (r' : ℕ → ℕ) (c' : ℕ) (P : View → Type 0) → r' 6 ≡ data_at + 16 * i → i < area.chunks
      → P (view (put r' 7 (word_or_none (chunk_of layout i).owner)) m (c' + 3))
      → Ends (frag_run (table_rights area data_at) (Load 7 6 128) w (view r' m c')) P
  load_owner i w r' c' P e l h =
      let al = room.aligned in
      let hi = room.end in
      load_ends _ _ _ _ _ _ _ _ _ (chunk_row data_at i) (word_or_none (chunk_of layout i).owner)
      (plus_is _ _ _ (omega (arith, e)) (omega (arith, l, hi))) (omega (arith, al))
      (may area data_at room (chunk_row data_at i) (omega arith) (omega (arith, l)))
      (s.chunks i l).owner h

  -- one chunk further
  further : (n : ℕ) (t : View) (i : ℕ) → i + suc n ≡ area.chunks → At i (c + 9 + 12 * i) t
      → (chunk_of layout i).owner ≢ None
      → (x : ℕ) → Owner x (i + 1)
      → Left n (view (put (put t.registers 6 (data_at + 16 * (i + 1))) 7 x) t.memory (t.spent + 3 + 3 + 3 + 3))
  further n t i left at o x q = record {
    i = i + 1;
    left = omega (arith, left);
    at = record {
      within = omega (arith, left);
      place = refl;
      owner = q;
      below = λ j l. by j l (cases_eq j i);
      last = at.last;
      others = λ k e f h. there (put t.registers 6 (data_at + 16 * (i + 1))) 7 x k f
          ∙ (there t.registers 6 (data_at + 16 * (i + 1)) k e ∙ at.others k e f h);
      memory = at.memory;
      spent = let sp = at.spent in omega (arith, sp);
    };
  }
    where
      by : (j : ℕ) → j < i + 1 → (j ≡ i) ⊎ (j ≡ i → ⊥) → (chunk_of layout j).owner ≢ None
      by j l (inl e) = subst (λ k. (chunk_of layout k).owner ≢ None) (sym e) o
      by j l (inr n) = at.below j (omega (arith, l, n))

  next_ends : (w n : ℕ) (t : View) → Left (suc n) t → holds Ne 7 31 t ≡ true
      → Ends (frag_run (table_rights area data_at) next_chunk w (tested t)) (Left n)
  next_ends w n t a held =
      let i : ℕ = a.i in
      let at = a.at in
      let place = at.place in
      let hi = room.end in
      let left = a.left in
      let n31 : t.registers 31 ≡ none_word = at.others 31 refl refl refl ∙ settled.none in
      let o = owned i (t.registers 7) at.owner (λ e. ne_true (t.registers 7) (t.registers 31) held (e ∙ sym n31)) in
      imm_then _ _ _ _ _ _ _ _ _ _ _ (data_at + 16 * (i + 1))
      (add_is _ _ _ (omega (arith, place)) (omega (arith, left, hi)))
      (seq_ends _ _ _ _ _ _ _ _ (Left n)
      (if_ends _ _ _ _ _ _ _ _ _ _ _
      (λ h. let last = at.last in
      let e : data_at + 16 * (i + 1) ≡ end = eq_true _ _ h ∙ last in
      compute_ends _ _ _ _ _ _ _ _ _ _ none_word (add_is _ _ none_word (omega (arith, n31)) (omega arith))
      (further n t i left at o.1 none_word (inr (omega (arith, e), refl))))
      (λ h. let last = at.last in
      let e : data_at + 16 * (i + 1) ≢ end = λ q. eq_false _ _ h (q ∙ sym last) in
      let l : i + 1 < area.chunks = below (i + 1) (omega (arith, left)) e in
      subst (λ f. Ends (frag_run (table_rights area data_at) (Load 7 6 128) w
      (view (put t.registers 6 (data_at + 16 * (i + 1))) f (t.spent + 3 + 3 + 3))) (Left n)) (sym at.memory)
      (load_owner (i + 1) w (put t.registers 6 (data_at + 16 * (i + 1))) (t.spent + 3 + 3 + 3) (Left n) refl l
      (subst (λ f. Left n (view
      (put (put t.registers 6 (data_at + 16 * (i + 1))) 7 (word_or_none (chunk_of layout (i + 1)).owner))
      f (t.spent + 3 + 3 + 3 + 3))) at.memory
      (further n t i left at o.1 (word_or_none (chunk_of layout (i + 1)).owner) (inl (l, refl)))))))
      (λ r' m' c' h. skip_ends _ _ _ _ _ _ h))
    where
      below : (j : ℕ) → j ≤ area.chunks → data_at + 16 * j ≢ end → j < area.chunks
      below j l n = by (cases_eq j area.chunks)
        where
          by : (j ≡ area.chunks) ⊎ (j ≡ area.chunks → ⊥) → j < area.chunks
          by (inl e) = absurd (n (omega (arith, e)))
          by (inr q) = omega (arith, l, q)

  -- no chunk is left
  last_ends : (t : View) → Left 0 t → holds Ne 7 31 t ≡ false
  last_ends t a = ne_no (t.registers 7) (t.registers 31)
      (none a.at.owner ∙ sym (a.at.others 31 refl refl refl ∙ settled.none))
    where
      none : Owner (t.registers 7) a.i → t.registers 7 ≡ none_word
      none (inl (l, e)) = absurd (let f = a.left in omega (arith, f, l))
      none (inr (l, e)) = e

  over : (n : ℕ) (t : View) → Left n t → holds Ne 7 31 t ≡ false → Over (tested t)
  over n t a held =
      let left = a.left in
      let sp = a.at.spent in
      record {
        i = a.i;
        at = record {
          within = a.at.within;
          place = a.at.place;
          owner = a.at.owner;
          below = a.at.below;
          last = a.at.last;
          others = a.at.others;
          memory = a.at.memory;
          spent = omega (arith, left, sp);
        };
        idle = idle_at a.i (t.registers 7) a.at.owner
            (ne_false (t.registers 7) (t.registers 31) held ∙ (a.at.others 31 refl refl refl ∙ settled.none));
      }

  pub find_ends : (w : ℕ) → area.chunks ≤ w → Ends (frag_run (table_rights area data_at) find_idle w (view r m c)) Over
  find_ends w few =
      let rows = settled.rows in
      let tables = settled.tables in
      let hi = room.end in
      imm_then _ _ _ _ _ _ _ _ _ _ _ end (sum_is _ _ end (omega (arith, rows, hi)))
      (imm_then _ _ _ _ _ _ _ _ _ _ _ (data_at + 16 * 0) (add_is _ _ _ (omega (arith, tables)) (omega (arith, hi)))
      (seq_ends _ _ _ _ _ _ _ _ (Left area.chunks)
      (load_owner 0 w _ _ (Left area.chunks) refl some (record {
        i = 0;
        left = omega arith;
        at = record {
          within = omega arith;
          place = refl;
          owner = inl (some, refl);
          below = λ j l. absurd (omega (arith, l));
          last = refl;
          others = λ k e f h. there (put (put r 30 end) 6 (data_at + 16 * 0)) 7
              (word_or_none (chunk_of layout 0).owner) k f
              ∙ (there (put r 30 end) 6 (data_at + 16 * 0) k e ∙ there r 30 end k h);
          memory = refl;
          spent = omega arith;
        };
      }))
      (λ r' m' c' a. seq_ends _ _ _ _ _ _ _ _ Over
      (while_count _ _ Over _ _ _ _ Left (next_ends w) last_ends over area.chunks few (view r' m' c') a)
      (λ r'' m'' c'' o. skip_ends _ _ _ _ _ _ o))))
