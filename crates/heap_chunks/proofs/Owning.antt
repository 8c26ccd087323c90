-- The second rule: a block in the lowest chunk without owner.
use Rattle.std.proofs.Common.{◌≡◌, ◌≢◌, ℕ, ◌+◌, ◌*◌, ◌^◌, ◌<◌, ◌≤◌, ◌⊎◌, true, false, length, get_or, set, refl, ap}
use Rattle.std.proofs.Common.{sym, ◌∙◌, subst, inl, inr, arith}
use Rattle.std.specs.Prelude.{Option, Some, None, is_none, not, nat_lt, slice_set}
use Rattle.std.specs.List.{position_or_len}
use Rattle.std.proofs.lemmas.Bool.{cases_eq}
use Rattle.std.proofs.lemmas.Bool.Decides.{nat_tests}
use Rattle.std.proofs.lemmas.List.{get_or-set_same, get_or-set_other}
use Rattle.std.proofs.lemmas.List.Sums.{prefix_len_is}
use Rattle.rv_isa.specs.declared.Op.TheVariants.{Add}
use Rattle.rv_isa.specs.declared.Cond.TheVariants.{Eq}
use Rattle.plan_core.specs.declared.types.Area.{Area}
use Rattle.plan_core.specs.Plan.{granules}
use Rattle.place_spec.specs.declared.parts.Chunk.{Chunk}
use Rattle.place_spec.specs.declared.parts.Spot.{Spot}
use Rattle.place_spec.specs.declared.parts.Spot.TheVariants.{Fresh}
use Rattle.place_spec.specs.Layout.{Layout, chunk_of, idle_chunk, chunk_size, chunk_front}
use Rattle.place_spec.specs.Place.{granule_of, taken, placed_at, fresh_spot}
use Rattle.place_spec.proofs.Fronts.{front_next, front_end}
use Rattle.place_spec.proofs.SoundParts.{Parts}
use Rattle.heap_spec.specs.Places.{current_row, chunk_row, rows_at, granule_row}
use Rattle.heap_spec.specs.Tables.{Spells, none_word, word_or_none}
use Rattle.frag_code.specs.Fragments.{Compute, If}
use Rattle.frag_code.specs.Meaning.{View, put, frag_run}
use Rattle.frag_code.specs.Ends.{Ends}
use Rattle.frag_code.proofs.Rules.{view, ends_so, seq_ends, skip_ends, compute_ends, imm_then, compute_then, store_then}
use Rattle.frag_code.proofs.Rules.{if_taken, if_other}
use Rattle.frag_rules.proofs.Values.{sum_is, add_is, sub_is, right_is, over_16, plus_is, eq_yes, eq_no}
use Rattle.frag_rules.proofs.Spans.{put_here, put_there}
use Rattle.heap_chunks.specs.Chunks.{own_chunk, place_fresh}
use Rattle.heap_chunks.specs.Results.{HasRoom, Settled, table_rights, Tried}
use Rattle.heap_chunks.proofs.Changes.{Writes, enters, current_stays}
use Rattle.heap_chunks.proofs.Answering.{Answered, may, answer_ends}
use Rattle.heap_chunks.proofs.Currents.{PlacedAt}
use Rattle.heap_chunks.proofs.Searching.{At, Over, find_ends}

module _ (area : Area) (data_at : ℕ) (room : HasRoom area data_at) (layout : Layout) (need group k : ℕ)
    (p : Parts area layout)
    (within : k < area.chunks) (idle : (chunk_of layout k).owner ≡ None) (small : group < 16) (some : 1 ≤ need)
    (fits : need ≤ chunk_size area) where
  abbrev first : ℕ
  first = chunk_front area k

  abbrev row : ℕ
  row = chunk_row data_at k

  abbrev place : ℕ
  place = granule_row area data_at first

  abbrev word : ℕ
  word = current_row data_at group

  no_bump : (chunk_of layout k).bump ≡ 0
  no_bump = let kept = p.keeps k within in kept.idle.1 (kept.unowned idle)

  low : first < granules area
  low = let e = front_end area k within in let n = front_next area k in omega (arith, e, n, fits, some)

  -- the words that are written, in their order
  abbrev w1 : (ℕ → ℕ) → ℕ → ℕ
  w1 m = put m word k

  abbrev w2 : (ℕ → ℕ) → ℕ → ℕ
  w2 m = put (w1 m) row group

  abbrev w3 : (ℕ → ℕ) → ℕ → ℕ
  w3 m = put (w2 m) (row + 4) need

  abbrev w4 : (ℕ → ℕ) → ℕ → ℕ
  w4 m = put (w3 m) (row + 8) 1

  abbrev w5 : (ℕ → ℕ) → ℕ → ℕ
  w5 m = put (w4 m) place need

  apart : word < row
  apart = omega (arith, small)

  far : row + 16 ≤ place
  far = omega (arith, within)

  -- each word after all writes
  at_word : (m : ℕ → ℕ) → w5 m word ≡ k
  at_word m =
      put_there (w4 m) place need word (λ e. omega (arith, e, apart, far))
      ∙ (put_there (w3 m) (row + 8) 1 word (λ e. omega (arith, e, apart))
      ∙ (put_there (w2 m) (row + 4) need word (λ e. omega (arith, e, apart))
      ∙ (put_there (w1 m) row group word (λ e. omega (arith, e, apart))
      ∙ put_here m word k word refl)))

  at_row : (m : ℕ → ℕ) → w5 m row ≡ group
  at_row m =
      put_there (w4 m) place need row (λ e. omega (arith, e, far))
      ∙ (put_there (w3 m) (row + 8) 1 row (λ e. omega (arith, e))
      ∙ (put_there (w2 m) (row + 4) need row (λ e. omega (arith, e)) ∙ put_here (w1 m) row group row refl))

  at_bump : (m : ℕ → ℕ) → w5 m (row + 4) ≡ need
  at_bump m =
      put_there (w4 m) place need (row + 4) (λ e. omega (arith, e, far))
      ∙ (put_there (w3 m) (row + 8) 1 (row + 4) (λ e. omega (arith, e))
      ∙ put_here (w2 m) (row + 4) need (row + 4) refl)

  at_live : (m : ℕ → ℕ) → w5 m (row + 8) ≡ 1
  at_live m = put_there (w4 m) place need (row + 8) (λ e. omega (arith, e, far))
      ∙ put_here (w3 m) (row + 8) 1 (row + 8) refl

  elsewhere : (m : ℕ → ℕ) (a : ℕ) → a ≢ word → (a < row) ⊎ (row + 12 ≤ a) → a ≢ place → w5 m a ≡ m a
  elsewhere m a n o q =
      put_there (w4 m) place need a q
      ∙ (put_there (w3 m) (row + 8) 1 a (λ e. by o (omega (arith, e)) (omega (arith, e)))
      ∙ (put_there (w2 m) (row + 4) need a (λ e. by o (omega (arith, e)) (omega (arith, e)))
      ∙ (put_there (w1 m) row group a (λ e. by o (omega (arith, e)) (omega (arith, e))) ∙ put_there m word k a n)))
    where
      by : (a < row) ⊎ (row + 12 ≤ a) → row ≤ a → a < row + 12 → ⊥
      by (inl l) lo hi = omega (arith, l, lo)
      by (inr l) lo hi = omega (arith, l, hi)

  stays : (m : ℕ → ℕ) → Writes area data_at layout k m (w5 m) group first
  stays m = record {
    aligned = room.aligned;
    parts = p;
    within = within;
    behind = omega arith;
    small = small;
    others = λ a al lo hi n far o. elsewhere m a n (by a far) o;
  }
    where
      by : (a : ℕ) → (a < row) ⊎ (row + 16 ≤ a) → (a < row) ⊎ (row + 12 ≤ a)
      by a (inl l) = inl l
      by a (inr l) = inr (omega (arith, l))

  spelt : (m : ℕ → ℕ) → Spells area data_at m layout
      → Spells area data_at (w5 m) (placed_at area layout need (Some group) (Fresh group k)).after
  unfolding taken granule_of
  spelt m s =
      enters area data_at layout k m (w5 m) group first (stays m) s need (Some group)
      (record { owner = Some group; bump = need; live = 1 }) (slice_set layout.currents group (Some k))
      (record {
        owner = at_row m;
        bump = at_bump m;
        live = at_live m;
        fourth = elsewhere m (row + 12) (λ e. omega (arith, e, apart)) (inr (omega arith))
            (λ e. omega (arith, e, far)) ∙ (s.chunks k within).fourth;
      })
      (λ j l. by j l (cases_eq j group))
      (let z = no_bump in omega (arith, z)) (let n = front_next area k in omega (arith, n, fits, some))
      (put_here (w4 m) place need place refl)
    where
      none : Option ℕ
      none = None

      by : (j : ℕ) → j < 16 → (j ≡ group) ⊎ (j ≡ group → ⊥)
          → w5 m (current_row data_at j) ≡ word_or_none (get_or (set layout.currents group (Some k)) j none)
      by j l (inl e) =
          subst (λ i. w5 m (current_row data_at i) ≡ word_or_none
          (get_or (set layout.currents group (Some k)) i none)) (sym e)
          (at_word m ∙ sym (ap word_or_none
          (get_or-set_same layout.currents group (Some k) none (let g = p.groups in omega (arith, g, small)))))
      by j l (inr n) =
          current_stays area data_at layout k m (w5 m) group first (stays m) s j l n
          ∙ sym (ap word_or_none (get_or-set_other layout.currents group j (Some k) none n))

  pub own_ends : (w : ℕ) (r m : ℕ → ℕ) (c : ℕ) → Spells area data_at m layout → Settled area data_at r
      → r 6 ≡ data_at + 16 * k
      → r 10 ≡ need → r 14 ≡ word
      → Ends (frag_run (table_rights area data_at) (own_chunk area) w (view r m c))
      (PlacedAt area data_at layout need group (Fresh group k) (c + 54))
  unfolding granule_of
  own_ends w r m c s settled r6 r10 r14 =
      let al = room.aligned in
      let end = room.end in
      let few = room.granules in
      let r12 = settled.tables in
      let size : need ≤ 2 ^ 20 =
      (let e = front_end area k within in let n = front_next area k in omega (arith, e, n, few, fits)) in
      let l : row + 16 ≤ rows_at area data_at = omega (arith, within) in
      compute_then _ _ _ _ _ _ _ _ _ _ _ (16 * k) (sub_is _ _ _ (omega (arith, r6, r12)) (omega (arith, r6, l, end)))
      (imm_then _ _ _ _ _ _ _ _ _ _ _ k (over_16 _ k (omega arith))
      (store_then _ _ _ _ _ _ _ _ _ _ word k (plus_is _ _ _ (omega (arith, r14)) (omega (arith, apart, l, end)))
      (omega (arith, al))
      (may area data_at room word (omega arith) (omega (arith, apart, l))) (omega (arith, within, l, end))
      (compute_then _ _ _ _ _ _ _ _ _ _ _ (64 + 4 * group)
      (sub_is _ _ _ (omega (arith, r14, r12)) (omega (arith, r14, apart, l, end)))
      (imm_then _ _ _ _ _ _ _ _ _ _ _ (4 * group) (sum_is _ _ _ (omega (arith, small)))
      (imm_then _ _ _ _ _ _ _ _ _ _ _ group (right_is _ _ 2 group refl (omega arith) (omega arith))
      (store_then _ _ _ _ _ _ _ _ _ _ row group (plus_is _ _ _ (omega (arith, r6)) (omega (arith, l, end)))
      (omega (arith, al))
      (may area data_at room row (omega arith) (omega (arith, l))) (omega (arith, small))
      (store_then _ _ _ _ _ _ _ _ _ _ (row + 4) need (plus_is _ _ _ (omega (arith, r6)) (omega (arith, l, end)))
      (omega (arith, al))
      (may area data_at room (row + 4) (omega arith) (omega (arith, l))) (omega (arith, r10, size))
      (imm_then _ _ _ _ _ _ _ _ _ _ _ 1 (sum_is _ _ _ refl)
      (store_then _ _ _ _ _ _ _ _ _ _ (row + 8) 1 (plus_is _ _ _ (omega (arith, r6)) (omega (arith, l, end)))
      (omega (arith, al))
      (may area data_at room (row + 8) (omega arith) (omega (arith, l))) refl
      (imm_then _ _ _ _ _ _ _ _ _ _ _ 0 (sum_is _ _ _ refl)
      (seq_ends _ _ _ _ _ _ _ _ (Answered area data_at first need _ _)
      (answer_ends area data_at room w _ _ _ k 0 first need refl refl r10 settled.rows (omega arith) low
      (omega (arith, size)))
      (λ r' m' c' a. let sp = a.spent in skip_ends _ _ _ _ _ _ (record {
        granule_is = a.granule_is;
        spells = subst (λ f. Spells area data_at f (placed_at area layout need (Some group) (Fresh group k)).after)
            (sym a.memory) (spelt m s);
        spent = omega (arith, sp);
      })))))))))))))

-- which chunk is the lowest without owner
module _ (layout : Layout) (i : ℕ) (below : (j : ℕ) → j < i → (chunk_of layout j).owner ≢ None) where
  owned_not : (o : Option ℕ) → o ≢ None → not (is_none o) ≡ true
  owned_not None e = absurd (e refl)
  owned_not (Some x) e = refl

  idle_is : (o : Option ℕ) → o ≡ None → not (is_none o) ≡ false
  idle_is o e = ap (λ x. not (is_none x)) e

  first_is : i ≤ length layout.chunks → (i < length layout.chunks → (chunk_of layout i).owner ≡ None)
      → position_or_len (λ c. is_none c.owner) layout.chunks ≡ i
  first_is l h =
      prefix_len_is (λ (c : Chunk). not (is_none c.owner)) layout.chunks i idle_chunk l
      (λ j q. owned_not (chunk_of layout j).owner (below j q)) (λ q. idle_is (chunk_of layout i).owner (h q))

  pub fresh_is : (group : ℕ) → i < length layout.chunks → (chunk_of layout i).owner ≡ None
      → fresh_spot layout group ≡ Some (Fresh group i)
  fresh_is group l h =
      let e = first_is (omega (arith, l)) (λ q. h) in
      let t : nat_lt i (length layout.chunks) ≡ true = grind (arith, nat_tests) in
      rw (e, t) refl

  pub no_fresh : (group : ℕ) → i ≡ length layout.chunks → fresh_spot layout group ≡ None
  no_fresh group l =
      let e = first_is (omega (arith, l)) (λ q. absurd (omega (arith, q, l))) in
      let t : nat_lt i (length layout.chunks) ≡ false = grind (arith, nat_tests) in
      rw (e, t) refl

-- what was tried, and its cost
abbrev pub Result : Area → (data_at : ℕ) → Layout → (need group : ℕ) → (ℕ → ℕ) → (most : ℕ) → Option Spot → View
    → Type 0
Result area data_at layout need group m most o t = Tried area data_at layout need group m o t × (t.spent ≤ most)

-- the second rule, whatever it finds
module _ (area : Area) (data_at : ℕ) (room : HasRoom area data_at) (layout : Layout) (need group : ℕ)
    (p : Parts area layout)
    (some_chunk : 0 < area.chunks) (small : group < 16) (some : 1 ≤ need) (fits : need ≤ chunk_size area) where
  pub fresh_ends : (w : ℕ) (r m : ℕ → ℕ) (c : ℕ) → Spells area data_at m layout → Settled area data_at r → r 10 ≡ need
      → r 14 ≡ current_row data_at group → area.chunks ≤ w
      → Ends (frag_run (table_rights area data_at) (place_fresh area) w (view r m c))
      (Result area data_at layout need group m (c + 12 * area.chunks + 69) (fresh_spot layout group))
  fresh_ends w r m c s settled r10 r14 few =
      seq_ends _ _ _ _ _ _ _ _ (Over area data_at room layout p r m s c settled some_chunk)
      (find_ends area data_at room layout p r m s c settled some_chunk w few)
      (λ r' m' c' o. by o.i r' m' c' o.at o.idle (cases_eq o.i area.chunks))
    where
      settles : {i most : ℕ} → (r' m' : ℕ → ℕ) (c' : ℕ)
          → At area data_at room layout p r m s c settled some_chunk i most (view r' m' c') → Settled area data_at r'
      settles r' m' c' at = record {
        none = at.others 31 refl refl refl ∙ settled.none;
        tables = at.others 12 refl refl refl ∙ settled.tables;
        rows = at.others 11 refl refl refl ∙ settled.rows;
      }

      long : length layout.chunks ≡ area.chunks
      long = p.chunks

      by : (i : ℕ) (r' m' : ℕ → ℕ) (c' : ℕ)
          → At area data_at room layout p r m s c settled some_chunk i (c + 12 + 12 * area.chunks) (view r' m' c')
          → (i < area.chunks → (chunk_of layout i).owner ≡ None) → (i ≡ area.chunks) ⊎ (i ≡ area.chunks → ⊥)
          → Ends (frag_run (table_rights area data_at) (If Eq 6 30 (Compute Add 15 31 0) (own_chunk area)) w
          (view r' m' c'))
          (Result area data_at layout need group m (c + 12 * area.chunks + 69) (fresh_spot layout group))
      by i r' m' c' at idle (inl e) =
          let place = at.place in
          let last = at.last in
          let n31 = (settles r' m' c' at).none in
          let sp = at.spent in
          if_taken _ _ _ _ _ _ _ _ _ _ _ (eq_yes (r' 6) (r' 30) (omega (arith, place, last, e)))
          (compute_ends _ _ _ _ _ _ _ _ _ _ none_word (add_is _ _ none_word (omega (arith, n31)) (omega arith))
          (subst (λ o. Result area data_at layout need group m (c + 12 * area.chunks + 69) o
          (view (put r' 15 none_word) m' (c' + 3 + 3)))
          (sym (no_fresh layout i at.below group (omega (arith, e, long))))
          ((refl, at.memory), omega (arith, sp))))
      by i r' m' c' at idle (inr n) =
          let place = at.place in
          let last = at.last in
          let sp = at.spent in
          let in_range = at.within in
          let l : i < area.chunks = omega (arith, in_range, n) in
          if_other _ _ _ _ _ _ _ _ _ _ _ (eq_no (r' 6) (r' 30) (λ q. n (omega (arith, place, last, q))))
          (ends_so _ (PlacedAt area data_at layout need group (Fresh group i) (c' + 3 + 54)) _
          (λ t q. let qs = q.spent in
          subst (λ o. Result area data_at layout need group m (c + 12 * area.chunks + 69) o t)
          (sym (fresh_is layout i at.below group (omega (arith, l, long)) (idle l)))
          ((q.granule_is, q.spells), omega (arith, qs, sp)))
          (own_ends area data_at room layout need group i p l (idle l) small some fits w r' m' (c' + 3)
          (subst (λ f. Spells area data_at f layout) (sym at.memory) s) (settles r' m' c' at) place
          (at.others 10 refl refl refl ∙ r10) (at.others 14 refl refl refl ∙ r14)))
