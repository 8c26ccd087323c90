-- The release of a block in a chunk.
use Rattle.std.proofs.Common.{◌≡◌, ◌≢◌, ℕ, zero, suc, ◌+◌, ◌-◌, ◌*◌, ◌/◌, ◌^◌, ◌<◌, ◌≤◌, ◌⊎◌, true, false, refl, ap}
use Rattle.std.proofs.Common.{sym, ◌∙◌, subst, inl, inr, arith}
use Rattle.std.specs.Prelude.{[], ◌∷◌, Option, Some, None, nat_lt, slice_set}
use Rattle.std.proofs.lemmas.Bool.{cases_eq, eq-eqb, ne_eqb}
use Rattle.std.proofs.lemmas.Bool.Decides.{nat_tests}
use Rattle.rv_isa.specs.declared.Op.TheVariants.{Add}
use Rattle.rv_isa.specs.declared.Cond.TheVariants.{Eq, Ne}
use Rattle.plan_core.specs.declared.types.Area.{Area}
use Rattle.plan_core.specs.Plan.{granules}
use Rattle.place_spec.specs.declared.parts.Chunk.{Chunk}
use Rattle.place_spec.specs.Layout.{Block, Layout, current_of, chunk_of, chunk_size}
use Rattle.place_spec.specs.Release.{block_at, released, released_block, freed, left_chunk, left_with, is_current}
use Rattle.place_spec.specs.Release.{is_chunk, without_block, chunk_at}
use Rattle.place_spec.specs.Sound.{InChunk}
use Rattle.place_spec.proofs.SoundParts.{Parts, parts}
use Rattle.place_spec.proofs.Leaving.{stands, counted_less}
use Rattle.place_spec.proofs.Sounds.{chunk_at_in}
use Rattle.place_spec.proofs.Fronts.{front_next, front_end}
use Rattle.heap_spec.specs.Places.{current_row, chunk_row, rows_at, granule_row}
use Rattle.heap_spec.specs.Tables.{SpellsChunk, Spells, none_word, word_or_none}
use Rattle.frag_code.specs.Fragments.{Skip, Store, Imm, If, chained}
use Rattle.frag_code.specs.Meaning.{View, put, frag_run}
use Rattle.frag_code.specs.Ends.{Ends}
use Rattle.frag_code.proofs.Rules.{view, ends_so, seq_ends, skip_ends, imm_then, compute_then, load_then, store_then}
use Rattle.frag_code.proofs.Rules.{if_taken, if_other}
use Rattle.frag_rules.proofs.Values.{sum_is, add_is, less_is, times_4, times_16, right_is, plus_is, eq_yes, eq_no}
use Rattle.frag_rules.proofs.Values.{ne_yes, ne_no}
use Rattle.frag_rules.proofs.Spans.{put_here, put_there}
use Rattle.heap_chunks.specs.Chunks.{clear_chunk, release_high}
use Rattle.heap_chunks.specs.Results.{HasRoom, table_rights, ReleasesHigh}
use Rattle.heap_chunks.proofs.Sums.{Gives, minus_ends}
use Rattle.heap_chunks.proofs.Lives.{few_live}
use Rattle.heap_chunks.proofs.Changes.{leaves}
use Rattle.heap_chunks.proofs.Answering.{may}

module _ (area : Area) (data_at : ℕ) (room : HasRoom area data_at) (layout : Layout) (b : Block) (p : Parts area layout)
    (found : block_at layout b.first ≡ Some b) (high : area.fallback ≤ b.first) where
  abbrev k : ℕ
  k = chunk_at area b.first

  abbrev c0 : Chunk
  c0 = chunk_of layout k

  abbrev row : ℕ
  row = chunk_row data_at k

  inside : b.first < granules area
  inside = let t = stands area layout p b.first b found in let i = t.inside in let f = t.filled in omega (arith, i, f)

  within : k < area.chunks
  within = (chunk_at_in area b high inside).0

  in_k : InChunk area k b
  in_k = (chunk_at_in area b high inside).1

  lives : 0 < c0.live
  lives =
      let l = counted_less area layout p b.first b found k in_k in
      let c = (p.keeps k within).counted in omega (arith, l, c)

  released_is : released area layout b.first
      ≡ record layout {
        chunks = slice_set layout.chunks k (left_chunk layout k c0);
        blocks =
            without_block b.first layout.blocks;
      }
  unfolding freed
  released_is =
      let t : nat_lt b.first area.fallback ≡ false = grind (arith, nat_tests) in
      ap (released_block area layout) found ∙ rw t refl

  module _ (m : ℕ → ℕ) (s : Spells area data_at m layout) where
    -- the tables with another row for chunk k
    left_spells : (m' : ℕ → ℕ) → SpellsChunk m' row (left_chunk layout k c0)
        → ((a : ℕ) → (a < row) ⊎ (row + 16 ≤ a) → m' a ≡ m a)
        → Spells area data_at m' (released area layout b.first)
    left_spells m' here others =
        subst (Spells area data_at m') (sym released_is)
        (leaves area data_at layout k m m' 0 b.first (record {
          aligned = room.aligned;
          parts = p;
          within = within;
          behind = high;
          small = omega arith;
          others = λ a al lo hi n o q. others a o;
        }) s (left_chunk layout k c0) b.first here
        (others (current_row data_at 0) (inl (omega arith)))
        (others (granule_row area data_at b.first) (inr (let w = within in omega (arith, w)))))

    abbrev less : (ℕ → ℕ)
    less = put m (row + 8) (c0.live - 1)

    -- with live blocks left
    some_left : (n : ℕ) → c0.live - 1 ≡ suc n → Spells area data_at less (released area layout b.first)
    some_left n e =
        let old = s.chunks k within in
        left_spells less
        (subst (λ x. SpellsChunk less row (left_with x (is_current layout k c0.owner) c0)) (sym e) (record {
          owner = put_there m (row + 8) (c0.live - 1) row (λ q. omega (arith, q)) ∙ old.owner;
          bump = put_there m (row + 8) (c0.live - 1) (row + 4) (λ q. omega (arith, q)) ∙ old.bump;
          live = put_here m (row + 8) (c0.live - 1) (row + 8) refl ∙ e;
          fourth = put_there m (row + 8) (c0.live - 1) (row + 12) (λ q. omega (arith, q)) ∙ old.fourth;
        }))
        (λ a o. put_there m (row + 8) (c0.live - 1) a (λ q. by a o q))
      where
        by : (a : ℕ) → (a < row) ⊎ (row + 16 ≤ a) → a ≡ row + 8 → ⊥
        by a (inl l) q = omega (arith, l, q)
        by a (inr l) q = omega (arith, l, q)

    abbrev bare : (ℕ → ℕ)
    bare = put less (row + 4) 0

    bare_elsewhere : (a : ℕ) → a ≢ row + 4 → a ≢ row + 8 → bare a ≡ m a
    bare_elsewhere a n q = put_there less (row + 4) 0 a n ∙ put_there m (row + 8) (c0.live - 1) a q

    bare_live : c0.live - 1 ≡ 0 → bare (row + 8) ≡ 0
    bare_live e = put_there less (row + 4) 0 (row + 8) (λ q. omega (arith, q))
        ∙ (put_here m (row + 8) (c0.live - 1) (row + 8) refl ∙ e)

    -- without, in its owner's current chunk
    stays_owned : c0.live - 1 ≡ 0 → is_current layout k c0.owner ≡ true
        → Spells area data_at bare (released area layout b.first)
    stays_owned e cur =
        let old = s.chunks k within in
        left_spells bare
        (subst (λ x. SpellsChunk bare row (left_with x (is_current layout k c0.owner) c0)) (sym e)
        (subst (λ t. SpellsChunk bare row (left_with 0 t c0)) (sym cur) (record {
          owner = bare_elsewhere row (λ q. omega (arith, q)) (λ q. omega (arith, q)) ∙ old.owner;
          bump = put_here less (row + 4) 0 (row + 4) refl;
          live = bare_live e;
          fourth = bare_elsewhere (row + 12) (λ q. omega (arith, q)) (λ q. omega (arith, q)) ∙ old.fourth;
        })))
        (λ a o. bare_elsewhere a (λ q. by a o (omega (arith, q)) (omega (arith, q)))
        (λ q. by a o (omega (arith, q)) (omega (arith, q))))
      where
        by : (a : ℕ) → (a < row) ⊎ (row + 16 ≤ a) → row ≤ a → a < row + 16 → ⊥
        by a (inl l) lo hi = omega (arith, l, lo)
        by a (inr l) lo hi = omega (arith, l, hi)

    -- and in another, which is owned no more
    abbrev idle : (ℕ → ℕ)
    idle = put bare row none_word

    no_owner : c0.live - 1 ≡ 0 → is_current layout k c0.owner ≡ false
        → Spells area data_at idle (released area layout b.first)
    no_owner e cur =
        let old = s.chunks k within in
        left_spells idle
        (subst (λ x. SpellsChunk idle row (left_with x (is_current layout k c0.owner) c0)) (sym e)
        (subst (λ t. SpellsChunk idle row (left_with 0 t c0)) (sym cur) (record {
          owner = put_here bare row none_word row refl;
          bump = put_there bare row none_word (row + 4) (λ q. omega (arith, q))
              ∙ put_here less (row + 4) 0 (row + 4) refl;
          live = put_there bare row none_word (row + 8) (λ q. omega (arith, q)) ∙ bare_live e;
          fourth = put_there bare row none_word (row + 12) (λ q. omega (arith, q))
              ∙ (bare_elsewhere (row + 12) (λ q. omega (arith, q)) (λ q. omega (arith, q)) ∙ old.fourth);
        })))
        (λ a o. put_there bare row none_word a (λ q. by a o (omega (arith, q)) (omega (arith, q)))
        ∙ bare_elsewhere a (λ q. by a o (omega (arith, q)) (omega (arith, q)))
        (λ q. by a o (omega (arith, q)) (omega (arith, q))))
      where
        by : (a : ℕ) → (a < row) ⊎ (row + 16 ≤ a) → row ≤ a → a < row + 16 → ⊥
        by a (inl l) lo hi = omega (arith, l, lo)
        by a (inr l) lo hi = omega (arith, l, hi)

    -- what is wanted at the end
    abbrev Wants : (most : ℕ) → View → Type 0
    Wants most t = Spells area data_at t.memory (released area layout b.first) × (t.spent ≤ most)

    l : row + 16 ≤ rows_at area data_at
    l = let w = within in omega (arith, w)

    -- x29 is the owner's current chunk
    own_ends : (w : ℕ) (r : ℕ → ℕ) (c h : ℕ) → c0.live - 1 ≡ 0 → c0.owner ≡ Some h → r 6 ≡ data_at + 16 * k → r 7 ≡ k
        → r 29 ≡ word_or_none (current_of layout h)
        → Ends (frag_run (table_rights area data_at)
        (If Eq 29 7 Skip (chained (Imm Add 30 0 (2 ^ 32 - 1) ∷ Store 6 30 128 ∷ []))) w (view r bare c))
        (Wants (c + 9))
    own_ends w r c h e o r6 r7 r29 = by (current_of layout h) refl
      where
        chunks : area.chunks ≤ 256
        chunks = room.chunks

        cur_is : (x : Option ℕ) → current_of layout h ≡ x → is_current layout k c0.owner ≡ is_chunk k x
        cur_is x u = ap (is_current layout k) o ∙ ap (is_chunk k) u

        clears : is_current layout k c0.owner ≡ false
            → Ends (frag_run (table_rights area data_at) (chained (Imm Add 30 0 (2 ^ 32 - 1) ∷ Store 6 30 128 ∷ [])) w
            (view r bare (c + 3))) (Wants (c + 9))
        clears cur =
            let al = room.aligned in
            let end = room.end in
            let ll = l in
            imm_then _ _ _ _ _ _ _ _ _ _ _ none_word (sum_is _ _ none_word refl)
            (store_then _ _ _ _ _ _ _ _ _ _ row none_word (plus_is _ _ _ (omega (arith, r6)) (omega (arith, ll, end)))
            (omega (arith, al))
            (may area data_at room row (omega arith) (omega (arith, ll))) refl
            (skip_ends _ _ _ _ _ _ (no_owner e cur, omega arith)))

        by : (x : Option ℕ) → current_of layout h ≡ x
            → Ends (frag_run (table_rights area data_at)
            (If Eq 29 7 Skip (chained (Imm Add 30 0 (2 ^ 32 - 1) ∷ Store 6 30 128 ∷ []))) w (view r bare c))
            (Wants (c + 9))
        by None u =
            let w29 : r 29 ≡ none_word = r29 ∙ ap word_or_none u in
            let wi = within in
            if_other _ _ _ _ _ _ _ _ _ _ _ (eq_no _ _ (λ q. omega (arith, q, w29, r7, wi, chunks)))
            (clears (cur_is None u))
        by (Some j) u = same (cases_eq j k)
          where
            w29 : r 29 ≡ j
            w29 = r29 ∙ ap word_or_none u

            same : (j ≡ k) ⊎ (j ≡ k → ⊥)
                → Ends (frag_run (table_rights area data_at)
                (If Eq 29 7 Skip (chained (Imm Add 30 0 (2 ^ 32 - 1) ∷ Store 6 30 128 ∷ []))) w (view r bare c))
                (Wants (c + 9))
            same (inl q) =
                if_taken _ _ _ _ _ _ _ _ _ _ _ (eq_yes _ _ (w29 ∙ (q ∙ sym r7)))
                (skip_ends _ _ _ _ _ _ (stays_owned e (cur_is (Some j) u ∙ eq-eqb j k q), omega arith))
            same (inr n) =
                if_other _ _ _ _ _ _ _ _ _ _ _ (eq_no _ _ (λ q. n (sym w29 ∙ (q ∙ r7))))
                (clears (cur_is (Some j) u ∙ ne_eqb j k n))

    clear_ends : (w : ℕ) (r : ℕ → ℕ) (c : ℕ) → c0.live - 1 ≡ 0 → r 6 ≡ data_at + 16 * k → r 7 ≡ k → r 12 ≡ data_at
        → Ends (frag_run (table_rights area data_at) clear_chunk w (view r less c)) (Wants (c + 24))
    clear_ends w r c e r6 r7 r12 = by c0.owner refl
      where
        by : (o : Option ℕ) → c0.owner ≡ o
            → Ends (frag_run (table_rights area data_at) clear_chunk w (view r less c)) (Wants (c + 24))
        by None o = absurd (let u = (p.keeps k within).unowned o in let v = lives in omega (arith, u, v))
        by (Some h) o =
            let al = room.aligned in
            let end = room.end in
            let ll = l in
            let small = p.owners k h o in
            let old = s.chunks k within in
            store_then _ _ _ _ _ _ _ _ _ _ (row + 4) 0 (plus_is _ _ _ (omega (arith, r6)) (omega (arith, ll, end)))
            (omega (arith, al))
            (may area data_at room (row + 4) (omega arith) (omega (arith, ll))) refl
            (load_then _ _ _ _ _ _ _ _ _ _ row h (plus_is _ _ _ (omega (arith, r6)) (omega (arith, ll, end)))
            (omega (arith, al))
            (may area data_at room row (omega arith) (omega (arith, ll)))
            (bare_elsewhere row (λ q. omega (arith, q)) (λ q. omega (arith, q)) ∙ (old.owner ∙ ap word_or_none o))
            (imm_then _ _ _ _ _ _ _ _ _ _ _ (4 * h) (times_4 _ _ refl (omega (arith, small)))
            (compute_then _ _ _ _ _ _ _ _ _ _ _ (data_at + 4 * h)
            (add_is _ _ _ (omega (arith, r12)) (omega (arith, small, ll, end)))
            (load_then _ _ _ _ _ _ _ _ _ _ (current_row data_at h) (word_or_none (current_of layout h))
            (plus_is _ _ _ (omega arith) (omega (arith, small, ll, end)))
            (omega (arith, al)) (may area data_at room (current_row data_at h) (omega arith) (omega (arith, small, ll)))
            (bare_elsewhere (current_row data_at h) (λ q. omega (arith, q, small)) (λ q. omega (arith, q, small))
            ∙ s.currents h small)
            (seq_ends _ _ _ _ _ _ _ _ (Wants (c + 24))
            (ends_so _ (Wants (c + 3 + 3 + 3 + 3 + 3 + 9)) _ (λ t z. (z.0, let q = z.1 in omega (arith, q)))
            (own_ends w (put (put (put (put r 29 h) 29 (4 * h)) 29 (data_at + 4 * h)) 29
            (word_or_none (current_of layout h)))
            (c + 3 + 3 + 3 + 3 + 3) h e o r6 r7 refl))
            (λ r' m' c' z. skip_ends _ _ _ _ _ _ z))))))

    -- one live block less
    drop_ends : (w : ℕ) (r : ℕ → ℕ) (c : ℕ) → r 28 ≡ c0.live - 1 → r 6 ≡ data_at + 16 * k → r 7 ≡ k → r 12 ≡ data_at
        → Ends (frag_run (table_rights area data_at) (If Ne 28 0 Skip clear_chunk) w (view r less c)) (Wants (c + 27))
    drop_ends w r c r28 r6 r7 r12 = by (c0.live - 1) refl
      where
        by : (n : ℕ) → c0.live - 1 ≡ n
            → Ends (frag_run (table_rights area data_at) (If Ne 28 0 Skip clear_chunk) w (view r less c))
            (Wants (c + 27))
        by zero e =
            if_other _ _ _ _ _ _ _ _ _ _ _ (ne_no _ _ (r28 ∙ e))
            (ends_so _ (Wants (c + 3 + 24)) _ (λ t z. (z.0, let q = z.1 in omega (arith, q)))
            (clear_ends w r (c + 3) e r6 r7 r12))
        by (suc n) e =
            if_taken _ _ _ _ _ _ _ _ _ _ _ (ne_yes _ _ (λ q. omega (arith, q, r28, e)))
            (skip_ends _ _ _ _ _ _ (some_left n e, omega arith))

    release_ends : (w : ℕ) (r : ℕ → ℕ) (c : ℕ) → r 10 ≡ b.first → r 12 ≡ data_at
        → Ends (frag_run (table_rights area data_at) (release_high area) w (view r m c)) (Wants (c + 60))
    release_ends w r c r10 r12 =
        let few = room.granules in
        let end = room.end in
        let log = room.log_chunk in
        let al = room.aligned in
        let i = inside in
        let wi = within in
        let ll = l in
        let old = s.chunks k within in
        let most = few_live area layout k p within in
        let size : chunk_size area ≤ 2 ^ 20 =
        (let e = front_end area k within in let n = front_next area k in omega (arith, e, n, few)) in
        let some = lives in
        seq_ends _ _ _ _ _ _ _ _ (Gives 7 28 (b.first - area.fallback) r m (c + 6))
        (minus_ends _ w r m c 7 10 28 area.fallback (b.first - area.fallback) refl refl (omega (arith, r10, high))
        (omega (arith, r10, i, few)))
        (λ r' m' c' q.
        let r7 = q.is in
        let e12 : r' 12 ≡ data_at = q.others 12 refl refl ∙ r12 in
        let sp = q.spent in
        imm_then _ _ _ _ _ _ _ _ _ _ _ k
        (right_is _ _ area.log_chunk k (omega (arith, log)) (omega (arith, log))
        (ap (λ x. x / chunk_size area) r7))
        (imm_then _ _ _ _ _ _ _ _ _ _ _ (16 * k) (times_16 _ _ refl (omega (arith, ll, end)))
        (compute_then _ _ _ _ _ _ _ _ _ _ _ (data_at + 16 * k)
        (add_is _ _ _ (omega (arith, e12)) (omega (arith, ll, end)))
        (load_then _ _ _ _ _ _ _ _ _ _ (row + 8) c0.live (plus_is _ _ _ (omega arith) (omega (arith, ll, end)))
        (omega (arith, al))
        (may area data_at room (row + 8) (omega arith) (omega (arith, ll)))
        (ap (λ f. f (row + 8)) q.memory ∙ old.live)
        (imm_then _ _ _ _ _ _ _ _ _ _ _ (c0.live - 1)
        (less_is _ 1 _ (omega (arith, some)) (omega (arith, most, size)) (omega arith))
        (store_then _ _ _ _ _ _ _ _ _ _ (row + 8) (c0.live - 1)
        (plus_is _ _ _ (omega arith) (omega (arith, ll, end))) (omega (arith, al))
        (may area data_at room (row + 8) (omega arith) (omega (arith, ll))) (omega (arith, most, size))
        (seq_ends _ _ _ _ _ _ _ _ (Wants (c + 60))
        (subst (λ f. Ends (frag_run (table_rights area data_at) (If Ne 28 0 Skip clear_chunk) w
        (view (left_registers r') (put f (row + 8) (c0.live - 1)) (c' + 3 + 3 + 3 + 3 + 3 + 3)))
        (Wants (c + 60))) (sym q.memory)
        (ends_so _ (Wants (c' + 3 + 3 + 3 + 3 + 3 + 3 + 27)) _ (λ t z. (z.0, let zs = z.1 in omega (arith, zs, sp)))
        (drop_ends w (left_registers r') (c' + 3 + 3 + 3 + 3 + 3 + 3) refl refl refl e12)))
        (λ r'' m'' c'' z. skip_ends _ _ _ _ _ _ z))))))))
      where
        left_registers : (ℕ → ℕ) → ℕ → ℕ
        left_registers r' = put (put (put (put (put r' 7 k) 6 (16 * k)) 6 (data_at + 16 * k)) 28 c0.live) 28
            (c0.live - 1)

pub high_ends : (area : Area) (data_at : ℕ) → HasRoom area data_at → ReleasesHigh area data_at
high_ends area data_at room w layout b s sound spells r12 r10 found high =
    release_ends area data_at room layout b
    (parts area layout sound) found high s.memory spells w s.registers s.spent r10 r12
