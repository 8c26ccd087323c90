-- The first rule: a block at the bump of its group's current chunk.
use Rattle.std.proofs.Common.{◌≡◌, ◌≢◌, ℕ, ◌+◌, ◌*◌, ◌^◌, ◌<◌, ◌≤◌, ◌⊎◌, refl, sym, ◌∙◌, subst, inl, inr, arith}
use Rattle.std.specs.Prelude.{Some}
use Rattle.plan_core.specs.declared.types.Area.{Area}
use Rattle.plan_core.specs.Plan.{granules}
use Rattle.place_spec.specs.declared.parts.Chunk.{Chunk}
use Rattle.place_spec.specs.declared.parts.Spot.{Spot}
use Rattle.place_spec.specs.declared.parts.Spot.TheVariants.{Current}
use Rattle.place_spec.specs.Layout.{Layout, current_of, chunk_of, chunk_size, chunk_front}
use Rattle.place_spec.specs.Place.{granule_of, taken, placed_at}
use Rattle.place_spec.proofs.Fronts.{front_next, front_end}
use Rattle.place_spec.proofs.SoundParts.{Parts}
use Rattle.heap_spec.specs.Places.{current_row, chunk_row, rows_at, granule_row}
use Rattle.heap_spec.specs.Tables.{Spells}
use Rattle.frag_code.specs.Meaning.{View, put, frag_run}
use Rattle.frag_code.specs.Ends.{Ends}
use Rattle.frag_code.proofs.Rules.{view, seq_ends, skip_ends, imm_then, load_then, store_then}
use Rattle.frag_rules.proofs.Values.{add_is, plus_is}
use Rattle.frag_rules.proofs.Spans.{put_here, put_there}
use Rattle.heap_chunks.specs.Chunks.{place_current}
use Rattle.heap_chunks.specs.Results.{HasRoom, table_rights}
use Rattle.heap_chunks.proofs.Lives.{few_live}
use Rattle.heap_chunks.proofs.Changes.{Writes, enters}
use Rattle.heap_chunks.proofs.Answering.{Answered, may, answer_ends}

-- a block of a group was placed at a spot
pub record PlacedAt (area : Area) (data_at : ℕ) (layout : Layout) (need group : ℕ) (spot : Spot) (most : ℕ)
    (t : View) : Type 0 where
  pub granule_is : t.registers 15 ≡ granule_of area layout spot
  pub spells : Spells area data_at t.memory (placed_at area layout need (Some group) spot).after
  pub spent : t.spent ≤ most

-- a word that is none of three that were written
pub put_thrice : (m : ℕ → ℕ) (a x b y c z k : ℕ) → k ≢ a → k ≢ b → k ≢ c → put (put (put m a x) b y) c z k ≡ m k
put_thrice m a x b y c z k na nb nc = put_there (put (put m a x) b y) c z k nc
    ∙ (put_there (put m a x) b y k nb ∙ put_there m a x k na)

module _ (area : Area) (data_at : ℕ) (room : HasRoom area data_at) (layout : Layout) (need group k : ℕ)
    (p : Parts area layout)
    (within : k < area.chunks) (current : current_of layout group ≡ Some k) (small : group < 16) (some : 1 ≤ need)
    (fits : (chunk_of layout k).bump + need ≤ chunk_size area) where
  abbrev c0 : Chunk
  c0 = chunk_of layout k

  abbrev first : ℕ
  first = chunk_front area k + c0.bump

  abbrev row : ℕ
  row = chunk_row data_at k

  abbrev place : ℕ
  place = granule_row area data_at first

  low : first < granules area
  low = let e = front_end area k within in let n = front_next area k in omega (arith, e, n, fits, some)

  abbrev written : (ℕ → ℕ) → ℕ → ℕ
  written m = put (put (put m (row + 4) (c0.bump + need)) (row + 8) (c0.live + 1)) place need

  stays : (m : ℕ → ℕ) → Writes area data_at layout k m (written m) group first
  stays m = record {
    aligned = room.aligned;
    parts = p;
    within = within;
    behind = omega arith;
    small = small;
    others = λ a al lo hi n far o. put_thrice m (row + 4) (c0.bump + need) (row + 8) (c0.live + 1) place need a
        (λ e. by a far e (omega (arith, e)) (omega (arith, e)))
        (λ e. by a far e (omega (arith, e)) (omega (arith, e))) o;
  }
    where
      by : {b : ℕ} → (a : ℕ) → (a < row) ⊎ (row + 16 ≤ a) → a ≡ b → row ≤ a → a < row + 16 → ⊥
      by a (inl l) e lo hi = omega (arith, l, lo)
      by a (inr l) e lo hi = omega (arith, l, hi)

  spelt : (m : ℕ → ℕ) → Spells area data_at m layout
      → Spells area data_at (written m) (placed_at area layout need (Some group) (Current k)).after
  unfolding taken granule_of
  spelt m s =
      let old = s.chunks k within in
      let far : row + 16 ≤ place = omega (arith, within) in
      enters area data_at layout k m (written m) group first (stays m) s need (Some group)
      (record { owner = c0.owner; bump = c0.bump + need; live = c0.live + 1 }) layout.currents
      (record {
        owner = put_thrice m (row + 4) (c0.bump + need) (row + 8) (c0.live + 1) place need row (λ e. omega (arith, e))
            (λ e. omega (arith, e)) (λ e. omega (arith, e, far)) ∙ old.owner;
        bump = put_there (put (put m (row + 4) (c0.bump + need)) (row + 8) (c0.live + 1)) place need (row + 4)
            (λ e. omega (arith, e, far))
            ∙ (put_there (put m (row + 4) (c0.bump + need)) (row + 8) (c0.live + 1) (row + 4) (λ e. omega (arith, e))
            ∙ put_here m (row + 4) (c0.bump + need) (row + 4) refl);
        live = put_there (put (put m (row + 4) (c0.bump + need)) (row + 8) (c0.live + 1)) place need (row + 8)
            (λ e. omega (arith, e, far))
            ∙ put_here (put m (row + 4) (c0.bump + need)) (row + 8) (c0.live + 1) (row + 8) refl;
        fourth = put_thrice m (row + 4) (c0.bump + need) (row + 8) (c0.live + 1) place need (row + 12)
            (λ e. omega (arith, e)) (λ e. omega (arith, e)) (λ e. omega (arith, e, far)) ∙ old.fourth;
      })
      (λ j l. put_thrice m (row + 4) (c0.bump + need) (row + 8) (c0.live + 1) place need (current_row data_at j)
      (λ e. omega (arith, e, l)) (λ e. omega (arith, e, l))
      (λ e. omega (arith, e, l)) ∙ s.currents j l)
      (omega arith) (let n = front_next area k in omega (arith, n, fits, some))
      (put_here (put (put m (row + 4) (c0.bump + need)) (row + 8) (c0.live + 1)) place need place refl)

  pub current_ends : (w : ℕ) (r m : ℕ → ℕ) (c : ℕ) → Spells area data_at m layout → r 6 ≡ data_at + 16 * k → r 7 ≡ k
      → r 29 ≡ c0.bump
      → r 30 ≡ c0.bump + need → r 10 ≡ need → r 11 ≡ rows_at area data_at
      → Ends (frag_run (table_rights area data_at) (place_current area) w (view r m c))
      (PlacedAt area data_at layout need group (Current k) (c + 33))
  unfolding granule_of
  current_ends w r m c s r6 r7 r29 r30 r10 r11 =
      let al = room.aligned in
      let end = room.end in
      let few = room.granules in
      let old = s.chunks k within in
      let live = few_live area layout k p within in
      let size : c0.bump + chunk_size area ≤ 2 ^ 31 =
      (let e = front_end area k within in let n = front_next area k in omega (arith, e, n, few, fits)) in
      let word : need < 2 ^ 32 = omega (arith, size, fits) in
      let l : row + 16 ≤ rows_at area data_at = omega (arith, within) in
      let read_live : put m (row + 4) (c0.bump + need) (row + 8) ≡ c0.live =
      put_there m (row + 4) (c0.bump + need) (row + 8) (λ e. omega (arith, e)) ∙ old.live in
      store_then _ _ _ _ _ _ _ _ _ _ (row + 4) (c0.bump + need)
      (plus_is _ _ _ (omega (arith, r6)) (omega (arith, l, end))) (omega (arith, al))
      (may area data_at room (row + 4) (omega arith) (omega (arith, l))) (omega (arith, r30, size, fits))
      (load_then _ _ _ _ _ _ _ _ _ _ (row + 8) c0.live (plus_is _ _ _ (omega (arith, r6)) (omega (arith, l, end)))
      (omega (arith, al))
      (may area data_at room (row + 8) (omega arith) (omega (arith, l))) read_live
      (imm_then _ _ _ _ _ _ _ _ _ _ _ (c0.live + 1) (add_is _ _ _ refl (omega (arith, live, size)))
      (store_then _ _ _ _ _ _ _ _ _ _ (row + 8) (c0.live + 1)
      (plus_is _ _ _ (omega (arith, r6)) (omega (arith, l, end))) (omega (arith, al))
      (may area data_at room (row + 8) (omega arith) (omega (arith, l))) (omega (arith, live, size))
      (seq_ends _ _ _ _ _ _ _ _ (Answered area data_at first need _ _)
      (answer_ends area data_at room w _ _ (c + 3 + 3 + 3 + 3) k c0.bump first need r7 r29 r10 r11 refl low word)
      (λ r' m' c' a. let sp = a.spent in skip_ends _ _ _ _ _ _ (record {
        granule_is = a.granule_is;
        spells = subst (λ f. Spells area data_at f (placed_at area layout need (Some group) (Current k)).after)
            (sym a.memory) (spelt m s);
        spent = omega (arith, sp);
      }))))))
