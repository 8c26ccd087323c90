-- The old block is copied to the new one, up to the lesser of their lengths, and then released.
use Rattle.std.proofs.Common.{◌≡◌, ℕ, ◌+◌, ◌-◌, ◌*◌, ◌%◌, ◌^◌, ◌<◌, ◌≤◌, ◌⊎◌, ◌==◌, ◌||◌, ◌&&◌, cond, Bool, true, false}
use Rattle.std.proofs.Common.{[], ◌∷◌, refl, sym, ◌∙◌, subst, inl, inr, arith}
use Rattle.std.specs.Prelude.{min, nat_le, nat_lt}
use Rattle.std.proofs.lemmas.Bool.{cases_lt}
use Rattle.std.proofs.lemmas.Bool.Decides.{nat_tests}
use Rattle.rv_isa.specs.declared.Op.TheVariants.{Add, Sub}
use Rattle.rv_isa.specs.declared.Cond.TheVariants.{Ltu}
use Rattle.plan_core.specs.declared.types.Area.{Area}
use Rattle.plan_core.specs.Plan.{granules}
use Rattle.place_spec.specs.Layout.{Block}
use Rattle.place_spec.specs.Place.{Placed}
use Rattle.place_spec.specs.Release.{released}
use Rattle.place_spec.specs.Sound.{Apart}
use Rattle.place_spec.proofs.Blocks.{each_found}
use Rattle.place_spec.proofs.Lists.{each}
use Rattle.place_spec.proofs.SoundParts.{sound}
use Rattle.heap_spec.specs.Places.{base_of, rows_at, granule_row, tables_end, area_end}
use Rattle.heap_spec.specs.Tables.{Spells}
use Rattle.heap_spec.proofs.Frames.{spells_same}
use Rattle.frag_code.specs.Ends.{Ends}
use Rattle.frag_code.specs.Fragments.{Set, Compute, Imm, Seq, If, chained}
use Rattle.frag_code.specs.Frames.{assigns, HasMore}
use Rattle.frag_code.specs.Meaning.{View, Rights, put, frag_run}
use Rattle.frag_code.proofs.Rules.{view, ends_so, set_then, imm_ends, imm_then, compute_then, load_then, if_taken}
use Rattle.frag_code.proofs.Rules.{if_other, seq_ends, skip_ends}
use Rattle.frag_rules.specs.Rights.{in_span, one_span}
use Rattle.frag_rules.proofs.Narrow.{ends_narrow, ends_keep_all}
use Rattle.frag_rules.proofs.Spans.{in_span_yes, outside}
use Rattle.frag_rules.proofs.Values.{add_is, sub_is, moved_is, half_is, over_16, plus_is, ltu_yes, ltu_no}
use Rattle.heap_bytes.specs.Copying.{copy_block, CopiedFor, MayCopy, CopiesBlocks}
use Rattle.heap_holes.specs.Releasing.{ReleaseLowReleases}
use Rattle.heap_chunks.specs.Chunks.{release_high}
use Rattle.heap_chunks.specs.Constants.{constant}
use Rattle.heap_chunks.specs.Results.{HasRoom, ReleasesHigh}
use Rattle.heap_code.specs.Moving.{old_length, lesser, release_old, move_old}
use Rattle.heap_code.specs.Pieces.{free_low, free_block}
use Rattle.heap_code.specs.Rights.{call_rights}
use Rattle.heap_code.proofs.Freeing.{frees_block}
use Rattle.heap_code.proofs.Kept.{constant_keeps, plus_keeps}
use Rattle.heap_code.proofs.News.{Beside}
use Rattle.heap_code.proofs.Spots.{few_holes}

-- the tables alone
pub tables_of_call : (area : Area) (data_at from to : ℕ)
    → HasMore (one_span data_at (tables_end area data_at)) (call_rights area data_at from to)
tables_of_call area data_at from to = record { reads = λ a h. wider a (parts_of a h); writes = λ a h. first a h }
  where
    first : (a : ℕ) → in_span data_at (tables_end area data_at) a ≡ true
        → (in_span data_at (tables_end area data_at) a || in_span from to a) ≡ true
    first a h = rw h refl

    parts_of : (a : ℕ) → in_span data_at (tables_end area data_at) a ≡ true
        → (data_at ≤ a) × (a < tables_end area data_at)
    parts_of a h = by (nat_le data_at a) refl (nat_lt a (tables_end area data_at)) refl h
      where
        by : (t : Bool) → nat_le data_at a ≡ t → (u : Bool) → nat_lt a (tables_end area data_at) ≡ u
            → (t && u) ≡ true → (data_at ≤ a) × (a < tables_end area data_at)
        by true e true f h = (grind (arith, nat_tests), grind (arith, nat_tests))
        by true e false f h = absurd (cc)
        by false e u f h = absurd (cc)

    wider : (a : ℕ) → (data_at ≤ a) × (a < tables_end area data_at) → in_span data_at (area_end area data_at) a ≡ true
    wider a h = in_span_yes data_at (area_end area data_at) a h.0 (let l = h.1 in omega (arith, l))

-- the release leaves x15
low_keeps : (area : Area) → assigns (free_low area) 15 ≡ false
low_keeps area = rw (plus_keeps 11 12 11 (128 + 16 * area.chunks) 15 refl refl) refl

high_keeps : (area : Area) → assigns (release_high area) 15 ≡ false
high_keeps area = by (nat_lt (area.fallback - 1) 2048)
  where
    by : (t : Bool) → (assigns (cond t (Imm Add 7 10 ((2 ^ 32 - area.fallback) % 2 ^ 32))
        (Seq (Set 28 area.fallback) (Compute Sub 7 10 28))) 15 || false) ≡ false
    by true = refl
    by false = refl

pub free_keeps : (area : Area) → assigns (free_block area) 15 ≡ false
free_keeps area = by (area.fallback == 0) (area.chunks == 0)
  where
    by : (t u : Bool)
        → assigns (cond t (release_high area)
        (cond u (free_low area) (chained (constant 7 area.fallback
        ∷ If Ltu 10 7 (free_low area) (release_high area) ∷ [])))) 15 ≡ false
    by true u = high_keeps area
    by false true = low_keeps area
    by false false = rw (constant_keeps 7 area.fallback 15 refl, low_keeps area, high_keeps area) refl

module _ (area : Area) (data_at : ℕ) (room : HasRoom area data_at) (top : area_end area data_at < 2 ^ 32)
    (back : ReleaseLowReleases area data_at) (back_high : ReleasesHigh area data_at) (copies : CopiesBlocks)
    (w : ℕ) (enough : granules area + 256 ≤ w) (p : Placed) (need : ℕ) (some : 1 ≤ need)
    (b : Block) (k : Beside area need p b)
    (m : ℕ → ℕ) (spells : Spells area data_at m p.after)
    (words : (a : ℕ) → a % 4 ≡ 0 → base_of area data_at ≤ a → a < area_end area data_at → m a < 2 ^ 32) where
  abbrev base : ℕ
  base = base_of area data_at

  abbrev to : ℕ
  to = base + 16 * p.granule

  abbrev from : ℕ
  from = base + 16 * b.first

  abbrev n : ℕ
  n = min b.granules need

  abbrev g : Rights
  g = call_rights area data_at to (to + 16 * need)

  base_aligned : base_of area data_at % 4 ≡ 0
  base_aligned = let a = room.aligned in omega (arith, a)

  base_above : tables_end area data_at ≤ base_of area data_at
  base_above = omega arith

  above : data_at ≤ tables_end area data_at
  above = omega arith

  length_there : m (granule_row area data_at b.first) ≡ b.granules
  length_there = each_found (λ x. m (granule_row area data_at x.first)
      ≡ x.granules) (λ x. x.first == b.first) b p.after.blocks k.found (each _ p.after.blocks spells.lengths)

  old_ends : (r : ℕ → ℕ) (c : ℕ) → r 17 ≡ from → r 11 ≡ rows_at area data_at
      → Ends (frag_run g (old_length area data_at) w (view r m c)) (λ t. (t.registers 16 ≡ b.granules)
      × ((t.memory ≡ m) × (t.spent ≤ c + 15)))
  old_ends r c old rows =
      let within = k.within in
      let filled = k.filled in
      let a = room.aligned in
      let end : rows_at area data_at + 8 * b.first < tables_end area data_at = omega (arith, within, filled) in
      let under = base_above in
      set_then _ _ _ _ _ _ _ _ _ base (omega (arith, top))
      (compute_then _ _ _ _ _ _ _ _ _ _ _ (16 * b.first)
      (sub_is (r 17) base (16 * b.first) (omega (arith, old)) (omega (arith, old, within, filled, top)))
      (imm_then _ _ _ _ _ _ _ _ _ _ _ (8 * b.first) (half_is (16 * b.first) (8 * b.first) (omega arith))
      (compute_then _ _ _ _ _ _ _ _ _ _ _ (granule_row area data_at b.first)
      (add_is (8 * b.first) (r 11) (granule_row area data_at b.first)
      (omega (arith, rows)) (omega (arith, end, under, top)))
      (load_then _ _ _ _ _ _ _ _ _ _ (granule_row area data_at b.first) b.granules
      (plus_is (granule_row area data_at b.first) 0 (granule_row area data_at b.first)
      (omega arith) (omega (arith, end, under, top)))
      (omega (arith, a)) (in_span_yes data_at (area_end area data_at) (granule_row area data_at b.first)
      (omega arith) (omega (arith, end, under))) length_there
      (skip_ends _ _ _ _ _ _ (refl, (refl, omega arith)))))))

  lesser_ends : (r : ℕ → ℕ) (c : ℕ) → r 14 ≡ need → r 16 ≡ b.granules
      → Ends (frag_run g lesser w (view r m c)) (λ t. (t.registers 16 ≡ n) × ((t.memory ≡ m) × (t.spent ≤ c + 6)))
  lesser_ends r c asked old = by (cases_lt need b.granules)
    where
      by : (need < b.granules) ⊎ (b.granules ≤ need)
          → Ends (frag_run g lesser w (view r m c)) (λ t. (t.registers 16 ≡ n) × ((t.memory ≡ m) × (t.spent ≤ c + 6)))
      by (inl l) =
          let within = k.within in
          if_taken _ _ _ _ _ _ _ _ _ _ _ (ltu_yes (r 14) (r 16) (omega (arith, asked, old, l)))
          (imm_ends _ _ _ _ _ _ _ _ _ _ n (moved_is (r 14) n (omega (arith, asked, l))
          (omega (arith, within, l, top))) (refl, (refl, omega arith)))
      by (inr l) =
          if_other _ _ _ _ _ _ _ _ _ _ _ (ltu_no (r 14) (r 16) (omega (arith, asked, old, l)))
          (skip_ends _ _ _ _ _ _ (omega (arith, old, l), (refl, omega arith)))

  least : (n ≤ b.granules) × (n ≤ need)
  least = (omega arith, omega arith)

  may_copy : MayCopy g from to n m
  may_copy =
      let within = k.within in
      let inside = k.inside in
      let l0 = least.0 in
      let l1 = least.1 in
      let under = base_above in
      let a = base_aligned in
      let up = above in
      record {
        from_aligned = omega (arith, a);
        to_aligned = omega (arith, a);
        from_end = omega (arith, within, l0, top);
        to_end = omega (arith, inside, l1, top);
        apart = by k.apart;
        reads = λ x lo hi. in_span_yes data_at (area_end area data_at) x (omega (arith, lo, under, up))
            (omega (arith, hi, within, l0));
        writes = λ x lo hi. second (in_span data_at (tables_end area data_at) x)
            (in_span_yes to (to + 16 * need) x lo (omega (arith, hi, l1)));
        words = λ x q lo hi. words x q (omega (arith, lo)) (omega (arith, hi, within, l0));
      }
    where
      second : {u : Bool} (t : Bool) → u ≡ true → (t || u) ≡ true
      second true e = refl
      second false e = e

      by : Apart p.granule need b.first b.granules → (from + 16 * n ≤ to) ⊎ (to + 16 * n ≤ from)
      by (inl l) = let l1 = least.1 in inr (omega (arith, l, l1))
      by (inr l) = let l0 = least.0 in inl (omega (arith, l, l0))

  -- after the copying
  spelled : (m' : ℕ → ℕ) → CopiedFor from to n m m' → Spells area data_at m' p.after
  spelled m' c =
      let under = base_above in
      let up = above in
      spells_same area p.after k.parts_after data_at m m' room.aligned (c.others data_at (inl (omega arith)))
      (λ x q lo hi. c.others x (inl (omega (arith, hi, under)))) spells

  -- what is so at the end
  pub record Moved (most : ℕ) (t : View) : Type 0 where
    pub address : t.registers 10 ≡ to
    pub tables : Spells area data_at t.memory (released area p.after b.first)
    pub copied : (i : ℕ) → i % 4 ≡ 0 → i < 16 * n → t.memory (to + i) ≡ m (from + i)
    pub others : (a : ℕ) → tables_end area data_at ≤ a → (a < to) ⊎ (to + 16 * n ≤ a) → t.memory a ≡ m a
    pub spent : t.spent ≤ most

  -- the release, from the words after the copying
  release_ends : (r m' : ℕ → ℕ) (c : ℕ) → CopiedFor from to n m m' → r 17 ≡ from → r 12 ≡ data_at
      → Ends (frag_run g (release_old area data_at) w (view r m' c))
      (λ t. Spells area data_at t.memory (released area p.after b.first)
      × (((a : ℕ) → tables_end area data_at ≤ a → t.memory a ≡ m' a)
      × ((t.registers 15 ≡ r 15) × (t.spent ≤ c + 6 * area.fallback + 129))))
  release_ends r m' c copied old tables =
      let within = k.within in
      let filled = k.filled in
      set_then _ _ _ _ _ _ _ _ _ base (omega (arith, top))
      (compute_then _ _ _ _ _ _ _ _ _ _ _ (16 * b.first)
      (sub_is (r 17) base (16 * b.first) (omega (arith, old)) (omega (arith, old, within, filled, top)))
      (imm_then _ _ _ _ _ _ _ _ _ _ _ b.first (over_16 (16 * b.first) b.first (omega arith))
      (seq_ends _ _ _ _ _ _ _ _ After
      (ends_so _ _ After
      (λ t q. (
        q.0.0.0,
        (
          (λ a l. q.0.1 a (outside data_at (tables_end area data_at) a (inr l))),
          (q.1 15 (free_keeps area), let u = q.0.0.1 in omega (arith, u)),
        ),
      ))
      (ends_keep_all g (free_block area) w (view (put (put (put r 7 base) 10 (16 * b.first)) 10 b.first)
      m' (c + 3 + 3 + 3)) _
      (ends_narrow (one_span data_at (tables_end area data_at)) g (free_block area)
      w (view (put (put (put r 7 base) 10 (16 * b.first)) 10 b.first) m' (c + 3 + 3 + 3)) _
      (tables_of_call area data_at to (to + 16 * need))
      (frees_block area data_at room back back_high w p.after b (sound area p.after k.parts_after)
      k.found m' (spelled m' copied)
      (let f = few_holes area p.after k.parts_after in omega (arith, f, enough))
      (put (put (put r 7 base) 10 (16 * b.first)) 10 b.first) (c + 3 + 3 + 3) refl tables))))
      (λ r2 m2 c2 q. skip_ends _ _ _ _ _ _ q))))
    where
      After : View → Type 0
      After t =
          Spells area data_at t.memory (released area p.after b.first)
          × (((a : ℕ) → tables_end area data_at ≤ a → t.memory a ≡ m' a)
          × ((t.registers 15 ≡ r 15) × (t.spent ≤ c + 6 * area.fallback + 129)))

  pub move_ends : (r : ℕ → ℕ) (c : ℕ) → r 6 ≡ to → r 10 ≡ to → r 11 ≡ rows_at area data_at
      → r 12 ≡ data_at → r 14 ≡ need → r 17 ≡ from
      → Ends (frag_run g (move_old area data_at) w (view r m c)) (Moved (c + 33 * n + 6 * area.fallback + 180))
  move_ends r c at_to address rows tables asked old =
      let within = k.within in
      let filled = k.filled in
      let inside = k.inside in
      let l0 = least.0 in
      imm_then _ _ _ _ _ _ _ _ _ _ _ to (moved_is (r 10) to address (omega (arith, inside, some, top)))
      (seq_ends _ _ _ _ _ _ _ _ (λ t. ((t.registers 16 ≡ b.granules) × ((t.memory ≡ m) × (t.spent ≤ c + 3 + 15)))
      × ((j : ℕ) → assigns (old_length area data_at) j ≡ false → t.registers j ≡ put r 15 to j))
      (ends_keep_all g (old_length area data_at) w (view (put r 15 to) m (c + 3))
      _ (old_ends (put r 15 to) (c + 3) old rows))
      (λ r1 m1 c1 q1. subst (λ x. Ends
      (frag_run g (chained (lesser ∷ Imm Add 5 17 0 ∷ copy_block ∷ release_old area data_at
      ∷ Imm Add 10 15 0 ∷ [])) w (view r1 x c1)) (Moved (c + 33 * n + 6 * area.fallback + 180))) (sym q1.0.1.0)
      (seq_ends _ _ _ _ _ _ _ _ (λ t. ((t.registers 16 ≡ n) × ((t.memory ≡ m) × (t.spent ≤ c1 + 6)))
      × ((j : ℕ) → assigns lesser j ≡ false → t.registers j ≡ r1 j))
      (ends_keep_all g lesser w (view r1 m c1) _ (lesser_ends r1 c1 (q1.1 14 refl ∙ asked) q1.0.0))
      (λ r2 m2 c2 q2. subst (λ x. Ends
      (frag_run g (chained (Imm Add 5 17 0 ∷ copy_block ∷ release_old area data_at ∷ Imm Add 10 15 0 ∷ []))
      w (view r2 x c2)) (Moved (c + 33 * n + 6 * area.fallback + 180))) (sym q2.0.1.0)
      (let old2 : r2 17 ≡ from = q2.1 17 refl ∙ (q1.1 17 refl ∙ old) in
      let to2 : r2 15 ≡ to = q2.1 15 refl ∙ q1.1 15 refl in
      let at2 : r2 6 ≡ to = q2.1 6 refl ∙ (q1.1 6 refl ∙ at_to) in
      let tables2 : r2 12 ≡ data_at = q2.1 12 refl ∙ (q1.1 12 refl ∙ tables) in
      let spent1 = q1.0.1.1 in
      let spent2 = q2.0.1.1 in
      imm_then _ _ _ _ _ _ _ _ _ _ _ from (moved_is (r2 17) from old2 (omega (arith, within, filled, top)))
      (seq_ends _ _ _ _ _ _ _ _ (λ t. (CopiedFor from to n m t.memory × (t.spent ≤ c2 + 3 + 33 * n + 9))
      × ((j : ℕ) → assigns copy_block j ≡ false → t.registers j ≡ put r2 5 from j))
      (ends_keep_all g copy_block w (view (put r2 5 from) m (c2 + 3)) _
      (copies g w from to n (view (put r2 5 from) m (c2 + 3)) may_copy refl
      at2 q2.0.0 (omega (arith, l0, within, enough))))
      (λ r3 m3 c3 q3.
      seq_ends _ _ _ _ _ _ _ _ (λ t. Spells area data_at t.memory (released area p.after b.first)
      × (((a : ℕ) → tables_end area data_at ≤ a → t.memory a ≡ m3 a)
      × ((t.registers 15 ≡ r3 15) × (t.spent ≤ c3 + 6 * area.fallback + 129))))
      (release_ends r3 m3 c3 q3.0.0 (q3.1 17 refl ∙ old2) (q3.1 12 refl ∙ tables2))
      (λ r4 m4 c4 q4.
      let last : r4 15 ≡ to = q4.1.1.0 ∙ (q3.1 15 refl ∙ to2) in
      let under = base_above in
      imm_then _ _ _ _ _ _ _ _ _ _ _ to (moved_is (r4 15) to last (omega (arith, inside, some, top)))
      (skip_ends _ _ _ _ _ _ (record {
        address = refl;
        tables = q4.0;
        copied = λ i aligned l. q4.1.0 (to + i) (omega (arith, under)) ∙ q3.0.0.copies i aligned l;
        others = λ a low out. q4.1.0 a low ∙ q3.0.0.others a out;
        spent = let u3 = q3.0.1 in let u4 = q4.1.1.1 in omega (arith, spent1, spent2, u3, u4);
      }))))))))))
