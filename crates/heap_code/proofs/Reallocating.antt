-- A block is moved to another, or granted where there was none.
use Rattle.std.proofs.Common.{◌≡◌, ℕ, ◌+◌, ◌*◌, ◌%◌, ◌^◌, ◌<◌, ◌≤◌, ◌⊎◌, ◌==◌, List, refl, sym, ◌∙◌, subst, inl, inr}
use Rattle.std.proofs.Common.{arith}
use Rattle.std.specs.Prelude.{Option, Some, None, option_map, min}
use Rattle.rv_isa.specs.declared.Op.TheVariants.{Add}
use Rattle.rv_isa.specs.declared.Cond.TheVariants.{Eq}
use Rattle.plan_core.specs.declared.types.Area.{Area}
use Rattle.plan_core.specs.declared.types.Row.{Row}
use Rattle.plan_core.specs.Plan.{granules, group_of_bits}
use Rattle.place_spec.specs.Layout.{Block, Layout, granules_for, address_of}
use Rattle.place_spec.specs.Place.{Placed, placed}
use Rattle.place_spec.specs.Release.{block_at, then_released}
use Rattle.std.proofs.lemmas.Bool.{cases_lt}
use Rattle.place_spec.specs.Sound.{Sound, Apart}
use Rattle.place_spec.proofs.Blocks.{each_found}
use Rattle.place_spec.proofs.Lists.{each}
use Rattle.place_spec.proofs.SoundParts.{Stands, parts}
use Rattle.place_spec.proofs.Sounds.{row_group}
use Rattle.heap_spec.specs.Places.{base_of, area_end}
use Rattle.heap_spec.specs.Tables.{Spells}
use Rattle.heap_spec.specs.Requests.{address_or_zero, layout_then}
use Rattle.frag_code.specs.Fragments.{Skip, Imm, Seq, If}
use Rattle.frag_code.specs.Meaning.{View, Rights, put, frag_run}
use Rattle.frag_code.specs.Ends.{Ends}
use Rattle.frag_code.proofs.Rules.{view, ends_so, seq_ends, skip_ends, imm_ends, imm_then, if_taken, if_other}
use Rattle.frag_rules.proofs.Values.{add_is, moved_is, eq_yes, eq_no}
use Rattle.frag_rules.proofs.Narrow.{ends_keep_all}
use Rattle.heap_holes.specs.Placing.{Answers}
use Rattle.heap_holes.specs.Releasing.{ReleaseLowReleases}
use Rattle.heap_bytes.specs.Copying.{CopiesBlocks}
use Rattle.heap_chunks.specs.Results.{Settled, ReleasesHigh}
use Rattle.heap_code.specs.Moving.{move_old, fill_new, realloc_code}
use Rattle.heap_code.specs.Pieces.{clean_block}
use Rattle.heap_code.specs.Rights.{call_rights}
use Rattle.heap_code.proofs.Sizes.{need_some, need_small}
use Rattle.heap_code.proofs.Blocks.{granule_small}
use Rattle.heap_code.proofs.Zeroing.{ZeroFor}
use Rattle.heap_code.proofs.News.{Beside, beside}
use Rattle.heap_code.proofs.MoveOld as old
use Rattle.heap_code.proofs.Granting.{Setting, block_from, block_to, Chosen, choose, Granted, Covers, zeroes}
use Rattle.heap_code.proofs.Granting.{zeroed_spells}

module _ (rows : List Row) (area : Area) (data_at : ℕ) (setting : Setting rows area data_at)
    (back : ReleaseLowReleases area data_at)
    (back_high : ReleasesHigh area data_at) (copies : CopiesBlocks) (layout : Layout) (sound : Sound area layout)
    (size bits w : ℕ) (size_small : size < 2 ^ 32) (word : bits < 2 ^ 32) (enough : granules area + 256 ≤ w) where
  abbrev need : ℕ
  need = granules_for size

  abbrev found : Option Placed
  found = placed rows area layout need bits

  abbrev at : ℕ → ℕ
  at granule = address_of (base_of area data_at) granule

  abbrev g : Rights
  g = call_rights area data_at (block_from area data_at found) (block_to area data_at need found)

  pub covers : Covers rows area data_at setting layout sound size bits w size_small
      word enough (block_from area data_at found) (block_to area data_at need found)
  covers p e = (
    subst (λ o. block_from area data_at o ≤ at p.granule) (sym e)
        (omega arith),
    subst (λ o. at p.granule + 16 * need ≤ block_to area data_at need o) (sym e) (omega arith),
  )

  -- the new block is zero, and its address is in x10 and x6
  record Clean (p : Placed) (r m : ℕ → ℕ) (most : ℕ) (t : View) : Type 0 where
    settled : Settled area data_at t.registers
    ten : t.registers 10 ≡ at p.granule
    six : t.registers 6 ≡ at p.granule
    fourteen : t.registers 14 ≡ need
    seventeen : t.registers 17 ≡ r 17
    words : ZeroFor (at p.granule) need m t.memory
    spent : t.spent ≤ most

  fill_ends : (p : Placed) → found ≡ Some p → (Q : View → Type 0) (r m : ℕ → ℕ) (c : ℕ)
      → Settled area data_at r → r 15 ≡ p.granule → r 10 ≡ need
      → ((r' m' : ℕ → ℕ) (c' : ℕ) → Clean p r m (c + 18 * need + 21) (view r' m' c')
      → Ends (frag_run g (If Eq 17 0 Skip (move_old area data_at)) w (view r' m' c')) Q)
      → Ends (frag_run g (fill_new area data_at) w (view r m c)) Q
  fill_ends p e Q r m c settled r15 r10 k =
      imm_then _ _ _ _ _ _ _ _ _ _ _ need
      (moved_is (r 10) need r10 (let s = need_small size size_small in omega (arith, s)))
      (seq_ends _ _ _ _ _ _ _ _ (Clean p r m (c + 18 * need + 21))
      (ends_so _ _ _ (λ t z. record {
        settled = record {
          none = z.1 31 refl ∙ settled.none;
          tables = z.1 12 refl ∙ settled.tables;
          rows = z.1 11 refl ∙ settled.rows;
        };
        ten = z.0.answer;
        six = z.0.six;
        fourteen = z.1 14 refl;
        seventeen = z.1 17 refl;
        words = z.0.words;
        spent = let q = z.0.spent in omega (arith, q);
      })
      (ends_keep_all g (clean_block area data_at) w (view (put r 14 need) m (c + 3)) _
      (zeroes rows area data_at setting layout sound size bits w size_small
      word enough (block_from area data_at found) (block_to area data_at need found)
      covers p e (put r 14 need) m (c + 3) r15 r10)))
      (λ r' m' c' h. seq_ends _ _ _ _ _ _ _ _ Q (k r' m' c' h) (λ r'' m'' c'' z. skip_ends _ _ _ _ _ _ z)))

  inside : (p : Placed) → found ≡ Some p → p.granule + need ≤ granules area
  inside p e =
      granule_small area layout need (group_of_bits rows bits) p (parts area layout sound) (need_some size)
      (λ h. row_group rows bits h (each _ rows setting.groups)) e

  abbrev Placing : (r m : ℕ → ℕ) (c : ℕ) → View → Type 0
  Placing r m c = Chosen rows area data_at setting layout sound size bits
      w size_small word enough (block_from area data_at found) (block_to area data_at need found) r m c

  -- both arms behind the placing
  arms : (Q : View → Type 0) (r m : ℕ → ℕ) (c : ℕ)
      → ((r' m' : ℕ → ℕ) (c' : ℕ) → Placing r m c (view r' m' c') → found ≡ None
      → Spells area data_at m' layout → Q (view (put r' 10 0) m' (c' + 3 + 3)))
      → ((p : Placed) → found ≡ Some p → (r' m' : ℕ → ℕ) (c' : ℕ) → Placing r m c (view r' m' c')
      → r' 15 ≡ p.granule → Spells area data_at m' p.after
      → Ends (frag_run g (fill_new area data_at) w (view r' m' (c' + 3))) Q)
      → (r' m' : ℕ → ℕ) (c' : ℕ) → Placing r m c (view r' m' c')
      → Ends (frag_run g (Seq (If Eq 15 31 (Imm Add 10 0 0) (fill_new area data_at)) Skip) w (view r' m' c')) Q
  arms Q r m c none some r' m' c' h = by found refl
    where
      by : (o : Option Placed) → found ≡ o
          → Ends (frag_run g (Seq (If Eq 15 31 (Imm Add 10 0 0) (fill_new area data_at)) Skip) w (view r' m' c')) Q
      by None e =
          let y : Answers area data_at layout None (view r' m' c') =
          subst (λ o. Answers area data_at layout o (view r' m' c')) e h.outcome in
          seq_ends _ _ _ _ _ _ _ _ Q
          (if_taken _ _ _ _ _ _ _ _ _ _ _ (eq_yes _ _ (y.0 ∙ sym h.settled.none))
          (imm_ends _ _ _ _ _ _ _ _ _ _ 0 (add_is _ _ 0 refl (omega arith)) (none r' m' c' h e y.1)))
          (λ r'' m'' c'' z. skip_ends _ _ _ _ _ _ z)
      by (Some p) e =
          let y : Answers area data_at layout (Some p) (view r' m' c') =
          subst (λ o. Answers area data_at layout o (view r' m' c')) e h.outcome in
          let i = inside p e in
          let end = setting.end in
          let fifteen = y.0 in
          let n31 = h.settled.none in
          seq_ends _ _ _ _ _ _ _ _ Q
          (if_other _ _ _ _ _ _ _ _ _ _ _ (eq_no _ _ (λ q. omega (arith, q, fifteen, n31, i, end)))
          (some p e r' m' c' h fifteen y.1))
          (λ r'' m'' c'' z. skip_ends _ _ _ _ _ _ z)

  same : {p p' : Placed} → Some p ≡ Some p' → p ≡ p'
  same q = cc

  -- with no block to move, it is a grant
  pub none_ends : (r m : ℕ → ℕ) (c : ℕ) → Spells area data_at m layout → r 10 ≡ 0 → r 11 ≡ size → r 5 ≡ bits
      → Ends (frag_run g (realloc_code rows area data_at) w (view r m c))
      (Granted rows area data_at setting layout sound size bits w size_small
      word enough (block_from area data_at found) (block_to area data_at need found) found
      (c + 12 * area.chunks + 11 * area.fallback + 18 * granules area + 1180))
  none_ends r m c s r10 r11 r5 =
      imm_then _ _ _ _ _ _ _ _ _ _ _ 0 (moved_is (r 10) 0 r10 (omega arith))
      (imm_then _ _ _ _ _ _ _ _ _ _ _ size (moved_is (r 11) size r11 size_small)
      (choose rows area data_at setting layout sound size bits w size_small
      word enough (block_from area data_at found) (block_to area data_at need found) _ _
      (put (put r 17 0) 10 size) m (c + 3 + 3) s refl r5
      (arms (Result found) (put (put r 17 0) 10 size) m (c + 3 + 3)
      (λ r' m' c' h e t. let sp = h.spent in
      subst (λ o. Result o (view (put r' 10 0) m' (c' + 3 + 3))) (sym e)
      (record { answer = refl; spells = t; zeros = λ p q. absurd (cc); spent = omega (arith, sp) }))
      (λ p e r' m' c' h fifteen t. fill_ends p e (Result found) r' m' (c' + 3) h.settled fifteen h.ten
      (λ r'' m'' c'' z. let sp = h.spent in let sq = z.spent in let i = inside p e in
      if_taken _ _ _ _ _ _ _ _ _ _ _ (eq_yes _ _ (z.seventeen ∙ h.seventeen))
      (skip_ends _ _ _ _ _ _ (subst (λ o. Result o (view r'' m'' (c'' + 3))) (sym e) (record {
        answer = z.ten;
        spells = zeroed_spells rows area data_at setting layout sound size
            bits w size_small word enough (block_from area data_at found)
            (block_to area data_at need found) p e m' m'' z.words t;
        zeros = λ p' q k a lo hi. z.words.zeros k a (subst (λ x. at x.granule ≤ k) (sym (same q)) lo)
            (subst (λ x. k < at x.granule + 16 * need) (sym (same q)) hi);
        spent = omega (arith, sp, sq, i);
      }))))))))
    where
      Result : Option Placed → View → Type 0
      Result o t = Granted rows area data_at setting layout sound size bits
          w size_small word enough (block_from area data_at found) (block_to area data_at need found) o
          (c + 12 * area.chunks + 11 * area.fallback + 18 * granules area + 1180) t

  module _ (b : Block) (there : block_at layout b.first ≡ Some b) where
    abbrev pub lesser : ℕ
    lesser = min b.granules need

    -- what a move gives
    pub record Relocated (m : ℕ → ℕ) (o : Option Placed) (most : ℕ) (t : View) : Type 0 where
      pub answer : t.registers 10 ≡ address_or_zero area data_at o
      pub spells : Spells area data_at t.memory (layout_then layout (option_map (then_released area b.first) o))
      pub copied : (p : Placed) → o ≡ Some p → (i : ℕ) → i % 4 ≡ 0 → i < 16 * lesser
          → t.memory (at p.granule + i) ≡ m (at b.first + i)
      pub zeros : (p : Placed) → o ≡ Some p → (k : ℕ) → k % 4 ≡ 0 → at p.granule + 16 * lesser ≤ k
          → k < at p.granule + 16 * need → t.memory k ≡ 0
      pub spent : t.spent ≤ most

    near : (p : Placed) → found ≡ Some p → Beside area need p b
    near p e =
        beside area layout need (group_of_bits rows bits) p b (parts area layout sound) (need_some size)
        (λ h. row_group rows bits h (each _ rows setting.groups)) e there

    pub block_ends : (r m : ℕ → ℕ) (c : ℕ) → Spells area data_at m layout → r 10 ≡ at b.first → r 11 ≡ size → r 5 ≡ bits
        → ((a : ℕ) → a % 4 ≡ 0 → base_of area data_at ≤ a → a < area_end area data_at → m a < 2 ^ 32)
        → Ends (frag_run g (realloc_code rows area data_at) w (view r m c))
        (Relocated m found (c + 12 * area.chunks + 17 * area.fallback + 51 * granules area + 1400))
    block_ends r m c s r10 r11 r5 words =
        let old_end = setting.end in
        imm_then _ _ _ _ _ _ _ _ _ _ _ (at b.first) (moved_is (r 10) (at b.first) r10 old_small)
        (imm_then _ _ _ _ _ _ _ _ _ _ _ size (moved_is (r 11) size r11 size_small)
        (choose rows area data_at setting layout sound size bits w size_small
        word enough (block_from area data_at found) (block_to area data_at need found) _ _
        (put (put r 17 (at b.first)) 10 size) m (c + 3 + 3) s refl r5
        (arms (Result found) (put (put r 17 (at b.first)) 10 size) m (c + 3 + 3)
        (λ r' m' c' h e t. let sp = h.spent in
        subst (λ o. Result o (view (put r' 10 0) m' (c' + 3 + 3))) (sym e)
        (record {
          answer = refl;
          spells = t;
          copied = λ p q. absurd (cc);
          zeros = λ p q. absurd (cc);
          spent = omega (arith, sp);
        }))
        (λ p e r' m' c' h fifteen t. fill_ends p e (Result found) r' m' (c' + 3) h.settled fifteen h.ten
        (λ r'' m'' c'' z.
        if_other _ _ _ _ _ _ _ _ _ _ _ (eq_no _ _ (λ q. let y = z.seventeen ∙ h.seventeen in omega (arith, q, y)))
        (moved_then p e r' m' c' r'' m'' c'' h t z))))))
      where
        most : ℕ
        most = c + 12 * area.chunks + 17 * area.fallback + 51 * granules area + 1400

        Result : Option Placed → View → Type 0
        Result o t = Relocated m o most t

        old_small : at b.first < 2 ^ 32
        old_small =
            let i = (each_found (Stands area layout) (λ x. x.first == b.first)
            b layout.blocks there (parts area layout sound).blocks).inside in
            let e = setting.end in omega (arith, i, e)

        Before : (ℕ → ℕ) → (ℕ → ℕ) → ℕ → Type 0
        Before r' m' c' = Placing (put (put r 17 (at b.first)) 10 size) m (c + 3 + 3) (view r' m' c')

        moved_then : (p : Placed) → found ≡ Some p → (r' m' : ℕ → ℕ) (c' : ℕ) (r'' m'' : ℕ → ℕ) (c'' : ℕ)
            → Before r' m' c' → Spells area data_at m' p.after
            → Clean p r' m' (c' + 3 + 18 * need + 21) (view r'' m'' c'')
            → Ends (frag_run g (move_old area data_at) w (view r'' m'' (c'' + 3))) (Result found)
        moved_then p e r' m' c' r'' m'' c'' h t z =
            subst (λ o. Ends (frag_run (call_rights area data_at (block_from area data_at o)
            (block_to area data_at need o)) (move_old area data_at) w (view r'' m'' (c'' + 3))) (Result found))
            (sym e)
            (ends_so _ _ _ (λ v y. subst (λ o. Result o v) (sym e) (record {
              answer = y.address;
              spells = y.tables;
              copied = λ p' q i a l. subst (λ x. v.memory (at x.granule + i) ≡ m (at b.first + i)) (same q)
                  (y.copied i a l ∙ (z.words.others (at b.first + i) (beside_new i l)
                  ∙ h.others (at b.first + i) (inr (omega arith))));
              zeros = λ p' q k a lo hi. y.others k (omega (arith, at_base p' k lo))
                  (inr (subst (λ x. at x.granule + 16 * lesser ≤ k) (sym (same q)) lo))
                  ∙ z.words.zeros k a (omega (arith, subst (λ x. at x.granule + 16 * lesser ≤ k) (sym (same q)) lo))
                  (subst (λ x. k < at x.granule + 16 * need) (sym (same q)) hi);
              spent = (let sp = h.spent in let sq = z.spent in let su = y.spent in
                  let i = inside p e in omega (arith, sp, sq, su, i));
            }))
            (old.move_ends area data_at setting.room (let top = setting.end in omega (arith, top))
            back back_high copies w enough p need (need_some size) b (near p e)
            m'' (zeroed_spells rows area data_at setting layout sound size
            bits w size_small word enough (block_from area data_at found)
            (block_to area data_at need found) p e m' m'' z.words t)
            small_words r'' (c'' + 3) z.six z.ten z.settled.rows z.settled.tables z.fourteen (z.seventeen
            ∙ h.seventeen)))
          where
            at_base : (p' : Placed) (k : ℕ) → at p'.granule + 16 * lesser ≤ k → base_of area data_at ≤ k
            at_base p' k lo = omega (arith, lo)

            beside_new : (i : ℕ) → i < 16 * lesser → (at b.first + i < at p.granule)
                ⊎ (at p.granule + 16 * need ≤ at b.first + i)
            beside_new i l = by (near p e).apart
              where
                by : Apart p.granule need b.first b.granules → (at b.first + i < at p.granule)
                    ⊎ (at p.granule + 16 * need ≤ at b.first + i)
                by (inl q) = inr (omega (arith, q))
                by (inr q) = inl (omega (arith, q, l))

            small_words : (a : ℕ) → a % 4 ≡ 0 → base_of area data_at ≤ a → a < area_end area data_at → m'' a < 2 ^ 32
            small_words a q lo hi = by (cases_lt a (at p.granule)) (cases_lt a (at p.granule + 16 * need))
              where
                old_word : (a < at p.granule) ⊎ (at p.granule + 16 * need ≤ a) → m'' a < 2 ^ 32
                old_word o = subst (λ x. x < 2 ^ 32) (sym (z.words.others a o ∙ h.others a (inr (omega (arith, lo)))))
                    (words a q lo hi)

                by : (a < at p.granule) ⊎ (at p.granule ≤ a) → (a < at p.granule + 16 * need)
                    ⊎ (at p.granule + 16 * need ≤ a) → m'' a < 2 ^ 32
                by (inl l) o = old_word (inl l)
                by (inr l) (inr o) = old_word (inr o)
                by (inr l) (inl o) = subst (λ x. x < 2 ^ 32) (sym (z.words.zeros a q l o)) (omega arith)
