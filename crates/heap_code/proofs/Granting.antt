-- A block is granted: placed, and made zero.
use Rattle.std.proofs.Common.{◌≡◌, ℕ, ◌+◌, ◌*◌, ◌%◌, ◌^◌, ◌<◌, ◌≤◌, ◌⊎◌, Bool, true, false, List, length, refl, ap, sym}
use Rattle.std.proofs.Common.{◌∙◌, subst, inl, inr, arith}
use Rattle.std.specs.Prelude.{Option, Some, None, All, ◌||◌}
use Rattle.rv_isa.specs.declared.Op.TheVariants.{Add}
use Rattle.rv_isa.specs.declared.Cond.TheVariants.{Eq}
use Rattle.plan_core.specs.declared.types.Area.{Area}
use Rattle.plan_core.specs.declared.types.Row.{Row}
use Rattle.plan_core.specs.Plan.{granules, group_of_bits}
use Rattle.place_spec.specs.Layout.{Layout, granules_for, address_of}
use Rattle.place_spec.specs.Place.{Placed, placed}
use Rattle.place_spec.specs.Sound.{Sound}
use Rattle.place_spec.proofs.Lists.{each}
use Rattle.place_spec.proofs.SoundParts.{Parts, parts}
use Rattle.place_spec.proofs.Sounds.{placing, row_group}
use Rattle.heap_spec.specs.Places.{base_of, area_end, tables_end}
use Rattle.heap_spec.specs.Tables.{Spells}
use Rattle.heap_spec.specs.Requests.{address_or_zero, layout_then}
use Rattle.heap_spec.proofs.Frames.{spells_same}
use Rattle.frag_code.specs.Fragments.{Fragment, Skip, Imm, Seq, If}
use Rattle.frag_code.specs.Frames.{HasMore}
use Rattle.frag_code.specs.Meaning.{View, Rights, put, frag_run}
use Rattle.frag_code.specs.Ends.{Ends}
use Rattle.frag_code.proofs.Rules.{view, ends_so, seq_ends, skip_ends, imm_ends, imm_then, set_then, compute_then}
use Rattle.frag_code.proofs.Rules.{if_taken, if_other}
use Rattle.frag_rules.specs.Rights.{in_span}
use Rattle.frag_rules.proofs.Values.{add_is, times_16, eq_yes, eq_no}
use Rattle.frag_rules.proofs.Spans.{in_span_yes, outside}
use Rattle.frag_rules.proofs.Narrow.{ends_narrow, ends_keep_all}
use Rattle.heap_holes.specs.Placing.{Answers, FirstFitPlaces}
use Rattle.heap_chunks.specs.Results.{HasRoom, Settled, table_rights, FindsGroup, PlacesHigh}
use Rattle.heap_code.specs.Pieces.{settle, size_need, place_block, clean_block}
use Rattle.heap_code.specs.Calls.{grant}
use Rattle.heap_code.specs.Rights.{call_rights}
use Rattle.heap_code.proofs.Returning.{either_span}
use Rattle.heap_code.proofs.Sizes.{need_ends, need_some, need_small, settle_ends}
use Rattle.heap_code.proofs.Zeroing.{ZeroFor, zero_ends}
use Rattle.heap_code.proofs.Kept.{settle_keeps, placing_keeps, unused_10, unused_11, unused_12, unused_17, unused_31}
use Rattle.heap_code.proofs.Blocks.{granule_small, block_ends}

-- what holds of a plan and of the place of its tables, and what the pieces do
pub record Setting (rows : List Row) (area : Area) (data_at : ℕ) : Type 0 where
  pub room : HasRoom area data_at
  pub end : area_end area data_at ≤ 0x7FF00000
  pub groups : All (λ row. row.group < 16) rows
  pub few_rows : length rows ≤ 64
  pub low : FirstFitPlaces area data_at
  pub finds : FindsGroup rows data_at
  pub high : 0 < area.chunks → PlacesHigh area data_at

-- the stretch of a placed block, or none
abbrev pub block_from : Area → (data_at : ℕ) → Option Placed → ℕ
block_from area data_at (Some p) = address_of (base_of area data_at) p.granule
block_from area data_at None = 0

abbrev pub block_to : Area → (data_at need : ℕ) → Option Placed → ℕ
block_to area data_at need (Some p) = address_of (base_of area data_at) p.granule + 16 * need
block_to area data_at need None = 0

-- the tables' rights are among those of a call
pub tables_may : (area : Area) (data_at from to : ℕ)
    → HasMore (table_rights area data_at) (call_rights area data_at from to)
tables_may area data_at from to = record {
  reads = λ a h. reads a (either_span data_at (tables_end area data_at) 0 0 a (rw h refl));
  writes = λ a h. rw h refl;
}
  where
    reads : (a : ℕ) → ((data_at ≤ a) × (a < tables_end area data_at)) ⊎ ((0 ≤ a) × (a < 0))
        → in_span data_at (area_end area data_at) a ≡ true
    reads a (inl p) = let lo = p.0 in let hi = p.1 in
        in_span_yes data_at (area_end area data_at) a lo (omega (arith, hi))
    reads a (inr p) = absurd (let hi = p.1 in omega (arith, hi))

module _ (rows : List Row) (area : Area) (data_at : ℕ) (setting : Setting rows area data_at)
    (layout : Layout) (sound : Sound area layout)
    (size bits w : ℕ) (size_small : size < 2 ^ 32) (word : bits < 2 ^ 32)
    (enough : granules area + 256 ≤ w) (from to : ℕ) where
  abbrev need : ℕ
  need = granules_for size

  abbrev found : Option Placed
  found = placed rows area layout need bits

  abbrev g : Rights
  g = call_rights area data_at from to

  -- the block was placed or refused
  pub record Chosen (r m : ℕ → ℕ) (c : ℕ) (t : View) : Type 0 where
    pub settled : Settled area data_at t.registers
    pub ten : t.registers 10 ≡ need
    pub seventeen : t.registers 17 ≡ r 17
    pub outcome : Answers area data_at layout found t
    pub others : (a : ℕ) → (a < data_at) ⊎ (tables_end area data_at ≤ a) → t.memory a ≡ m a
    pub spent : t.spent ≤ c + 12 * area.chunks + 11 * area.fallback + 1130

  -- with anything behind
  pub choose : (rest : Fragment) (Q : View → Type 0) (r m : ℕ → ℕ) (c : ℕ)
      → Spells area data_at m layout → r 10 ≡ size → r 5 ≡ bits
      → ((r' m' : ℕ → ℕ) (c' : ℕ) → Chosen r m c (view r' m' c') → Ends (frag_run g rest w (view r' m' c')) Q)
      → Ends (frag_run g (Seq (settle area data_at) (Seq size_need (Seq (place_block rows area) rest)))
      w (view r m c)) Q
  choose rest Q r m c s r10 r5 k =
      let room = setting.room in
      let end = room.end in
      seq_ends _ _ _ _ _ _ _ _ _
      (ends_keep_all g (settle area data_at) w (view r m c) _
      (settle_ends g w area data_at r m c (let e = setting.end in omega (arith, e))))
      (λ r1 m1 c1 p. seq_ends _ _ _ _ _ _ _ _ _
      (ends_keep_all g size_need w (view r1 m1 c1) _
      (need_ends g w r1 m1 c1 size (p.1 10 (settle_keeps area data_at 10 refl refl refl) ∙ r10) size_small))
      (λ r2 m2 c2 q. seq_ends _ _ _ _ _ _ _ _ _
      (ends_keep_all g (place_block rows area) w (view r2 m2 c2) _
      (ends_narrow (table_rights area data_at) g (place_block rows area) w
      (view r2 m2 c2) _ (tables_may area data_at from to)
      (block_ends area data_at room rows setting.groups setting.low setting.finds
      setting.high layout sound need bits w (need_some size)
      (need_small size size_small) enough r2 m2 c2
      (subst (λ f. Spells area data_at f layout) (sym (q.0.1.0 ∙ p.0.1.0)) s)
      (record { none = q.1 31 refl ∙ p.0.0.none; tables = q.1 12 refl ∙ p.0.0.tables; rows = q.1 11 refl ∙ p.0.0.rows })
      q.0.0 (q.1 5 refl ∙ (p.1 5 (settle_keeps area data_at 5 refl refl refl) ∙ r5)) word setting.few_rows)))
      (λ r3 m3 c3 z. k r3 m3 c3 (record {
        settled = record {
          none = z.1 31 (placing_keeps rows area 31 unused_31) ∙ (q.1 31 refl ∙ p.0.0.none);
          tables = z.1 12 (placing_keeps rows area 12 unused_12) ∙ (q.1 12 refl ∙ p.0.0.tables);
          rows = z.1 11 (placing_keeps rows area 11 unused_11) ∙ (q.1 11 refl ∙ p.0.0.rows);
        };
        ten = z.1 10 (placing_keeps rows area 10 unused_10) ∙ q.0.0;
        seventeen = z.1 17 (placing_keeps rows area 17 unused_17)
            ∙ (q.1 17 refl ∙ p.1 17 (settle_keeps area data_at 17 refl refl refl));
        outcome = z.0.0.0;
        others = λ a o. z.0.1 a (outside data_at (tables_end area data_at) a o) ∙ ap (λ f. f a) (q.0.1.0 ∙ p.0.1.0);
        spent = let s1 = p.0.1.1 in let s2 = q.0.1.1 in let s3 = z.0.0.1 in omega (arith, s1, s2, s3);
      }))))

  -- the block's address and length
  abbrev pub address : Placed → ℕ
  address p = address_of (base_of area data_at) p.granule

  inside : (p : Placed) → found ≡ Some p → p.granule + need ≤ granules area
  inside p e =
      granule_small area layout need (group_of_bits rows bits) p (parts area layout sound) (need_some size)
      (λ h. row_group rows bits h (each _ rows setting.groups)) e

  pub after_parts : (p : Placed) → found ≡ Some p → Parts area p.after
  after_parts p e = placing rows area layout need bits p setting.groups (parts area layout sound) (need_some size) e

  -- what a grant gives
  pub record Granted (o : Option Placed) (most : ℕ) (t : View) : Type 0 where
    pub answer : t.registers 10 ≡ address_or_zero area data_at o
    pub spells : Spells area data_at t.memory (layout_then layout o)
    pub zeros : (p : Placed) → o ≡ Some p → (k : ℕ) → k % 4 ≡ 0 → address p ≤ k
        → k < address p + 16 * need → t.memory k ≡ 0
    pub spent : t.spent ≤ most

  -- the stretch is the block
  abbrev pub Covers : Type 0
  Covers = (p : Placed) → found ≡ Some p → (from ≤ address p) × (address p + 16 * need ≤ to)

  -- the address of a placed block, its granules zero, with the tables as they were
  pub record Zeroed (p : Placed) (m : ℕ → ℕ) (most : ℕ) (t : View) : Type 0 where
    pub answer : t.registers 10 ≡ address p
    pub six : t.registers 6 ≡ address p
    pub words : ZeroFor (address p) need m t.memory
    pub spent : t.spent ≤ most

  pub zeroes : Covers → (p : Placed) → found ≡ Some p → (r m : ℕ → ℕ) (c : ℕ) → r 15 ≡ p.granule → r 10 ≡ need
      → Ends (frag_run g (clean_block area data_at) w (view r m c)) (Zeroed p m (c + 18 * need + 18))
  zeroes covers p e r m c r15 r10 =
      let i = inside p e in
      let end = setting.end in
      let al = setting.room.aligned in
      let big = enough in
      let cov = covers p e in
      let lo = cov.0 in
      let hi = cov.1 in
      seq_ends _ _ _ _ _ _ _ _ (λ t. (t.registers 6 ≡ address p)
      × ((t.registers 10 ≡ need) × ((t.memory ≡ m) × (t.spent ≤ c + 9))))
      (imm_then _ _ _ _ _ _ _ _ _ _ _ (16 * p.granule) (times_16 _ _ (omega (arith, r15)) (omega (arith, i, end)))
      (set_then _ _ _ _ _ _ _ _ _ (base_of area data_at) (omega (arith, end))
      (compute_then _ _ _ _ _ _ _ _ _ _ _ (address p) (add_is _ _ _ (omega arith) (omega (arith, i, end)))
      (skip_ends _ _ _ _ _ _ (refl, (r10, (refl, omega arith)))))))
      (λ r' m' c' z. seq_ends _ _ _ _ _ _ _ _ (Zeroed p m (c + 18 * need + 18))
      (ends_so _ _ _ (λ t y. record {
        answer = y.0;
        six = y.1.0;
        words = subst (λ f. ZeroFor (address p) need f t.memory) z.1.1.0 y.1.1.0;
        spent = let q = y.1.1.1 in let u = z.1.1.1 in omega (arith, q, u);
      })
      (zero_ends g w (address p) need m' c' (omega (arith, al)) (omega (arith, i, end))
      (λ k a b. may k (omega (arith, a, lo)) (omega (arith, b, hi)))
      r' z.0 z.1.0 (omega (arith, i, big))))
      (λ r'' m'' c'' y. skip_ends _ _ _ _ _ _ y))
    where
      may : (k : ℕ) → from ≤ k → k < to → (in_span data_at (tables_end area data_at) k || in_span from to k) ≡ true
      may k l h = by (in_span data_at (tables_end area data_at) k) (in_span_yes from to k l h)
        where
          by : (t : Bool) → in_span from to k ≡ true → (t || in_span from to k) ≡ true
          by true e = refl
          by false e = e

  -- zeros in the block leave the tables
  pub zeroed_spells : (p : Placed) → found ≡ Some p → (m m' : ℕ → ℕ) → ZeroFor (address p) need m m'
      → Spells area data_at m p.after → Spells area data_at m' p.after
  zeroed_spells p e m m' z s =
      spells_same area p.after (after_parts p e) data_at m m' setting.room.aligned
      (z.others data_at (inl (omega arith)))
      (λ k q lo hi. z.others k (inl (omega (arith, hi)))) s

  pub grant_ends : Covers → (r m : ℕ → ℕ) (c : ℕ) → Spells area data_at m layout → r 10 ≡ size → r 5 ≡ bits
      → Ends (frag_run g (grant rows area data_at) w (view r m c))
      (Granted found (c + 12 * area.chunks + 11 * area.fallback + 18 * granules area + 1160))
  grant_ends covers r m c s r10 r5 = choose _ _ r m c s r10 r5 (λ r' m' c' h. by found refl r' m' c' h)
    where
      most : ℕ
      most = c + 12 * area.chunks + 11 * area.fallback + 18 * granules area + 1160

      by : (o : Option Placed) → found ≡ o → (r' m' : ℕ → ℕ) (c' : ℕ) → Chosen r m c (view r' m' c')
          → Ends (frag_run g (Seq (If Eq 15 31 (Imm Add 10 0 0) (clean_block area data_at)) Skip) w (view r' m' c'))
          (Granted found most)
      by None e r' m' c' h =
          let y : Answers area data_at layout None (view r' m' c') =
          subst (λ o. Answers area data_at layout o (view r' m' c')) e h.outcome in
          let sp = h.spent in
          seq_ends _ _ _ _ _ _ _ _ (Granted found most)
          (if_taken _ _ _ _ _ _ _ _ _ _ _ (eq_yes _ _ (y.0 ∙ sym h.settled.none))
          (imm_ends _ _ _ _ _ _ _ _ _ _ 0 (add_is _ _ 0 refl (omega arith))
          (subst (λ o. Granted o most (view (put r' 10 0) m' (c' + 3 + 3))) (sym e)
          (record { answer = refl; spells = y.1; zeros = λ p q. absurd (cc); spent = omega (arith, sp) }))))
          (λ r'' m'' c'' z. skip_ends _ _ _ _ _ _ z)
      by (Some p) e r' m' c' h =
          let y : Answers area data_at layout (Some p) (view r' m' c') =
          subst (λ o. Answers area data_at layout o (view r' m' c')) e h.outcome in
          let sp = h.spent in
          let i = inside p e in
          let end = setting.end in
          let fifteen = y.0 in
          let n31 = h.settled.none in
          seq_ends _ _ _ _ _ _ _ _ (Granted found most)
          (if_other _ _ _ _ _ _ _ _ _ _ _ (eq_no _ _ (λ q. omega (arith, q, fifteen, n31, i, end)))
          (ends_so _ _ _ (λ t z. subst (λ o. Granted o most t) (sym e) (record {
            answer = z.answer;
            spells = zeroed_spells p e m' t.memory z.words y.1;
            zeros = λ p' q k a lo hi. z.words.zeros k a (subst (λ x. address x ≤ k) (sym (same p p' q)) lo)
                (subst (λ x. k < address x + 16 * need) (sym (same p p' q)) hi);
            spent = let q = z.spent in omega (arith, q, sp, i);
          }))
          (zeroes covers p e r' m' (c' + 3) fifteen h.ten)))
          (λ r'' m'' c'' z. skip_ends _ _ _ _ _ _ z)
        where
          same : (p p' : Placed) → Some p ≡ Some p' → p ≡ p'
          same p p' q = cc
