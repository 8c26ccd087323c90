-- A block is placed by all rules.
use Rattle.std.proofs.Common.{◌≡◌, ℕ, ◌+◌, ◌-◌, ◌*◌, ◌^◌, ◌<◌, ◌≤◌, ◌==◌, Bool, true, false, not, cond, List, [], ◌∷◌}
use Rattle.std.proofs.Common.{length, refl, ap, sym, ◌∙◌, subst, arith}
use Rattle.std.specs.Prelude.{Option, Some, None, option_map, All}
use Rattle.std.specs.Option.{option_or}
use Rattle.std.proofs.lemmas.Bool.{eqb-true, eqb-false}
use Rattle.rv_isa.specs.declared.Op.TheVariants.{Add, Sub}
use Rattle.rv_isa.specs.declared.Cond.TheVariants.{Eq}
use Rattle.plan_core.specs.declared.types.Area.{Area}
use Rattle.plan_core.specs.declared.types.Row.{Row}
use Rattle.plan_core.specs.Plan.{granules, group_of_bits}
use Rattle.place_spec.specs.declared.parts.Spot.{Spot}
use Rattle.place_spec.specs.Layout.{Layout}
use Rattle.place_spec.specs.Place.{Placed, front_spot, spot_of, granule_of, taken, placed_at, placed_in, placed}
use Rattle.place_spec.specs.Sound.{Sound}
use Rattle.place_spec.proofs.Lists.{each}
use Rattle.place_spec.proofs.SoundParts.{Stands, Parts, parts}
use Rattle.place_spec.proofs.Sounds.{placed_in_parts, row_group}
use Rattle.heap_spec.specs.Tables.{none_word, Spells}
use Rattle.frag_code.specs.Fragments.{Skip, Compute, If, chained}
use Rattle.frag_code.specs.Meaning.{View, put, frag_run}
use Rattle.frag_code.specs.Ends.{Ends}
use Rattle.frag_code.proofs.Rules.{view, ends_so, seq_ends, skip_ends, compute_ends, compute_then, if_taken, if_other}
use Rattle.frag_rules.proofs.Values.{add_is, sub_is, eq_yes, eq_no}
use Rattle.frag_rules.proofs.Narrow.{ends_keep_all}
use Rattle.heap_holes.specs.Placing.{first_fit, Answers, placed_in_hole, FirstFitPlaces}
use Rattle.heap_chunks.specs.Groups.{group_tests}
use Rattle.heap_chunks.specs.Chunks.{place_high}
use Rattle.heap_chunks.specs.Results.{HasRoom, Settled, table_rights, group_word, FindsGroup, chunk_spot, Tried}
use Rattle.heap_chunks.specs.Results.{PlacesHigh}
use Rattle.heap_code.specs.Pieces.{place_low, has_groups, place_block}
use Rattle.frag_code.specs.Frames.{assigns}
use Rattle.heap_code.proofs.Kept.{Unused, unused_10, unused_11, unused_12, unused_31, groups_keep, high_keeps}
use Rattle.heap_code.proofs.Spots.{by_parts, no_group, front_alone, no_front, few_holes, new_stands}

-- the first granule of a placed block lies in the area
pub granule_small : (area : Area) (layout : Layout) (need : ℕ) (group : Option ℕ) (p : Placed)
    → Parts area layout → 1 ≤ need
    → ((g : ℕ) → group ≡ Some g → g < 16) → placed_in area layout need group ≡ Some p
    → p.granule + need ≤ granules area
granule_small area layout need group p h some small e = by (spot_of area layout need group) refl e
  where
    by : (o : Option Spot) → spot_of area layout need group ≡ o
        → option_map (placed_at area layout need group) o ≡ Some p → p.granule + need ≤ granules area
    by None u e = absurd (cc)
    by (Some spot) u e =
        let q : placed_at area layout need group spot ≡ p = cc in
        let after : Parts area (placed_at area layout need group spot).after =
        placed_in_parts area layout need group (placed_at area layout need group spot)
        h some small (ap (option_map (placed_at area layout need group)) u) in
        let s : Stands area (placed_at area layout need group spot).after
        (record { first = granule_of area layout spot; granules = need; group = group }) =
        new_stands (Stands area (placed_at area layout need group spot).after)
        (record { first = granule_of area layout spot; granules = need; group = group })
        (taken need spot layout).blocks after.blocks in
        subst (λ x. x.granule + need ≤ granules area) q s.inside

-- where groups are looked for
some_chunks : (rows : List Row) (area : Area) → has_groups rows area ≡ true → 0 < area.chunks
some_chunks [] area e = absurd (cc)
some_chunks (row ∷ rows) area e = by (area.chunks == 0) refl e
  where
    by : (t : Bool) → (area.chunks == 0) ≡ t → not t ≡ true → 0 < area.chunks
    by true u e = absurd (cc)
    by false u e = let n = eqb-false area.chunks 0 u in omega (arith, n)

no_chunks : (chunks : ℕ) → not (chunks == 0) ≡ false → chunks ≡ 0
no_chunks chunks e = by (chunks == 0) refl e
  where
    by : (t : Bool) → (chunks == 0) ≡ t → not t ≡ false → chunks ≡ 0
    by true u e = eqb-true chunks 0 u
    by false u e = absurd (cc)

module _ (area : Area) (data_at : ℕ) (room : HasRoom area data_at) (rows : List Row)
    (groups : All (λ row. row.group < 16) rows)
    (low : FirstFitPlaces area data_at) (finds : FindsGroup rows data_at) (high : 0 < area.chunks
    → PlacesHigh area data_at)
    (layout : Layout) (sound : Sound area layout) (need bits w : ℕ) (some : 1 ≤ need) (small : need < 2 ^ 31)
    (enough : granules area + 256 ≤ w) where
  abbrev p : Parts area layout
  p = parts area layout sound

  abbrev group : Option ℕ
  group = group_of_bits rows bits

  -- the block that was asked for, or none, and the cost
  abbrev pub Outcome : Option Placed → (most : ℕ) → View → Type 0
  Outcome found most t = Answers area data_at layout found t × (t.spent ≤ most)

  low_ends : (in_group : Option ℕ) (r m : ℕ → ℕ) (c : ℕ) → Spells area data_at m layout
      → Settled area data_at r → r 10 ≡ need
      → Ends (frag_run (table_rights area data_at) (place_low area) w (view r m c))
      (Outcome (placed_in_hole area layout need in_group) (c + 11 * area.fallback + 90))
  low_ends in_group r m c s settled r10 = by (area.fallback == 0) refl
    where
      by : (t : Bool) → (area.fallback == 0) ≡ t
          → Ends (frag_run (table_rights area data_at) (cond t (Compute Add 15 31 0) first_fit) w (view r m c))
          (Outcome (placed_in_hole area layout need in_group) (c + 11 * area.fallback + 90))
      by true e =
          let n31 = settled.none in
          compute_ends _ _ _ _ _ _ _ _ _ _ none_word (add_is _ _ none_word (omega (arith, n31)) (omega arith))
          (subst (λ o. Outcome (option_map (placed_at area layout need in_group) o)
          (c + 11 * area.fallback + 90) (view (put r 15 none_word) m (c + 3)))
          (sym (no_front area layout p (eqb-true area.fallback 0 e) need)) ((refl, s), omega arith))
      by false e =
          low w need in_group layout (view r m c) sound some (omega (arith, small)) s
          (record { asked = r10; rows = settled.rows; tables = settled.tables; none = settled.none })
          (let f = few_holes area layout p in let e = enough in omega (arith, f, e))

  -- the group was found
  record Grouped (most : ℕ) (m : ℕ → ℕ) (t : View) : Type 0 where
    settled : Settled area data_at t.registers
    ten : t.registers 10 ≡ need
    word : t.registers 14 ≡ group_word data_at group
    memory : t.memory ≡ m
    spent : t.spent ≤ most

  -- with the first two rules tried before
  third_ends : (o : Option Spot) → spot_of area layout need group ≡ option_or o (front_spot layout need)
      → (r m : ℕ → ℕ) (c : ℕ)
      → Settled area data_at r → r 10 ≡ need
      → ((q : Spot) → o ≡ Some q → (r 15 ≡ granule_of area layout q)
      × Spells area data_at m (placed_at area layout need group q).after)
      → (o ≡ None → (r 15 ≡ none_word) × Spells area data_at m layout)
      → Ends (frag_run (table_rights area data_at) (If Eq 15 31 (place_low area) Skip) w (view r m c))
      (Outcome (placed rows area layout need bits) (c + 11 * area.fallback + 93))
  third_ends (Some q) e r m c settled r10 when_found when_none =
      let y = when_found q refl in
      let at : r 15 ≡ granule_of area layout q = y.0 in
      let found : placed rows area layout need bits ≡ Some (placed_at area layout need group q) =
      ap (option_map (placed_at area layout need group)) e in
      let inside = granule_small area layout need group (placed_at area layout need group q)
      p some (λ g. row_group rows bits g (each _ rows groups)) found in
      let n31 = settled.none in
      let most = room.granules in
      if_other _ _ _ _ _ _ _ _ _ _ _ (eq_no _ _ (λ z. omega (arith, z, at, n31, inside, most)))
      (skip_ends _ _ _ _ _ _ (subst (λ o. Outcome o (c + 11 * area.fallback + 93) (view r m (c + 3)))
      (sym found) (y, omega arith)))
  third_ends None e r m c settled r10 when_found when_none =
      let n = when_none refl in
      let n31 = settled.none in
      let found : placed rows area layout need bits ≡ placed_in_hole area layout need group =
      ap (option_map (placed_at area layout need group)) e in
      if_taken _ _ _ _ _ _ _ _ _ _ _ (eq_yes _ _ (n.0 ∙ sym n31))
      (ends_so _ (Outcome (placed_in_hole area layout need group) (c + 3 + 11 * area.fallback + 90)) _
      (λ t z. subst (λ o. Outcome o (c + 11 * area.fallback + 93) t) (sym found) (z.0, let q = z.1 in omega (arith, q)))
      (low_ends group r m (c + 3) n.1 settled r10))

  -- what holds before the third rule
  record Tries (o : Option Spot) (most : ℕ) (t : View) : Type 0 where
    settled : Settled area data_at t.registers
    ten : t.registers 10 ≡ need
    found : (q : Spot) → o ≡ Some q → (t.registers 15 ≡ granule_of area layout q)
        × Spells area data_at t.memory (placed_at area layout need group q).after
    none : o ≡ None → (t.registers 15 ≡ none_word) × Spells area data_at t.memory layout
    spent : t.spent ≤ most

  high_ends : 0 < area.chunks → (in_group : Option ℕ) → group ≡ in_group → (r m : ℕ → ℕ) (c : ℕ)
      → Spells area data_at m layout
      → Settled area data_at r → r 10 ≡ need → r 14 ≡ group_word data_at in_group
      → Ends (frag_run (table_rights area data_at) (chained (If Eq 14 31 (Compute Add 15 31 0) (place_high area)
      ∷ If Eq 15 31 (place_low area) Skip ∷ [])) w (view r m c))
      (Outcome (placed rows area layout need bits) (c + 12 * area.chunks + 11 * area.fallback + 240))
  high_ends chunks None is r m c s settled r10 r14 =
      let n31 = settled.none in
      seq_ends _ _ _ _ _ _ _ _ (Tries None (c + 6))
      (if_taken _ _ _ _ _ _ _ _ _ _ _ (eq_yes _ _ (r14 ∙ sym n31))
      (compute_ends _ _ _ _ _ _ _ _ _ _ none_word (add_is _ _ none_word (omega (arith, n31)) (omega arith))
      (record {
        settled = record { none = settled.none; tables = settled.tables; rows = settled.rows };
        ten = r10;
        found = λ q e. absurd (cc);
        none = λ e. (refl, s);
        spent = omega arith;
      })))
      (λ r' m' c' t. seq_ends _ _ _ _ _ _ _ _
      (Outcome (placed rows area layout need bits) (c' + 11 * area.fallback + 93))
      (third_ends None (ap (spot_of area layout need) is
      ∙ no_group area layout need) r' m' c' t.settled t.ten t.found t.none)
      (λ r'' m'' c'' z. skip_ends _ _ _ _ _ _ (z.0, let q = z.1 in let u = t.spent in omega (arith, q, u))))
  high_ends chunks (Some g) is r m c s settled r10 r14 =
      let n31 = settled.none in
      let end = room.end in
      let small_group : g < 16 = row_group rows bits g (each _ rows groups) is in
      let e = enough in
      let most = room.chunks in
      seq_ends _ _ _ _ _ _ _ _ (Tries (chunk_spot area layout need g) (c + 3 + 12 * area.chunks + 128))
      (if_other _ _ _ _ _ _ _ _ _ _ _ (eq_no _ _ (λ z. omega (arith, z, r14, n31, small_group, end)))
      (ends_so _ _ _ (λ t z. tries g (chunk_spot area layout need g) r m c settled r10 is s t z)
      (ends_keep_all (table_rights area data_at) (place_high area) w (view r m (c + 3))
      (λ t. Tried area data_at layout need g m (chunk_spot area layout need g) t
      × (t.spent ≤ c + 3 + 12 * area.chunks + 128))
      (high chunks w layout need g (view r m (c + 3)) sound s settled r10
      some (omega (arith, small)) r14 small_group (omega (arith, e, most))))))
      (λ r' m' c' t. seq_ends _ _ _ _ _ _ _ _
      (Outcome (placed rows area layout need bits) (c' + 11 * area.fallback + 93))
      (third_ends (chunk_spot area layout need g) (ap (spot_of area layout need) is
      ∙ by_parts area layout need g) r' m' c' t.settled t.ten t.found t.none)
      (λ r'' m'' c'' z. skip_ends _ _ _ _ _ _ (z.0, let q = z.1 in let u = t.spent in omega (arith, q, u))))
    where
      keeps : (k : ℕ) → Unused k → assigns (place_high area) k ≡ false
      keeps k u = high_keeps area k u

      tries : (g : ℕ) (o : Option Spot) (r m : ℕ → ℕ) (c : ℕ) → Settled area data_at r
          → r 10 ≡ need → group ≡ Some g → Spells area data_at m layout → (t : View)
          → (Tried area data_at layout need g m o t × (t.spent ≤ c + 3 + 12 * area.chunks + 128))
          × ((k : ℕ) → assigns (place_high area) k ≡ false → t.registers k ≡ r k)
          → Tries o (c + 3 + 12 * area.chunks + 128) t
      tries g o r m c settled r10 is s t (z, kept) = record {
        settled = record {
          none = kept 31 (keeps 31 unused_31) ∙ settled.none;
          tables = kept 12 (keeps 12 unused_12) ∙ settled.tables;
          rows = kept 11 (keeps 11 unused_11) ∙ settled.rows;
        };
        ten = kept 10 (keeps 10 unused_10) ∙ r10;
        found = λ q e. (let y : Tried area data_at layout need g m (Some q) t =
            subst (λ o. Tried area data_at layout need g m o t) e z.0 in
            (y.0, subst (λ x. Spells area data_at t.memory (placed_at area layout need x q).after) (sym is) y.1));
        none = λ e. (let y : Tried area data_at layout need g m None t =
            subst (λ o. Tried area data_at layout need g m o t) e z.0 in
            (y.0, subst (λ f. Spells area data_at f layout) (sym y.1) s));
        spent = z.1;
      }

  pub block_ends : (r m : ℕ → ℕ) (c : ℕ) → Spells area data_at m layout → Settled area data_at r
      → r 10 ≡ need → r 5 ≡ bits → bits < 2 ^ 32
      → length rows ≤ 64
      → Ends (frag_run (table_rights area data_at) (place_block rows area) w (view r m c))
      (Outcome (placed rows area layout need bits) (c + 12 * area.chunks + 11 * area.fallback + 1100))
  block_ends r m c s settled r10 r5 word few = by (has_groups rows area) refl
    where
      front : spot_of area layout need group ≡ front_spot layout need
          → Ends (frag_run (table_rights area data_at) (place_low area) w (view r m c))
          (Outcome (placed rows area layout need bits) (c + 12 * area.chunks + 11 * area.fallback + 1100))
      front e =
          ends_so _ (Outcome (placed_in_hole area layout need group) (c + 11 * area.fallback + 90)) _
          (λ t z. subst (λ o. Outcome o (c + 12 * area.chunks + 11 * area.fallback + 1100) t)
          (sym (ap (option_map (placed_at area layout need group)) e))
          (z.0, let q = z.1 in omega (arith, q)))
          (low_ends group r m c s settled r10)

      grouped : 0 < area.chunks
          → Ends (frag_run (table_rights area data_at)
          (chained (Compute Sub 13 31 5 ∷ group_tests rows ∷ If Eq 14 31 (Compute Add 15 31 0) (place_high area)
          ∷ If Eq 15 31 (place_low area) Skip ∷ [])) w (view r m c))
          (Outcome (placed rows area layout need bits) (c + 12 * area.chunks + 11 * area.fallback + 1100))
      grouped chunks =
          let n31 = settled.none in
          compute_then _ _ _ _ _ _ _ _ _ _ _ (2 ^ 32 - 1 - bits)
          (sub_is _ _ _ (omega (arith, n31, r5, word)) (omega (arith, n31)))
          (seq_ends _ _ _ _ _ _ _ _ (Grouped (c + 9 + 12 * length rows) m)
          (ends_so _ _ _ (λ t z. record {
            settled = record {
              none = z.1 31 (groups_keep rows 31 unused_31) ∙ settled.none;
              tables = z.1 12 (groups_keep rows 12 unused_12) ∙ settled.tables;
              rows = z.1 11 (groups_keep rows 11 unused_11) ∙ settled.rows;
            };
            ten = z.1 10 (groups_keep rows 10 unused_10) ∙ r10;
            word = z.0.0;
            memory = z.0.1.0;
            spent = let q = z.0.1.1 in omega (arith, q);
          })
          (ends_keep_all (table_rights area data_at) (group_tests rows) w
          (view (put r 13 (2 ^ 32 - 1 - bits)) m (c + 3))
          (λ t. (t.registers 14 ≡ group_word data_at group)
          × ((t.memory ≡ m) × (t.spent ≤ c + 3 + 12 * length rows + 6)))
          (finds (table_rights area data_at) w bits (view (put r 13 (2 ^ 32 - 1 - bits)) m (c + 3))
          r5 (omega (arith, word)) settled.none settled.tables)))
          (λ r' m' c' q. ends_so _ (Outcome (placed rows area layout need bits)
          (c' + 12 * area.chunks + 11 * area.fallback + 240)) _
          (λ t z. (z.0, let y = z.1 in let u = q.spent in omega (arith, y, u, few)))
          (high_ends chunks group refl r' m' c' (subst (λ f. Spells area data_at f layout) (sym q.memory) s)
          q.settled q.ten q.word)))

      by : (t : Bool) → has_groups rows area ≡ t
          → Ends (frag_run (table_rights area data_at)
          (cond t (chained (Compute Sub 13 31 5 ∷ group_tests rows
          ∷ If Eq 14 31 (Compute Add 15 31 0) (place_high area) ∷ If Eq 15 31 (place_low area) Skip ∷ []))
          (place_low area)) w (view r m c))
          (Outcome (placed rows area layout need bits) (c + 12 * area.chunks + 11 * area.fallback + 1100))
      by true e = grouped (some_chunks rows area e)
      by false e = front (without_groups rows e)
        where
          without_groups : (rs : List Row) → has_groups rs area ≡ false
              → spot_of area layout need (group_of_bits rs bits) ≡ front_spot layout need
          without_groups [] e = no_group area layout need
          without_groups (row ∷ rs) e = front_alone area layout p (no_chunks area.chunks e)
              need (group_of_bits (row ∷ rs) bits)
