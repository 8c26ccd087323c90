-- The third rule: the first hole that is long enough is found, and its front is taken.
use Rattle.std.proofs.Common.{◌≡◌, ℕ, suc, ◌+◌, ◌*◌, ◌^◌, ◌<◌, ◌≤◌, true, false, List, [], ◌∷◌, length, get_or, refl}
use Rattle.std.proofs.Common.{sym, ◌∙◌, ap, subst, arith}
use Rattle.std.specs.Prelude.{Option, Some, None, nat_le, nat_lt, position, option_map}
use Rattle.std.specs.List.{position_or_len}
use Rattle.std.proofs.lemmas.Bool.Decides.{nat_tests}
use Rattle.rv_isa.specs.declared.Cond.TheVariants.{Eq}
use Rattle.plan_core.specs.declared.types.Area.{Area}
use Rattle.plan_core.specs.Plan.{granules}
use Rattle.place_spec.specs.declared.parts.Hole.{Hole}
use Rattle.place_spec.specs.declared.parts.Spot.TheVariants.{Front}
use Rattle.place_spec.specs.Layout.{Layout, hole_of}
use Rattle.place_spec.specs.Place.{cut_holes, granule_of, taken, placed_at, with_block}
use Rattle.place_spec.specs.Sound.{Apart}
use Rattle.place_spec.proofs.Blocks.{each_with}
use Rattle.place_spec.proofs.HoleLists.{few, cut, cut_is, rest_of}
use Rattle.place_spec.proofs.Lists.{Each, each, each_both, each_map}
use Rattle.place_spec.proofs.SoundParts.{Parts, Stands, parts}
use Rattle.frag_code.specs.Ends.{Ends}
use Rattle.frag_code.specs.Fragments.{If, Skip}
use Rattle.frag_code.specs.Meaning.{View, frag_run}
use Rattle.frag_code.proofs.Rules.{view, ends_so, if_taken, if_other, seq_ends, skip_ends}
use Rattle.frag_rules.proofs.Values.{eq_yes, eq_no}
use Rattle.heap_spec.specs.Places.{rows_at, granule_row}
use Rattle.heap_spec.specs.Tables.{none_word, Spells}
use Rattle.heap_holes.specs.Fits.{TablesFit, table_rights}
use Rattle.heap_holes.specs.Placing.{first_fit, take_front, Answers, placed_in_hole, FirstFitPlaces}
use Rattle.heap_holes.proofs.Finding.{Ground, Walks, Found, find_ends}
use Rattle.heap_holes.proofs.Tables.{Relinked, with_holes, spells_then, each_rest, apart_outside}
use Rattle.heap_holes.proofs.Taking.{take_ends}
use Rattle.heap_holes.proofs.Zipper.{rev_onto, cut_behind, get_behind, long_behind, place_behind}

pub ground : (area : Area) (data_at : ℕ) → TablesFit area data_at
    → Ground (rows_at area data_at) data_at (granules area)
ground area data_at t = record {
  head_aligned = t.aligned;
  rows_aligned = let a = t.aligned in omega (arith, a);
  above = t.above;
  order = omega arith;
  top = t.below;
}

-- the answer where no hole is long enough
no_spot : (need : ℕ) (seen holes : List Hole) → rev_onto seen [] ≡ holes → Each (λ x. x.length < need) seen
    → position (λ h. nat_le need h.length) holes ≡ None
no_spot need seen holes e short =
    subst (λ hs. position (λ h. nat_le need h.length) hs ≡ None) e
    (let l = long_behind seen [] in
    let p = place_behind (λ h. nat_le need h.length) seen []
    (each_map _ _ seen (λ x s. let t : nat_le need x.length ≡ false = grind (arith, nat_tests) in t) short) in
    let t : nat_lt (position_or_len (λ h. nat_le need h.length) (rev_onto seen []))
    (length (rev_onto seen [])) ≡ false = grind (arith, nat_tests) in
    rw t refl)

-- and where one is
spot_is : (need : ℕ) (seen rest holes : List Hole) (h : Hole) → rev_onto seen (h ∷ rest) ≡ holes
    → Each (λ x. x.length < need) seen
    → need ≤ h.length → position (λ h. nat_le need h.length) holes ≡ Some (length seen)
spot_is need seen rest holes h e short fits =
    subst (λ hs. position (λ h. nat_le need h.length) hs ≡ Some (length seen)) e
    (let l = long_behind seen (h ∷ rest) in
    let p = place_behind (λ h. nat_le need h.length) seen (h ∷ rest)
    (each_map _ _ seen (λ x s. let t : nat_le need x.length ≡ false = grind (arith, nat_tests) in t) short) in
    let yes : nat_le need h.length ≡ true = grind (arith, nat_tests) in
    let here : position_or_len (λ h. nat_le need h.length) (h ∷ rest) ≡ 0 = rw yes refl in
    let same : position_or_len (λ h. nat_le need h.length) (rev_onto seen (h ∷ rest)) ≡ length seen = omega
    (arith, p, here) in
    let t : nat_lt (position_or_len (λ h. nat_le need h.length) (rev_onto seen (h ∷ rest)))
    (length (rev_onto seen (h ∷ rest))) ≡ true = grind (arith, nat_tests) in
    rw (t, same) refl)

module _ (area : Area) (data_at : ℕ) (fit : TablesFit area data_at) (w need : ℕ) (group : Option ℕ) (layout : Layout)
    (p : Parts area layout)
    (m : ℕ → ℕ) (spells : Spells area data_at m layout) where
  abbrev rows : ℕ
  rows = rows_at area data_at

  abbrev n : ℕ
  n = granules area

  inside : Each (λ h. h.start + h.length ≤ n) layout.holes
  inside = each_map _ _ layout.holes (λ h l. omega (arith, l)) p.inside

  -- the placed block's tables
  based : (seen rest : List Hole) (h : Hole) (m' : ℕ → ℕ) → rev_onto seen (h ∷ rest) ≡ layout.holes
      → m' (rows + 8 * h.start) ≡ need
      → Relinked rows data_at h.start (h.start + h.length) m m' (rev_onto seen (rest_of need h rest))
      → Spells area data_at m' (with_holes (rev_onto seen (rest_of need h rest))
      (with_block (record { first = h.start; granules = need; group = group }) layout.blocks) layout)
  based seen rest h m' e long r =
      spells_then area data_at h.start (h.start + h.length) layout m m' (rev_onto seen (rest_of need h rest)) _ spells r
      (each_with (λ b. m' (granule_row area data_at b.first) ≡ b.granules)
      (record { first = h.start; granules = need; group = group }) layout.blocks long
      (each_both (Stands area layout) (λ x. m (granule_row area data_at x.first) ≡ x.granules)
      (λ x. m' (granule_row area data_at x.first) ≡ x.granules) layout.blocks
      (λ x st q. r.lengths x.first (apart_outside x.first x.granules h.start h.length st.filled
      (each_rest (λ y. Apart x.first x.granules y.start y.length) seen (h ∷ rest)
      (subst (Each (λ y. Apart x.first x.granules y.start y.length)) (sym e) st.holes)).0) ∙ q)
      p.blocks (each _ layout.blocks spells.lengths)))

  fronted : (seen rest : List Hole) (h : Hole) (m' : ℕ → ℕ) → rev_onto seen (h ∷ rest) ≡ layout.holes
      → m' (rows + 8 * h.start) ≡ need
      → Relinked rows data_at h.start (h.start + h.length) m m' (rev_onto seen (rest_of need h rest))
      → (h.start ≡ (placed_at area layout need group (Front (length seen))).granule)
      × Spells area data_at m' (placed_at area layout need group (Front (length seen))).after
  unfolding granule_of taken
  fronted seen rest h m' e long r =
      let none : Hole = record { start = 0; length = 0 } in
      let place : length seen + 0 ≡ length seen = omega arith in
      let here : hole_of layout.holes (length seen) ≡ h =
      subst (λ hs. get_or hs (length seen) none ≡ h) e
      (subst (λ i. get_or (rev_onto seen (h ∷ rest)) i none ≡ h) place (get_behind none 0 seen (h ∷ rest))) in
      let long_list : length layout.holes ≡ length seen + suc (length rest) = subst
      (λ hs. length hs ≡ length seen + suc (length rest)) e (long_behind seen (h ∷ rest)) in
      let left : cut_holes need (length seen) layout.holes ≡ rev_onto seen (rest_of need h rest) =
      cut_is need (length seen) layout.holes (omega (arith, long_list))
      ∙ subst (λ hs. cut need (length seen) hs ≡ rev_onto seen (rest_of need h rest)) e
      (subst (λ i. cut need i (rev_onto seen (h ∷ rest)) ≡ rev_onto seen (rest_of need h rest)) place
      (cut_behind need 0 seen (h ∷ rest))) in
      let start : (hole_of layout.holes (length seen)).start ≡ h.start = ap (λ x. x.start) here in (
        sym start,
        subst (λ a. Spells area data_at m' (with_holes (cut_holes need (length seen) layout.holes)
            (with_block (record { first = a; granules = need; group = group }) layout.blocks) layout)) (sym start)
            (subst (λ hs. Spells area data_at m'
            (with_holes hs (with_block (record { first = h.start; granules = need; group = group }) layout.blocks)
            layout))
            (sym left) (based seen rest h m' e long r)),
      )

  abbrev Placed_low : ℕ → View → Type 0
  Placed_low c t = Answers area data_at layout (placed_in_hole area layout need group) t
      × (t.spent ≤ c + 11 * area.fallback + 90)

  abbrev most : ℕ → ℕ
  most c = c + 21 + 21 * length layout.holes

  -- what comes behind the walk
  then_takes : (c : ℕ) (r' m' : ℕ → ℕ) (c' : ℕ) → 1 ≤ need
      → Found rows data_at n need (most c) m layout.holes (view r' m' c')
      → Ends (frag_run (table_rights area data_at) (If Eq 15 31 Skip take_front) w (view r' m' c')) (Placed_low c)
  then_takes c r' m' c' some found = by found.rest found.way
    where
      holes_few : 2 * length layout.holes ≤ area.fallback + 1
      holes_few = let l = few area.fallback 0 layout.holes p.inside p.ascends (omega arith) in omega (arith, l)

      by : (rest : List Hole) → Walks rows data_at n need (most c) m layout.holes rest (view r' m' c')
          → Ends (frag_run (table_rights area data_at) (If Eq 15 31 Skip take_front) w (view r' m' c')) (Placed_low c)
      by [] k =
          subst (λ x. Ends (frag_run (table_rights area data_at) (If Eq 15 31 Skip take_front) w (view r' x c'))
          (Placed_low c)) (sym k.memory)
          (if_taken _ _ _ _ _ _ _ _ _ _ _ (eq_yes (r' 15) (r' 31) (k.word ∙ (k.coming ∙ sym k.none)))
          (skip_ends _ _ _ _ _ _ (
            subst (λ o. Answers area data_at layout
                (option_map (placed_at area layout need group) (option_map (λ i. Front i) o)) (view r' m (c' + 3)))
                (sym (no_spot need k.seen layout.holes k.is k.short)) (k.word ∙ k.coming, spells),
            let o = k.spent in omega (arith, o, holes_few),
          )))
      by (h ∷ rest) k =
          let top = fit.below in
          let i = k.inside.0 in
          let filled = k.ascends.1.0 in
          let long = found.long in
          let granule : r' 15 ≡ h.start = k.word ∙ k.coming.0 in
          let fits : need ≤ h.length = omega (arith, long, k.measured.0) in
          subst (λ x. Ends (frag_run (table_rights area data_at) (If Eq 15 31 Skip take_front) w (view r' x c'))
          (Placed_low c)) (sym k.memory)
          (if_other _ _ _ _ _ _ _ _ _ _ _
          (eq_no (r' 15) (r' 31) (λ e. omega (arith, e, granule, k.none, i, filled, top)))
          (ends_so _ _ (Placed_low c)
          (λ t q.
          let done = fronted k.seen rest h t.memory k.is q.1 q.2.0 in (
            subst (λ o. Answers area data_at layout
                (option_map (placed_at area layout need group) (option_map (λ i. Front i) o)) t)
                (sym (spot_is need k.seen rest layout.holes h k.is k.short fits)) (q.0 ∙ done.0, done.1),
            let o = k.spent in let u = q.2.1 in omega (arith, o, u, holes_few),
          ))
          (take_ends rows data_at n (ground area data_at fit) w m k.seen h rest (record {
            passed = k.passed;
            coming = k.coming;
            descends = k.descends;
            ascends = k.ascends;
            inside = i;
            inside_rest = k.inside.1;
          }) need some r' (c' + 3) fits k.measured.1 k.at granule k.measured.0 k.asked k.base)))

  pub places : (r : ℕ → ℕ) (c : ℕ) → 1 ≤ need → need < 2 ^ 32 → r 10 ≡ need → r 11 ≡ rows → r 12 ≡ data_at
      → r 31 ≡ none_word
      → length layout.holes ≤ w → Ends (frag_run (table_rights area data_at) first_fit w (view r m c)) (Placed_low c)
  places r c some small asked base head none enough =
      seq_ends _ _ _ _ _ _ _ _ (Found rows data_at n need (most c) m layout.holes)
      (find_ends rows data_at n
      (ground area data_at fit)
      w need r m c layout.holes small asked base head none spells.holes inside p.ascends enough)
      (λ r' m' c' found. seq_ends _ _ _ _ _ _ _ _ (Placed_low c) (then_takes c r' m' c' some found)
      (λ r2 m2 c2 q. skip_ends _ _ _ _ _ _ q))

pub first_fit_places : (area : Area) (data_at : ℕ) → TablesFit area data_at → FirstFitPlaces area data_at
first_fit_places area data_at fit w need group layout s sound some small spells asks enough =
    places area data_at fit w need group layout (parts area layout sound) s.memory spells s.registers s.spent some small
    asks.asked asks.rows asks.tables asks.none enough
