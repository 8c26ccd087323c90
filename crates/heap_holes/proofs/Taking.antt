-- The front of a hole is taken: the hole is unlinked, or what is left of it becomes a hole.
use Rattle.std.proofs.Common.{◌≡◌, ◌≢◌, ℕ, ◌+◌, ◌-◌, ◌*◌, ◌^◌, ◌<◌, ◌≤◌, ◌⊎◌, ◌==◌, Bool, true, false, List, ◌∷◌, refl}
use Rattle.std.proofs.Common.{sym, ◌∙◌, subst, arith, inl, inr}
use Rattle.std.proofs.lemmas.Bool.Decides.{nat_tests}
use Rattle.rv_isa.specs.declared.Cond.TheVariants.{Eq}
use Rattle.place_spec.specs.declared.parts.Hole.{Hole}
use Rattle.place_spec.proofs.HoleLists.{Ascends, rest_of}
use Rattle.place_spec.proofs.Lists.{Each}
use Rattle.frag_code.specs.Ends.{Ends}
use Rattle.frag_code.specs.Fragments.{If}
use Rattle.frag_code.specs.Meaning.{View, Rights, put, frag_run}
use Rattle.frag_code.proofs.Rules.{view, imm_then, compute_then, load_then, store_then, if_taken, if_other, seq_ends}
use Rattle.frag_code.proofs.Rules.{skip_ends}
use Rattle.frag_rules.specs.Rights.{in_span, one_span}
use Rattle.frag_rules.proofs.Spans.{in_span_yes, put_here, put_there}
use Rattle.frag_rules.proofs.Values.{add_is, sub_is, times_8, plus_is, eq_yes, eq_no}
use Rattle.heap_spec.specs.Tables.{SpellsHoles}
use Rattle.heap_holes.specs.Placing.{unlink, split, take_front}
use Rattle.heap_holes.proofs.Finding.{Ground}
use Rattle.heap_holes.proofs.Tables.{Relinked}
use Rattle.heap_holes.proofs.Zipper.{hole, rev_onto, link_of, HasSeen, Descends, after, zip, seen_stay, holes_stay}
use Rattle.heap_holes.proofs.Zipper.{LinkStands, link_stands, word_small}

-- a hole is reached behind others
pub record Reached (rows head n : ℕ) (m : ℕ → ℕ) (seen : List Hole) (h : Hole) (rest : List Hole) : Type 0 where
  pub passed : HasSeen rows head m seen
  pub coming : SpellsHoles rows m (m (link_of rows head seen)) (h ∷ rest)
  pub descends : Descends seen
  pub ascends : Ascends (after seen) (h ∷ rest)
  pub inside : h.start + h.length ≤ n
  pub inside_rest : Each (λ x. x.start + x.length ≤ n) rest

module _ (rows head n : ℕ) (f : Ground rows head n) (w : ℕ) (m : ℕ → ℕ) (seen : List Hole) (h : Hole) (rest : List Hole)
    (k : Reached rows head n m seen h rest) where
  abbrev g : Rights
  g = one_span head (rows + 8 * n)

  abbrev link : ℕ
  link = link_of rows head seen

  abbrev row : ℕ
  row = rows + 8 * h.start

  may : (a : ℕ) → head ≤ a → a < rows + 8 * n → in_span head (rows + 8 * n) a ≡ true
  may a l h = in_span_yes head (rows + 8 * n) a l h

  l : LinkStands rows head h.start link
  l = link_stands rows head h.start seen f.head_aligned f.rows_aligned f.order k.ascends.0

  next_small : m (row + 4) < 2 ^ 32
  next_small = word_small rows n m (m (row + 4)) rest f.top k.coming.2 k.inside_rest

  not_link : (a : ℕ) → a ≢ head → a < rows → a ≢ link
  not_link a other low e = by l.first
    where
      by : (link ≡ head) ⊎ (rows ≤ link) → ⊥
      by (inl q) = other (e ∙ q)
      by (inr q) = omega (arith, e, q, low)

  -- the whole hole
  abbrev after_unlink : ℕ → ℕ
  after_unlink = put m link (m (row + 4))

  unlinked : Relinked rows head h.start (h.start + h.length) m after_unlink (rev_onto seen rest)
  unlinked =
      let high = l.high in
      let order = f.order in
      record {
        holes = zip rows head after_unlink seen rest
            (seen_stay rows head m after_unlink seen (omega (arith, order)) k.descends
            (λ a low. put_there m link (m (row + 4)) a (λ e. omega (arith, e, low))) k.passed)
            (subst (λ x. SpellsHoles rows after_unlink x rest) (sym (put_here m link (m (row + 4)) link refl))
            (holes_stay rows (h.start + h.length + 1) m after_unlink (m (row + 4)) rest
            (λ a low. put_there m link (m (row + 4)) a (λ e. omega (arith, e, low, high))) k.ascends.1.1 k.coming.2));
        below = λ a other low. put_there m link (m (row + 4)) a (not_link a other low);
        lengths = λ i out. put_there m link (m (row + 4)) (rows + 8 * i) (λ e. l.apart i (sym e));
      }

  module _ (need : ℕ) (some : 1 ≤ need) where
    -- a part of it
    abbrev start : ℕ
    start = h.start + need

    abbrev left : ℕ
    left = h.length - need

    abbrev new_row : ℕ
    new_row = rows + 8 * (h.start + need)

    abbrev m1 : ℕ → ℕ
    m1 = put m link start

    abbrev m2 : ℕ → ℕ
    m2 = put m1 new_row left

    abbrev m3 : ℕ → ℕ
    m3 = put m2 (new_row + 4) (m (row + 4))

    abbrev after_split : ℕ → ℕ
    after_split = put m3 row need

    others : (a : ℕ) → a ≢ link → a ≢ new_row → a ≢ new_row + 4 → a ≢ row → after_split a ≡ m a
    others a x y z u =
        put_there m3 row need a u
        ∙ (put_there m2 (new_row + 4) (m (row + 4)) a z
        ∙ (put_there m1 new_row left a y ∙ put_there m link start a x))

    splits : need < h.length
        → Relinked rows head h.start (h.start + h.length) m after_split (rev_onto seen (hole start left ∷ rest))
    splits less =
        let high = l.high in
        let order = f.order in
        record {
          holes = zip rows head after_split seen (hole start left ∷ rest)
              (seen_stay rows head m after_split seen (omega (arith, order)) k.descends
              (λ a low. others a (λ e. omega (arith, e, low)) (λ e. omega (arith, e, low, high))
              (λ e. omega (arith, e, low, high)) (λ e. omega (arith, e, low, high))) k.passed) (
                at_link,
                at_row,
                subst (λ x. SpellsHoles rows after_split x rest) (sym at_next)
                    (holes_stay rows (h.start + h.length + 1) m after_split (m (row + 4)) rest
                    (λ a low. others a (λ e. omega (arith, e, low, high)) (λ e. omega (arith, e, low, less))
                    (λ e. omega (arith, e, low, less)) (λ e. omega (arith, e, low)))
                    k.ascends.1.1 k.coming.2),
              );
          below = λ a other low. others a (not_link a other low) (λ e. omega (arith, e, low))
              (λ e. omega (arith, e, low)) (λ e. omega (arith, e, low));
          lengths = λ i out. keeps i out;
        }
      where
        at_link : after_split link ≡ start
        at_link =
            let high = l.high in
            put_there m3 row need link (λ e. omega (arith, e, high))
            ∙ (put_there m2 (new_row + 4) (m (row + 4)) link (λ e. omega (arith, e, high))
            ∙ (put_there m1 new_row left link (λ e. omega (arith, e, high)) ∙ put_here m link start link refl))

        at_row : after_split new_row ≡ left
        at_row =
            put_there m3 row need new_row (λ e. omega (arith, e, some))
            ∙ (put_there m2 (new_row + 4) (m (row + 4)) new_row (λ e. omega (arith, e))
            ∙ put_here m1 new_row left new_row refl)

        at_next : after_split (new_row + 4) ≡ m (row + 4)
        at_next =
            put_there m3 row need (new_row + 4) (λ e. omega (arith, e))
            ∙ put_here m2 (new_row + 4) (m (row + 4)) (new_row + 4) refl

        keeps : (i : ℕ) → (i < h.start) ⊎ (h.start + h.length ≤ i) → after_split (rows + 8 * i) ≡ m (rows + 8 * i)
        keeps i (inl out) =
            others (rows + 8 * i) (λ e. l.apart i (sym e)) (λ e. omega (arith, e, out)) (λ e. omega (arith, e))
            (λ e. omega (arith, e, out))
        keeps i (inr out) =
            others (rows + 8 * i) (λ e. l.apart i (sym e)) (λ e. omega (arith, e, out, less)) (λ e. omega (arith, e))
            (λ e. omega (arith, e, out, less, some))

    -- the fragment
    abbrev pub Takes : (most : ℕ) → View → Type 0
    Takes most t =
        (t.registers 15 ≡ h.start) × (t.memory row ≡ need)
        × (Relinked rows head h.start (h.start + h.length) m t.memory (rev_onto seen (rest_of need h rest))
        × (t.spent ≤ most))

    unlink_ends : (r : ℕ → ℕ) (c most : ℕ) → need ≡ h.length → r 7 ≡ row → r 5 + 4 ≡ link → r 15 ≡ h.start
        → c + 6 ≤ most
        → Ends (frag_run g unlink w (view r m c)) (Takes most)
    unlink_ends r c most e at_row at granule le =
        let top = f.top in
        let order = f.order in
        let high = l.high in
        let low = l.low in
        let i = k.inside in
        let test : (h.length == need) ≡ true = grind (arith, nat_tests) in
        let same : rest_of need h rest ≡ rest = rw test refl in
        load_then _ _ _ _ _ _ _ _ _ _ (row + 4) (m (row + 4))
        (plus_is (r 7) 4 (row + 4) (omega (arith, at_row)) (omega (arith, i, top, e, some)))
        (let a = f.rows_aligned in omega (arith, a))
        (may (row + 4) (omega (arith, order)) (omega (arith, i, e, some))) refl
        (store_then _ _ _ _ _ _ _ _ _ _ link (m (row + 4)) (plus_is (r 5) 4 link at (omega (arith, high, i, top)))
        l.aligned (may link low (omega (arith, high, i))) (let s = next_small in omega (arith, s))
        (skip_ends _ _ _ _ _ _ (
          granule,
          put_there m link (m (row + 4)) row (λ q. omega (arith, q, high))
              ∙ (k.coming.1 ∙ sym e),
          (
            subst (λ hs. Relinked rows head h.start (h.start + h.length) m after_unlink (rev_onto seen hs))
                (sym same) unlinked,
            omega (arith, le),
          ),
        )))

    split_ends : (r : ℕ → ℕ) (c most : ℕ) → need < h.length → r 7 ≡ row → r 5 + 4 ≡ link → r 15 ≡ h.start
        → r 28 ≡ left → r 10 ≡ need → r 11 ≡ rows
        → c + 24 ≤ most → Ends (frag_run g split w (view r m c)) (Takes most)
    split_ends r c most less at_row at granule rest_is asked base le =
        let top = f.top in
        let order = f.order in
        let high = l.high in
        let low = l.low in
        let i = k.inside in
        let a = f.rows_aligned in
        let test : (h.length == need) ≡ false = grind (arith, nat_tests) in
        let same : rest_of need h rest ≡ hole start left ∷ rest = rw test refl in
        compute_then _ _ _ _ _ _ _ _ _ _ _ start
        (add_is (r 15) (r 10) start (omega (arith, granule, asked)) (omega (arith, i, less, top)))
        (store_then _ _ _ _ _ _ _ _ _ _ link start (plus_is (r 5) 4 link at (omega (arith, high, i, top)))
        l.aligned (may link low (omega (arith, high, i))) (omega (arith, i, less, top))
        (imm_then _ _ _ _ _ _ _ _ _ _ _ (8 * start)
        (times_8 start (8 * start) (omega arith) (omega (arith, i, less, top)))
        (compute_then _ _ _ _ _ _ _ _ _ _ _ new_row
        (add_is (8 * start) (r 11) new_row (omega (arith, base)) (omega (arith, i, less, top)))
        (store_then _ _ _ _ _ _ _ _ _ _ new_row left
        (plus_is new_row 0 new_row (omega arith) (omega (arith, i, less, top)))
        (omega (arith, a)) (may new_row (omega (arith, order)) (omega (arith, i, less)))
        (omega (arith, rest_is, i, less, top))
        (load_then _ _ _ _ _ _ _ _ _ _ (row + 4) (m (row + 4))
        (plus_is (r 7) 4 (row + 4) (omega (arith, at_row)) (omega (arith, i, less, top)))
        (omega (arith, a)) (may (row + 4) (omega (arith, order)) (omega (arith, i, less)))
        (put_there m1 new_row left (row + 4) (λ e. omega (arith, e))
        ∙ put_there m link start (row + 4) (λ e. omega (arith, e, high)))
        (store_then _ _ _ _ _ _ _ _ _ _ (new_row + 4) (m (row + 4))
        (plus_is new_row 4 (new_row + 4) (omega arith) (omega (arith, i, less, top)))
        (omega (arith, a)) (may (new_row + 4) (omega (arith, order)) (omega (arith, i, less)))
        (let s = next_small in omega (arith, s))
        (store_then _ _ _ _ _ _ _ _ _ _ row need
        (plus_is (r 7) 0 row (omega (arith, at_row)) (omega (arith, i, less, top)))
        (omega (arith, a)) (may row (omega (arith, order)) (omega (arith, i, less)))
        (omega (arith, asked, i, less, top))
        (skip_ends _ _ _ _ _ _ (
          granule,
          put_here m3 row need row refl,
          (
            subst (λ hs. Relinked rows head h.start (h.start + h.length) m after_split (rev_onto seen hs)) (sym same)
                (splits less),
            omega (arith, le),
          ),
        )))))))))

    pub take_ends : (r : ℕ → ℕ) (c : ℕ) → need ≤ h.length → r 7 ≡ row → r 5 + 4 ≡ link → r 15 ≡ h.start
        → r 28 ≡ h.length → r 10 ≡ need → r 11 ≡ rows
        → Ends (frag_run g take_front w (view r m c)) (Takes (c + 36))
    take_ends r c fits at_row at granule long asked base =
        let top = f.top in
        let i = k.inside in
        compute_then _ _ _ _ _ _ _ _ _ _ _ left
        (sub_is (r 28) (r 10) left (omega (arith, long, asked, fits)) (omega (arith, long, i, top)))
        (seq_ends _ _ _ _ _ _ _ _ (Takes (c + 36)) (by (h.length == need) refl) (λ r' m' c' p. skip_ends _ _ _ _ _ _ p))
      where
        by : (t : Bool) → (h.length == need) ≡ t
            → Ends (frag_run g (If Eq 28 0 unlink split) w (view (put r 28 left) m (c + 3))) (Takes (c + 36))
        by true e =
            let same : need ≡ h.length = grind (arith, nat_tests) in
            if_taken _ _ _ _ _ _ _ _ _ _ _ (eq_yes left 0 (omega (arith, same)))
            (unlink_ends (put r 28 left) (c + 3 + 3) (c + 36) same at_row at granule (omega arith))
        by false e =
            let other : h.length ≢ need = grind (arith, nat_tests) in
            if_other _ _ _ _ _ _ _ _ _ _ _ (eq_no left 0 (λ q. other (omega (arith, q, fits))))
            (split_ends (put r 28 left) (c + 3 + 3) (c + 36)
            (omega (arith, other, fits)) at_row at granule refl asked base (omega arith))
