-- A block becomes a hole between the passed holes and the rest, or a part of the last passed one.
use Rattle.std.proofs.Common.{◌≡◌, ◌≢◌, ℕ, ◌+◌, ◌*◌, ◌^◌, ◌<◌, ◌≤◌, ◌⊎◌, true, List, [], ◌∷◌, refl, sym, ◌∙◌, ap, subst}
use Rattle.std.proofs.Common.{arith, inl, inr}
use Rattle.std.proofs.lemmas.Bool.{cases_eq}
use Rattle.rv_isa.specs.declared.Cond.TheVariants.{Eq}
use Rattle.place_spec.specs.declared.parts.Hole.{Hole}
use Rattle.place_spec.specs.Release.{with_hole}
use Rattle.place_spec.specs.Sound.{Apart}
use Rattle.place_spec.proofs.Lists.{Each}
use Rattle.frag_code.specs.Ends.{Ends}
use Rattle.frag_code.specs.Fragments.{If}
use Rattle.frag_code.specs.Meaning.{View, Rights, put, frag_run}
use Rattle.frag_code.proofs.Rules.{view, imm_then, compute_then, load_then, store_then, if_taken, if_other, seq_ends}
use Rattle.frag_code.proofs.Rules.{skip_ends}
use Rattle.frag_rules.specs.Rights.{in_span, one_span}
use Rattle.frag_rules.proofs.Spans.{in_span_yes, put_here, put_there}
use Rattle.frag_rules.proofs.Values.{add_is, times_8, plus_is, eq_yes, eq_no}
use Rattle.heap_spec.specs.Tables.{SpellsHoles}
use Rattle.heap_holes.specs.Releasing.{widen, link, join_last}
use Rattle.heap_holes.proofs.Finding.{Ground}
use Rattle.heap_holes.proofs.Joining.{Between, Joins}
use Rattle.heap_holes.proofs.Tables.{Relinked, apart_outside}
use Rattle.heap_holes.proofs.Zipper.{hole, rev_onto, link_of, Gap, after, zip, seen_stay, holes_stay, with_seen}
use Rattle.heap_holes.proofs.Zipper.{with_last, LinkStands, link_stands, word_small}

-- the holes after it
abbrev pub Gives : (rows head first long : ℕ) → (seen rest : List Hole) → (m : ℕ → ℕ) → (from : ℕ) → (ℕ → ℕ) → Type 0
Gives rows head first long seen rest m from m' =
    Relinked rows head from (first + long) m m' (with_hole (hole first long) (rev_onto seen rest))

-- a memory in which the block's length is that of the hole to be, and else as before
pub record Lengthened (rows first long more : ℕ) (m m1 : ℕ → ℕ) : Type 0 where
  pub row : m1 (rows + 8 * first) ≡ long + more
  pub others : (k : ℕ) → k ≢ rows + 8 * first → m1 k ≡ m k

module _ (rows head n : ℕ) (f : Ground rows head n) (first long : ℕ) (m : ℕ → ℕ) (seen rest : List Hole)
    (k : Between rows head n first long m seen rest) (more : ℕ) (left : List Hole)
    (joins : Joins (first + long) rest more left)
    (m1 : ℕ → ℕ) (long_there : Lengthened rows first long more m m1) (word : ℕ)
    (coming : SpellsHoles rows m word left) where
  abbrev row : ℕ
  row = rows + 8 * first

  -- a hole of its own
  module _ (gap : Gap seen first) where
    abbrev at_link : ℕ
    at_link = link_of rows head seen

    abbrev linked : ℕ → ℕ
    linked = put (put m1 (row + 4) word) at_link first

    stands : LinkStands rows head first at_link
    stands = link_stands rows head first seen f.head_aligned f.rows_aligned f.order (from seen gap)
      where
        from : (seen : List Hole) → Gap seen first → after seen ≤ first
        from [] g = omega arith
        from (x ∷ xs) g = omega (arith, g)

    others : (a : ℕ) → a ≢ row → a ≢ row + 4 → a ≢ at_link → linked a ≡ m a
    others a x y z =
        put_there (put m1 (row + 4) word) at_link first a z ∙ (put_there m1 (row + 4) word a y ∙ long_there.others a x)

    pub links : Gives rows head first long seen rest m first linked
    links =
        let high = stands.high in
        let order = f.order in
        record {
          holes = subst (SpellsHoles rows linked (linked head))
              (sym (with_seen seen rest first long k.descends gap ∙ ap (rev_onto seen) (joins.is first long refl)))
              (zip rows head linked seen (hole first (long + more) ∷ left)
              (seen_stay rows head m linked seen (omega (arith, order)) k.descends
              (λ a low. others a (λ e. omega (arith, e, low, high)) (λ e. omega (arith, e, low, high))
              (λ e. omega (arith, e, low))) k.passed) (
                put_here (put m1 (row + 4) word) at_link first at_link refl,
                put_there (put m1 (row + 4) word) at_link first row (λ e. omega (arith, e, high))
                    ∙ (put_there m1 (row + 4) word row (λ e. omega (arith, e)) ∙ long_there.row),
                subst (λ x. SpellsHoles rows linked x left)
                    (sym (put_there (put m1 (row + 4) word) at_link first (row + 4) (λ e. omega (arith, e, high))
                    ∙ put_here m1 (row + 4) word (row + 4) refl))
                    (holes_stay rows (first + long + more + 1) m linked word left
                    (λ a low. others a (λ e. omega (arith, e, low)) (λ e. omega (arith, e, low))
                    (λ e. omega (arith, e, low, high)))
                    joins.ascends coming),
              ));
          below = λ a other low. others a (λ e. omega (arith, e, low)) (λ e. omega (arith, e, low))
              (not_link a other low);
          lengths = λ i out. keeps i out;
        }
      where
        not_link : (a : ℕ) → a ≢ head → a < rows → a ≢ at_link
        not_link a other low e = by stands.first
          where
            by : (at_link ≡ head) ⊎ (rows ≤ at_link) → ⊥
            by (inl q) = other (e ∙ q)
            by (inr q) = omega (arith, e, q, low)

        keeps : (i : ℕ) → (i < first) ⊎ (first + long ≤ i) → linked (rows + 8 * i) ≡ m (rows + 8 * i)
        keeps i (inl out) = others (rows + 8 * i) (λ e. omega (arith, e, out)) (λ e. omega (arith, e))
            (λ e. stands.apart i (sym e))
        keeps i (inr out) =
            let p = k.filled in
            others (rows + 8 * i) (λ e. omega (arith, e, out, p)) (λ e. omega (arith, e)) (λ e. stands.apart i (sym e))

-- a part of the last passed hole, which ends where the block begins
module _ (rows head n : ℕ) (f : Ground rows head n) (first long : ℕ) (m : ℕ → ℕ) (x : Hole) (seen rest : List Hole)
    (k : Between rows head n first long m (x ∷ seen) rest) (more : ℕ) (left : List Hole)
    (joins : Joins (first + long) rest more left)
    (m1 : ℕ → ℕ) (long_there : Lengthened rows first long more m m1) (word : ℕ) (coming : SpellsHoles rows m word left)
    (touch : x.start + x.length ≡ first) where
  abbrev row_x : ℕ
  row_x = rows + 8 * x.start

  abbrev widened : ℕ → ℕ
  widened = put (put m1 row_x (long + more + x.length)) (row_x + 4) word

  still : (a : ℕ) → a ≢ rows + 8 * first → a ≢ row_x → a ≢ row_x + 4 → widened a ≡ m a
  still a u y z =
      put_there (put m1 row_x (long + more + x.length)) (row_x + 4) word a z
      ∙ (put_there m1 row_x (long + more + x.length) a y ∙ long_there.others a u)

  before_x : LinkStands rows head x.start (link_of rows head seen)
  before_x = link_stands rows head x.start seen f.head_aligned f.rows_aligned f.order (from seen k.descends.1)
    where
      from : (seen : List Hole) → Gap seen x.start → after seen ≤ x.start
      from [] g = omega arith
      from (y ∷ ys) g = omega (arith, g)

  pub widens : Gives rows head first long (x ∷ seen) rest m x.start widened
  widens =
      let high = before_x.high in
      let order = f.order in
      let filled = k.descends.0 in
      record {
        holes = subst (SpellsHoles rows widened (widened head))
            (sym (with_last x seen rest first long k.descends touch
            ∙ ap (rev_onto seen) (joins.is x.start (long + x.length) (omega (arith, touch)))))
            (zip rows head widened seen (hole x.start (long + x.length + more) ∷ left)
            (seen_stay rows head m widened seen (omega (arith, order)) k.descends.2
            (λ a low. still a (λ e. omega (arith, e, low, high, touch)) (λ e. omega (arith, e, low, high))
            (λ e. omega (arith, e, low, high))) k.passed.2) (
              still (link_of rows head seen) (λ e. omega (arith, e, high, touch)) (λ e. omega (arith, e, high))
                  (λ e. omega (arith, e, high)) ∙ k.passed.0,
              put_there (put m1 row_x (long + more + x.length)) (row_x + 4) word row_x (λ e. omega (arith, e))
                  ∙ (put_here m1 row_x (long + more + x.length) row_x refl
                  ∙ (let q : long + more + x.length ≡ long + x.length + more = omega arith in q)),
              subst (λ y. SpellsHoles rows widened y left)
                  (sym (put_here (put m1 row_x (long + more + x.length)) (row_x + 4) word (row_x + 4) refl))
                  (holes_stay rows (first + long + more + 1) m widened word left
                  (λ a low. still a (λ e. omega (arith, e, low)) (λ e. omega (arith, e, low, touch))
                  (λ e. omega (arith, e, low, touch)))
                  joins.ascends coming),
            ));
        below = λ a other low. still a (λ e. omega (arith, e, low)) (λ e. omega (arith, e, low))
            (λ e. omega (arith, e, low));
        lengths = λ i out. keeps i out;
      }
    where
      keeps : (i : ℕ) → (i < x.start) ⊎ (first + long ≤ i) → widened (rows + 8 * i) ≡ m (rows + 8 * i)
      keeps i (inl out) =
          still (rows + 8 * i) (λ e. omega (arith, e, out, touch)) (λ e. omega (arith, e, out)) (λ e. omega (arith, e))
      keeps i (inr out) =
          let p = k.filled in
          let filled = k.descends.0 in
          still (rows + 8 * i) (λ e. omega (arith, e, out, p)) (λ e. omega (arith, e, out, touch, p, filled))
          (λ e. omega (arith, e))

-- the block's granules are those of a hole; lengths of granules from `from` on and below its end changed,
-- among which no other block begins
pub record GivenBack (rows head first long : ℕ) (seen rest : List Hole) (m : ℕ → ℕ) (most : ℕ) (t : View) : Type 0 where
  pub from : ℕ
  pub gives : Gives rows head first long seen rest m from t.memory
  pub clear : (a n : ℕ) → 0 < n → Apart a n first long → Each (λ y. Apart a n y.start y.length) seen
      → (a < from) ⊎ (first + long ≤ a)
  pub spent : t.spent ≤ most

pub clear_last : (first long xs xl a n : ℕ) → 0 < n → 0 < xl → xs + xl ≡ first → Apart a n first long
    → Apart a n xs xl → (a < xs) ⊎ (first + long ≤ a)
clear_last first long xs xl a n p q touch (inl l) (inl u) = inl (omega (arith, p, u))
clear_last first long xs xl a n p q touch (inl l) (inr u) = absurd (omega (arith, p, l, u, touch))
clear_last first long xs xl a n p q touch (inr l) u = inr l

-- the fragments
module _ (rows head n : ℕ) (f : Ground rows head n) (w first long : ℕ) (m : ℕ → ℕ) (x : Hole) (seen rest : List Hole)
    (k : Between rows head n first long m (x ∷ seen) rest) (more : ℕ) (left : List Hole)
    (joins : Joins (first + long) rest more left)
    (m1 : ℕ → ℕ) (long_there : Lengthened rows first long more m m1) (word : ℕ) (coming : SpellsHoles rows m word left)
    (inside : Each (λ h. h.start + h.length ≤ n) left) (within : first + long + more ≤ n) where
  abbrev g : Rights
  g = one_span head (rows + 8 * n)

  may : (a : ℕ) → head ≤ a → a < rows + 8 * n → in_span head (rows + 8 * n) a ≡ true
  may a l h = in_span_yes head (rows + 8 * n) a l h

  word_fits : word < 2 ^ 32
  word_fits = word_small rows n m word left f.top coming inside

  widen_ends : (r : ℕ → ℕ) (c most : ℕ) → x.start + x.length ≡ first → r 5 ≡ rows + 8 * x.start → r 6 ≡ word
      → r 28 ≡ long + more → r 29 ≡ x.length
      → c + 9 ≤ most → Ends (frag_run g widen w (view r m1 c)) (GivenBack rows head first long (x ∷ seen) rest m most)
  widen_ends r c most touch at_x word_is long_is x_is le =
      let top = f.top in
      let order = f.order in
      let a = f.rows_aligned in
      let p = k.filled in
      let small = word_fits in
      compute_then _ _ _ _ _ _ _ _ _ _ _ (long + more + x.length)
      (add_is (r 28) (r 29) (long + more + x.length) (omega (arith, long_is, x_is))
      (omega (arith, within, touch, top)))
      (store_then _ _ _ _ _ _ _ _ _ _ (rows + 8 * x.start) (long + more + x.length)
      (plus_is (r 5) 0 (rows + 8 * x.start) (omega (arith, at_x)) (omega (arith, within, touch, top, p)))
      (omega (arith, a)) (may (rows + 8 * x.start) (omega (arith, order)) (omega (arith, within, touch, p)))
      (omega (arith, within, touch, top))
      (store_then _ _ _ _ _ _ _ _ _ _ (rows + 8 * x.start + 4) word
      (plus_is (r 5) 4 (rows + 8 * x.start + 4) (omega (arith, at_x)) (omega (arith, within, touch, top, p)))
      (omega (arith, a)) (may (rows + 8 * x.start + 4) (omega (arith, order)) (omega (arith, within, touch, p)))
      (omega (arith, word_is, small))
      (skip_ends _ _ _ _ _ _ (record {
        from = x.start;
        gives = widens rows head n f first long m x seen rest k more left joins m1 long_there word coming touch;
        clear = λ a n q h s. clear_last first long x.start x.length a n q k.descends.0 touch h s.0;
        spent = omega (arith, le);
      }))))

  link_ends : (r : ℕ → ℕ) (c most : ℕ) → x.start + x.length < first → r 5 ≡ rows + 8 * x.start → r 6 ≡ word
      → r 7 ≡ rows + 8 * first → r 10 ≡ first
      → c + 6 ≤ most → Ends (frag_run g link w (view r m1 c)) (GivenBack rows head first long (x ∷ seen) rest m most)
  link_ends r c most gap at_x word_is at_row given le =
      let top = f.top in
      let order = f.order in
      let a = f.rows_aligned in
      let p = k.filled in
      let small = word_fits in
      store_then _ _ _ _ _ _ _ _ _ _ (rows + 8 * first + 4) word
      (plus_is (r 7) 4 (rows + 8 * first + 4) (omega (arith, at_row)) (omega (arith, within, top, p)))
      (omega (arith, a)) (may (rows + 8 * first + 4) (omega (arith, order)) (omega (arith, within, p)))
      (omega (arith, word_is, small))
      (store_then _ _ _ _ _ _ _ _ _ _ (rows + 8 * x.start + 4) first
      (plus_is (r 5) 4 (rows + 8 * x.start + 4) (omega (arith, at_x)) (omega (arith, within, gap, top, p)))
      (omega (arith, a)) (may (rows + 8 * x.start + 4) (omega (arith, order)) (omega (arith, within, gap, p)))
      (omega (arith, given, within, top, p))
      (skip_ends _ _ _ _ _ _ (record {
        from = first;
        gives = links rows head n f first long m (x ∷ seen) rest k more left joins m1 long_there word coming gap;
        clear = λ a n q h s. apart_outside a n first long q h;
        spent = omega (arith, le);
      })))

  pub join_last_ends : (r : ℕ → ℕ) (c : ℕ) → r 5 ≡ rows + 8 * x.start → r 6 ≡ word → r 7 ≡ rows + 8 * first
      → r 10 ≡ first → r 28 ≡ long + more
      → Ends (frag_run g join_last w (view r m1 c)) (GivenBack rows head first long (x ∷ seen) rest m (c + 21))
  join_last_ends r c at_x word_is at_row given long_is =
      let top = f.top in
      let order = f.order in
      let a = f.rows_aligned in
      let p = k.filled in
      let ends = k.behind in
      let filled = k.descends.0 in
      load_then _ _ _ _ _ _ _ _ _ _ (rows + 8 * x.start) x.length
      (plus_is (r 5) 0 (rows + 8 * x.start) (omega (arith, at_x)) (omega (arith, within, ends, top, p)))
      (omega (arith, a)) (may (rows + 8 * x.start) (omega (arith, order)) (omega (arith, within, ends, p)))
      (long_there.others (rows + 8 * x.start) (λ e. omega (arith, e, ends, filled)) ∙ k.passed.1)
      (imm_then _ _ _ _ _ _ _ _ _ _ _ (8 * x.length)
      (times_8 x.length (8 * x.length) refl (omega (arith, within, ends, top)))
      (compute_then _ _ _ _ _ _ _ _ _ _ _ (rows + 8 * (x.start + x.length))
      (add_is (8 * x.length) (r 5) (rows + 8 * (x.start + x.length)) (omega (arith, at_x))
      (omega (arith, within, ends, top, p)))
      (seq_ends _ _ _ _ _ _ _ _ (GivenBack rows head first long (x ∷ seen) rest m (c + 21))
      (by (cases_eq (x.start + x.length) first))
      (λ r' m' c' q. skip_ends _ _ _ _ _ _ q))))
    where
      by : (x.start + x.length ≡ first) ⊎ (x.start + x.length ≡ first → ⊥)
          → Ends (frag_run g (If Eq 30 7 widen link) w
          (view (put (put (put r 29 x.length) 30 (8 * x.length)) 30 (rows + 8 * (x.start + x.length))) m1
          (c + 3 + 3 + 3)))
          (GivenBack rows head first long (x ∷ seen) rest m (c + 21))
      by (inl touch) =
          if_taken _ _ _ _ _ _ _ _ _ _ _ (eq_yes (rows + 8 * (x.start + x.length)) (r 7) (omega (arith, touch, at_row)))
          (widen_ends _ (c + 3 + 3 + 3 + 3) (c + 21) touch at_x word_is long_is refl (omega arith))
      by (inr other) =
          let ends = k.behind in
          if_other _ _ _ _ _ _ _ _ _ _ _
          (eq_no (rows + 8 * (x.start + x.length)) (r 7) (λ e. other (omega (arith, e, at_row))))
          (link_ends _ (c + 3 + 3 + 3 + 3) (c + 21) (omega (arith, other, ends)) at_x word_is at_row given
          (omega arith))
