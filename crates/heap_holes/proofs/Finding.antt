-- The walk to the first hole that is long enough.
use Rattle.std.proofs.Common.{◌≡◌, ℕ, ◌+◌, ◌-◌, ◌*◌, ◌%◌, ◌^◌, ◌<◌, ◌≤◌, true, false, List, [], ◌∷◌, length, refl, sym}
use Rattle.std.proofs.Common.{◌∙◌, ap, subst, arith}
use Rattle.rv_isa.specs.declared.Op.TheVariants.{Add}
use Rattle.rv_isa.specs.declared.Cond.TheVariants.{Ltu}
use Rattle.rv_isa.specs.Compute.{computed}
use Rattle.place_spec.specs.declared.parts.Hole.{Hole}
use Rattle.place_spec.proofs.HoleLists.{Ascends, ascends_lower}
use Rattle.place_spec.proofs.Lists.{Each}
use Rattle.frag_code.specs.Ends.{Ends}
use Rattle.frag_code.specs.Frames.{assigns}
use Rattle.frag_code.specs.Meaning.{View, Rights, put, tested, holds, frag_run}
use Rattle.frag_code.proofs.Loops.{while_list}
use Rattle.frag_code.proofs.Rules.{view, ends_so, imm_ends, imm_then, compute_then, load_then, if_taken, if_other}
use Rattle.frag_code.proofs.Rules.{seq_ends, skip_ends}
use Rattle.frag_rules.specs.Rights.{in_span, one_span}
use Rattle.frag_rules.proofs.Narrow.{ends_keep_all}
use Rattle.frag_rules.proofs.Spans.{in_span_yes}
use Rattle.frag_rules.proofs.Values.{sum_is, add_is, less_is, moved_is, times_8, plus_is, eq_yes, eq_no, ltu_no}
use Rattle.frag_rules.proofs.Values.{ltu_true, ltu_false}
use Rattle.heap_spec.specs.Tables.{none_word, SpellsHoles}
use Rattle.heap_holes.specs.Placing.{measure, pass_hole, find_hole}
use Rattle.heap_holes.proofs.Zipper.{rev_onto, link_of, HasSeen, Descends, after, gap_from}

-- where the words of the tables stand: the first hole's, and the rows of n granules
pub record Ground (rows head n : ℕ) : Type 0 where
  pub head_aligned : head % 4 ≡ 0
  pub rows_aligned : rows % 4 ≡ 0
  pub above : 4 ≤ head
  pub order : head + 4 ≤ rows
  pub top : rows + 8 * n ≤ 2 ^ 32

-- the hole that is measured
abbrev pub Measured : (rows : ℕ) → List Hole → View → Type 0
Measured rows [] t = t.registers 28 ≡ none_word
Measured rows (h ∷ hs) t = (t.registers 28 ≡ h.length) × (t.registers 7 ≡ rows + 8 * h.start)

pub record Measures (rows : ℕ) (rest : List Hole) (r m : ℕ → ℕ) (c : ℕ) (t : View) : Type 0 where
  pub measured : Measured rows rest t
  pub kept : (k : ℕ) → assigns measure k ≡ false → t.registers k ≡ r k
  pub memory : t.memory ≡ m
  pub spent : t.spent ≤ c + 12

-- on the way: some holes were passed, all too short
pub record Walks (rows head n need most : ℕ) (m : ℕ → ℕ) (all rest : List Hole) (s : View) : Type 0 where
  pub seen : List Hole
  pub is : rev_onto seen rest ≡ all
  pub passed : HasSeen rows head m seen
  pub coming : SpellsHoles rows m (m (link_of rows head seen)) rest
  pub short : Each (λ x. x.length < need) seen
  pub descends : Descends seen
  pub ascends : Ascends (after seen) rest
  pub inside : Each (λ h. h.start + h.length ≤ n) rest
  pub at : s.registers 5 + 4 ≡ link_of rows head seen
  pub word : s.registers 15 ≡ m (link_of rows head seen)
  pub measured : Measured rows rest s
  pub asked : s.registers 10 ≡ need
  pub base : s.registers 11 ≡ rows
  pub none : s.registers 31 ≡ none_word
  pub memory : s.memory ≡ m
  pub spent : s.spent + 21 * length rest ≤ most

-- the walk is over
pub record Found (rows head n need most : ℕ) (m : ℕ → ℕ) (all : List Hole) (s : View) : Type 0 where
  pub rest : List Hole
  pub way : Walks rows head n need most m all rest s
  pub long : need ≤ s.registers 28

module _ (rows head n : ℕ) (f : Ground rows head n) (w : ℕ) where
  abbrev g : Rights
  g = one_span head (rows + 8 * n)

  may : (a : ℕ) → head ≤ a → a < rows + 8 * n → in_span head (rows + 8 * n) a ≡ true
  may a l h = in_span_yes head (rows + 8 * n) a l h

  measures : (r m : ℕ → ℕ) (c : ℕ) (rest : List Hole) → r 11 ≡ rows → r 31 ≡ none_word → SpellsHoles rows m (r 15) rest
      → Each (λ h. h.start + h.length ≤ n) rest → Ascends 0 rest
      → Ends (frag_run g measure w (view r m c)) (λ t. Measured rows rest t × ((t.memory ≡ m) × (t.spent ≤ c + 12)))
  measures r m c [] base none spells inside asc =
      if_taken _ _ _ _ _ _ _ _ _ _ _ (eq_yes (r 15) (r 31) (spells ∙ sym none))
      (imm_ends _ _ _ _ _ _ _ _ _ _ none_word refl_none (refl, (refl, omega arith)))
    where
      refl_none : computed Add 0 4294967295 ≡ none_word
      refl_none = sum_is 0 4294967295 none_word refl
  measures r m c (h ∷ hs) base none spells inside asc =
      let filled = asc.1.0 in
      let top = f.top in
      let order = f.order in
      let i = inside.0 in
      if_other _ _ _ _ _ _ _ _ _ _ _ (eq_no (r 15) (r 31) (λ e. omega (arith, e, spells.0, none, i, filled, top)))
      (imm_then _ _ _ _ _ _ _ _ _ _ _ (8 * h.start)
      (times_8 (r 15) (8 * h.start) (omega (arith, spells.0)) (omega arith))
      (compute_then _ _ _ _ _ _ _ _ _ _ _ (rows + 8 * h.start)
      (add_is (8 * h.start) (r 11) (rows + 8 * h.start) (omega (arith, base)) (omega arith))
      (load_then _ _ _ _ _ _ _ _ _ _ (rows + 8 * h.start) h.length
      (plus_is (rows + 8 * h.start) 0 (rows + 8 * h.start) (omega arith) (omega arith))
      (let a = f.rows_aligned in omega (arith, a)) (may (rows + 8 * h.start) (omega arith) (omega arith)) spells.1
      (skip_ends _ _ _ _ _ _ ((refl, refl), (refl, omega arith))))))

  pub measure_ends : (r m : ℕ → ℕ) (c : ℕ) (rest : List Hole) → r 11 ≡ rows → r 31 ≡ none_word
      → SpellsHoles rows m (r 15) rest
      → Each (λ h. h.start + h.length ≤ n) rest → Ascends 0 rest
      → Ends (frag_run g measure w (view r m c)) (Measures rows rest r m c)
  measure_ends r m c rest base none spells inside asc =
      ends_so _ _ (Measures rows rest r m c)
      (λ t p. record { measured = p.0.0; kept = p.1; memory = p.0.1.0; spent = p.0.1.1 })
      (ends_keep_all g measure w (view r m c) _ (measures r m c rest base none spells inside asc))

  -- one hole is passed
  passes : (need most : ℕ) (m : ℕ → ℕ) (all : List Hole) (h : Hole) (rest : List Hole) (s : View)
      → Walks rows head n need most m all (h ∷ rest) s → holds Ltu 28 10 s ≡ true
      → Ends (frag_run g pass_hole w (tested s)) (Walks rows head n need most m all rest)
  passes need most m all h rest s k held =
      let top = f.top in
      let order = f.order in
      let i = k.inside.0 in
      let asc = k.ascends in
      let row : ℕ = rows + 8 * h.start in
      let short : s.registers 28 < s.registers 10 = ltu_true (s.registers 28) (s.registers 10) held in
      subst (λ x. Ends (frag_run g pass_hole w (view s.registers x (s.spent + 3)))
      (Walks rows head n need most m all rest)) (sym k.memory)
      (imm_then _ _ _ _ _ _ _ _ _ _ _ row (moved_is (s.registers 7) row k.measured.1 (omega arith))
      (load_then _ _ _ _ _ _ _ _ _ _ (row + 4) (m (row + 4))
      (plus_is (s.registers 7) 4 (row + 4) (omega (arith, k.measured.1)) (omega arith))
      (let a = f.rows_aligned in omega (arith, a)) (may (row + 4) (omega arith) (omega arith)) refl
      (seq_ends _ _ _ _ _ _ _ _
      (Measures rows rest (put (put s.registers 5 row) 15 (m (row + 4))) m (s.spent + 3 + 3 + 3))
      (measure_ends (put (put s.registers 5 row) 15 (m (row + 4))) m
      (s.spent + 3 + 3 + 3) rest k.base k.none k.coming.2 k.inside.1
      (ascends_lower (h.start + h.length + 1) 0 rest (omega arith) asc.1.1))
      (λ r' m' c' p. skip_ends _ _ _ _ _ _ (record {
        seen = h ∷ k.seen;
        is = k.is;
        passed = (k.coming.0, k.coming.1, k.passed);
        coming = k.coming.2;
        short = (omega (arith, short, k.measured.0, k.asked), k.short);
        descends = (asc.1.0, gap_from k.seen h.start asc.0, k.descends);
        ascends = asc.1.1;
        inside = k.inside.1;
        at = ap (λ x. x + 4) (p.kept 5 refl);
        word = p.kept 15 refl;
        measured = p.measured;
        asked = p.kept 10 refl ∙ k.asked;
        base = p.kept 11 refl ∙ k.base;
        none = p.kept 31 refl ∙ k.none;
        memory = p.memory;
        spent = let q = p.spent in let o = k.spent in omega (arith, q, o);
      })))))

  pub find_ends : (need : ℕ) (r m : ℕ → ℕ) (c : ℕ) (all : List Hole) → need < 2 ^ 32 → r 10 ≡ need → r 11 ≡ rows
      → r 12 ≡ head → r 31 ≡ none_word
      → SpellsHoles rows m (m head) all → Each (λ h. h.start + h.length ≤ n) all → Ascends 0 all → length all ≤ w
      → Ends (frag_run g find_hole w (view r m c)) (Found rows head n need (c + 21 + 21 * length all) m all)
  find_ends need r m c all small asked base head_is none spells inside asc few =
      let top = f.top in
      let order = f.order in
      let above = f.above in
      let most : ℕ = c + 18 + 21 * length all in
      imm_then _ _ _ _ _ _ _ _ _ _ _ (head - 4)
      (less_is (r 12) 4 (head - 4) (omega (arith, head_is)) (omega (arith, head_is)) (omega arith))
      (load_then _ _ _ _ _ _ _ _ _ _ head (m head) (plus_is (r 12) 0 head (omega (arith, head_is)) (omega arith))
      f.head_aligned (may head (omega arith) (omega arith)) refl
      (seq_ends _ _ _ _ _ _ _ _ (Measures rows all (put (put r 5 (head - 4)) 15 (m head)) m (c + 3 + 3))
      (measure_ends (put (put r 5 (head - 4)) 15 (m head)) m (c + 3 + 3) all base none spells inside asc)
      (λ r' m' c' p. seq_ends _ _ _ _ _ _ _ _ (Found rows head n need (c + 21 + 21 * length all) m all)
      (while_list _ _ _ _ _ _ _ Hole (Walks rows head n need most m all) (passes need most m all)
      (λ s k. ltu_no (s.registers 28) (s.registers 10) (omega (arith, k.measured, k.asked, small)))
      (λ rest s k held. record {
        rest = rest;
        way = over need most (c + 21 + 21 * length all) m all rest s k (omega arith);
        long = let l = ltu_false (s.registers 28) (s.registers 10) held in omega (arith, l, k.asked);
      })
      all few (view r' m' c') (record {
        seen = [];
        is = refl;
        passed = tt;
        coming = spells;
        short = tt;
        descends = tt;
        ascends = asc;
        inside = inside;
        at = ap (λ x. x + 4) (p.kept 5 refl) ∙ (let e : head - 4 + 4 ≡ head = omega arith in e);
        word = p.kept 15 refl;
        measured = p.measured;
        asked = p.kept 10 refl ∙ asked;
        base = p.kept 11 refl ∙ base;
        none = p.kept 31 refl ∙ none;
        memory = p.memory;
        spent = let q = p.spent in omega (arith, q);
      }))
      (λ r2 m2 c2 q. skip_ends _ _ _ _ _ _ q))))
    where
      over : (need most more : ℕ) (m : ℕ → ℕ) (all rest : List Hole) (s : View)
          → Walks rows head n need most m all rest s
          → most + 3 ≤ more → Walks rows head n need more m all rest (tested s)
      over need most more m all rest s k le = record {
        seen = k.seen;
        is = k.is;
        passed = k.passed;
        coming = k.coming;
        short = k.short;
        descends = k.descends;
        ascends = k.ascends;
        inside = k.inside;
        at = k.at;
        word = k.word;
        measured = same rest k.measured;
        asked = k.asked;
        base = k.base;
        none = k.none;
        memory = k.memory;
        spent = let o = k.spent in omega (arith, o);
      }
        where
          same : (rest : List Hole) → Measured rows rest s → Measured rows rest (tested s)
          same [] e = e
          same (x ∷ xs) e = e
