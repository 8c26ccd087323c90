-- A block of the fallback is released: the last hole before it is found, and it is joined with what it
-- touches.
use Rattle.std.proofs.Common.{◌≡◌, ◌≢◌, ℕ, suc, ◌+◌, ◌*◌, ◌^◌, ◌<◌, ◌≤◌, ◌⊎◌, ◌==◌, true, false, List, [], ◌∷◌, length}
use Rattle.std.proofs.Common.{refl, sym, ◌∙◌, subst, arith, inl, inr}
use Rattle.std.specs.Prelude.{Some, nat_lt}
use Rattle.std.proofs.lemmas.Bool.{cases_lt}
use Rattle.std.proofs.lemmas.Bool.Decides.{nat_tests}
use Rattle.rv_isa.specs.declared.Cond.TheVariants.{Ltu}
use Rattle.plan_core.specs.declared.types.Area.{Area}
use Rattle.plan_core.specs.Plan.{granules}
use Rattle.place_spec.specs.declared.parts.Hole.{Hole}
use Rattle.place_spec.specs.Layout.{Block, Layout}
use Rattle.place_spec.specs.Release.{block_at, released, released_block, freed, with_hole, without_block}
use Rattle.place_spec.specs.Sound.{Apart}
use Rattle.place_spec.proofs.Blocks.{each_found, pairs_found, each_without}
use Rattle.place_spec.proofs.HoleLists.{Ascends, ascends_filled, few}
use Rattle.place_spec.proofs.Lists.{Each, each, each_both, each_map}
use Rattle.place_spec.proofs.SoundParts.{BlocksApart, apart_sym, Parts, Stands, parts}
use Rattle.frag_code.specs.Ends.{Ends}
use Rattle.frag_code.specs.Fragments.{If, Seq, Skip}
use Rattle.frag_code.specs.Frames.{assigns}
use Rattle.frag_code.specs.Meaning.{View, Rights, put, tested, holds, frag_run}
use Rattle.frag_code.proofs.Loops.{while_list}
use Rattle.frag_code.proofs.Rules.{view, ends_so, imm_then, compute_then, load_then, store_then, if_taken, if_other}
use Rattle.frag_code.proofs.Rules.{seq_ends, skip_ends}
use Rattle.frag_rules.specs.Rights.{in_span, one_span}
use Rattle.frag_rules.proofs.Narrow.{ends_keep_all}
use Rattle.frag_rules.proofs.Spans.{in_span_yes}
use Rattle.frag_rules.proofs.Values.{add_is, times_8, plus_is, ltu_yes, ltu_no, ltu_true, ltu_false}
use Rattle.heap_spec.specs.Places.{rows_at, granule_row}
use Rattle.heap_spec.specs.Tables.{none_word, SpellsHoles, Spells}
use Rattle.heap_holes.specs.Fits.{TablesFit}
use Rattle.heap_holes.specs.Releasing.{join_next, join_last, next_hole, release_behind, release_first, release_low}
use Rattle.heap_holes.specs.Releasing.{ReleaseLowReleases}
use Rattle.heap_holes.proofs.Finding.{Ground}
use Rattle.heap_holes.proofs.FirstFit.{ground}
use Rattle.heap_holes.proofs.Joining.{Between, Joined, Ahead, join_next_ends}
use Rattle.heap_holes.proofs.Linking.{GivenBack, links, join_last_ends}
use Rattle.heap_holes.proofs.Tables.{Relinked, spells_then, each_seen, apart_outside}
use Rattle.heap_holes.proofs.Zipper.{hole, rev_onto, HasSeen, Descends, word_small}

-- on the way: some holes were passed, all before the block
pub record Passing (rows head n first long most : ℕ) (m : ℕ → ℕ) (all rest : List Hole) (s : View) : Type 0 where
  pub last : Hole
  pub seen : List Hole
  pub is : rev_onto (last ∷ seen) rest ≡ all
  pub passed : HasSeen rows head m (last ∷ seen)
  pub coming : SpellsHoles rows m (m (rows + 8 * last.start + 4)) rest
  pub descends : Descends (last ∷ seen)
  pub ascends : Ascends (last.start + last.length + 1) rest
  pub inside : Each (λ h. h.start + h.length ≤ n) rest
  pub ends : last.start + last.length ≤ first
  pub apart : Each (λ h. Apart first long h.start h.length) rest
  pub at : s.registers 5 ≡ rows + 8 * last.start
  pub word : s.registers 6 ≡ m (rows + 8 * last.start + 4)
  pub row : s.registers 7 ≡ rows + 8 * first
  pub given : s.registers 10 ≡ first
  pub base : s.registers 11 ≡ rows
  pub memory : s.memory ≡ m
  pub spent : s.spent + 12 * length rest ≤ most

-- the walk is over
pub record Passed (rows head n first long most : ℕ) (m : ℕ → ℕ) (all : List Hole) (s : View) : Type 0 where
  pub rest : List Hole
  pub way : Passing rows head n first long most m all rest s
  pub behind : first ≤ s.registers 6

-- a hole that begins behind the block's first granule begins behind the block
pub ahead_from : (first long : ℕ) (rest : List Hole) → ((h : Hole) (hs : List Hole) → h ∷ hs ≡ rest → first ≤ h.start)
    → 0 < long
    → Each (λ h. Apart first long h.start h.length) rest → Each (λ h. 0 < h.length) rest → Ahead (first + long) rest
ahead_from first long [] begins p apart filled = tt
ahead_from first long (h ∷ hs) begins p apart filled = by apart.0
  where
    by : Apart first long h.start h.length → first + long ≤ h.start
    by (inl l) = l
    by (inr l) = let b = begins h hs refl in let q = filled.0 in absurd (omega (arith, l, b, q))

module _ (rows head n : ℕ) (f : Ground rows head n) (w first long : ℕ) (m : ℕ → ℕ) (all : List Hole) where
  abbrev g : Rights
  g = one_span head (rows + 8 * n)

  may : (a : ℕ) → head ≤ a → a < rows + 8 * n → in_span head (rows + 8 * n) a ≡ true
  may a l h = in_span_yes head (rows + 8 * n) a l h

  -- what one step does
  pub record Steps (h : Hole) (r : ℕ → ℕ) (c : ℕ) (t : View) : Type 0 where
    pub at : t.registers 5 ≡ rows + 8 * h.start
    pub word : t.registers 6 ≡ m (rows + 8 * h.start + 4)
    pub memory : t.memory ≡ m
    pub spent : t.spent ≤ c + 9

  next_hole_ends : (h : Hole) (r : ℕ → ℕ) (c : ℕ) → r 6 ≡ h.start → r 11 ≡ rows → h.start + h.length ≤ n → 0 < h.length
      → Ends (frag_run g next_hole w (view r m c))
      (λ t. Steps h r c t × ((j : ℕ) → assigns next_hole j ≡ false → t.registers j ≡ r j))
  next_hole_ends h r c word base i filled =
      let top = f.top in
      let order = f.order in
      let a = f.rows_aligned in
      ends_keep_all g next_hole w (view r m c) (Steps h r c)
      (imm_then _ _ _ _ _ _ _ _ _ _ _ (8 * h.start)
      (times_8 (r 6) (8 * h.start) (omega (arith, word)) (omega (arith, i, top, filled)))
      (compute_then _ _ _ _ _ _ _ _ _ _ _ (rows + 8 * h.start)
      (add_is (8 * h.start) (r 11) (rows + 8 * h.start) (omega (arith, base)) (omega (arith, i, top, filled)))
      (load_then _ _ _ _ _ _ _ _ _ _ (rows + 8 * h.start + 4) (m (rows + 8 * h.start + 4))
      (plus_is (rows + 8 * h.start) 4 (rows + 8 * h.start + 4) refl (omega (arith, i, top, filled)))
      (omega (arith, a)) (may (rows + 8 * h.start + 4) (omega (arith, order)) (omega (arith, i, filled))) refl
      (skip_ends _ _ _ _ _ _ (record { at = refl; word = refl; memory = refl; spent = omega arith })))))

  -- a hole before the block is passed
  passes : (most : ℕ) (h : Hole) (rest : List Hole) (s : View) → 0 < long
      → Passing rows head n first long most m all (h ∷ rest) s
      → holds Ltu 6 10 s ≡ true
      → Ends (frag_run g next_hole w (tested s)) (Passing rows head n first long most m all rest)
  passes most h rest s p k held =
      let low : s.registers 6 < s.registers 10 = ltu_true (s.registers 6) (s.registers 10) held in
      let word = k.word ∙ k.coming.0 in
      let asc = k.ascends in
      subst (λ x. Ends (frag_run g next_hole w (view s.registers x (s.spent + 3)))
      (Passing rows head n first long most m all rest)) (sym k.memory)
      (ends_so _ _ (Passing rows head n first long most m all rest)
      (λ t q. record {
        last = h;
        seen = k.last ∷ k.seen;
        is = k.is;
        passed = (k.coming.0, k.coming.1, k.passed);
        coming = k.coming.2;
        descends = (asc.1.0, let l = asc.0 in omega (arith, l), k.descends);
        ascends = asc.1.1;
        inside = k.inside.1;
        ends = ends k.apart.0 (omega (arith, low, word, k.given));
        apart = k.apart.1;
        at = q.0.at;
        word = q.0.word;
        row = q.1 7 refl ∙ k.row;
        given = q.1 10 refl ∙ k.given;
        base = q.1 11 refl ∙ k.base;
        memory = q.0.memory;
        spent = let o = k.spent in let u = q.0.spent in omega (arith, o, u);
      })
      (next_hole_ends h s.registers (s.spent + 3) word k.base k.inside.0 asc.1.0))
    where
      ends : Apart first long h.start h.length → h.start < first → h.start + h.length ≤ first
      ends (inl l) b = absurd (omega (arith, l, b, p))
      ends (inr l) b = l

  over : (most more : ℕ) (rest : List Hole) (s : View) → Passing rows head n first long most m all rest s
      → most + 3 ≤ more
      → Passing rows head n first long more m all rest (tested s)
  over most more rest s k le = record {
    last = k.last;
    seen = k.seen;
    is = k.is;
    passed = k.passed;
    coming = k.coming;
    descends = k.descends;
    ascends = k.ascends;
    inside = k.inside;
    ends = k.ends;
    apart = k.apart;
    at = k.at;
    word = k.word;
    row = k.row;
    given = k.given;
    base = k.base;
    memory = k.memory;
    spent = let o = k.spent in omega (arith, o, le);
  }

  -- what is so after the release
  pub record Gone (most : ℕ) (t : View) : Type 0 where
    pub seen : List Hole
    pub rest : List Hole
    pub is : rev_onto seen rest ≡ all
    pub back : GivenBack rows head first long seen rest m most t

  -- what is known of the block and the holes
  pub record Leaves : Type 0 where
    pub filled : 0 < long
    pub within : first + long ≤ n
    pub long_there : m (rows + 8 * first) ≡ long
    pub apart : Each (λ h. Apart first long h.start h.length) all
    pub ascends : Ascends 0 all
    pub inside : Each (λ h. h.start + h.length ≤ n) all
    pub spells : SpellsHoles rows m (m head) all

  first_ends : (r : ℕ → ℕ) (c : ℕ) → Leaves → Ahead (first + long) all → r 6 ≡ m head → r 7 ≡ rows + 8 * first
      → r 10 ≡ first → r 11 ≡ rows → r 12 ≡ head
      → Ends (frag_run g release_first w (view r m c)) (Gone (c + 33))
  first_ends r c k ahead word at_row given base head_is =
      let top = f.top in
      let order = f.order in
      let a = f.rows_aligned in
      let p = k.filled in
      let i = k.within in
      let between : Between rows head n first long m [] all =
      record {
        passed = tt;
        coming = k.spells;
        descends = tt;
        ascends = k.ascends;
        inside = k.inside;
        behind = tt;
        ahead = ahead;
        filled = k.filled;
        within = k.within;
        row = k.long_there;
      } in
      seq_ends _ _ _ _ _ _ _ _
      (λ t. Joined rows n first long all m (c + 27) t
      × ((j : ℕ) → assigns join_next j ≡ false → t.registers j ≡ r j))
      (join_next_ends rows head n f w first long m [] all between r c word at_row given base)
      (λ r' m' c' q.
      let small : r' 6 < 2 ^ 32 = word_small rows n m (r' 6) q.0.left f.top q.0.coming q.0.inside in
      let same7 = q.1 7 refl in
      let same10 = q.1 10 refl in
      let same12 = q.1 12 refl in
      store_then _ _ _ _ _ _ _ _ _ _ (rows + 8 * first + 4) (r' 6)
      (plus_is (r' 7) 4 (rows + 8 * first + 4) (omega (arith, at_row, same7)) (omega (arith, i, top, p)))
      (omega (arith, a)) (may (rows + 8 * first + 4) (omega (arith, order)) (omega (arith, i, p)))
      (omega (arith, small))
      (store_then _ _ _ _ _ _ _ _ _ _ head first
      (plus_is (r' 12) 0 head (omega (arith, head_is, same12)) (omega (arith, order, i, top, p)))
      f.head_aligned (may head (omega arith) (omega (arith, order, i, p))) (omega (arith, given, same10, i, top, p))
      (skip_ends _ _ _ _ _ _ (record {
        seen = [];
        rest = all;
        is = refl;
        back = record {
          from = first;
          gives = links rows head n f first long m [] all between q.0.more q.0.left q.0.joins m'
              (record { row = q.0.row; others = q.0.others }) (r' 6) q.0.coming tt;
          clear = λ b l h o s. apart_outside b l first long h o;
          spent = let u = q.0.spent in omega (arith, u);
        };
      }))))

  behind_ends : (h : Hole) (hs : List Hole) (r : ℕ → ℕ) (c : ℕ) → h ∷ hs ≡ all → Leaves → h.start < first
      → length all ≤ w
      → r 6 ≡ h.start → r 7 ≡ rows + 8 * first → r 10 ≡ first → r 11 ≡ rows
      → Ends (frag_run g release_behind w (view r m c)) (Gone (c + 60 + 12 * length all))
  behind_ends h hs r c is k low enough word at_row given base =
      let spells : SpellsHoles rows m (m head) (h ∷ hs) = subst (SpellsHoles rows m (m head)) (sym is) k.spells in
      let asc : Ascends 0 (h ∷ hs) = subst (Ascends 0) (sym is) k.ascends in
      let inside : Each (λ x. x.start + x.length ≤ n) (h ∷ hs) = subst (Each (λ x. x.start + x.length ≤ n))
      (sym is) k.inside in
      let apart : Each (λ x. Apart first long x.start x.length) (h ∷ hs) = subst
      (Each (λ x. Apart first long x.start x.length)) (sym is) k.apart in
      let long_is : length all ≡ suc (length hs) = subst (λ xs. length xs ≡ suc (length hs)) is refl in
      seq_ends _ _ _ _ _ _ _ _ (λ t. Steps h r c t × ((j : ℕ) → assigns next_hole j ≡ false → t.registers j ≡ r j))
      (next_hole_ends h r c word base inside.0 asc.1.0)
      (λ r1 m1 c1 q. seq_ends _ _ _ _ _ _ _ _ (Passed rows head n first long (c + 12 + 12 * length all) m all)
      (while_list _ _ _ _ _ _ _ Hole (Passing rows head n first long (c + 9 + 12 * length all) m all)
      (λ x xs s i. passes (c + 9 + 12 * length all) x xs s k.filled i)
      (λ s i. ltu_no (s.registers 6) (s.registers 10)
      (let b = k.within in let t = f.top in omega (arith, i.word, i.coming, i.given, b, t)))
      (λ xs s i held. record {
        rest = xs;
        way = over (c + 9 + 12 * length all) (c + 12 + 12 * length all) xs s i (omega arith);
        behind = let l = ltu_false (s.registers 6) (s.registers 10) held in omega (arith, l, i.given);
      })
      hs (omega (arith, long_is, enough)) (view r1 m1 c1) (record {
        last = h;
        seen = [];
        is = is;
        passed = (spells.0, spells.1, tt);
        coming = spells.2;
        descends = (asc.1.0, tt, tt);
        ascends = asc.1.1;
        inside = inside.1;
        ends = ends apart.0;
        apart = apart.1;
        at = q.0.at;
        word = q.0.word;
        row = q.1 7 refl ∙ at_row;
        given = q.1 10 refl ∙ given;
        base = q.1 11 refl ∙ base;
        memory = q.0.memory;
        spent = let u = q.0.spent in omega (arith, u, long_is);
      }))
      (λ r2 m2 c2 o. then_joins c r2 m2 c2 k o))
    where
      ends : Apart first long h.start h.length → h.start + h.length ≤ first
      ends (inl l) = let p = k.filled in absurd (omega (arith, l, low, p))
      ends (inr l) = l

      then_joins : (c : ℕ) (r2 m2 : ℕ → ℕ) (c2 : ℕ) → Leaves
          → Passed rows head n first long (c + 12 + 12 * length all) m all (view r2 m2 c2)
          → Ends (frag_run g (Seq join_next (Seq join_last Skip)) w (view r2 m2 c2)) (Gone (c + 60 + 12 * length all))
      then_joins c r2 m2 c2 k o =
          let i = o.way in
          let spent = i.spent in
          let between : Between rows head n first long m (i.last ∷ i.seen) o.rest =
          record {
            passed = i.passed;
            coming = i.coming;
            descends = i.descends;
            ascends = i.ascends;
            inside = i.inside;
            behind = i.ends;
            ahead = ahead_from first long o.rest
                (λ x xs e. let s : SpellsHoles rows m (m (rows + 8 * i.last.start + 4)) (x ∷ xs) = subst
                (SpellsHoles rows m (m (rows + 8 * i.last.start + 4))) (sym e) i.coming in
                let b = o.behind in omega (arith, b, i.word, s.0))
                k.filled i.apart (ascends_filled (i.last.start + i.last.length + 1) o.rest i.ascends);
            filled = k.filled;
            within = k.within;
            row = k.long_there;
          } in
          subst (λ x. Ends (frag_run g (Seq join_next (Seq join_last Skip)) w (view r2 x c2))
          (Gone (c + 60 + 12 * length all))) (sym i.memory)
          (seq_ends _ _ _ _ _ _ _ _
          (λ t. Joined rows n first long o.rest m (c2 + 27) t
          × ((j : ℕ) → assigns join_next j ≡ false → t.registers j ≡ r2 j))
          (join_next_ends rows head n f w first long m
          (i.last ∷ i.seen) o.rest between r2 c2 i.word i.row i.given i.base)
          (λ r3 m3 c3 q.
          let cost = q.0.spent in
          seq_ends _ _ _ _ _ _ _ _ (Gone (c + 60 + 12 * length all))
          (ends_so _ _ (Gone (c + 60 + 12 * length all))
          (λ t b. record {
            seen = i.last ∷ i.seen;
            rest = o.rest;
            is = i.is;
            back = record {
              from = b.from;
              gives = b.gives;
              clear = b.clear;
              spent = let u = b.spent in omega
                  (arith, u, cost, spent);
            };
          })
          (join_last_ends rows head n f w first long m i.last i.seen o.rest between q.0.more q.0.left q.0.joins m3
          (record { row = q.0.row; others = q.0.others }) (r3 6) q.0.coming q.0.inside q.0.within r3 c3
          (q.1 5 refl ∙ i.at) refl (q.1 7 refl ∙ i.row) (q.1 10 refl ∙ i.given) q.0.long_is))
          (λ r4 m4 c4 b. skip_ends _ _ _ _ _ _ b)))

  pub low_ends : (r : ℕ → ℕ) (c : ℕ) → Leaves → length all ≤ w → r 7 ≡ rows + 8 * first → r 10 ≡ first → r 11 ≡ rows
      → r 12 ≡ head
      → Ends (frag_run g release_low w (view r m c)) (Gone (c + 66 + 12 * length all))
  low_ends r c k enough at_row given base head_is =
      let order = f.order in
      let p = k.filled in
      let i = k.within in
      let top = f.top in
      load_then _ _ _ _ _ _ _ _ _ _ head (m head)
      (plus_is (r 12) 0 head (omega (arith, head_is)) (omega (arith, order, i, top, p)))
      f.head_aligned (may head (omega arith) (omega (arith, order, i, p))) refl
      (seq_ends _ _ _ _ _ _ _ _ (Gone (c + 66 + 12 * length all)) (by all refl) (λ r' m' c' q. skip_ends _ _ _ _ _ _ q))
    where
      more : (most : ℕ) → most ≤ c + 66 + 12 * length all → (t : View) → Gone most t → Gone (c + 66 + 12 * length all) t
      more most le t q = record {
        seen = q.seen;
        rest = q.rest;
        is = q.is;
        back = record {
          from = q.back.from;
          gives = q.back.gives;
          clear = q.back.clear;
          spent = let u =
              q.back.spent in omega (arith, u, le);
        };
      }

      none_before : Ahead (first + long) all → first ≤ m head
          → Ends (frag_run g (If Ltu 6 10 release_behind release_first) w (view (put r 6 (m head)) m (c + 3)))
          (Gone (c + 66 + 12 * length all))
      none_before ahead le =
          if_other _ _ _ _ _ _ _ _ _ _ _ (ltu_no (m head) (r 10) (omega (arith, given, le)))
          (ends_so _ _ (Gone (c + 66 + 12 * length all)) (more (c + 3 + 3 + 33) (omega arith))
          (first_ends (put r 6 (m head)) (c + 3 + 3) k ahead refl at_row given base head_is))

      by : (hs : List Hole) → hs ≡ all
          → Ends (frag_run g (If Ltu 6 10 release_behind release_first) w (view (put r 6 (m head)) m (c + 3)))
          (Gone (c + 66 + 12 * length all))
      by [] e =
          let s : m head ≡ none_word = subst (SpellsHoles rows m (m head)) (sym e) k.spells in
          let p = k.filled in
          let i = k.within in
          let top = f.top in
          none_before (subst (Ahead (first + long)) e tt) (omega (arith, s, p, i, top))
      by (h ∷ hs) e = at (cases_lt h.start first)
        where
          spells : SpellsHoles rows m (m head) (h ∷ hs)
          spells = subst (SpellsHoles rows m (m head)) (sym e) k.spells

          at : (h.start < first) ⊎ (first ≤ h.start)
              → Ends (frag_run g (If Ltu 6 10 release_behind release_first) w (view (put r 6 (m head)) m (c + 3)))
              (Gone (c + 66 + 12 * length all))
          at (inl low) =
              if_taken _ _ _ _ _ _ _ _ _ _ _ (ltu_yes (m head) (r 10) (omega (arith, given, low, spells.0)))
              (ends_so _ _ (Gone (c + 66 + 12 * length all)) (more (c + 3 + 3 + 60 + 12 * length all) (omega arith))
              (behind_ends h hs (put r 6 (m head)) (c + 3 + 3) e k low enough spells.0 at_row given base))
          at (inr high) =
              none_before
              (ahead_from first long all
              (λ x xs q. let s : SpellsHoles rows m (m head) (x ∷ xs) = subst (SpellsHoles rows m (m head))
              (sym q) k.spells in omega (arith, s.0, spells.0, high))
              k.filled k.apart (ascends_filled 0 all k.ascends))
              (omega (arith, spells.0, high))

-- the tables after it
module _ (area : Area) (data_at : ℕ) (fit : TablesFit area data_at) (w : ℕ) (layout : Layout) (p : Parts area layout)
    (b : Block)
    (found : block_at layout b.first ≡ Some b) (low : b.first < area.fallback) (m : ℕ → ℕ)
    (spells : Spells area data_at m layout) where
  abbrev tables : ℕ
  tables = rows_at area data_at

  stands : Stands area layout b
  stands = each_found (Stands area layout) (λ x. x.first == b.first) b layout.blocks found p.blocks

  pub leaves : Leaves (rows_at area data_at) data_at (granules area)
      (ground area data_at fit) w b.first b.granules m layout.holes
  leaves = record {
    filled = stands.filled;
    within = stands.inside;
    long_there = each_found (λ x. m (granule_row area data_at x.first) ≡ x.granules)
        (λ x. x.first == b.first) b layout.blocks found (each _ layout.blocks spells.lengths);
    apart = stands.holes;
    ascends = p.ascends;
    inside = each_map _ _ layout.holes (λ h l. omega (arith, l)) p.inside;
    spells = spells.holes;
  }

  apart_of : Each (λ x. x.first ≢ b.first → BlocksApart b x) layout.blocks
  apart_of = pairs_found BlocksApart b.first b layout.blocks apart_sym found p.apart

  pub released_spells : (most : ℕ) (t : View)
      → Gone (rows_at area data_at) data_at (granules area)
      (ground area data_at fit) w b.first b.granules m layout.holes most t
      → Spells area data_at t.memory (released area layout b.first)
  unfolding freed
  released_spells most t gone =
      let test : nat_lt b.first area.fallback ≡ true = grind (arith, nat_tests) in
      subst (λ o. Spells area data_at t.memory (released_block area layout o)) (sym found)
      (rw test
      (spells_then area data_at gone.back.from (b.first + b.granules) layout m t.memory
      (with_hole (hole b.first b.granules) layout.holes)
      (without_block b.first layout.blocks) spells
      (subst (λ hs. Relinked (rows_at area data_at) data_at gone.back.from (b.first + b.granules) m t.memory
      (with_hole (hole b.first b.granules) hs)) gone.is gone.back.gives)
      (each_without (λ x. t.memory (granule_row area data_at x.first) ≡ x.granules) b.first layout.blocks
      (each_both (λ x. x.first ≢ b.first → BlocksApart b x)
      (λ x. Stands area layout x × (m (granule_row area data_at x.first) ≡ x.granules))
      (λ x. x.first ≢ b.first → t.memory (granule_row area data_at x.first) ≡ x.granules) layout.blocks
      (λ x apart q other.
      gone.back.gives.lengths x.first
      (gone.back.clear x.first x.granules q.0.filled (apart_sym b x (apart other))
      (each_seen (λ y. Apart x.first x.granules y.start y.length) gone.seen gone.rest
      (subst (Each (λ y. Apart x.first x.granules y.start y.length)) (sym gone.is) q.0.holes)))
      ∙ q.1)
      apart_of
      (each_both (Stands area layout) (λ x. m (granule_row area data_at x.first) ≡ x.granules)
      (λ x. Stands area layout x × (m (granule_row area data_at x.first) ≡ x.granules)) layout.blocks
      (λ x st e. (st, e))
      p.blocks (each _ layout.blocks spells.lengths))))))

pub release_low_releases : (area : Area) (data_at : ℕ) → TablesFit area data_at → ReleaseLowReleases area data_at
release_low_releases area data_at fit w layout b s sound found low spells back enough =
    let p : Parts area layout = parts area layout sound in
    let holes_few : 0 + 2 * length layout.holes ≤ area.fallback + 1 =
    few area.fallback 0 layout.holes p.inside p.ascends (omega arith) in
    ends_so _ _ _
    (λ t gone. (
      released_spells area data_at fit w layout p b found low s.memory spells
          (s.spent + 66 + 12 * length layout.holes) t gone,
      let u = gone.back.spent in omega (arith, u, holes_few),
    ))
    (low_ends (rows_at area data_at) data_at (granules area)
    (ground area data_at fit) w b.first b.granules s.memory layout.holes s.registers s.spent
    (leaves area data_at fit w layout p b found low s.memory spells) enough back.row back.given back.rows back.tables)
