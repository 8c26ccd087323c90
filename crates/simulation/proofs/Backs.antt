-- Where calls come back to: the stub of the chosen site whose call it is, or the same address.
use Rattle.std.proofs.Common.{◌≡◌, ◌≢◌, ◌⊎◌, inl, inr, ℕ, zero, suc, ◌+◌, ◌-◌, ◌%◌, ◌<◌, ◌≤◌, List, [], ◌∷◌, Bool, true}
use Rattle.std.proofs.Common.{false, cond, not, refl, ap, sym, ◌∙◌, subst, arith, length, get_or}
use Rattle.std.specs.Prelude.{Option, Some, None, position, nat_eq, nat_le, nat_lt, slice_get}
use Rattle.std.proofs.lemmas.Bool.Decides.{nat_tests}
use Rattle.std.proofs.lemmas.List.Quantifiers.{position-Some}
use Rattle.std.proofs.lemmas.List.Sums.{prefix_len_passes}
use Rattle.std.proofs.lemmas.Option.{slice_get-get_or, slice_get_within, get_or_from_slice_get}
use Rattle.std.specs.List.{position_or_len}
use Rattle.rv_isa.specs.declared.Instr.{Instr}
use Rattle.rv_isa.specs.declared.Instr.TheVariants.{Jal, Jalr}
use Rattle.rv_isa.specs.Table.{decoded}
use Rattle.elf_spec.specs.Code.{code_word}
use Rattle.plan_core.specs.declared.types.Plan.{Plan}
use Rattle.plan_core.specs.declared.types.PlanLine.{PlanLine}
use Rattle.site_spec.specs.declared.Site.{Site}
use Rattle.site_spec.specs.Places.{text_at, text_room}
use Rattle.site_spec.specs.Sites.{site_at}
use Rattle.sym_spec.specs.SymMachine.{back_index, is_back, line_at}
use Rattle.sym_spec.specs.SymTurns.{is_second}
use Rattle.sym_value.specs.Standing.{IsReturn}
use Rattle.match_spec.specs.Stands.{back_of, back_in}
use Rattle.simulation.specs.Ground.{Ground, IsJalSite, IsPairSite, IsUnchosen}

-- the site line whose call comes back to an address
pub record BackLine (file : List ℕ) (lines : List PlanLine) (a k : ℕ) : Type 0 where
  pub below : k < length lines
  pub line : PlanLine
  pub there : slice_get lines k ≡ Some line
  pub site : Site
  pub at : site_at file line.addr ≡ Some site
  pub back : site.back ≡ a

some_line : PlanLine
some_line = record { bit = 0; addr = 0 }

pub back_line : (file : List ℕ) (lines : List PlanLine) (a k : ℕ) → back_index file lines a ≡ Some k
    → BackLine file lines a k
unfolding back_index
back_line file lines a k e =
    let found : (k < length lines) × (is_back a (site_at file (get_or lines k some_line).addr) ≡ true)
    × ((j : ℕ) → j < k → is_back a (site_at file (get_or lines j some_line).addr) ≡ false)
    = position-Some (λ line. is_back a (site_at file line.addr)) lines k some_line e in
    of_site (site_at file (get_or lines k some_line).addr) refl found.0 found.1
  where
    of_site : (o : Option Site) → site_at file (get_or lines k some_line).addr ≡ o → k < length lines
        → is_back a (site_at file (get_or lines k some_line).addr) ≡ true
        → BackLine file lines a k
    of_site (Some s) q below passes =
        let test : nat_eq s.back a ≡ true = subst (λ o. is_back a o ≡ true) q passes in
        record {
          below = below;
          line = get_or lines k some_line;
          there = slice_get-get_or lines k some_line below;
          site = s;
          at = q;
          back = grind (arith, nat_tests);
        }
    of_site None q below passes = let no : false ≡ true = subst (λ o. is_back a o ≡ true) q passes in absurd (cc)

-- the returned-to address in the new file is a word and a multiple of 4
pub back_small : (file : List ℕ) (plan : Plan) (new : List ℕ) (a : ℕ) → Ground file plan new → IsReturn a
    → IsReturn (back_of file plan a)
unfolding back_of
back_small file plan new a g h = by_index (back_index file plan.sites a) refl
  where
    by_index : (o : Option ℕ) → back_index file plan.sites a ≡ o → IsReturn (back_in (text_at file) o a)
    by_index None e = h
    by_index (Some k) e =
        let line : BackLine file plan.sites a k = back_line file plan.sites a k e in
        let below : k < 32 = omega (arith, line.below, g.few) in
        let low : text_at file + text_room ≤ 0x7FF00000 = g.memory.low_text in
        let aligned : text_at file % 4 ≡ 0 = g.aligned_text in
        (omega (arith, below, low), omega (arith, aligned))

-- no line is at an address
pub line_none : (lines : List PlanLine) (a k : ℕ) (line : PlanLine) → line_at lines a ≡ None
    → slice_get lines k ≡ Some line → line.addr ≢ a
line_none [] a k line none e = absurd (cc)
line_none (l ∷ lines) a k line none e = at (line_none lines a) (nat_eq l.addr a) refl k none e
  where
    at : ((k : ℕ) (line : PlanLine) → line_at lines a ≡ None → slice_get lines k ≡ Some line → line.addr ≢ a)
        → (v : Bool) → nat_eq l.addr a ≡ v → (k : ℕ)
        → cond v (Some l) (line_at lines a) ≡ None → slice_get (l ∷ lines) k ≡ Some line → line.addr ≢ a
    at ih true q k none e = absurd (cc)
    at ih false q zero none e =
        let other : l.addr ≢ a = grind (arith, nat_tests) in
        let same : l ≡ line = cc in
        subst (λ x. x.addr ≢ a) same other
    at ih false q (suc k) none e = ih k line none e

-- a word reads as one instruction
reads_once : (file : List ℕ) (a b v w : ℕ) (i j : Instr) → code_word file a ≡ Some v → decoded v ≡ Some i
    → code_word file b ≡ Some w → decoded w ≡ Some j → a ≡ b → Some i ≡ Some j
reads_once file a b v w i j e d f c same =
    let here : Some v ≡ Some w = sym e ∙ (ap (code_word file) same ∙ f) in
    let word : v ≡ w = cc in
    sym d ∙ (ap decoded word ∙ c)

-- no two sites share a return address
pub one_back : (file : List ℕ) (plan : Plan) (new : List ℕ) (a b : ℕ) (s t : Site) → Ground file plan new
    → site_at file a ≡ Some s → site_at file b ≡ Some t
    → s.back ≡ t.back → a ≡ b
one_back file plan new a b s t g e f same = by_kinds (g.sites a s e) (g.sites b t f)
  where
    jal_behind : (x y : ℕ) (u v : Site) → IsJalSite file x u → IsPairSite file y v → u.back ≡ v.back → ⊥
    jal_behind x y u v jal pair same =
        let first : u.back ≡ x + 4 = jal.back in
        let second : v.back ≡ y + 8 = pair.back in
        let clash : Some (Jal 1 jal.imm) ≡ Some (Jalr 1 1 pair.lower) =
        reads_once file x (y + 4) jal.word pair.second (Jal 1 jal.imm)
        (Jalr 1 1 pair.lower) jal.there jal.reads pair.next pair.reads_next (omega (arith, first, second, same)) in
        cc

    by_kinds : IsJalSite file a s ⊎ IsPairSite file a s → IsJalSite file b t ⊎ IsPairSite file b t → a ≡ b
    by_kinds (inl jal) (inl other) = let first : s.back ≡ a + 4 = jal.back in let second : t.back ≡ b + 4 =
        other.back in omega (arith, first, second, same)
    by_kinds (inr pair) (inr other) = let first : s.back ≡ a + 8 = pair.back in let second : t.back ≡ b + 8 =
        other.back in omega (arith, first, second, same)
    by_kinds (inl jal) (inr pair) = absurd (jal_behind a b s t jal pair same)
    by_kinds (inr pair) (inl jal) = absurd (jal_behind b a t s jal pair (sym same))

-- behind a pair is its second word
pub second_of : (file : List ℕ) (a : ℕ) (s : Site) → site_at file a ≡ Some s → s.pair ≡ true
    → is_second file (a + 4) ≡ true
second_of file a s e pair =
    let low : nat_le 4 (a + 4) ≡ true = grind (arith, nat_tests) in
    let before : a + 4 - 4 ≡ a = omega arith in
    rw (low, before, e, pair) refl

-- behind an unchosen instruction no chosen call comes back
pub back_same : (file : List ℕ) (plan : Plan) (new : List ℕ) (a : ℕ) → Ground file plan new → IsUnchosen file plan a
    → back_of file plan (a + 4) ≡ a + 4
unfolding back_of
back_same file plan new a g none = by_index (back_index file plan.sites (a + 4)) refl
  where
    by_kind : (k : ℕ) (line : BackLine file plan.sites (a + 4) k)
        → IsJalSite file line.line.addr line.site ⊎ IsPairSite file line.line.addr line.site → ⊥
    by_kind k line (inl jal) =
        let back : line.site.back ≡ line.line.addr + 4 = jal.back in
        let here : line.line.addr ≡ a = omega (arith, back, line.back) in
        line_none plan.sites a k line.line none.none line.there here
    by_kind k line (inr pair) =
        let back : line.site.back ≡ line.line.addr + 8 = pair.back in
        let here : line.line.addr + 4 ≡ a = omega (arith, back, line.back) in
        let second : is_second file a ≡ true = subst (λ x. is_second file x ≡ true) here
        (second_of file line.line.addr line.site line.at pair.pair) in
        let clash : true ≡ false = sym second ∙ none.alone in
        cc

    by_index : (o : Option ℕ) → back_index file plan.sites (a + 4) ≡ o → back_in (text_at file) o (a + 4) ≡ a + 4
    by_index None e = refl
    by_index (Some k) e =
        let line : BackLine file plan.sites (a + 4) k = back_line file plan.sites (a + 4) k e in
        absurd (by_kind k line (g.sites line.line.addr line.site line.at))

-- behind a site that no line names no chosen call comes back
pub site_back_same : (file : List ℕ) (plan : Plan) (new : List ℕ) (a : ℕ) (s : Site) → Ground file plan new
    → site_at file a ≡ Some s → line_at plan.sites a ≡ None
    → back_of file plan s.back ≡ s.back
unfolding back_of
site_back_same file plan new a s g site none = by_index (back_index file plan.sites s.back) refl
  where
    by_index : (o : Option ℕ) → back_index file plan.sites s.back ≡ o → back_in (text_at file) o s.back ≡ s.back
    by_index None e = refl
    by_index (Some k) e =
        let line : BackLine file plan.sites s.back k = back_line file plan.sites s.back k e in
        absurd (line_none plan.sites a k line.line none line.there
        (one_back file plan new line.line.addr a line.site s g line.at site line.back))

position-None : (p : PlanLine → Bool) (xs : List PlanLine) → position p xs ≡ None → (k : ℕ) (d : PlanLine)
    → k < length xs → p (get_or xs k d) ≡ false
position-None p xs none k d below = at (nat_lt (position_or_len p xs) (length xs)) refl none
  where
    fails : (b : Bool) → not b ≡ true → b ≡ false
    fails true e = absurd (cc)
    fails false e = refl

    at : (t : Bool) → nat_lt (position_or_len p xs) (length xs) ≡ t → cond t (Some (position_or_len p xs)) None ≡ None
        → p (get_or xs k d) ≡ false
    at true e none = absurd (cc)
    at false e none =
        let long : length xs ≤ position_or_len p xs = grind (arith, nat_tests) in
        fails (p (get_or xs k d)) (prefix_len_passes (λ x. not (p x)) xs k d (omega (arith, long, below)))

-- no line's call comes back to an address that has no index
pub index_none : (file : List ℕ) (lines : List PlanLine) (a k : ℕ) (line : PlanLine) → back_index file lines a ≡ None
    → slice_get lines k ≡ Some line
    → is_back a (site_at file line.addr) ≡ false
unfolding back_index
index_none file lines a k line none e =
    let below : k < length lines = slice_get_within lines k line e in
    let value : get_or lines k some_line ≡ line = get_or_from_slice_get lines k line some_line e in
    subst (λ l. is_back a (site_at file l.addr) ≡ false) value
    (position-None (λ l. is_back a (site_at file l.addr)) lines none k some_line below)

-- a site line at an address, with its number
pub record LineAt (lines : List PlanLine) (a : ℕ) (line : PlanLine) : Type 0 where
  pub number : ℕ
  pub there : slice_get lines number ≡ Some line
  pub addr : line.addr ≡ a

pub line_some : (lines : List PlanLine) (a : ℕ) (line : PlanLine) → line_at lines a ≡ Some line → LineAt lines a line
line_some [] a line e = absurd (cc)
line_some (l ∷ lines) a line e = at (line_some lines a line) (nat_eq l.addr a) refl e
  where
    at : (line_at lines a ≡ Some line → LineAt lines a line) → (v : Bool) → nat_eq l.addr a ≡ v
        → cond v (Some l) (line_at lines a) ≡ Some line → LineAt (l ∷ lines) a line
    at ih true q e =
        let same : l ≡ line = cc in
        let here : l.addr ≡ a = grind (arith, nat_tests) in
        record { number = 0; there = ap (λ x. Some x) same; addr = subst (λ x. x.addr ≡ a) same here }
    at ih false q e = let rest : LineAt lines a line =
        ih e in record { number = suc rest.number; there = rest.there; addr = rest.addr }

-- the index of the address behind a chosen site is the site line's own number
pub index_is : (file : List ℕ) (plan : Plan) (new : List ℕ) (a : ℕ) (line : PlanLine) (s : Site)
    (h : LineAt plan.sites a line) → Ground file plan new
    → site_at file a ≡ Some s → back_index file plan.sites s.back ≡ Some h.number
index_is file plan new a line s h g site = by_index (back_index file plan.sites s.back) refl
  where
    here : site_at file line.addr ≡ Some s
    here = ap (site_at file) h.addr ∙ site

    by_index : (o : Option ℕ) → back_index file plan.sites s.back ≡ o
        → back_index file plan.sites s.back ≡ Some h.number
    by_index None e =
        let test : is_back s.back (site_at file line.addr) ≡ false =
        index_none file plan.sites s.back h.number line e h.there in
        let no : nat_eq s.back s.back ≡ false = subst (λ o. is_back s.back o ≡ false) here test in
        absurd (let apart : s.back ≢ s.back = grind (arith, nat_tests) in apart refl)
    by_index (Some k) e =
        let found : BackLine file plan.sites s.back k = back_line file plan.sites s.back k e in
        let same_addr : found.line.addr ≡ line.addr =
        one_back file plan new found.line.addr line.addr found.site s g found.at here found.back in
        let below : h.number < length plan.sites = slice_get_within plan.sites h.number line h.there in
        let first_value : get_or plan.sites k some_line ≡ found.line =
        get_or_from_slice_get plan.sites k found.line some_line found.there in
        let second_value : get_or plan.sites h.number some_line ≡ line =
        get_or_from_slice_get plan.sites h.number line some_line h.there in
        e ∙ ap (λ x. Some x) (same_number k h.number found.below below
        (λ lt. g.fits.once k h.number some_line lt below) (λ lt. g.fits.once h.number k some_line lt found.below)
        (ap (λ (l : PlanLine). l.addr) first_value ∙ (same_addr ∙ sym (ap (λ (l : PlanLine). l.addr) second_value))))
      where
        same_number : (i j : ℕ) → i < length plan.sites → j < length plan.sites
            → (i < j → (get_or plan.sites i some_line).addr ≢ (get_or plan.sites j some_line).addr)
            → (j < i → (get_or plan.sites j some_line).addr ≢ (get_or plan.sites i some_line).addr)
            → (get_or plan.sites i some_line).addr ≡ (get_or plan.sites j some_line).addr → i ≡ j
        same_number i j bi bj up down same = by_order (nat_lt i j) refl (nat_lt j i) refl
          where
            by_order : (p : Bool) → nat_lt i j ≡ p → (q : Bool) → nat_lt j i ≡ q → i ≡ j
            by_order true e q f = let lt : i < j = grind (arith, nat_tests) in absurd (up lt same)
            by_order false e true f = let lt : j < i = grind (arith, nat_tests) in absurd (down lt (sym same))
            by_order false e false f = grind (arith, nat_tests)
