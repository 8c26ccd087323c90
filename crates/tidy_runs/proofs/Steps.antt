-- A tidy step keeps what holds between tidy steps.
use Rattle.std.proofs.Common.{◌≡◌, ◌∙◌, ◌⊎◌, ℕ, ◌<◌, ◌==◌, Bool, true, false, List, [], ◌∷◌, ◌++◌, refl, sym, ap, subst}
use Rattle.std.proofs.Common.{inl, inr, Option, None, Some, option_and_then, slice_get, IsBitSet}
use Rattle.std.specs.Prelude.{All, Any, find, is_some, bit_or, bit_and, ◌^◌, ◌-◌}
use Rattle.std.specs.List.{list_any}
use Rattle.std.proofs.lemmas.Bool.{cases_Bool, cases_eq, eqb-true, eq-eqb, or_left, or_right, or_cases, both_ways}
use Rattle.std.proofs.lemmas.List.Elements.{All-push, All-get_or}
use Rattle.std.proofs.lemmas.List.Folds.{Any-from_list_any}
use Rattle.plan_core.specs.declared.types.Plan.{Plan}
use Rattle.plan_core.specs.declared.types.PlanLine.{PlanLine}
use Rattle.site_spec.specs.declared.Site.{Site}
use Rattle.site_spec.specs.Sites.{site_at}
use Rattle.site_spec.specs.Plans.{Fits}
use Rattle.sym_spec.specs.SymMachine.{line_at, is_back, back_index, set_bit, clear_bit}
use Rattle.sym_spec.specs.Contexts.{called, comes_back_to, cut, left_by, pushed, stack_after}
use Rattle.sym_spec.specs.declared.StepNote.{StepNote}
use Rattle.run_laws.specs.Turns.{bits_after, set_by, cleared_by}
use Rattle.tidy_runs.specs.Tidy.{IsLast, IsTidyStep, AreBitsOf, is_on}
use Rattle.tidy_runs.proofs.Bits.{set_same, set_kept, set_other, cleared_same, cleared_old, cleared_kept}
use Rattle.tidy_runs.proofs.Finding.{IsMember, all_front, by_position, find_none, find_some, one_of_key}
use Rattle.tidy_runs.proofs.Stacks.{AreOnce, cut_none, cut_last, on_push, on_last, last_on, once_push, once_last}

-- the bits are those of the lines whose sites are in a stack
abbrev pub AreBits : List PlanLine → List Site → ℕ → Type 0
AreBits lines stack bits = AreBitsOf lines (is_on stack) bits

-- what holds between tidy steps: the stack has sites of the file, chosen ones once, and the bits are theirs
pub record AreTidy (file : List ℕ) (lines : List PlanLine) (stack : List Site) (bits : ℕ) : Type 0 where
  pub sites : All (λ s. site_at file s.addr ≡ Some s) stack
  pub once : AreOnce lines stack
  pub bits_are : AreBits lines stack bits

-- the site at an address has that address
abbrev pub OwnAddress : List ℕ → Type 0
OwnAddress file = (a : ℕ) (s : Site) → site_at file a ≡ Some s → s.addr ≡ a

module _ (file : List ℕ) (plan : Plan) (fits : Fits file plan) (site_addr : OwnAddress file) where
  abbrev lines : List PlanLine
  lines = plan.sites

  -- a line with this bit whose site is on a stack
  abbrev IsHeld : List Site → ℕ → PlanLine → Type 0
  IsHeld stack n line = (line.bit ≡ n) × (is_on stack line.addr ≡ true)

  -- it is so on another stack that has the sites of these lines
  held_on : (stack other : List Site)
      → ((l : PlanLine) → IsMember lines l → is_on stack l.addr ≡ true → is_on other l.addr ≡ true) → (n : ℕ)
      → Any (IsHeld stack n) lines → Any (IsHeld other n) lines
  held_on stack other goes n (i, l, within, at, (bit, on)) =
      (i, l, within, at, (bit, goes l (i, within, at) on))

  one_line : (l m : PlanLine) → IsMember lines l → IsMember lines m → l.addr ≡ m.addr → l ≡ m
  one_line = one_of_key (λ (l : PlanLine). l.addr) lines fits.once

  one_bit : (l m : PlanLine) → IsMember lines l → IsMember lines m → l.bit ≡ m.bit → l ≡ m
  one_bit = one_of_key (λ (l : PlanLine). l.bit) lines fits.own_bits

  low_bit : (l : PlanLine) → IsMember lines l → l.bit < 32
  low_bit l (i, within, at) =
      subst (λ (m : PlanLine). m.bit < 32) at (All-get_or (λ line. line.bit < 32) lines i l within fits.bits)

  chosen : (l : PlanLine) → IsMember lines l → is_some (line_at lines l.addr) ≡ true
  chosen l member = by (line_at lines l.addr) refl
    where
      by : (o : Option PlanLine) → line_at lines l.addr ≡ o → is_some o ≡ true
      by None none = absurd (find_none (λ line. line.addr == l.addr) lines l none member (eq-eqb l.addr l.addr refl))
      by (Some m) some = refl

  -- a stack with one site more has those that it had
  on_more : (stack : List Site) (s : Site) (a : ℕ) → is_on stack a ≡ true → is_on (stack ++ s ∷ []) a ≡ true
  on_more stack s a on = on_push stack s a ∙ or_left (is_on stack a) (is_on (s ∷ []) a) on

  -- and no others but that one
  on_fewer : (stack : List Site) (s : Site) (a : ℕ) → (s.addr ≡ a → ⊥) → is_on (stack ++ s ∷ []) a ≡ true
      → is_on stack a ≡ true
  on_fewer stack s a other on =
      elim (or_cases (is_on stack a) (is_on (s ∷ []) a) (sym (on_push stack s a) ∙ on)) [
        | inl old ↦ old
        | inr last ↦ absurd (other (on_last s a last))
      ]

  -- ---- a call

  module _ (stack : List Site) (bits a : ℕ) (s : Site) (tidy : AreTidy file lines stack bits)
      (is_site : site_at file a ≡ Some s) (at : s.addr ≡ a)
      (new : is_some (line_at lines a) ≡ true → is_on stack a ≡ false) where
    abbrev more : List Site
    more = stack ++ s ∷ []

    -- the site is none of a line
    no_line : line_at lines a ≡ None → AreBits lines more bits
    no_line none n = (
      λ set. held_on stack more (λ l member on. on_more stack s l.addr on) n ((tidy.bits_are n).0 set),
      λ held. (tidy.bits_are n).1 (held_on more stack
          (λ l member on. on_fewer stack s l.addr (λ same.
          find_none (λ line. line.addr == a) lines l none member (eq-eqb l.addr a (sym same ∙ at))) on) n held),
    )

    -- the site is that of a line
    with_line : (line : PlanLine) → line_at lines a ≡ Some line → AreBits lines more (bit_or bits (2 ^ line.bit))
    with_line line some n = (λ set. to set (cases_eq n line.bit), λ held. from held)
      where
        found : ((line.addr == a) ≡ true) × IsMember lines line
        found = find_some (λ l. l.addr == a) lines line some

        addr : line.addr ≡ a
        addr = eqb-true line.addr a found.0

        member : IsMember lines line
        member = found.1

        to : IsBitSet (bit_or bits (2 ^ line.bit)) n → (n ≡ line.bit) ⊎ (n ≡ line.bit → ⊥)
            → Any (IsHeld more n) lines
        to set (inl same) = (
          member.0,
          line,
          member.1,
          member.2,
          (
            sym same,
            on_push stack s line.addr ∙ or_right (is_on stack line.addr) _ (last_on s line.addr (at ∙ sym addr)),
          ),
        )
        to set (inr apart) =
            held_on stack more (λ l its on. on_more stack s l.addr on) n
            ((tidy.bits_are n).0 (set_other bits line.bit n apart set))

        from : Any (IsHeld more n) lines → IsBitSet (bit_or bits (2 ^ line.bit)) n
        from (i, l, within, there, (bit, on)) =
            elim (or_cases (is_on stack l.addr) (is_on (s ∷ []) l.addr) (sym (on_push stack s l.addr) ∙ on)) [
              | inl old ↦ set_kept bits line.bit n ((tidy.bits_are n).1 (i, l, within, there, (bit, old)))
              | inr last ↦
                  let same : l ≡ line = one_line l line (i, within, there) member
                  (sym (on_last s l.addr last) ∙ (at ∙ sym addr)) in
                  let own : line.bit ≡ n = ap (λ (m : PlanLine). m.bit) (sym same) ∙ bit in
                  subst (λ k. IsBitSet (bit_or bits (2 ^ line.bit)) k) own (set_same bits line.bit)
            ]

    pub call_step : AreTidy file lines more (set_bit (line_at lines a) bits)
    call_step = record {
      sites = All-push (λ t. site_at file t.addr ≡ Some t) stack s tidy.sites (ap (site_at file) at ∙ is_site);
      once = once_push lines stack s tidy.once
          (λ is. ap (is_on stack) at ∙ new (sym (ap (λ b. is_some (line_at lines b)) at) ∙ is));
      bits_are = by (line_at lines a) refl;
    }
      where
        by : (o : Option PlanLine) → line_at lines a ≡ o → AreBits lines more (set_bit o bits)
        by None none = no_line none
        by (Some line) some = with_line line some

  -- ---- a way back

  -- the stack's last site is left
  module _ (front : List Site) (s : Site) (bits : ℕ) (tidy : AreTidy file lines (front ++ s ∷ []) bits) where
    abbrev whole : List Site
    whole = front ++ s ∷ []

    front_sites : All (λ t. site_at file t.addr ≡ Some t) front
    front_sites = all_front (λ t. site_at file t.addr ≡ Some t) front (s ∷ []) tidy.sites

    -- it is none of a line
    other_left : ((l : PlanLine) → IsMember lines l → l.addr ≡ s.addr → ⊥) → AreTidy file lines front bits
    other_left none = record {
      sites = front_sites;
      once = (once_last lines front s tidy.once).0;
      bits_are = λ n. (
        λ set. held_on whole front (λ l member on. on_fewer front s l.addr (λ same. none l member (sym same)) on) n
            ((tidy.bits_are n).0 set),
        λ held. (tidy.bits_are n).1 (held_on front whole (λ l member on. on_more front s l.addr on) n held),
      );
    }

    -- it is that of a line
    line_left : (line : PlanLine) → IsMember lines line → line.addr ≡ s.addr
        → AreTidy file lines front (bit_and bits (2 ^ 32 - 1 - 2 ^ line.bit))
    line_left line member addr = record {
      sites = front_sites;
      once = (once_last lines front s tidy.once).0;
      bits_are = λ n. (λ set. to n set, λ held. from n held);
    }
      where
        gone : is_on front line.addr ≡ false
        gone = ap (is_on front) addr ∙ (once_last lines front s tidy.once).1
            (sym (ap (λ b. is_some (line_at lines b)) addr) ∙ chosen line member)

        to : (n : ℕ) → IsBitSet (bit_and bits (2 ^ 32 - 1 - 2 ^ line.bit)) n → Any (IsHeld front n) lines
        to n set = by ((tidy.bits_are n).0 (cleared_old bits (2 ^ 32 - 1 - 2 ^ line.bit) n set))
          where
            by : Any (IsHeld whole n) lines → Any (IsHeld front n) lines
            by (i, l, within, at, (bit, on)) = (
              i,
              l,
              within,
              at,
              (
                bit,
                on_fewer front s l.addr (λ here.
                    let same : l ≡ line = one_line l line (i, within, at) member (sym here ∙ sym addr) in
                    let own : line.bit ≡ n = ap (λ (m : PlanLine). m.bit) (sym same) ∙ bit in
                    cleared_same bits line.bit (low_bit line member)
                    (subst (λ k. IsBitSet (bit_and bits (2 ^ 32 - 1 - 2 ^ line.bit)) k) (sym own) set)) on,
              ),
            )

        from : (n : ℕ) → Any (IsHeld front n) lines → IsBitSet (bit_and bits (2 ^ 32 - 1 - 2 ^ line.bit)) n
        from n (i, l, within, at, (bit, on)) =
            let its : IsMember lines l = (i, within, at) in
            let apart : n ≡ line.bit → ⊥ = λ same.
            (let one : l ≡ line = one_bit l line its member (bit ∙ same) in
            both_ways (is_on front line.addr) gone (subst (λ (k : PlanLine). is_on front k.addr ≡ true) one on)) in
            cleared_kept bits line.bit n (low_bit line member) (subst (λ k. k < 32) bit (low_bit l its)) apart
            ((tidy.bits_are n).1 (i, l, within, at, (bit, on_more front s l.addr on)))

  module _ (stack : List Site) (bits a : ℕ) (tidy : AreTidy file lines stack bits)
      (last : (b : ℕ) (s : Site) → site_at file b ≡ Some s → s.back ≡ a → IsLast s stack) where
    -- the line that is found comes back there
    abbrev Back : PlanLine → Bool
    Back line = is_back a (site_at file line.addr)

    back_site : (line : PlanLine) (o : Option Site) → site_at file line.addr ≡ o → is_back a o ≡ true
        → (s : Site) × (site_at file line.addr ≡ Some s) × (s.back ≡ a)
    back_site line None is back = absurd (both_ways false refl back)
    back_site line (Some s) is back = (s, is, eqb-true s.back a back)

    by_line : (o : Option PlanLine) → find Back lines ≡ o → AreTidy file lines (cut a stack) (clear_bit o bits)
    by_line (Some line) found =
        let some = find_some Back lines line found in
        let site = back_site line (site_at file line.addr) refl some.0 in
        let end = last line.addr site.0 site.1 site.2 in
        let is_cut : cut a stack ≡ end.0 = ap (cut a) end.1 ∙ cut_last a end.0 site.0 site.2 in
        subst (λ ss. AreTidy file lines ss (bit_and bits (2 ^ 32 - 1 - 2 ^ line.bit))) (sym is_cut)
        (line_left end.0 site.0 bits (subst (λ ss. AreTidy file lines ss bits) end.1 tidy) line some.1
        (sym (site_addr line.addr site.0 site.1)))
    by_line None found = elim (cases_Bool (list_any (comes_back_to a) stack)) [
      | inl some ↦
          let there = Any-from_list_any (comes_back_to a) stack some in
          let own : site_at file there.1.addr ≡ Some there.1 =
          subst (λ (t : Site). site_at file t.addr ≡ Some t) there.3
          (All-get_or (λ t. site_at file t.addr ≡ Some t) stack there.0 there.1 there.2 tidy.sites) in
          let back : there.1.back ≡ a = eqb-true there.1.back a there.4 in
          let end = last there.1.addr there.1 own back in
          let is_cut : cut a stack ≡ end.0 = ap (cut a) end.1 ∙ cut_last a end.0 there.1 back in
          subst (λ ss. AreTidy file lines ss bits) (sym is_cut)
          (other_left end.0 there.1 bits (subst (λ ss. AreTidy file lines ss bits) end.1 tidy) (λ l member same.
          find_none Back lines l found member
          (ap (is_back a) (ap (site_at file) same ∙ own) ∙ eq-eqb there.1.back a back)))
      | inr none ↦ subst (λ ss. AreTidy file lines ss bits) (sym (cut_none a stack none)) tidy
    ]

    pub back_step : AreTidy file lines (cut a stack)
        (clear_bit (option_and_then (slice_get lines) (back_index file lines a)) bits)
    unfolding back_index
    back_step = subst (λ o. AreTidy file lines (cut a stack) (clear_bit o bits))
        (sym (by_position Back lines)) (by_line (find Back lines) refl)

  -- ---- a step

  -- an address without a site is that of no line
  no_site_line : (a : ℕ) → site_at file a ≡ None → line_at lines a ≡ None
  no_site_line a none = by (line_at lines a) refl
    where
      by : (o : Option PlanLine) → line_at lines a ≡ o → o ≡ None
      by None is = refl
      by (Some line) is =
          let found : ((line.addr == a) ≡ true) × IsMember lines line = find_some (λ l. l.addr == a) lines line is in
          let site : is_some (site_at file line.addr) ≡ true =
          subst (λ (l : PlanLine). is_some (site_at file l.addr) ≡ true) found.1.2
          (All-get_or (λ l. is_some (site_at file l.addr) ≡ true) lines found.1.0 line found.1.1 fits.sites) in
          let gone : site_at file line.addr ≡ None = ap (site_at file) (eqb-true line.addr a found.0) ∙ none in
          absurd (both_ways (is_some (site_at file line.addr)) (ap is_some gone) site)

  called_step : (note : StepNote) (stack : List Site) (bits a : ℕ) → AreTidy file lines stack bits
      → IsTidyStep file lines note stack → note.call ≡ Some a → (o : Option Site) → site_at file a ≡ o
      → AreTidy file lines (pushed o stack) (set_bit (line_at lines a) bits)
  called_step note stack bits a tidy step call (Some s) is =
      call_step stack bits a s tidy is (site_addr a s is) (step.call a call)
  called_step note stack bits a tidy step call None is =
      subst (AreTidy file lines stack) (ap (λ o. set_bit o bits) (sym (no_site_line a is))) tidy

  pub tidy_step : (note : StepNote) (stack : List Site) (bits : ℕ) → AreTidy file lines stack bits
      → IsTidyStep file lines note stack → (note.call ≡ None) ⊎ (note.back ≡ None)
      → AreTidy file lines (stack_after file note stack) (bits_after file lines note bits)
  tidy_step note stack bits tidy step alone = by note.call note.back refl refl alone
    where
      by : (call back : Option ℕ) → note.call ≡ call → note.back ≡ back → (call ≡ None) ⊎ (back ≡ None)
          → AreTidy file lines (left_by back (pushed (called file call) stack))
          (cleared_by file lines back (set_by lines call bits))
      by None None at_call at_back alone = tidy
      by (Some a) None at_call at_back alone =
          called_step note stack bits a tidy step at_call (site_at file a) refl
      by None (Some a) at_call at_back alone =
          back_step stack bits a tidy (λ b s is back. step.back a b s at_back is back)
      by (Some a) (Some b) at_call at_back (inl none) = absurd (cc)
      by (Some a) (Some b) at_call at_back (inr none) = absurd (cc)
