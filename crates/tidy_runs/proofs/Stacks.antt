-- Stacks with one site more, and without their last.
use Rattle.std.proofs.Common.{◌≡◌, ◌∙◌, ℕ, ◌==◌, ◌||◌, ◌&&◌, not, Bool, true, false, List, [], ◌∷◌, ◌++◌, refl, sym, ap}
use Rattle.std.proofs.Common.{inl, inr}
use Rattle.std.specs.List.{list_any}
use Rattle.std.proofs.lemmas.Bool.{cases_Bool, eqb-true, eq-eqb, or_parts, or_left, or_right, or_cases, or_from}
use Rattle.std.proofs.lemmas.Bool.{both_ways}
use Rattle.std.proofs.lemmas.List.Folds.{list_any-append}
use Rattle.std.specs.Prelude.{is_some}
use Rattle.plan_core.specs.declared.types.PlanLine.{PlanLine}
use Rattle.site_spec.specs.declared.Site.{Site}
use Rattle.sym_spec.specs.SymMachine.{line_at}
use Rattle.sym_spec.specs.Contexts.{comes_back_to, cut}
use Rattle.tidy_runs.specs.Tidy.{is_on}

-- a chosen site is at most once in a stack
abbrev pub AreOnce : List PlanLine → List Site → Type 0
AreOnce lines [] = Unit {0}
AreOnce lines (s ∷ stack) = (is_some (line_at lines s.addr) ≡ true → is_on stack s.addr ≡ false) × AreOnce lines stack

-- a stack without a site that comes back to an address isn't cut there
pub cut_none : (a : ℕ) (stack : List Site) → list_any (comes_back_to a) stack ≡ false → cut a stack ≡ stack
cut_none a [] none = refl
cut_none a (s ∷ stack) none =
    let parts = or_parts (comes_back_to a s) (list_any (comes_back_to a) stack) none in
    let here : comes_back_to a s ≡ false = parts.0 in
    rw here (ap (λ ss. s ∷ ss) (cut_none a stack parts.1))

-- one whose last site comes back there loses it
pub cut_last : (a : ℕ) (front : List Site) (s : Site) → s.back ≡ a → cut a (front ++ s ∷ []) ≡ front
cut_last a [] s is =
    let here : comes_back_to a s ≡ true = eq-eqb s.back a is in
    rw here refl
cut_last a (t ∷ front) s is =
    let last : list_any (comes_back_to a) (s ∷ []) ≡ true = or_left (comes_back_to a s) false (eq-eqb s.back a is) in
    let there : list_any (comes_back_to a) (front ++ s ∷ []) ≡ true =
    list_any-append (comes_back_to a) front (s ∷ []) ∙ or_right (list_any (comes_back_to a) front) _ last in
    let test : (comes_back_to a t && not (list_any (comes_back_to a) (front ++ s ∷ []))) ≡ false =
    by (comes_back_to a t) (list_any (comes_back_to a) (front ++ s ∷ [])) there in
    rw test (ap (λ ss. t ∷ ss) (cut_last a front s is))
  where
    by : (b c : Bool) → c ≡ true → (b && not c) ≡ false
    by true true is = refl
    by false true is = refl
    by true false is = absurd (cc)
    by false false is = absurd (cc)

-- what is on a stack with one site more
pub on_push : (stack : List Site) (s : Site) (a : ℕ) → is_on (stack ++ s ∷ []) a ≡ (is_on stack a || is_on (s ∷ []) a)
on_push stack s a = list_any-append (λ t. t.addr == a) stack (s ∷ [])

pub on_last : (s : Site) (a : ℕ) → is_on (s ∷ []) a ≡ true → s.addr ≡ a
on_last s a is = elim (or_cases (s.addr == a) false is) [
  | inl here ↦ eqb-true s.addr a here
  | inr none ↦ absurd (both_ways false refl none)
]

pub last_on : (s : Site) (a : ℕ) → s.addr ≡ a → is_on (s ∷ []) a ≡ true
last_on s a is = or_left (s.addr == a) false (eq-eqb s.addr a is)

-- chosen sites are once on a stack with one more that wasn't there
pub once_push : (lines : List PlanLine) (stack : List Site) (s : Site) → AreOnce lines stack
    → (is_some (line_at lines s.addr) ≡ true → is_on stack s.addr ≡ false) → AreOnce lines (stack ++ s ∷ [])
once_push lines [] s once new = (λ chosen. refl, tt)
once_push lines (t ∷ stack) s once new = (
  λ chosen. on_push stack s t.addr ∙ or_from (is_on stack t.addr) (is_on (s ∷ []) t.addr) (once.0 chosen)
      (elim (cases_Bool (is_on (s ∷ []) t.addr)) [
        | inl there ↦
            let same : s.addr ≡ t.addr = on_last s t.addr there in
            let gone : is_on (t ∷ stack) s.addr ≡ false =
            new (ap (λ a. is_some (line_at lines a)) same ∙ chosen) in
            absurd (both_ways (is_on (t ∷ stack) s.addr) gone
            (or_left (t.addr == s.addr) (is_on stack s.addr) (eq-eqb t.addr s.addr (sym same))))
        | inr none ↦ none
      ]),
  once_push lines stack s once.1
      (λ chosen. (or_parts (t.addr == s.addr) (is_on stack s.addr) (new chosen)).1),
)

-- and the last one isn't before
pub once_last : (lines : List PlanLine) (front : List Site) (s : Site) → AreOnce lines (front ++ s ∷ [])
    → AreOnce lines front × (is_some (line_at lines s.addr) ≡ true → is_on front s.addr ≡ false)
once_last lines [] s once = (tt, λ chosen. refl)
once_last lines (t ∷ front) s once =
    let rest = once_last lines front s once.1 in (
      (
        λ chosen. (or_parts (is_on front t.addr) (is_on (s ∷ []) t.addr)
            (sym (on_push front s t.addr) ∙ once.0 chosen)).0,
        rest.0,
      ),
      λ chosen. or_from (t.addr == s.addr) (is_on front s.addr)
          (elim (cases_Bool (t.addr == s.addr)) [
            | inl here ↦
                let same : t.addr ≡ s.addr = eqb-true t.addr s.addr here in
                let none : is_on (front ++ s ∷ []) t.addr ≡ false =
                once.0 (ap (λ a. is_some (line_at lines a)) same ∙ chosen) in
                absurd (both_ways (is_on (front ++ s ∷ []) t.addr) none
                (on_push front s t.addr ∙ or_right (is_on front t.addr) _ (last_on s t.addr (sym same))))
            | inr apart ↦ apart
          ]) (rest.1 chosen),
    )
