-- The chosen sites on a context are those in the stack, where they are near.
use Rattle.std.proofs.Common.{◌≡◌, ◌∙◌, ℕ, ◌==◌, ◌||◌, Bool, true, false, List, [], ◌∷◌, ◌<◌, get_or, length, refl, sym}
use Rattle.std.proofs.Common.{ap, subst, Some}
use Rattle.std.specs.Prelude.{All, filter, if◌then◌else◌, map}
use Rattle.std.specs.List.{list_any}
use Rattle.std.proofs.lemmas.Bool.{eqb-true}
use Rattle.std.proofs.lemmas.List.Elements.{All-get_or, All-head, All-tail}
use Rattle.plan_core.specs.declared.types.PlanLine.{PlanLine}
use Rattle.site_spec.specs.declared.Site.{Site}
use Rattle.site_spec.specs.Sites.{site_at}
use Rattle.sym_spec.specs.Contexts.{addr_of, context_of, is_near, last_of_equal}
use Rattle.tidy_runs.specs.Tidy.{AreBitsOf, AreNear, is_in, is_on}

-- of equal numbers one stays
last_in : (ns : List ℕ) (a : ℕ) → is_in (last_of_equal ns) a ≡ is_in ns a
last_in [] a = refl
last_in (n ∷ ns) a = by (list_any (λ m. m == n) ns) refl (n == a) refl (last_in ns a)
  where
    by : (again : Bool) → list_any (λ m. m == n) ns ≡ again → (here : Bool) → (n == a) ≡ here
        → is_in (last_of_equal ns) a ≡ is_in ns a
        → is_in (if again then last_of_equal ns else n ∷ last_of_equal ns) a ≡ (here || is_in ns a)
    by true again true here rest =
        let same : n ≡ a = eqb-true n a here in
        rest ∙ subst (λ b. is_in ns b ≡ true) same again
    by true again false here rest = rest
    by false again true here rest = rw here refl
    by false again false here rest = rw here rest

-- by their addresses
mapped_in : (stack : List Site) (a : ℕ) → is_in (map addr_of stack) a ≡ is_on stack a
mapped_in [] a = refl
mapped_in (s ∷ stack) a = ap (λ t. (s.addr == a) || t) (mapped_in stack a)

-- near sites stay
near_on : (file : List ℕ) (stack : List Site) (a : ℕ) → All (λ s. site_at file s.addr ≡ Some s) stack
    → ((s : Site) → site_at file a ≡ Some s → s.near ≡ true) → is_on (filter is_near stack) a ≡ is_on stack a
near_on file [] a sites near = refl
near_on file (s ∷ stack) a sites near =
    by s.near refl (s.addr == a) refl
    (near_on file stack a (All-tail (λ t. site_at file t.addr ≡ Some t) s stack sites) near)
  where
    own : site_at file s.addr ≡ Some s
    own = All-head (λ t. site_at file t.addr ≡ Some t) s stack sites

    by : (close : Bool) → s.near ≡ close → (here : Bool) → (s.addr == a) ≡ here
        → is_on (filter is_near stack) a ≡ is_on stack a
        → is_on (if close then s ∷ filter is_near stack else filter is_near stack) a ≡ (here || is_on stack a)
    by true close here is rest = ap (λ t. t || is_on (filter is_near stack) a) is ∙ ap (λ t. here || t) rest
    by false close false is rest = rest
    by false close true is rest =
        let its : s.near ≡ true = near s (ap (site_at file) (sym (eqb-true s.addr a is)) ∙ own) in
        absurd (let clash : false ≡ true = sym close ∙ its in cc)

in_context : (file : List ℕ) (stack : List Site) (a : ℕ) → All (λ s. site_at file s.addr ≡ Some s) stack
    → ((s : Site) → site_at file a ≡ Some s → s.near ≡ true) → is_in (context_of stack) a ≡ is_on stack a
in_context file stack a sites near =
    last_in (map addr_of (filter is_near stack)) a
    ∙ (mapped_in (filter is_near stack) a ∙ near_on file stack a sites near)

pub bits_on_context : (file : List ℕ) (lines : List PlanLine) (stack : List Site) (bits : ℕ)
    → All (λ s. site_at file s.addr ≡ Some s) stack → AreNear file lines → AreBitsOf lines (is_on stack) bits
    → AreBitsOf lines (is_in (context_of stack)) bits
bits_on_context file lines stack bits sites near bits_are k = (
  λ set. (let (i, line, low, there, (bit, on)) = (bits_are k).0 set in
      (i, line, low, there, (bit, same i line low there ∙ on))),
  λ held. (let (i, line, low, there, (bit, on)) = held in
      (bits_are k).1 (i, line, low, there, (bit, sym (same i line low there) ∙ on))),
)
  where
    same : (i : ℕ) (line : PlanLine) → i < length lines → get_or lines i line ≡ line
        → is_in (context_of stack) line.addr ≡ is_on stack line.addr
    same i line low there = in_context file stack line.addr sites
        (subst (λ (l : PlanLine). (s : Site) → site_at file l.addr ≡ Some s → s.near ≡ true) there
        (All-get_or (λ l. (s : Site) → site_at file l.addr ≡ Some s → s.near ≡ true) lines i line low near))
