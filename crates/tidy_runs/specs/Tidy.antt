-- Tidy runs, and the chosen sites that are in the shadow stack and on the context of a grant.
use Rattle.std.specs.Prelude.{◌≡◌, ◌↔◌, ◌<◌, ◌==◌, ℕ, zero, suc, true, false, List, [], ◌∷◌, ◌++◌, Bool, All, Any}
use Rattle.std.specs.Prelude.{IsBitSet, IsSome, Some}
use Rattle.std.specs.List.{list_any}
use Rattle.plan_core.specs.declared.types.PlanLine.{PlanLine}
use Rattle.site_spec.specs.declared.Site.{Site}
use Rattle.site_spec.specs.Sites.{site_at}
use Rattle.sym_spec.specs.declared.StepNote.{StepNote}
use Rattle.sym_spec.specs.SymMachine.{line_at}
use Rattle.sym_spec.specs.SymNotes.{note}
use Rattle.sym_spec.specs.Contexts.{context_of, stack_after}
use Rattle.run_laws.specs.Grants.{Run, machine_at}

-- the note of turn n
abbrev pub note_at : Run → (n : ℕ) → StepNote
note_at run n = note run.file run.plan (machine_at run n)

-- the shadow stack before turn n
abbrev pub stack_at : Run → (n : ℕ) → List Site
stack_at run zero = []
stack_at run (suc n) = stack_after run.file (note_at run n) (stack_at run n)

-- the context of a grant in turn n: before the jump of that turn
abbrev pub context_at : Run → (n : ℕ) → List ℕ
context_at run n = context_of (stack_at run n)

-- the site of an address is in a stack
abbrev pub is_on : List Site → ℕ → Bool
is_on stack a = list_any (λ s. s.addr == a) stack

-- an address is on a context
abbrev pub is_in : List ℕ → ℕ → Bool
is_in context a = list_any (λ b. b == a) context

-- the site of an address is chosen
abbrev pub IsChosen : List PlanLine → ℕ → Type 0
IsChosen lines a = IsSome (line_at lines a)

-- a site is the last of a stack
abbrev pub IsLast : Site → List Site → Type 0
IsLast s stack = (front : List Site) × (stack ≡ front ++ s ∷ [])

-- a step with this note is tidy: a chosen site that it calls isn't in the stack, and where it goes back to the return
-- address of a site, the stack's last site is that site
pub record IsTidyStep (file : List ℕ) (lines : List PlanLine) (note : StepNote) (stack : List Site) : Type 0 where
  pub call : (a : ℕ) → note.call ≡ Some a → IsChosen lines a → is_on stack a ≡ false
  pub back : (a b : ℕ) (s : Site) → note.back ≡ Some a → site_at file b ≡ Some s → s.back ≡ a → IsLast s stack

-- the first n turns of a run are tidy
abbrev pub IsTidy : Run → (n : ℕ) → Type 0
IsTidy run n = (i : ℕ) → i < n → IsTidyStep run.file run.plan.sites (note_at run i) (stack_at run i)

-- the bits are the chosen sites of which a test holds
abbrev pub AreBitsOf : List PlanLine → (ℕ → Bool) → (bits : ℕ) → Type 0
AreBitsOf lines test bits =
    (k : ℕ) → IsBitSet bits k ↔ Any (λ line. (line.bit ≡ k) × (test line.addr ≡ true)) lines

-- all chosen sites are near
abbrev pub AreNear : List ℕ → List PlanLine → Type 0
AreNear file lines = All (λ line. (s : Site) → site_at file line.addr ≡ Some s → s.near ≡ true) lines
