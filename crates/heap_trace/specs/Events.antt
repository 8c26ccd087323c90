-- The events of a step, with the context of a grant by its number. Contexts are numbered in the order of
-- their first grant. A step's events come in the order grant, release, access.
use Rattle.std.specs.Prelude.{◌≡◌, ◌≢◌, ◌⊎◌, ℕ, List, [], ◌∷◌, ◌++◌, Option, Some, None, All, length, take, slice_get}
use Rattle.std.specs.Prelude.{option_map}
use Rattle.plan_core.specs.declared.profiles.Event.{Event}
use Rattle.plan_core.specs.declared.profiles.Event.TheVariants.{Grant, Access, Release}
use Rattle.site_spec.specs.declared.Site.{Site}
use Rattle.sym_spec.specs.declared.StepNote.{StepNote}
use Rattle.sym_spec.specs.Contexts.{context_of, stack_after}

-- the shadow stack, and the contexts of the grants so far, by their numbers
pub record Traced : Type 0 where
  pub stack : List Site
  pub contexts : List (List ℕ)

-- a context has its number: it stands there and nowhere before, and is behind all others if it is new
pub record IsNumbered (context : List ℕ) (before after : List (List ℕ)) (number : ℕ) : Type 0 where
  pub stands : slice_get after number ≡ Some context
  pub first : All (λ c. c ≢ context) (take number before)
  pub grows : (after ≡ before) ⊎ ((after ≡ before ++ context ∷ []) × (number ≡ length before))

-- the event of the grant, if the step has one, whose context is this
abbrev pub Granted : Option ℕ → (context : List ℕ) → (before after : List (List ℕ)) → Option Event → Type 0
Granted None context before after event = (after ≡ before) × (event ≡ None)
Granted (Some block) context before after event =
    (number : ℕ) × IsNumbered context before after number × (event ≡ Some (Grant block number))

abbrev pub release_of : StepNote → Option Event
release_of note = option_map (λ block. Release block) note.release

abbrev pub access_of : StepNote → Option Event
access_of note = option_map (λ a. Access a.block a.width) note.access

-- a step with this note has these events, and what is traced before it and after it. The context of a grant
-- is that of the stack before the step
pub record Takes (file : List ℕ) (note : StepNote) (before after : Traced) (events : List (Option Event)) : Type 0 where
  pub stack : after.stack ≡ stack_after file note before.stack
  pub grant : Option Event
  pub granted : Granted note.grant (context_of before.stack) before.contexts after.contexts grant
  pub all : events ≡ grant ∷ release_of note ∷ access_of note ∷ []
