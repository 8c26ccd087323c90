-- One grant more in the notes of grants.
use Rattle.std.specs.Prelude.{ℕ, ◌==◌, nat_le, if◌then◌else◌, Bool, true, List, [], ◌∷◌, ◌++◌, length, slice_set}
use Rattle.std.specs.Prelude.{slice_index_or, Option, Some, None}
use Rattle.affinity.specs.declared.grants.GrantNote.{GrantNote}

-- a grant is the last of its context
abbrev pub with_last : ℕ → ℕ → List ℕ → List ℕ
with_last context number lasts =
    if context == length lasts then lasts ++ (number ∷ []) else slice_set lasts context number

-- a note that says nothing
abbrev pub no_note : GrantNote
no_note = record { context = 0; before = None; next = None }

-- a note, with the next grant of its context
abbrev pub with_next : ℕ → GrantNote → GrantNote
with_next number note = record note { next = Some number }

-- the notes, with a new grant as the next one of the grant before it
abbrev pub linked : Option ℕ → ℕ → List GrantNote → List GrantNote
linked None number notes = notes
linked (Some before) number notes = slice_set notes before (with_next number (slice_index_or notes before no_note))

-- the number is none or at least the bound
abbrev pub none_or_from : Option ℕ → ℕ → Bool
none_or_from None bound = true
none_or_from (Some number) bound = nat_le bound number

-- the number is none or at most the bound
abbrev pub none_or_to : Option ℕ → ℕ → Bool
none_or_to None bound = true
none_or_to (Some number) bound = nat_le number bound
