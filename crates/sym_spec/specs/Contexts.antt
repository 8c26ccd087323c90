-- The shadow stack of a run, and the contexts of its grants: the sites that were called and not yet left,
-- and which of them tell a grant from another.
use Rattle.std.specs.Prelude.{ℕ, ◌==◌, ◌&&◌, not, if◌then◌else◌, Bool, List, [], ◌∷◌, ◌++◌, Option, Some, None, filter}
use Rattle.std.specs.Prelude.{map}
use Rattle.std.specs.List.{list_any}
use Rattle.site_spec.specs.declared.Site.{Site}
use Rattle.site_spec.specs.Sites.{site_at}
use Rattle.sym_spec.specs.declared.StepNote.{StepNote}

-- a site's call comes back to an address
abbrev pub comes_back_to : ℕ → Site → Bool
comes_back_to a s = s.back == a

-- the stack without its last site that comes back to an address, and without all sites behind it; the whole
-- stack where there is none
abbrev pub cut : ℕ → List Site → List Site
cut a [] = []
cut a (s ∷ ss) =
    if comes_back_to a s && not (list_any (comes_back_to a) ss) then [] else s ∷ cut a ss

-- the stack with the site that a step called
abbrev pub pushed : Option Site → List Site → List Site
pushed (Some s) stack = stack ++ s ∷ []
pushed None stack = stack

-- the stack after a step went back through a return address
abbrev pub left_by : Option ℕ → List Site → List Site
left_by (Some a) stack = cut a stack
left_by None stack = stack

-- the site of an address, in a file
abbrev pub called : List ℕ → Option ℕ → Option Site
called file (Some a) = site_at file a
called file None = None

-- the shadow stack after a step
abbrev pub stack_after : List ℕ → StepNote → List Site → List Site
stack_after file note stack = left_by note.back (pushed (called file note.call) stack)

-- of equal numbers only the last is kept
abbrev pub last_of_equal : List ℕ → List ℕ
last_of_equal [] = []
last_of_equal (n ∷ ns) = if list_any (λ m. m == n) ns then last_of_equal ns else n ∷ last_of_equal ns

abbrev pub is_near : Site → Bool
is_near s = s.near

abbrev pub addr_of : Site → ℕ
addr_of s = s.addr

-- the context of a grant: the near sites of the stack, from outermost to innermost, of equal ones the last
abbrev pub context_of : List Site → List ℕ
context_of stack = last_of_equal (map addr_of (filter is_near stack))
