-- One line taken into the profile read so far.
use Rattle.std.specs.Prelude.{◌≡◌, ℕ, ◌-◌, ◌==◌, ◌&&◌, ◌||◌, nat_lt, nat_le, if◌then◌else◌, List, [], ◌∷◌, ◌++◌, length}
use Rattle.std.specs.Prelude.{slice_get, Option, Some, None, Bool, true}
use Rattle.plan_core.specs.declared.profiles.Edge.{Edge}
use Rattle.plan_core.specs.declared.profiles.Profile.{Profile}
use Rattle.profile_text.specs.declared.lines.ContextLine.{ContextLine}
use Rattle.profile_text.specs.declared.lines.TextLine.{TextLine}
use Rattle.profile_text.specs.declared.lines.TextLine.TheVariants.{Head, Distance, Granted, Joined, End}
use Rattle.profile_text.specs.declared.steps.Stage.{Stage}
use Rattle.profile_text.specs.declared.steps.Stage.TheVariants.{Start, Headed, Contexts, Edges, Ended}
use Rattle.profile_text.specs.declared.refusals.ProfileRefusal.{ProfileRefusal}
use Rattle.profile_text.specs.declared.refusals.ProfileRefusal.TheVariants.{Line, Memory}
use Rattle.profile_text.specs.Distinct.{are_distinct}

-- the profile before any line
abbrev pub blank_profile : Profile
blank_profile = record { distance = 0; contexts = []; graph = record { nodes = []; edges = [] } }

-- whether the ends of one edge come before those of another
abbrev pub ends_before : Edge → Edge → Bool
ends_before e f = nat_lt e.low f.low || ((e.low == f.low) && nat_lt e.high f.high)

-- an edge comes behind the last one, if there is one
abbrev pub is_behind : Option Edge → Edge → Bool
is_behind None e = true
is_behind (Some last) e = ends_before last e

-- the ends of an edge come behind those of the last of some edges
abbrev pub comes_behind : List Edge → Edge → Bool
comes_behind edges e = is_behind (slice_get edges (length edges - 1)) e

-- an edge may come next
abbrev pub joins_next : Edge → Profile → Bool
joins_next e p = nat_le e.low e.high && nat_lt e.high (length p.contexts) && nat_le 1 e.weight
    && comes_behind p.graph.edges e

-- a context may come next: its number counts on, and its addresses are distinct
abbrev pub comes_next : ContextLine → Profile → Bool
comes_next c p = (c.number == length p.contexts) && are_distinct c.addrs

-- the stage after a line, or none where the line may not come
abbrev pub admits : Stage → Profile → TextLine → Option Stage
admits Start p Head = Some Headed
admits Headed p (Distance d) = Some Contexts
admits Contexts p (Granted c) = if comes_next c p then Some Contexts else None
admits Contexts p (Joined e) = if joins_next e p then Some Edges else None
admits Contexts p End = Some Ended
admits Edges p (Joined e) = if joins_next e p then Some Edges else None
admits Edges p End = Some Ended
admits _ _ _ = None

-- the profile with what a line adds
abbrev pub added : TextLine → Profile → Profile
added (Distance d) p = record p { distance = d }
added (Granted c) p = record p {
  contexts = p.contexts ++ (c.addrs ∷ []);
  graph = record p.graph { nodes = p.graph.nodes ++ (record { grants = c.grants; accesses = c.accesses } ∷ []) };
}
added (Joined e) p = record p { graph = record p.graph { edges = p.graph.edges ++ (e ∷ []) } }
added _ p = p

-- a line was found, may come and was added
abbrev pub WentOn : Option (TextLine × List ℕ) → Stage → Profile → Stage → List ℕ → Profile → Type 0
WentOn None stage old next rest new = ⊥
WentOn (Some found) stage old next rest new = (admits stage old found.0 ≡ Some next) × (rest ≡ found.1)
    × (new ≡ added found.0 old)

-- no line was found, or it may not come
abbrev pub Blocked : Option (TextLine × List ℕ) → Stage → Profile → Type 0
Blocked None stage old = Unit {0}
Blocked (Some found) stage old = admits stage old found.0 ≡ None

-- why no line was taken; want of memory may always come
abbrev pub Stopped : Option (TextLine × List ℕ) → Stage → Profile → ℕ → ProfileRefusal → Type 0
Stopped found stage old number (Line n) = (n ≡ number) × Blocked found stage old
Stopped found stage old number Memory = Unit {0}
