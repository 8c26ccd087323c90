-- One line taken into the plan read so far.
use Rattle.std.specs.Prelude.{◌≡◌, ℕ, nat_le, List, [], ◌∷◌, ◌++◌, length, Option, Some, None, Bool, true, false}
use Rattle.plan_core.specs.declared.types.Plan.{Plan}
use Rattle.plan_core.specs.declared.lines.TextLine.{TextLine}
use Rattle.plan_core.specs.declared.lines.TextLine.TheVariants.{Head, Size, Site, Mask, End}
use Rattle.plan_core.specs.declared.steps.Stage.{Stage}
use Rattle.plan_core.specs.declared.steps.Stage.TheVariants.{Start, Headed, Sites, Rows, Ended}
use Rattle.plan_core.specs.declared.refusals.PlanRefusal.{PlanRefusal}
use Rattle.plan_core.specs.declared.refusals.PlanRefusal.TheVariants.{Line, TooMany, Memory}

-- the plan before any line
abbrev pub blank_plan : Plan
blank_plan = record { sites = []; rows = []; area = record { chunks = 0; log_chunk = 0; fallback = 0 } }

-- the stage after a line, or none where the line may not come
abbrev pub moves : Stage → TextLine → Option Stage
moves Start Head = Some Headed
moves Headed (Size _) = Some Sites
moves Sites (Site _) = Some Sites
moves Sites (Mask _) = Some Rows
moves Sites End = Some Ended
moves Rows (Mask _) = Some Rows
moves Rows End = Some Ended
moves _ _ = None

-- whether a line adds one site or one row too many
abbrev pub is_full : TextLine → Plan → Bool
is_full (Site _) p = nat_le 32 (length p.sites)
is_full (Mask _) p = nat_le 64 (length p.rows)
is_full _ p = false

-- the plan with what a line adds
abbrev pub added : TextLine → Plan → Plan
added (Size a) p = record p { area = a }
added (Site s) p = record p { sites = p.sites ++ (s ∷ []) }
added (Mask r) p = record p { rows = p.rows ++ (r ∷ []) }
added _ p = p

-- a line was found, may come, has room and was added
abbrev pub WentOn : Option (TextLine × List ℕ) → Stage → Plan → Stage → List ℕ → Plan → Type 0
WentOn None stage old next rest new = ⊥
WentOn (Some found) stage old next rest new =
    (moves stage found.0 ≡ Some next) × (is_full found.0 old ≡ false) × (rest ≡ found.1) × (new ≡ added found.0 old)

-- why a line that was found is refused
abbrev pub StoppedAt : Option Stage → Bool → ℕ → PlanRefusal → Type 0
StoppedAt None full number e = e ≡ Line number
StoppedAt (Some next) true number e = e ≡ TooMany number
StoppedAt (Some next) false number e = e ≡ Memory

-- no line was found, or it is refused
abbrev pub Stopped : Option (TextLine × List ℕ) → Stage → Plan → ℕ → PlanRefusal → Type 0
Stopped None stage old number e = e ≡ Line number
Stopped (Some found) stage old number e = StoppedAt (moves stage found.0) (is_full found.0 old) number e
