-- `optimise [OPTION].. FILE`: what it writes.
use Rattle.std.specs.Prelude.{◌≡◌, ℕ, ℤ, List, Some, codes}
use Rattle.plan_core.specs.declared.profiles.Profile.{Profile}
use Rattle.plan_core.specs.declared.types.Plan.{Plan}
use Rattle.group_policy.specs.declared.cut.Cut.{Cut}
use Rattle.rewriter.specs.Rewrites.{IsRewritten}
use Rattle.plan_making.specs.Plans.{IsPlanOf}
use Rattle.halo_words.specs.Grammar.{Given}
use Rattle.halo_cli.specs.Options.{Policies, area_in, options_in, policy_in, place_named}
use Rattle.halo_cli.specs.Profiling.{profiling_entry}
use Rattle.halo_cli.specs.Entry.{Entry}

-- the new file is the file, rewritten by a plan of its profile as a rule answers, with the area of the options
abbrev pub IsOptimised : (Cut → ℤ → Type 0) → Given → List ℕ → Profile → List ℕ → Type 0
IsOptimised answers given file profile new =
    (plan : Plan) × IsPlanOf answers profile (area_in given) (options_in given) plan × IsRewritten file plan new

-- the same by the policy of the options
abbrev pub OptimiseWrites : Policies → Given → List ℕ → Profile → List ℕ → Type 0
OptimiseWrites policies given file profile new = (k : ℕ) × (place_named policies.names (policy_in given) ≡ Some k)
    × IsOptimised (policies.answers k) given file profile new

-- the command, which profiles the run of its file
abbrev pub optimise_entry : Policies → Entry
optimise_entry policies = profiling_entry (codes "optimise") (OptimiseWrites policies)
