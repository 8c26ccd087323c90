-- A plan and a file, which a command reads in this order: the bytes that were read, what they come to, and the reads.
use Rattle.std.specs.Prelude.{◌≡◌, ℕ, ◌⊎◌, nat_lt, List, [], ◌∷◌, length, Option, None, Some, MatchOption}
use Rattle.std.specs.Bool.{MatchBool}
use Rattle.halo_outside.specs.Seen.{Contents, contents_of, FilesSeen, IsTooLong, Lacks}
use Rattle.plan_core.specs.declared.types.Plan as types
use Rattle.plan_core.specs.declared.refusals.PlanRefusal.TheVariants.{Line, TooMany}
use Rattle.plan_core.specs.Plan.{IsPlan, plan_text}
use Rattle.plan_core.specs.Grammar.{FirstBad, FirstOver}
use Rattle.rewriter.specs.declared.refusal.RewriteRefusal.{RewriteRefusal}
use Rattle.rewriter.specs.declared.refusal.RewriteRefusal.TheVariants as refusal
use Rattle.rewriter.specs.Rewrites.{rewrite_refusal}
use Rattle.endings.specs.declared.endings.Ending.{Ending}
use Rattle.endings.specs.declared.endings.Ending.TheVariants.{File, Plan, ReadFault, Memory}
use Rattle.endings.specs.declared.endings.BadFile.TheVariants as bad_file
use Rattle.endings.specs.declared.endings.BadPlan.TheVariants as bad_plan
use Rattle.halo_cli.specs.Reads.{plan_limit, file_limit, FileComes, FileRead, IsNoFile, IsRead}

-- the text is that of this plan, which has no more sites and rows than are taken
abbrev pub IsTextOf : List ℕ → types.Plan → Type 0
IsTextOf text plan = IsPlan plan × (text ≡ plan_text plan)

-- the ending of a file and a plan that are refused, which is never for want of memory
abbrev pub refused_ending : RewriteRefusal → Ending
refused_ending (refusal.File why) = File (bad_file.Refused why)
refused_ending (refusal.Plan why) = Plan (bad_plan.Misfit why)
refused_ending refusal.Memory = Memory

-- the ending of a file and a plan: the first check that the file fails refuses them, then the first that the plan
-- fails; where the plan fits, what follows decides
abbrev pub FitComes : List ℕ → (types.Plan → Ending → Type 0) → types.Plan → Ending → Type 0
FitComes file Follows plan ending =
    MatchOption (rewrite_refusal file plan) (Follows plan ending) (λ why. ending ≡ refused_ending why)

-- the ending of a plan's text and a file within their limits: the text is looked at first, up to the
-- lowest line that isn't admitted or is one too many, and then the file and the plan of the text
abbrev pub TextComes : (types.Plan → Ending → Type 0) → List ℕ → List ℕ → Ending → Type 0
TextComes Follows text file ending = ((n : ℕ) × (ending ≡ Plan (bad_plan.Text (Line n))) × FirstBad text n)
    ⊎ ((n : ℕ) × (ending ≡ Plan (bad_plan.Text (TooMany n))) × FirstOver text n)
    ⊎ ((plan : types.Plan) × IsTextOf text plan × FitComes file Follows plan ending)

-- to which ending the plan and the file come, in the order of the reads, where their bytes decide so
abbrev pub BothCome : (List ℕ → List ℕ → Ending → Type 0) → Option (List ℕ) → Option (List ℕ) → Ending → Type 0
BothCome Decide None file ending = ending ≡ ReadFault
BothCome Decide (Some text) file ending =
    MatchBool (nat_lt plan_limit (length text)) (ending ≡ Plan bad_plan.TooLong)
    (FileComes file_limit file (Decide text) ending)

-- to which ending told contents bring the command
abbrev pub ContentsCome : (List ℕ → List ℕ → Ending → Type 0) → List ℕ → List ℕ → Contents → Ending → Type 0
ContentsCome Decide plan_name file_name contents ending =
    BothCome Decide (contents_of contents plan_name) (contents_of contents file_name) ending

-- the ending of the command where its plan is lacking or longer than its limit
abbrev pub IsNoPlan : List ℕ → FilesSeen → FilesSeen → Ending → Type 0
IsNoPlan name before now ending = ((ending ≡ ReadFault) × Lacks before.told name)
    ⊎ ((ending ≡ Plan bad_plan.TooLong) × IsTooLong before.told name plan_limit before.taken now.taken)

-- the plan's text was read first
pub record IsPlanRead (name : List ℕ) (before between : FilesSeen) (text : List ℕ) : Type 0 where
  pub read : IsRead name plan_limit before between text
  pub told : between.told ≡ before.told

-- the plan's text and then the file were read
abbrev pub AreRead : List ℕ → List ℕ → FilesSeen → FilesSeen → List ℕ → List ℕ → Type 0
AreRead plan_name file_name before now text file =
    (between : FilesSeen) × IsPlanRead plan_name before between text × IsRead file_name file_limit between now file

-- to which ending what was read brings the command
abbrev pub BothBring : (List ℕ → List ℕ → Ending → Type 0) → List ℕ → List ℕ → FilesSeen → FilesSeen → Ending → Type 0
BothBring Decide plan_name file_name before now ending = IsNoPlan plan_name before now ending
    ⊎ ((between : FilesSeen) × (text : List ℕ)
    × IsPlanRead plan_name before between text × IsNoFile file_name file_limit between now ending)
    ⊎ ((text : List ℕ) × (file : List ℕ)
    × AreRead plan_name file_name before now text file × Decide text file ending)

-- the plan is read first
abbrev pub both_reads : List ℕ → List ℕ → List FileRead
both_reads plan_name file_name =
    record { name = plan_name; limit = plan_limit; long = Plan bad_plan.TooLong }
    ∷ record { name = file_name; limit = file_limit; long = File bad_file.TooLong } ∷ []
