-- `plan PROFILE`: to which ending the profile brings it, and what it writes.
use Rattle.std.specs.Prelude.{◌≡◌, ℕ, ◌⊎◌, ℤ, List, [], ◌∷◌, Some, codes}
use Rattle.halo_outside.specs.Seen.{Contents, contents_of, FilesSeen}
use Rattle.plan_core.specs.declared.profiles.Profile.{Profile}
use Rattle.plan_core.specs.declared.types.Area.{Area}
use Rattle.plan_core.specs.declared.types.Plan.{Plan}
use Rattle.plan_core.specs.Plan.{plan_text}
use Rattle.profile_text.specs.declared.refusals.ProfileRefusal.TheVariants.{Line}
use Rattle.profile_text.specs.Profile.{IsProfile, profile_text}
use Rattle.profile_text.specs.Grammar.{FirstBad}
use Rattle.group_policy.specs.declared.cut.Cut.{Cut}
use Rattle.grouping.specs.declared.making.Options.{Options}
use Rattle.plan_making.specs.Plans.{IsPlanOf}
use Rattle.endings.specs.declared.endings.Ending.{Ending}
use Rattle.endings.specs.declared.endings.Ending.TheVariants.{Done, Profile as BadProfile}
use Rattle.endings.specs.declared.endings.BadProfile.TheVariants.{TooLong, Text}
use Rattle.halo_words.specs.Grammar.{Given, operand_in}
use Rattle.halo_cli.specs.Reads.{profile_limit, OperandComes, FileRead, IsRead, IsNotRead}
use Rattle.halo_cli.specs.Options.{Policies, area_in, options_in, policy_in, place_named}
use Rattle.halo_cli.specs.Entry.{Entry, text_entry}

-- the text is that of this profile
abbrev pub IsTextOf : List ℕ → Profile → Type 0
IsTextOf text profile = IsProfile profile × (text ≡ profile_text profile)

-- the ending of a profile's text within its limit: by the first line that isn't admitted, or the plan is made
abbrev pub ProfileComes : List ℕ → Ending → Type 0
ProfileComes text ending = ((n : ℕ) × (ending ≡ BadProfile (Text (Line n))) × FirstBad text n)
    ⊎ ((profile : Profile) × (ending ≡ Done) × IsTextOf text profile)

-- to which ending told contents bring the command
abbrev pub PlanComes : List ℕ → Contents → Ending → Type 0
PlanComes name contents ending =
    OperandComes profile_limit (BadProfile TooLong) (contents_of contents name) ProfileComes ending

-- to which ending what was read brings the command
abbrev pub PlanBrings : List ℕ → FilesSeen → FilesSeen → Ending → Type 0
PlanBrings name before now ending = IsNotRead name profile_limit (BadProfile TooLong) before now ending
    ⊎ ((text : List ℕ) × IsRead name profile_limit before now text × ProfileComes text ending)

-- the plan's text is that of a plan of the profile of this text, as a rule answers
abbrev pub Plans : (Cut → ℤ → Type 0) → Area → Options → List ℕ → List ℕ → Type 0
Plans answers area options text plan_bytes = (profile : Profile) × (plan : Plan)
    × IsTextOf text profile × IsPlanOf answers profile area options plan × (plan_bytes ≡ plan_text plan)

-- what is written where a profile of this name was read
abbrev pub PlanWritten : (Cut → ℤ → Type 0) → Area → Options → List ℕ → FilesSeen → FilesSeen → List ℕ → Type 0
PlanWritten answers area options name before now plan_bytes =
    (text : List ℕ) × IsRead name profile_limit before now text × Plans answers area options text plan_bytes

-- what the command writes: the text of a plan of the profile that was read, with the area and the policy of the options
abbrev pub PlanWrites : Policies → Given → FilesSeen → FilesSeen → List ℕ → Type 0
PlanWrites policies given before now plan_bytes = (k : ℕ)
    × (place_named policies.names (policy_in given) ≡ Some k)
    × PlanWritten (policies.answers k) (area_in given) (options_in given) (operand_in given 0) before now plan_bytes

abbrev pub plan_reads : List ℕ → List FileRead
plan_reads name = record { name = name; limit = profile_limit; long = BadProfile TooLong } ∷ []

-- the command, with the profile as its operand
abbrev pub plan_entry : Policies → Entry
plan_entry policies = text_entry (codes "plan")
    (λ given. plan_reads (operand_in given 0))
    (λ given. PlanComes (operand_in given 0))
    (λ given. PlanBrings (operand_in given 0))
    (PlanWrites policies)
