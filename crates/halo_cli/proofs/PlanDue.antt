-- What is told brings `plan` to one ending, and what was read brings it there.
use Rattle.std.proofs.Common.{◌≡◌, ℕ, inl, inr, codes, List, Some, subst}
use Rattle.halo_outside.specs.Seen.{Contents, contents_of, FilesSeen, IsToldAt}
use Rattle.endings.specs.declared.endings.Ending.{Ending}
use Rattle.endings.specs.declared.endings.Ending.TheVariants.{Done, ReadFault, Exited, Usage, Profile as BadProfile}
use Rattle.endings.specs.declared.endings.BadProfile.TheVariants.{TooLong}
use Rattle.halo_words.specs.Grammar.{operand_in}
use Rattle.halo_cli.specs.Reads.{profile_limit}
use Rattle.halo_cli.specs.Options.{Policies}
use Rattle.halo_cli.specs.Plan.{ProfileComes, PlanComes, PlanBrings, PlanWrites, plan_reads, plan_entry}
use Rattle.halo_cli.proofs.CommandLaws.{Laws, text_laws}
use Rattle.halo_cli.proofs.ReadsDue.{operand_once, told_operand, not_read_comes, lacks_operand, IsDecided, decided_as}

-- a profile's text brings `plan` to one ending
abbrev pub ProfilesOnce : Type 0
ProfilesOnce = (text : List ℕ) (a b : Ending) → ProfileComes text a → ProfileComes text b → a ≡ b

decided_profile : (text : List ℕ) (ending : Ending) → ProfileComes text ending → IsDecided ending
decided_profile text ending (inl (n, is, bad)) = decided_as ending _ is tt
decided_profile text ending (inr (profile, is, spells)) = decided_as ending Done is tt

pub plan_told : (name : List ℕ) (contents : Contents) (before now : FilesSeen) (brought : Ending)
    → before.told ≡ Some contents → PlanBrings name before now brought → PlanComes name contents brought
plan_told name contents before now brought told (inl none) =
    not_read_comes profile_limit (BadProfile TooLong) ProfileComes contents name before now brought told none
plan_told name contents before now brought told (inr (text, read, comes)) =
    told_operand profile_limit (BadProfile TooLong) ProfileComes contents name text brought
    (subst (λ seen. IsToldAt seen name text) told read.told) read.within comes

-- no program runs
pub plan_never_exits : (name : List ℕ) (before now : FilesSeen) (exit steps : ℕ)
    → PlanBrings name before now (Exited exit steps) → ⊥
plan_never_exits name before now exit steps (inl (inl (is, lacks))) = cc
plan_never_exits name before now exit steps (inl (inr (is, long))) = cc
plan_never_exits name before now exit steps (inr (text, read, comes)) = decided_profile text (Exited exit steps) comes

-- and the words are a line
pub plan_never_usage : (name : List ℕ) (before now : FilesSeen) (place : ℕ) → PlanBrings name before now (Usage place)
    → ⊥
plan_never_usage name before now place (inl (inl (is, lacks))) = cc
plan_never_usage name before now place (inl (inr (is, long))) = cc
plan_never_usage name before now place (inr (text, read, comes)) = decided_profile text (Usage place) comes

-- only told contents lack the profile
pub plan_lacks : (name : List ℕ) (before now : FilesSeen) → PlanBrings name before now ReadFault
    → (contents : Contents) × (before.told ≡ Some contents) × PlanComes name contents ReadFault
plan_lacks name before now (inl (inl (is, lacks))) =
    lacks_operand profile_limit (BadProfile TooLong) ProfileComes before.told name lacks
plan_lacks name before now (inl (inr (is, long))) = absurd (cc)
plan_lacks name before now (inr (text, read, comes)) = absurd (decided_profile text ReadFault comes)

pub plan_laws : ProfilesOnce → (policies : Policies) → Laws (plan_entry policies)
plan_laws once policies = text_laws (codes "plan")
    (λ given. plan_reads (operand_in given 0))
    (λ given. PlanComes (operand_in given 0))
    (λ given. PlanBrings (operand_in given 0))
    (PlanWrites policies)
    (λ given contents a b. operand_once profile_limit (BadProfile TooLong) ProfileComes once
    (contents_of contents (operand_in given 0)) a b)
    (λ given contents before now ending told brings. plan_told
    (operand_in given 0) contents before now ending told brings)
    (λ given before now brings. plan_lacks (operand_in given 0) before now brings)
    (λ given before now exit steps brings. plan_never_exits (operand_in given 0) before now exit steps brings)
