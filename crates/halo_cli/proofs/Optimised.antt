-- What a policy made is what the policy at its place in a list makes.
use Rattle.std.proofs.Common.{◌≡◌, ℕ, ℤ, List, Option, Some, inl, inr, sym, subst}
use Rattle.std.specs.Prelude.{IfSome}
use Rattle.halo_outside.specs.Seen.{SinkSeen}
use Rattle.plan_core.specs.declared.profiles.Profile.{Profile}
use Rattle.group_policy.specs.declared.cut.Cut.{Cut}
use Rattle.endings.specs.declared.endings.Ending.{Ending}
use Rattle.halo_words.specs.Grammar.{Given}
use Rattle.halo_cli.specs.Writing.{WritesOrLacks}
use Rattle.halo_cli.specs.Options.{Policies, policy_in, place_named}
use Rattle.halo_cli.specs.Optimise.{IsOptimised, OptimiseWrites}

-- a text that is due in one way is due in another
pub writes_as : (Text Other : List ℕ → Type 0) → ((text : List ℕ) → Text text → Other text)
    → (before now : SinkSeen) (ending : Ending) → WritesOrLacks Text before now ending
    → WritesOrLacks Other before now ending
writes_as Text Other other before now ending (inl lacks) = inl lacks
writes_as Text Other other before now ending (inr (text, is, wrote)) = inr (text, other text is, wrote)

module _ {P : Type 0} (answers : P → Cut → ℤ → Type 0) (found : Option P) (policy : P) (is : found ≡ Some policy) where
  optimised_at : (given : Given) (file : List ℕ) (profile : Profile) (new : List ℕ)
      → IsOptimised (answers policy) given file profile new
      → IsOptimised (λ cut answer. IfSome found (λ p. answers p cut answer)) given file profile new
  optimised_at given file profile new made =
      subst (λ (o : Option P). IsOptimised (λ cut answer. IfSome o (λ p. answers p cut answer)) given file profile new)
      (sym is) made

-- the text that a policy made is the one that is due, where the policy is the one of the line
pub wrote_at : {P : Type 0} (answers : P → Cut → ℤ → Type 0) (policies : Policies) (policy : P) (found : Option P)
    (k : ℕ) → found ≡ Some policy
    → policies.answers k ≡ (λ cut answer. IfSome found (λ p. answers p cut answer))
    → (given : Given) → place_named policies.names (policy_in given) ≡ Some k
    → (file : List ℕ) (profile : Profile) (before now : SinkSeen) (ending : Ending)
    → WritesOrLacks (IsOptimised (answers policy) given file profile) before now ending
    → WritesOrLacks (OptimiseWrites policies given file profile) before now ending
wrote_at answers policies policy found k is same given place file profile before now ending wrote =
    writes_as (IsOptimised (answers policy) given file profile) (OptimiseWrites policies given file profile)
    (λ text made. (
      k,
      place,
      subst (λ rule. IsOptimised rule given file profile text) (sym same)
          (optimised_at answers found policy is given file profile text made),
    )) before now ending wrote
