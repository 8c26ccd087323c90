-- By what a profile's text is: that of one profile, or one with a first wrong line.
use Rattle.std.proofs.Common.{◌≡◌, ◌∙◌, ℕ, inl, inr, List, sym, subst}
use Rattle.plan_core.specs.declared.profiles.Profile.{Profile as Value}
use Rattle.profile_text.specs.Profile.{IsProfile, profile_text}
use Rattle.profile_text.specs.Grammar.{FirstBad}
use Rattle.endings.specs.declared.endings.Ending.{Ending}
use Rattle.halo_cli.specs.Plan.{ProfileComes}
use Rattle.halo_cli.proofs.laws.profiles_come_to_one_ending.Goals as goal

module _ (one_bad : (text : List ℕ) (n m : ℕ) → FirstBad text n → FirstBad text m → n ≡ m)
    (not_bad : (p : Value) (n : ℕ) → IsProfile p → FirstBad (profile_text p) n → ⊥) where
  -- the text of a profile has no wrong line
  is_good : (text : List ℕ) (p : Value) (n : ℕ) → IsProfile p → text ≡ profile_text p → FirstBad text n → ⊥
  is_good text p n fits is bad = not_bad p n fits (subst (λ t. FirstBad t n) is bad)

  once : (text : List ℕ) (a b : Ending) → ProfileComes text a → ProfileComes text b → a ≡ b
  once text a b (inl (n, is, bad)) (inl (m, is', bad')) = let same : n ≡ m = one_bad text n m bad bad' in cc
  once text a b (inl (n, is, bad)) (inr (p, is', of)) = absurd (is_good text p n of.0 of.1 bad)
  once text a b (inr (p, is, of)) (inl (n, is', bad)) = absurd (is_good text p n of.0 of.1 bad)
  once text a b (inr (p, is, of)) (inr (q, is', of')) = is ∙ sym is'

pub returns : goal.returns
returns c =
    let law = c.a_profile_text_has_one_answer.ensures in
    once law.line law.profile_not_line
