-- What is told of a plan and a file brings a command to one ending, and what was read of them brings it there.
use Rattle.std.proofs.Common.{◌≡◌, ◌∙◌, ℕ, ◌<◌, ◌≤◌, ◌⊎◌, inl, inr, ⊎_elim, Bool, true, nat_lt, List, length, Option}
use Rattle.std.proofs.Common.{None, Some, MatchOption, refl, sym, subst, arith}
use Rattle.std.specs.Bool.{MatchBool}
use Rattle.std.specs.Prelude.{IsSomeAnd}
use Rattle.std.proofs.lemmas.Bool.Decides.{nat_tests}
use Rattle.halo_outside.specs.Seen.{Contents, contents_of, FilesSeen, IsToldAt, IsTooLong, Lacks}
use Rattle.plan_core.specs.declared.types.Plan.{Plan as Value}
use Rattle.plan_core.specs.declared.refusals.PlanRefusal.TheVariants.{Line, TooMany}
use Rattle.plan_core.specs.Plan.{IsPlan, plan_text}
use Rattle.plan_core.specs.Grammar.{FirstBad, FirstOver}
use Rattle.rewriter.specs.declared.refusal.RewriteRefusal.{RewriteRefusal}
use Rattle.rewriter.specs.declared.refusal.RewriteRefusal.TheVariants as refusal
use Rattle.rewriter.specs.Rewrites.{rewrite_refusal}
use Rattle.endings.specs.declared.endings.Ending.{Ending}
use Rattle.endings.specs.declared.endings.Ending.TheVariants.{File, Plan, ReadFault, Memory}
use Rattle.endings.specs.declared.endings.BadFile.{BadFile}
use Rattle.endings.specs.declared.endings.BadFile.TheVariants as bad_file
use Rattle.endings.specs.declared.endings.BadPlan.{BadPlan}
use Rattle.endings.specs.declared.endings.BadPlan.TheVariants.{TooLong, Text, Misfit}
use Rattle.halo_cli.specs.Reads.{plan_limit, file_limit, FileComes, IsNoFile, HasReadCause}
use Rattle.halo_cli.specs.PlanAndFile.{IsTextOf, refused_ending, FitComes, TextComes, BothCome, ContentsCome, IsNoPlan}
use Rattle.halo_cli.specs.PlanAndFile.{AreRead, BothBring}
use Rattle.halo_cli.proofs.ReadsDue.{has_cause, cause_weaker, limit_once, within, of_within, file_once, no_file_comes}
use Rattle.halo_cli.proofs.ReadsDue.{told_comes, of_told_comes}

-- a plan's text is that of one plan, or has one first line that is wrong or one too many
pub record TextsOnce : Type 0 where
  pub plan : (p q : Value) → IsPlan p → IsPlan q → plan_text p ≡ plan_text q → p ≡ q
  pub line : (text : List ℕ) (n m : ℕ) → FirstBad text n → FirstBad text m → n ≡ m
  pub too_many : (text : List ℕ) (n m : ℕ) → FirstOver text n → FirstOver text m → n ≡ m
  pub line_alone : (text : List ℕ) (n m : ℕ) → FirstBad text n → FirstOver text m → ⊥
  pub plan_not_line : (p : Value) (n : ℕ) → IsPlan p → FirstBad (plan_text p) n → ⊥
  pub plan_not_too_many : (p : Value) (n : ℕ) → IsPlan p → FirstOver (plan_text p) n → ⊥

module _ (texts : TextsOnce) where
  -- the text of a plan has no wrong line, and no line too many
  is_good : (text : List ℕ) (plan : Value) (n : ℕ) → IsTextOf text plan → FirstBad text n → ⊥
  is_good text plan n of bad = texts.plan_not_line plan n of.0 (subst (λ t. FirstBad t n) of.1 bad)

  is_short : (text : List ℕ) (plan : Value) (n : ℕ) → IsTextOf text plan → FirstOver text n → ⊥
  is_short text plan n of over = texts.plan_not_too_many plan n of.0 (subst (λ t. FirstOver t n) of.1 over)

  same_plan : (text : List ℕ) (p q : Value) → IsTextOf text p → IsTextOf text q → p ≡ q
  same_plan text p q of of' = texts.plan p q of.0 of'.0 (sym of.1 ∙ of'.1)

  fit_once : (found : Option RewriteRefusal) (Follows : Ending → Type 0)
      → ((a b : Ending) → Follows a → Follows b → a ≡ b) → (a b : Ending)
      → MatchOption found (Follows a) (λ why. a ≡ refused_ending why)
      → MatchOption found (Follows b) (λ why. b ≡ refused_ending why) → a ≡ b
  fit_once None Follows once a b at_a at_b = once a b at_a at_b
  fit_once (Some why) Follows once a b at_a at_b = at_a ∙ sym at_b

  -- a plan's text and a file come to one ending, where what follows does
  pub text_once : (Follows : Value → Ending → Type 0)
      → ((plan : Value) (a b : Ending) → Follows plan a → Follows plan b → a ≡ b)
      → (text file : List ℕ) (a b : Ending) → TextComes Follows text file a → TextComes Follows text file b → a ≡ b
  text_once Follows once text file a b (inl (n, is, bad)) (inl (m, is', bad')) =
      let same : n ≡ m = texts.line text n m bad bad' in cc
  text_once Follows once text file a b (inl (n, is, bad)) (inr (inl (m, is', over))) =
      absurd (texts.line_alone text n m bad over)
  text_once Follows once text file a b (inl (n, is, bad)) (inr (inr (plan, of, fit))) =
      absurd (is_good text plan n of bad)
  text_once Follows once text file a b (inr (inl (n, is, over))) (inl (m, is', bad)) =
      absurd (texts.line_alone text m n bad over)
  text_once Follows once text file a b (inr (inl (n, is, over))) (inr (inl (m, is', over'))) =
      let same : n ≡ m = texts.too_many text n m over over' in cc
  text_once Follows once text file a b (inr (inl (n, is, over))) (inr (inr (plan, of, fit))) =
      absurd (is_short text plan n of over)
  text_once Follows once text file a b (inr (inr (plan, of, fit))) (inl (n, is, bad)) =
      absurd (is_good text plan n of bad)
  text_once Follows once text file a b (inr (inr (plan, of, fit))) (inr (inl (n, is, over))) =
      absurd (is_short text plan n of over)
  text_once Follows once text file a b (inr (inr (p, of, fit))) (inr (inr (q, of', fit'))) =
      fit_once (rewrite_refusal file p) (Follows p) (once p) a b fit
      (subst (λ r. FitComes file Follows r b) (sym (same_plan text p q of of')) fit')

  -- the ending of a text and a file is what follows, where the text is that of a plan that fits
  pub text_follows : (Follows : Value → Ending → Type 0) (text file : List ℕ) (plan : Value) (ending : Ending)
      → IsTextOf text plan → rewrite_refusal file plan ≡ None → TextComes Follows text file ending
      → Follows plan ending
  text_follows Follows text file plan ending of none (inl (n, is, bad)) = absurd (is_good text plan n of bad)
  text_follows Follows text file plan ending of none (inr (inl (n, is, over))) = absurd (is_short text plan n of over)
  text_follows Follows text file plan ending of none (inr (inr (p, of', fit))) =
      subst (λ (found : Option RewriteRefusal). MatchOption found (Follows plan ending)
      (λ why. ending ≡ refused_ending why)) none
      (subst (λ r. FitComes file Follows r ending) (same_plan text p plan of' of) fit)

  -- what follows by the one of two meanings follows by the other, where that is due
  pub text_known : (Follows Known : Value → Ending → Type 0) (text file : List ℕ) (due brought : Ending)
      → ((plan : Value) → Follows plan due → Known plan brought → Follows plan brought)
      → TextComes Follows text file due → TextComes Known text file brought → TextComes Follows text file brought
  text_known Follows Known text file due brought known at_due (inl bad) = inl bad
  text_known Follows Known text file due brought known at_due (inr (inl over)) = inr (inl over)
  text_known Follows Known text file due brought known at_due (inr (inr (plan, of, fit))) =
      inr (inr (plan, of, by (rewrite_refusal file plan) refl fit))
    where
      by : (found : Option RewriteRefusal) → rewrite_refusal file plan ≡ found
          → MatchOption found (Known plan brought) (λ why. brought ≡ refused_ending why)
          → MatchOption found (Follows plan brought) (λ why. brought ≡ refused_ending why)
      by None none follows = known plan (text_follows Follows text file plan due of none at_due) follows
      by (Some why) is refused = refused

-- an ending of a text and a file has a property that each refusal has, and what follows
module _ (P : Ending → Type 0) (files : (why : BadFile) → P (File why)) (plans : (why : BadPlan) → P (Plan why))
    (memory : P Memory) where
  of_refused : (why : RewriteRefusal) → P (refused_ending why)
  of_refused (refusal.File why) = files (bad_file.Refused why)
  of_refused (refusal.Plan why) = plans (Misfit why)
  of_refused refusal.Memory = memory

  pub of_text : (Follows : Value → Ending → Type 0) (text file : List ℕ) (ending : Ending)
      → ((plan : Value) → Follows plan ending → P ending) → TextComes Follows text file ending → P ending
  of_text Follows text file ending follows (inl (n, is, bad)) = subst P (sym is) (plans (Text (Line n)))
  of_text Follows text file ending follows (inr (inl (n, is, over))) = subst P (sym is) (plans (Text (TooMany n)))
  of_text Follows text file ending follows (inr (inr (plan, of, fit))) = by (rewrite_refusal file plan) fit
    where
      by : (found : Option RewriteRefusal)
          → MatchOption found (Follows plan ending) (λ why. ending ≡ refused_ending why) → P ending
      by None holds = follows plan holds
      by (Some why) is = subst P (sym is) (of_refused why)

  -- and of what was read
  pub of_both : (Decide : List ℕ → List ℕ → Ending → Type 0) (plan_name file_name : List ℕ) (before now : FilesSeen)
      (ending : Ending) → (ending ≡ ReadFault → P ending)
      → ((text file : List ℕ) → Decide text file ending → P ending)
      → BothBring Decide plan_name file_name before now ending → P ending
  of_both Decide plan_name file_name before now ending fault decides (inl (inl (is, lacks))) = fault is
  of_both Decide plan_name file_name before now ending fault decides (inl (inr (is, long))) =
      subst P (sym is) (plans TooLong)
  of_both Decide plan_name file_name before now ending fault decides
      (inr (inl (between, text, plan, inl (is, lacks)))) = fault is
  of_both Decide plan_name file_name before now ending fault decides
      (inr (inl (between, text, plan, inr (is, long)))) = subst P (sym is) (files bad_file.TooLong)
  of_both Decide plan_name file_name before now ending fault decides (inr (inr (text, file, read, comes))) =
      decides text file comes

module _ (Decide : List ℕ → List ℕ → Ending → Type 0) where
  -- told contents have one ending
  pub both_once : ((text file : List ℕ) (a b : Ending) → Decide text file a → Decide text file b → a ≡ b)
      → (text file : Option (List ℕ)) (a b : Ending)
      → BothCome Decide text file a → BothCome Decide text file b → a ≡ b
  both_once once None file a b at_a at_b = at_a ∙ sym at_b
  both_once once (Some text) file a b at_a at_b =
      limit_once (nat_lt plan_limit (length text)) (Plan TooLong)
      (λ ending. FileComes file_limit file (Decide text) ending)
      (file_once file_limit (Decide text) (once text) file) a b at_a at_b

  told_both : (contents : Contents) (plan_name file_name text file : List ℕ) (ending : Ending)
      → contents_of contents plan_name ≡ Some text → contents_of contents file_name ≡ Some file
      → length text ≤ plan_limit → length file ≤ file_limit → Decide text file ending
      → ContentsCome Decide plan_name file_name contents ending
  told_both contents plan_name file_name text file ending plan_is file_is plan_fits file_fits comes =
      subst (λ (found : Option (List ℕ)). BothCome Decide found (contents_of contents file_name) ending) (sym plan_is)
      (within plan_limit (length text) (ending ≡ Plan TooLong)
      (FileComes file_limit (contents_of contents file_name) (Decide text) ending) plan_fits
      (told_comes file_limit (Decide text) contents file_name file ending file_is file_fits comes))

  -- what told contents come to is what their bytes come to
  pub of_told_both : (contents : Contents) (plan_name file_name text file : List ℕ) (ending : Ending)
      → contents_of contents plan_name ≡ Some text → contents_of contents file_name ≡ Some file
      → length text ≤ plan_limit → length file ≤ file_limit
      → ContentsCome Decide plan_name file_name contents ending → Decide text file ending
  of_told_both contents plan_name file_name text file ending plan_is file_is plan_fits file_fits comes =
      of_told_comes file_limit (Decide text) contents file_name file ending file_is file_fits
      (of_within plan_limit (length text) (ending ≡ Plan TooLong)
      (FileComes file_limit (contents_of contents file_name) (Decide text) ending) plan_fits
      (subst (λ (found : Option (List ℕ)). BothCome Decide found (contents_of contents file_name) ending) plan_is
      comes))

  -- the same of what was read of them
  pub of_read_both : (plan_name file_name : List ℕ) (contents : Contents) (before now : FilesSeen)
      (text file : List ℕ) (ending : Ending) → before.told ≡ Some contents
      → AreRead plan_name file_name before now text file
      → ContentsCome Decide plan_name file_name contents ending → Decide text file ending
  of_read_both plan_name file_name contents before now text file ending told (between, plan, read) comes =
      of_told_both contents plan_name file_name text file ending
      (subst (λ seen. IsToldAt seen plan_name text) told plan.read.told)
      (subst (λ seen. IsToldAt seen file_name file) (plan.told ∙ told) read.told) plan.read.within read.within comes

  -- a plan that is longer than its limit
  long_text : (found file : Option (List ℕ)) → IsSomeAnd found (λ text. plan_limit < length text)
      → BothCome Decide found file (Plan TooLong)
  long_text None file long = absurd long
  long_text (Some text) file long =
      let test : nat_lt plan_limit (length text) ≡ true = grind (arith, nat_tests) in
      subst (λ (b : Bool). MatchBool b (Plan TooLong ≡ Plan TooLong)
      (FileComes file_limit file (Decide text) (Plan TooLong))) (sym test) refl

  no_plan_comes : (contents : Contents) (plan_name file_name : List ℕ) (before now : FilesSeen) (ending : Ending)
      → before.told ≡ Some contents
      → IsNoPlan plan_name before now ending → ContentsCome Decide plan_name file_name contents ending
  no_plan_comes contents plan_name file_name before now ending told (inl (is, lacks)) =
      let none : contents_of contents plan_name ≡ None = subst (λ seen. Lacks seen plan_name) told lacks in
      subst (λ (found : Option (List ℕ)). BothCome Decide found (contents_of contents file_name) ending) (sym none) is
  no_plan_comes contents plan_name file_name before now ending told (inr (is, long)) =
      subst (λ e. ContentsCome Decide plan_name file_name contents e) (sym is)
      (long_text (contents_of contents plan_name) (contents_of contents file_name)
      (subst (λ seen. IsTooLong seen plan_name plan_limit before.taken now.taken) told long))

  no_file_is : (contents : Contents) (plan_name file_name text : List ℕ) (between now : FilesSeen) (ending : Ending)
      → between.told ≡ Some contents
      → contents_of contents plan_name ≡ Some text → length text ≤ plan_limit
      → IsNoFile file_name file_limit between now ending
      → ContentsCome Decide plan_name file_name contents ending
  no_file_is contents plan_name file_name text between now ending told plan_is plan_fits none =
      subst (λ (found : Option (List ℕ)). BothCome Decide found (contents_of contents file_name) ending) (sym plan_is)
      (within plan_limit (length text) (ending ≡ Plan TooLong)
      (FileComes file_limit (contents_of contents file_name) (Decide text) ending) plan_fits
      (no_file_comes file_limit (Decide text) contents file_name between now ending told none))

  -- what was read of told contents brings a command to what they come to, where their bytes do
  pub both_told : (Brought : List ℕ → List ℕ → Ending → Type 0) (plan_name file_name : List ℕ) (contents : Contents)
      (before now : FilesSeen) (brought : Ending) → before.told ≡ Some contents
      → ((text file : List ℕ) → AreRead plan_name file_name before now text file → Brought text file brought
      → Decide text file brought)
      → BothBring Brought plan_name file_name before now brought
      → ContentsCome Decide plan_name file_name contents brought
  both_told Brought plan_name file_name contents before now brought told same (inl none) =
      no_plan_comes contents plan_name file_name before now brought told none
  both_told Brought plan_name file_name contents before now brought told same
      (inr (inl (between, text, plan, none))) =
      no_file_is contents plan_name file_name text between now brought (plan.told ∙ told)
      (subst (λ seen. IsToldAt seen plan_name text) told plan.read.told) plan.read.within none
  both_told Brought plan_name file_name contents before now brought told same
      (inr (inr (text, file, (between, plan, read), comes))) =
      told_both contents plan_name file_name text file brought
      (subst (λ seen. IsToldAt seen plan_name text) told plan.read.told)
      (subst (λ seen. IsToldAt seen file_name file) (plan.told ∙ told) read.told) plan.read.within read.within
      (same text file (between, plan, read) comes)

  -- only what is told lacks a name
  lacks_some : (told : Option Contents) (name : List ℕ) → Lacks told name
      → (contents : Contents) × (told ≡ Some contents)
  lacks_some None name lacks = absurd lacks
  lacks_some (Some contents) name lacks = (contents, refl)

  -- only told contents lack an operand, where no bytes fail to be read
  pub both_lack : (Brought : List ℕ → List ℕ → Ending → Type 0) (plan_name file_name : List ℕ)
      (before now : FilesSeen) → ((text file : List ℕ) → Brought text file ReadFault → ⊥)
      → BothBring Brought plan_name file_name before now ReadFault
      → (contents : Contents) × (before.told ≡ Some contents)
      × ContentsCome Decide plan_name file_name contents ReadFault
  both_lack Brought plan_name file_name before now never brings = by_cause brings
    where
      told_so : (contents : Contents) → before.told ≡ Some contents
          → (contents : Contents) × (before.told ≡ Some contents)
          × ContentsCome Decide plan_name file_name contents ReadFault
      told_so contents told = (
        contents,
        told,
        both_told Brought plan_name file_name contents before now ReadFault told
            (λ text file read comes. absurd (never text file comes)) brings,
      )

      by_cause : BothBring Brought plan_name file_name before now ReadFault
          → (contents : Contents) × (before.told ≡ Some contents)
          × ContentsCome Decide plan_name file_name contents ReadFault
      by_cause (inl (inl (is, lacks))) =
          let (contents, told) = lacks_some before.told plan_name lacks in told_so contents told
      by_cause (inl (inr (is, long))) = absurd (cc)
      by_cause (inr (inl (between, text, plan, inl (is, lacks)))) =
          let (contents, told) = lacks_some between.told file_name lacks in told_so contents (sym plan.told ∙ told)
      by_cause (inr (inl (between, text, plan, inr (is, long)))) = absurd (cc)
      by_cause (inr (inr (text, file, read, comes))) = absurd (never text file comes)

-- a plan that fits its file comes to what follows
pub fits_so : (file : List ℕ) (Follows : Value → Ending → Type 0) (plan : Value) (ending : Ending)
    → rewrite_refusal file plan ≡ None → Follows plan ending → FitComes file Follows plan ending
fits_so file Follows plan ending none follows =
    subst (λ (found : Option RewriteRefusal). MatchOption found (Follows plan ending)
    (λ why. ending ≡ refused_ending why)) (sym none) follows

-- where what follows comes to more endings, so do a text and a file, and what was read
pub text_weaker : (Follows More : Value → Ending → Type 0) (text file : List ℕ) (ending : Ending)
    → ((plan : Value) → Follows plan ending → More plan ending)
    → TextComes Follows text file ending → TextComes More text file ending
text_weaker Follows More text file ending weaker (inl bad) = inl bad
text_weaker Follows More text file ending weaker (inr (inl over)) = inr (inl over)
text_weaker Follows More text file ending weaker (inr (inr (plan, of, fit))) =
    inr (inr (plan, of, by (rewrite_refusal file plan) fit))
  where
    by : (found : Option RewriteRefusal) → MatchOption found (Follows plan ending) (λ why. ending ≡ refused_ending why)
        → MatchOption found (More plan ending) (λ why. ending ≡ refused_ending why)
    by None follows = weaker plan follows
    by (Some why) is = is

pub both_weaker : (Decide More : List ℕ → List ℕ → Ending → Type 0) (plan_name file_name : List ℕ)
    (before now : FilesSeen) (ending : Ending)
    → ((text file : List ℕ) → Decide text file ending → More text file ending)
    → BothBring Decide plan_name file_name before now ending → BothBring More plan_name file_name before now ending
both_weaker Decide More plan_name file_name before now ending weaker (inl none) = inl none
both_weaker Decide More plan_name file_name before now ending weaker (inr (inl none)) = inr (inl none)
both_weaker Decide More plan_name file_name before now ending weaker (inr (inr (text, file, read, comes))) =
    inr (inr (text, file, read, weaker text file comes))

-- the cause of an ending without a plan and a file is one of a command that makes something of them
pub read_cause : (Decide : List ℕ → List ℕ → Ending → Type 0) (plan_name file_name : List ℕ) (before now : FilesSeen)
    (ending : Ending)
    → HasReadCause (BothBring (λ text file ending. ⊥) plan_name file_name before now) before now ending
    → HasReadCause (BothBring Decide plan_name file_name before now) before now ending
read_cause Decide plan_name file_name before now ending cause =
    cause_weaker (BothBring (λ text file ending. ⊥) plan_name file_name before now)
    (BothBring Decide plan_name file_name before now) before now
    (λ e. both_weaker (λ text file ending. ⊥) Decide plan_name file_name before now e (λ text file none. absurd none))
    ending cause

-- and so is that of what they come to
pub made_cause : (Decide : List ℕ → List ℕ → Ending → Type 0) (plan_name file_name : List ℕ) (before now : FilesSeen)
    (text file : List ℕ) (ending : Ending) → AreRead plan_name file_name before now text file
    → Decide text file ending ⊎ (ending ≡ Memory)
    → HasReadCause (BothBring Decide plan_name file_name before now) before now ending
made_cause Decide plan_name file_name before now text file ending read due =
    has_cause (BothBring Decide plan_name file_name before now) before now ending
    (⊎_elim (λ comes. inl (inr (inr (text, file, read, comes)))) (λ is. inr is) due)
