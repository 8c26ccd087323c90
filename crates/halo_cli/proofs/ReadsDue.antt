-- What one more file of told contents brings a command to, and endings that the bytes of files decide.
use Rattle.std.proofs.Common.{◌≡◌, ◌∙◌, ℕ, ◌<◌, ◌≤◌, ◌⊎◌, inl, inr, Bool, true, false, nat_lt, List, length, Option}
use Rattle.std.proofs.Common.{None, Some, refl, sym, subst, arith}
use Rattle.std.specs.Prelude.{IsSomeAnd}
use Rattle.std.specs.Bool.{MatchBool}
use Rattle.std.proofs.lemmas.Bool.Decides.{nat_tests}
use Rattle.halo_outside.specs.Seen.{Contents, contents_of, FilesSeen, Lacks, IsTooLong}
use Rattle.endings.specs.declared.endings.Ending.{Ending}
use Rattle.endings.specs.declared.endings.Ending.TheVariants.{Done, Exited, Usage, File, Plan, Profile, ReadFault}
use Rattle.endings.specs.declared.endings.Ending.TheVariants.{WriteFault, Memory, StillRunning, Fault, Illegal}
use Rattle.endings.specs.declared.endings.BadFile.TheVariants.{TooLong}
use Rattle.halo_cli.specs.Reads.{OperandComes, FileComes, IsNotRead, IsNoFile, HasReadCause}

-- a limit is passed or not
pub limit_once : (test : Bool) (refused : Ending) (Comes : Ending → Type 0)
    → ((a b : Ending) → Comes a → Comes b → a ≡ b)
    → (a b : Ending) → MatchBool test (a ≡ refused) (Comes a) → MatchBool test (b ≡ refused) (Comes b) → a ≡ b
limit_once true refused Comes once a b at_a at_b = at_a ∙ sym at_b
limit_once false refused Comes once a b at_a at_b = once a b at_a at_b

-- a length within its limit
pub within : (limit len : ℕ) (P Q : Type 0) → len ≤ limit → Q → MatchBool (nat_lt limit len) P Q
within limit len P Q fits holds =
    let test : nat_lt limit len ≡ false = grind (arith, nat_tests) in
    subst (λ (b : Bool). MatchBool b P Q) (sym test) holds

pub of_within : (limit len : ℕ) (P Q : Type 0) → len ≤ limit → MatchBool (nat_lt limit len) P Q → Q
of_within limit len P Q fits holds =
    let test : nat_lt limit len ≡ false = grind (arith, nat_tests) in subst (λ (b : Bool). MatchBool b P Q) test holds

-- an ending that the bytes of files decide
abbrev pub IsDecided : Ending → Type 0
IsDecided Done = Unit {0}
IsDecided (File why) = Unit {0}
IsDecided (Plan why) = Unit {0}
IsDecided (Profile why) = Unit {0}
IsDecided Memory = Unit {0}
IsDecided ending = ⊥

pub decided_as : (ending other : Ending) → ending ≡ other → IsDecided other → IsDecided ending
decided_as ending other is decided = subst IsDecided (sym is) decided

-- an ending to which what was read brings the command, or want of memory, has its cause
pub has_cause : (Brings : Ending → Type 0) (before now : FilesSeen) (ending : Ending)
    → Brings ending ⊎ (ending ≡ Memory) → HasReadCause Brings before now ending
has_cause Brings before now ending (inr is) = subst (λ e. HasReadCause Brings before now e) (sym is) tt
has_cause Brings before now ReadFault (inl brings) = inr brings
has_cause Brings before now Memory (inl brings) = tt
has_cause Brings before now Done (inl brings) = brings
has_cause Brings before now (Exited exit steps) (inl brings) = brings
has_cause Brings before now (Usage place) (inl brings) = brings
has_cause Brings before now (File why) (inl brings) = brings
has_cause Brings before now (Plan why) (inl brings) = brings
has_cause Brings before now (Profile why) (inl brings) = brings
has_cause Brings before now WriteFault (inl brings) = brings
has_cause Brings before now (StillRunning steps) (inl brings) = brings
has_cause Brings before now (Fault kind at steps) (inl brings) = brings
has_cause Brings before now (Illegal at steps) (inl brings) = brings

-- where more brings a command to an ending, it has its cause, too
pub cause_weaker : (Brings More : Ending → Type 0) (before now : FilesSeen)
    → ((ending : Ending) → Brings ending → More ending) → (ending : Ending)
    → HasReadCause Brings before now ending → HasReadCause More before now ending
cause_weaker Brings More before now weaker ReadFault (inl rose) = inl rose
cause_weaker Brings More before now weaker ReadFault (inr brings) = inr (weaker ReadFault brings)
cause_weaker Brings More before now weaker Memory cause = tt
cause_weaker Brings More before now weaker Done cause = weaker Done cause
cause_weaker Brings More before now weaker (Exited exit steps) cause = weaker (Exited exit steps) cause
cause_weaker Brings More before now weaker (Usage place) cause = weaker (Usage place) cause
cause_weaker Brings More before now weaker (File why) cause = weaker (File why) cause
cause_weaker Brings More before now weaker (Plan why) cause = weaker (Plan why) cause
cause_weaker Brings More before now weaker (Profile why) cause = weaker (Profile why) cause
cause_weaker Brings More before now weaker WriteFault cause = weaker WriteFault cause
cause_weaker Brings More before now weaker (StillRunning steps) cause = weaker (StillRunning steps) cause
cause_weaker Brings More before now weaker (Fault kind at steps) cause = weaker (Fault kind at steps) cause
cause_weaker Brings More before now weaker (Illegal at steps) cause = weaker (Illegal at steps) cause

-- one more operand of told contents, and the ending where it is longer than its limit
module _ (limit : ℕ) (long : Ending) (Decide : List ℕ → Ending → Type 0) where
  -- told contents have one ending
  pub operand_once : ((bytes : List ℕ) (a b : Ending) → Decide bytes a → Decide bytes b → a ≡ b)
      → (found : Option (List ℕ)) (a b : Ending) → OperandComes limit long found Decide a
      → OperandComes limit long found Decide b → a ≡ b
  operand_once once None a b at_a at_b = at_a ∙ sym at_b
  operand_once once (Some bytes) a b at_a at_b =
      limit_once (nat_lt limit (length bytes)) long (Decide bytes) (once bytes) a b at_a at_b

  -- a told operand that was read is the one that decides
  pub told_operand : (contents : Contents) (name bytes : List ℕ) (ending : Ending)
      → contents_of contents name ≡ Some bytes → length bytes ≤ limit → Decide bytes ending
      → OperandComes limit long (contents_of contents name) Decide ending
  told_operand contents name bytes ending is fits decides =
      subst (λ (found : Option (List ℕ)). OperandComes limit long found Decide ending) (sym is)
      (within limit (length bytes) (ending ≡ long) (Decide bytes ending) fits decides)

  pub of_told_operand : (contents : Contents) (name bytes : List ℕ) (ending : Ending)
      → contents_of contents name ≡ Some bytes → length bytes ≤ limit
      → OperandComes limit long (contents_of contents name) Decide ending → Decide bytes ending
  of_told_operand contents name bytes ending is fits comes =
      of_within limit (length bytes) (ending ≡ long) (Decide bytes ending) fits
      (subst (λ (found : Option (List ℕ)). OperandComes limit long found Decide ending) is comes)

  lacking_comes : (contents : Contents) (name : List ℕ) → contents_of contents name ≡ None
      → OperandComes limit long (contents_of contents name) Decide ReadFault
  lacking_comes contents name is =
      subst (λ (found : Option (List ℕ)). OperandComes limit long found Decide ReadFault) (sym is) refl

  long_comes : (found : Option (List ℕ)) → IsSomeAnd found (λ bytes. limit < length bytes)
      → OperandComes limit long found Decide long
  long_comes None is_long = absurd is_long
  long_comes (Some bytes) is_long =
      let test : nat_lt limit (length bytes) ≡ true = grind (arith, nat_tests) in
      subst (λ (b : Bool). MatchBool b (long ≡ long) (Decide bytes long)) (sym test) refl

  -- an operand that wasn't read of told contents
  pub not_read_comes : (contents : Contents) (name : List ℕ) (before now : FilesSeen) (ending : Ending)
      → before.told ≡ Some contents → IsNotRead name limit long before now ending
      → OperandComes limit long (contents_of contents name) Decide ending
  not_read_comes contents name before now ending told (inl (is, lacks)) =
      subst (λ e. OperandComes limit long (contents_of contents name) Decide e) (sym is)
      (lacking_comes contents name (subst (λ seen. Lacks seen name) told lacks))
  not_read_comes contents name before now ending told (inr (is, is_long)) =
      subst (λ e. OperandComes limit long (contents_of contents name) Decide e) (sym is)
      (long_comes (contents_of contents name)
      (subst (λ seen. IsTooLong seen name limit before.taken now.taken) told is_long))

  -- only told contents lack an operand
  pub lacks_operand : (told : Option Contents) (name : List ℕ) → Lacks told name
      → (contents : Contents) × (told ≡ Some contents)
      × OperandComes limit long (contents_of contents name) Decide ReadFault
  lacks_operand None name none = absurd none
  lacks_operand (Some contents) name none = (contents, refl, lacking_comes contents name none)

-- the same of a file
module _ (limit : ℕ) (Decide : List ℕ → Ending → Type 0) where
  pub file_once : ((file : List ℕ) (a b : Ending) → Decide file a → Decide file b → a ≡ b)
      → (file : Option (List ℕ)) (a b : Ending) → FileComes limit file Decide a → FileComes limit file Decide b → a ≡ b
  file_once = operand_once limit (File TooLong) Decide

  pub told_comes : (contents : Contents) (name file : List ℕ) (ending : Ending)
      → contents_of contents name ≡ Some file → length file ≤ limit → Decide file ending
      → FileComes limit (contents_of contents name) Decide ending
  told_comes = told_operand limit (File TooLong) Decide

  pub of_told_comes : (contents : Contents) (name file : List ℕ) (ending : Ending)
      → contents_of contents name ≡ Some file → length file ≤ limit
      → FileComes limit (contents_of contents name) Decide ending → Decide file ending
  of_told_comes = of_told_operand limit (File TooLong) Decide

  pub no_file_comes : (contents : Contents) (name : List ℕ) (before now : FilesSeen) (ending : Ending)
      → before.told ≡ Some contents → IsNoFile name limit before now ending
      → FileComes limit (contents_of contents name) Decide ending
  no_file_comes = not_read_comes limit (File TooLong) Decide

  pub lacks_told : (told : Option Contents) (name : List ℕ) → Lacks told name
      → (contents : Contents) × (told ≡ Some contents) × FileComes limit (contents_of contents name) Decide ReadFault
  lacks_told = lacks_operand limit (File TooLong) Decide
