-- What is told brings `rewrite` to one ending, and what was read brings it there.
use Rattle.std.proofs.Common.{◌≡◌, ◌∙◌, ℕ, inr, codes, List, refl, sym, subst, MatchOption, Option}
use Rattle.halo_outside.specs.Seen.{contents_of, FilesSeen}
use Rattle.plan_core.specs.declared.types.Plan.{Plan as Value}
use Rattle.rewriter.specs.declared.refusal.RewriteRefusal.{RewriteRefusal}
use Rattle.endings.specs.declared.endings.Ending.{Ending}
use Rattle.endings.specs.declared.endings.Ending.TheVariants.{Done, ReadFault, Exited, Usage}
use Rattle.halo_words.specs.Grammar.{operand_in}
use Rattle.halo_cli.specs.PlanAndFile.{AreRead, refused_ending, both_reads}
use Rattle.halo_cli.specs.RewriteCommand.{TextRewrites, RewriteComes, RewriteBrings, RewriteWrites, Makes}
use Rattle.halo_cli.specs.RewriteCommand.{rewrite_entry}
use Rattle.halo_cli.proofs.CommandLaws.{Laws, text_laws}
use Rattle.halo_cli.proofs.PlanAndFileDue.{TextsOnce, text_once, of_text, of_both, both_once, both_told, both_lack}
use Rattle.halo_cli.proofs.ReadsDue.{IsDecided, decided_as}

-- where there is a new file, nothing refuses
pub made_comes : (text file new : List ℕ) → Makes text file new → TextRewrites text file Done
made_comes text file new (plan, spells, is) = inr (inr (
  plan,
  spells,
  subst (λ (found : Option RewriteRefusal). MatchOption found (Done ≡ Done) (λ why. Done ≡ refused_ending why))
      (sym is.due) refl,
))

-- the new file of what was read is what `rewrite` writes
pub made_writes : (plan_name file_name : List ℕ) (before now : FilesSeen) (text file new : List ℕ)
    → AreRead plan_name file_name before now text file → Makes text file new
    → RewriteWrites plan_name file_name before now new
made_writes plan_name file_name before now text file new read made = (text, file, read, made)

-- the bytes that were read decide
decided_text : (text file : List ℕ) (ending : Ending) → TextRewrites text file ending → IsDecided ending
decided_text text file ending comes =
    of_text IsDecided (λ why. tt) (λ why. tt) tt (λ (plan : Value) e. e ≡ Done) text file ending
    (λ plan is. decided_as ending Done is tt) comes

-- no program runs
pub rewrite_never_exits : (plan file : List ℕ) (before now : FilesSeen) (exit steps : ℕ)
    → RewriteBrings plan file before now (Exited exit steps) → ⊥
rewrite_never_exits plan file before now exit steps brings =
    of_both IsDecided (λ why. tt) (λ why. tt) tt TextRewrites plan file before now (Exited exit steps)
    (λ is. absurd (cc)) (λ text bytes comes. decided_text text bytes (Exited exit steps) comes) brings

-- and the words are a line
pub rewrite_never_usage : (plan file : List ℕ) (before now : FilesSeen) (place : ℕ)
    → RewriteBrings plan file before now (Usage place) → ⊥
rewrite_never_usage plan file before now place brings =
    of_both IsDecided (λ why. tt) (λ why. tt) tt TextRewrites plan file before now (Usage place)
    (λ is. absurd (cc)) (λ text bytes comes. decided_text text bytes (Usage place) comes) brings

pub rewrite_laws : TextsOnce → Laws rewrite_entry
rewrite_laws texts = text_laws (codes "rewrite")
    (λ given. both_reads (operand_in given 0) (operand_in given 1))
    (λ given. RewriteComes (operand_in given 0) (operand_in given 1))
    (λ given. RewriteBrings (operand_in given 0) (operand_in given 1))
    (λ given. RewriteWrites (operand_in given 0) (operand_in given 1))
    (λ given contents a b. both_once TextRewrites
    (text_once texts (λ plan ending. ending ≡ Done) (λ plan a b is is'. is ∙ sym is'))
    (contents_of contents (operand_in given 0)) (contents_of contents (operand_in given 1)) a b)
    (λ given contents before now ending told brings. both_told TextRewrites TextRewrites (operand_in given 0)
    (operand_in given 1) contents before now ending told (λ text file read comes. comes) brings)
    (λ given before now brings. both_lack TextRewrites TextRewrites (operand_in given 0) (operand_in given 1) before
    now (λ text file comes. decided_text text file ReadFault comes) brings)
    (λ given before now exit steps brings. rewrite_never_exits (operand_in given 0)
    (operand_in given 1) before now exit steps brings)
