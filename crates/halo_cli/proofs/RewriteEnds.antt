-- How `rewrite` ends, by what it made of the plan and the file that it read.
use Rattle.std.proofs.Common.{◌≡◌, ℕ, List, refl, sym, subst, codes}
use Rattle.halo_outside.specs.Seen.{FilesSeen, SourceSeen, SinkSeen, Rose, Appends, AppendsPrefix}
use Rattle.endings.specs.declared.endings.Ending.{Ending}
use Rattle.endings.specs.declared.endings.Ending.TheVariants.{Done, WriteFault}
use Rattle.halo_words.specs.Grammar.{Given, Asked, operand_in}
use Rattle.halo_cli.specs.World.{OnlyReads, OnlyWrites}
use Rattle.halo_cli.specs.Reads.{AreFirstReads, HasReadCause}
use Rattle.halo_cli.specs.Writing.{IsStop}
use Rattle.halo_cli.specs.PlanAndFile.{both_reads}
use Rattle.halo_cli.specs.RewriteCommand.{RewriteBrings, RewriteWrites}
use Rattle.halo_cli.specs.Ends.{Ends}
use Rattle.halo_cli.proofs.RewriteDue.{rewrite_never_usage}
use Rattle.halo_cli.proofs.Stopping.{moves_of, no_write, stop_leaves, stop_cause}

abbrev pub asks_rewrite : Given → Asked
asks_rewrite given = record { word = codes "rewrite"; given = given }

module _ (plan_name file_name : List ℕ) (given : Given)
    (plan_is : operand_in given 0 ≡ plan_name) (file_is : operand_in given 1 ≡ file_name)
    (before now : FilesSeen) (input : SourceSeen) (reads : OnlyReads before now) where
  -- what is said of the names is said of the operands
  at_operands : (P : List ℕ → List ℕ → Type 0) → P plan_name file_name → P (operand_in given 0) (operand_in given 1)
  at_operands P holds =
      subst (λ n. P n (operand_in given 1)) (sym plan_is) (subst (λ n. P plan_name n) (sym file_is) holds)

  pub rewrite_stops : (out : SinkSeen) (ending : Ending) → IsStop ending
      → AreFirstReads (both_reads plan_name file_name) before now ending
      → HasReadCause (RewriteBrings plan_name file_name before now) before now ending
      → Ends (asks_rewrite given) (record { files = before; input = input; out = out })
      (record { files = now; input = input; out = out }) ending
  rewrite_stops out ending stop first cause = record {
    cause = stop_cause (asks_rewrite given) (record { files = before; input = input; out = out })
        (record { files = now; input = input; out = out }) (RewriteBrings plan_name file_name before now)
        (λ e brings. at_operands (λ p f. RewriteBrings p f before now e) brings) (λ rose. rose)
        (λ place brings. rewrite_never_usage plan_name file_name before now place brings) ending stop.1 cause;
    leaves = stop_leaves _ before now input out ending stop;
    moves = moves_of before now input out out reads (no_write out);
    reads = at_operands (λ p f. AreFirstReads (both_reads p f) before now ending) first;
  }

  module _ (old new : SinkSeen) (writes : OnlyWrites old new) (text : List ℕ)
      (fits : RewriteBrings plan_name file_name before now Done)
      (made : RewriteWrites plan_name file_name before now text)
      (whole_reads : (ending : Ending) → AreFirstReads (both_reads plan_name file_name) before now ending) where
    pub rewrite_done : Appends old.told new.told text
        → Ends (asks_rewrite given) (record { files = before; input = input; out = old })
        (record { files = now; input = input; out = new }) Done
    rewrite_done whole = record {
      cause = at_operands (λ p f. RewriteBrings p f before now Done) fits;
      leaves = record {
        input = refl;
        done = λ is. (text, at_operands (λ p f. RewriteWrites p f before now text) made, whole);
        write_fault = λ is. absurd (cc);
        silent = λ stop. absurd (stop.0 refl);
      };
      moves = moves_of before now input old new reads writes;
      reads = at_operands (λ p f. AreFirstReads (both_reads p f) before now Done) (whole_reads Done);
    }

    pub rewrite_cut : Rose old.faults new.faults → AppendsPrefix old.told new.told text
        → Ends (asks_rewrite given) (record { files = before; input = input; out = old })
        (record { files = now; input = input; out = new }) WriteFault
    rewrite_cut rose part = record {
      cause = (rose, at_operands (λ p f. RewriteBrings p f before now Done) fits);
      leaves = record {
        input = refl;
        done = λ is. absurd (cc);
        write_fault = λ is. (text, at_operands (λ p f. RewriteWrites p f before now text) made, part);
        silent = λ stop. absurd (stop.1 refl);
      };
      moves = moves_of before now input old new reads writes;
      reads = at_operands (λ p f. AreFirstReads (both_reads p f) before now WriteFault) (whole_reads WriteFault);
    }
