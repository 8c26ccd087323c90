-- How `plan` ends before it writes, by what it made of the profile that it read.
use Rattle.std.proofs.Common.{◌≡◌, List, ℕ, ℤ, Option, Some, sym, subst}
use Rattle.std.specs.Prelude.{IfSome}
use Rattle.halo_outside.specs.Seen.{FilesSeen, SourceSeen, SinkSeen}
use Rattle.plan_core.specs.declared.types.Area.{Area}
use Rattle.group_policy.specs.declared.cut.Cut.{Cut}
use Rattle.grouping.specs.declared.making.Options.{Options}
use Rattle.endings.specs.declared.endings.Ending.{Ending}
use Rattle.halo_words.specs.Grammar.{Given, operand_in}
use Rattle.halo_cli.specs.World.{OnlyReads}
use Rattle.halo_cli.specs.Reads.{AreFirstReads, HasReadCause}
use Rattle.halo_cli.specs.Writing.{IsStop}
use Rattle.halo_cli.specs.Options.{Policies}
use Rattle.halo_cli.specs.Plan.{PlanBrings, PlanWritten, plan_reads, plan_entry}
use Rattle.halo_cli.specs.Ends.{EndsOf}
use Rattle.halo_cli.proofs.PlanDue.{plan_never_usage}
use Rattle.halo_cli.proofs.Stopping.{moves_of, no_write, stop_leaves, stop_cause_of}

module _ (policies : Policies) (given : Given) (before now : FilesSeen) (input : SourceSeen)
    (reads : OnlyReads before now) where
  abbrev name : List ℕ
  name = operand_in given 0

  pub plan_stops : (out : SinkSeen) (ending : Ending) → IsStop ending
      → AreFirstReads (plan_reads name) before now ending
      → HasReadCause (PlanBrings name before now) before now ending
      → EndsOf (plan_entry policies) given (record { files = before; input = input; out = out })
      (record { files = now; input = input; out = out }) ending
  plan_stops out ending stop first cause = record {
    cause = stop_cause_of (plan_entry policies) given (record { files = before; input = input; out = out })
        (record { files = now; input = input; out = out }) (PlanBrings name before now)
        (λ e brings. brings) (λ rose. rose)
        (λ place brings. plan_never_usage name before now place brings) ending stop.1 cause;
    leaves = stop_leaves _ before now input out ending stop;
    moves = moves_of before now input out out reads (no_write out);
    reads = first;
  }

-- what was made as a policy answers was made as the policy at a place of a list does, where it stands there
module _ {P : Type 0} (answers : P → Cut → ℤ → Type 0) (found : Option P) (policy : P) (is : found ≡ Some policy) where
  pub written_at : (area : Area) (options : Options) (name : List ℕ) (before now : FilesSeen) (text : List ℕ)
      → PlanWritten (answers policy) area options name before now text
      → PlanWritten (λ cut answer. IfSome found (λ p. answers p cut answer)) area options name before now text
  written_at area options name before now text made =
      subst (λ (o : Option P). PlanWritten (λ cut answer. IfSome o (λ p. answers p cut answer)) area options name before
      now text) (sym is) made
