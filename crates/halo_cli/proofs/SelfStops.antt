-- How `self` ends, by what was made and written.
use Rattle.std.proofs.Common.{◌≡◌, ◌⊎◌, ℕ, ℤ, inl, inr, List, Option, None, Some, MatchOption, refl, sym, subst}
use Rattle.std.specs.Prelude.{IfSome, option_map}
use Rattle.halo_outside.specs.Seen.{FilesSeen, SourceSeen, SinkSeen, Rose, Appends, AppendsPrefix}
use Rattle.group_policy.specs.declared.cut.Cut.{Cut}
use Rattle.exec_image.specs.declared.refusals.FileRefusal.{FileRefusal}
use Rattle.exec_image.specs.declared.plan_fault.PlanFault.{PlanFault}
use Rattle.exec_image.specs.Refusals.{file_refusal}
use Rattle.exec_image.specs.PlanFaults.{plan_fault}
use Rattle.first_check.specs.First.{◌or_else◌}
use Rattle.rewriter.specs.declared.refusal.RewriteRefusal.TheVariants.{File as BadFile, Plan as Misfit}
use Rattle.rv_build.specs.Generated.{generated}
use Rattle.endings.specs.declared.endings.Ending.{Ending}
use Rattle.endings.specs.declared.endings.Ending.TheVariants.{Done, File, WriteFault, Memory, Usage, Exited}
use Rattle.endings.specs.declared.endings.BadFile.TheVariants.{Refused}
use Rattle.halo_words.specs.Grammar.{Given}
use Rattle.halo_cli.specs.World.{OnlyWrites}
use Rattle.halo_cli.specs.Writing.{IsStop}
use Rattle.halo_cli.specs.Options.{Policies, default_policy, place_named}
use Rattle.halo_cli.specs.Generate.{nodes_in}
use Rattle.halo_cli.specs.Profiling.{ComesBehind}
use Rattle.halo_cli.specs.SelfRun.{IsSourceEnd, IsNewEnd, SelfMade, BehindSource, SelfEndsBy, SelfBrings, SelfWritten}
use Rattle.halo_cli.specs.SelfRun.{self_entry}
use Rattle.halo_cli.specs.Ends.{EndsOf}
use Rattle.halo_cli.proofs.ReadsDue.{has_cause}
use Rattle.halo_cli.proofs.Stopping.{moves_of, no_read, no_write, stop_leaves, stop_cause_of}
use Rattle.halo_cli.proofs.SelfDue.{ends_self}

-- nothing refuses a file that was rewritten
accepted_of : (o : Option FileRefusal) (p : Option PlanFault)
    → (option_map BadFile o or_else option_map Misfit p) ≡ None → o ≡ None
accepted_of None p is = refl
accepted_of (Some why) p is = absurd (cc)

-- where the lines are made, the command is due to be done
written_ends : (answers : Cut → ℤ → Type 0) (nodes : ℕ) (text : List ℕ) → SelfWritten answers nodes text
    → SelfEndsBy answers nodes Done
written_ends answers nodes text (new, made, result, steps, end, so) =
    subst (λ (found : Option FileRefusal). MatchOption found ((e : Ending) × IsSourceEnd nodes e
    × BehindSource (λ e. (new : List ℕ) × SelfMade answers nodes new × ComesBehind (IsNewEnd new) e) e Done)
    (λ why. Done ≡ File (Refused why)))
    (sym (accepted_of (file_refusal (generated nodes)) (plan_fault (generated nodes) made.plan) made.is_new.due))
    (Exited made.status made.steps, made.exits, (new, made, (Exited result steps, end, refl)))

-- what a policy makes is what the one at its place in a list makes
module _ {P : Type 0} (answers : P → Cut → ℤ → Type 0) (found : Option P) (policy : P) (is : found ≡ Some policy)
    (nodes : ℕ) where
  ends_at : (ending : Ending) → SelfEndsBy (answers policy) nodes ending
      → SelfEndsBy (λ cut answer. IfSome found (λ p. answers p cut answer)) nodes ending
  ends_at ending ends = subst (λ (o : Option P). SelfEndsBy (λ cut answer. IfSome o (λ p. answers p cut answer)) nodes
      ending) (sym is) ends

  pub cause_at : (ending : Ending) → SelfEndsBy (answers policy) nodes ending ⊎ (ending ≡ Memory)
      → SelfEndsBy (λ cut answer. IfSome found (λ p. answers p cut answer)) nodes ending ⊎ (ending ≡ Memory)
  cause_at ending (inl ends) = inl (ends_at ending ends)
  cause_at ending (inr is) = inr is

  pub written_at : (text : List ℕ) → SelfWritten (answers policy) nodes text
      → SelfWritten (λ cut answer. IfSome found (λ p. answers p cut answer)) nodes text
  written_at text written = subst (λ (o : Option P). SelfWritten (λ cut answer. IfSome o (λ p. answers p cut answer))
      nodes text) (sym is) written

module _ (policies : Policies) (given : Given) (k : ℕ) (place : place_named policies.names default_policy ≡ Some k)
    (files : FilesSeen) (input : SourceSeen) where
  abbrev Brings : Ending → Type 0
  Brings ending = SelfBrings policies given files files ending

  never_usage : (at : ℕ) → Brings (Usage at) → ⊥
  never_usage at brings = ends_self (policies.answers brings.0) (nodes_in given) (Usage at) brings.2

  -- before it writes
  pub self_stops : (out : SinkSeen) (ending : Ending) → IsStop ending
      → SelfEndsBy (policies.answers k) (nodes_in given) ending ⊎ (ending ≡ Memory)
      → EndsOf (self_entry policies) given (record { files = files; input = input; out = out })
      (record { files = files; input = input; out = out }) ending
  self_stops out ending stop cause = record {
    cause = stop_cause_of (self_entry policies) given (record { files = files; input = input; out = out })
        (record { files = files; input = input; out = out }) Brings (λ e brings. brings) (λ rose. rose) never_usage
        ending stop.1 (has_cause Brings files files ending (due cause));
    leaves = stop_leaves _ files files input out ending stop;
    moves = moves_of files files input out out (no_read files) (no_write out);
    reads = refl;
  }
    where
      due : SelfEndsBy (policies.answers k) (nodes_in given) ending ⊎ (ending ≡ Memory)
          → Brings ending ⊎ (ending ≡ Memory)
      due (inl ends) = inl (k, place, ends)
      due (inr is) = inr is

  module _ (text : List ℕ) (written : SelfWritten (policies.answers k) (nodes_in given) text) (old new : SinkSeen)
      (writes : OnlyWrites old new) where
    brings_done : Brings Done
    brings_done = (k, place, written_ends (policies.answers k) (nodes_in given) text written)

    -- the lines are on out
    pub self_done : Appends old.told new.told text
        → EndsOf (self_entry policies) given (record { files = files; input = input; out = old })
        (record { files = files; input = input; out = new }) Done
    self_done appends = record {
      cause = brings_done;
      leaves = record {
        input = refl;
        done = λ is. (text, (k, place, written), appends);
        write_fault = λ is. absurd (cc);
        silent = λ stop. absurd (stop.0 refl);
      };
      moves = moves_of files files input old new (no_read files) writes;
      reads = refl;
    }

    -- or a part of them
    pub self_cut : Rose old.faults new.faults → AppendsPrefix old.told new.told text
        → EndsOf (self_entry policies) given (record { files = files; input = input; out = old })
        (record { files = files; input = input; out = new }) WriteFault
    self_cut rose part = record {
      cause = (rose, brings_done);
      leaves = record {
        input = refl;
        done = λ is. absurd (cc);
        write_fault = λ is. (text, (k, place, written), part);
        silent = λ stop. absurd (stop.1 refl);
      };
      moves = moves_of files files input old new (no_read files) writes;
      reads = refl;
    }
