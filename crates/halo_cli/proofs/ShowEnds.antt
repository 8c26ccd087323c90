-- How `show` ends before it writes, by what it made of the file that it read.
use Rattle.std.proofs.Common.{◌≡◌, ℕ, List, sym, subst, codes}
use Rattle.halo_outside.specs.Seen.{FilesSeen, SourceSeen, SinkSeen}
use Rattle.endings.specs.declared.endings.Ending.{Ending}
use Rattle.halo_words.specs.Grammar.{Given, Asked, operand_in}
use Rattle.halo_cli.specs.World.{OnlyReads}
use Rattle.halo_cli.specs.Reads.{AreFirstReads, HasReadCause}
use Rattle.halo_cli.specs.Writing.{IsStop}
use Rattle.halo_cli.specs.Show.{ShowBrings, show_reads}
use Rattle.halo_cli.specs.Ends.{Ends}
use Rattle.halo_cli.proofs.ShowDue.{show_never_usage}
use Rattle.halo_cli.proofs.Stopping.{moves_of, no_write, stop_leaves, stop_cause}

abbrev pub asks_show : Given → Asked
asks_show given = record { word = codes "show"; given = given }

pub show_stops : (name : List ℕ) (given : Given) → operand_in given 0 ≡ name
    → (before now : FilesSeen) (input : SourceSeen) (out : SinkSeen) (ending : Ending) → OnlyReads before now
    → IsStop ending → AreFirstReads (show_reads name) before now ending
    → HasReadCause (ShowBrings name before now) before now ending
    → Ends (asks_show given) (record { files = before; input = input; out = out })
    (record { files = now; input = input; out = out }) ending
show_stops name given is before now input out ending reads stop first cause = record {
  cause = stop_cause (asks_show given) (record { files = before; input = input; out = out })
      (record { files = now; input = input; out = out }) (ShowBrings name before now)
      (λ e brings. subst (λ n. ShowBrings n before now e) (sym is) brings) (λ rose. rose)
      (λ place brings. show_never_usage name before now place brings) ending stop.1 cause;
  leaves = stop_leaves _ before now input out ending stop;
  moves = moves_of before now input out out reads (no_write out);
  reads = subst (λ n. AreFirstReads (show_reads n) before now ending) (sym is) first;
}
