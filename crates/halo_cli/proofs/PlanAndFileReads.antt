-- The reads of a plan and a file that were done, where the plan gave its bytes.
use Rattle.std.proofs.Common.{◌≡◌, ◌≤◌, ℕ, inl, inr, List, refl}
use Rattle.halo_outside.specs.Seen.{FilesSeen}
use Rattle.endings.specs.declared.endings.Ending.{Ending}
use Rattle.endings.specs.declared.endings.Ending.TheVariants.{File}
use Rattle.endings.specs.declared.endings.BadFile.TheVariants.{TooLong}
use Rattle.halo_cli.specs.Reads.{plan_limit, file_limit, IsRead, FileRead, IsStopped, StopsSo, AreFirstReads}
use Rattle.halo_cli.specs.PlanAndFile.{both_reads}

-- the read of the file
abbrev pub read_of_file : List ℕ → FileRead
read_of_file name = record { name = name; limit = file_limit; long = File TooLong }

module _ (plan_name file_name text : List ℕ) (before between now : FilesSeen) (ending : Ending)
    (plan : IsRead plan_name plan_limit before between text) (told : between.told ≡ before.told)
    (faults : before.faults ≤ between.faults) where
  -- the read of the file stopped the command
  pub file_stops : IsStopped (read_of_file file_name) between now
      → StopsSo (read_of_file file_name) between now ending
      → AreFirstReads (both_reads plan_name file_name) before now ending
  file_stops stopped so = inr (inr (
    between,
    record { bytes = text; is_read = plan; told = told; faults = faults },
    inr (inl (stopped, so)),
  ))

  -- the file gave its bytes, too
  pub both_whole : (file : List ℕ) → IsRead file_name file_limit between now file → now.told ≡ between.told
      → between.faults ≤ now.faults → AreFirstReads (both_reads plan_name file_name) before now ending
  both_whole file read told_then faults_then = inr (inr (
    between,
    record { bytes = text; is_read = plan; told = told; faults = faults },
    inr (inr (now, record { bytes = file; is_read = read; told = told_then; faults = faults_then }, refl)),
  ))
