-- A new file is short and readable, so its run comes to what a run may come to.
use Rattle.std.proofs.Common.{◌≡◌, ℕ, List, Option, None, Some, subst}
use Rattle.std.specs.Prelude.{MatchOption}
use Rattle.halo_outside.specs.Seen.{Contents, contents_of}
use Rattle.plan_core.specs.declared.types.Plan.{Plan}
use Rattle.elf_read.specs.declared.refusals.ElfRefusal.{ElfRefusal}
use Rattle.elf_write.specs.Kept.{AreFieldsAlone}
use Rattle.exec_image.specs.declared.refusals.FileRefusal.TheVariants.{Elf}
use Rattle.rewriter.specs.Rewrites.{IsRewritten}
use Rattle.endings.specs.declared.endings.BadFile.{BadFile}
use Rattle.endings.specs.declared.endings.BadFile.TheVariants.{Refused}
use Rattle.endings.specs.declared.endings.Ending.TheVariants.{File}
use Rattle.halo_cli.specs.Reads.{run_limit}
use Rattle.halo_cli.specs.Runs.{InputEnds}
use Rattle.halo_cli.specs.Run.{run_of_file, FileRuns, RunComes}
use Rattle.halo_cli.proofs.ReadsDue.{of_told_comes}
use Rattle.halo_cli.proofs.headline.new_files_are_taken_by_run.Goals as goal

-- no run ends with a refusal of the file
no_refusal : (input : Option (List ℕ)) (steps : ℕ) (new : List ℕ) (why : BadFile)
    → InputEnds input steps (run_of_file new) (File why) → ⊥
no_refusal None steps new why ends = ends
no_refusal (Some given) steps new why ends = ends

taken : (file : List ℕ) (plan : Plan) (new : List ℕ) → IsRewritten file plan new → AreFieldsAlone file
    → (steps : ℕ) (name : List ℕ) (contents : Contents) (input : Option (List ℕ)) (why : BadFile)
    → contents_of contents name ≡ Some new → RunComes steps name contents input (File why) → ⊥
taken file plan new is alone steps name contents input why told comes =
    no_refusal input steps new why
    (subst (λ (o : Option ElfRefusal). MatchOption o (InputEnds input steps (run_of_file new) (File why))
    (λ e. File why ≡ File (Refused (Elf e)))) (is.readable alone)
    (of_told_comes run_limit (λ file. FileRuns file (InputEnds input steps (run_of_file file))) contents name new
    (File why) told is.short comes))

pub returns : goal.returns
returns c = taken
