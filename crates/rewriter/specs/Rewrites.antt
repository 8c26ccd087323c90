-- What the rewriting of a file by a plan comes to.
use Rattle.std.specs.Prelude.{◌≡◌, ℕ, ◌≤◌, List, length, Option, None, option_map}
use Rattle.plan_core.specs.declared.types.Plan.{Plan}
use Rattle.site_spec.specs.Plans.{Fits}
use Rattle.new_file_spec.specs.Rewritten.{NewFile}
use Rattle.elf_read.specs.Elf.{IsReadable}
use Rattle.first_check.specs.First.{◌or_else◌}
use Rattle.elf_write.specs.Kept.{AreFieldsAlone}
use Rattle.exec_image.specs.PlanFaults.{plan_fault}
use Rattle.exec_image.specs.Refusals.{file_refusal}
use Rattle.match_spec.specs.Keeps.{Keeps}
use Rattle.match_spec.specs.Same.{DoesTheSame}
use Rattle.match_spec.specs.Steps.{FollowsEachTurn}
use Rattle.rewriter.specs.declared.refusal.RewriteRefusal.{RewriteRefusal}
use Rattle.rewriter.specs.declared.refusal.RewriteRefusal.TheVariants.{File, Plan as Misfit}

-- why a file isn't rewritten by a plan: the first check that the file fails, then the first that the
-- plan fails
abbrev pub rewrite_refusal : List ℕ → Plan → Option RewriteRefusal
rewrite_refusal file plan = option_map File (file_refusal file) or_else option_map Misfit (plan_fault file plan)

-- a file is rewritten by a plan as a new file
pub record IsRewritten (file : List ℕ) (plan : Plan) (new : List ℕ) : Type 0 where
  -- nothing refuses the file and the plan, which fits
  pub due : rewrite_refusal file plan ≡ None
  pub fits : Fits file plan
  pub is_new : NewFile file plan new
  -- the new file keeps the behaviour of the file: it writes the same, leaves the same input and ends alike,
  -- and from all states that match, each turn of the file is followed
  pub keeps : Keeps file plan new
  pub same : DoesTheSame file plan new
  pub follows : FollowsEachTurn file plan new
  -- it is readable, where neither the section headers of the file, nor its symbols or their strings lie over
  -- the two fields of the file header that change, and is short enough to be run
  pub readable : AreFieldsAlone file → IsReadable new
  pub short : length new ≤ 34603008
