-- `self N`: the generated program is profiled, rewritten by a plan of its profile and run again: to which ending the
-- two runs bring the command, and what it writes.
use Rattle.std.specs.Prelude.{◌≡◌, ℕ, ℤ, List, [], ◌++◌, length, MatchOption, Some, codes, decimal}
use Rattle.plan_core.specs.declared.types.Area.{Area}
use Rattle.plan_core.specs.declared.types.Plan.{Plan}
use Rattle.plan_core.specs.declared.profiles.Profile.{Profile}
use Rattle.group_policy.specs.declared.cut.Cut.{Cut}
use Rattle.grouping.specs.declared.making.Options.{Options}
use Rattle.affinity.specs.Histories.{contexts_of}
use Rattle.exec_image.specs.Refusals.{file_refusal}
use Rattle.rewriter.specs.Rewrites.{IsRewritten}
use Rattle.heap_trace.specs.Profiles.{IsProfileOf}
use Rattle.plan_making.specs.Plans.{IsPlanFor}
use Rattle.rv_build.specs.Generated.{generated}
use Rattle.halo_outside.specs.Seen.{Contents, FilesSeen}
use Rattle.endings.specs.declared.endings.Ending.{Ending}
use Rattle.endings.specs.declared.endings.Ending.TheVariants.{File, Exited}
use Rattle.endings.specs.declared.endings.BadFile.TheVariants.{Refused}
use Rattle.halo_words.specs.Grammar.{Given}
use Rattle.halo_cli.specs.Options.{Policies, default_policy, place_named}
use Rattle.halo_cli.specs.Generate.{nodes_in}
use Rattle.halo_cli.specs.Runs.{IsRunEnd}
use Rattle.halo_cli.specs.Run.{run_of_file}
use Rattle.halo_cli.specs.Profiling.{area_run, ComesBehind}
use Rattle.halo_cli.specs.Entry.{Entry, text_entry}

-- the area and the options that stand where a line gives none; the distance of the profile, and the most steps of a run
abbrev pub default_area : Area
default_area = record { chunks = 64; log_chunk = 8; fallback = 65536 }

abbrev pub default_options : Options
default_options = record { tolerance = 50; least_edge = 1 }

abbrev pub self_distance : ℕ
self_distance = 4

abbrev pub most_steps : ℕ
most_steps = 4294967295

-- the run of the generated program, the source, on an empty input
abbrev pub IsSourceEnd : ℕ → Ending → Type 0
IsSourceEnd nodes ending = IsRunEnd (area_run (generated nodes) default_area) [] most_steps ending

-- the run of a new file, on an empty input, too
abbrev pub IsNewEnd : List ℕ → Ending → Type 0
IsNewEnd new ending = IsRunEnd (run_of_file new) [] most_steps ending

-- the source exited, and this file is the source, rewritten by a plan of its profile
pub record SelfMade (answers : Cut → ℤ → Type 0) (nodes : ℕ) (new : List ℕ) : Type 0 where
  pub status : ℕ
  pub steps : ℕ
  pub exits : IsSourceEnd nodes (Exited status steps)
  pub profile : Profile
  pub is_profile : IsProfileOf (generated nodes) default_area [] steps self_distance profile
  pub groups : List (List ℕ)
  pub plan : Plan
  pub is_plan : IsPlanFor answers profile default_area default_options groups plan
  pub is_new : IsRewritten (generated nodes) plan new

-- ---- how it ends

-- behind the exit of the source the new file decides; another end of the source is that of the command
abbrev pub BehindSource : (Ending → Type 0) → Ending → Ending → Type 0
BehindSource NewDecides (Exited status steps) ending = NewDecides ending
BehindSource NewDecides end ending = ending ≡ end

abbrev pub SelfEnds : ℕ → (Ending → Type 0) → Ending → Type 0
SelfEnds nodes NewDecides ending = MatchOption (file_refusal (generated nodes))
    ((end : Ending) × IsSourceEnd nodes end × BehindSource NewDecides end ending)
    (λ why. ending ≡ File (Refused why))

-- one new file that was made brings it there
abbrev pub SelfEndsBy : (Cut → ℤ → Type 0) → ℕ → Ending → Type 0
SelfEndsBy answers nodes = SelfEnds nodes
    (λ ending. (new : List ℕ) × SelfMade answers nodes new × ComesBehind (IsNewEnd new) ending)

abbrev pub SelfBrings : Policies → Given → FilesSeen → FilesSeen → Ending → Type 0
SelfBrings policies given before now ending = (k : ℕ) × (place_named policies.names default_policy ≡ Some k)
    × SelfEndsBy (policies.answers k) (nodes_in given) ending

-- whatever files and input tell, the command comes to this ending: behind the source's exit each new file that may be
-- made brings it there
abbrev pub SelfComes : Policies → Given → Contents → Ending → Type 0
SelfComes policies given contents = SelfEnds (nodes_in given)
    (λ ending. (k : ℕ) (new : List ℕ) → place_named policies.names default_policy ≡ Some k
    → SelfMade (policies.answers k) (nodes_in given) new → ComesBehind (IsNewEnd new) ending)

-- ---- what it writes

-- a number between two texts
unfoldable pub number_between : List ℕ → ℕ → List ℕ → List ℕ
number_between before n behind = before ++ (decimal n ++ behind)

-- the lines, by what they count
abbrev pub self_text : (nodes status steps grants groups rows result : ℕ) → List ℕ
self_text nodes status steps grants groups rows result =
    number_between (codes "self ") nodes (codes "\n")
    ++ (number_between (codes "source exit ") status (codes " after ")
    ++ (number_between [] steps (codes " steps\n")
    ++ (number_between (codes "grants ") grants (codes "\n")
    ++ (number_between (codes "groups ") groups (codes "\n")
    ++ (number_between (codes "rows ") rows (codes "\n")
    ++ number_between (codes "result exit ") result (codes "\n"))))))

-- the source's exit, the blocks that were granted to it, the groups and the rows of its plan, and the new file's exit
abbrev pub SelfWritten : (answers : Cut → ℤ → Type 0) (nodes : ℕ) → List ℕ → Type 0
SelfWritten answers nodes text = (new : List ℕ) × (made : SelfMade answers nodes new) × (result : ℕ)
    × (result_steps : ℕ) × IsNewEnd new (Exited result result_steps)
    × (text ≡ self_text nodes made.status made.steps (length (contexts_of made.is_profile.events)) (length made.groups)
    (length made.plan.rows) result)

abbrev pub SelfWrites : Policies → Given → FilesSeen → FilesSeen → List ℕ → Type 0
SelfWrites policies given before now text = (k : ℕ) × (place_named policies.names default_policy ≡ Some k)
    × SelfWritten (policies.answers k) (nodes_in given) text

-- the command, which reads nothing
abbrev pub self_entry : Policies → Entry
self_entry policies = text_entry (codes "self") (λ given. [])
    (SelfComes policies) (SelfBrings policies) (SelfWrites policies)
