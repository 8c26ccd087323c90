-- `self` comes to one ending, whatever is told, and what was made brings it there.
use Rattle.std.proofs.Common.{◌≡◌, ◌∙◌, ℕ, ℤ, [], List, Option, None, Some, MatchOption, codes, sym, ap, subst}
use Rattle.halo_outside.specs.Seen.{Contents, FilesSeen}
use Rattle.group_policy.specs.declared.cut.Cut.{Cut}
use Rattle.exec_image.specs.declared.refusals.FileRefusal.{FileRefusal}
use Rattle.exec_image.specs.Refusals.{file_refusal}
use Rattle.rv_build.specs.Generated.{generated}
use Rattle.heap_trace.specs.Profiles.{plan_of_area}
use Rattle.endings.specs.declared.endings.Ending.{Ending}
use Rattle.endings.specs.declared.endings.Ending.TheVariants.{Done, File, Plan, Profile, ReadFault, WriteFault, Memory}
use Rattle.endings.specs.declared.endings.Ending.TheVariants.{Usage, Exited, StillRunning, Fault, Illegal}
use Rattle.endings.specs.declared.endings.BadFile.TheVariants.{Refused}
use Rattle.halo_words.specs.Grammar.{Given}
use Rattle.halo_cli.specs.Options.{Policies, default_policy, place_named}
use Rattle.halo_cli.specs.Generate.{nodes_in}
use Rattle.halo_cli.specs.Run.{run_of_file}
use Rattle.halo_cli.specs.Profiling.{area_run, behind_run, ComesBehind}
use Rattle.halo_cli.specs.SelfRun.{default_area, most_steps, IsSourceEnd, IsNewEnd, SelfMade, BehindSource, SelfEnds}
use Rattle.halo_cli.specs.SelfRun.{SelfEndsBy, SelfComes, SelfBrings, SelfWrites, self_entry}
use Rattle.halo_cli.proofs.CommandLaws.{Laws, text_laws_by}
use Rattle.halo_cli.proofs.RunsOnce.{run_end_once}
use Rattle.halo_cli.proofs.RunDue.{file_goes_on}
use Rattle.halo_cli.proofs.SymbolsDue.{plan_goes_on}
use Rattle.halo_cli.proofs.ProfilingDue.{IsBehind, may_behind}

source_once : (nodes : ℕ) (a b : Ending) → IsSourceEnd nodes a → IsSourceEnd nodes b → a ≡ b
source_once nodes = run_end_once (area_run (generated nodes) default_area)
    (plan_goes_on (generated nodes) (plan_of_area default_area)) [] most_steps

new_once : (new : List ℕ) (a b : Ending) → ComesBehind (IsNewEnd new) a → ComesBehind (IsNewEnd new) b → a ≡ b
new_once new a b (end, ends, is) (end', ends', is') =
    is ∙ (ap behind_run (run_end_once (run_of_file new) (file_goes_on new) [] most_steps end end' ends ends') ∙ sym is')

-- behind the source the endings of two that decide agree where these do
behind_once : (A B : Ending → Type 0) → ((a b : Ending) → A a → B b → a ≡ b) → (end a b : Ending)
    → BehindSource A end a → BehindSource B end b → a ≡ b
behind_once A B once (Exited status steps) a b at_a at_b = once a b at_a at_b
behind_once A B once Done a b at_a at_b = at_a ∙ sym at_b
behind_once A B once (Usage place) a b at_a at_b = at_a ∙ sym at_b
behind_once A B once (File why) a b at_a at_b = at_a ∙ sym at_b
behind_once A B once (Plan why) a b at_a at_b = at_a ∙ sym at_b
behind_once A B once (Profile why) a b at_a at_b = at_a ∙ sym at_b
behind_once A B once ReadFault a b at_a at_b = at_a ∙ sym at_b
behind_once A B once WriteFault a b at_a at_b = at_a ∙ sym at_b
behind_once A B once Memory a b at_a at_b = at_a ∙ sym at_b
behind_once A B once (StillRunning steps) a b at_a at_b = at_a ∙ sym at_b
behind_once A B once (Fault kind at steps) a b at_a at_b = at_a ∙ sym at_b
behind_once A B once (Illegal at steps) a b at_a at_b = at_a ∙ sym at_b

ends_once : (nodes : ℕ) (A B : Ending → Type 0) → ((a b : Ending) → A a → B b → a ≡ b)
    → (a b : Ending) → SelfEnds nodes A a → SelfEnds nodes B b → a ≡ b
ends_once nodes A B once a b at_a at_b = by (file_refusal (generated nodes)) at_a at_b
  where
    by : (found : Option FileRefusal)
        → MatchOption found ((end : Ending) × IsSourceEnd nodes end × BehindSource A end a)
        (λ why. a ≡ File (Refused why))
        → MatchOption found ((end : Ending) × IsSourceEnd nodes end × BehindSource B end b)
        (λ why. b ≡ File (Refused why)) → a ≡ b
    by (Some why) at_a at_b = at_a ∙ sym at_b
    by None (end, ends, behind) (end', ends', behind') =
        behind_once A B once end a b behind
        (subst (λ e. BehindSource B e b) (source_once nodes end' end ends' ends) behind')

same_place : {A : Type 0} (o : Option A) (k j : A) → o ≡ Some k → o ≡ Some j → k ≡ j
same_place o k j is is' = let both : Some k ≡ Some j = sym is ∙ is' in cc

module _ (policies : Policies) where
  self_due : (given : Given) (contents : Contents) (before now : FilesSeen) (due brought : Ending)
      → SelfComes policies given contents due → SelfBrings policies given before now brought → brought ≡ due
  self_due given contents before now due brought comes (k, is, ends) =
      ends_once (nodes_in given)
      (λ e. (new : List ℕ) × SelfMade (policies.answers k) (nodes_in given) new × ComesBehind (IsNewEnd new) e)
      (λ e. (j : ℕ) (new : List ℕ) → place_named policies.names default_policy ≡ Some j
      → SelfMade (policies.answers j) (nodes_in given) new → ComesBehind (IsNewEnd new) e)
      (λ a b made all. new_once made.0 a b made.2 (all k made.0 is made.1)) brought due ends comes

-- an ending to which `self` is brought
abbrev IsOfSelf : Ending → Type 0
IsOfSelf (File why) = Unit {0}
IsOfSelf ending = IsBehind ending

behind_self : (ending : Ending) → IsBehind ending → IsOfSelf ending
behind_self (File why) behind = tt
behind_self ending behind = behind

source_self : (nodes : ℕ) (NewDecides : Ending → Type 0) (end ending : Ending)
    → ((e : Ending) → NewDecides e → IsOfSelf e) → IsSourceEnd nodes end → BehindSource NewDecides end ending
    → IsOfSelf ending
source_self nodes NewDecides (Exited status steps) ending new source behind = new ending behind
source_self nodes NewDecides (StillRunning steps) ending new source behind = subst IsOfSelf (sym behind) tt
source_self nodes NewDecides (Fault kind at steps) ending new source behind = subst IsOfSelf (sym behind) tt
source_self nodes NewDecides (Illegal at steps) ending new source behind = subst IsOfSelf (sym behind) tt
source_self nodes NewDecides end ending new source behind = absurd source

new_self : (new : List ℕ) (ending : Ending) → ComesBehind (IsNewEnd new) ending → IsOfSelf ending
new_self new ending (end, ends, is) =
    subst IsOfSelf (sym is) (behind_self (behind_run end) (may_behind (Some []) most_steps (run_of_file new) end ends))

pub ends_self : (answers : Cut → ℤ → Type 0) (nodes : ℕ) (ending : Ending) → SelfEndsBy answers nodes ending
    → IsOfSelf ending
ends_self answers nodes ending ends = by (file_refusal (generated nodes)) ends
  where
    by : (found : Option FileRefusal)
        → MatchOption found ((end : Ending) × IsSourceEnd nodes end × BehindSource (λ e. (new : List ℕ)
        × SelfMade answers nodes new × ComesBehind (IsNewEnd new) e) end ending)
        (λ why. ending ≡ File (Refused why)) → IsOfSelf ending
    by (Some why) is = subst IsOfSelf (sym is) tt
    by None (end, source, behind) = source_self nodes _ end ending (λ e made. new_self made.0 e made.2) source behind

pub self_laws : (policies : Policies) → Laws (self_entry policies)
self_laws policies = text_laws_by (codes "self") (λ given. []) (SelfComes policies) (SelfBrings policies)
    (SelfWrites policies)
    (λ given contents before now due brought told comes brings.
    self_due policies given contents before now due brought comes brings)
    (λ given before now brings. absurd (ends_self (policies.answers brings.0) (nodes_in given) ReadFault brings.2))
    (λ given before now exit steps brings.
    ends_self (policies.answers brings.0) (nodes_in given) (Exited exit steps) brings.2)
