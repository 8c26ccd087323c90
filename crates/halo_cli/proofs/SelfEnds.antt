-- The two runs of `self`, over an empty source and a sink that drops what it takes, and what is made between them.
use Rattle.std.proofs.Common.{◌≡◌, ◌∙◌, ◌⊎◌, ℕ, ℤ, ◌<◌, ◌≤◌, ◌^◌, inl, inr, List, [], length, Option, None, Some}
use Rattle.std.proofs.Common.{MatchOption, refl, sym, ap, subst, arith}
use Rattle.std.specs.Prelude.{sum_by}
use Rattle.halo_outside.specs.Seen.{count_after, Rose, SourceSeen, SinkSeen}
use Rattle.plan_core.specs.declared.types.Plan.{Plan}
use Rattle.plan_core.specs.declared.profiles.Event.{Event}
use Rattle.plan_core.specs.declared.profiles.Graph.{Graph}
use Rattle.group_policy.specs.declared.cut.Cut.{Cut}
use Rattle.affinity.specs.Graphs.{IsGraph}
use Rattle.affinity.specs.Histories.{Legal, contexts_of}
use Rattle.exec_image.specs.declared.refusals.FileRefusal.{FileRefusal}
use Rattle.exec_image.specs.Refusals.{file_refusal}
use Rattle.exec_image.specs.Images.{IsAccepted}
use Rattle.rewriter.specs.Rewrites.{IsRewritten}
use Rattle.heap_trace.specs.declared.profiles.Profiled.{Profiled}
use Rattle.heap_trace.specs.Profiles.{plan_of_area, IsProfileOf}
use Rattle.heap_trace.specs.Events.{Traced}
use Rattle.heap_trace.specs.Traces.{Traces}
use Rattle.plan_making.specs.Plans.{IsPlanFor}
use Rattle.rv_build.specs.Generated.{generated}
use Rattle.endings.specs.declared.endings.Ending.{Ending}
use Rattle.endings.specs.declared.endings.Ending.TheVariants.{Done, File, Plan as BadPlan, Profile as BadProfile}
use Rattle.endings.specs.declared.endings.Ending.TheVariants.{ReadFault, WriteFault, Memory, Usage, Exited}
use Rattle.endings.specs.declared.endings.Ending.TheVariants.{StillRunning, Fault, Illegal}
use Rattle.endings.specs.declared.endings.BadFile.TheVariants.{Refused}
use Rattle.flat_spec.specs.Machine.{start}
use Rattle.flat_machine.specs.Seen.{FlatSeen, between}
use Rattle.flat_machine.specs.Runs.{EndsAs, Ran}
use Rattle.machine_run.specs.declared.RunEnd.{RunEnd}
use Rattle.machine_run.specs.declared.RunEnd.TheVariants as run_end
use Rattle.machine_run.specs.Runs.{Writes}
use Rattle.halo_cli.specs.World.{Outside}
use Rattle.halo_cli.specs.Run.{run_of_file}
use Rattle.halo_cli.specs.RunEnds.{ending_of_run}
use Rattle.halo_cli.proofs.FlatRuns.{flat_ran}
use Rattle.halo_cli.specs.Writing.{IsStop}
use Rattle.halo_cli.specs.Runs.{Run, IsRunEnd, RunsTo, RanTo}
use Rattle.halo_cli.specs.Profiling.{area_run, ComesBehind, IsProfileBy, RunProfiled, RunStopped, FileStops}
use Rattle.halo_cli.specs.SelfRun.{default_area, default_options, self_distance, most_steps, IsSourceEnd, IsNewEnd}
use Rattle.halo_cli.specs.SelfRun.{SelfMade, BehindSource, SelfEndsBy, SelfWritten, self_text}

-- the outside of a run whose input is this source and whose output is this sink
abbrev pub alone : SourceSeen → SinkSeen → Outside
alone input out = record { files = record { told = None; faults = 0; taken = 0 }; input = input; out = out }

never_rose : Rose 0 0 → ⊥
never_rose rose = let one : count_after 0 1 ≡ 1 = refl in omega (arith, one, rose)

-- ---- the run of the new file

-- a run over a source that is empty and never fails, and a sink that never does, ends as on the empty input
pub sure_end : (run : Run) (bound : ℕ) (before now : Outside) (ending : Ending) → before.input.told ≡ Some []
    → before.input.faults ≡ 0 → now.input.faults ≡ 0 → before.out.faults ≡ 0 → now.out.faults ≡ 0
    → (run.lacks → ⊥) → RanTo run bound before now ending → IsRunEnd run [] bound ending
sure_end run bound before now (Exited status steps) told a b c d lacks ran =
    subst (λ (o : Option (List ℕ)). RunsTo o bound run (Exited status steps)) told ran.0
sure_end run bound before now (StillRunning steps) told a b c d lacks ran =
    subst (λ (o : Option (List ℕ)). RunsTo o bound run (StillRunning steps)) told ran.0
sure_end run bound before now (Fault kind at steps) told a b c d lacks ran =
    subst (λ (o : Option (List ℕ)). RunsTo o bound run (Fault kind at steps)) told ran.0
sure_end run bound before now (Illegal at steps) told a b c d lacks ran =
    subst (λ (o : Option (List ℕ)). RunsTo o bound run (Illegal at steps)) told ran.0
sure_end run bound before now ReadFault told a b c d lacks ran =
    absurd (never_rose (subst (λ n. Rose n 0) a (subst (λ n. Rose before.input.faults n) b ran.0)))
sure_end run bound before now WriteFault told a b c d lacks ran =
    absurd (never_rose (subst (λ n. Rose n 0) c (subst (λ n. Rose before.out.faults n) d ran.0)))
sure_end run bound before now Memory told a b c d lacks ran = absurd (lacks ran.0)
sure_end run bound before now Done told a b c d lacks ran = absurd ran
sure_end run bound before now (Usage place) told a b c d lacks ran = absurd ran
sure_end run bound before now (File why) told a b c d lacks ran = absurd ran
sure_end run bound before now (BadPlan why) told a b c d lacks ran = absurd ran
sure_end run bound before now (BadProfile why) told a b c d lacks ran = absurd ran

-- the answer of the machine that ran the new file: its source, of which this is left, and its sink never fail
pub new_end : (file : List ℕ) (input : SourceSeen) (left : Option (List ℕ)) (out : SinkSeen) (old seen : FlatSeen)
    (end : RunEnd)
    → old ≡ between (start file) [] → input ≡ record { told = Some []; faults = 0; taken = 0 }
    → out ≡ record { told = None; faults = 0 }
    → ((given : List ℕ) → input.told ≡ Some given
    → Ran end most_steps old.machine given seen left (Writes end out (record { told = None; faults = 0 })))
    → EndsAs end most_steps seen → (end ≡ run_end.ReadFault → Rose input.faults 0)
    → (end ≡ run_end.WriteFault → Rose out.faults 0)
    → IsNewEnd file (ending_of_run end most_steps)
new_end file input left out old seen end is source sink ran ends reads writes =
    let input' : SourceSeen = record { told = left; faults = 0; taken = 0 } in
    let out' : SinkSeen = record { told = None; faults = 0 } in
    sure_end (run_of_file file) most_steps (alone input out) (alone input' out') (ending_of_run end most_steps)
    (ap (λ (s : SourceSeen). s.told) source) (ap (λ (s : SourceSeen). s.faults) source) refl
    (ap (λ (s : SinkSeen). s.faults) sink) refl (λ none. none)
    (flat_ran file most_steps (alone input out) (alone input' out') old seen end is ran ends reads writes)

-- an end of a new file's run that isn't an exit stops the command, and is the ending
pub new_stops : (new : List ℕ) (ending : Ending) → IsNewEnd new ending
    → ((status steps : ℕ) → ending ≡ Exited status steps → ⊥) → IsStop ending × ComesBehind (IsNewEnd new) ending
new_stops new (Exited status steps) end other = absurd (other status steps refl)
new_stops new (StillRunning steps) end other = (((λ e. cc), (λ e. cc)), (StillRunning steps, end, refl))
new_stops new (Fault kind at steps) end other = (((λ e. cc), (λ e. cc)), (Fault kind at steps, end, refl))
new_stops new (Illegal at steps) end other = (((λ e. cc), (λ e. cc)), (Illegal at steps, end, refl))
new_stops new ending end other = absurd end

-- ---- the source

module _ (answers : Cut → ℤ → Type 0) (nodes : ℕ) (file : List ℕ) (is : file ≡ generated nodes)
    (input input' : SourceSeen) (out out' : SinkSeen) (told : input.told ≡ Some [])
    (never : input.faults ≡ 0) (never' : input'.faults ≡ 0) where
  -- a source that gave no profile stops the command so
  source_so : IsAccepted (generated nodes) → (end : Ending) → IsSourceEnd nodes end
      → ((status steps : ℕ) → end ≡ Exited status steps → ⊥) → SelfEndsBy answers nodes end
  source_so accepted end source other =
      subst (λ (found : Option FileRefusal). MatchOption found ((e : Ending) × IsSourceEnd nodes e
      × BehindSource (λ e. (new : List ℕ) × SelfMade answers nodes new × ComesBehind (IsNewEnd new) e) e end)
      (λ why. end ≡ File (Refused why))) (sym accepted) (end, source, behind end other)
    where
      behind : (e : Ending) → ((status steps : ℕ) → e ≡ Exited status steps → ⊥)
          → BehindSource (λ e. (new : List ℕ) × SelfMade answers nodes new × ComesBehind (IsNewEnd new) e) e e
      behind (Exited status steps) other = absurd (other status steps refl)
      behind Done other = refl
      behind (Usage place) other = refl
      behind (File why) other = refl
      behind (BadPlan why) other = refl
      behind (BadProfile why) other = refl
      behind ReadFault other = refl
      behind WriteFault other = refl
      behind Memory other = refl
      behind (StillRunning steps) other = refl
      behind (Fault kind at steps) other = refl
      behind (Illegal at steps) other = refl

  abbrev Stopped : Ending → Type 0
  Stopped ending = RunStopped (area_run file default_area) most_steps (alone input out) (alone input' out') ending

  by_source : (ending : Ending) → RunsTo input.told most_steps (area_run file default_area) ending
      → IsSourceEnd nodes ending
  by_source ending runs = subst (λ f. IsRunEnd (area_run f default_area) [] most_steps ending) is
      (subst (λ (o : Option (List ℕ)). RunsTo o most_steps (area_run file default_area) ending) told runs)

  run_stops : IsAccepted file → (ending : Ending) → Stopped ending
      → IsStop ending × (SelfEndsBy answers nodes ending ⊎ (ending ≡ Memory))
  run_stops accepted (StillRunning steps) stopped = (
    ((λ e. cc), (λ e. cc)),
    inl (source_so (subst IsAccepted is accepted) (StillRunning steps)
        (by_source (StillRunning steps) stopped.0) (λ s n e. cc)),
  )
  run_stops accepted (Fault kind at steps) stopped = (
    ((λ e. cc), (λ e. cc)),
    inl (source_so (subst IsAccepted is accepted) (Fault kind at steps)
        (by_source (Fault kind at steps) stopped.0) (λ s n e. cc)),
  )
  run_stops accepted (Illegal at steps) stopped = (
    ((λ e. cc), (λ e. cc)),
    inl (source_so (subst IsAccepted is accepted) (Illegal at steps)
        (by_source (Illegal at steps) stopped.0) (λ s n e. cc)),
  )
  run_stops accepted ReadFault stopped =
      absurd (never_rose (subst (λ n. Rose n 0) never (subst (λ n. Rose input.faults n) never' stopped.0)))
  run_stops accepted Memory stopped = (((λ e. cc), (λ e. cc)), inr refl)
  run_stops accepted ending stopped = absurd stopped

  pub source_stops : (ending : Ending)
      → FileStops file default_area most_steps (alone input out) (alone input' out') ending
      → IsStop ending × (SelfEndsBy answers nodes ending ⊎ (ending ≡ Memory))
  source_stops ending (inl (memory, same)) =
      subst (λ e. IsStop e × (SelfEndsBy answers nodes e ⊎ (e ≡ Memory))) (sym memory)
      (((λ e. cc), (λ e. cc)), inr refl)
  source_stops ending (inr (inl (why, refused, so, same))) =
      subst (λ e. IsStop e × (SelfEndsBy answers nodes e ⊎ (e ≡ Memory))) (sym so) (
        ((λ e. cc), (λ e. cc)),
        inl (subst (λ (found : Option FileRefusal). MatchOption found ((e : Ending) × IsSourceEnd nodes e
            × BehindSource (λ e. (new : List ℕ) × SelfMade answers nodes new × ComesBehind (IsNewEnd new) e) e
            (File (Refused why))) (λ other. File (Refused why) ≡ File (Refused other)))
            (sym (subst (λ f. file_refusal f ≡ Some why) is refused)) refl),
      )
  source_stops ending (inr (inr (accepted, stopped))) = run_stops accepted ending stopped

  -- ---- what is made of it

  module _ (p : Profiled)
      (ran : RunProfiled file default_area self_distance most_steps (alone input out) (alone input' out') p)
      (groups : List (List ℕ)) (plan : Plan)
      (is_plan : IsPlanFor answers p.profile default_area default_options groups plan)
      (new : List ℕ) (is_new : IsRewritten file plan new) where
    exits : IsSourceEnd nodes (Exited p.status p.steps)
    exits = by_source (Exited p.status p.steps) ran.exits

    profile : IsProfileOf (generated nodes) default_area [] p.steps self_distance p.profile
    profile = subst (λ f. IsProfileOf f default_area [] p.steps self_distance p.profile) is
        (subst (λ (o : Option (List ℕ)). IsProfileBy o file default_area p.steps self_distance p.profile) told
        ran.profile)

    pub made : SelfMade answers nodes new
    made = record {
      status = p.status;
      steps = p.steps;
      exits = exits;
      profile = p.profile;
      is_profile = profile;
      groups = groups;
      plan = plan;
      is_plan = is_plan;
      is_new = subst (λ f. IsRewritten f plan new) is is_new;
    }

    -- another end of the new file's run brings the command to its ending
    pub new_so : IsAccepted file → (ending : Ending) → ComesBehind (IsNewEnd new) ending
        → SelfEndsBy answers nodes ending
    new_so accepted ending behind =
        subst (λ (found : Option FileRefusal). MatchOption found ((e : Ending) × IsSourceEnd nodes e
        × BehindSource (λ e. (new : List ℕ) × SelfMade answers nodes new × ComesBehind (IsNewEnd new) e) e ending)
        (λ why. ending ≡ File (Refused why))) (sym (subst IsAccepted is accepted))
        (Exited p.status p.steps, exits, (new, made, behind))

    -- or memory was wanting for it
    pub new_or_memory : IsAccepted file → (ending : Ending)
        → ComesBehind (IsNewEnd new) ending ⊎ (ending ≡ Memory)
        → SelfEndsBy answers nodes ending ⊎ (ending ≡ Memory)
    new_or_memory accepted ending (inl behind) = inl (new_so accepted ending behind)
    new_or_memory accepted ending (inr is) = inr is

    module _ (legal : (f : List ℕ) (g : Plan) (given : List ℕ) (n : ℕ) (t : Traced) (events : List Event)
        → n ≤ 4294967295 → Traces f g given n t events → Legal events)
        (once : (distance : ℕ) (h : List Event) (g : Graph) → Legal h → IsGraph distance h g
        → sum_by (λ node. node.grants) g.nodes ≡ length (contexts_of h))
        (few : (h : List Event) → Legal h → length (contexts_of h) < 2 ^ 32) where
      events_legal : Legal profile.events
      events_legal = legal (generated nodes) (plan_of_area default_area) [] p.steps profile.trace profile.events exits.0
          profile.traced

      grants : sum_by (λ node. node.grants) p.profile.graph.nodes ≡ length (contexts_of profile.events)
      grants = once self_distance profile.events p.profile.graph events_legal profile.graph

      pub few_grants : sum_by (λ node. node.grants) p.profile.graph.nodes < 2 ^ 64
      few_grants = omega (arith, grants, few profile.events events_legal)

      pub written : (status steps : ℕ) → IsNewEnd new (Exited status steps) → (text : List ℕ)
          → text ≡ self_text nodes p.status p.steps (sum_by (λ node. node.grants) p.profile.graph.nodes)
          (length groups) (length plan.rows) status
          → SelfWritten answers nodes text
      unfolding made profile
      written status steps end text so = (
        new,
        made,
        status,
        steps,
        end,
        so ∙ ap (λ n. self_text nodes p.status p.steps n (length groups) (length plan.rows) status) grants,
      )
