-- What is told brings a command that profiles a run to one ending, and what was read brings it there.
use Rattle.std.proofs.Common.{◌≡◌, ◌∙◌, ◌⊎◌, ℕ, inl, inr, List, Option, None, Some, MatchOption, refl, sym, ap, subst}
use Rattle.std.proofs.Common.{arith}
use Rattle.halo_outside.specs.Seen.{Contents, contents_of, IsToldAt}
use Rattle.plan_core.specs.declared.profiles.Profile.{Profile}
use Rattle.exec_image.specs.declared.refusals.FileRefusal.{FileRefusal}
use Rattle.exec_image.specs.Refusals.{file_refusal}
use Rattle.heap_trace.specs.Profiles.{plan_of_area}
use Rattle.endings.specs.declared.endings.Ending.{Ending}
use Rattle.endings.specs.declared.endings.Ending.TheVariants.{Done, File, Plan, Profile as BadProfile, ReadFault}
use Rattle.endings.specs.declared.endings.Ending.TheVariants.{WriteFault, Memory, Usage, Exited, StillRunning, Fault}
use Rattle.endings.specs.declared.endings.Ending.TheVariants.{Illegal}
use Rattle.endings.specs.declared.endings.BadFile.TheVariants.{Refused}
use Rattle.endings.specs.Endings.{status_of}
use Rattle.halo_words.specs.Grammar.{Given, operand_in}
use Rattle.halo_cli.specs.World.{Outside, World}
use Rattle.halo_cli.specs.Writing.{IsUnmoved}
use Rattle.halo_cli.specs.Reads.{file_limit}
use Rattle.halo_cli.specs.Options.{area_in}
use Rattle.halo_cli.specs.Runs.{Run, InputEnds, RunsTo, steps_in}
use Rattle.halo_cli.specs.Profiling.{area_run, behind_run, ComesBehind, FileComesBehind, ProfilingComes}
use Rattle.halo_cli.specs.Profiling.{ProfilingBrings, ProfilingStops, ProfilingWrites, ProfilingLacks, profiling_entry}
use Rattle.halo_cli.proofs.ReadsDue.{file_once, told_comes, of_told_comes, no_file_comes, lacks_told}
use Rattle.halo_cli.proofs.CommandLaws.{IsSilent, Laws}
use Rattle.halo_cli.proofs.RunsOnce.{input_once, known_run}
use Rattle.halo_cli.proofs.SymbolsDue.{plan_goes_on}

-- an ending to which a run brings such a command
abbrev pub IsBehind : Ending → Type 0
IsBehind Done = Unit {0}
IsBehind (StillRunning steps) = Unit {0}
IsBehind (Fault kind at steps) = Unit {0}
IsBehind (Illegal at steps) = Unit {0}
IsBehind ending = ⊥

pub may_behind : (input : Option (List ℕ)) (bound : ℕ) (run : Run) (end : Ending) → RunsTo input bound run end
    → IsBehind (behind_run end)
may_behind input bound run (Exited status steps) runs = tt
may_behind input bound run (StillRunning steps) runs = tt
may_behind input bound run (Fault kind at steps) runs = tt
may_behind input bound run (Illegal at steps) runs = tt
may_behind None bound run Done runs = absurd runs
may_behind None bound run (Usage place) runs = absurd runs
may_behind None bound run (File why) runs = absurd runs
may_behind None bound run (Plan why) runs = absurd runs
may_behind None bound run (BadProfile why) runs = absurd runs
may_behind None bound run ReadFault runs = absurd runs
may_behind None bound run WriteFault runs = absurd runs
may_behind None bound run Memory runs = absurd runs
may_behind (Some given) bound run Done runs = absurd runs
may_behind (Some given) bound run (Usage place) runs = absurd runs
may_behind (Some given) bound run (File why) runs = absurd runs
may_behind (Some given) bound run (Plan why) runs = absurd runs
may_behind (Some given) bound run (BadProfile why) runs = absurd runs
may_behind (Some given) bound run ReadFault runs = absurd runs
may_behind (Some given) bound run WriteFault runs = absurd runs
may_behind (Some given) bound run Memory runs = absurd runs

-- an ending to which what was read brings it
abbrev pub IsBrought : Ending → Type 0
IsBrought (File why) = Unit {0}
IsBrought ReadFault = Unit {0}
IsBrought ending = IsBehind ending

behind_brought : (ending : Ending) → IsBehind ending → IsBrought ending
behind_brought (File why) behind = tt
behind_brought ReadFault behind = tt
behind_brought ending behind = behind

-- a file that runs is behind its run, or it is refused
file_behind : (found : Option FileRefusal) (Runs : Ending → Type 0) (ending : Ending)
    → ((end : Ending) → Runs end → IsBehind (behind_run end))
    → MatchOption found (ComesBehind Runs ending) (λ why. ending ≡ File (Refused why)) → IsBrought ending
file_behind None Runs ending behind (end, runs, is) =
    subst IsBrought (sym is) (behind_brought (behind_run end) (behind end runs))
file_behind (Some why) Runs ending behind is = subst IsBrought (sym is) tt

pub brings_brought : (given : Given) (before now : Outside) (ending : Ending) → ProfilingBrings given before now ending
    → IsBrought ending
brings_brought given before now ending (inl (inl (is, lacks))) = subst IsBrought (sym is) tt
brings_brought given before now ending (inl (inr (is, long))) = subst IsBrought (sym is) tt
brings_brought given before now ending (inr (file, read, comes)) =
    file_behind (file_refusal file) (RunsTo before.input.told (steps_in given) (area_run file (area_in given))) ending
    (may_behind before.input.told (steps_in given) (area_run file (area_in given))) comes

-- a run doesn't fail to read by itself
never_fails_behind : (found : Option FileRefusal) (input : Option (List ℕ)) (bound : ℕ) (run : Run)
    → MatchOption found (ComesBehind (RunsTo input bound run) ReadFault) (λ why. ReadFault ≡ File (Refused why)) → ⊥
never_fails_behind None input bound run (end, runs, is) =
    subst IsBehind (sym is) (may_behind input bound run end runs)
never_fails_behind (Some why) input bound run is = cc

behind_once : (found : Option FileRefusal) (Runs : Ending → Type 0) → ((a b : Ending) → Runs a → Runs b → a ≡ b)
    → (a b : Ending)
    → MatchOption found (ComesBehind Runs a) (λ why. a ≡ File (Refused why))
    → MatchOption found (ComesBehind Runs b) (λ why. b ≡ File (Refused why)) → a ≡ b
behind_once None Runs once a b (end, runs, is) (end', runs', is') =
    is ∙ (ap behind_run (once end end' runs runs') ∙ sym is')
behind_once (Some why) Runs once a b at_a at_b = at_a ∙ sym at_b

known_behind : (found : Option FileRefusal) (input : Option (List ℕ)) (bound : ℕ) (run : Run) (due brought : Ending)
    → MatchOption found (ComesBehind (InputEnds input bound run) due) (λ why. due ≡ File (Refused why))
    → MatchOption found (ComesBehind (RunsTo input bound run) brought) (λ why. brought ≡ File (Refused why))
    → MatchOption found (ComesBehind (InputEnds input bound run) brought) (λ why. brought ≡ File (Refused why))
known_behind None input bound run due brought (end, ends, is) (end', runs, is') =
    (end', known_run run input bound end end' ends runs, is')
known_behind (Some why) input bound run due brought at_due at_brought = at_brought

-- what a file comes to on an input
abbrev Decide : Given → Option (List ℕ) → List ℕ → Ending → Type 0
Decide given input file ending =
    FileComesBehind file (InputEnds input (steps_in given) (area_run file (area_in given))) ending

decide_once : (given : Given) (input : Option (List ℕ)) (file : List ℕ) (a b : Ending) → Decide given input file a
    → Decide given input file b → a ≡ b
decide_once given input file a b at_a at_b =
    behind_once (file_refusal file) (InputEnds input (steps_in given) (area_run file (area_in given)))
    (input_once (area_run file (area_in given)) (plan_goes_on file (plan_of_area (area_in given))) input
    (steps_in given)) a b at_a at_b

-- what was read of told contents brings it to what these come to
profiling_told : (given : Given) (contents : Contents) (before now : Outside) (due brought : Ending)
    → before.files.told ≡ Some contents → ProfilingComes given contents before.input.told due
    → ProfilingBrings given before now brought → ProfilingComes given contents before.input.told brought
profiling_told given contents before now due brought told comes (inl none) =
    no_file_comes file_limit (Decide given before.input.told) contents (operand_in given 0) before.files now.files
    brought told none
profiling_told given contents before now due brought told comes (inr (file, read, runs)) =
    let is : contents_of contents (operand_in given 0) ≡ Some file =
    subst (λ seen. IsToldAt seen (operand_in given 0) file) told read.told in
    told_comes file_limit (Decide given before.input.told) contents (operand_in given 0) file brought is read.within
    (known_behind (file_refusal file) before.input.told (steps_in given) (area_run file (area_in given)) due brought
    (of_told_comes file_limit (Decide given before.input.told) contents (operand_in given 0) file due is read.within
    comes) runs)

profiling_due : (given : Given) (contents : Contents) (before now : Outside) (due brought : Ending)
    → before.files.told ≡ Some contents → ProfilingComes given contents before.input.told due
    → ProfilingBrings given before now brought → brought ≡ due
profiling_due given contents before now due brought told comes brings =
    file_once file_limit (Decide given before.input.told) (decide_once given before.input.told)
    (contents_of contents (operand_in given 0)) brought due
    (profiling_told given contents before now due brought told comes brings) comes

-- only told contents lack the file
profiling_lacks : (given : Given) (before now : Outside) → ProfilingBrings given before now ReadFault
    → (contents : Contents) × (before.files.told ≡ Some contents)
    × ProfilingComes given contents before.input.told ReadFault
profiling_lacks given before now (inl (inl (is, lacks))) =
    lacks_told file_limit (Decide given before.input.told) before.files.told (operand_in given 0) lacks
profiling_lacks given before now (inl (inr (is, long))) = absurd (cc)
profiling_lacks given before now (inr (file, read, comes)) =
    absurd (never_fails_behind (file_refusal file) before.input.told (steps_in given)
    (area_run file (area_in given)) comes)

module _ (word : List ℕ) (Writes : Given → List ℕ → Profile → List ℕ → Type 0) where
  -- what it leaves
  abbrev Leaves : Given → Outside → Outside → Ending → Type 0
  Leaves given before now ending =
      ProfilingStops given before now ending ⊎ ProfilingWrites Writes given before now ending

  profiling_done : (given : Given) (before now : World) (ending : Ending) → status_of ending ≡ 0
      → (ending ≡ Done → now.note ≡ before.note) → ProfilingBrings given before.outside now.outside ending
      → Leaves given before.outside now.outside ending
      → (now.note ≡ before.note) × ProfilingWrites Writes given before.outside now.outside Done
  profiling_done given before now Done success quiet brings (inl (out, inl (load, other, input))) =
      absurd (other refl)
  profiling_done given before now Done success quiet brings (inl (out, inr (file, accepts, stopped))) =
      absurd stopped
  profiling_done given before now Done success quiet brings (inr wrote) = (quiet refl, wrote)
  profiling_done given before now (Exited status steps) success quiet brings leaves =
      absurd (brings_brought given before.outside now.outside (Exited status steps) brings)
  profiling_done given before now ending success quiet brings leaves = absurd (omega arith)

  -- a refusal leaves input and out
  profiling_silent : (given : Given) (before now : Outside) (ending : Ending) → IsSilent ending
      → Leaves given before now ending → IsUnmoved before now
  profiling_silent given before now ending one (inl (out, inl (load, other, input))) = (input, out)
  profiling_silent given before now (File why) one (inl (out, inr (file, accepts, stopped))) = absurd stopped
  profiling_silent given before now (Plan why) one (inl (out, inr (file, accepts, stopped))) = absurd stopped
  profiling_silent given before now (BadProfile why) one (inl (out, inr (file, accepts, stopped))) = absurd stopped
  profiling_silent given before now (File why) one (inr wrote) = absurd wrote
  profiling_silent given before now (Plan why) one (inr wrote) = absurd wrote
  profiling_silent given before now (BadProfile why) one (inr wrote) = absurd wrote
  profiling_silent given before now ending (inl is) leaves = absurd (omega arith)
  profiling_silent given before now ending (inr is) leaves = absurd (omega arith)

  -- memory was wanting before the run, or while it ran or after it
  profiling_memory : (given : Given) (before now : Outside) (ending : Ending) → ending ≡ Memory
      → Leaves given before now ending → IsUnmoved before now ⊎ ProfilingLacks given before now
  profiling_memory given before now ending is leaves =
      at (subst (λ e. Leaves given before now e) is leaves)
    where
      at : Leaves given before now Memory → IsUnmoved before now ⊎ ProfilingLacks given before now
      at (inl (out, inl (load, other, input))) = inl (input, out)
      at (inl (out, inr (file, accepts, some))) = inr (out, (file, accepts, some))
      at (inr wrote) = absurd wrote

  pub profiling_laws : Laws (profiling_entry word Writes)
  profiling_laws = record {
    due = profiling_due;
    started = λ given contents before now due told comes started.
        inl (ap status_of (sym (profiling_due given contents before now due Done told comes started)));
    lacking = profiling_lacks;
    done = λ given before now ending success line quiet brings leaves.
        profiling_done given before now ending success quiet brings leaves;
    silent = profiling_silent;
    lacks = profiling_memory;
  }
