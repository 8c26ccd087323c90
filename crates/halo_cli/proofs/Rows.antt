-- The rows of the table of statuses, from how the line ended and how the program ended after it.
use Rattle.std.proofs.Common.{◌≡◌, ◌≢◌, ◌∙◌, ℕ, ◌≤◌, ◌⊎◌, inl, inr, ⊎_elim, List, refl, sym, ap, subst, arith, lit≤}
use Rattle.halo_outside.specs.Seen.{Contents}
use Rattle.machine_spec.specs.declared.FaultKind.{FaultKind}
use Rattle.endings.specs.declared.endings.Ending.{Ending}
use Rattle.endings.specs.declared.endings.Ending.TheVariants.{Done, Usage, File, Plan, Profile, ReadFault, WriteFault}
use Rattle.endings.specs.declared.endings.Ending.TheVariants.{Memory, Exited, StillRunning, Fault, Illegal}
use Rattle.endings.specs.declared.endings.BadFile.{BadFile}
use Rattle.endings.specs.declared.endings.BadPlan.{BadPlan}
use Rattle.endings.specs.declared.endings.BadProfile.{BadProfile}
use Rattle.halo_words.specs.Table.{the_table}
use Rattle.halo_words.specs.Grammar.{Asked, AsksFor, IsLine, IsFirstWrong}
use Rattle.halo_cli.specs.Options.{Policies}
use Rattle.halo_cli.specs.Valid.{Asks, IsValid, IsWrongAt}
use Rattle.endings.specs.Endings.{status_of}
use Rattle.halo_cli.specs.Writing.{IsUnmoved, NotesLine}
use Rattle.halo_cli.specs.Commands.{entry_in}
use Rattle.halo_cli.specs.Reads.{AreTold}
use Rattle.halo_cli.specs.World.{Outside, World, OnlyMoves}
use Rattle.halo_cli.specs.Ends.{HasCauseOf, EndsOf, LineEnds, IsFinished}
use Rattle.halo_cli.specs.Answers.{ToldBring, LineBrings, ReadFailed, OutFailed, NoteFailed, Gives, GivesIfRead}
use Rattle.halo_cli.specs.Answers.{GivesIfRun, Answers}
use Rattle.halo_cli.proofs.CommandLaws.{MayWrite, Laws}
use Rattle.halo_cli.proofs.PlanAndFileDue.{TextsOnce}
use Rattle.halo_cli.proofs.PlanDue.{ProfilesOnce}
use Rattle.halo_cli.proofs.Valid.{valid_once, wrong_is_not_valid}
use Rattle.halo_cli.proofs.Due.{laws_of, unmoved_by}

-- each status is that of one kind of ending

is_usage : (ending : Ending) → status_of ending ≡ 64 → (place : ℕ) × (ending ≡ Usage place)
is_usage (Usage place) is = (place, refl)
is_usage ending is = absurd (omega arith)

is_file : (ending : Ending) → status_of ending ≡ 65 → (why : BadFile) × (ending ≡ File why)
is_file (File why) is = (why, refl)
is_file ending is = absurd (omega arith)

is_plan : (ending : Ending) → status_of ending ≡ 66
    → ((why : BadPlan) × (ending ≡ Plan why)) ⊎ ((why : BadProfile) × (ending ≡ Profile why))
is_plan (Plan why) is = inl (why, refl)
is_plan (Profile why) is = inr (why, refl)
is_plan ending is = absurd (omega arith)

is_read_fault : (ending : Ending) → status_of ending ≡ 67 → ending ≡ ReadFault
is_read_fault ReadFault is = refl
is_read_fault ending is = absurd (omega arith)

is_write_fault : (ending : Ending) → status_of ending ≡ 68 → ending ≡ WriteFault
is_write_fault WriteFault is = refl
is_write_fault ending is = absurd (omega arith)

is_memory : (ending : Ending) → status_of ending ≡ 69 → ending ≡ Memory
is_memory Memory is = refl
is_memory ending is = absurd (omega arith)

is_running : (ending : Ending) → status_of ending ≡ 70 → (steps : ℕ) × (ending ≡ StillRunning steps)
is_running (StillRunning steps) is = (steps, refl)
is_running ending is = absurd (omega arith)

is_fault : (ending : Ending) → status_of ending ≡ 71
    → (kind : FaultKind) × (at : ℕ) × (steps : ℕ) × (ending ≡ Fault kind at steps)
is_fault (Fault kind at steps) is = (kind, at, steps, refl)
is_fault ending is = absurd (omega arith)

is_illegal : (ending : Ending) → status_of ending ≡ 72 → (at : ℕ) × (steps : ℕ) × (ending ≡ Illegal at steps)
is_illegal (Illegal at steps) is = (at, steps, refl)
is_illegal ending is = absurd (omega arith)

status_range : (ending : Ending) → (status_of ending ≡ 0) ⊎ ((64 ≤ status_of ending) × (status_of ending ≤ 72))
status_range Done = inl refl
status_range (Exited status steps) = inl refl
status_range (Usage place) = inr (lit≤ tt, lit≤ tt)
status_range (File why) = inr (lit≤ tt, lit≤ tt)
status_range (Plan why) = inr (lit≤ tt, lit≤ tt)
status_range (Profile why) = inr (lit≤ tt, lit≤ tt)
status_range ReadFault = inr (lit≤ tt, lit≤ tt)
status_range WriteFault = inr (lit≤ tt, lit≤ tt)
status_range Memory = inr (lit≤ tt, lit≤ tt)
status_range (StillRunning steps) = inr (lit≤ tt, lit≤ tt)
status_range (Fault kind at steps) = inr (lit≤ tt, lit≤ tt)
status_range (Illegal at steps) = inr (lit≤ tt, lit≤ tt)

unmoved : (before now : Outside) → now ≡ before → OnlyMoves before now
unmoved before now same = subst (λ outside. OnlyMoves before outside) (sym same) (unmoved_by before)

-- the table holds of a line that ended, and of the program after it, where words ask for one thing, words with a
-- first wrong one are no line, a plan's text has one answer, and a profile's text brings `plan` to one ending
module _ (texts_once : TextsOnce) (profiles_once : ProfilesOnce)
    (asks_once : (words : List (List ℕ)) (a b : Asked) → AsksFor the_table words a → AsksFor the_table words b → a ≡ b)
    (first_wrong_is_no_line : (words : List (List ℕ)) (place : ℕ) → IsFirstWrong the_table words place
    → IsLine the_table words → ⊥)
    (policies : Policies) (words : List (List ℕ)) (before now : World) (ending : Ending) (status : ℕ)
    (ends : LineEnds policies words before.outside now.outside ending)
    (finished : IsFinished ending before.note now.note status) where
  -- the status is that of the ending, and note has its line; or note failed
  noted : ((status ≡ status_of ending) × NotesLine before now ending) ⊎ ((status ≡ 68) × NoteFailed before now)
  noted = ⊎_elim (λ by. inl by) (λ by. inr (by.1, by.2)) finished.noted

  -- at a status but 68 the ending is one of that status
  by_status : status ≢ 68 → (status ≡ status_of ending) × NotesLine before now ending
  by_status other = ⊎_elim (λ by. by) (λ by. absurd (other by.0)) noted

  laws : (asked : Asked) → Laws (entry_in policies asked)
  laws asked = laws_of texts_once profiles_once policies asked

  -- words with a wrong one are no line that is taken
  not_valid : (place : ℕ) → IsWrongAt policies.names words place → IsValid policies.names words → ⊥
  not_valid place = wrong_is_not_valid asks_once first_wrong_is_no_line policies.names words place

  -- what a line asks for ends so
  abbrev EndsSo : Asked → Ending → Type 0
  EndsSo asked ending = EndsOf (entry_in policies asked) asked.given before.outside now.outside ending

  -- its cause
  abbrev CausedSo : Asked → Ending → Type 0
  CausedSo asked ending = HasCauseOf (entry_in policies asked) asked.given before.outside now.outside ending

  -- what was read brings it there
  abbrev BroughtSo : Asked → Ending → Type 0
  BroughtSo asked ending = (entry_in policies asked).brings asked.given before.outside now.outside ending

  -- the line came to a command, unless the ending says that it didn't
  asked_by : (ending : Ending) → LineEnds policies words before.outside now.outside ending
      → status_of ending ≢ 64 → status_of ending ≢ 69
      → (asked : Asked) × Asks policies.names words asked × EndsSo asked ending
  asked_by ending (inl (place, is, wrong, same)) usage memory = absurd (usage (ap status_of is))
  asked_by ending (inr (inl (is, line, same))) usage memory = absurd (memory (ap status_of is))
  asked_by ending (inr (inr command)) usage memory = command

  usage_only : status ≡ 64 → (IsValid policies.names words → ⊥)
      × ((place : ℕ) × IsWrongAt policies.names words place × NotesLine before now (Usage place))
  usage_only is = at ends
    where
      by : (status ≡ status_of ending) × NotesLine before now ending
      by = by_status (λ e. omega arith)

      usage : (place : ℕ) × (ending ≡ Usage place)
      usage = is_usage ending (sym by.0 ∙ is)

      at : LineEnds policies words before.outside now.outside ending
          → (IsValid policies.names words → ⊥)
          × ((place : ℕ) × IsWrongAt policies.names words place × NotesLine before now (Usage place))
      at (inl (place, is_usage', wrong, same)) =
          (not_valid place wrong, (place, wrong, subst (λ e. NotesLine before now e) is_usage' by.1))
      at (inr (inl (is, line, same))) = absurd (let both : Usage usage.0 ≡ Memory = sym usage.1 ∙ is in cc)
      at (inr (inr (asked, asks, command))) =
          absurd (subst (λ e. CausedSo asked e) usage.1 command.cause)

  -- where the words are no line that is taken, the ending says so, or memory was wanting
  not_taken : (IsValid policies.names words → ⊥)
      → (((place : ℕ) × (ending ≡ Usage place)) ⊎ (ending ≡ Memory)) × (now.outside ≡ before.outside)
  not_taken none = at ends
    where
      at : LineEnds policies words before.outside now.outside ending
          → (((place : ℕ) × (ending ≡ Usage place)) ⊎ (ending ≡ Memory)) × (now.outside ≡ before.outside)
      at (inl (place, is, wrong, same)) = (inl (place, is), same)
      at (inr (inl (is, line, same))) = (inr is, same)
      at (inr (inr (asked, asks, command))) = absurd (none (asked, asks))

  gives : (want : ℕ) → status_of ending ≡ want → Gives want before now status
  gives want is = ⊎_elim (λ by. inl (by.0 ∙ is)) (λ by. inr (inr by)) noted

  memory_gives : (want : ℕ) → ending ≡ Memory → Gives want before now status
  memory_gives want is = ⊎_elim (λ by. inr (inl (by.0 ∙ ap status_of is))) (λ by. inr (inr by)) noted

  usage_always : (IsValid policies.names words → ⊥) → Gives 64 before now status
  usage_always none =
      ⊎_elim (λ usage. gives 64 (ap status_of usage.1)) (λ is. memory_gives 64 is) (not_taken none).0

  -- what was read brings the line to an ending that was its own
  brought : (want : Ending) → ending ≡ want
      → ((asked : Asked) → CausedSo asked want → BroughtSo asked want)
      → status_of want ≢ 64 → status_of want ≢ 69 → LineBrings policies words before now want
  brought want is own usage memory =
      let command = asked_by ending ends (λ e. usage (sym (ap status_of is) ∙ e))
      (λ e. memory (sym (ap status_of is) ∙ e)) in (
        command.0,
        command.1,
        own command.0
            (subst (λ e. CausedSo command.0 e) is command.2.cause),
      )

  file_only : status ≡ 65
      → (why : BadFile) × LineBrings policies words before now (File why) × NotesLine before now (File why)
  file_only is =
      let by = by_status (λ e. omega arith) in
      let found = is_file ending (sym by.0 ∙ is) in (
        found.0,
        brought (File found.0) found.1 (λ asked cause. cause) (λ e. omega arith) (λ e. omega arith),
        subst (λ e. NotesLine before now e) found.1 by.1,
      )

  plan_only : status ≡ 66
      → ((why : BadPlan) × LineBrings policies words before now (Plan why) × NotesLine before now (Plan why))
      ⊎ ((why : BadProfile) × LineBrings policies words before now (Profile why) × NotesLine before now (Profile why))
  plan_only is = at (is_plan ending (sym by.0 ∙ is))
    where
      by : (status ≡ status_of ending) × NotesLine before now ending
      by = by_status (λ e. omega arith)

      at : ((why : BadPlan) × (ending ≡ Plan why)) ⊎ ((why : BadProfile) × (ending ≡ Profile why))
          → ((why : BadPlan) × LineBrings policies words before now (Plan why) × NotesLine before now (Plan why))
          ⊎ ((why : BadProfile) × LineBrings policies words before now (Profile why)
          × NotesLine before now (Profile why))
      at (inl (why, found)) = inl (
        why,
        brought (Plan why) found (λ asked cause. cause) (λ e. omega arith) (λ e. omega arith),
        subst (λ e. NotesLine before now e) found by.1,
      )
      at (inr (why, found)) = inr (
        why,
        brought (Profile why) found (λ asked cause. cause) (λ e. omega arith) (λ e. omega arith),
        subst (λ e. NotesLine before now e) found by.1,
      )

  running_only : status ≡ 70
      → (steps : ℕ) × LineBrings policies words before now (StillRunning steps)
      × NotesLine before now (StillRunning steps)
  running_only is =
      let by = by_status (λ e. omega arith) in
      let found = is_running ending (sym by.0 ∙ is) in (
        found.0,
        brought (StillRunning found.0) found.1 (λ asked cause. cause) (λ e. omega arith) (λ e. omega arith),
        subst (λ e. NotesLine before now e) found.1 by.1,
      )

  fault_only : status ≡ 71 → (kind : FaultKind) × (at : ℕ) × (steps : ℕ)
      × LineBrings policies words before now (Fault kind at steps) × NotesLine before now (Fault kind at steps)
  fault_only is =
      let by = by_status (λ e. omega arith) in
      let found = is_fault ending (sym by.0 ∙ is) in (
        found.0,
        found.1,
        found.2,
        brought (Fault found.0 found.1 found.2) found.3 (λ asked cause. cause) (λ e. omega arith) (λ e. omega arith),
        subst (λ e. NotesLine before now e) found.3 by.1,
      )

  illegal_only : status ≡ 72
      → (at : ℕ) × (steps : ℕ) × LineBrings policies words before now (Illegal at steps)
      × NotesLine before now (Illegal at steps)
  illegal_only is =
      let by = by_status (λ e. omega arith) in
      let found = is_illegal ending (sym by.0 ∙ is) in (
        found.0,
        found.1,
        brought (Illegal found.0 found.1) found.2 (λ asked cause. cause) (λ e. omega arith)
            (λ e. omega arith),
        subst (λ e. NotesLine before now e) found.2 by.1,
      )

  read_only : status ≡ 67 → ReadFailed policies words before now ⊎ ToldBring policies words before ReadFault
  read_only is =
      let by = by_status (λ e. omega arith) in
      let found : ending ≡ ReadFault = is_read_fault ending (sym by.0 ∙ is) in
      let command = asked_by ending ends (λ e. omega (arith, ap status_of found, e))
      (λ e. omega (arith, ap status_of found, e)) in
      ⊎_elim (λ failed. inl (command.0, command.1, failed))
      (λ brings. (let lacks = (laws command.0).lacking command.0.given before.outside now.outside brings in
      inr (lacks.0, command.0, command.1, lacks.1, lacks.2)))
      (subst (λ e. CausedSo command.0 e) found command.2.cause)

  write_only : status ≡ 68 → OutFailed before now ⊎ NoteFailed before now
  write_only is = ⊎_elim (λ by. inl (out (is_write_fault ending (sym by.0 ∙ is)))) (λ by. inr by.1) noted
    where
      out : ending ≡ WriteFault → OutFailed before now
      out found =
          let command = asked_by ending ends (λ e. omega (arith, ap status_of found, e))
          (λ e. omega (arith, ap status_of found, e)) in
          (subst (λ e. CausedSo command.0 e) found command.2.cause).0

  -- the ending is the one that is due, or an excuse with its cause
  abbrev Settles : Ending → Ending → Type 0
  Settles due ending = (ending ≡ due) ⊎ ((ending ≡ ReadFault) × ReadFailed policies words before now)
      ⊎ ((ending ≡ WriteFault) × OutFailed before now × MayWrite due) ⊎ (ending ≡ Memory)

  brought_settles : (asked : Asked) (due ending : Ending) (contents : Contents)
      → AreTold ((entry_in policies asked).reads asked.given) before.outside.files contents
      → (entry_in policies asked).comes asked.given contents before.outside.input.told due → BroughtSo asked ending
      → Settles due ending
  brought_settles asked due ending contents told comes brings =
      inl ((laws asked).due asked.given contents before.outside now.outside due ending told comes brings)

  cause_settles : (asked : Asked) → Asks policies.names words asked → (due ending : Ending) (contents : Contents)
      → AreTold ((entry_in policies asked).reads asked.given) before.outside.files contents
      → (entry_in policies asked).comes asked.given contents before.outside.input.told due → CausedSo asked ending
      → Settles due ending
  cause_settles asked asks due Done contents told comes cause = brought_settles asked due Done contents told comes cause
  cause_settles asked asks due (Exited s n) contents told comes cause =
      brought_settles asked due (Exited s n) contents told comes cause
  cause_settles asked asks due (Usage place) contents told comes cause = absurd cause
  cause_settles asked asks due (File why) contents told comes cause =
      brought_settles asked due (File why) contents told comes cause
  cause_settles asked asks due (Plan why) contents told comes cause =
      brought_settles asked due (Plan why) contents told comes cause
  cause_settles asked asks due (Profile why) contents told comes cause =
      brought_settles asked due (Profile why) contents told comes cause
  cause_settles asked asks due ReadFault contents told comes (inl failed) = inr (inl (refl, (asked, asks, failed)))
  cause_settles asked asks due ReadFault contents told comes (inr brings) =
      brought_settles asked due ReadFault contents told comes brings
  cause_settles asked asks due WriteFault contents told comes (rose, started) =
      inr (inr (inl (
        refl,
        rose,
        (laws asked).started asked.given contents before.outside now.outside due told comes started,
      )))
  cause_settles asked asks due Memory contents told comes cause = inr (inr (inr refl))
  cause_settles asked asks due (StillRunning n) contents told comes cause =
      brought_settles asked due (StillRunning n) contents told comes cause
  cause_settles asked asks due (Fault k at n) contents told comes cause =
      brought_settles asked due (Fault k at n) contents told comes cause
  cause_settles asked asks due (Illegal at n) contents told comes cause =
      brought_settles asked due (Illegal at n) contents told comes cause

  settles : (due : Ending) → ToldBring policies words before due → Settles due ending
  settles due (contents, asked, asks, told, comes) = at ends
    where
      at : LineEnds policies words before.outside now.outside ending → Settles due ending
      at (inl (place, is, wrong, same)) = absurd (not_valid place wrong (asked, asks))
      at (inr (inl (is, line, same))) = inr (inr (inr is))
      at (inr (inr (asked', asks', command))) =
          let same : asked ≡ asked' = valid_once asks_once first_wrong_is_no_line policies.names words asked asked'
          asks asks' in
          cause_settles asked' asks' due ending contents
          (subst (λ a. AreTold ((entry_in policies a).reads a.given) before.outside.files contents) same told)
          (subst (λ a. (entry_in policies a).comes a.given contents before.outside.input.told due) same comes)
          command.cause

  -- a refusal that is due
  refusal_gives : (due : Ending) → (MayWrite due → ⊥) → Settles due ending
      → GivesIfRead policies words (status_of due) before now status
  refusal_gives due never (inl is) = inr (gives (status_of due) (ap status_of is))
  refusal_gives due never (inr (inl (is, failed))) =
      ⊎_elim (λ by. inl (by.0 ∙ ap status_of is, failed)) (λ by. inr (inr (inr by))) noted
  refusal_gives due never (inr (inr (inl (is, rose, may)))) = absurd (never may)
  refusal_gives due never (inr (inr (inr is))) = inr (memory_gives (status_of due) is)

  -- an end of a run that is due
  run_gives : (due : Ending) → Settles due ending → GivesIfRun policies words (status_of due) before now status
  run_gives due (inl is) = inr (inr (gives (status_of due) (ap status_of is)))
  run_gives due (inr (inl (is, failed))) =
      ⊎_elim (λ by. inr (inl (by.0 ∙ ap status_of is, failed))) (λ by. inr (inr (inr (inr by)))) noted
  run_gives due (inr (inr (inl (is, rose, may)))) =
      ⊎_elim (λ by. inl (by.0 ∙ ap status_of is, rose)) (λ by. inr (inr (inr (inr by)))) noted
  run_gives due (inr (inr (inr is))) = inr (inr (memory_gives (status_of due) is))

  read_always : ToldBring policies words before ReadFault → Gives 67 before now status
  read_always told = at (settles ReadFault told)
    where
      at : Settles ReadFault ending → Gives 67 before now status
      at (inl is) = gives 67 (ap status_of is)
      at (inr (inl (is, failed))) = gives 67 (ap status_of is)
      at (inr (inr (inl (is, rose, may)))) = absurd (⊎_elim (λ e. omega (arith, e)) (λ e. omega (arith, e)) may)
      at (inr (inr (inr is))) = memory_gives 67 is

  complete : (due : Ending) → status_of due ≡ 0 → ToldBring policies words before due
      → (ReadFailed policies words before now → ⊥) → (OutFailed before now → ⊥) → (NoteFailed before now → ⊥)
      → (status ≡ 0) ⊎ (status ≡ 69)
  complete due zero told read out note = at (settles due told)
    where
      line : (status ≡ status_of ending)
      line = ⊎_elim (λ by. by.0) (λ by. absurd (note by.1)) noted

      at : Settles due ending → (status ≡ 0) ⊎ (status ≡ 69)
      at (inl is) = inl (line ∙ (ap status_of is ∙ zero))
      at (inr (inl (is, failed))) = absurd (read failed)
      at (inr (inr (inl (is, rose, may)))) = absurd (out rose)
      at (inr (inr (inr is))) = inr (line ∙ ap status_of is)

  done_command : (asked : Asked) (ending : Ending) → status_of ending ≡ 0 → NotesLine before now ending
      → EndsSo asked ending
      → IsFinished ending before.note now.note status → (entry_in policies asked).done asked.given before now
  done_command asked Done zero line command finished =
      (laws asked).done asked.given before now Done zero line (λ is. finished.quiet refl) command.cause command.leaves
  done_command asked (Exited s n) zero line command finished =
      (laws asked).done asked.given before now (Exited s n) zero line (λ is. absurd (cc)) command.cause command.leaves
  done_command asked ending zero line command finished = absurd (omega arith)

  done : status ≡ 0 → (asked : Asked) × Asks policies.names words asked
      × (entry_in policies asked).done asked.given before now
  done is =
      let by = by_status (λ e. omega arith) in
      let zero : status_of ending ≡ 0 = sym by.0 ∙ is in
      let command = asked_by ending ends (λ e. omega (arith, zero, e)) (λ e. omega (arith, zero, e)) in
      (command.0, command.1, done_command command.0 ending zero by.1 command.2 finished)

  silent : (status ≡ 65) ⊎ (status ≡ 66) → IsUnmoved before.outside now.outside
  silent one =
      let by = by_status (λ e. not_68 e one) in
      let which : (status_of ending ≡ 65) ⊎ (status_of ending ≡ 66) = subst (λ s. (s ≡ 65) ⊎ (s ≡ 66)) by.0 one in
      at which ends
    where
      at : (status_of ending ≡ 65) ⊎ (status_of ending ≡ 66)
          → LineEnds policies words before.outside now.outside ending → IsUnmoved before.outside now.outside
      at which (inl (place, is, wrong, same)) = (ap (λ (o : Outside). o.input) same, ap (λ (o : Outside). o.out) same)
      at which (inr (inl (is, line, same))) = (ap (λ (o : Outside). o.input) same, ap (λ (o : Outside). o.out) same)
      at which (inr (inr (asked, asks, command))) =
          (laws asked).silent asked.given before.outside now.outside ending which command.leaves

      not_68 : status ≡ 68 → (status ≡ 65) ⊎ (status ≡ 66) → ⊥
      not_68 e (inl is) = omega arith
      not_68 e (inr is) = omega arith

  lacking : status ≡ 69 → IsUnmoved before.outside now.outside
      ⊎ ((asked : Asked) × Asks policies.names words asked
      × (entry_in policies asked).lacks asked.given before.outside now.outside)
  lacking is = at (is_memory ending (sym by.0 ∙ is)) ends
    where
      by : (status ≡ status_of ending) × NotesLine before now ending
      by = by_status (λ e. omega arith)

      at : ending ≡ Memory → LineEnds policies words before.outside now.outside ending
          → IsUnmoved before.outside now.outside
          ⊎ ((asked : Asked) × Asks policies.names words asked
          × (entry_in policies asked).lacks asked.given before.outside now.outside)
      at found (inl (place, usage, wrong, same)) =
          inl (ap (λ (o : Outside). o.input) same, ap (λ (o : Outside). o.out) same)
      at found (inr (inl (lack, line, same))) =
          inl (ap (λ (o : Outside). o.input) same, ap (λ (o : Outside). o.out) same)
      at found (inr (inr (asked, asks, command))) =
          ⊎_elim (λ unmoved. inl unmoved) (λ lacked. inr (asked, asks, lacked))
          ((laws asked).lacks asked.given before.outside now.outside ending found command.leaves)

  moves : LineEnds policies words before.outside now.outside ending → OnlyMoves before.outside now.outside
  moves (inl (place, is, wrong, same)) = unmoved before.outside now.outside same
  moves (inr (inl (is, line, same))) = unmoved before.outside now.outside same
  moves (inr (inr (asked, asks, command))) = command.moves

  statuses : (status ≡ 0) ⊎ ((64 ≤ status) × (status ≤ 72))
  statuses = ⊎_elim
      (λ by. ⊎_elim (λ zero. inl (by.0 ∙ zero))
      (λ range. inr (omega (arith, by.0, range.0), omega (arith, by.0, range.1))) (status_range ending))
      (λ by. inr (omega (arith, by.0), omega (arith, by.0))) noted

  pub line_answers : Answers policies words before now status
  line_answers = record {
    usage_only = usage_only;
    usage_always = usage_always;
    untouched = λ none. (not_taken none).1;
    file_only = file_only;
    file_always = λ why told. refusal_gives (File why)
        (λ may. ⊎_elim (λ e. omega (arith, e)) (λ e. omega (arith, e)) may) (settles (File why) told);
    plan_only = plan_only;
    plan_always = λ why told. refusal_gives (Plan why)
        (λ may. ⊎_elim (λ e. omega (arith, e)) (λ e. omega (arith, e)) may) (settles (Plan why) told);
    profile_always = λ why told. refusal_gives (Profile why)
        (λ may. ⊎_elim (λ e. omega (arith, e)) (λ e. omega (arith, e)) may) (settles (Profile why) told);
    read_only = read_only;
    read_always = read_always;
    write_only = write_only;
    running_only = running_only;
    running_always = λ steps told. run_gives (StillRunning steps) (settles (StillRunning steps) told);
    fault_only = fault_only;
    fault_always = λ kind at steps told. run_gives (Fault kind at steps) (settles (Fault kind at steps) told);
    illegal_only = illegal_only;
    illegal_always = λ at steps told. run_gives (Illegal at steps) (settles (Illegal at steps) told);
    done = done;
    complete = complete;
    silent = silent;
    lacking = lacking;
    ended = (ending, ends, finished.noted);
    moves = moves ends;
    writes = finished.writes;
    statuses = statuses;
  }
