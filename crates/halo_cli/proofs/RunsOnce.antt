-- A run has one end, and what is known of it says so.
use Rattle.std.proofs.Common.{◌≡◌, ◌≢◌, ◌∙◌, ℕ, ◌+◌, ◌<◌, ◌≤◌, inl, inr, ⊎_elim, List, Option, None, Some, refl, sym}
use Rattle.std.proofs.Common.{ap, arith}
use Rattle.std.proofs.lemmas.Bool.{cases_order}
use Rattle.machine_spec.specs.declared.Ending as machine_ending
use Rattle.machine_spec.specs.declared.Ending.TheVariants as machine
use Rattle.endings.specs.declared.endings.Ending.{Ending}
use Rattle.endings.specs.declared.endings.Ending.TheVariants.{Done, File, Plan, Profile, ReadFault, WriteFault, Memory}
use Rattle.endings.specs.declared.endings.Ending.TheVariants.{Usage, Exited, StillRunning, Fault, Illegal}
use Rattle.halo_cli.specs.Runs.{Run, ending_at, RunsBefore, IsRunEnd, InputEnds, RunsTo}
use Rattle.halo_cli.proofs.CommandLaws.{MayWrite}

-- a machine that runs after some turns ran before each of them
abbrev pub GoesOn : Run → Type 0
GoesOn run = (input : List ℕ) (n k : ℕ) → k < n + 1 → ending_at run input n ≡ machine.Running
    → ending_at run input k ≡ machine.Running

module _ (run : Run) (goes_on : GoesOn run) where
  -- a run has one end: two endings with their turns, and a run that goes on
  same_turn : (input : List ℕ) (n m : ℕ) (e e' : machine_ending.Ending) → e ≢ machine.Running → e' ≢ machine.Running
      → RunsBefore run input n → RunsBefore run input m → ending_at run input n ≡ e → ending_at run input m ≡ e'
      → n ≡ m
  same_turn input n m e e' over over' runs runs' is is' = ⊎_elim
      (λ same. same)
      (λ rest. ⊎_elim (λ (h : n < m). absurd (over (sym is ∙ runs' n h)))
      (λ (h : m < n). absurd (over' (sym is' ∙ runs m h))) rest)
      (cases_order n m)

  never_over : (input : List ℕ) (n bound : ℕ) (e : machine_ending.Ending) → e ≢ machine.Running → n ≤ bound
      → ending_at run input bound ≡ machine.Running → ending_at run input n ≡ e → ⊥
  never_over input n bound e over within runs is =
      over (sym is ∙ goes_on input bound n (omega (arith, within)) runs)

  pub run_end_once : (input : List ℕ) (bound : ℕ) (a b : Ending) → IsRunEnd run input bound a
      → IsRunEnd run input bound b → a ≡ b
  run_end_once input bound (Exited s n) (Exited s' m) (w, r, is) (w', r', is') =
      let turn : n ≡ m = same_turn input n m (machine.Exit s) (machine.Exit s') (λ e. cc) (λ e. cc) r r' is is' in
      let same : machine.Exit s ≡ machine.Exit s' = sym is ∙ (ap (ending_at run input) turn ∙ is') in cc
  run_end_once input bound (Exited s n) (Fault k at m) (w, r, is) (w', r', is') =
      let turn : n ≡ m + 1 = same_turn input n (m + 1) (machine.Exit s) (machine.Fault k at) (λ e. cc)
      (λ e. cc) r r' is is' in
      absurd (let same : machine.Exit s ≡ machine.Fault k at = sym is ∙ (ap (ending_at run input) turn ∙ is') in cc)
  run_end_once input bound (Exited s n) (Illegal at m) (w, r, is) (w', r', is') =
      let turn : n ≡ m + 1 = same_turn input n (m + 1) (machine.Exit s) (machine.Illegal at) (λ e. cc)
      (λ e. cc) r r' is is' in
      absurd (let same : machine.Exit s ≡ machine.Illegal at = sym is ∙ (ap (ending_at run input) turn ∙ is') in cc)
  run_end_once input bound (Exited s n) (StillRunning m) (w, r, is) (w', r') =
      absurd (never_over input n m (machine.Exit s) (λ e. cc) (omega (arith, w, w')) r' is)
  run_end_once input bound (Fault k at n) (Exited s m) (w, r, is) (w', r', is') =
      let turn : n + 1 ≡ m = same_turn input (n + 1) m (machine.Fault k at) (machine.Exit s) (λ e. cc)
      (λ e. cc) r r' is is' in
      absurd (let same : machine.Fault k at ≡ machine.Exit s = sym is ∙ (ap (ending_at run input) turn ∙ is') in cc)
  run_end_once input bound (Fault k at n) (Fault k' at' m) (w, r, is) (w', r', is') =
      let turn : n + 1 ≡ m + 1 =
      same_turn input (n + 1) (m + 1) (machine.Fault k at) (machine.Fault k' at') (λ e. cc)
      (λ e. cc) r r' is is' in
      let same : machine.Fault k at ≡ machine.Fault k' at' = sym is ∙ (ap (ending_at run input) turn ∙ is') in
      let steps : n ≡ m = omega (arith, turn) in cc
  run_end_once input bound (Fault k at n) (Illegal at' m) (w, r, is) (w', r', is') =
      let turn : n + 1 ≡ m + 1 =
      same_turn input (n + 1) (m + 1) (machine.Fault k at) (machine.Illegal at') (λ e. cc)
      (λ e. cc) r r' is is' in
      absurd (let same : machine.Fault k at ≡ machine.Illegal at' =
      sym is ∙ (ap (ending_at run input) turn ∙ is') in cc)
  run_end_once input bound (Fault k at n) (StillRunning m) (w, r, is) (w', r') =
      absurd (never_over input (n + 1) m (machine.Fault k at) (λ e. cc) (omega (arith, w, w')) r' is)
  run_end_once input bound (Illegal at n) (Exited s m) (w, r, is) (w', r', is') =
      let turn : n + 1 ≡ m = same_turn input (n + 1) m (machine.Illegal at) (machine.Exit s) (λ e. cc)
      (λ e. cc) r r' is is' in
      absurd (let same : machine.Illegal at ≡ machine.Exit s = sym is ∙ (ap (ending_at run input) turn ∙ is') in cc)
  run_end_once input bound (Illegal at n) (Fault k at' m) (w, r, is) (w', r', is') =
      let turn : n + 1 ≡ m + 1 =
      same_turn input (n + 1) (m + 1) (machine.Illegal at) (machine.Fault k at') (λ e. cc)
      (λ e. cc) r r' is is' in
      absurd (let same : machine.Illegal at ≡ machine.Fault k at' =
      sym is ∙ (ap (ending_at run input) turn ∙ is') in cc)
  run_end_once input bound (Illegal at n) (Illegal at' m) (w, r, is) (w', r', is') =
      let turn : n + 1 ≡ m + 1 =
      same_turn input (n + 1) (m + 1) (machine.Illegal at) (machine.Illegal at') (λ e. cc)
      (λ e. cc) r r' is is' in
      let same : machine.Illegal at ≡ machine.Illegal at' = sym is ∙ (ap (ending_at run input) turn ∙ is') in
      let steps : n ≡ m = omega (arith, turn) in cc
  run_end_once input bound (Illegal at n) (StillRunning m) (w, r, is) (w', r') =
      absurd (never_over input (n + 1) m (machine.Illegal at) (λ e. cc) (omega (arith, w, w')) r' is)
  run_end_once input bound (StillRunning n) (Exited s m) (w, r) (w', r', is') =
      absurd (never_over input m n (machine.Exit s) (λ e. cc) (omega (arith, w, w')) r is')
  run_end_once input bound (StillRunning n) (Fault k at m) (w, r) (w', r', is') =
      absurd (never_over input (m + 1) n (machine.Fault k at) (λ e. cc) (omega (arith, w, w')) r is')
  run_end_once input bound (StillRunning n) (Illegal at m) (w, r) (w', r', is') =
      absurd (never_over input (m + 1) n (machine.Illegal at) (λ e. cc) (omega (arith, w, w')) r is')
  run_end_once input bound (StillRunning n) (StillRunning m) (w, r) (w', r') = ap StillRunning (w ∙ sym w')
  run_end_once input bound Done b at_a at_b = absurd at_a
  run_end_once input bound (Usage k) b at_a at_b = absurd at_a
  run_end_once input bound (File why) b at_a at_b = absurd at_a
  run_end_once input bound (Plan why) b at_a at_b = absurd at_a
  run_end_once input bound (Profile why) b at_a at_b = absurd at_a
  run_end_once input bound ReadFault b at_a at_b = absurd at_a
  run_end_once input bound WriteFault b at_a at_b = absurd at_a
  run_end_once input bound Memory b at_a at_b = absurd at_a
  run_end_once input bound a b at_a at_b = absurd at_b

  pub input_once : (input : Option (List ℕ)) (bound : ℕ) (a b : Ending) → InputEnds input bound run a
      → InputEnds input bound run b → a ≡ b
  input_once None bound a b at_a at_b = absurd at_a
  input_once (Some given) bound a b at_a at_b = run_end_once given bound a b at_a at_b

-- where a run ends, something may have been written
run_end_writes : (run : Run) (input : List ℕ) (bound : ℕ) (ending : Ending) → IsRunEnd run input bound ending
    → MayWrite ending
run_end_writes run input bound (Exited s n) end = inl refl
run_end_writes run input bound (StillRunning n) end = inr (omega arith)
run_end_writes run input bound (Fault k at n) end = inr (omega arith)
run_end_writes run input bound (Illegal at n) end = inr (omega arith)
run_end_writes run input bound ending end = absurd end

pub input_writes : (run : Run) (input : Option (List ℕ)) (bound : ℕ) (ending : Ending)
    → InputEnds input bound run ending → MayWrite ending
input_writes run None bound ending end = absurd end
input_writes run (Some given) bound ending end = run_end_writes run given bound ending end

-- a run whose input is told, of which what was read tells the same
pub known_run : (run : Run) (input : Option (List ℕ)) (bound : ℕ) (due brought : Ending)
    → InputEnds input bound run due → RunsTo input bound run brought → InputEnds input bound run brought
known_run run None bound due brought at_due at_brought = absurd at_due
known_run run (Some given) bound due brought at_due at_brought = at_brought

-- no run is done in silence, fails to read or is no line
pub never_done : (run : Run) (input : Option (List ℕ)) (bound : ℕ) → RunsTo input bound run Done → ⊥
never_done run None bound may = may
never_done run (Some given) bound end = end

pub never_fails : (run : Run) (input : Option (List ℕ)) (bound : ℕ) → RunsTo input bound run ReadFault → ⊥
never_fails run None bound may = may
never_fails run (Some given) bound end = end
