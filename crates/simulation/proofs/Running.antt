-- The whole run: from the start, by induction on the turns of the symbol machine.
use Rattle.std.proofs.Common.{◌≡◌, ℕ, zero, suc, ◌+◌, ◌*◌, ◌<◌, ◌≤◌, List, [], ◌∷◌, Bool, true, false, cond, length}
use Rattle.std.proofs.Common.{map, refl, ap, sym, ◌∙◌, subst, arith, get_or, ◌^◌}
use Rattle.std.specs.Prelude.{nat_eq, nat_lt, slice_index, slice_index_or}
use Rattle.std.specs.List.{All}
use Rattle.std.proofs.lemmas.List.Sums.{AllPass-from_list_all}
use Rattle.std.proofs.lemmas.Bool.Decides.{nat_tests}
use Rattle.plan_core.specs.declared.types.Plan.{Plan}
use Rattle.machine_spec.specs.declared.Ending.{Ending}
use Rattle.machine_spec.specs.declared.Ending.TheVariants.{Running, Exit, Illegal, Fault}
use Rattle.machine_spec.specs.Start.{start_registers}
use Rattle.flat_spec.specs.Machine as flat_machine
use Rattle.flat_spec.specs.Machine.{Machine, word_read}
use Rattle.flat_spec.specs.Runs as flat
use Rattle.flat_spec.specs.Runs.{State}
use Rattle.sym_value.specs.declared.Value.TheVariants.{Num, Unset}
use Rattle.sym_spec.specs.SymMachine.{SymMachine, value_read, start}
use Rattle.sym_spec.specs.SymTurns.{turn_of, turn}
use Rattle.sym_spec.specs.SymRuns.{SymState, step, steps, sym_run}
use Rattle.match_spec.specs.Stands.{Places, places_of, back_of, Holds}
use Rattle.match_spec.specs.Parts.{InRegisters}
use Rattle.match_spec.specs.Matches.{InStep, Matches}
use Rattle.match_spec.specs.Keeps.{IsNoFault, Keeps}
use Rattle.heap_spec.specs.Service.{turn_bound}
use Rattle.simulation.specs.Ground.{Ground}
use Rattle.simulation.proofs.Operations.{holds_num}
use Rattle.simulation.proofs.InputLeft.{bytes_left}
use Rattle.simulation.proofs.Starting.{memory_start}
use Rattle.simulation.proofs.InHeap.{heap_start}
use Rattle.site_stubs.specs.StubRuns.{state_of}
use Rattle.flat_spec.proofs.Runs.{more_steps}
use Rattle.simulation.proofs.Following.{Follows}
use Rattle.simulation.proofs.Turning.{turn_follows}

-- the registers at the start
start_holds : (places : Places) (words : List ℕ) (r : ℕ) → All (λ w. w < 2 ^ 32) words → r < length words
    → Holds places (value_read (map (λ w. Num w) words) r) (word_read words r)
start_holds places words r fit small = at (nat_eq r 0)
  where
    reads : (words : List ℕ) (r : ℕ) → r < length words
        → slice_index_or (map (λ w. Num w) words) r Unset ≡ Num (slice_index words r)
    reads [] r small = absurd (omega arith)
    reads (w ∷ words) zero small = refl
    reads (w ∷ words) (suc r) small = reads words r (omega arith)

    at : (z : Bool) → Holds places (cond z (Num 0) (slice_index_or (map (λ w. Num w) words) r Unset))
        (cond z 0 (slice_index words r))
    at true = holds_num places 0 (omega arith)
    at false = rw (reads words r small) (holds_num places (slice_index words r) (fit r 0 small))

start_words : All (λ w. w < 2 ^ 32) start_registers
start_words r d small =
    let test : nat_lt (get_or start_registers r d) (2 ^ 32) ≡ true =
    AllPass-from_list_all (λ w. nat_lt w (2 ^ 32)) start_registers refl r d small in
    grind (arith, nat_tests)

registers_start : (places : Places) → InRegisters places (map (λ w. Num w) start_registers) start_registers 0
registers_start places = record {
  holds = λ r small n. start_holds places start_registers r start_words small;
  bits_there = refl;
  bits_small = omega arith;
  spare = refl;
  long = refl;
  sym_long = refl;
}

start_alike : (file : List ℕ) (plan : Plan) (new : List ℕ) → Ground file plan new
    → InStep file plan new (start file plan) (flat_machine.start new)
unfolding start flat_machine.start
start_alike file plan new g = record {
  pc = g.entry;
  ending = refl;
  registers = registers_start (places_of file plan []);
  memory = memory_start file new (back_of file plan) g.memory;
  heap = heap_start file plan new g;
}

-- a fault stays a fault
fault_stays : (file : List ℕ) (plan : Plan) (input : List ℕ) (s : SymMachine)
    → IsNoFault (turn file plan input s).next.ending → IsNoFault s.ending
unfolding turn
fault_stays file plan input s safe = by_ending s.ending refl safe
  where
    by_ending : (e : Ending) → s.ending ≡ e → IsNoFault (turn_of file plan e input s).next.ending → IsNoFault s.ending
    by_ending Running e safe = rw e tt
    by_ending (Exit status) e safe = rw e tt
    by_ending (Illegal at) e safe = rw e tt
    by_ending (Fault kind at) e safe = safe

-- so many turns, and a state in step
pub record InRun (file : List ℕ) (plan : Plan) (new input : List ℕ) (n : ℕ) (s : SymState) : Type 0 where
  pub turns : ℕ
  pub least : n ≤ turns
  pub most : turns ≤ n * turn_bound plan.area
  pub bytes : All (λ b. b < 256) s.input
  pub machine : Machine
  pub is : flat.flat_run new input turns ≡ state_of machine s.input s.output
  pub next : InStep file plan new s.machine machine

one_more : (file : List ℕ) (plan : Plan) (new input : List ℕ) (n : ℕ) (s : SymState) → Ground file plan new
    → IsNoFault (step file plan s).machine.ending
    → InRun file plan new input n s → InRun file plan new input (suc n) (step file plan s)
unfolding step flat.flat_run
one_more file plan new input n s g safe h =
    let f : Follows file plan new (turn file plan s.input s.machine) h.machine s.input s.output =
    turn_follows file plan new s.machine h.machine s.input s.output g h.bytes h.next safe in
    let from : State = state_of (flat_machine.start new) input [] in
    record {
      turns = f.turns + h.turns;
      least = omega (arith, f.some, h.least);
      most = let more : suc n * turn_bound plan.area ≡ turn_bound plan.area + n * turn_bound plan.area =
          omega arith in omega (arith, f.few, h.most, more);
      bytes = bytes_left file plan s.input s.machine h.bytes;
      machine = f.machine;
      is = more_steps f.turns h.turns from ∙ (ap (flat.steps f.turns) h.is ∙ f.is);
      next = f.next;
    }

before : (file : List ℕ) (plan : Plan) (s : SymState) → IsNoFault (step file plan s).machine.ending
    → IsNoFault s.machine.ending
unfolding step
before file plan s safe = fault_stays file plan s.input s.machine safe

pub in_run : (file : List ℕ) (plan : Plan) (new input : List ℕ) (n : ℕ) → Ground file plan new
    → All (λ b. b < 256) input → IsNoFault (sym_run file plan input n).machine.ending
    → InRun file plan new input n (sym_run file plan input n)
unfolding sym_run steps flat.flat_run flat.steps
in_run file plan new input zero g bytes safe = record {
  turns = 0;
  least = omega arith;
  most = omega arith;
  bytes = bytes;
  machine = flat_machine.start new;
  is = refl;
  next = start_alike file plan new g;
}
in_run file plan new input (suc n) g bytes safe =
    one_more file plan new input n (sym_run file plan input n) g safe
    (in_run file plan new input n g bytes (before file plan (sym_run file plan input n) safe))

-- the new file keeps the behaviour of its source
pub keeps : (file : List ℕ) (plan : Plan) (new : List ℕ) → Ground file plan new → Keeps file plan new
keeps file plan new g input bytes n safe =
    let h : InRun file plan new input n (sym_run file plan input n) = in_run file plan new input n g bytes safe in
    record {
      turns = h.turns;
      least = h.least;
      most = h.most;
      state = subst (λ x. Matches file plan new (sym_run file plan input n) x) (sym h.is)
          (record { machines = h.next; input = refl; output = refl });
    }
