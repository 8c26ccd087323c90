-- A turn grants and releases what its note says.
use Rattle.std.proofs.Common.{◌≡◌, ℕ, ◌*◌, ◌^◌, ◌≤◌, ◌==◌, Bool, true, false, ◌&&◌, List, [], ◌∷◌, ◌++◌, length, refl}
use Rattle.std.proofs.Common.{ap, sym, ◌∙◌, subst, arith}
use Rattle.std.specs.Prelude.{Option, Some, None, if◌then◌else◌, is_some, nat_lt, option_map, slice_get, slice_set}
use Rattle.rv_isa.specs.declared.Instr.{Instr}
use Rattle.rv_isa.specs.Table.{decoded}
use Rattle.elf_spec.specs.declared.HeapName.{HeapName}
use Rattle.elf_spec.specs.declared.HeapName.TheVariants.{Malloc, Calloc, Realloc, Free, MallocR, CallocR, ReallocR}
use Rattle.elf_spec.specs.declared.HeapName.TheVariants.{FreeR}
use Rattle.elf_spec.specs.Code.{code_word}
use Rattle.machine_spec.specs.declared.Ending.{Ending}
use Rattle.machine_spec.specs.declared.Ending.TheVariants.{Running, Exit, Illegal, Fault}
use Rattle.machine_spec.specs.declared.FaultKind.TheVariants.{F3}
use Rattle.plan_core.specs.declared.types.Plan.{Plan}
use Rattle.place_spec.specs.Layout.{granules_for, address_of}
use Rattle.place_spec.specs.Place.{Placed, placed}
use Rattle.place_spec.specs.Release.{released, then_released}
use Rattle.sym_value.specs.declared.Value.{Value}
use Rattle.sym_value.specs.declared.Value.TheVariants.{Num, Ptr, Ret, Mix, Part, Unset}
use Rattle.sym_value.specs.declared.live.Life.{Life}
use Rattle.sym_value.specs.Places.{is_living, lives_in}
use Rattle.sym_cells.specs.Memory.{copied, dropped, granted}
use Rattle.sym_spec.specs.declared.BlockAccess.{BlockAccess}
use Rattle.sym_spec.specs.SymMachine.{SymMachine, faults, goes_back, lives_of, value_of}
use Rattle.sym_spec.specs.SymCalls.{SymTurn}
use Rattle.sym_spec.specs.SymTurns.{Here, Nothing, Heap, Pair, Code, executes, here, runs_here, turn, turn_of}
use Rattle.sym_spec.specs.SymNotes.{empty_note, ending_note, heap_note, here_note, instr_note, is_fault, note}
use Rattle.sym_spec.specs.HeapActions.{Action, Outcome, answered, base, callocs, frees, function, granule_in, grants}
use Rattle.sym_spec.specs.HeapActions.{grants_placed, is_front, mallocs, moves, moves_placed, outcome, reallocs}
use Rattle.sym_spec.specs.HeapActions.{releases, returns, returns_with, serves}
use Rattle.run_laws.specs.Turns.{IsGranted, AfterRelease, ServesHeap, heap_of, with_block}
use Rattle.run_laws.proofs.Keeps.{executes_heap}
use Rattle.run_laws.proofs.Lists.{still_there}
use Rattle.run_laws.proofs.Stores.{KeepsCells, copied_lives, dropped_lives, granted_lives, lives}

-- a turn that grants and releases nothing
unserved : (file : List ℕ) (plan : Plan) (m n : SymMachine) (call back : Option ℕ) (access : Option BlockAccess)
    → heap_of n ≡ heap_of m
    → ServesHeap file plan m (record empty_note { call = call; back = back; access = access }) n
unserved file plan m n call back access same = record { between = heap_of m; grants = refl; releases = same }

-- an outcome names the blocks that it granted and released, and leaves the bits and the ending
pub record Served (file : List ℕ) (plan : Plan) (m : SymMachine) (o : Outcome) : Type 0 where
  pub heap : ServesHeap file plan m (record empty_note { grant = o.grant; release = o.release }) o.machine
  pub bits : o.machine.bits ≡ m.bits
  pub ending : o.machine.ending ≡ m.ending

answer_served : (file : List ℕ) (plan : Plan) (m : SymMachine) (v : Value)
    → Served file plan m (record { machine = m; answer = v; grant = None; release = None })
answer_served file plan m v = record { heap = unserved file plan m m None None None refl; bits = refl; ending = refl }

-- a block that was placed
module _ (file : List ℕ) (plan : Plan) (m : SymMachine) (need : ℕ) (p : Placed) (some : 1 ≤ need)
    (found : placed plan.rows plan.area m.layout need m.bits ≡ Some p) where
  is_granted : IsGranted file plan m (length m.memory.blocks) (with_block file plan need p (heap_of m))
  is_granted = record { need = need; some = some; place = p; placed_there = found; named = refl; after_is = refl }

  granted_served : Served file plan m (grants_placed file plan need (Some p) m)
  granted_served = record {
    heap = record {
      between = with_block file plan need p (heap_of m);
      grants = is_granted;
      releases = ap (λ ls. record {
        layout = p.after;
        at = m.at ++ address_of (base file plan) p.granule ∷ [];
        lives = ls;
      }) (granted_lives need m.memory);
    };
    bits = refl;
    ending = refl;
  }

  moved_served : (b : ℕ) (k : Life) → slice_get (heap_of m).lives b ≡ Some k → k.lives ≡ true
      → Served file plan m
      (moves_placed file plan b need (Some (then_released plan.area (granule_in file plan b m) p)) m)
  moved_served b k there live = record {
    heap = record {
      between = with_block file plan need p (heap_of m);
      grants = is_granted;
      releases = record {
        life = k;
        there = there;
        lived = live;
        after_is = ap (λ ls. record {
          layout = (then_released plan.area (granule_in file plan b m) p).after;
          at = m.at ++ address_of (base file plan) p.granule ∷ [];
          lives = ls;
        }) same;
      };
    };
    bits = refl;
    ending = refl;
  }
    where
      filled : lives (copied b (length m.memory.blocks) (granted need m.memory))
          ≡ (with_block file plan need p (heap_of m)).lives
      filled =
          copied_lives b (length m.memory.blocks) (granted need m.memory) ∙ granted_lives need m.memory

      same : lives (dropped b (copied b (length m.memory.blocks) (granted need m.memory)))
          ≡ slice_set (with_block file plan need p (heap_of m)).lives b (record k { lives = false })
      same =
          dropped_lives b k (copied b (length m.memory.blocks) (granted need m.memory))
          (ap (λ ls. slice_get ls b) filled ∙ still_there (heap_of m).lives _ b k there)
          ∙ ap (λ ls. slice_set ls b (record k { lives = false })) filled

-- a request for a block
grants_served : (file : List ℕ) (plan : Plan) (size : ℕ) (m : SymMachine) → Served file plan m (grants file plan size m)
grants_served file plan size m = by_size (nat_lt size (2 ^ 32))
  where
    by_place : (o : Option Placed) → placed plan.rows plan.area m.layout (granules_for size) m.bits ≡ o
        → Served file plan m (grants_placed file plan (granules_for size) o m)
    by_place None found = answer_served file plan m (Num 0)
    by_place (Some p) found = granted_served file plan m (granules_for size) p (omega arith) found

    by_size : (t : Bool) → Served file plan m (grants_placed file plan (granules_for size)
        (if t then placed plan.rows plan.area m.layout (granules_for size) m.bits else None) m)
    by_size true = by_place (placed plan.rows plan.area m.layout (granules_for size) m.bits) refl
    by_size false = answer_served file plan m (Num 0)

-- a request to move a block that lives
moves_served : (file : List ℕ) (plan : Plan) (b size : ℕ) (m : SymMachine) (k : Life)
    → slice_get (heap_of m).lives b ≡ Some k → k.lives ≡ true → Served file plan m (moves file plan b size m)
moves_served file plan b size m k there live =
    by_place (placed plan.rows plan.area m.layout (granules_for size) m.bits) refl
  where
    by_place : (o : Option Placed) → placed plan.rows plan.area m.layout (granules_for size) m.bits ≡ o
        → Served file plan m (moves_placed file plan b (granules_for size)
        (option_map (then_released plan.area (granule_in file plan b m)) o) m)
    by_place None found = answer_served file plan m (Num 0)
    by_place (Some p) found = moved_served file plan m (granules_for size) p (omega arith) found b k there live

-- a release of a block that lives
releases_served : (file : List ℕ) (plan : Plan) (b : ℕ) (m : SymMachine) (k : Life)
    → slice_get (heap_of m).lives b ≡ Some k → k.lives ≡ true → Served file plan m (releases file plan b m)
releases_served file plan b m k there live = record {
  heap = record {
    between = heap_of m;
    grants = refl;
    releases = record {
      life = k;
      there = there;
      lived = live;
      after_is = ap (λ ls. record {
        layout = released plan.area m.layout (granule_in file plan b m);
        at = m.at;
        lives = ls;
      }) (dropped_lives b k m.memory there);
    };
  };
  bits = refl;
  ending = refl;
}

-- the block of a front lives
pub record Alive (ls : List Life) (b : ℕ) : Type 0 where
  pub life : Life
  pub there : slice_get ls b ≡ Some life
  pub live : life.lives ≡ true

pub alive : (o : Option Life) (ls : List Life) (b : ℕ) → slice_get ls b ≡ o → lives_in o ≡ true → Alive ls b
alive None ls b is live = absurd (cc)
alive (Some k) ls b is live = record { life = k; there = is; live = live }

front_alive : (file : List ℕ) (b o : ℕ) (m : SymMachine) → is_front file b o m ≡ true → Alive (heap_of m).lives b
front_alive file b o m h =
    alive (slice_get (heap_of m).lives b) (heap_of m).lives b refl
    (second (o == 0) (is_living (lives_of file m) b) h)
  where
    second : (t u : Bool) → (t && u) ≡ true → u ≡ true
    second true u h = h
    second false u h = absurd (cc)

-- the actions
abbrev ActsSo : Action → Type 0
ActsSo action =
    (file : List ℕ) (plan : Plan) (m : SymMachine) (u v : Value) (o : Outcome) → action file plan m u v ≡ Some o
    → Served file plan m o

served_of : (file : List ℕ) (plan : Plan) (m : SymMachine) (n o : Outcome) → Some n ≡ Some o → Served file plan m n
    → Served file plan m o
served_of file plan m n o e h = let same : n ≡ o = cc in subst (λ (x : Outcome). Served file plan m x) same h

served_where : (file : List ℕ) (plan : Plan) (m : SymMachine) (t : Bool) (n o : Outcome)
    → (if t then Some n else None) ≡ Some o → (t ≡ true → Served file plan m n) → Served file plan m o
served_where file plan m true n o e h = served_of file plan m n o e (h refl)
served_where file plan m false n o e h = absurd (cc)

mallocs_so : ActsSo mallocs
mallocs_so file plan m (Num size) v o e = served_of file plan m _ o e (grants_served file plan size m)
mallocs_so file plan m u v o e = absurd (cc)

callocs_so : ActsSo callocs
callocs_so file plan m (Num n) (Num size) o e = served_of file plan m _ o e (grants_served file plan (n * size) m)
callocs_so file plan m u v o e = absurd (cc)

reallocs_so : ActsSo reallocs
reallocs_so file plan m (Num p) (Num size) o e =
    served_where file plan m (p == 0) (grants file plan size m) o e (λ h. grants_served file plan size m)
reallocs_so file plan m (Ptr b i) (Num size) o e =
    served_where file plan m (is_front file b i m) (moves file plan b size m) o e (λ h.
    let its : Alive (heap_of m).lives b = front_alive file b i m h in
    moves_served file plan b size m its.life its.there its.live)
reallocs_so file plan m u v o e = absurd (cc)

frees_so : ActsSo frees
frees_so file plan m (Num p) v o e =
    served_where file plan m (p == 0) _ o e (λ h. answer_served file plan m Unset)
frees_so file plan m (Ptr b i) v o e =
    served_where file plan m (is_front file b i m) (releases file plan b m) o e (λ h.
    let its : Alive (heap_of m).lives b = front_alive file b i m h in
    releases_served file plan b m its.life its.there its.live)
frees_so file plan m u v o e = absurd (cc)

function_so : (name : HeapName) → ActsSo (function name).action
function_so Malloc = mallocs_so
function_so Calloc = callocs_so
function_so Realloc = reallocs_so
function_so Free = frees_so
function_so MallocR = mallocs_so
function_so CallocR = callocs_so
function_so ReallocR = reallocs_so
function_so FreeR = frees_so

pub outcome_served : (file : List ℕ) (plan : Plan) (name : HeapName) (m : SymMachine) (o : Outcome)
    → outcome file plan name m ≡ Some o → Served file plan m o
unfolding outcome
outcome_served file plan name m o e = function_so name file plan m _ _ o e

-- the way back of a heap function
went : (file : List ℕ) (plan : Plan) (m : SymMachine) (o : Outcome) (back : Option ℕ) (n : SymMachine)
    → Served file plan m o → heap_of n ≡ heap_of o.machine
    → ServesHeap file plan m (record empty_note { back = back; grant = o.grant; release = o.release }) n
went file plan m o back n served same = record {
  between = served.heap.between;
  grants = served.heap.grants;
  releases = subst (AfterRelease file plan m o.release served.heap.between) (sym same) served.heap.releases;
}

returns_serve : (file : List ℕ) (plan : Plan) (v : Value) (o : Outcome) (m : SymMachine) → m.ending ≡ Running
    → Served file plan m o
    → ServesHeap file plan m
    (if is_fault (returns file plan v (answered o) m).ending then empty_note else heap_note (Some o) m)
    (returns file plan v (answered o) m)
returns_serve file plan (Ret back) o m runs h =
    let going : is_fault o.machine.ending ≡ false = ap is_fault (h.ending ∙ runs) in
    rw going (went file plan m o _ (goes_back file plan back (answered o)) h refl)
returns_serve file plan (Num a) o m runs h = by_test (is_some (code_word file a))
  where
    by_test : (t : Bool) → ServesHeap file plan m
        (if is_fault (if t then record (answered o) { pc = a } else faults F3 m).ending then empty_note else
        heap_note (Some o) m)
        (if t then record (answered o) { pc = a } else faults F3 m)
    by_test true =
        let going : is_fault o.machine.ending ≡ false = ap is_fault (h.ending ∙ runs) in
        rw going (went file plan m o _ (record (answered o) { pc = a }) h refl)
    by_test false = unserved file plan m _ None None None refl
returns_serve file plan (Ptr b i) o m runs h = unserved file plan m _ None None None refl
returns_serve file plan (Mix l) o m runs h = unserved file plan m _ None None None refl
returns_serve file plan (Part s i) o m runs h = unserved file plan m _ None None None refl
returns_serve file plan Unset o m runs h = unserved file plan m _ None None None refl

serves_serve : (file : List ℕ) (plan : Plan) (name : HeapName) (m : SymMachine) → m.ending ≡ Running
    → ServesHeap file plan m
    (if is_fault (serves file plan name m).ending then empty_note else heap_note (outcome file plan name m) m)
    (serves file plan name m)
unfolding serves
serves_serve file plan name m runs = by_outcome (outcome file plan name m) refl
  where
    by_outcome : (o : Option Outcome) → outcome file plan name m ≡ o
        → ServesHeap file plan m
        (if is_fault (returns_with file plan o m).ending then empty_note else heap_note o m)
        (returns_with file plan o m)
    by_outcome None e = unserved file plan m _ None None None refl
    by_outcome (Some o) e =
        returns_serve file plan (value_of m 1) o m runs (outcome_served file plan name m o e)

-- instructions
code_serves : KeepsCells → (file : List ℕ) (plan : Plan) (input : List ℕ) (w : ℕ) (m : SymMachine)
    → ServesHeap file plan m
    (if is_fault (executes file plan [] (decoded w) m).next.ending then empty_note else
    instr_note file (decoded w) m)
    (executes file plan input (decoded w) m).next
code_serves as_many file plan input w m =
    by_fault (is_fault (executes file plan [] (decoded w) m).next.ending) (decoded w)
    (executes_heap as_many file plan input (decoded w) m)
  where
    n : SymMachine
    n = (executes file plan input (decoded w) m).next

    by_fault : (t : Bool) (i : Option Instr) → heap_of n ≡ heap_of m
        → ServesHeap file plan m (if t then empty_note else instr_note file i m) n
    by_fault true i same = unserved file plan m n None None None same
    by_fault false None same = unserved file plan m n None None None same
    by_fault false (Some i) same = unserved file plan m n _ _ _ same

here_serves : KeepsCells → (file : List ℕ) (plan : Plan) (input : List ℕ) (h : Here) (m : SymMachine)
    → m.ending ≡ Running
    → ServesHeap file plan m
    (if is_fault (runs_here file plan [] h m).next.ending then empty_note else here_note file plan h m)
    (runs_here file plan input h m).next
here_serves as_many file plan input Nothing m runs = unserved file plan m _ None None None refl
here_serves as_many file plan input (Heap name) m runs = serves_serve file plan name m runs
here_serves as_many file plan input (Pair s) m runs = by_fault (is_fault m.ending)
  where
    by_fault : (t : Bool) → ServesHeap file plan m
        (if t then empty_note else record empty_note { call = Some m.pc })
        (runs_here file plan input (Pair s) m).next
    by_fault true = unserved file plan m _ None None None refl
    by_fault false = unserved file plan m _ (Some m.pc) None None refl
here_serves as_many file plan input (Code w) m runs = code_serves as_many file plan input w m

-- a running machine does what stands at its pc
pub running : (file : List ℕ) (plan : Plan) (input : List ℕ) (m : SymMachine) → m.ending ≡ Running
    → turn file plan input m ≡ runs_here file plan input (here file m.pc) m
unfolding turn
running file plan input m runs = ap (λ e. turn_of file plan e input m) runs

pub turn_serves : KeepsCells → (file : List ℕ) (plan : Plan) (input : List ℕ) (m : SymMachine)
    → ServesHeap file plan m (note file plan m) (turn file plan input m).next
unfolding turn note
turn_serves as_many file plan input m = by_ending m.ending refl
  where
    by_ending : (e : Ending) → m.ending ≡ e
        → ServesHeap file plan m (ending_note file plan e m) (turn_of file plan e input m).next
    by_ending Running runs =
        subst (λ (t : SymTurn). ServesHeap file plan m
        (if is_fault t.next.ending then empty_note else here_note file plan (here file m.pc) m)
        (runs_here file plan input (here file m.pc) m).next)
        (sym (running file plan [] m runs)) (here_serves as_many file plan input (here file m.pc) m runs)
    by_ending (Exit status) is = unserved file plan m _ None None None refl
    by_ending (Illegal at) is = unserved file plan m _ None None None refl
    by_ending (Fault kind at) is = unserved file plan m _ None None None refl
