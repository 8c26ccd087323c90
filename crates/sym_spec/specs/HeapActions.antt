-- The heap functions on the symbol machine. At the entry of each the whole action is one turn, whatever
-- code stands there. Blocks are placed by the rows of the plan, over the bits at that moment.
use Rattle.std.specs.Prelude.{ℕ, ◌+◌, ◌*◌, ◌==◌, List, [], ◌∷◌, ◌++◌, Bool, false, ◌&&◌, Option, Some, None, is_some}
use Rattle.std.specs.Prelude.{find, if◌then◌else◌, length, slice_index, slice_set}
use Rattle.elf_spec.specs.declared.HeapName.{HeapName}
use Rattle.elf_spec.specs.declared.HeapName.TheVariants.{Malloc, Calloc, Realloc, Free, MallocR, CallocR, ReallocR}
use Rattle.elf_spec.specs.declared.HeapName.TheVariants.{FreeR}
use Rattle.elf_spec.specs.Code.{code_word}
use Rattle.elf_spec.specs.Heap.{heap_names, heap_entry}
use Rattle.plan_core.specs.declared.types.Plan.{Plan}
use Rattle.place_spec.specs.Layout.{granules_for, address_of}
use Rattle.place_spec.specs.Place.{Placed}
use Rattle.place_spec.specs.Release.{released, moved}
use Rattle.site_spec.specs.Places.{data_at}
use Rattle.heap_spec.specs.Places.{base_of}
use Rattle.heap_spec.specs.Requests.{placed_for, granule_at}
use Rattle.heap_spec.specs.Service.{may_change}
use Rattle.machine_spec.specs.declared.FaultKind.TheVariants.{F3, F5}
use Rattle.sym_value.specs.declared.Value.{Value}
use Rattle.sym_value.specs.declared.Value.TheVariants.{Num, Ptr, Ret, Unset}
use Rattle.sym_value.specs.Places.{is_living}
use Rattle.sym_cells.specs.Memory.{granted, dropped, copied}
use Rattle.sym_spec.specs.SymMachine.{SymMachine, lives_of, value_of, faults, goes_back}

-- where the area of the heap begins
abbrev pub base : List ℕ → Plan → ℕ
base file plan = base_of plan.area (data_at file)

-- the granule at which a block stands
abbrev pub granule_in : List ℕ → Plan → (block : ℕ) → SymMachine → ℕ
granule_in file plan b m = granule_at plan.area (data_at file) (slice_index m.at b)

-- what an action leads to: the machine with its memory, its layout and its addresses, the value that it
-- answers, and the names of the blocks that it granted and released
pub record Outcome : Type 0 where
  pub machine : SymMachine
  pub answer : Value
  pub grant : Option ℕ
  pub release : Option ℕ

-- nothing but an answer
abbrev pub answers : Value → SymMachine → Outcome
answers v m = record { machine = m; answer = v; grant = None; release = None }

-- the name of the next block
abbrev pub next_name : SymMachine → ℕ
next_name m = length m.memory.blocks

-- one more block of so many granules, where it was placed
abbrev pub with_block : List ℕ → Plan → (need : ℕ) → Placed → SymMachine → SymMachine
with_block file plan need p m = record m {
  memory = granted need m.memory;
  layout = p.after;
  at = m.at ++ address_of (base file plan) p.granule ∷ [];
}

-- a request for a block: a refused one answers 0
abbrev pub grants_placed : List ℕ → Plan → (need : ℕ) → Option Placed → SymMachine → Outcome
grants_placed file plan need (Some p) m = record {
  machine = with_block file plan need p m;
  answer = Ptr (next_name m) 0;
  grant = Some (next_name m);
  release = None;
}
grants_placed file plan need None m = answers (Num 0) m

abbrev pub grants : List ℕ → Plan → (size : ℕ) → SymMachine → Outcome
grants file plan size m =
    grants_placed file plan (granules_for size) (placed_for plan.rows plan.area m.layout size m.bits) m

-- a request to move a block: the new one is placed, the cells of the lesser capacity are copied, and then
-- the old one is released; a refused one answers 0 and keeps the old block
abbrev pub moves_placed : List ℕ → Plan → (block need : ℕ) → Option Placed → SymMachine → Outcome
moves_placed file plan b need (Some p) m = record {
  machine = record (with_block file plan need p m) {
    memory = dropped b (copied b (next_name m) (granted need m.memory));
  };
  answer = Ptr (next_name m) 0;
  grant = Some (next_name m);
  release = Some b;
}
moves_placed file plan b need None m = answers (Num 0) m

abbrev pub moves : List ℕ → Plan → (block size : ℕ) → SymMachine → Outcome
moves file plan b size m =
    moves_placed file plan b (granules_for size)
    (moved plan.rows plan.area m.layout (granule_in file plan b m) (granules_for size) m.bits) m

-- a block is released
abbrev pub releases : List ℕ → Plan → (block : ℕ) → SymMachine → Outcome
releases file plan b m = record {
  machine = record m {
    memory = dropped b m.memory;
    layout = released plan.area m.layout (granule_in file plan b m);
  };
  answer = Unset;
  grant = None;
  release = Some b;
}

-- a pointer is the front of a living block
abbrev pub is_front : List ℕ → (block offset : ℕ) → SymMachine → Bool
is_front file b o m = (o == 0) && is_living (lives_of file m) b

-- what a function does with its first two arguments; none where they are bad
abbrev pub Action : Type 0
Action = List ℕ → Plan → SymMachine → (first second : Value) → Option Outcome

-- a size
abbrev pub mallocs : Action
mallocs file plan m (Num size) v = Some (grants file plan size m)
mallocs file plan m u v = None

-- a number and a size, of which the product is taken in whole numbers
abbrev pub callocs : Action
callocs file plan m (Num n) (Num size) = Some (grants file plan (n * size) m)
callocs file plan m u v = None

-- 0 or the front of a living block, and a size
abbrev pub reallocs : Action
reallocs file plan m (Num p) (Num size) = if p == 0 then Some (grants file plan size m) else None
reallocs file plan m (Ptr b o) (Num size) = if is_front file b o m then Some (moves file plan b size m) else None
reallocs file plan m u v = None

-- 0 or the front of a living block
abbrev pub frees : Action
frees file plan m (Num p) v = if p == 0 then Some (answers Unset m) else None
frees file plan m (Ptr b o) v = if is_front file b o m then Some (releases file plan b m) else None
frees file plan m u v = None

-- the table of the functions: the register of the first argument, with the second in the register behind
-- it, and the action. A reentrant form doesn't look at a0.
pub record Function : Type 0 where
  pub argument : ℕ
  pub action : Action

abbrev pub function : HeapName → Function
function Malloc = record { argument = 10; action = mallocs }
function Calloc = record { argument = 10; action = callocs }
function Realloc = record { argument = 10; action = reallocs }
function Free = record { argument = 10; action = frees }
function MallocR = record { argument = 11; action = mallocs }
function CallocR = record { argument = 11; action = callocs }
function ReallocR = record { argument = 11; action = reallocs }
function FreeR = record { argument = 11; action = frees }

-- the function whose entry is at an address
abbrev pub is_entry : ℕ → Option ℕ → Bool
is_entry a (Some e) = e == a
is_entry a None = false

abbrev pub function_at : List ℕ → ℕ → Option HeapName
function_at file a = find (λ name. is_entry a (heap_entry file name)) heap_names

unfoldable pub outcome : List ℕ → Plan → HeapName → SymMachine → Option Outcome
outcome file plan name m =
    (function name).action file plan m (value_of m (function name).argument)
    (value_of m ((function name).argument + 1))

-- registers, of which the first has this number, where a0 to a7 and t0 to t6 are unset
abbrev pub kept_from : ℕ → List Value → List Value
kept_from r [] = []
kept_from r (v ∷ vs) = (if may_change r then Unset else v) ∷ kept_from (r + 1) vs

-- the answer is in a0
abbrev pub answered : Outcome → SymMachine
answered o = record o.machine { registers = slice_set (kept_from 0 o.machine.registers) 10 o.answer }

-- control goes to ra: back to a return address, or to the code word that it holds as a number
abbrev pub returns : List ℕ → Plan → Value → (after before : SymMachine) → SymMachine
returns file plan (Ret back) n m = goes_back file plan back n
returns file plan (Num a) n m = if is_some (code_word file a) then record n { pc = a } else faults F3 m
returns file plan v n m = faults F3 m

abbrev pub returns_with : List ℕ → Plan → Option Outcome → SymMachine → SymMachine
returns_with file plan (Some o) m = returns file plan (value_of m 1) (answered o) m
returns_with file plan None m = faults F5 m

-- the whole action of a function
unfoldable pub serves : List ℕ → Plan → HeapName → SymMachine → SymMachine
serves file plan name m = returns_with file plan (outcome file plan name m) m
