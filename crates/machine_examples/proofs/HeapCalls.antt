-- Single heap actions, over an area of one chunk of 4 granules behind a fallback of 4, with one row. The
-- second program's image ends below 0x11000, so its tables would stand at 0x16000 and its area at 0x160d0.
use Rattle.std.proofs.Common.{◌≡◌, refl}
use Rattle.std.specs.Prelude.{ℕ, ⊤, [], ◌∷◌, List, Option, Some, None, option_map, replicate, slice_set}
use Rattle.elf_spec.specs.declared.HeapName.TheVariants.{Malloc, Calloc, Realloc, Free, MallocR, CallocR, ReallocR}
use Rattle.elf_spec.specs.declared.HeapName.TheVariants.{FreeR}
use Rattle.plan_core.specs.declared.types.Plan.{Plan}
use Rattle.place_spec.specs.Layout.{first_layout}
use Rattle.place_spec.specs.Place.{spot_of, granule_of, taken}
use Rattle.place_spec.specs.Release.{freed}
use Rattle.machine_spec.specs.declared.Ending.TheVariants.{Running, Fault}
use Rattle.machine_spec.specs.declared.FaultKind.TheVariants.{F3, F5}
use Rattle.sym_value.specs.declared.Value.{Value}
use Rattle.sym_value.specs.declared.Value.TheVariants.{Num, Ptr, Ret, Unset}
use Rattle.sym_cells.specs.Memory.{granted, dropped, copied}
use Rattle.sym_spec.specs.SymMachine.{SymMachine, value_of}
use Rattle.sym_spec.specs.HeapActions.{Outcome, outcome, serves}
use Rattle.machine_examples.proofs.Files.{p3}
use Rattle.machine_examples.proofs.Setup.{small_start}
use Rattle.machine_examples.proofs.SymRuns.{sym_run_opened}

unfoldable heap_opened : ⊤
unfolding sym_run_opened outcome serves granted dropped copied spot_of granule_of taken freed
heap_opened = tt

abbrev heap_plan : Plan
heap_plan = record {
  sites = record { bit = 0; addr = 0x10100 } ∷ [];
  rows = record { group = 0; mask = 1 } ∷ [];
  area = record { chunks = 1; log_chunk = 2; fallback = 4 };
}

-- a machine with these bits, and with values in ra, s0, a0 and a1
abbrev asks : (bits : ℕ) → Value → Value → Value → SymMachine
asks bits ra first second = record {
  memory = small_start p3;
  layout = first_layout heap_plan.area;
  at = [];
  registers = slice_set (slice_set (slice_set (slice_set (replicate 32 (Num 7)) 1 ra) 8 (Num 8)) 10 first) 11 second;
  pc = 0x10110;
  bits = bits;
  ending = Running;
}

-- the same machine after an action, with other arguments
abbrev then_asks : Option Outcome → Value → Value → SymMachine
then_asks (Some o) first second =
    record o.machine { registers = slice_set (slice_set o.machine.registers 10 first) 11 second }
then_asks None first second = asks 0 Unset first second

abbrev answer_of : Option Outcome → Option Value
answer_of o = option_map (λ x. x.answer) o

abbrev places_after : Option Outcome → Option (List ℕ)
places_after o = option_map (λ x. x.machine.at) o

-- the row's group has the chunk, and without it the fallback is used
pub in_the_chunk : places_after (outcome p3 heap_plan Malloc (asks 1 (Ret 0x10104) (Num 24) Unset))
    ≡ Some (0x16110 ∷ [])
unfolding heap_opened
in_the_chunk = refl

pub in_the_fallback : places_after (outcome p3 heap_plan Malloc (asks 0 (Ret 0x10104) (Num 24) Unset))
    ≡ Some (0x160D0 ∷ [])
unfolding heap_opened
in_the_fallback = refl

-- a second block of one granule, also where 0 bytes are asked for, stands behind the first of two
abbrev first_grant : Option Outcome
first_grant = outcome p3 heap_plan Malloc (asks 0 (Ret 0x10104) (Num 24) Unset)

pub behind_it : places_after (outcome p3 heap_plan Malloc (then_asks first_grant (Num 0) Unset))
    ≡ Some (0x160D0 ∷ 0x160F0 ∷ [])
unfolding heap_opened
behind_it = refl

-- a product of 2^32 is refused, and so is what finds no room; a refusal answers 0
pub product_refused : answer_of (outcome p3 heap_plan Calloc (asks 0 (Ret 0x10104) (Num 65536) (Num 65536)))
    ≡ Some (Num 0)
unfolding heap_opened
product_refused = refl

pub no_room : answer_of (outcome p3 heap_plan Malloc (asks 0 (Ret 0x10104) (Num 65) Unset)) ≡ Some (Num 0)
unfolding heap_opened
no_room = refl

-- a moved block is placed first, and then the old one is released; a refused move keeps it
abbrev moved_block : Option Outcome
moved_block = outcome p3 heap_plan Realloc (then_asks first_grant (Ptr 0 0) (Num 32))

pub moved_to : places_after moved_block ≡ Some (0x160D0 ∷ 0x160F0 ∷ [])
unfolding heap_opened
moved_to = refl

pub moved_note : option_map (λ x. x.release) moved_block ≡ Some (Some 0)
unfolding heap_opened
moved_note = refl

pub move_refused : option_map (λ x. x.release)
    (outcome p3 heap_plan Realloc (then_asks first_grant (Ptr 0 0) (Num 33))) ≡ Some None
unfolding heap_opened
move_refused = refl

-- the front of a living block or 0 can be released, and nothing else
pub inner_pointer : outcome p3 heap_plan Free (then_asks first_grant (Ptr 0 1) Unset) ≡ None
unfolding heap_opened
inner_pointer = refl

pub dead_block : outcome p3 heap_plan Free (then_asks moved_block (Ptr 0 0) Unset) ≡ None
unfolding heap_opened
dead_block = refl

pub free_of_zero : answer_of (outcome p3 heap_plan Free (asks 0 (Ret 0x10104) (Num 0) Unset)) ≡ Some Unset
unfolding heap_opened
free_of_zero = refl

-- a reentrant form doesn't look at a0: its arguments begin in a1, and a2 is 7 here
pub second_is_first : places_after (outcome p3 heap_plan MallocR (asks 0 (Ret 0x10104) Unset (Num 16)))
    ≡ Some (0x160D0 ∷ [])
unfolding heap_opened
second_is_first = refl

pub reentrant_calloc : places_after (outcome p3 heap_plan CallocR (then_asks first_grant Unset (Num 3)))
    ≡ Some (0x160D0 ∷ 0x160F0 ∷ [])
unfolding heap_opened
reentrant_calloc = refl

pub reentrant_realloc : option_map (λ x. x.release)
    (outcome p3 heap_plan ReallocR (then_asks first_grant Unset (Ptr 0 0))) ≡ Some (Some 0)
unfolding heap_opened
reentrant_realloc = refl

pub reentrant_free : option_map (λ x. x.release)
    (outcome p3 heap_plan FreeR (then_asks first_grant Unset (Ptr 0 0))) ≡ Some (Some 0)
unfolding heap_opened
reentrant_free = refl

pub plain_free : outcome p3 heap_plan Free (then_asks first_grant Unset (Ptr 0 0)) ≡ None
unfolding heap_opened
plain_free = refl

-- the whole turn: bad arguments come before a bad return, and both change nothing else
pub argument_first : (serves p3 heap_plan Free (asks 0 Unset (Num 4) Unset)).ending ≡ Fault F5 0x10110
unfolding heap_opened
argument_first = refl

pub then_return : (serves p3 heap_plan Free (asks 0 Unset (Num 0) Unset)).ending ≡ Fault F3 0x10110
unfolding heap_opened
then_return = refl

-- a0 has the block, t0 and a1 are unset, s0 stays, ra is unset after a return through a return address
abbrev granted_turn : SymMachine
granted_turn = serves p3 heap_plan Malloc (asks 0 (Ret 0x10104) (Num 24) (Num 5))

pub turn_answer : value_of granted_turn 10 ≡ Ptr 0 0
unfolding heap_opened
turn_answer = refl

pub turn_unset : value_of granted_turn 11 ≡ Unset
unfolding heap_opened
turn_unset = refl

pub turn_temporary : value_of granted_turn 5 ≡ Unset
unfolding heap_opened
turn_temporary = refl

pub turn_saved : value_of granted_turn 8 ≡ Num 8
unfolding heap_opened
turn_saved = refl

pub turn_link : value_of granted_turn 1 ≡ Unset
unfolding heap_opened
turn_link = refl

pub turn_pc : granted_turn.pc ≡ 0x10104
unfolding heap_opened
turn_pc = refl

-- and through a number ra stays
pub number_pc : (serves p3 heap_plan Malloc (asks 0 (Num 0x10104) (Num 24) Unset)).pc ≡ 0x10104
unfolding heap_opened
number_pc = refl

pub number_link : value_of (serves p3 heap_plan Malloc (asks 0 (Num 0x10104) (Num 24) Unset)) 1 ≡ Num 0x10104
unfolding heap_opened
number_link = refl
