-- The eight heap functions: the words at the entry of each do its action.
use Rattle.std.proofs.Common.{◌≡◌, ◌≢◌, ℕ, zero, suc, ◌+◌, ◌*◌, ◌%◌, ◌^◌, ◌<◌, ◌≤◌, ◌==◌, ◌&&◌, List, [], ◌∷◌, Bool}
use Rattle.std.proofs.Common.{true, false, cond, map, refl, ap, sym, ◌∙◌, subst, arith, inl, inr}
use Rattle.std.specs.Prelude.{Option, Some, None, slice_get, slice_index}
use Rattle.std.proofs.lemmas.Bool.{and_parts, eqb-true}
use Rattle.std.proofs.lemmas.Bool.Decides.{nat_tests}
use Rattle.elf_spec.specs.declared.HeapName.{HeapName}
use Rattle.elf_spec.specs.declared.HeapName.TheVariants.{Malloc, Calloc, Realloc, Free, MallocR, CallocR, ReallocR}
use Rattle.elf_spec.specs.declared.HeapName.TheVariants.{FreeR}
use Rattle.plan_core.specs.declared.types.Plan.{Plan}
use Rattle.site_spec.specs.Places.{data_at}
use Rattle.machine_spec.specs.declared.Ending.TheVariants.{Running}
use Rattle.flat_spec.specs.Machine.{Machine, register}
use Rattle.place_spec.specs.Layout.{address_of}
use Rattle.place_spec.specs.Release.{released}
use Rattle.heap_spec.specs.Places.{base_of, area_end}
use Rattle.heap_spec.specs.Requests.{IsPointer, granule_at}
use Rattle.heap_spec.specs.Service.{Grants, Moves, Reallocates, Frees, IsServed, AnyAnswer}
use Rattle.sym_value.specs.declared.live.Life.{Life}
use Rattle.sym_value.specs.Places.{lives_in}
use Rattle.sym_cells.specs.Memory as cells
use Rattle.sym_cells.specs.Memory.{life_of}
use Rattle.sym_value.specs.declared.Value.{Value}
use Rattle.sym_value.specs.declared.Value.TheVariants.{Num, Ptr, Ret, Mix, Part, Unset}
use Rattle.sym_spec.specs.SymMachine.{SymMachine, value_of}
use Rattle.sym_spec.specs.HeapActions.{base, Outcome, outcome, answers, answered, grants, moves, releases, granule_in}
use Rattle.sym_spec.specs.HeapActions.{is_front, mallocs, callocs, reallocs, frees}
use Rattle.match_spec.specs.Stands.{places_of, Holds}
use Rattle.match_spec.specs.Parts.{IsInside}
use Rattle.match_spec.specs.Matches.{InStep}
use Rattle.simulation.specs.Ground.{Ground}
use Rattle.simulation.specs.HeapGround.{HeapGround}
use Rattle.simulation.specs.Actions.{Acts, ActsAt}
use Rattle.simulation.proofs.Granting.{nothing_acts, grants_act}
use Rattle.simulation.proofs.OneMore.{life_there, any_of}
use Rattle.simulation.proofs.Operations.{holds_unset}
use Rattle.simulation.proofs.Moving.{moves_act}
use Rattle.simulation.proofs.Releasing.{releases_act}
use Rattle.simulation.proofs.Serving.{LivingIn, living}
use Rattle.simulation.proofs.Ready.{AtWords, at_words}

-- a register of an argument is neither x4 nor t0 (x5), by which the words are reached
record IsArgument (r : ℕ) : Type 0 where
  low : r < 32
  bits : r ≢ 4
  other : r ≢ 5

is_argument : (r : ℕ) → 5 < r → r < 32 → IsArgument r
is_argument r above low = record { low = low; bits = omega (arith, above); other = omega (arith, above) }

some_same : (a b : Outcome) → Some a ≡ Some b → a ≡ b
some_same a b e = cc

-- a size in a register
mallocs_act : (file : List ℕ) (plan : Plan) (new : List ℕ) (heap : HeapGround file plan new) (name : HeapName)
    (s : SymMachine) (m : Machine) (r : ℕ) (v : Value) (o : Outcome) (input output : List ℕ) → Ground file plan new
    → InStep file plan new s m → s.ending ≡ Running
    → (at : AtWords file plan new heap name s m input output) → IsArgument r
    → Grants plan.rows plan.area (data_at file) s.layout at.machine input output (register at.machine r)
    → mallocs file plan s (value_of s r) v ≡ Some o → Acts file plan new (answered o) m input output
mallocs_act file plan new heap name s m r v o input output g h run at first served is =
    by_value (value_of s r) (h.registers.holds r first.low first.bits) is
  where
    by_value : (u : Value) → Holds (places_of file plan s.at) u (register m r) → mallocs file plan s u v ≡ Some o
        → Acts file plan new (answered o) m input output
    by_value (Num size) holds is =
        subst (λ x. Acts file plan new (answered x) m input output) (some_same (grants file plan size s) o is)
        (grants_act file plan new heap name s m size input output g h run at
        (subst (λ w. Grants plan.rows plan.area (data_at file) s.layout at.machine input output w)
        (at.others r first.other ∙ sym holds.is.stands) served))
    by_value (Ptr b p) holds is = absurd (cc)
    by_value (Ret a) holds is = absurd (cc)
    by_value (Mix l) holds is = absurd (cc)
    by_value (Part p i) holds is = absurd (cc)
    by_value Unset holds is = absurd (cc)

-- a number and a size in registers
callocs_act : (file : List ℕ) (plan : Plan) (new : List ℕ) (heap : HeapGround file plan new) (name : HeapName)
    (s : SymMachine) (m : Machine) (r q : ℕ) (o : Outcome) (input output : List ℕ) → Ground file plan new
    → InStep file plan new s m → s.ending ≡ Running
    → (at : AtWords file plan new heap name s m input output) → IsArgument r → IsArgument q
    → Grants plan.rows plan.area (data_at file) s.layout at.machine input output
    (register at.machine r * register at.machine q)
    → callocs file plan s (value_of s r) (value_of s q) ≡ Some o → Acts file plan new (answered o) m input output
callocs_act file plan new heap name s m r q o input output g h run at first second served is =
    by_values (value_of s r) (value_of s q) (h.registers.holds r first.low first.bits)
    (h.registers.holds q second.low second.bits) is
  where
    by_values : (u v : Value) → Holds (places_of file plan s.at) u (register m r)
        → Holds (places_of file plan s.at) v (register m q) → callocs file plan s u v ≡ Some o
        → Acts file plan new (answered o) m input output
    by_values (Num n) (Num size) holds holds_q is =
        subst (λ x. Acts file plan new (answered x) m input output) (some_same (grants file plan (n * size) s) o is)
        (grants_act file plan new heap name s m (n * size) input output g h run at
        (subst (λ w. Grants plan.rows plan.area (data_at file) s.layout at.machine input output (w * size))
        (at.others r first.other ∙ sym holds.is.stands)
        (subst (λ w. Grants plan.rows plan.area (data_at file) s.layout at.machine input output
        (register at.machine r * w)) (at.others q second.other ∙ sym holds_q.is.stands) served)))
    by_values (Num n) (Ptr b p) holds holds_q is = absurd (cc)
    by_values (Num n) (Ret a) holds holds_q is = absurd (cc)
    by_values (Num n) (Mix l) holds holds_q is = absurd (cc)
    by_values (Num n) (Part p i) holds holds_q is = absurd (cc)
    by_values (Num n) Unset holds holds_q is = absurd (cc)
    by_values (Ptr b p) v holds holds_q is = absurd (cc)
    by_values (Ret a) v holds holds_q is = absurd (cc)
    by_values (Mix l) v holds holds_q is = absurd (cc)
    by_values (Part p i) v holds holds_q is = absurd (cc)
    by_values Unset v holds holds_q is = absurd (cc)

-- the living block of which a pointer is the front, and the word that stands for the pointer
record Front (file : List ℕ) (plan : Plan) (s : SymMachine) (b p w : ℕ) : Type 0 where
  block : cells.Block
  there : slice_get s.memory.blocks b ≡ Some block
  live : block.lives ≡ true
  value : w ≡ slice_index s.at b
  some : (w == 0) ≡ false
  good : IsPointer plan.area (data_at file) s.layout w

life_block : (xs : List cells.Block) (b : ℕ) (k : Life) → slice_get (map life_of xs) b ≡ Some k
    → (x : cells.Block) × ((slice_get xs b ≡ Some x) × (life_of x ≡ k))
life_block [] b k e = absurd (cc)
life_block (x ∷ xs) zero k e = let same : life_of x ≡ k = cc in (x, (refl, same))
life_block (x ∷ xs) (suc b) k e = life_block xs b k e

front_of : (file : List ℕ) (plan : Plan) (new : List ℕ) → HeapGround file plan new → (s : SymMachine) (m : Machine)
    (b p w : ℕ) → Ground file plan new → InStep file plan new s m → is_front file b p s ≡ true
    → w ≡ (slice_index s.at b + p) % 2 ^ 32 → Front file plan s b p w
front_of file plan new heap s m b p w g h front word =
    by_life (slice_get (map life_of s.memory.blocks) b) refl front
  where
    found : (k : Life) → slice_get (map life_of s.memory.blocks) b ≡ Some k → k.lives ≡ true → p ≡ 0
        → Front file plan s b p w
    found k e live start =
        let (x, (there, same)) = life_block s.memory.blocks b k e in
        let block : LivingIn file plan s b k =
        living file plan new s.layout s.at (map life_of s.memory.blocks) b k g h.heap.blocks e live in
        let place : slice_index s.at b ≡ address_of (base file plan) block.block.first = block.is.address in
        let inside : IsInside plan.area (data_at file) (slice_index s.at b) k = h.heap.blocks.inside b k e in
        let low : base_of plan.area (data_at file) ≤ slice_index s.at b = inside.low in
        let high : slice_index s.at b + k.capacity ≤ area_end plan.area (data_at file) = inside.high in
        let top : area_end plan.area (data_at file) < 0x7FF00000 = heap.below_stack in
        let value : w ≡ slice_index s.at b = word ∙ omega (arith, start, high, top) in
        let above : 0 < w = omega (arith, value, low) in
        record {
          block = x;
          there = there;
          live = ap (λ (l : Life). l.lives) same ∙ live;
          value = value;
          some = grind (arith, nat_tests);
          good = inr (any_of (λ y. w ≡ address_of (base file plan) y.first) s.layout.blocks block.block block.one
              (value ∙ place));
        }

    by_life : (o : Option Life) → slice_get (map life_of s.memory.blocks) b ≡ o
        → ((p == 0) && lives_in o) ≡ true → Front file plan s b p w
    by_life (Some k) e front =
        let (start, live) = and_parts (p == 0) k.lives front in found k e live (eqb-true p 0 start)
    by_life None e front = let (start, live) = and_parts (p == 0) false front in absurd (cc)

-- 0 or the front of a living block in a register
frees_act : (file : List ℕ) (plan : Plan) (new : List ℕ) (heap : HeapGround file plan new) (name : HeapName)
    (s : SymMachine) (m : Machine) (r : ℕ) (v : Value) (o : Outcome) (input output : List ℕ) → Ground file plan new
    → InStep file plan new s m → s.ending ≡ Running
    → (at : AtWords file plan new heap name s m input output) → IsArgument r
    → (IsPointer plan.area (data_at file) s.layout (register at.machine r)
    → Frees plan.rows plan.area (data_at file) s.layout at.machine input output (register at.machine r == 0) r)
    → frees file plan s (value_of s r) v ≡ Some o → Acts file plan new (answered o) m input output
frees_act file plan new heap name s m r v o input output g h run at first serve is =
    by_value (value_of s r) (h.registers.holds r first.low first.bits) is
  where
    word : register at.machine r ≡ register m r
    word = at.others r first.other

    by_zero : (p : ℕ) → p ≡ register m r → (t : Bool) → (p == 0) ≡ t
        → cond t (Some (answers Unset s)) None ≡ Some o → Acts file plan new (answered o) m input output
    by_zero p same true e is =
        let none : register at.machine r ≡ 0 = word ∙ (sym same ∙ eqb-true p 0 e) in
        let served : IsServed plan.area (data_at file) s.layout s.layout at.machine input output AnyAnswer =
        subst (λ w. Frees plan.rows plan.area (data_at file) s.layout at.machine input output (w == 0) r) none
        (serve (inl none)) in
        subst (λ x. Acts file plan new (answered x) m input output) (some_same (answers Unset s) o is)
        (nothing_acts file plan new heap name s m Unset AnyAnswer input output g h run at served
        (holds_unset (places_of file plan s.at) (register served.end 10) (served.machine.words 10 (omega arith))))
    by_zero p same false e is = absurd (cc)

    by_front : (b p : ℕ) → (slice_index s.at b + p) % 2 ^ 32 ≡ register m r → (t : Bool) → is_front file b p s ≡ t
        → cond t (Some (releases file plan b s)) None ≡ Some o → Acts file plan new (answered o) m input output
    by_front b p stands true e is =
        let front : Front file plan s b p (register at.machine r) =
        front_of file plan new heap s m b p (register at.machine r) g h e (word ∙ sym stands) in
        let served : IsServed plan.area (data_at file) s.layout
        (released plan.area s.layout (granule_at plan.area (data_at file) (register at.machine r))) at.machine input
        output AnyAnswer =
        subst (λ t. Frees plan.rows plan.area (data_at file) s.layout at.machine input output t r) front.some
        (serve front.good) in
        subst (λ x. Acts file plan new (answered x) m input output) (some_same (releases file plan b s) o is)
        (releases_act file plan new heap name s m b (life_of front.block) input output g h run
        (life_there s.memory.blocks b front.block front.there) front.live at
        (subst (λ w. IsServed plan.area (data_at file) s.layout
        (released plan.area s.layout (granule_at plan.area (data_at file) w)) at.machine input output AnyAnswer)
        front.value served))
    by_front b p stands false e is = absurd (cc)

    by_value : (u : Value) → Holds (places_of file plan s.at) u (register m r) → frees file plan s u v ≡ Some o
        → Acts file plan new (answered o) m input output
    by_value (Num p) holds is = by_zero p holds.is.stands (p == 0) refl is
    by_value (Ptr b p) holds is = by_front b p holds.is.stands (is_front file b p s) refl is
    by_value (Ret a) holds is = absurd (cc)
    by_value (Mix l) holds is = absurd (cc)
    by_value (Part p i) holds is = absurd (cc)
    by_value Unset holds is = absurd (cc)

-- 0 or the front of a living block, and a size, in registers
reallocs_act : (file : List ℕ) (plan : Plan) (new : List ℕ) (heap : HeapGround file plan new) (name : HeapName)
    (s : SymMachine) (m : Machine) (r q : ℕ) (o : Outcome) (input output : List ℕ) → Ground file plan new
    → InStep file plan new s m → s.ending ≡ Running
    → (at : AtWords file plan new heap name s m input output) → IsArgument r → IsArgument q
    → r + 1 ≡ q
    → (IsPointer plan.area (data_at file) s.layout (register at.machine r)
    → Reallocates plan.rows plan.area (data_at file) s.layout at.machine input output (register at.machine r == 0) r)
    → reallocs file plan s (value_of s r) (value_of s q) ≡ Some o → Acts file plan new (answered o) m input output
reallocs_act file plan new heap name s m r q o input output g h run at first second next serve is =
    by_values (value_of s r) (value_of s q) (h.registers.holds r first.low first.bits)
    (h.registers.holds q second.low second.bits) is
  where
    word : register at.machine r ≡ register m r
    word = at.others r first.other

    size_is : (size : ℕ) → size ≡ register m q → register at.machine (r + 1) ≡ size
    size_is size same = ap (register at.machine) next ∙ (at.others q second.other ∙ sym same)

    by_zero : (p size : ℕ) → p ≡ register m r → size ≡ register m q → (t : Bool) → (p == 0) ≡ t
        → cond t (Some (grants file plan size s)) None ≡ Some o → Acts file plan new (answered o) m input output
    by_zero p size same same_size true e is =
        let none : register at.machine r ≡ 0 = word ∙ (sym same ∙ eqb-true p 0 e) in
        let served : Grants plan.rows plan.area (data_at file) s.layout at.machine input output
        (register at.machine (r + 1)) =
        subst (λ w. Reallocates plan.rows plan.area (data_at file) s.layout at.machine input output (w == 0) r) none
        (serve (inl none)) in
        subst (λ x. Acts file plan new (answered x) m input output) (some_same (grants file plan size s) o is)
        (grants_act file plan new heap name s m size input output g h run at
        (subst (λ w. Grants plan.rows plan.area (data_at file) s.layout at.machine input output w)
        (size_is size same_size) served))
    by_zero p size same same_size false e is = absurd (cc)

    by_front : (b p size : ℕ) → (slice_index s.at b + p) % 2 ^ 32 ≡ register m r → size ≡ register m q → (t : Bool)
        → is_front file b p s ≡ t → cond t (Some (moves file plan b size s)) None ≡ Some o
        → Acts file plan new (answered o) m input output
    by_front b p size stands same_size true e is =
        let front : Front file plan s b p (register at.machine r) =
        front_of file plan new heap s m b p (register at.machine r) g h e (word ∙ sym stands) in
        let served : Moves plan.rows plan.area (data_at file) s.layout at.machine input output
        (granule_at plan.area (data_at file) (register at.machine r)) (register at.machine (r + 1)) =
        subst (λ t. Reallocates plan.rows plan.area (data_at file) s.layout at.machine input output t r) front.some
        (serve front.good) in
        subst (λ x. Acts file plan new (answered x) m input output) (some_same (moves file plan b size s) o is)
        (moves_act file plan new heap name s m b size front.block input output g h run front.there front.live at
        (subst (λ w. Moves plan.rows plan.area (data_at file) s.layout at.machine input output
        (granule_in file plan b s) w) (size_is size same_size)
        (subst (λ w. Moves plan.rows plan.area (data_at file) s.layout at.machine input output
        (granule_at plan.area (data_at file) w) (register at.machine (r + 1))) front.value served)))
    by_front b p size stands same_size false e is = absurd (cc)

    by_values : (u v : Value) → Holds (places_of file plan s.at) u (register m r)
        → Holds (places_of file plan s.at) v (register m q) → reallocs file plan s u v ≡ Some o
        → Acts file plan new (answered o) m input output
    by_values (Num p) (Num size) holds holds_q is =
        by_zero p size holds.is.stands holds_q.is.stands (p == 0) refl is
    by_values (Ptr b p) (Num size) holds holds_q is =
        by_front b p size holds.is.stands holds_q.is.stands (is_front file b p s) refl is
    by_values u v holds holds_q is = absurd (cc)

-- the registers of arguments: a0 to a2
a0 : IsArgument 10
a0 = is_argument 10 (omega arith) (omega arith)

a1 : IsArgument 11
a1 = is_argument 11 (omega arith) (omega arith)

a2 : IsArgument 12
a2 = is_argument 12 (omega arith) (omega arith)

module _ (file : List ℕ) (plan : Plan) (new : List ℕ) (g : Ground file plan new) where
  pub malloc_acts : ActsAt file plan new Malloc
  unfolding outcome
  malloc_acts s m o input output h run there even is =
      let heap : HeapGround file plan new = g.heap Malloc s.pc there in
      let at : AtWords file plan new heap Malloc s m input output =
      at_words file plan new heap Malloc s m input output g h run there even in
      mallocs_act file plan new heap Malloc s m 10 (value_of s 11) o input output g h run at a0
      (heap.serves.malloc s.layout at.machine input output at.ready tt) is

  pub malloc_r_acts : ActsAt file plan new MallocR
  unfolding outcome
  malloc_r_acts s m o input output h run there even is =
      let heap : HeapGround file plan new = g.heap MallocR s.pc there in
      let at : AtWords file plan new heap MallocR s m input output =
      at_words file plan new heap MallocR s m input output g h run there even in
      mallocs_act file plan new heap MallocR s m 11 (value_of s 12) o input output g h run at a1
      (heap.serves.malloc_r s.layout at.machine input output at.ready tt) is

  pub calloc_acts : ActsAt file plan new Calloc
  unfolding outcome
  calloc_acts s m o input output h run there even is =
      let heap : HeapGround file plan new = g.heap Calloc s.pc there in
      let at : AtWords file plan new heap Calloc s m input output =
      at_words file plan new heap Calloc s m input output g h run there even in
      callocs_act file plan new heap Calloc s m 10 11 o input output g h run at a0 a1
      (heap.serves.calloc s.layout at.machine input output at.ready tt) is

  pub calloc_r_acts : ActsAt file plan new CallocR
  unfolding outcome
  calloc_r_acts s m o input output h run there even is =
      let heap : HeapGround file plan new = g.heap CallocR s.pc there in
      let at : AtWords file plan new heap CallocR s m input output =
      at_words file plan new heap CallocR s m input output g h run there even in
      callocs_act file plan new heap CallocR s m 11 12 o input output g h run at a1 a2
      (heap.serves.calloc_r s.layout at.machine input output at.ready tt) is

  pub realloc_acts : ActsAt file plan new Realloc
  unfolding outcome
  realloc_acts s m o input output h run there even is =
      let heap : HeapGround file plan new = g.heap Realloc s.pc there in
      let at : AtWords file plan new heap Realloc s m input output =
      at_words file plan new heap Realloc s m input output g h run there even in
      reallocs_act file plan new heap Realloc s m 10 11 o input output g h run at a0 a1 refl
      (λ good. heap.serves.realloc s.layout at.machine input output at.ready good) is

  pub realloc_r_acts : ActsAt file plan new ReallocR
  unfolding outcome
  realloc_r_acts s m o input output h run there even is =
      let heap : HeapGround file plan new = g.heap ReallocR s.pc there in
      let at : AtWords file plan new heap ReallocR s m input output =
      at_words file plan new heap ReallocR s m input output g h run there even in
      reallocs_act file plan new heap ReallocR s m 11 12 o input output g h run at a1 a2 refl
      (λ good. heap.serves.realloc_r s.layout at.machine input output at.ready good) is

  pub free_acts : ActsAt file plan new Free
  unfolding outcome
  free_acts s m o input output h run there even is =
      let heap : HeapGround file plan new = g.heap Free s.pc there in
      let at : AtWords file plan new heap Free s m input output =
      at_words file plan new heap Free s m input output g h run there even in
      frees_act file plan new heap Free s m 10 (value_of s 11) o input output g h run at a0
      (λ good. heap.serves.free s.layout at.machine input output at.ready good) is

  pub free_r_acts : ActsAt file plan new FreeR
  unfolding outcome
  free_r_acts s m o input output h run there even is =
      let heap : HeapGround file plan new = g.heap FreeR s.pc there in
      let at : AtWords file plan new heap FreeR s m input output =
      at_words file plan new heap FreeR s m input output g h run there even in
      frees_act file plan new heap FreeR s m 11 (value_of s 12) o input output g h run at a1
      (λ good. heap.serves.free_r s.layout at.machine input output at.ready good) is

  -- all of them
  pub heap_acts : (name : HeapName) → ActsAt file plan new name
  heap_acts Malloc = malloc_acts
  heap_acts Calloc = calloc_acts
  heap_acts Realloc = realloc_acts
  heap_acts Free = free_acts
  heap_acts MallocR = malloc_r_acts
  heap_acts CallocR = calloc_r_acts
  heap_acts ReallocR = realloc_r_acts
  heap_acts FreeR = free_r_acts
