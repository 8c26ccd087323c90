-- A request to move a block that its words served: a new block has its first cells, and then it dies.
use Rattle.std.proofs.Common.{◌≡◌, ◌≢◌, ◌⊎◌, ℕ, zero, suc, ◌+◌, ◌-◌, ◌*◌, ◌<◌, ◌≤◌, List, [], ◌∷◌, ◌++◌, true, length}
use Rattle.std.proofs.Common.{map, replicate, refl, ap, sym, ◌∙◌, subst, arith, inl, inr}
use Rattle.std.specs.Prelude.{Option, Some, None, option_map, min, nat_lt, drop, take, slice_get, slice_index}
use Rattle.std.specs.Prelude.{slice_set}
use Rattle.std.proofs.lemmas.List.{length-append, length-map, length-replicate, length-take, length-drop}
use Rattle.std.proofs.lemmas.Option.{slice_get_within}
use Rattle.elf_spec.specs.declared.HeapName.{HeapName}
use Rattle.plan_core.specs.declared.types.Plan.{Plan}
use Rattle.place_spec.specs.Layout.{Layout, granules_for, address_of}
use Rattle.place_spec.specs.Place.{Placed, placed}
use Rattle.place_spec.specs.Release.{block_at, released, then_released, moved}
use Rattle.site_spec.specs.Places.{data_at}
use Rattle.machine_spec.specs.declared.Ending.TheVariants.{Running}
use Rattle.machine_spec.specs.Memory.{byte_of}
use Rattle.flat_spec.specs.Machine.{Machine, register}
use Rattle.flat_spec.specs.Runs.{steps}
use Rattle.flat_spec.proofs.Runs.{more_steps}
use Rattle.heap_spec.specs.Requests.{granule_at, layout_then}
use Rattle.heap_spec.specs.Service.{IsServed, IsMoved, Moves}
use Rattle.sym_value.specs.declared.Value.TheVariants.{Num, Ptr}
use Rattle.sym_value.specs.declared.live.Life.{Life}
use Rattle.sym_cells.specs.Cells.{Cell, zero_cell, cell_in}
use Rattle.sym_cells.specs.Memory as cells
use Rattle.sym_cells.specs.Memory.{Memory, overlaid, granted, copied, dropped, life_of, cell_at}
use Rattle.sym_cells.specs.Region.{Region, is_offset}
use Rattle.sym_spec.specs.Plain.{is_plain}
use Rattle.sym_spec.specs.SymMachine.{SymMachine}
use Rattle.sym_spec.specs.HeapActions.{base, granule_in, answered, moves, moves_placed}
use Rattle.match_spec.specs.Stands.{back_of, places_of, Holds}
use Rattle.match_spec.specs.Parts.{BlocksMatch}
use Rattle.match_spec.specs.Matches.{InStep}
use Rattle.block_laws.specs.Blocks.{IsOneOf, StandsBeside}
use Rattle.simulation.specs.Ground.{Ground}
use Rattle.simulation.specs.HeapGround.{HeapGround}
use Rattle.simulation.specs.Actions.{Acts}
use Rattle.simulation.proofs.AfterRequest.{AreApart, KeptOutside, plain_kept, memory_after}
use Rattle.simulation.proofs.Granting.{nothing_acts, new_cells, granted_blocks, beside, blocks_with, apart_with}
use Rattle.simulation.proofs.Granting.{pointer_holds}
use Rattle.simulation.proofs.KeptRegisters.{kept_registers, longer_registers}
use Rattle.simulation.proofs.OneMore.{last_or_old, last_there, still_there, index_still, index_last, life_there}
use Rattle.simulation.proofs.OneMore.{new_life, granted_lives, all_of}
use Rattle.simulation.proofs.Operations.{holds_num}
use Rattle.simulation.proofs.Ready.{AtWords}
use Rattle.simulation.proofs.Releasing.{lives_without, dropped_lives, dropped_plain, dropped_others, other_granule}
use Rattle.simulation.proofs.Releasing.{blocks_without, apart_without}
use Rattle.simulation.proofs.Serving.{registers_kept, outside_kept, BlocksKept, LivingIn, living, region_kept}
use Rattle.site_stubs.specs.StubRuns.{state_of}

length-overlaid : (from onto : List Cell) → length (overlaid from onto) ≡ length onto
length-overlaid from onto =
    let both = length-append (take (length onto) from) (drop (length from) onto) in
    let front = length-take (length onto) from in
    let back = length-drop (length from) onto in
    omega (arith, both, front, back)

-- another block in the place of one with the same life
set_same : (xs : List cells.Block) (b : ℕ) (k l : cells.Block) → slice_get xs b ≡ Some k → life_of l ≡ life_of k
    → map life_of (slice_set xs b l) ≡ map life_of xs
set_same [] b k l there same = absurd (cc)
set_same (x ∷ xs) zero k l there same =
    let is : x ≡ k = cc in ap (λ y. y ∷ map life_of xs) (same ∙ ap life_of (sym is))
set_same (x ∷ xs) (suc b) k l there same = ap (λ ls. life_of x ∷ ls) (set_same xs b k l there same)

-- the new block after the copy
abbrev pub filled_cells : (need : ℕ) → cells.Block → cells.Block
filled_cells need k = record { cells = overlaid k.cells (new_cells need).cells; lives = true }

-- memory with the new block and the copied cells
pub copied_blocks : (need b : ℕ) (m : Memory) (k : cells.Block) → slice_get m.blocks b ≡ Some k
    → (copied b (length m.blocks) (granted need m)).blocks
    ≡ slice_set (m.blocks ++ new_cells need ∷ []) (length m.blocks) (filled_cells need k)
unfolding granted copied
copied_blocks need b m k there =
    rw (still_there m.blocks (new_cells need) b k there, last_there m.blocks (new_cells need)) refl

pub copied_lives : (need b : ℕ) (m : Memory) (k : cells.Block) → slice_get m.blocks b ≡ Some k
    → map life_of (copied b (length m.blocks) (granted need m)).blocks ≡ map life_of (granted need m).blocks
copied_lives need b m k there =
    ap (map life_of) (copied_blocks need b m k there)
    ∙ (set_same (m.blocks ++ new_cells need ∷ []) (length m.blocks) (new_cells need) (filled_cells need k)
    (last_there m.blocks (new_cells need))
    (ap (λ n. record { capacity = 4 * n; lives = true }) (length-overlaid k.cells (new_cells need).cells))
    ∙ ap (map life_of) (sym (granted_blocks need m)))

pub copied_plain : (need b : ℕ) (m : Memory) → (copied b (length m.blocks) (granted need m)).plain ≡ m.plain
unfolding granted copied
copied_plain need b m = refl

set_cases : (xs : List cells.Block) (n c : ℕ) (v l : cells.Block) → slice_get (slice_set xs n v) c ≡ Some l
    → ((c ≡ n) × (v ≡ l)) ⊎ ((c ≢ n) × (slice_get xs c ≡ Some l))
set_cases [] n c v l e = absurd (cc)
set_cases (x ∷ xs) zero zero v l e = let same : v ≡ l = cc in inl (refl, same)
set_cases (x ∷ xs) zero (suc c) v l e = inr (λ q. absurd (omega (arith, q)), e)
set_cases (x ∷ xs) (suc n) zero v l e = inr (λ q. absurd (omega (arith, q)), e)
set_cases (x ∷ xs) (suc n) (suc c) v l e = by_rest (set_cases xs n c v l e)
  where
    by_rest : ((c ≡ n) × (v ≡ l)) ⊎ ((c ≢ n) × (slice_get xs c ≡ Some l))
        → ((suc c ≡ suc n) × (v ≡ l)) ⊎ ((suc c ≢ suc n) × (slice_get xs c ≡ Some l))
    by_rest (inl (place, same)) = inl (ap suc place, same)
    by_rest (inr (other, is)) = inr (λ q. other (omega (arith, q)), is)

-- a granted move
pub moved_acts : (file : List ℕ) (plan : Plan) (new : List ℕ) (heap : HeapGround file plan new) (name : HeapName)
    (s : SymMachine) (m : Machine) (b need : ℕ) (k : cells.Block) (q : Placed) (input output : List ℕ)
    → Ground file plan new → InStep file plan new s m → s.ending ≡ Running
    → slice_get s.memory.blocks b ≡ Some k → k.lives ≡ true → 1 ≤ need
    → placed plan.rows plan.area s.layout need s.bits ≡ Some q
    → (at : AtWords file plan new heap name s m input output)
    → IsServed plan.area (data_at file) s.layout (released plan.area q.after (granule_in file plan b s)) at.machine
    input output (IsMoved plan.area (data_at file) need (block_at s.layout (granule_in file plan b s)) at.machine.memory
    (Some (then_released plan.area (granule_in file plan b s) q)))
    → Acts file plan new
    (answered (moves_placed file plan b need (Some (then_released plan.area (granule_in file plan b s) q)) s)) m input
    output
moved_acts file plan new heap name s m b need k q input output g h run there live some found at served = record {
  turns = served.count + 2;
  some = omega arith;
  few = let few = served.within in omega (arith, few);
  machine = served.end;
  run = more_steps served.count 2 (state_of m input output) ∙ (ap (steps served.count) at.run ∙ served.run);
  running = run;
  ending = served.running;
  pc = served.pc ∙ (let apart : 1 ≢ 5 = omega arith in at.others 1 apart);
  registers = kept_registers (places_of file plan after_at) s.registers m.registers served.end.registers s.bits
      (Ptr last 0) (longer_registers file plan s.at place s.registers m.registers s.bits g.laws h.registers)
      served.machine.long served.machine.words
      (registers_kept file plan new heap name s m served.end input output at at.machine at.others served.registers)
      (pointer_holds file plan new heap s need q (register served.end 10) g some found h.heap.blocks
      served.answers.address);
  memory = memory_after file plan new s m.memory served.end.memory layout after_at after_memory g heap kept h.memory
      same_plain
      (subst (λ spans. Region (back_of file plan) after_at served.end.memory 0 (is_plain file) (cell_at spans))
      (sym same_plain) (g.laws.longer_region (back_of file plan) s.at place served.end.memory 0 (is_plain file)
      (cell_at s.memory.plain) (plain_kept file plan new s m.memory served.end.memory g heap kept h.memory)))
      regions after (subst (AreApart after_at) (sym same_lives)
      (apart_without file plan new q.after after_at lives_with b (life_of k) g with_it apart_it there_it live));
  heap = record { spells = λ name e there. served.spells; blocks = after };
}
  where
    last : ℕ
    last = length s.memory.blocks

    place : ℕ
    place = address_of (base file plan) q.granule

    after_at : List ℕ
    after_at = s.at ++ place ∷ []

    lives : List Life
    lives = map life_of s.memory.blocks

    lives_with : List Life
    lives_with = lives ++ new_life need ∷ []

    copied_memory : Memory
    copied_memory = copied b last (granted need s.memory)

    after_memory : Memory
    after_memory = dropped b copied_memory

    layout : Layout
    layout = released plan.area q.after (granule_in file plan b s)

    long : length s.at ≡ length s.memory.blocks
    long = h.heap.blocks.addresses ∙ length-map s.memory.blocks life_of

    low : b < length s.memory.blocks
    low = slice_get_within s.memory.blocks b k there

    old_index : slice_index after_at b ≡ slice_index s.at b
    old_index = index_still s.at place b (omega (arith, long, low))

    same_plain : after_memory.plain ≡ s.memory.plain
    same_plain = dropped_plain b copied_memory ∙ copied_plain need b s.memory

    same_lives : map life_of after_memory.blocks ≡ lives_without b lives_with
    same_lives = dropped_lives b copied_memory
        ∙ ap (lives_without b) (copied_lives need b s.memory k there ∙ granted_lives need s.memory)

    with_it : BlocksMatch file plan q.after after_at lives_with
    with_it = blocks_with file plan new heap s need q g some found h.heap.blocks

    apart_it : AreApart after_at lives_with
    apart_it = apart_with file plan new heap s need q g some found h.heap.blocks h.memory.laid.placed.apart

    there_it : slice_get lives_with b ≡ Some (life_of k)
    there_it = still_there lives (new_life need) b (life_of k) (life_there s.memory.blocks b k there)

    after : BlocksMatch file plan layout after_at (map life_of after_memory.blocks)
    after = subst (BlocksMatch file plan layout after_at) (sym same_lives)
        (subst (λ a. BlocksMatch file plan (released plan.area q.after (granule_at plan.area (data_at file) a)) after_at
        (lives_without b lives_with)) old_index
        (blocks_without file plan new q.after after_at lives_with b (life_of k) g with_it apart_it there_it live))

    kept : KeptOutside file plan m.memory served.end.memory
    kept = outside_kept file plan new heap name s m input output at layout
        (IsMoved plan.area (data_at file) need (block_at s.layout (granule_in file plan b s)) at.machine.memory
        (Some (then_released plan.area (granule_in file plan b s) q))) served

    blocks : BlocksKept file plan s layout m.memory served.end.memory
    blocks = subst (λ x. BlocksKept file plan s layout x served.end.memory) at.memory served.blocks

    old_block : LivingIn file plan s b (life_of k)
    old_block = living file plan new s.layout s.at lives b (life_of k) g h.heap.blocks
        (life_there s.memory.blocks b k there) live

    beside_it : StandsBeside need s.layout q
    beside_it = beside file plan new heap s need q g some found h.heap.blocks

    -- a block that isn't the moved one
    old_region : (c : ℕ) (l : cells.Block) → c ≢ b → slice_get s.memory.blocks c ≡ Some l → l.lives ≡ true
        → Region (back_of file plan) after_at served.end.memory (slice_index after_at c) (is_offset l) (cell_in l.cells)
    old_region c l other is alive =
        let inside : c < length s.memory.blocks = slice_get_within s.memory.blocks c l is in
        let block : LivingIn file plan s c (life_of l) = living file plan new s.layout s.at lives c (life_of l) g
        h.heap.blocks (life_there s.memory.blocks c l is) alive in
        let away : block.block.first ≢ granule_in file plan b s =
        other_granule file plan new s.layout s.at lives b (life_of k) g h.heap.blocks h.memory.laid.placed.apart
        (life_there s.memory.blocks b k there) live c (life_of l) other (life_there s.memory.blocks c l is) alive
        block.block block.is block.filled in
        let stays : IsOneOf layout.blocks block.block =
        all_of (λ y. y.first ≢ granule_in file plan b s → IsOneOf layout.blocks y) q.after.blocks block.block
        (g.laws.without plan.area q.after (granule_in file plan b s) with_it.sound).old
        (all_of (IsOneOf q.after.blocks) s.layout.blocks block.block beside_it.old block.one) away in
        subst (λ a. Region (back_of file plan) after_at served.end.memory a (is_offset l) (cell_in l.cells))
        (sym (index_still s.at place c (omega (arith, long, inside))))
        (g.laws.longer_region (back_of file plan) s.at place served.end.memory (slice_index s.at c) (is_offset l)
        (cell_in l.cells)
        (region_kept file plan new s m.memory served.end.memory layout c l g h.memory is alive block blocks stays))

    -- the new block has the copied cells
    new_region : Region (back_of file plan) after_at served.end.memory place (is_offset (filled_cells need k))
        (cell_in (filled_cells need k).cells)
    new_region =
        let capacity : 4 * length k.cells ≡ 16 * old_block.block.granules = old_block.size in
        let address : slice_index s.at b ≡ address_of (base file plan) old_block.block.first = old_block.is.address in
        let granule : granule_in file plan b s ≡ old_block.block.first = omega (arith, address) in
        let (copy, zeros) = served.answers.bytes old_block.block (ap (block_at s.layout) granule ∙ old_block.found) in
        let cells_long : length (replicate (4 * need) zero_cell) ≡ 4 * need = length-replicate (4 * need) zero_cell in
        let size : 16 * need ≡ 4 * length (overlaid k.cells (replicate (4 * need) zero_cell)) =
        omega (arith, length-overlaid k.cells (replicate (4 * need) zero_cell), cells_long) in
        subst (λ n. Region (back_of file plan) after_at served.end.memory place (λ o. nat_lt o n)
        (cell_in (overlaid k.cells (replicate (4 * need) zero_cell)))) size
        (g.laws.moved_region (back_of file plan) after_at m.memory served.end.memory (slice_index s.at b) place need
        k.cells (g.laws.longer_region (back_of file plan) s.at place m.memory (slice_index s.at b) (is_offset k)
        (cell_in k.cells) (h.memory.stands.blocks_stand b k there live))
        (λ o in_old in_new. copy o (omega (arith, capacity, in_old, in_new))
        ∙ (ap (λ x. byte_of x (address_of (base file plan) old_block.block.first + o)) at.memory
        ∙ ap (λ a. byte_of m.memory (a + o)) (sym address)))
        (λ o past in_new.
        let behind : (address_of (base file plan) (q.granule + min old_block.block.granules need)) +
        (o - 16 * old_block.block.granules) ≡ place + o = omega (arith, capacity, past, in_new) in
        subst (λ a. byte_of served.end.memory a ≡ Some 0) behind
        (zeros (o - 16 * old_block.block.granules) (omega (arith, capacity, past, in_new)))))

    regions : (c : ℕ) (l : cells.Block) → slice_get after_memory.blocks c ≡ Some l → l.lives ≡ true
        → Region (back_of file plan) after_at served.end.memory (slice_index after_at c) (is_offset l) (cell_in l.cells)
    regions c l e alive =
        let (other, is) = dropped_others b copied_memory c l e alive in
        by_kind c l other alive (set_cases (s.memory.blocks ++ new_cells need ∷ []) last c (filled_cells need k) l
        (subst (λ bs. slice_get bs c ≡ Some l) (copied_blocks need b s.memory k there) is))
      where
        by_old : (c : ℕ) (l : cells.Block) → c ≢ b → c ≢ last → l.lives ≡ true
            → (slice_get s.memory.blocks c ≡ Some l) ⊎ ((c ≡ last) × (new_cells need ≡ l))
            → Region (back_of file plan) after_at served.end.memory (slice_index after_at c) (is_offset l)
            (cell_in l.cells)
        by_old c l other apart alive (inl is) = old_region c l other is alive
        by_old c l other apart alive (inr (at_end, same)) = absurd (apart at_end)

        by_kind : (c : ℕ) (l : cells.Block) → c ≢ b → l.lives ≡ true
            → ((c ≡ last) × (filled_cells need k ≡ l))
            ⊎ ((c ≢ last) × (slice_get (s.memory.blocks ++ new_cells need ∷ []) c ≡ Some l))
            → Region (back_of file plan) after_at served.end.memory (slice_index after_at c) (is_offset l)
            (cell_in l.cells)
        by_kind c l other alive (inl (at_end, same)) =
            subst (λ (x : cells.Block). Region (back_of file plan) after_at served.end.memory (slice_index after_at c)
            (is_offset x) (cell_in x.cells)) same
            (subst (λ a. Region (back_of file plan) after_at served.end.memory a (is_offset (filled_cells need k))
            (cell_in (filled_cells need k).cells)) (sym (index_last s.at place c (at_end ∙ sym long))) new_region)
        by_kind c l other alive (inr (apart, is)) =
            by_old c l other apart alive (last_or_old s.memory.blocks (new_cells need) c l is)

-- a request to move a block
pub moves_act : (file : List ℕ) (plan : Plan) (new : List ℕ) (heap : HeapGround file plan new) (name : HeapName)
    (s : SymMachine) (m : Machine) (b size : ℕ) (k : cells.Block) (input output : List ℕ) → Ground file plan new
    → InStep file plan new s m → s.ending ≡ Running → slice_get s.memory.blocks b ≡ Some k → k.lives ≡ true
    → (at : AtWords file plan new heap name s m input output)
    → Moves plan.rows plan.area (data_at file) s.layout at.machine input output (granule_in file plan b s) size
    → Acts file plan new (answered (moves file plan b size s)) m input output
moves_act file plan new heap name s m b size k input output g h run there live at served =
    by_found (placed plan.rows plan.area s.layout (granules_for size) s.bits) refl
    (subst (λ w. IsServed plan.area (data_at file) s.layout
    (layout_then s.layout (moved plan.rows plan.area s.layout granule (granules_for size) w)) at.machine input output
    (IsMoved plan.area (data_at file) (granules_for size) (block_at s.layout granule) at.machine.memory
    (moved plan.rows plan.area s.layout granule (granules_for size) w)))
    (let apart : 4 ≢ 5 = omega arith in at.others 4 apart ∙ h.registers.bits_there) served)
  where
    granule : ℕ
    granule = granule_in file plan b s

    by_found : (o : Option Placed) → placed plan.rows plan.area s.layout (granules_for size) s.bits ≡ o
        → IsServed plan.area (data_at file) s.layout
        (layout_then s.layout (option_map (then_released plan.area granule) o)) at.machine input output
        (IsMoved plan.area (data_at file) (granules_for size) (block_at s.layout granule) at.machine.memory
        (option_map (then_released plan.area granule) o))
        → Acts file plan new
        (answered (moves_placed file plan b (granules_for size) (option_map (then_released plan.area granule) o) s)) m
        input output
    by_found None is served =
        nothing_acts file plan new heap name s m (Num 0)
        (IsMoved plan.area (data_at file) (granules_for size) (block_at s.layout granule) at.machine.memory None)
        input output g h run at served
        (subst (λ w. Holds (places_of file plan s.at) (Num 0) w) (sym served.answers.address)
        (holds_num (places_of file plan s.at) 0 (omega arith)))
    by_found (Some q) is served =
        moved_acts file plan new heap name s m b (granules_for size) k q input output g h run there live (omega arith)
        is at served
