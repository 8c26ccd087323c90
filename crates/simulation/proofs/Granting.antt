-- A request for a block that its words served: the block is granted, or the request refused.
use Rattle.std.proofs.Common.{◌≡◌, ◌≢◌, ◌⊎◌, ℕ, ◌+◌, ◌*◌, ◌%◌, ◌^◌, ◌<◌, ◌≤◌, List, [], ◌∷◌, ◌++◌, Bool, true, false}
use Rattle.std.proofs.Common.{cond, length, map, replicate, refl, ap, sym, ◌∙◌, subst, arith, inl, inr, get_or}
use Rattle.std.specs.Prelude.{Option, Some, None, Any, nat_lt, slice_get, slice_index}
use Rattle.std.proofs.lemmas.List.{length-append, length-map, length-replicate}
use Rattle.std.proofs.lemmas.Option.{slice_get_within}
use Rattle.elf_spec.specs.declared.HeapName.{HeapName}
use Rattle.plan_core.specs.declared.types.Plan.{Plan}
use Rattle.plan_core.specs.Plan.{granules}
use Rattle.place_spec.specs.Layout.{Block, granules_for, address_of}
use Rattle.place_spec.specs.Place.{Placed, placed}
use Rattle.place_spec.specs.Sound.{Apart, Sound}
use Rattle.site_spec.specs.Places.{text_at, data_at}
use Rattle.machine_spec.specs.declared.Ending.TheVariants.{Running}
use Rattle.machine_spec.specs.Memory.{Range, byte_of}
use Rattle.flat_spec.specs.Machine.{Machine, register}
use Rattle.flat_spec.specs.Runs.{steps}
use Rattle.flat_spec.proofs.Runs.{more_steps}
use Rattle.heap_spec.specs.Places.{area_end}
use Rattle.heap_spec.specs.Requests.{placed_for, layout_then}
use Rattle.heap_spec.specs.Service.{IsServed, IsGranted, Grants}
use Rattle.sym_value.specs.declared.Value.{Value}
use Rattle.sym_value.specs.declared.Value.TheVariants.{Num, Ptr}
use Rattle.sym_value.specs.declared.live.Life.{Life}
use Rattle.sym_cells.specs.Cells.{zero_cell, cell_in}
use Rattle.sym_cells.specs.Memory as cells
use Rattle.sym_cells.specs.Memory.{Memory, granted, life_of, cell_at}
use Rattle.sym_cells.specs.Region.{Region, is_offset}
use Rattle.sym_spec.specs.Plain.{is_plain}
use Rattle.sym_spec.specs.SymMachine.{SymMachine}
use Rattle.sym_spec.specs.HeapActions.{base, answers, answered, grants, grants_placed}
use Rattle.match_spec.specs.Stands.{back_of, places_of, Holds}
use Rattle.match_spec.specs.Parts.{BlocksMatch, IsBlock, IsNamed, IsInside}
use Rattle.match_spec.specs.Matches.{InStep}
use Rattle.block_laws.specs.Blocks.{IsNew, IsOneOf, StandsBeside}
use Rattle.simulation.specs.Ground.{Ground}
use Rattle.simulation.specs.HeapGround.{HeapGround}
use Rattle.simulation.specs.Actions.{Acts}
use Rattle.simulation.proofs.AfterRequest.{AreApart, KeptOutside, plain_kept, memory_after}
use Rattle.simulation.proofs.KeptRegisters.{kept_registers, longer_registers}
use Rattle.simulation.proofs.OneMore.{last_or_old, still_there, last_there, index_still, index_last, life_there}
use Rattle.simulation.proofs.OneMore.{new_life, granted_lives, all_of, one_of, any_of}
use Rattle.simulation.proofs.Operations.{holds_num}
use Rattle.simulation.proofs.Ready.{AtWords}
use Rattle.simulation.proofs.Serving.{registers_kept, outside_kept, BlocksKept, LivingIn, living, region_kept}
use Rattle.site_stubs.specs.StubRuns.{state_of}

-- a request that does nothing but answer: the tables may be scribbled on where they hold anything
pub nothing_acts : (file : List ℕ) (plan : Plan) (new : List ℕ) (heap : HeapGround file plan new) (name : HeapName)
    (s : SymMachine) (m : Machine) (v : Value) (Answers : Machine → Type 0) (input output : List ℕ)
    → Ground file plan new → InStep file plan new s m → s.ending ≡ Running
    → (at : AtWords file plan new heap name s m input output)
    → (served : IsServed plan.area (data_at file) s.layout s.layout at.machine input output Answers)
    → Holds (places_of file plan s.at) v (register served.end 10)
    → Acts file plan new (answered (answers v s)) m input output
nothing_acts file plan new heap name s m v Answers input output g h run at served answer = record {
  turns = served.count + 2;
  some = omega arith;
  few = let few = served.within in omega (arith, few);
  machine = served.end;
  run = more_steps served.count 2 (state_of m input output) ∙ (ap (steps served.count) at.run ∙ served.run);
  running = run;
  ending = served.running;
  pc = served.pc ∙ (let apart : 1 ≢ 5 = omega arith in at.others 1 apart);
  registers = kept_registers (places_of file plan s.at) s.registers m.registers served.end.registers s.bits v
      h.registers served.machine.long served.machine.words
      (registers_kept file plan new heap name s m served.end input output at at.machine at.others served.registers)
      answer;
  memory = memory_after file plan new s m.memory served.end.memory s.layout s.at s.memory g heap kept h.memory refl
      (plain_kept file plan new s m.memory served.end.memory g heap kept h.memory)
      (λ b k is lives.
      let block : LivingIn file plan s b (life_of k) =
      living file plan new s.layout s.at (map life_of s.memory.blocks) b (life_of k) g h.heap.blocks
      (life_there s.memory.blocks b k is) lives in
      region_kept file plan new s m.memory served.end.memory s.layout b k g h.memory is lives block blocks block.one)
      h.heap.blocks h.memory.laid.placed.apart;
  heap = record { spells = λ name e there. served.spells; blocks = h.heap.blocks };
}
  where
    kept : KeptOutside file plan m.memory served.end.memory
    kept = outside_kept file plan new heap name s m input output at s.layout Answers served

    blocks : BlocksKept file plan s s.layout m.memory served.end.memory
    blocks = subst (λ x. BlocksKept file plan s s.layout x served.end.memory) at.memory served.blocks

-- one more block
module _ (file : List ℕ) (plan : Plan) (new : List ℕ) (heap : HeapGround file plan new) (s : SymMachine)
    (need : ℕ) (p : Placed) (g : Ground file plan new) (some : 1 ≤ need)
    (found : placed plan.rows plan.area s.layout need s.bits ≡ Some p)
    (h : BlocksMatch file plan s.layout s.at (map life_of s.memory.blocks)) where
  abbrev address : ℕ
  address = address_of (base file plan) p.granule

  abbrev at_after : List ℕ
  at_after = s.at ++ address ∷ []

  abbrev lives : List Life
  lives = map life_of s.memory.blocks

  abbrev lives_after : List Life
  lives_after = lives ++ new_life need ∷ []

  pub beside : StandsBeside need s.layout p
  beside = g.laws.beside plan.rows plan.area s.layout need s.bits p heap.suits.groups h.sound some found

  long : length s.at ≡ length lives
  long = h.addresses

  -- an old block is the layout's as before, and the new one is the layout's new one
  old_block : (b : ℕ) (x : Block) → IsBlock (base file plan) s.at lives b x
      → IsBlock (base file plan) at_after lives_after b x
  old_block b x is =
      let low : b < length lives =
      slice_get_within lives b (record { capacity = 16 * x.granules; lives = true }) is.life in
      record {
        life = still_there lives (new_life need) b (record { capacity = 16 * x.granules; lives = true }) is.life;
        address = index_still s.at address b (omega (arith, long, low)) ∙ is.address;
      }

  new_block : (x : Block) → IsNew need p x → IsBlock (base file plan) at_after lives_after (length lives) x
  new_block x (first, size) = record {
    life = last_there lives (new_life need) ∙ ap (λ n. Some (new_life n)) (sym size);
    address = index_last s.at address (length lives) (sym long) ∙ ap (address_of (base file plan)) (sym first);
  }

  pub new_fits : p.granule + need ≤ granules plan.area
  new_fits =
      let (x, (one, (first, size))) = one_of (IsNew need p) p.after.blocks beside.new in
      let inside : x.first + x.granules ≤ granules plan.area =
      all_of (λ b. b.first + b.granules ≤ granules plan.area) p.after.blocks x sound.blocks_inside one in
      omega (arith, inside, first, size)
    where
      sound : Sound plan.area p.after
      sound = g.laws.placing plan.rows plan.area s.layout need s.bits p heap.suits.groups h.sound some found

  pub blocks_with : BlocksMatch file plan p.after at_after lives_after
  blocks_with = record {
    sound = g.laws.placing plan.rows plan.area s.layout need s.bits p heap.suits.groups h.sound some found;
    named = λ k d low. by_kind (get_or p.after.blocks k d) (beside.each k d low);
    placed = λ name k is live. by_place name k live (last_or_old lives (new_life need) name k is);
    addresses = length-append s.at (address ∷ [])
        ∙ (ap (λ n. n + 1) long ∙ sym (length-append lives (new_life need ∷ [])));
    inside = λ name k is. inside_at name k (last_or_old lives (new_life need) name k is);
  }
    where
      by_kind : (x : Block) → IsNew need p x ⊎ IsOneOf s.layout.blocks x
          → IsNamed (base file plan) at_after lives_after x
      by_kind x (inl new) = record { name = length lives; is = new_block x new }
      by_kind x (inr old) =
          let named : IsNamed (base file plan) s.at lives x =
          all_of (IsNamed (base file plan) s.at lives) s.layout.blocks x h.named old in
          record { name = named.name; is = old_block named.name x named.is }

      by_place : (name : ℕ) (k : Life) → k.lives ≡ true
          → (slice_get lives name ≡ Some k) ⊎ ((name ≡ length lives) × (new_life need ≡ k))
          → Any (IsBlock (base file plan) at_after lives_after name) p.after.blocks
      by_place name k live (inl old) =
          let (x, (one, is)) = one_of (IsBlock (base file plan) s.at lives name) s.layout.blocks
          (h.placed name k old live) in
          any_of (IsBlock (base file plan) at_after lives_after name) p.after.blocks x
          (all_of (IsOneOf p.after.blocks) s.layout.blocks x beside.old one) (old_block name x is)
      by_place name k live (inr (last, same)) =
          let (x, (one, new)) = one_of (IsNew need p) p.after.blocks beside.new in
          any_of (IsBlock (base file plan) at_after lives_after name) p.after.blocks x one
          (subst (λ n. IsBlock (base file plan) at_after lives_after n x) (sym last) (new_block x new))

      inside_at : (name : ℕ) (k : Life)
          → (slice_get lives name ≡ Some k) ⊎ ((name ≡ length lives) × (new_life need ≡ k))
          → IsInside plan.area (data_at file) (slice_index at_after name) k
      inside_at name k (inl old) =
          let low : name < length lives = slice_get_within lives name k old in
          subst (λ a. IsInside plan.area (data_at file) a k)
          (sym (index_still s.at address name (omega (arith, long, low)))) (h.inside name k old)
      inside_at name k (inr (last, same)) =
          let page : text_at file % 4096 ≡ 0 = heap.suits.page in
          let fits : p.granule + need ≤ granules plan.area = new_fits in
          subst (λ l. IsInside plan.area (data_at file) (slice_index at_after name) l) same
          (subst (λ a. IsInside plan.area (data_at file) a (new_life need))
          (sym (index_last s.at address name (omega (arith, long, last)))) (record {
            aligned = omega (arith, page);
            low = omega arith;
            high = omega (arith, fits);
          }))

  -- the new block shares no byte with an old one
  pub apart_with : AreApart s.at lives → AreApart at_after lives_after
  apart_with apart b c k l other at_b at_c live_b live_c =
      by_places (last_or_old lives (new_life need) b k at_b) (last_or_old lives (new_life need) c l at_c)
    where
      old_apart : (b : ℕ) (k : Life) → slice_get lives b ≡ Some k → k.lives ≡ true
          → (address + 16 * need ≤ slice_index s.at b) ⊎ (slice_index s.at b + k.capacity ≤ address)
      old_apart b k is live =
          let block : LivingIn file plan s b k = living file plan new s.layout s.at lives b k g h is live in
          let place : slice_index s.at b ≡ address_of (base file plan) block.block.first = block.is.address in
          let size : k.capacity ≡ 16 * block.block.granules = block.size in
          by_side (slice_index s.at b) k.capacity block.block place size
          (all_of (λ x. Apart p.granule need x.first x.granules) s.layout.blocks block.block beside.apart block.one)
        where
          by_side : (a n : ℕ) (x : Block) → a ≡ address_of (base file plan) x.first → n ≡ 16 * x.granules
              → Apart p.granule need x.first x.granules → (address + 16 * need ≤ a) ⊎ (a + n ≤ address)
          by_side a n x place size (inl l) = inl (omega (arith, place, l))
          by_side a n x place size (inr r) = inr (omega (arith, place, size, r))

      old_index : (b : ℕ) (k : Life) → slice_get lives b ≡ Some k → slice_index at_after b ≡ slice_index s.at b
      old_index b k is =
          let low : b < length lives = slice_get_within lives b k is in
          index_still s.at address b (omega (arith, long, low))

      turned : (a n b m : ℕ) → (a + n ≤ b) ⊎ (b + m ≤ a) → (b + m ≤ a) ⊎ (a + n ≤ b)
      turned a n b m (inl l) = inr l
      turned a n b m (inr r) = inl r

      by_places : (slice_get lives b ≡ Some k) ⊎ ((b ≡ length lives) × (new_life need ≡ k))
          → (slice_get lives c ≡ Some l) ⊎ ((c ≡ length lives) × (new_life need ≡ l))
          → (slice_index at_after b + k.capacity ≤ slice_index at_after c)
          ⊎ (slice_index at_after c + l.capacity ≤ slice_index at_after b)
      by_places (inl old) (inl elder) =
          rw (old_index b k old, old_index c l elder) (apart b c k l other old elder live_b live_c)
      by_places (inl old) (inr (last, same)) =
          let size : 16 * need ≡ l.capacity = ap (λ (x : Life). x.capacity) same in
          rw (old_index b k old, index_last s.at address c (omega (arith, long, last)), sym size)
          (turned address (16 * need) (slice_index s.at b) k.capacity (old_apart b k old live_b))
      by_places (inr (last, same)) (inl elder) =
          let size : 16 * need ≡ k.capacity = ap (λ (x : Life). x.capacity) same in
          rw (index_last s.at address b (omega (arith, long, last)), old_index c l elder, sym size)
          (old_apart c l elder live_c)
      by_places (inr (last, same)) (inr (latest, alike)) = absurd (other (last ∙ sym latest))

pub granted_plain : (need : ℕ) (m : Memory) → (granted need m).plain ≡ m.plain
unfolding granted
granted_plain need m = refl

abbrev pub new_cells : ℕ → cells.Block
new_cells need = record { cells = replicate (4 * need) zero_cell; lives = true }

pub granted_blocks : (need : ℕ) (m : Memory) → (granted need m).blocks ≡ m.blocks ++ new_cells need ∷ []
unfolding granted
granted_blocks need m = refl

-- zero bytes stand for the cells of the new block
new_stands : (file : List ℕ) (plan : Plan) (new : List ℕ) (at : List ℕ) (memory : List Range) (a need : ℕ)
    → Ground file plan new → ((o : ℕ) → o < 16 * need → byte_of memory (a + o) ≡ Some 0)
    → Region (back_of file plan) at memory a (is_offset (new_cells need)) (cell_in (new_cells need).cells)
new_stands file plan new at memory a need g zero =
    let long : length (replicate (4 * need) zero_cell) ≡ 4 * need = length-replicate (4 * need) zero_cell in
    let size : 16 * need ≡ 4 * length (replicate (4 * need) zero_cell) = omega (arith, long) in
    subst (λ n. Region (back_of file plan) at memory a (λ o. nat_lt o n) (cell_in (replicate (4 * need) zero_cell)))
    size (g.laws.new_region (back_of file plan) at memory a need zero)

-- the address of a new block stands for the pointer to its front
pub pointer_holds : (file : List ℕ) (plan : Plan) (new : List ℕ) (heap : HeapGround file plan new) (s : SymMachine)
    (need : ℕ) (p : Placed) (w : ℕ) → Ground file plan new → 1 ≤ need
    → placed plan.rows plan.area s.layout need s.bits ≡ Some p
    → BlocksMatch file plan s.layout s.at (map life_of s.memory.blocks)
    → w ≡ address_of (base file plan) p.granule
    → Holds (places_of file plan (s.at ++ address_of (base file plan) p.granule ∷ []))
    (Ptr (length s.memory.blocks) 0) w
pointer_holds file plan new heap s need p w g some found h word =
    let place : ℕ = address_of (base file plan) p.granule in
    let after_at : List ℕ = s.at ++ place ∷ [] in
    let long : length s.at ≡ length s.memory.blocks = h.addresses ∙ length-map s.memory.blocks life_of in
    let last : slice_index after_at (length s.memory.blocks) ≡ place =
    index_last s.at place (length s.memory.blocks) (sym long) in
    let fits : p.granule + need ≤ granules plan.area = new_fits file plan new heap s need p g some found h in
    let top : area_end plan.area (data_at file) < 0x7FF00000 = heap.below_stack in
    let below : place < 0x7FF00000 = omega (arith, fits, top, some) in
    let size : length after_at ≡ length s.at + 1 = length-append s.at (place ∷ []) in
    let stands : (slice_index after_at (length s.memory.blocks) + 0) % 2 ^ 32 ≡ w = omega (arith, last, word, below) in
    record {
      is = record { stands = stands; value = (omega (arith, size, long), omega arith) };
      small = omega (arith, word, below);
    }

-- a granted request
pub granted_acts : (file : List ℕ) (plan : Plan) (new : List ℕ) (heap : HeapGround file plan new) (name : HeapName)
    (s : SymMachine) (m : Machine) (need : ℕ) (p : Placed) (input output : List ℕ) → Ground file plan new
    → InStep file plan new s m → s.ending ≡ Running → 1 ≤ need
    → placed plan.rows plan.area s.layout need s.bits ≡ Some p
    → (at : AtWords file plan new heap name s m input output)
    → IsServed plan.area (data_at file) s.layout p.after at.machine input output
    (IsGranted plan.area (data_at file) need (Some p))
    → Acts file plan new (answered (grants_placed file plan need (Some p) s)) m input output
granted_acts file plan new heap name s m need p input output g h run some found at served = record {
  turns = served.count + 2;
  some = omega arith;
  few = let few = served.within in omega (arith, few);
  machine = served.end;
  run = more_steps served.count 2 (state_of m input output) ∙ (ap (steps served.count) at.run ∙ served.run);
  running = run;
  ending = served.running;
  pc = served.pc ∙ (let apart : 1 ≢ 5 = omega arith in at.others 1 apart);
  registers = kept_registers (places_of file plan after_at) s.registers m.registers served.end.registers s.bits
      (Ptr (length s.memory.blocks) 0)
      (longer_registers file plan s.at place s.registers m.registers s.bits g.laws h.registers)
      served.machine.long served.machine.words
      (registers_kept file plan new heap name s m served.end input output at at.machine at.others served.registers)
      (pointer_holds file plan new heap s need p (register served.end 10) g some found h.heap.blocks
      served.answers.address);
  memory = memory_after file plan new s m.memory served.end.memory p.after after_at (granted need s.memory) g heap kept
      h.memory (granted_plain need s.memory) plain (λ b k is live. old_or_new b k live
      (last_or_old s.memory.blocks (new_cells need) b k
      (subst (λ bs. slice_get bs b ≡ Some k) (granted_blocks need s.memory) is))) after
      (subst (AreApart after_at) (sym (granted_lives need s.memory))
      (apart_with file plan new heap s need p g some found h.heap.blocks
      h.memory.laid.placed.apart));
  heap = record { spells = λ name e there. served.spells; blocks = after };
}
  where
    place : ℕ
    place = address_of (base file plan) p.granule

    after_at : List ℕ
    after_at = s.at ++ place ∷ []

    long : length s.at ≡ length s.memory.blocks
    long = h.heap.blocks.addresses ∙ length-map s.memory.blocks life_of

    kept : KeptOutside file plan m.memory served.end.memory
    kept = outside_kept file plan new heap name s m input output at p.after
        (IsGranted plan.area (data_at file) need (Some p)) served

    blocks : BlocksKept file plan s p.after m.memory served.end.memory
    blocks = subst (λ x. BlocksKept file plan s p.after x served.end.memory) at.memory served.blocks

    after : BlocksMatch file plan p.after after_at (map life_of (granted need s.memory).blocks)
    after = subst (λ ls. BlocksMatch file plan p.after after_at ls) (sym (granted_lives need s.memory))
        (blocks_with file plan new heap s need p g some found h.heap.blocks)

    plain : Region (back_of file plan) after_at served.end.memory 0 (is_plain file)
        (cell_at (granted need s.memory).plain)
    plain = subst (λ spans. Region (back_of file plan) after_at served.end.memory 0 (is_plain file) (cell_at spans))
        (sym (granted_plain need s.memory))
        (g.laws.longer_region (back_of file plan) s.at place served.end.memory 0 (is_plain file)
        (cell_at s.memory.plain) (plain_kept file plan new s m.memory served.end.memory g heap kept h.memory))

    beside_it : StandsBeside need s.layout p
    beside_it = beside file plan new heap s need p g some found h.heap.blocks

    old_or_new : (b : ℕ) (k : cells.Block) → k.lives ≡ true
        → (slice_get s.memory.blocks b ≡ Some k) ⊎ ((b ≡ length s.memory.blocks) × (new_cells need ≡ k))
        → Region (back_of file plan) after_at served.end.memory (slice_index after_at b) (is_offset k) (cell_in k.cells)
    old_or_new b k live (inl old) =
        let low : b < length s.memory.blocks = slice_get_within s.memory.blocks b k old in
        let block : LivingIn file plan s b (life_of k) =
        living file plan new s.layout s.at (map life_of s.memory.blocks) b (life_of k) g h.heap.blocks
        (life_there s.memory.blocks b k old) live in
        subst (λ a. Region (back_of file plan) after_at served.end.memory a (is_offset k) (cell_in k.cells))
        (sym (index_still s.at place b (omega (arith, long, low))))
        (g.laws.longer_region (back_of file plan) s.at place served.end.memory (slice_index s.at b) (is_offset k)
        (cell_in k.cells)
        (region_kept file plan new s m.memory served.end.memory p.after b k g h.memory old live block blocks
        (all_of (IsOneOf p.after.blocks) s.layout.blocks block.block beside_it.old block.one)))
    old_or_new b k live (inr (at_end, same)) =
        subst (λ (x : cells.Block). Region (back_of file plan) after_at served.end.memory (slice_index after_at b)
        (is_offset x) (cell_in x.cells)) same
        (subst (λ a. Region (back_of file plan) after_at served.end.memory a (is_offset (new_cells need))
        (cell_in (new_cells need).cells)) (sym (index_last s.at place b (at_end ∙ sym long)))
        (new_stands file plan new after_at served.end.memory place need g served.answers.zero))

-- a request for a size
placed_of : (plan : Plan) (s : SymMachine) (size : ℕ) (p : Placed)
    → placed_for plan.rows plan.area s.layout size s.bits ≡ Some p
    → placed plan.rows plan.area s.layout (granules_for size) s.bits ≡ Some p
placed_of plan s size p e = by_test (nat_lt size (2 ^ 32)) e
  where
    by_test : (t : Bool)
        → cond t (placed plan.rows plan.area s.layout (granules_for size) s.bits) None ≡ Some p
        → placed plan.rows plan.area s.layout (granules_for size) s.bits ≡ Some p
    by_test true e = e
    by_test false e = absurd (cc)

pub grants_act : (file : List ℕ) (plan : Plan) (new : List ℕ) (heap : HeapGround file plan new) (name : HeapName)
    (s : SymMachine) (m : Machine) (size : ℕ) (input output : List ℕ) → Ground file plan new
    → InStep file plan new s m → s.ending ≡ Running
    → (at : AtWords file plan new heap name s m input output)
    → Grants plan.rows plan.area (data_at file) s.layout at.machine input output size
    → Acts file plan new (answered (grants file plan size s)) m input output
grants_act file plan new heap name s m size input output g h run at served =
    by_found (placed_for plan.rows plan.area s.layout size s.bits) refl
    (subst (λ b. IsServed plan.area (data_at file) s.layout
    (layout_then s.layout (placed_for plan.rows plan.area s.layout size b)) at.machine input output
    (IsGranted plan.area (data_at file) (granules_for size) (placed_for plan.rows plan.area s.layout size b)))
    (let apart : 4 ≢ 5 = omega arith in at.others 4 apart ∙ h.registers.bits_there) served)
  where
    by_found : (o : Option Placed) → placed_for plan.rows plan.area s.layout size s.bits ≡ o
        → IsServed plan.area (data_at file) s.layout (layout_then s.layout o) at.machine input output
        (IsGranted plan.area (data_at file) (granules_for size) o)
        → Acts file plan new (answered (grants_placed file plan (granules_for size) o s)) m input output
    by_found None is served =
        nothing_acts file plan new heap name s m (Num 0) (IsGranted plan.area (data_at file) (granules_for size) None)
        input output g h run at served
        (subst (λ w. Holds (places_of file plan s.at) (Num 0) w) (sym served.answers.address)
        (holds_num (places_of file plan s.at) 0 (omega arith)))
    by_found (Some p) is served =
        granted_acts file plan new heap name s m (granules_for size) p input output g h run (omega arith)
        (placed_of plan s size p is) at served
