-- A release that its words served: the block is dead, and all others are as before.
use Rattle.std.proofs.Common.{◌≡◌, ◌≢◌, ◌⊎◌, ℕ, zero, suc, ◌+◌, ◌*◌, ◌<◌, ◌≤◌, List, [], ◌∷◌, true, false, length, map}
use Rattle.std.proofs.Common.{replicate, refl, ap, sym, ◌∙◌, subst, arith, inl, inr, get_or}
use Rattle.std.specs.Prelude.{Option, Some, None, Any, slice_get, slice_index, option_map}
use Rattle.std.proofs.lemmas.List.{length-replicate}
use Rattle.elf_spec.specs.declared.HeapName.{HeapName}
use Rattle.plan_core.specs.declared.types.Plan.{Plan}
use Rattle.place_spec.specs.Layout.{Block, Layout, address_of}
use Rattle.place_spec.specs.Release.{released}
use Rattle.site_spec.specs.Places.{data_at}
use Rattle.machine_spec.specs.declared.Ending.TheVariants.{Running}
use Rattle.flat_spec.specs.Machine.{Machine, register}
use Rattle.flat_spec.specs.Runs.{steps}
use Rattle.flat_spec.proofs.Runs.{more_steps}
use Rattle.heap_spec.specs.Requests.{granule_at}
use Rattle.heap_spec.specs.Service.{IsServed, AnyAnswer}
use Rattle.sym_value.specs.declared.Value.TheVariants.{Unset}
use Rattle.sym_value.specs.declared.live.Life.{Life}
use Rattle.sym_cells.specs.Cells.{blank_cell, cell_in}
use Rattle.sym_cells.specs.Memory as cells
use Rattle.sym_cells.specs.Memory.{Memory, set_block, died, dropped, life_of, cell_at}
use Rattle.sym_cells.specs.Region.{Region, is_offset}
use Rattle.sym_spec.specs.Plain.{is_plain}
use Rattle.sym_spec.specs.SymMachine.{SymMachine}
use Rattle.sym_spec.specs.HeapActions.{base, granule_in, answered, releases}
use Rattle.match_spec.specs.Stands.{back_of, places_of}
use Rattle.match_spec.specs.Parts.{BlocksMatch, IsBlock, IsNamed, IsInside}
use Rattle.match_spec.specs.Matches.{InStep}
use Rattle.block_laws.specs.Blocks.{IsOneOf, StandsWithout}
use Rattle.simulation.specs.Ground.{Ground}
use Rattle.simulation.specs.HeapGround.{HeapGround}
use Rattle.simulation.specs.Actions.{Acts}
use Rattle.simulation.proofs.AfterRequest.{AreApart, KeptOutside, plain_kept, memory_after}
use Rattle.simulation.proofs.KeptRegisters.{kept_registers}
use Rattle.simulation.proofs.OneMore.{life_there, all_of, one_of, any_of}
use Rattle.simulation.proofs.Operations.{holds_unset}
use Rattle.simulation.proofs.Ready.{AtWords}
use Rattle.simulation.proofs.Serving.{registers_kept, outside_kept, BlocksKept, Living, LivingIn, living, region_kept}
use Rattle.site_stubs.specs.StubRuns.{state_of}

-- the lives when one block has died
abbrev pub dead : Life → Life
dead k = record k { lives = false }

abbrev pub lives_without : ℕ → List Life → List Life
lives_without b [] = []
lives_without zero (k ∷ ks) = dead k ∷ ks
lives_without (suc b) (k ∷ ks) = k ∷ lives_without b ks

died_life : (k : cells.Block) → life_of (died k) ≡ dead (life_of k)
died_life k =
    let long : length (replicate (length k.cells) blank_cell) ≡ length k.cells =
    length-replicate (length k.cells) blank_cell in
    ap (λ n. record { capacity = 4 * n; lives = false }) long

set_lives : (b : ℕ) (xs : List cells.Block)
    → map life_of (set_block b (option_map died (slice_get xs b)) xs) ≡ lives_without b (map life_of xs)
set_lives b [] = refl
set_lives zero (x ∷ xs) = ap (λ l. l ∷ map life_of xs) (died_life x)
set_lives (suc b) (x ∷ xs) = at (slice_get xs b) (set_lives b xs)
  where
    at : (o : Option cells.Block)
        → map life_of (set_block b (option_map died o) xs) ≡ lives_without b (map life_of xs)
        → map life_of (set_block (suc b) (option_map died o) (x ∷ xs)) ≡ life_of x ∷ lives_without b (map life_of xs)
    at (Some k) ih = ap (λ ls. life_of x ∷ ls) ih
    at None ih = ap (λ ls. life_of x ∷ ls) ih

pub dropped_lives : (b : ℕ) (m : Memory) → map life_of (dropped b m).blocks ≡ lives_without b (map life_of m.blocks)
unfolding dropped
dropped_lives b m = set_lives b m.blocks

-- a block that lives then is another one, and lived before
pub other_lives : (b : ℕ) (ks : List Life) (name : ℕ) (k : Life) → slice_get (lives_without b ks) name ≡ Some k
    → k.lives ≡ true → (name ≢ b) × (slice_get ks name ≡ Some k)
other_lives b [] name k e live = absurd (cc)
other_lives zero (x ∷ xs) zero k e live =
    let same : dead x ≡ k = cc in
    let clash : false ≡ true = ap (λ (l : Life). l.lives) same ∙ live in absurd (cc)
other_lives zero (x ∷ xs) (suc name) k e live = (λ q. absurd (omega (arith, q)), e)
other_lives (suc b) (x ∷ xs) zero k e live = (λ q. absurd (omega (arith, q)), e)
other_lives (suc b) (x ∷ xs) (suc name) k e live =
    let (other, is) = other_lives b xs name k e live in (λ q. other (omega (arith, q)), is)

pub lives_still : (b : ℕ) (ks : List Life) (name : ℕ) (k : Life) → name ≢ b → slice_get ks name ≡ Some k
    → slice_get (lives_without b ks) name ≡ Some k
lives_still b [] name k other e = absurd (cc)
lives_still zero (x ∷ xs) zero k other e = absurd (other refl)
lives_still zero (x ∷ xs) (suc name) k other e = e
lives_still (suc b) (x ∷ xs) zero k other e = e
lives_still (suc b) (x ∷ xs) (suc name) k other e = lives_still b xs name k (λ q. other (ap suc q)) e

-- each block, living or dead, has the capacity that it had
record Before (b : ℕ) (ks : List Life) (name : ℕ) (k : Life) : Type 0 where
  life : Life
  there : slice_get ks name ≡ Some life
  size : life.capacity ≡ k.capacity

before : (b : ℕ) (ks : List Life) (name : ℕ) (k : Life) → slice_get (lives_without b ks) name ≡ Some k
    → Before b ks name k
before b [] name k e = absurd (cc)
before zero (x ∷ xs) zero k e =
    let same : dead x ≡ k = cc in record { life = x; there = refl; size = ap (λ (l : Life). l.capacity) same }
before zero (x ∷ xs) (suc name) k e = record { life = k; there = e; size = refl }
before (suc b) (x ∷ xs) zero k e = record { life = k; there = e; size = refl }
before (suc b) (x ∷ xs) (suc name) k e =
    let old : Before b xs name k = before b xs name k e in
    record { life = old.life; there = old.there; size = old.size }

length-without : (b : ℕ) (ks : List Life) → length (lives_without b ks) ≡ length ks
length-without b [] = refl
length-without zero (x ∷ xs) = refl
length-without (suc b) (x ∷ xs) = ap suc (length-without b xs)

-- one block fewer
module _ (file : List ℕ) (plan : Plan) (new : List ℕ) (layout : Layout) (at : List ℕ) (lives : List Life) (b : ℕ)
    (k : Life) (g : Ground file plan new) (h : BlocksMatch file plan layout at lives) (apart : AreApart at lives)
    (there : slice_get lives b ≡ Some k) (live : k.lives ≡ true) where
  -- the granule that is released
  abbrev granule : ℕ
  granule = granule_at plan.area (data_at file) (slice_index at b)

  abbrev layout_after : Layout
  layout_after = released plan.area layout granule

  the_block : Living file plan layout at lives b k
  the_block = living file plan new layout at lives b k g h there live

  -- it stands at the granule that is released
  granule_is : granule ≡ the_block.block.first
  granule_is =
      let place : slice_index at b ≡ address_of (base file plan) the_block.block.first = the_block.is.address in
      omega (arith, place)

  without : StandsWithout granule layout.blocks layout_after.blocks
  without = g.laws.without plan.area layout granule h.sound

  -- another living block stands at another granule
  pub other_granule : (name : ℕ) (l : Life) → name ≢ b → slice_get lives name ≡ Some l → l.lives ≡ true → (x : Block)
      → IsBlock (base file plan) at lives name x → 0 < x.granules → x.first ≢ granule
  other_granule name l other is live_l x block filled same =
      let place : slice_index at b ≡ address_of (base file plan) the_block.block.first = the_block.is.address in
      let its : slice_index at name ≡ address_of (base file plan) x.first = block.address in
      let size : k.capacity ≡ 16 * the_block.block.granules = the_block.size in
      let long : 0 < the_block.block.granules = the_block.filled in
      let alike : Some l ≡ Some (record { capacity = 16 * x.granules; lives = true }) = sym is ∙ block.life in
      let life : l ≡ record { capacity = 16 * x.granules; lives = true } = cc in
      let its_size : l.capacity ≡ 16 * x.granules = ap (λ (y : Life). y.capacity) life in
      at_once (slice_index at name) (slice_index at b) l.capacity k.capacity
      (omega (arith, place, its, same, granule_is)) (omega (arith, its_size, filled)) (omega (arith, size, long))
      (apart name b l k other is there live_l live)
    where
      at_once : (a c n m : ℕ) → a ≡ c → 0 < n → 0 < m → (a + n ≤ c) ⊎ (c + m ≤ a) → ⊥
      at_once a c n m e p q (inl l) = absurd (omega (arith, e, p, l))
      at_once a c n m e p q (inr r) = absurd (omega (arith, e, q, r))

  pub blocks_without : BlocksMatch file plan layout_after at (lives_without b lives)
  blocks_without = record {
    sound = g.laws.releasing plan.area layout granule h.sound;
    named = λ i d low. named_at (get_or layout_after.blocks i d) (without.each i d low);
    placed = λ name l is live_l.
        let (other, old) = other_lives b lives name l is live_l in placed_at name l other old live_l;
    addresses = h.addresses ∙ sym (length-without b lives);
    inside = λ name l is.
        let old : Before b lives name l = before b lives name l is in
        let i : IsInside plan.area (data_at file) (slice_index at name) old.life = h.inside name old.life old.there in
        let size : old.life.capacity ≡ l.capacity = old.size in
        let high = i.high in
        record { aligned = i.aligned; low = i.low; high = omega (arith, size, high) };
  }
    where
      kept_block : (name : ℕ) (x : Block) → name ≢ b → IsBlock (base file plan) at lives name x
          → IsBlock (base file plan) at (lives_without b lives) name x
      kept_block name x other is = record {
        life = lives_still b lives name (record { capacity = 16 * x.granules; lives = true }) other is.life;
        address = is.address;
      }

      named_at : (x : Block) → (x.first ≢ granule) × IsOneOf layout.blocks x
          → IsNamed (base file plan) at (lives_without b lives) x
      named_at x (other, old) =
          let named : IsNamed (base file plan) at lives x =
          all_of (IsNamed (base file plan) at lives) layout.blocks x h.named old in
          let place : slice_index at b ≡ address_of (base file plan) the_block.block.first = the_block.is.address in
          let its : slice_index at named.name ≡ address_of (base file plan) x.first = named.is.address in
          record {
            name = named.name;
            is = kept_block named.name x (λ same.
                let both : slice_index at named.name ≡ slice_index at b = ap (slice_index at) same in
                let first : x.first ≡ the_block.block.first = omega (arith, place, its, both) in
                other (first ∙ sym granule_is)) named.is;
          }

      placed_at : (name : ℕ) (l : Life) → name ≢ b → slice_get lives name ≡ Some l → l.lives ≡ true
          → Any (IsBlock (base file plan) at (lives_without b lives) name) layout_after.blocks
      placed_at name l other old live_l =
          let (x, (one, is)) = one_of (IsBlock (base file plan) at lives name) layout.blocks
          (h.placed name l old live_l) in
          let filled : 0 < x.granules =
          all_of (λ y. 0 < y.granules) layout.blocks x h.sound.blocks_filled one in
          any_of (IsBlock (base file plan) at (lives_without b lives) name) layout_after.blocks x
          (all_of (λ y. y.first ≢ granule → IsOneOf layout_after.blocks y) layout.blocks x
          without.old one (other_granule name l other old live_l x is filled)) (kept_block name x other is)

  pub apart_without : AreApart at (lives_without b lives)
  apart_without c d l n other at_c at_d live_c live_d =
      let (other_c, old_c) = other_lives b lives c l at_c live_c in
      let (other_d, old_d) = other_lives b lives d n at_d live_d in
      apart c d l n other old_c old_d live_c live_d

pub dropped_plain : (b : ℕ) (m : Memory) → (dropped b m).plain ≡ m.plain
unfolding dropped
dropped_plain b m = refl

-- the first block and the others, where one of these dies
first_there : (o : Option cells.Block) (b : ℕ) (x : cells.Block) (xs : List cells.Block) (k : cells.Block)
    → slice_get (set_block (suc b) (option_map died o) (x ∷ xs)) zero ≡ Some k → Some x ≡ Some k
first_there (Some y) b x xs k e = e
first_there None b x xs k e = e

rest_there : (o : Option cells.Block) (b : ℕ) (x : cells.Block) (xs : List cells.Block) (name : ℕ) (k : cells.Block)
    → slice_get (set_block (suc b) (option_map died o) (x ∷ xs)) (suc name) ≡ Some k
    → slice_get (set_block b (option_map died o) xs) name ≡ Some k
rest_there (Some y) b x xs name k e = e
rest_there None b x xs name k e = e

-- a block that lives after the release has its cells as before
others_there : (b : ℕ) (xs : List cells.Block) (name : ℕ) (k : cells.Block)
    → slice_get (set_block b (option_map died (slice_get xs b)) xs) name ≡ Some k → k.lives ≡ true
    → (name ≢ b) × (slice_get xs name ≡ Some k)
others_there b [] name k e live = absurd (cc)
others_there zero (x ∷ xs) zero k e live =
    let same : died x ≡ k = cc in
    let clash : false ≡ true = ap (λ (l : cells.Block). l.lives) same ∙ live in absurd (cc)
others_there zero (x ∷ xs) (suc name) k e live = (λ q. absurd (omega (arith, q)), e)
others_there (suc b) (x ∷ xs) zero k e live =
    (λ q. absurd (omega (arith, q)), first_there (slice_get xs b) b x xs k e)
others_there (suc b) (x ∷ xs) (suc name) k e live =
    let (other, is) = others_there b xs name k (rest_there (slice_get xs b) b x xs name k e) live in
    (λ q. other (omega (arith, q)), is)

pub dropped_others : (b : ℕ) (m : Memory) (name : ℕ) (k : cells.Block) → slice_get (dropped b m).blocks name ≡ Some k
    → k.lives ≡ true → (name ≢ b) × (slice_get m.blocks name ≡ Some k)
unfolding dropped
dropped_others b m name k e live = others_there b m.blocks name k e live

-- a served release
pub releases_act : (file : List ℕ) (plan : Plan) (new : List ℕ) (heap : HeapGround file plan new) (name : HeapName)
    (s : SymMachine) (m : Machine) (b : ℕ) (k : Life) (input output : List ℕ) → Ground file plan new
    → InStep file plan new s m → s.ending ≡ Running → slice_get (map life_of s.memory.blocks) b ≡ Some k
    → k.lives ≡ true → (at : AtWords file plan new heap name s m input output)
    → IsServed plan.area (data_at file) s.layout (released plan.area s.layout (granule_in file plan b s)) at.machine
    input output AnyAnswer
    → Acts file plan new (answered (releases file plan b s)) m input output
releases_act file plan new heap name s m b k input output g h run there live at served = record {
  turns = served.count + 2;
  some = omega arith;
  few = let few = served.within in omega (arith, few);
  machine = served.end;
  run = more_steps served.count 2 (state_of m input output) ∙ (ap (steps served.count) at.run ∙ served.run);
  running = run;
  ending = served.running;
  pc = served.pc ∙ (let apart : 1 ≢ 5 = omega arith in at.others 1 apart);
  registers = kept_registers (places_of file plan s.at) s.registers m.registers served.end.registers s.bits Unset
      h.registers served.machine.long served.machine.words
      (registers_kept file plan new heap name s m served.end input output at at.machine at.others served.registers)
      (holds_unset (places_of file plan s.at) (register served.end 10) (served.machine.words 10 (omega arith)));
  memory = memory_after file plan new s m.memory served.end.memory layout s.at (dropped b s.memory) g heap kept h.memory
      (dropped_plain b s.memory)
      (subst (λ spans. Region (back_of file plan) s.at served.end.memory 0 (is_plain file) (cell_at spans))
      (sym (dropped_plain b s.memory)) (plain_kept file plan new s m.memory served.end.memory g heap kept h.memory))
      others after
      (subst (AreApart s.at) (sym (dropped_lives b s.memory))
      (apart_without file plan new s.layout s.at (map life_of s.memory.blocks) b k g h.heap.blocks
      h.memory.laid.placed.apart there live));
  heap = record { spells = λ name e there. served.spells; blocks = after };
}
  where
    layout : Layout
    layout = released plan.area s.layout (granule_in file plan b s)

    kept : KeptOutside file plan m.memory served.end.memory
    kept = outside_kept file plan new heap name s m input output at layout AnyAnswer served

    blocks : BlocksKept file plan s layout m.memory served.end.memory
    blocks = subst (λ x. BlocksKept file plan s layout x served.end.memory) at.memory served.blocks

    after : BlocksMatch file plan layout s.at (map life_of (dropped b s.memory).blocks)
    after = subst (λ ls. BlocksMatch file plan layout s.at ls) (sym (dropped_lives b s.memory))
        (blocks_without file plan new s.layout s.at (map life_of s.memory.blocks) b k g h.heap.blocks
        h.memory.laid.placed.apart there live)

    others : (c : ℕ) (l : cells.Block) → slice_get (dropped b s.memory).blocks c ≡ Some l → l.lives ≡ true
        → Region (back_of file plan) s.at served.end.memory (slice_index s.at c) (is_offset l) (cell_in l.cells)
    others c l e alive =
        let (other, is) = dropped_others b s.memory c l e alive in
        let block : LivingIn file plan s c (life_of l) =
        living file plan new s.layout s.at (map life_of s.memory.blocks) c (life_of l) g h.heap.blocks
        (life_there s.memory.blocks c l is) alive in
        region_kept file plan new s m.memory served.end.memory layout c l g h.memory is alive block blocks
        (all_of (λ y. y.first ≢ granule_in file plan b s → IsOneOf layout.blocks y) s.layout.blocks block.block
        (g.laws.without plan.area s.layout (granule_in file plan b s) h.heap.blocks.sound).old block.one
        (other_granule file plan new s.layout s.at (map life_of s.memory.blocks) b k g h.heap.blocks
        h.memory.laid.placed.apart there live c (life_of l) other (life_there s.memory.blocks c l is) alive block.block
        block.is block.filled))
