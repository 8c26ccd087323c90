-- A grant makes the list of addresses one longer, and a release the living blocks one fewer.
use Rattle.std.proofs.Common.{◌≡◌, ℕ, ◌+◌, ◌*◌, List, [], ◌∷◌, Bool, true, false, cond, length, map, replicate, refl}
use Rattle.std.proofs.Common.{ap, sym, ◌∙◌, subst, arith, get_or}
use Rattle.std.specs.Prelude.{Option, Some, None, is_some, option_map, slice_get, slice_set, ◌==◌, ◌&&◌}
use Rattle.std.proofs.lemmas.List.{length-append}
use Rattle.std.specs.List.{sum_by}
use Rattle.std.proofs.lemmas.List.Sums.{sum_by-cons, sum_by-set, sum_by_push}
use Rattle.std.proofs.lemmas.Option.{slice_get-map, slice_get_within, get_or_from_slice_get}
use Rattle.std.proofs.Math.Seq.{map-set_same}
use Rattle.rv_isa.specs.declared.Instr.{Instr}
use Rattle.rv_isa.specs.Table.{decoded}
use Rattle.elf_spec.specs.declared.HeapName.{HeapName}
use Rattle.elf_spec.specs.declared.HeapName.TheVariants.{Malloc, Calloc, Realloc, Free, MallocR, CallocR, ReallocR}
use Rattle.elf_spec.specs.declared.HeapName.TheVariants.{FreeR}
use Rattle.elf_spec.specs.Code.{code_word}
use Rattle.plan_core.specs.declared.types.Plan.{Plan}
use Rattle.place_spec.specs.Layout.{granules_for, address_of}
use Rattle.place_spec.specs.Place.{Placed}
use Rattle.place_spec.specs.Release.{moved}
use Rattle.heap_spec.specs.Requests.{placed_for}
use Rattle.machine_spec.specs.declared.Ending.{Ending}
use Rattle.machine_spec.specs.declared.Ending.TheVariants.{Running, Exit, Illegal, Fault}
use Rattle.machine_spec.specs.declared.FaultKind.TheVariants.{F3}
use Rattle.sym_value.specs.declared.Value.{Value}
use Rattle.sym_value.specs.declared.Value.TheVariants.{Num, Ptr, Ret, Mix, Part, Unset}
use Rattle.sym_value.specs.Places.{lives_in, is_living}
use Rattle.sym_cells.specs.Cells.{zero_cell}
use Rattle.sym_cells.specs.Memory.{Block, Memory, copied, died, dropped, granted, life_of, overlaid, overlaid_block}
use Rattle.sym_cells.specs.Memory.{set_block}
use Rattle.sym_spec.specs.declared.StepNote.{StepNote}
use Rattle.sym_spec.specs.SymMachine.{SymMachine, lives_of, value_of, faults}
use Rattle.sym_spec.specs.HeapActions.{Outcome, Action, answered, answers, callocs, frees, granule_in, grants}
use Rattle.sym_spec.specs.HeapActions.{grants_placed, base, is_front, mallocs, moves, moves_placed, next_name, outcome}
use Rattle.sym_spec.specs.HeapActions.{reallocs, releases, returns, returns_with, serves}
use Rattle.sym_spec.specs.SymTurns.{Here, Nothing, Heap, Pair, Code, here, runs_here, turn, turn_of}
use Rattle.sym_spec.specs.SymNotes.{empty_note, ending_note, heap_note, here_note, instr_note, is_fault, note}
use Rattle.match_spec.specs.Keeps.{IsNoFault}
use Rattle.match_spec.specs.Steps.{living, one_if}
use Rattle.simulation.proofs.OneMore.{still_there}
use Rattle.simulation.proofs.Living.{KeepsBlocks, as_many_live, executes_keep}

pub record Counts (s t : SymMachine) (grant release : Option ℕ) : Type 0 where
  pub addresses : length t.at ≡ length s.at + one_if grant
  pub blocks : living t + one_if release ≡ living s + one_if grant

unchanged : (s t : SymMachine) → KeepsBlocks s t → Counts s t None None
unchanged s t h =
    let long : length t.at ≡ length s.at = ap length h.at in
    let live : living t ≡ living s = as_many_live s t h.lives in
    record { addresses = omega (arith, long); blocks = omega (arith, live) }

-- a block that lives
record Alive (blocks : List Block) (b : ℕ) : Type 0 where
  block : Block
  there : slice_get blocks b ≡ Some block
  lives : block.lives ≡ true

alive : (blocks : List Block) (b : ℕ) → lives_in (slice_get (map life_of blocks) b) ≡ true → Alive blocks b
alive blocks b h =
    at (slice_get blocks b) refl (subst (λ o. lives_in o ≡ true) (slice_get-map life_of blocks b) h)
  where
    at : (o : Option Block) → slice_get blocks b ≡ o → lives_in (option_map life_of o) ≡ true → Alive blocks b
    at (Some k) e h = record { block = k; there = e; lives = h }
    at None e h = absurd (cc)

-- which blocks live
abbrev flags : List Block → List Bool
flags blocks = map (λ (k : Block). k.lives) blocks

by_flags : (blocks : List Block)
    → sum_by (λ (k : Block). cond k.lives 1 0) blocks ≡ sum_by (λ (t : Bool). cond t 1 0) (flags blocks)
by_flags [] = refl
by_flags (k ∷ blocks) =
    sum_by-cons (λ (k : Block). cond k.lives 1 0) k blocks
    ∙ (ap (λ n. cond k.lives 1 0 + n) (by_flags blocks)
    ∙ sym (sum_by-cons (λ (t : Bool). cond t 1 0) k.lives (flags blocks)))

alive_still : (blocks after : List Block) (b : ℕ) → flags after ≡ flags blocks → Alive blocks b → Alive after b
alive_still blocks after b same h =
    at (slice_get after b) refl
    (sym (slice_get-map (λ (k : Block). k.lives) after b)
    ∙ (ap (λ fs. slice_get fs b) same
    ∙ (slice_get-map (λ (k : Block). k.lives) blocks b
    ∙ (ap (option_map (λ (k : Block). k.lives)) h.there ∙ ap (λ t. Some t) h.lives))))
  where
    at : (o : Option Block) → slice_get after b ≡ o → option_map (λ (k : Block). k.lives) o ≡ Some true
        → Alive after b
    at (Some k) e f = record { block = k; there = e; lives = cc }
    at None e f = absurd (cc)

-- a block that is granted, one that dies, and one whose cells are given
granted_counts : (need : ℕ) (s : SymMachine) → living (record s { memory = granted need s.memory }) ≡ living s + 1
unfolding granted
granted_counts need s = sum_by_push (λ (k : Block). cond k.lives 1 0) s.memory.blocks
    (record { cells = replicate (4 * need) zero_cell; lives = true })

alive_granted : (need b : ℕ) (m : Memory) → Alive m.blocks b → Alive (granted need m).blocks b
unfolding granted
alive_granted need b m h = record {
  block = h.block;
  there = still_there m.blocks (record { cells = replicate (4 * need) zero_cell; lives = true }) b h.block h.there;
  lives = h.lives;
}

dropped_counts : (b : ℕ) (s : SymMachine) (m : Memory) → Alive m.blocks b
    → living (record s { memory = dropped b m }) + 1 ≡ living (record s { memory = m })
unfolding dropped
dropped_counts b s m k =
    let is : get_or m.blocks b k.block ≡ k.block = get_or_from_slice_get m.blocks b k.block k.block k.there in
    let one : ◌≡◌ {A = ℕ} (cond (get_or m.blocks b k.block).lives 1 0) 1 =
    ap (λ (x : Block). cond x.lives 1 0) is ∙ ap (λ t. cond t 1 0) k.lives in
    let all : sum_by (λ (x : Block). cond x.lives 1 0) (slice_set m.blocks b (died k.block))
    + cond (get_or m.blocks b k.block).lives 1 0
    ≡ sum_by (λ (x : Block). cond x.lives 1 0) m.blocks + cond false 1 0 =
    sum_by-set (λ (x : Block). cond x.lives 1 0) m.blocks b (died k.block) k.block
    (slice_get_within m.blocks b k.block k.there) in
    rw k.there (omega (arith, all, one))

copied_flags : (from onto : ℕ) (m : Memory) → flags (copied from onto m).blocks ≡ flags m.blocks
unfolding copied
copied_flags from onto m = at (slice_get m.blocks from) (slice_get m.blocks onto) refl
  where
    at : (k l : Option Block) → slice_get m.blocks onto ≡ l
        → flags (set_block onto (overlaid_block k l) m.blocks) ≡ flags m.blocks
    at (Some k) (Some l) e = map-set_same (λ (x : Block). x.lives) m.blocks onto
        (record l { cells = overlaid k.cells l.cells }) l
        (ap (λ (x : Block). x.lives) (sym (get_or_from_slice_get m.blocks onto l l e)))
    at (Some k) None e = refl
    at None (Some l) e = map-set_same (λ (x : Block). x.lives) m.blocks onto l l
        (ap (λ (x : Block). x.lives) (sym (get_or_from_slice_get m.blocks onto l l e)))
    at None None e = refl

moved_counts : (b onto need : ℕ) (s : SymMachine) → Alive s.memory.blocks b
    → living (record s { memory = dropped b (copied b onto (granted need s.memory)) }) ≡ living s
moved_counts b onto need s h =
    let new : Memory = granted need s.memory in
    let full : Memory = copied b onto new in
    let same : flags full.blocks ≡ flags new.blocks = copied_flags b onto new in
    let one_more : living (record s { memory = new }) ≡ living s + 1 = granted_counts need s in
    let as_many : living (record s { memory = full }) ≡ living (record s { memory = new }) =
    by_flags full.blocks ∙ (ap (sum_by (λ (t : Bool). cond t 1 0)) same ∙ sym (by_flags new.blocks)) in
    let one_fewer : living (record s { memory = dropped b full }) + 1 ≡ living (record s { memory = full }) =
    dropped_counts b s full (alive_still new.blocks full.blocks b same (alive_granted need b s.memory h)) in
    omega (arith, one_more, as_many, one_fewer)

-- the outcomes
abbrev CountsOf : SymMachine → Outcome → Type 0
CountsOf s o = Counts s o.machine o.grant o.release

answer_counts : (v : Value) (s : SymMachine) → CountsOf s (answers v s)
answer_counts v s = record { addresses = omega arith; blocks = omega arith }

grant_counts : (file : List ℕ) (plan : Plan) (need : ℕ) (found : Option Placed) (s : SymMachine)
    → CountsOf s (grants_placed file plan need found s)
grant_counts file plan need (Some p) s = record {
  addresses = length-append s.at (address_of (base file plan) p.granule ∷ []);
  blocks = let more = granted_counts need s in omega (arith, more);
}
grant_counts file plan need None s = answer_counts (Num 0) s

move_counts : (file : List ℕ) (plan : Plan) (b need : ℕ) (found : Option Placed) (s : SymMachine)
    → Alive s.memory.blocks b → CountsOf s (moves_placed file plan b need found s)
move_counts file plan b need (Some p) s h = record {
  addresses = length-append s.at (address_of (base file plan) p.granule ∷ []);
  blocks = let same = moved_counts b (next_name s) need s h in ap (λ n. n + 1) same;
}
move_counts file plan b need None s h = answer_counts (Num 0) s

release_counts : (file : List ℕ) (plan : Plan) (b : ℕ) (s : SymMachine) → Alive s.memory.blocks b
    → CountsOf s (releases file plan b s)
release_counts file plan b s h = record {
  addresses = omega arith;
  blocks = let fewer = dropped_counts b s s.memory h in omega (arith, fewer);
}

front_alive : (file : List ℕ) (b o : ℕ) (s : SymMachine) → is_front file b o s ≡ true → Alive s.memory.blocks b
front_alive file b o s h =
    alive s.memory.blocks b (and_second (o == 0) (is_living (lives_of file s) b) h)
  where
    and_second : (p q : Bool) → (p && q) ≡ true → q ≡ true
    and_second true q e = e
    and_second false q e = absurd (cc)

-- one that is as the outcome of an action
the_outcome : (s : SymMachine) (p o : Outcome) → Some p ≡ Some o → CountsOf s p → CountsOf s o
the_outcome s p o e h = let same : p ≡ o = cc in subst (CountsOf s) same h

abbrev ActionCounts : Action → Type 0
ActionCounts action =
    (file : List ℕ) (plan : Plan) (s : SymMachine) (u v : Value) (o : Outcome) → action file plan s u v ≡ Some o
    → CountsOf s o

malloc_counts : ActionCounts mallocs
malloc_counts file plan s (Num size) v o e = the_outcome s (grants file plan size s) o e
    (grant_counts file plan (granules_for size) (placed_for plan.rows plan.area s.layout size s.bits) s)
malloc_counts file plan s (Ptr b k) v o e = absurd (cc)
malloc_counts file plan s (Ret a) v o e = absurd (cc)
malloc_counts file plan s (Mix l) v o e = absurd (cc)
malloc_counts file plan s (Part p i) v o e = absurd (cc)
malloc_counts file plan s Unset v o e = absurd (cc)

calloc_counts : ActionCounts callocs
calloc_counts file plan s (Num n) (Num size) o e = the_outcome s (grants file plan (n * size) s) o e
    (grant_counts file plan (granules_for (n * size)) (placed_for plan.rows plan.area s.layout (n * size) s.bits) s)
calloc_counts file plan s u v o e = absurd (cc)

realloc_counts : ActionCounts reallocs
realloc_counts file plan s (Num p) (Num size) o e = at (p == 0) e
  where
    at : (t : Bool) → cond t (Some (grants file plan size s)) None ≡ Some o → CountsOf s o
    at true e = the_outcome s (grants file plan size s) o e
        (grant_counts file plan (granules_for size) (placed_for plan.rows plan.area s.layout size s.bits) s)
    at false e = absurd (cc)
realloc_counts file plan s (Ptr b k) (Num size) o e = at (is_front file b k s) refl e
  where
    at : (t : Bool) → is_front file b k s ≡ t → cond t (Some (moves file plan b size s)) None ≡ Some o → CountsOf s o
    at true f e = the_outcome s (moves file plan b size s) o e
        (move_counts file plan b (granules_for size)
        (moved plan.rows plan.area s.layout (granule_in file plan b s) (granules_for size) s.bits) s
        (front_alive file b k s f))
    at false f e = absurd (cc)
realloc_counts file plan s u v o e = absurd (cc)

free_counts : ActionCounts frees
free_counts file plan s (Num p) v o e = at (p == 0) e
  where
    at : (t : Bool) → cond t (Some (answers Unset s)) None ≡ Some o → CountsOf s o
    at true e = the_outcome s (answers Unset s) o e (answer_counts Unset s)
    at false e = absurd (cc)
free_counts file plan s (Ptr b k) v o e = at (is_front file b k s) refl e
  where
    at : (t : Bool) → is_front file b k s ≡ t → cond t (Some (releases file plan b s)) None ≡ Some o → CountsOf s o
    at true f e = the_outcome s (releases file plan b s) o e (release_counts file plan b s (front_alive file b k s f))
    at false f e = absurd (cc)
free_counts file plan s u v o e = absurd (cc)

outcome_counts : (file : List ℕ) (plan : Plan) (name : HeapName) (s : SymMachine) (o : Outcome)
    → outcome file plan name s ≡ Some o → CountsOf s o
unfolding outcome
outcome_counts file plan Malloc s o e = malloc_counts file plan s (value_of s 10) (value_of s 11) o e
outcome_counts file plan Calloc s o e = calloc_counts file plan s (value_of s 10) (value_of s 11) o e
outcome_counts file plan Realloc s o e = realloc_counts file plan s (value_of s 10) (value_of s 11) o e
outcome_counts file plan Free s o e = free_counts file plan s (value_of s 10) (value_of s 11) o e
outcome_counts file plan MallocR s o e = malloc_counts file plan s (value_of s 11) (value_of s 12) o e
outcome_counts file plan CallocR s o e = calloc_counts file plan s (value_of s 11) (value_of s 12) o e
outcome_counts file plan ReallocR s o e = realloc_counts file plan s (value_of s 11) (value_of s 12) o e
outcome_counts file plan FreeR s o e = free_counts file plan s (value_of s 11) (value_of s 12) o e

-- the way back changes no block
answered_counts : (s : SymMachine) (o : Outcome) (t : SymMachine) → t.at ≡ o.machine.at → t.memory ≡ o.machine.memory
    → CountsOf s o → Counts s t o.grant o.release
answered_counts s o t at memory h = record {
  addresses = ap length at ∙ h.addresses;
  blocks = ap (λ (m : Memory). sum_by (λ (k : Block). cond k.lives 1 0) m.blocks + one_if o.release) memory
      ∙ h.blocks;
}

returns_count : (file : List ℕ) (plan : Plan) (v : Value) (o : Outcome) (s : SymMachine) → CountsOf s o
    → IsNoFault (returns file plan v (answered o) s).ending
    → Counts s (returns file plan v (answered o) s) o.grant o.release
returns_count file plan (Ret back) o s h safe = answered_counts s o _ refl refl h
returns_count file plan (Num a) o s h safe = at (is_some (code_word file a)) safe
  where
    at : (t : Bool) → IsNoFault (cond t (record (answered o) { pc = a }) (faults F3 s)).ending
        → Counts s (cond t (record (answered o) { pc = a }) (faults F3 s)) o.grant o.release
    at true safe = answered_counts s o _ refl refl h
    at false safe = absurd safe
returns_count file plan (Ptr b k) o s h safe = absurd safe
returns_count file plan (Mix l) o s h safe = absurd safe
returns_count file plan (Part p i) o s h safe = absurd safe
returns_count file plan Unset o s h safe = absurd safe

abbrev pub NoteCounts : SymMachine → SymMachine → StepNote → Type 0
NoteCounts s t note = Counts s t note.grant note.release

serves_count : (file : List ℕ) (plan : Plan) (name : HeapName) (s : SymMachine)
    → IsNoFault (serves file plan name s).ending
    → NoteCounts s (serves file plan name s) (heap_note (outcome file plan name s) s)
unfolding serves
serves_count file plan name s safe = at (outcome file plan name s) refl safe
  where
    at : (o : Option Outcome) → outcome file plan name s ≡ o → IsNoFault (returns_with file plan o s).ending
        → NoteCounts s (returns_with file plan o s) (heap_note o s)
    at (Some o) e safe = returns_count file plan (value_of s 1) o s (outcome_counts file plan name s o e) safe
    at None e safe = absurd safe

-- the note of a turn of an instruction, or of the call of a pair, has no grant and no release
quiet_note : (s t : SymMachine) (b : Bool) (a : StepNote) → a.grant ≡ None → a.release ≡ None → KeepsBlocks s t
    → NoteCounts s t (cond b empty_note a)
quiet_note s t true a g r h = unchanged s t h
quiet_note s t false a g r h = rw (g, r) (unchanged s t h)

instr_grants : (file : List ℕ) (o : Option Instr) (s : SymMachine)
    → ((instr_note file o s).grant ≡ None) × ((instr_note file o s).release ≡ None)
instr_grants file (Some i) s = (refl, refl)
instr_grants file None s = (refl, refl)

no_fault : (e : Ending) → IsNoFault e → is_fault e ≡ false
no_fault Running h = refl
no_fault (Exit status) h = refl
no_fault (Illegal at) h = refl
no_fault (Fault kind at) h = absurd h

here_counts : (file : List ℕ) (plan : Plan) (input : List ℕ) (x : Here) (s : SymMachine) (b : Bool)
    → ((name : HeapName) → x ≡ Heap name → b ≡ false) → IsNoFault (runs_here file plan input x s).next.ending
    → NoteCounts s (runs_here file plan input x s).next (cond b empty_note (here_note file plan x s))
here_counts file plan input Nothing s b h safe = absurd safe
here_counts file plan input (Heap name) s b h safe = rw (h name refl) (serves_count file plan name s safe)
here_counts file plan input (Pair p) s b h safe =
    quiet_note s _ b (here_note file plan (Pair p) s) refl refl (record { at = refl; lives = refl })
here_counts file plan input (Code w) s b h safe =
    let (grant, release) = instr_grants file (decoded w) s in
    quiet_note s _ b (instr_note file (decoded w) s) grant release (executes_keep file plan input (decoded w) s)

-- whether a heap function faults doesn't depend on the input
heap_turn : (file : List ℕ) (plan : Plan) (input : List ℕ) (name : HeapName) (s : SymMachine) → s.ending ≡ Running
    → here file s.pc ≡ Heap name → (turn file plan input s).next ≡ serves file plan name s
unfolding turn
heap_turn file plan input name s run e = rw (run, e) refl

runs : (file : List ℕ) (plan : Plan) (input : List ℕ) (s : SymMachine) → s.ending ≡ Running
    → (turn file plan input s).next ≡ (runs_here file plan input (here file s.pc) s).next
unfolding turn
runs file plan input s run = rw run refl

stays : (file : List ℕ) (plan : Plan) (input : List ℕ) (s : SymMachine) (e : Ending) → s.ending ≡ e
    → (turn_of file plan e input s).next ≡ s → (turn file plan input s).next ≡ s
unfolding turn
stays file plan input s e q h = ap (λ x. (turn_of file plan x input s).next) q ∙ h

pub turn_counts : (file : List ℕ) (plan : Plan) (input : List ℕ) (s : SymMachine)
    → IsNoFault (turn file plan input s).next.ending
    → NoteCounts s (turn file plan input s).next (note file plan s)
unfolding note
turn_counts file plan input s safe = by_ending s.ending refl
  where
    ended : (t : SymMachine) → t ≡ s → NoteCounts s t empty_note
    ended t e = subst (λ x. NoteCounts s x empty_note) (sym e) (unchanged s s (record { at = refl; lives = refl }))

    by_ending : (e : Ending) → s.ending ≡ e → NoteCounts s (turn file plan input s).next (ending_note file plan e s)
    by_ending Running run =
        let is = runs file plan input s run in
        let quiet_heap : (name : HeapName) → here file s.pc ≡ Heap name
        → is_fault (turn file plan [] s).next.ending ≡ false = λ name e.
        no_fault (turn file plan [] s).next.ending
        (subst (λ (x : SymMachine). IsNoFault x.ending)
        (heap_turn file plan input name s run e ∙ sym (heap_turn file plan [] name s run e)) safe) in
        subst (λ x. NoteCounts s x (ending_note file plan Running s)) (sym is)
        (here_counts file plan input (here file s.pc) s (is_fault (turn file plan [] s).next.ending) quiet_heap
        (subst (λ (x : SymMachine). IsNoFault x.ending) is safe))
    by_ending (Exit status) e = ended _ (stays file plan input s (Exit status) e refl)
    by_ending (Illegal at) e = ended _ (stays file plan input s (Illegal at) e refl)
    by_ending (Fault kind at) e = ended _ (stays file plan input s (Fault kind at) e refl)
