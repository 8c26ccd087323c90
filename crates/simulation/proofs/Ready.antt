-- From the entry of a heap function two turns lead to the heap's words, and there the flat machine is ready
-- for the request.
use Rattle.std.proofs.Common.{◌≡◌, ◌≢◌, ℕ, ◌+◌, ◌*◌, ◌/◌, ◌%◌, ◌^◌, ◌<◌, ◌≤◌, List, Bool, true, false, cond, length}
use Rattle.std.proofs.Common.{length-set, get_or-set_same, get_or-set_other, refl, ap, sym, ◌∙◌, subst, arith}
use Rattle.std.specs.Prelude.{Option, Some, None, is_some, nat_eq, slice_set, slice_get, slice_index}
use Rattle.std.proofs.lemmas.Bool.Decides.{nat_tests}
use Rattle.rv_isa.specs.declared.Instr.TheVariants.{Auipc, Jalr}
use Rattle.rv_isa.specs.Addresses.{plus, minus}
use Rattle.rv_isa.specs.Encoded.{encoded}
use Rattle.rv_isa.specs.Split.{split_of}
use Rattle.rv_isa.specs.Table.{decoded}
use Rattle.rv_isa.proofs.RoundTrip.{decoded-encoded}
use Rattle.elf_spec.specs.declared.HeapName.{HeapName}
use Rattle.elf_spec.specs.Code.{code_word}
use Rattle.elf_spec.specs.Heap.{heap_entry}
use Rattle.plan_core.specs.declared.types.Plan.{Plan}
use Rattle.site_spec.specs.Places.{text_at, data_at, text_room}
use Rattle.new_file_spec.specs.Rewritten.{heap_jump}
use Rattle.machine_spec.specs.declared.Ending.TheVariants.{Running}
use Rattle.machine_spec.specs.Memory.{Range, Shape, memory_of}
use Rattle.machine_spec.specs.Start.{behind}
use Rattle.flat_spec.specs.Stores.{fetched}
use Rattle.flat_spec.specs.Machine.{Machine, register, word_read}
use Rattle.flat_spec.specs.Machine as flat_machine
use Rattle.flat_spec.specs.Calls as flat_calls
use Rattle.flat_spec.specs.Turns as flat
use Rattle.flat_spec.specs.Runs.{steps}
use Rattle.flat_spec.proofs.Runs.{more_steps, one_step}
use Rattle.heap_spec.specs.Places.{area_end}
use Rattle.heap_spec.specs.Service.{IsReady, HoldsCode, HoldsData, words_at}
use Rattle.heap_spec.specs.Functions.{entry_of, IsWord}
use Rattle.sym_spec.specs.SymMachine.{SymMachine}
use Rattle.match_spec.specs.Stands.{places_of}
use Rattle.match_spec.specs.Parts.{InMemory}
use Rattle.match_spec.specs.Matches.{InStep}
use Rattle.simulation.specs.Ground.{Ground}
use Rattle.simulation.specs.HeapGround.{HeapGround}
use Rattle.simulation.proofs.InHeap.{loaded_same}
use Rattle.simulation.proofs.Jumping.{flat_jump}
use Rattle.simulation.proofs.Following.{fetch_code}
use Rattle.simulation.proofs.Lying.{LiesAlike, lies_alike}
use Rattle.site_stubs.specs.StubRuns.{state_of}
use Rattle.simulation.proofs.FlatTurns.{step_quiet, turn_is}

abbrev pub after_entry : (upper target : ℕ) → Machine → Machine
after_entry upper target m = record m {
  registers = slice_set (slice_set m.registers 5 (plus m.pc upper)) 0 (behind (behind m.pc));
  pc = target;
}

-- the two turns of an auipc that gives t0 and of a jalr through it
entry_turns : (m : Machine) (input output : List ℕ) (v w upper lower target : ℕ) → m.ending ≡ Running
    → length m.registers ≡ 32
    → fetched m.memory m.pc ≡ Some v → decoded v ≡ Some (Auipc 5 upper) → fetched m.memory (behind m.pc) ≡ Some w
    → decoded w ≡ Some (Jalr 0 5 lower)
    → plus (plus m.pc upper) lower / 2 * 2 ≡ target → target % 4 ≡ 0
    → steps 2 (state_of m input output) ≡ state_of (after_entry upper target m) input output
unfolding flat.acts
entry_turns m input output v w upper lower target run long e d f c goes aligned =
    let first : Machine = flat_machine.gives 5 (plus m.pc upper) m in
    let next : Machine = after_entry upper target m in
    let inside : 5 < length m.registers = omega (arith, long) in
    let t0 : register first 5 ≡ plus m.pc upper = get_or-set_same m.registers 5 (plus m.pc upper) 0 inside in
    let turn : flat.turn input m ≡ flat_calls.quiet input first = turn_is input m v (Some (Auipc 5 upper)) run e d in
    let target_is : plus (register first 5) lower / 2 * 2 ≡ target = ap (λ x. plus x lower / 2 * 2) t0 ∙ goes in
    let later : flat.turn input first ≡ flat_calls.quiet input next =
    turn_is input first w (Some (Jalr 0 5 lower)) run f c
    ∙ ap (flat_calls.quiet input) (ap (λ t. flat_machine.jumps 0 t first) target_is
    ∙ flat_jump 0 target first aligned) in
    more_steps 1 1 (state_of m input output)
    ∙ (ap (steps 1) (one_step (state_of m input output) ∙ step_quiet input output m first turn)
    ∙ (one_step (state_of first input output) ∙ step_quiet input output first next later))

-- all registers but t0 are as before
pub entry_others : (words : List ℕ) (w z k : ℕ) → k ≢ 5
    → word_read (slice_set (slice_set words 5 w) 0 z) k ≡ word_read words k
entry_others words w z k other = at (nat_eq k 0) refl
  where
    at : (t : Bool) → nat_eq k 0 ≡ t
        → cond (nat_eq k 0) 0 (slice_index (slice_set (slice_set words 5 w) 0 z) k)
        ≡ cond (nat_eq k 0) 0 (slice_index words k)
    at true e = rw e refl
    at false e =
        let apart : k ≢ 0 = grind (arith, nat_tests) in
        rw (e, get_or-set_other (slice_set words 5 w) 0 k z 0 apart, get_or-set_other words 5 k w 0 other) refl

entry_t0 : (words : List ℕ) (w z : ℕ) → length words ≡ 32
    → word_read (slice_set (slice_set words 5 w) 0 z) 5 ≡ w
entry_t0 words w z long =
    let apart : ◌≢◌ {A = ℕ} 5 0 = omega arith in
    let inside : 5 < length words = omega (arith, long) in
    get_or-set_other (slice_set words 5 w) 0 5 z 0 apart ∙ get_or-set_same words 5 w 0 inside

-- registers are words
registers_small : (file : List ℕ) (plan : Plan) (new : List ℕ) (s : SymMachine) (m : Machine) (w z : ℕ)
    → InStep file plan new s m → w < 2 ^ 32 → (r : ℕ) → r < 32
    → word_read (slice_set (slice_set m.registers 5 w) 0 z) r < 2 ^ 32
registers_small file plan new s m w z h small r low = at (nat_eq r 5) refl (nat_eq r 4) refl
  where
    at : (p : Bool) → nat_eq r 5 ≡ p → (q : Bool) → nat_eq r 4 ≡ q
        → word_read (slice_set (slice_set m.registers 5 w) 0 z) r < 2 ^ 32
    at true e q f =
        let same : r ≡ 5 = grind (arith, nat_tests) in
        rw (same, entry_t0 m.registers w z h.registers.long) small
    at false e true f =
        let other : r ≢ 5 = grind (arith, nat_tests) in
        let same : r ≡ 4 = grind (arith, nat_tests) in
        rw (entry_others m.registers w z r other)
        (subst (λ k. word_read m.registers k < 2 ^ 32) (sym same) (rw h.registers.bits_there h.registers.bits_small))
    at false e false f =
        let other : r ≢ 5 = grind (arith, nat_tests) in
        let apart : r ≢ 4 = grind (arith, nat_tests) in
        rw (entry_others m.registers w z r other) (h.registers.holds r low apart).small

-- the heap's words stand in memory as in the new file, and so do the tables and the area
words_stand : (file : List ℕ) (plan : Plan) (new : List ℕ) (s : SymMachine) (memory : List Range)
    → (g : HeapGround file plan new) → (name : HeapName) (e : ℕ) → heap_entry file name ≡ Some e
    → InMemory file new (places_of file plan s.at) s.memory memory
    → HoldsCode memory (words_at (text_at file)) g.words
words_stand file plan new s memory g name e there h =
    let is : IsWord (text_at file) g.words (entry_of g.at name) = g.reached name e there in
    let some : words_at (text_at file) < words_at (text_at file) + 4 * length g.words = omega (arith, is.0, is.1) in
    let alike : LiesAlike memory (words_at (text_at file)) (words_at (text_at file) + 4 * length g.words)
    g.code.lies.range =
    lies_alike memory (memory_of new) (words_at (text_at file)) (words_at (text_at file) + 4 * length g.words)
    g.code.lies.range h.shape some g.code.lies.there in
    record {
      lies = alike.lies;
      executable = ap (λ (x : Shape). x.executable) alike.shape ∙ g.code.executable;
      writable = ap (λ (x : Shape). x.writable) alike.shape ∙ g.code.writable;
      stand = λ k low.
          let room : words_at (text_at file) + 4 * length g.words ≤ data_at file = g.room in
          loaded_same memory (memory_of new) (words_at (text_at file) + 4 * k)
          (λ a l t. h.text a (omega (arith, l)) (omega (arith, t, low, room))) ∙ g.code.stand k low;
    }

pub tables_stand : (file : List ℕ) (plan : Plan) (new : List ℕ) (s : SymMachine) (memory : List Range)
    → (g : HeapGround file plan new) → InMemory file new (places_of file plan s.at) s.memory memory
    → HoldsData memory (data_at file) (area_end plan.area (data_at file))
tables_stand file plan new s memory g h =
    let some : data_at file < area_end plan.area (data_at file) = omega arith in
    let alike : LiesAlike memory (data_at file) (area_end plan.area (data_at file)) g.holds_data.lies.range =
    lies_alike memory (memory_of new) (data_at file) (area_end plan.area (data_at file)) g.holds_data.lies.range h.shape
    some g.holds_data.lies.there in
    record {
      lies = alike.lies;
      writable = ap (λ (x : Shape). x.writable) alike.shape ∙ g.holds_data.writable;
    }

-- at the words, with what was there at the entry
pub record AtWords (file : List ℕ) (plan : Plan) (new : List ℕ) (g : HeapGround file plan new) (name : HeapName)
    (s : SymMachine) (m : Machine) (input output : List ℕ) : Type 0 where
  pub machine : Machine
  pub run : steps 2 (state_of m input output) ≡ state_of machine input output
  pub ready : IsReady plan.area (text_at file) (data_at file) g.words (entry_of g.at name) s.layout machine
  pub memory : machine.memory ≡ m.memory
  pub others : (k : ℕ) → k ≢ 5 → register machine k ≡ register m k

some_word : (o : Option ℕ) → is_some o ≡ true → (w : ℕ) × (o ≡ Some w)
some_word (Some w) e = (w, refl)
some_word None e = absurd (cc)

-- a word of the entry is fetched
entry_word : (file : List ℕ) (plan : Plan) (new : List ℕ) (s : SymMachine) (m : Machine) (name : HeapName)
    (e i w : ℕ) → Ground file plan new → (g : HeapGround file plan new) → InStep file plan new s m
    → heap_entry file name ≡ Some e → is_some (code_word file (e + 4 * i)) ≡ true
    → slice_get (heap_jump (entry_of g.at name) e) i ≡ Some w → fetched m.memory (e + 4 * i) ≡ Some w
entry_word file plan new s m name e i w ground g h there code word =
    let (v, is) = some_word (code_word file (e + 4 * i)) code in
    fetch_code file plan new (places_of file plan s.at) s.memory m.memory (e + 4 * i) v ground h.memory is
    ∙ g.jump name e i w there word

pub at_words : (file : List ℕ) (plan : Plan) (new : List ℕ) (g : HeapGround file plan new) (name : HeapName)
    (s : SymMachine) (m : Machine) (input output : List ℕ) → Ground file plan new → InStep file plan new s m
    → s.ending ≡ Running → heap_entry file name ≡ Some s.pc → register m 1 % 4 ≡ 0
    → AtWords file plan new g name s m input output
at_words file plan new g name s m input output ground h run there even =
    let e : ℕ = s.pc in
    let to : ℕ = entry_of g.at name in
    let is : IsWord (text_at file) g.words to = g.reached name e there in
    let room : words_at (text_at file) + 4 * length g.words ≤ data_at file = g.room in
    let top : text_at file + text_room ≤ 0x7FF00000 = ground.memory.low_text in
    let high : to < 2 ^ 31 = omega (arith, is.1, room, top) in
    let (first_word, first_is) = some_word (code_word file e) (g.entry name e there).0 in
    let low : e + 4 ≤ text_at file = ground.low_code e first_word first_is in
    let next : behind e ≡ e + 4 = omega (arith, low, top) in
    let far : minus to e < 2 ^ 32 = omega arith in
    let upper : ℕ = (split_of (minus to e)).0 in
    let lower : ℕ = (split_of (minus to e)).1 in
    let none : e + 4 * 0 ≡ e = omega arith in
    let first : fetched m.memory e ≡ Some (encoded (Auipc 5 upper)) =
    subst (λ x. fetched m.memory x ≡ Some (encoded (Auipc 5 upper))) none
    (entry_word file plan new s m name e 0 (encoded (Auipc 5 upper)) ground g h there
    (subst (λ x. is_some (code_word file x) ≡ true) (sym none) (g.entry name e there).0) refl) in
    let second : fetched m.memory (e + 4) ≡ Some (encoded (Jalr 0 5 lower)) =
    entry_word file plan new s m name e 1 (encoded (Jalr 0 5 lower)) ground g h there (g.entry name e there).1 refl in
    let formed : (upper < 2 ^ 32) × (upper % 2 ^ 12 ≡ 0) = ground.laws.upper (minus to e) far in
    let goes : plus (plus e upper) lower ≡ to =
    ground.laws.there e to (omega (arith, low, top)) (omega (arith, high)) in
    let half : to / 2 * 2 ≡ to = (let even_to : to % 4 ≡ 0 = is.2 in omega (arith, even_to)) in
    let machine : Machine = after_entry upper to m in
    let others : (k : ℕ) → k ≢ 5 → register machine k ≡ register m k =
    λ k n. entry_others m.registers (plus m.pc upper) (behind (behind m.pc)) k n in
    record {
      machine = machine;
      run = entry_turns m input output (encoded (Auipc 5 upper)) (encoded (Jalr 0 5 lower)) upper lower to
          (h.ending ∙ run) h.registers.long (ap (fetched m.memory) h.pc ∙ first)
          (decoded-encoded (Auipc 5 upper) (omega arith, formed.0, formed.1))
          (ap (fetched m.memory) (ap behind h.pc ∙ next) ∙ second)
          (decoded-encoded (Jalr 0 5 lower) (omega arith, omega arith, ground.laws.lower (minus to e) far))
          (ap (λ x. plus (plus x upper) lower / 2 * 2) h.pc ∙ (ap (λ x. x / 2 * 2) goes ∙ half)) is.2;
      ready = record {
        machine = record {
          long = length-set (slice_set m.registers 5 (plus m.pc upper)) 0 (behind (behind m.pc))
              ∙ (length-set m.registers 5 (plus m.pc upper) ∙ h.registers.long);
          words = registers_small file plan new s m (plus m.pc upper) (behind (behind m.pc)) h (omega arith);
          bytes = h.memory.small;
        };
        running = h.ending ∙ run;
        pc = refl;
        ra = let apart : 1 ≢ 5 = omega arith in ap (λ x. x % 4) (others 1 apart) ∙ even;
        code = words_stand file plan new s m.memory g name e there h.memory;
        tables = tables_stand file plan new s m.memory g h.memory;
        spells = h.heap.spells name e there;
        sound = h.heap.blocks.sound;
      };
      memory = refl;
      others = others;
    }
