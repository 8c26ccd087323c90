-- A turn of the symbol machine is followed by turns of the flat machine, at least one and no more than the
-- turn bound.
use Rattle.std.proofs.Common.{◌≡◌, ℕ, ◌+◌, ◌≤◌, List, ◌++◌, Bool, true, false, cond, refl, ap, ◌∙◌, subst, arith}
use Rattle.std.specs.Prelude.{Option, Some, None}
use Rattle.rv_isa.specs.declared.Instr.{Instr}
use Rattle.rv_isa.specs.declared.Instr.TheVariants.{Lui, Auipc, Jal, Jalr, Branch, Load, Store, OpImm, Reg, Fence}
use Rattle.rv_isa.specs.declared.Instr.TheVariants.{Ecall, Ebreak}
use Rattle.elf_spec.specs.declared.HeapName.{HeapName}
use Rattle.elf_spec.specs.Code.{code_word}
use Rattle.plan_core.specs.declared.types.Plan.{Plan}
use Rattle.site_spec.specs.declared.Site.{Site}
use Rattle.site_spec.specs.Places.{text_at, text_room}
use Rattle.site_spec.specs.Sites.{site_at}
use Rattle.machine_spec.specs.declared.Ending.TheVariants.{Running}
use Rattle.machine_spec.specs.Memory.{Range, memory_of}
use Rattle.flat_spec.specs.Stores.{fetched}
use Rattle.flat_spec.specs.Machine.{Machine}
use Rattle.flat_spec.specs.Turns as flat
use Rattle.flat_spec.specs.Runs.{step, steps}
use Rattle.flat_spec.proofs.Pieces.{fetched_same}
use Rattle.sym_cells.specs.Memory.{Memory}
use Rattle.sym_spec.specs.SymMachine.{SymMachine}
use Rattle.sym_spec.specs.SymCalls.{SymTurn, quiet}
use Rattle.sym_spec.specs.HeapActions.{function_at, serves}
use Rattle.sym_spec.specs.SymTurns.{Nothing, Heap, Pair, Code, here, here_with, is_second, executes, acts}
use Rattle.match_spec.specs.Stands.{Places}
use Rattle.match_spec.specs.Parts.{InMemory}
use Rattle.match_spec.specs.Matches.{InStep}
use Rattle.match_spec.specs.Keeps.{IsNoFault}
use Rattle.heap_spec.specs.Service.{turn_bound}
use Rattle.simulation.specs.Ground.{Ground}
use Rattle.simulation.proofs.Calling.{TurnsAlike, quiet_alike}
use Rattle.simulation.proofs.Acting.{IsPlainInstr}
use Rattle.site_stubs.specs.StubRuns.{state_of}
use Rattle.flat_spec.proofs.Runs.{one_step}

-- so many flat turns lead to a machine in step, with the same input left and the same bytes written
pub record Follows (file : List ℕ) (plan : Plan) (new : List ℕ) (t : SymTurn) (m : Machine)
    (input output : List ℕ) : Type 0 where
  pub turns : ℕ
  pub some : 1 ≤ turns
  pub few : turns ≤ turn_bound plan.area
  pub machine : Machine
  pub is : steps turns (state_of m input output) ≡ state_of machine t.left (output ++ t.written)
  pub next : InStep file plan new t.next machine

-- turns of the flat machine follow the turn at the entry of each heap function
abbrev pub HeapFollows : List ℕ → Plan → List ℕ → Type 0
HeapFollows file plan new =
    (name : HeapName) (s : SymMachine) (m : Machine) (input output : List ℕ) → InStep file plan new s m
    → s.ending ≡ Running → function_at file s.pc ≡ Some name → IsNoFault (serves file plan name s).ending
    → Follows file plan new (quiet input (serves file plan name s)) m input output

-- one turn that is alike
pub follows_one : (file : List ℕ) (plan : Plan) (new : List ℕ) (t : SymTurn) (m : Machine) (input output : List ℕ)
    → TurnsAlike file plan new t (flat.turn input m) → Follows file plan new t m input output
unfolding step
follows_one file plan new t m input output h = record {
  turns = 1;
  some = omega arith;
  few = omega arith;
  machine = (flat.turn input m).next;
  is = one_step (state_of m input output)
      ∙ (ap (λ l. state_of (flat.turn input m).next l (output ++ (flat.turn input m).written)) h.left
      ∙ ap (λ w. state_of (flat.turn input m).next t.left (output ++ w)) h.written);
  next = h.next;
}

-- what is fetched from the code and from the new text is the new file's
pub fetch_code : (file : List ℕ) (plan : Plan) (new : List ℕ) (places : Places) (held : Memory) (memory : List Range)
    (a w : ℕ) → Ground file plan new → InMemory file new places held memory
    → code_word file a ≡ Some w → fetched memory a ≡ fetched (memory_of new) a
fetch_code file plan new places held memory a w g h code =
    fetched_same memory (memory_of new) a h.shape (λ k low high. h.code k (g.code_bytes a w k code low high))

pub fetch_text : (file new : List ℕ) (places : Places) (held : Memory) (memory : List Range) (a : ℕ)
    → InMemory file new places held memory
    → text_at file ≤ a → a + 4 ≤ text_at file + text_room → fetched memory a ≡ fetched (memory_of new) a
fetch_text file new places held memory a h low high =
    fetched_same memory (memory_of new) a h.shape (λ k l t. h.text k (omega (arith, low, l)) (omega (arith, high, t)))

-- a code word stands at an address, which is neither a second word nor a pair's nor an entry
pub record IsCodeHere (file : List ℕ) (a w : ℕ) : Type 0 where
  pub code : code_word file a ≡ Some w
  pub alone : is_second file a ≡ false
  pub no_function : function_at file a ≡ None
  pub single : (s : Site) → site_at file a ≡ Some s → s.pair ≡ false

pub here_code : (file : List ℕ) (a w : ℕ) → here file a ≡ Code w → IsCodeHere file a w
unfolding here
here_code file a w e = at (is_second file a) refl e
  where
    inner : (o : Option ℕ) (f : Option HeapName) (p : Option Site) → here_with o f p ≡ Code w
        → (o ≡ Some w) × (f ≡ None) × ((s : Site) → p ≡ Some s → s.pair ≡ false)
    inner (Some v) (Some name) p e = absurd (cc)
    inner (Some v) None (Some t) e = by_pair t.pair refl e
      where
        by_pair : (b : Bool) → t.pair ≡ b → cond b (Pair t) (Code v) ≡ Code w
            → (Some v ≡ Some w) × (◌≡◌ {A = Option HeapName} None None)
            × ((s : Site) → Some t ≡ Some s → s.pair ≡ false)
        by_pair true q e = absurd (cc)
        by_pair false q e = (cc, refl, λ s h. let same : t ≡ s = cc in subst (λ (x : Site). x.pair ≡ false) same q)
    inner (Some v) None None e = (cc, refl, λ s h. absurd (cc))
    inner None f p e = absurd (cc)

    at : (b : Bool) → is_second file a ≡ b
        → cond b Nothing (here_with (code_word file a) (function_at file a) (site_at file a)) ≡ Code w
        → IsCodeHere file a w
    at true q e = absurd (cc)
    at false q e =
        let (code, no_function, single) = inner (code_word file a) (function_at file a) (site_at file a) e in
        record { code = code; alone = q; no_function = no_function; single = single }

-- a pair stands at an address
pub here_pair : (file : List ℕ) (a : ℕ) (s : Site) → here file a ≡ Pair s → (site_at file a ≡ Some s) × (s.pair ≡ true)
unfolding here
here_pair file a s e = at (is_second file a) e
  where
    inner : (o : Option ℕ) (f : Option HeapName) (p : Option Site) → here_with o f p ≡ Pair s
        → (p ≡ Some s) × (s.pair ≡ true)
    inner (Some v) (Some name) p e = absurd (cc)
    inner (Some v) None (Some t) e = by_pair t.pair refl e
      where
        by_pair : (b : Bool) → t.pair ≡ b → cond b (Pair t) (Code v) ≡ Pair s → (Some t ≡ Some s) × (s.pair ≡ true)
        by_pair true q e = let same : t ≡ s = cc in (ap (λ x. Some x) same, subst (λ (x : Site). x.pair ≡ true) same q)
        by_pair false q e = absurd (cc)
    inner (Some v) None None e = absurd (cc)
    inner None f p e = absurd (cc)

    at : (b : Bool) → cond b Nothing (here_with (code_word file a) (function_at file a) (site_at file a)) ≡ Pair s
        → (site_at file a ≡ Some s) × (s.pair ≡ true)
    at true e = absurd (cc)
    at false e = inner (code_word file a) (function_at file a) (site_at file a) e

-- the entry of a heap function stands at an address
pub here_heap : (file : List ℕ) (a : ℕ) (name : HeapName) → here file a ≡ Heap name → function_at file a ≡ Some name
unfolding here
here_heap file a name e = at (is_second file a) e
  where
    inner : (o : Option ℕ) (f : Option HeapName) (p : Option Site) → here_with o f p ≡ Heap name → f ≡ Some name
    inner (Some v) (Some found) p e = cc
    inner (Some v) None (Some t) e = by_pair t.pair e
      where
        by_pair : (b : Bool) → cond b (Pair t) (Code v) ≡ Heap name → None ≡ Some name
        by_pair true e = absurd (cc)
        by_pair false e = absurd (cc)
    inner (Some v) None None e = absurd (cc)
    inner None f p e = absurd (cc)

    at : (b : Bool) → cond b Nothing (here_with (code_word file a) (function_at file a) (site_at file a)) ≡ Heap name
        → function_at file a ≡ Some name
    at true e = absurd (cc)
    at false e = inner (code_word file a) (function_at file a) (site_at file a) e

-- an instruction that is neither a system call nor a jump to a register does what `acts` says
pub plain_turn : (file : List ℕ) (plan : Plan) (new input : List ℕ) (s : SymMachine) (m : Machine) (i : Instr)
    → IsPlainInstr i
    → InStep file plan new (acts file plan i s) (flat.acts i m)
    → TurnsAlike file plan new (executes file plan input (Some i) s) (flat.executes input (Some i) m)
plain_turn file plan new input s m (Lui rd imm) p h =
    quiet_alike file plan new input (acts file plan (Lui rd imm) s) (flat.acts (Lui rd imm) m) h
plain_turn file plan new input s m (Auipc rd imm) p h =
    quiet_alike file plan new input (acts file plan (Auipc rd imm) s) (flat.acts (Auipc rd imm) m) h
plain_turn file plan new input s m (Jal rd imm) p h =
    quiet_alike file plan new input (acts file plan (Jal rd imm) s) (flat.acts (Jal rd imm) m) h
plain_turn file plan new input s m (Jalr rd rs1 imm) p h = absurd p
plain_turn file plan new input s m (Branch c rs1 rs2 imm) p h =
    quiet_alike file plan new input (acts file plan (Branch c rs1 rs2 imm) s) (flat.acts (Branch c rs1 rs2 imm) m) h
plain_turn file plan new input s m (Load width rd rs1 imm) p h =
    quiet_alike file plan new input (acts file plan (Load width rd rs1 imm) s) (flat.acts (Load width rd rs1 imm) m) h
plain_turn file plan new input s m (Store width rs1 rs2 imm) p h =
    quiet_alike file plan new input (acts file plan (Store width rs1 rs2 imm) s)
    (flat.acts (Store width rs1 rs2 imm) m) h
plain_turn file plan new input s m (OpImm op rd rs1 imm) p h =
    quiet_alike file plan new input (acts file plan (OpImm op rd rs1 imm) s) (flat.acts (OpImm op rd rs1 imm) m) h
plain_turn file plan new input s m (Reg op rd rs1 rs2) p h =
    quiet_alike file plan new input (acts file plan (Reg op rd rs1 rs2) s) (flat.acts (Reg op rd rs1 rs2) m) h
plain_turn file plan new input s m (Fence rest) p h =
    quiet_alike file plan new input (acts file plan (Fence rest) s) (flat.acts (Fence rest) m) h
plain_turn file plan new input s m Ecall p h = absurd p
plain_turn file plan new input s m Ebreak p h =
    quiet_alike file plan new input (acts file plan Ebreak s) (flat.acts Ebreak m) h

pub plain_safe : (file : List ℕ) (plan : Plan) (input : List ℕ) (s : SymMachine) (i : Instr) → IsPlainInstr i
    → IsNoFault (executes file plan input (Some i) s).next.ending → IsNoFault (acts file plan i s).ending
plain_safe file plan input s (Lui rd imm) p h = h
plain_safe file plan input s (Auipc rd imm) p h = h
plain_safe file plan input s (Jal rd imm) p h = h
plain_safe file plan input s (Jalr rd rs1 imm) p h = absurd p
plain_safe file plan input s (Branch c rs1 rs2 imm) p h = h
plain_safe file plan input s (Load width rd rs1 imm) p h = h
plain_safe file plan input s (Store width rs1 rs2 imm) p h = h
plain_safe file plan input s (OpImm op rd rs1 imm) p h = h
plain_safe file plan input s (Reg op rd rs1 rs2) p h = h
plain_safe file plan input s (Fence rest) p h = h
plain_safe file plan input s Ecall p h = absurd p
plain_safe file plan input s Ebreak p h = h
