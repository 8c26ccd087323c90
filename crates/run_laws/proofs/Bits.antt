-- A turn sets and clears the bits that its note says.
use Rattle.std.proofs.Common.{◌≡◌, ℕ, ◌/◌, ◌*◌, ◌==◌, ◌&&◌, Bool, true, false, List, [], refl, ap, sym, ◌∙◌, subst, inl}
use Rattle.std.proofs.Common.{inr}
use Rattle.std.specs.Prelude.{All, IsSome, Option, Some, None, if◌then◌else◌, is_some, option_and_then, option_map}
use Rattle.std.specs.Prelude.{slice_get, slice_set}
use Rattle.std.proofs.lemmas.Bool.{both_ways, eq-eqb}
use Rattle.rv_isa.specs.declared.Instr.{Instr}
use Rattle.rv_isa.specs.declared.Instr.TheVariants.{Auipc, Jal, Jalr, Ecall}
use Rattle.rv_isa.specs.Addresses.{plus}
use Rattle.rv_isa.specs.Table.{decoded}
use Rattle.elf_spec.specs.declared.HeapName.{HeapName}
use Rattle.elf_spec.specs.Code.{code_word}
use Rattle.machine_spec.specs.declared.Ending.{Ending}
use Rattle.machine_spec.specs.declared.Ending.TheVariants.{Running, Exit, Illegal, Fault}
use Rattle.machine_spec.specs.declared.FaultKind.TheVariants.{F3}
use Rattle.machine_spec.specs.Start.{behind}
use Rattle.plan_core.specs.declared.types.Plan.{Plan}
use Rattle.site_spec.specs.declared.Site.{Site}
use Rattle.site_spec.specs.Sites.{code_at, site_at}
use Rattle.sym_value.specs.declared.Value.{Value}
use Rattle.sym_value.specs.declared.Value.TheVariants.{Num, Ptr, Ret, Mix, Part, Unset}
use Rattle.sym_spec.specs.SymMachine.{SymMachine, back_index, calls_from, clear_bit, faults, goes_back, jumps, line_at}
use Rattle.sym_spec.specs.SymMachine.{links, set_bit, value_of}
use Rattle.sym_spec.specs.SymCalls.{SymTurn, calls}
use Rattle.sym_spec.specs.SymTurns.{Here, Nothing, Heap, Pair, Code, acts, executes, here, jumps_to, runs_here, turn}
use Rattle.sym_spec.specs.SymTurns.{turn_of}
use Rattle.sym_spec.specs.SymNotes.{back_through, empty_note, ending_note, heap_note, here_note, instr_note, is_fault}
use Rattle.sym_spec.specs.SymNotes.{note, return_in}
use Rattle.sym_spec.specs.HeapActions.{Outcome, answered, outcome, returns, returns_with, serves}
use Rattle.run_laws.specs.Turns.{SetsBits, bits_after}
use Rattle.run_laws.proofs.HeapTurns.{Served, outcome_served, running}
use Rattle.run_laws.proofs.Keeps.{IsQuiet, calls_keep, quiet_keeps}
use Rattle.run_laws.proofs.Sites.{IsCall, IsHere, call_is, here_is, no_line}
use Rattle.run_laws.proofs.Stores.{KeepsCells}

-- a turn without a note keeps the bits
sets_none : (file : List ℕ) (plan : Plan) (m n : SymMachine) → n.bits ≡ m.bits → SetsBits file plan m empty_note n
sets_none file plan m n same = record { bits = same; alone = inl refl }

-- instructions that neither jump nor call the system have no part in bits
quiet_back : (i : Instr) (m : SymMachine) → IsQuiet i → back_through i m ≡ None
quiet_back (Jal rd imm) m q = absurd q
quiet_back (Jalr rd rs1 imm) m q = absurd q
quiet_back i m q = refl

quiet_site : (i : Instr) (s : Site) → IsQuiet i → s.pair ≡ false → IsCall i s → ⊥
quiet_site (Jal rd imm) s q single call = q
quiet_site (Jalr rd rs1 imm) s q single call = q
quiet_site (Auipc rd imm) s q single call = both_ways s.pair single call
quiet_site i s q single call = call

-- no call comes from an address without a site
no_call : (file : List ℕ) (m : SymMachine) → ((s : Site) → site_at file m.pc ≡ Some s → ⊥)
    → option_map (λ s. m.pc) (site_at file m.pc) ≡ None
no_call file m none = by (site_at file m.pc) refl
  where
    by : (o : Option Site) → site_at file m.pc ≡ o → option_map (λ s. m.pc) o ≡ None
    by None is = refl
    by (Some s) is = absurd (none s is)

module _ (file : List ℕ) (plan : Plan) (sites : All (λ line. IsSome (site_at file line.addr)) plan.sites)
    (m : SymMachine) where
  -- a note without a call and a way back
  still : (t : Bool) (i : Instr) (n : SymMachine) → n.bits ≡ m.bits
      → option_map (λ s. m.pc) (site_at file m.pc) ≡ None → back_through i m ≡ None
      → SetsBits file plan m (if t then empty_note else instr_note file (Some i) m) n
  still true i n same call back = sets_none file plan m n same
  still false i n same call back = record { bits = same ∙ rw (call, back) refl; alone = inl call }

  no_site_line : ((s : Site) → site_at file m.pc ≡ Some s → ⊥) → line_at plan.sites m.pc ≡ None
  no_site_line none = no_line file plan.sites m.pc sites (by (site_at file m.pc) refl)
    where
      by : (o : Option Site) → site_at file m.pc ≡ o → o ≡ None
      by None is = refl
      by (Some s) is = absurd (none s is)

  -- a jump that links a register: a call from a site sets the bit of its line, which another address hasn't
  set_here : (s : Option Site) → site_at file m.pc ≡ s
      → set_bit (line_at plan.sites m.pc) m.bits
      ≡ bits_after file plan.sites (record empty_note { call = option_map (λ s. m.pc) s }) m.bits
  set_here (Some s) is = refl
  set_here None is =
      ap (λ l. set_bit l m.bits) (no_line file plan.sites m.pc sites is)

  linked : (rd target : ℕ) → m.ending ≡ Running → ((s : Site) → site_at file m.pc ≡ Some s → rd ≡ 1) → (t : Bool)
      → (rd == 1) ≡ t
      → SetsBits file plan m
      (if is_fault (if t then calls_from plan (behind m.pc) m else
      record m { registers = slice_set m.registers rd (Num (behind m.pc)) }).ending then empty_note else
      record empty_note { call = option_map (λ s. m.pc) (site_at file m.pc) })
      (record (if t then calls_from plan (behind m.pc) m else
      record m { registers = slice_set m.registers rd (Num (behind m.pc)) }) { pc = target })
  linked rd target runs ra true link =
      let going : is_fault m.ending ≡ false = ap is_fault runs in
      rw going (record { bits = set_here (site_at file m.pc) refl; alone = inr refl })
  linked rd target runs ra false link =
      let going : is_fault m.ending ≡ false = ap is_fault runs in
      let none : option_map (λ s. m.pc) (site_at file m.pc) ≡ None =
      no_call file m (λ s is. both_ways (rd == 1) link (eq-eqb rd 1 (ra s is))) in
      rw going (record { bits = rw none refl; alone = inl none })

  jump_sets : (rd target : ℕ) → m.ending ≡ Running → ((s : Site) → site_at file m.pc ≡ Some s → rd ≡ 1)
      → SetsBits file plan m
      (if is_fault (jumps file plan rd target m).ending then empty_note else
      record empty_note { call = option_map (λ s. m.pc) (site_at file m.pc) })
      (jumps file plan rd target m)
  jump_sets rd target runs ra = by (is_some (code_word file target))
    where
      by : (t : Bool) → SetsBits file plan m
          (if is_fault (if t then record (links plan rd m) { pc = target } else faults F3 m).ending then empty_note else
          record empty_note { call = option_map (λ s. m.pc) (site_at file m.pc) })
          (if t then record (links plan rd m) { pc = target } else faults F3 m)
      by true = linked rd target runs ra (rd == 1) refl
      by false = sets_none file plan m _ refl

  -- a jump to a register, which no site has
  to_sets : (rd imm : ℕ) (v : Value) → m.ending ≡ Running → ((s : Site) → site_at file m.pc ≡ Some s → ⊥)
      → SetsBits file plan m
      (if is_fault (jumps_to file plan rd imm v m).ending then empty_note else
      record empty_note { call = option_map (λ s. m.pc) (site_at file m.pc); back = return_in v })
      (jumps_to file plan rd imm v m)
  to_sets rd imm (Num v) runs none = jump_sets rd (plus v imm / 2 * 2) runs (λ s is. absurd (none s is))
  to_sets rd imm (Ret back) runs none = by ((rd == 0) && (imm == 0))
    where
      by : (t : Bool) → SetsBits file plan m
          (if is_fault (if t then goes_back file plan back m else faults F3 m).ending then empty_note else
          record empty_note { call = option_map (λ s. m.pc) (site_at file m.pc); back = Some back })
          (if t then goes_back file plan back m else faults F3 m)
      by true =
          let going : is_fault m.ending ≡ false = ap is_fault runs in
          let alone : option_map (λ s. m.pc) (site_at file m.pc) ≡ None = no_call file m none in
          rw going (record { bits = rw alone refl; alone = inl alone })
      by false = sets_none file plan m _ refl
  to_sets rd imm (Ptr b o) runs none = sets_none file plan m _ refl
  to_sets rd imm (Mix l) runs none = sets_none file plan m _ refl
  to_sets rd imm (Part s i) runs none = sets_none file plan m _ refl
  to_sets rd imm Unset runs none = sets_none file plan m _ refl

  -- an instruction that stands where no pair does
  executes_sets : KeepsCells → (input : List ℕ) (o : Option Instr) → m.ending ≡ Running → code_at file m.pc ≡ o
      → ((s : Site) → site_at file m.pc ≡ Some s → s.pair ≡ false)
      → SetsBits file plan m
      (if is_fault (executes file plan [] o m).next.ending then empty_note else instr_note file o m)
      (executes file plan input o m).next
  unfolding acts
  executes_sets as_many input None runs code single = sets_none file plan m _ refl
  executes_sets as_many input (Some (Jal rd imm)) runs code single =
      jump_sets rd (plus m.pc imm) runs (λ s is. (call_is file m.pc s (Jal rd imm) is code).0)
  executes_sets as_many input (Some (Jalr rd rs1 imm)) runs code single =
      to_sets rd imm (value_of m rs1) runs (λ s is. call_is file m.pc s (Jalr rd rs1 imm) is code)
  executes_sets as_many input (Some Ecall) runs code single =
      still (is_fault (calls file [] m).next.ending) Ecall (calls file input m).next
      (calls_keep as_many file input m).bits (no_call file m (λ s is. call_is file m.pc s Ecall is code)) refl
  executes_sets as_many input (Some i) runs code single =
      still (is_fault (acts file plan i m).ending) i (acts file plan i m) (quiet_keeps as_many file plan i m tt).bits
      (no_call file m (λ s is. quiet_site i s tt (single s is) (call_is file m.pc s i is code))) (quiet_back i m tt)

  -- a heap function
  returns_sets : (v : Value) (o : Outcome) → m.ending ≡ Running → Served file plan m o
      → SetsBits file plan m
      (if is_fault (returns file plan v (answered o) m).ending then empty_note else
      record empty_note { back = return_in v; grant = o.grant; release = o.release })
      (returns file plan v (answered o) m)
  returns_sets (Ret back) o runs h =
      let going : is_fault o.machine.ending ≡ false = ap is_fault (h.ending ∙ runs) in
      rw going (record {
        bits = ap (clear_bit (option_and_then (slice_get plan.sites) (back_index file plan.sites back))) h.bits;
        alone = inl refl;
      })
  returns_sets (Num a) o runs h = by (is_some (code_word file a))
    where
      by : (t : Bool) → SetsBits file plan m
          (if is_fault (if t then record (answered o) { pc = a } else faults F3 m).ending then empty_note else
          record empty_note { grant = o.grant; release = o.release })
          (if t then record (answered o) { pc = a } else faults F3 m)
      by true =
          let going : is_fault o.machine.ending ≡ false = ap is_fault (h.ending ∙ runs) in
          rw going (record { bits = h.bits; alone = inl refl })
      by false = sets_none file plan m _ refl
  returns_sets (Ptr b i) o runs h = sets_none file plan m _ refl
  returns_sets (Mix l) o runs h = sets_none file plan m _ refl
  returns_sets (Part s i) o runs h = sets_none file plan m _ refl
  returns_sets Unset o runs h = sets_none file plan m _ refl

  serves_sets : (name : HeapName) → m.ending ≡ Running
      → SetsBits file plan m
      (if is_fault (serves file plan name m).ending then empty_note else heap_note (outcome file plan name m) m)
      (serves file plan name m)
  unfolding serves
  serves_sets name runs = by (outcome file plan name m) refl
    where
      by : (o : Option Outcome) → outcome file plan name m ≡ o
          → SetsBits file plan m
          (if is_fault (returns_with file plan o m).ending then empty_note else heap_note o m)
          (returns_with file plan o m)
      by None e = sets_none file plan m _ refl
      by (Some o) e = returns_sets (value_of m 1) o runs (outcome_served file plan name m o e)

  here_sets : KeepsCells → (input : List ℕ) (h : Here) → m.ending ≡ Running → IsHere file m.pc h
      → SetsBits file plan m
      (if is_fault (runs_here file plan [] h m).next.ending then empty_note else here_note file plan h m)
      (runs_here file plan input h m).next
  here_sets as_many input Nothing runs is = sets_none file plan m _ refl
  here_sets as_many input (Heap name) runs is = serves_sets name runs
  here_sets as_many input (Pair s) runs is =
      let going : is_fault m.ending ≡ false = ap is_fault runs in
      rw going (record { bits = refl; alone = inr refl })
  here_sets as_many input (Code w) runs (code, single) =
      executes_sets as_many input (decoded w) runs (ap (option_and_then decoded) code) single

  pub turn_sets : KeepsCells → (input : List ℕ) → SetsBits file plan m (note file plan m) (turn file plan input m).next
  unfolding turn note
  turn_sets as_many input = by m.ending refl
    where
      by : (e : Ending) → m.ending ≡ e
          → SetsBits file plan m (ending_note file plan e m) (turn_of file plan e input m).next
      by Running runs =
          subst (λ (t : SymTurn). SetsBits file plan m
          (if is_fault t.next.ending then empty_note else here_note file plan (here file m.pc) m)
          (runs_here file plan input (here file m.pc) m).next)
          (sym (running file plan [] m runs))
          (here_sets as_many input (here file m.pc) runs (here_is file m.pc))
      by (Exit status) is = sets_none file plan m _ refl
      by (Illegal at) is = sets_none file plan m _ refl
      by (Fault kind at) is = sets_none file plan m _ refl
