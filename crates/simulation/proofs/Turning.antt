-- A turn of the symbol machine at each kind of place: at a chosen site, at a jump back, elsewhere.
use Rattle.std.proofs.Common.{◌≡◌, ◌≢◌, ◌⊎◌, inl, inr, ℕ, ◌+◌, ◌*◌, ◌/◌, ◌%◌, ◌^◌, ◌<◌, ◌≤◌, List, Bool, true, false}
use Rattle.std.proofs.Common.{cond, length, map, length-set, get_or-set_same, get_or-set_other, refl, ap, sym, ◌∙◌}
use Rattle.std.proofs.Common.{subst, arith, get_or, append-nil}
use Rattle.std.specs.Prelude.{Option, Some, None, is_some, IsSome, nat_eq, ◌&&◌, ◌||◌, slice_set, slice_get}
use Rattle.std.specs.Prelude.{slice_index, option_and_then, bit_or}
use Rattle.std.specs.List.{All}
use Rattle.std.specs.Int.Bits.{or_lt}
use Rattle.std.proofs.lemmas.Bool.Decides.{nat_tests}
use Rattle.std.proofs.lemmas.Option.{slice_get_within, get_or_from_slice_get}
use Rattle.rv_isa.specs.declared.Instr.{Instr}
use Rattle.rv_isa.specs.declared.Instr.TheVariants.{Lui, Auipc, Jal, Jalr, Branch, Load, Store, OpImm, Reg, Fence}
use Rattle.rv_isa.specs.declared.Instr.TheVariants.{Ecall, Ebreak}
use Rattle.rv_isa.specs.Encoded.{IsExtended, IsFormed, encoded}
use Rattle.rv_isa.specs.Split.{split_of}
use Rattle.rv_isa.specs.Table.{decoded}
use Rattle.rv_isa.proofs.RoundTrip.{decoded-encoded, formed_decoded}
use Rattle.elf_spec.specs.Code.{code_word}
use Rattle.plan_core.specs.declared.types.Plan.{Plan}
use Rattle.plan_core.specs.declared.types.PlanLine.{PlanLine}
use Rattle.site_spec.specs.declared.Site.{Site}
use Rattle.rv_isa.specs.Addresses.{plus, minus}
use Rattle.site_spec.specs.Places.{text_at, stub_at, reaches, text_room}
use Rattle.site_spec.specs.Plans.{IsInReach}
use Rattle.site_spec.specs.Sites.{site_at}
use Rattle.new_file_spec.specs.Rewritten.{jump_words}
use Rattle.new_file_spec.specs.Stubs.{stub_words}
use Rattle.machine_spec.specs.declared.Ending.{Ending}
use Rattle.machine_spec.specs.declared.Ending.TheVariants.{Running, Exit, Illegal, Fault}
use Rattle.machine_spec.specs.declared.FaultKind.TheVariants.{F3}
use Rattle.machine_spec.specs.Memory.{memory_of}
use Rattle.machine_spec.specs.Start.{behind}
use Rattle.flat_spec.specs.Stores.{fetched}
use Rattle.flat_spec.specs.Machine.{Machine, register, word_read}
use Rattle.flat_spec.specs.Machine as flat_machine
use Rattle.flat_spec.specs.Calls.{Turn}
use Rattle.flat_spec.specs.Calls as flat_calls
use Rattle.flat_spec.specs.Turns as flat
use Rattle.flat_spec.specs.Runs.{steps}
use Rattle.sym_value.specs.declared.Value.{Value}
use Rattle.sym_value.specs.declared.Value.TheVariants.{Num, Ptr, Ret, Mix, Part, Unset}
use Rattle.sym_cells.specs.Memory.{life_of}
use Rattle.sym_spec.specs.SymMachine.{SymMachine, value_of, jumps, goes_back, ends, faults, links, calls_from, line_at}
use Rattle.sym_spec.specs.SymMachine.{clear_bit, back_index}
use Rattle.sym_spec.specs.SymCalls.{quiet, calls}
use Rattle.sym_spec.specs.SymTurns.{Here, Nothing, Heap, Pair, Code, here, runs_here, executes, acts, jumps_to, turn_of}
use Rattle.sym_spec.specs.SymTurns.{turn}
use Rattle.sym_value.specs.Standing.{IsReturn}
use Rattle.match_spec.specs.Stands.{back_of, places_of, Holds}
use Rattle.match_spec.specs.Parts.{InMemory, InHeap}
use Rattle.match_spec.specs.Matches.{InStep}
use Rattle.match_spec.specs.Keeps.{IsNoFault}
use Rattle.simulation.specs.Ground.{Ground, IsJalSite, IsPairSite, IsUnchosen}
use Rattle.simulation.proofs.Backs.{LineAt, line_some, index_is, site_back_same}
use Rattle.simulation.proofs.Operations.{holds_unset, holds_ret}
use Rattle.simulation.proofs.Registers.{changed_registers, zero_unread}
use Rattle.simulation.proofs.Jumping.{behind_code, jumps_alike, flat_jump, flat_back, back_alike, target_aligned}
use Rattle.simulation.proofs.Calling.{TurnsAlike, quiet_alike, ends_alike, calls_alike}
use Rattle.simulation.proofs.Acting.{IsPlainInstr, acts_alike, neither, unequal}
use Rattle.site_stubs.specs.StubRuns.{CallsFrom, GoesTo, RunsAt, StandAt, state_of}
use Rattle.std.proofs.Math.Pow.{pow-lt}
use Rattle.simulation.proofs.FlatTurns.{step_quiet, turn_is}
use Rattle.flat_spec.proofs.Runs.{more_steps, one_step}
use Rattle.new_file_spec.proofs.Jumps.{jump_formed}
use Rattle.simulation.proofs.StubPlaces.{stub_room, place_is, stub_stands, line_bit, chosen_stub, cleared_small}
use Rattle.simulation.proofs.StubPlaces.{chosen_back}
use Rattle.simulation.proofs.HeapTurns.{heap_turns}
use Rattle.simulation.proofs.StubJump.{jal_turn}
use Rattle.simulation.proofs.Following.{Follows, IsCodeHere, follows_one, fetch_code, here_code, here_heap, here_pair}
use Rattle.simulation.proofs.Following.{plain_turn, plain_safe}

-- a jump back to a return address
back_follows : (file : List ℕ) (plan : Plan) (new : List ℕ) (s : SymMachine) (m : Machine) (back : ℕ)
    (input output : List ℕ) → Ground file plan new
    → InStep file plan new s m → s.ending ≡ Running → IsReturn back
    → flat.turn input m ≡ flat_calls.quiet input
    (record m { registers = slice_set m.registers 0 (behind m.pc); pc = back_of file plan back })
    → Follows file plan new (quiet input (goes_back file plan back s)) m input output
back_follows file plan new s m back input output g h run is turn = by_index (back_index file plan.sites back) refl
  where
    by_index : (o : Option ℕ) → back_index file plan.sites back ≡ o
        → Follows file plan new (quiet input (goes_back file plan back s)) m input output
    by_index None e = follows_one file plan new (quiet input (goes_back file plan back s)) m input output
        (rw turn (quiet_alike file plan new input (goes_back file plan back s)
        (record m { registers = slice_set m.registers 0 (behind m.pc); pc = back_of file plan back })
        (back_alike file plan new s m back g h e)))
    by_index (Some k) e =
        let first : Machine = record m {
          registers = slice_set m.registers 0 (behind m.pc);
          pc =
              back_of file plan back;
        } in
        let one : steps 1 (state_of m input output) ≡ state_of first input output = one_step (state_of m input output)
        ∙ step_quiet input output m first turn in
        let bits : ℕ = clear_bit (option_and_then (slice_get plan.sites) (back_index file plan.sites back)) s.bits in
        let ends : GoesTo 6 first input output back bits =
        chosen_back file plan new s m back k input output g h run is e in
        record {
          turns = 7;
          some = omega arith;
          few = omega arith;
          machine = ends.next;
          is = more_steps 6 1 (state_of m input output)
              ∙ (ap (steps 6) one ∙ (ends.run ∙ ap (λ o. state_of ends.next input o) (sym (append-nil output))));
          next = record {
            pc = ends.pc;
            ending = ends.ending ∙ sym run;
            registers = changed_registers (places_of file plan s.at) s.registers m.registers ends.next.registers s.bits
                (register ends.next 1) bits Unset h.registers ends.registers
                refl ends.bits (λ j a b. ends.others j a b ∙ zero_unread m.registers (behind m.pc) j)
                (holds_unset (places_of file plan s.at) (register ends.next 1) ends.link_small)
                (cleared_small plan.sites (back_index file plan.sites back) s.bits h.registers.bits_small);
            memory = subst (λ x. InMemory file new (places_of file plan s.at) s.memory x) (sym ends.memory) h.memory;
            heap = subst (λ x. InHeap file plan s.layout s.at (map life_of s.memory.blocks) x) (sym ends.memory) h.heap;
          };
        }

-- a jump to a register
register_jump : (file : List ℕ) (plan : Plan) (new : List ℕ) (s : SymMachine) (m : Machine) (w rd rs1 imm : ℕ)
    (input output : List ℕ) → Ground file plan new
    → InStep file plan new s m → s.ending ≡ Running → code_word file s.pc ≡ Some w → IsUnchosen file plan s.pc
    → rd < 32 → rd ≢ 4 → rs1 < 32 → rs1 ≢ 4
    → flat.turn input m ≡ flat_calls.quiet input (flat_machine.jumps rd (plus (register m rs1) imm / 2 * 2) m)
    → IsNoFault (jumps_to file plan rd imm (value_of s rs1) s).ending
    → Follows file plan new (quiet input (jumps_to file plan rd imm (value_of s rs1) s)) m input output
register_jump file plan new s m w rd rs1 imm input output g h run code none small other low apart turn safe =
    by_value (value_of s rs1) (h.registers.holds rs1 low apart) safe
  where
    by_value : (v : Value) → Holds (places_of file plan s.at) v (register m rs1)
        → IsNoFault (jumps_to file plan rd imm v s).ending
        → Follows file plan new (quiet input (jumps_to file plan rd imm v s)) m input output
    by_value (Num v) holds safe =
        let same : v ≡ register m rs1 = holds.is.stands in
        let target : plus (register m rs1) imm / 2 * 2 ≡ plus v imm / 2 * 2 = ap (λ x. plus x imm / 2 * 2) (sym same) in
        follows_one file plan new (quiet input (jumps file plan rd (plus v imm / 2 * 2) s)) m input output
        (rw (turn, target) (quiet_alike file plan new input (jumps file plan rd (plus v imm / 2 * 2) s)
        (flat_machine.jumps rd (plus v imm / 2 * 2) m)
        (jumps_alike file plan new s m w rd (plus v imm / 2 * 2) g h code none small other safe)))
    by_value (Ptr b o) holds safe = absurd safe
    by_value (Mix l) holds safe = absurd safe
    by_value (Part p i) holds safe = absurd safe
    by_value Unset holds safe = absurd safe
    by_value (Ret back) holds safe = by_test (nat_eq rd 0) refl (nat_eq imm 0) refl safe
      where
        by_test : (p : Bool) → nat_eq rd 0 ≡ p → (q : Bool) → nat_eq imm 0 ≡ q
            → IsNoFault (cond (p && q) (goes_back file plan back s) (faults F3 s)).ending
            → Follows file plan new (quiet input (cond (p && q) (goes_back file plan back s) (faults F3 s))) m input
            output
        by_test true e true f safe =
            let zero_rd : rd ≡ 0 = grind (arith, nat_tests) in
            let zero_imm : imm ≡ 0 = grind (arith, nat_tests) in
            let is : IsReturn back = holds.is.value in
            let stands : back_of file plan back ≡ register m rs1 = holds.is.stands in
            back_follows file plan new s m back input output g h run is
            (turn ∙ ap (flat_calls.quiet input) (ap (λ r. flat_machine.jumps r
            (plus (register m rs1) imm / 2 * 2) m) zero_rd
            ∙ (ap (λ i. flat_machine.jumps 0 (plus (register m rs1) i / 2 * 2) m) zero_imm
            ∙ (ap (λ x. flat_machine.jumps 0 (plus x 0 / 2 * 2) m) (sym stands)
            ∙ flat_back file plan new back m g is))))
        by_test true e false f safe = absurd safe
        by_test false e q f safe = absurd safe

-- an instruction at an address that no site line names
unchosen : (file : List ℕ) (plan : Plan) (new : List ℕ) (s : SymMachine) (m : Machine) (w : ℕ) (input output : List ℕ)
    → Ground file plan new → All (λ b. b < 256) input
    → InStep file plan new s m → s.ending ≡ Running → code_word file s.pc ≡ Some w → IsUnchosen file plan s.pc
    → IsNoFault (executes file plan input (decoded w) s).next.ending
    → Follows file plan new (executes file plan input (decoded w) s) m input output
unfolding acts flat.acts
unchosen file plan new s m w input output g bytes h run code none safe = by_instr (decoded w) refl safe
  where
    word : fetched m.memory m.pc ≡ Some w
    word = ap (fetched m.memory) h.pc ∙ (fetch_code file plan new
        (places_of file plan s.at) s.memory m.memory s.pc w g h.memory code ∙ g.code s.pc w code none)

    turn : (o : Option Instr) → decoded w ≡ o → flat.turn input m ≡ flat.executes input o m
    turn o e = turn_is input m w o (h.ending ∙ run) word e

    formed : (i : Instr) → decoded w ≡ Some i → IsFormed i
    formed i e = formed_decoded w (g.words s.pc w code) i e

    plain : (i : Instr) → decoded w ≡ Some i → IsPlainInstr i
        → IsNoFault (executes file plan input (Some i) s).next.ending
        → Follows file plan new (executes file plan input (Some i) s) m input output
    plain i e p safe = follows_one file plan new (executes file plan input (Some i) s) m input output
        (rw (turn (Some i) e) (plain_turn file plan new input s m i p
        (acts_alike file plan new s m w i g h run code none (g.names s.pc w i code e) (formed i e) p
        (plain_safe file plan input s i p safe))))

    by_instr : (o : Option Instr) → decoded w ≡ o → IsNoFault (executes file plan input o s).next.ending
        → Follows file plan new (executes file plan input o s) m input output
    by_instr None e safe = follows_one file plan new (quiet input (ends (Illegal s.pc) s)) m input output
        (rw (turn None e) (subst (λ x. TurnsAlike file plan new (quiet input (ends (Illegal s.pc) s))
        (flat_calls.quiet input (flat_machine.ends (Illegal x) m))) (sym h.pc)
        (quiet_alike file plan new input (ends (Illegal s.pc) s) (flat_machine.ends (Illegal s.pc) m)
        (ends_alike file plan new s m (Illegal s.pc) h))))
    by_instr (Some Ecall) e safe = follows_one file plan new (calls file input s) m input output
        (rw (turn (Some Ecall) e) (calls_alike file plan new input s m g bytes h safe))
    by_instr (Some (Jalr rd rs1 imm)) e safe =
        let r : (rd < 32) × (rs1 < 32) × IsExtended 12 imm = formed (Jalr rd rs1 imm) e in
        let n : (nat_eq rd 4 || nat_eq rs1 4) ≡ false = g.names s.pc w (Jalr rd rs1 imm) code e in
        let others : (nat_eq rd 4 ≡ false) × (nat_eq rs1 4 ≡ false) = neither (nat_eq rd 4) (nat_eq rs1 4) n in
        register_jump file plan new s m w rd rs1 imm input output g h run code none r.0 (unequal rd 4 others.0) r.1
        (unequal rs1 4 others.1)
        (turn (Some (Jalr rd rs1 imm)) e) safe
    by_instr (Some (Lui rd imm)) e safe = plain (Lui rd imm) e tt safe
    by_instr (Some (Auipc rd imm)) e safe = plain (Auipc rd imm) e tt safe
    by_instr (Some (Jal rd imm)) e safe = plain (Jal rd imm) e tt safe
    by_instr (Some (Branch c rs1 rs2 imm)) e safe = plain (Branch c rs1 rs2 imm) e tt safe
    by_instr (Some (Load width rd rs1 imm)) e safe = plain (Load width rd rs1 imm) e tt safe
    by_instr (Some (Store width rs1 rs2 imm)) e safe = plain (Store width rs1 rs2 imm) e tt safe
    by_instr (Some (OpImm op rd rs1 imm)) e safe = plain (OpImm op rd rs1 imm) e tt safe
    by_instr (Some (Reg op rd rs1 rs2)) e safe = plain (Reg op rd rs1 rs2) e tt safe
    by_instr (Some (Fence rest)) e safe = plain (Fence rest) e tt safe
    by_instr (Some Ebreak) e safe = plain Ebreak e tt safe

-- a write to ra is read there alone
link_unread : (words : List ℕ) (w k : ℕ) → k ≢ 1 → word_read (slice_set words 1 w) k ≡ word_read words k
link_unread words w k other = at (nat_eq k 0)
  where
    at : (z : Bool) → cond z 0 (slice_index (slice_set words 1 w) k) ≡ cond z 0 (slice_index words k)
    at true = refl
    at false = get_or-set_other words 1 k w 0 other

-- so many flat turns lead from a machine to a stub, with all registers but ra as before
record AtStub (m : Machine) (input output : List ℕ) (stub : ℕ) : Type 0 where
  turns : ℕ
  some : 1 ≤ turns
  few : turns ≤ 2
  first : Machine
  run : steps turns (state_of m input output) ≡ state_of first input output
  ending : first.ending ≡ m.ending
  pc : first.pc ≡ stub
  memory : first.memory ≡ m.memory
  long : length first.registers ≡ 32
  others : (k : ℕ) → k ≢ 1 → register first k ≡ register m k

-- from its stub the call of a chosen site goes to its target
enters : (file : List ℕ) (plan : Plan) (new : List ℕ) (s : SymMachine) (m : Machine) (line : PlanLine) (site : Site)
    (input output : List ℕ)
    → Ground file plan new → InStep file plan new s m → s.ending ≡ Running → (at : LineAt plan.sites s.pc line)
    → line_at plan.sites s.pc ≡ Some line → site_at file s.pc ≡ Some site → site.target < 2 ^ 32 → site.target % 4 ≡ 0
    → IsReturn site.back
    → AtStub m input output (stub_at (text_at file) at.number)
    → Follows file plan new (quiet input (record (calls_from plan site.back s) { pc = site.target })) m input output
enters file plan new s m line site input output g h run at named found low aligned is way =
    let number : ℕ = at.number in
    let stub : ℕ = stub_at (text_at file) number in
    let below : number < length plan.sites = slice_get_within plan.sites number line at.there in
    let room : (text_at file ≤ stub) × (stub + 44 ≤ text_at file + text_room) × (stub + 44 < 2 ^ 31) ×
    (stub % 4 ≡ 0) = stub_room file plan new number g below in
    let here : site_at file line.addr ≡ Some site = ap (site_at file) at.addr ∙ found in
    let ready : RunsAt way.first stub stub (stub_words stub line.bit site.target site.back) = record {
      ending = way.ending ∙ (h.ending ∙ run);
      pc = way.pc;
      registers = way.long;
      words = subst (λ x. StandAt x stub (stub_words stub line.bit site.target site.back)) (sym way.memory)
          (stub_stands file plan new (places_of file plan s.at) s.memory m.memory number line site g h.memory at.there
          here);
    } in
    let to : CallsFrom stub line.bit site.target way.first input output =
    g.laws.stub_calls stub line.bit site.target site.back (omega (arith, room.2))
    (line_bit file plan new number line g at.there) low aligned way.first input output ready in
    let before : register way.first 4 ≡ s.bits = (let apart : 4 ≢ 1 = omega arith in way.others 4 apart)
    ∙ h.registers.bits_there in
    let bits : register to.reaches.next 4 ≡ bit_or s.bits (2 ^ line.bit) = to.reaches.bits
    ∙ ap (λ x. bit_or x (2 ^ line.bit)) before in
    let link : register to.reaches.next 1 ≡ stub + 20 = to.link ∙ sym (place_is stub 20 (omega (arith, room.2))) in
    let back : back_of file plan site.back ≡ stub + 20 =
    chosen_stub file plan site.back number (index_is file plan new s.pc line site at g found) in
    rw named (record {
      turns = 5 + way.turns;
      some = omega arith;
      few = omega (arith, way.few);
      machine = to.reaches.next;
      is = more_steps 5 way.turns (state_of m input output)
          ∙ (ap (steps 5) way.run ∙ (to.reaches.run
          ∙ ap (λ o. state_of to.reaches.next input o) (sym (append-nil output))));
      next = record {
        pc = to.reaches.pc;
        ending = to.reaches.ending ∙ sym run;
        registers = changed_registers (places_of file plan s.at) s.registers m.registers to.reaches.next.registers
            s.bits (stub + 20) (bit_or s.bits (2 ^ line.bit)) (Ret site.back)
            h.registers to.reaches.registers link bits (λ j a b. to.reaches.others j a b ∙ way.others j a)
            (holds_ret (places_of file plan s.at) site.back (stub + 20) is back (omega (arith, room.2)))
            (or_lt 32 s.bits (2 ^ line.bit) h.registers.bits_small
            (pow-lt (line_bit file plan new number line g at.there)));
        memory = subst (λ x. InMemory file new (places_of file plan s.at) s.memory x)
            (sym (to.reaches.memory ∙ way.memory)) h.memory;
        heap = subst (λ x. InHeap file plan s.layout s.at (map life_of s.memory.blocks) x)
            (sym (to.reaches.memory ∙ way.memory)) h.heap;
      };
    })

-- a word of the jump of a chosen site is fetched
jump_word : (file : List ℕ) (plan : Plan) (new : List ℕ) (s : SymMachine) (m : Machine) (line : PlanLine)
    (site : Site) (i v w : ℕ) → Ground file plan new
    → InStep file plan new s m → (at : LineAt plan.sites s.pc line) → site_at file s.pc ≡ Some site
    → code_word file (s.pc + 4 * i) ≡ Some v
    → slice_get (jump_words (stub_at (text_at file) at.number) site) i ≡ Some w → fetched m.memory (s.pc + 4 * i)
    ≡ Some w
jump_word file plan new s m line site i v w g h at found code e =
    fetch_code file plan new (places_of file plan s.at) s.memory m.memory (s.pc + 4 * i) v g h.memory code
    ∙ subst (λ x. fetched (memory_of new) (x + 4 * i) ≡ Some w) at.addr
    (g.jump at.number i w line site at.there (ap (site_at file) at.addr ∙ found) e)

-- one turn leads from a chosen JAL to its stub
jal_enters : (file : List ℕ) (plan : Plan) (new : List ℕ) (s : SymMachine) (m : Machine) (line : PlanLine)
    (site : Site) (input output : List ℕ)
    → Ground file plan new → InStep file plan new s m → s.ending ≡ Running → (at : LineAt plan.sites s.pc line)
    → site_at file s.pc ≡ Some site → IsJalSite file s.pc site
    → AtStub m input output (stub_at (text_at file) at.number)
jal_enters file plan new s m line site input output g h run at found jal =
    let number : ℕ = at.number in
    let stub : ℕ = stub_at (text_at file) number in
    let room : (text_at file ≤ stub) × (stub + 44 ≤ text_at file + text_room) × (stub + 44 < 2 ^ 31) × (stub % 4 ≡ 0)
    = stub_room file plan new number g (slice_get_within plan.sites number line at.there) in
    let here : site_at file line.addr ≡ Some site = ap (site_at file) at.addr ∙ found in
    let low : s.pc + 4 ≤ text_at file = g.low_code s.pc jal.word jal.there in
    let text : text_at file + text_room ≤ 0x7FF00000 = g.memory.low_text in
    let single : site.pair ≡ false = jal.pair in
    let addr : site.addr ≡ s.pc = jal.addr in
    let reach : reaches line.addr stub ≡ true =
    subst (λ o. IsInReach file o number) at.there (g.fits.reach number) site here single in
    let reach_here : reaches s.pc stub ≡ true = subst (λ x. reaches x stub ≡ true) at.addr reach in
    let none : s.pc + 4 * 0 ≡ s.pc = omega arith in
    let jump : fetched m.memory s.pc ≡ Some (encoded (Jal 0 (minus stub s.pc))) =
    subst (λ x. fetched m.memory x ≡ Some (encoded (Jal 0 (minus stub s.pc)))) none
    (jump_word file plan new s m line site 0 jal.word (encoded (Jal 0 (minus stub s.pc))) g h at found
    (ap (code_word file) none ∙ jal.there) (rw (single, addr) refl)) in
    let first : Machine = record m { registers = slice_set m.registers 0 (behind m.pc); pc = stub } in
    let turn : flat.turn input m ≡ flat_calls.quiet input first =
    turn_is input m (encoded (Jal 0 (minus stub s.pc))) (Some (Jal 0 (minus stub s.pc))) (h.ending ∙ run)
    (ap (fetched m.memory) h.pc ∙ jump)
    (decoded-encoded (Jal 0 (minus stub s.pc))
    (jump_formed stub s.pc (omega (arith, room.2)) (g.aligned s.pc jal.word jal.there) room.3 reach_here))
    ∙ jal_turn input m s.pc stub h.pc (omega (arith, low, text)) (omega (arith, room.2)) room.3 in
    record {
      turns = 1;
      some = omega arith;
      few = omega arith;
      first = first;
      run = one_step (state_of m input output) ∙ step_quiet input output m first turn;
      ending = refl;
      pc = refl;
      memory = refl;
      long = length-set m.registers 0 (behind m.pc) ∙ h.registers.long;
      others = λ k n. zero_unread m.registers (behind m.pc) k;
    }

-- the call at a chosen JAL
chosen_jal : (file : List ℕ) (plan : Plan) (new : List ℕ) (s : SymMachine) (m : Machine) (line : PlanLine)
    (site : Site) (input output : List ℕ)
    → Ground file plan new → InStep file plan new s m → s.ending ≡ Running → (at : LineAt plan.sites s.pc line)
    → line_at plan.sites s.pc ≡ Some line → site_at file s.pc ≡ Some site → (jal : IsJalSite file s.pc site)
    → IsNoFault (jumps file plan 1 (plus s.pc jal.imm) s).ending
    → Follows file plan new (quiet input (jumps file plan 1 (plus s.pc jal.imm) s)) m input output
chosen_jal file plan new s m line site input output g h run at named found jal safe =
    by_target (is_some (code_word file (plus s.pc jal.imm))) refl safe
  where
    by_target : (t : Bool) → is_some (code_word file (plus s.pc jal.imm)) ≡ t
        → IsNoFault (cond t (record (links plan 1 s) { pc = plus s.pc jal.imm }) (faults F3 s)).ending
        → Follows file plan new (quiet input (cond t (record (links plan 1 s) { pc = plus s.pc jal.imm })
        (faults F3 s))) m input output
    by_target false e safe = absurd safe
    by_target true e safe =
        let target : site.target ≡ plus s.pc jal.imm = jal.target in
        let aligned : plus s.pc jal.imm % 4 ≡ 0 = target_aligned file plan new (plus s.pc jal.imm) g e in
        let low : s.pc + 4 ≤ text_at file = g.low_code s.pc jal.word jal.there in
        let text : text_at file + text_room ≤ 0x7FF00000 = g.memory.low_text in
        let even : s.pc % 4 ≡ 0 = g.aligned s.pc jal.word jal.there in
        let back : site.back ≡ s.pc + 4 = jal.back in
        let is : IsReturn site.back = (omega (arith, low, text, back), omega (arith, even, back)) in
        let next : site.back ≡ behind s.pc = back ∙ sym (behind_code file plan new s.pc jal.word g jal.there) in
        subst (λ t. Follows file plan new (quiet input
        (record (calls_from plan (behind s.pc) s) { pc = t })) m input output) target
        (subst (λ b. Follows file plan new (quiet input
        (record (calls_from plan b s) { pc = site.target })) m input output) next
        (enters file plan new s m line site input output g h run at named found (rw target (omega arith))
        (rw target aligned) is
        (jal_enters file plan new s m line site input output g h run at found jal)))

-- the machine after an AUIPC into ra and a JALR through ra
abbrev after_pair : (rd upper target : ℕ) → Machine → Machine
after_pair rd upper target m = record m {
  registers =
      slice_set (slice_set m.registers 1 (plus m.pc upper)) rd (behind (behind m.pc));
  pc = target;
}

-- their two turns
pair_turns : (m : Machine) (input output : List ℕ) (v w rd upper lower target : ℕ) → m.ending ≡ Running
    → length m.registers ≡ 32
    → fetched m.memory m.pc ≡ Some v → decoded v ≡ Some (Auipc 1 upper) → fetched m.memory (behind m.pc) ≡ Some w
    → decoded w ≡ Some (Jalr rd 1 lower)
    → plus (plus m.pc upper) lower / 2 * 2 ≡ target → target % 4 ≡ 0
    → steps 2 (state_of m input output) ≡ state_of (after_pair rd upper target m) input output
unfolding flat.acts
pair_turns m input output v w rd upper lower target run long e d f c goes aligned =
    let first : Machine = flat_machine.gives 1 (plus m.pc upper) m in
    let next : Machine = after_pair rd upper target m in
    let inside : 1 < length m.registers = omega (arith, long) in
    let ra : register first 1 ≡ plus m.pc upper = get_or-set_same m.registers 1 (plus m.pc upper) 0 inside in
    let turn : flat.turn input m ≡ flat_calls.quiet input first = turn_is input m v (Some (Auipc 1 upper)) run e d in
    let target_is : plus (register first 1) lower / 2 * 2 ≡ target = ap (λ x. plus x lower / 2 * 2) ra ∙ goes in
    let later : flat.turn input first ≡ flat_calls.quiet input next =
    turn_is input first w (Some (Jalr rd 1 lower)) run f c
    ∙ ap (flat_calls.quiet input) (ap (λ t. flat_machine.jumps rd t first) target_is
    ∙ flat_jump rd target first aligned) in
    more_steps 1 1 (state_of m input output)
    ∙ (ap (steps 1) (one_step (state_of m input output) ∙ step_quiet input output m first turn)
    ∙ (one_step (state_of first input output) ∙ step_quiet input output first next later))

-- behind the first word of a pair is its second, and behind that its return address
pair_behind : (file : List ℕ) (plan : Plan) (new : List ℕ) (a : ℕ) (site : Site) → Ground file plan new
    → IsPairSite file a site
    → (behind a ≡ a + 4) × (behind (a + 4) ≡ site.back) × IsReturn site.back
pair_behind file plan new a site g pair =
    let low : a + 4 + 4 ≤ text_at file = g.low_code (a + 4) pair.second pair.next in
    let text : text_at file + text_room ≤ 0x7FF00000 = g.memory.low_text in
    let even : a % 4 ≡ 0 = g.aligned a pair.first pair.there in
    let back : site.back ≡ a + 8 = pair.back in (
      omega (arith, low, text),
      omega (arith, low, text, back),
      (omega (arith, low, text, back), omega (arith, even, back)),
    )

pair_target : (a upper lower : ℕ) → plus (plus a upper) lower ≡ plus a (upper + lower)
pair_target a upper lower = omega arith

-- the call of a pair that no site line names
unchosen_pair : (file : List ℕ) (plan : Plan) (new : List ℕ) (s : SymMachine) (m : Machine) (site : Site)
    (input output : List ℕ) → Ground file plan new
    → InStep file plan new s m → s.ending ≡ Running → site_at file s.pc ≡ Some site → IsPairSite file s.pc site
    → line_at plan.sites s.pc ≡ None
    → Follows file plan new (quiet input (record (calls_from plan site.back s) { pc = site.target })) m input output
unchosen_pair file plan new s m site input output g h run found pair none =
    let words : (fetched (memory_of new) s.pc ≡ Some pair.first) ×
    (fetched (memory_of new) (s.pc + 4) ≡ Some pair.second) = g.pair_code s.pc site found pair none in
    let (next, last, is) = pair_behind file plan new s.pc site g pair in
    let first : fetched m.memory m.pc ≡ Some pair.first =
    ap (fetched m.memory) h.pc ∙ (fetch_code file plan new
    (places_of file plan s.at) s.memory m.memory s.pc pair.first g h.memory pair.there ∙ words.0) in
    let second : fetched m.memory (behind m.pc) ≡ Some pair.second =
    ap (fetched m.memory) (ap behind h.pc ∙ next)
    ∙ (fetch_code file plan new (places_of file plan s.at) s.memory m.memory (s.pc + 4) pair.second g h.memory pair.next
    ∙ words.1) in
    let goes : plus (plus m.pc pair.upper) pair.lower / 2 * 2 ≡ site.target =
    ap (λ x. plus (plus x pair.upper) pair.lower / 2 * 2) h.pc
    ∙ (ap (λ x. x / 2 * 2) (pair_target s.pc pair.upper pair.lower) ∙ sym pair.target) in
    let link : behind (behind m.pc) ≡ site.back = ap (λ x. behind (behind x)) h.pc ∙ (ap behind next ∙ last) in
    let to : Machine = after_pair 1 pair.upper site.target m in
    let long : length (slice_set m.registers 1 (plus m.pc pair.upper)) ≡ 32 =
    length-set m.registers 1 (plus m.pc pair.upper) ∙ h.registers.long in
    let inside : 1 < length (slice_set m.registers 1 (plus m.pc pair.upper)) = omega (arith, long) in
    let others : (k : ℕ) → k ≢ 1 → register to k ≡ register m k =
    λ k n. link_unread (slice_set m.registers 1 (plus m.pc pair.upper)) (behind (behind m.pc)) k n
    ∙ link_unread m.registers (plus m.pc pair.upper) k n in
    rw none (record {
      turns = 2;
      some = omega arith;
      few = omega arith;
      machine = to;
      is = pair_turns m input output pair.first pair.second 1 pair.upper pair.lower site.target
          (h.ending ∙ run) h.registers.long first pair.reads second pair.reads_next goes
          (target_aligned file plan new site.target g pair.code)
          ∙ ap (λ o. state_of to input o) (sym (append-nil output));
      next = record {
        pc = refl;
        ending = h.ending;
        registers = changed_registers (places_of file plan s.at) s.registers m.registers to.registers s.bits site.back
            s.bits (Ret site.back) h.registers
            (length-set (slice_set m.registers 1 (plus m.pc pair.upper)) 1 (behind (behind m.pc)) ∙ long)
            (get_or-set_same (slice_set m.registers 1 (plus m.pc pair.upper)) 1 (behind (behind m.pc)) 0 inside ∙ link)
            ((let apart : 4 ≢ 1 = omega arith in others 4 apart) ∙ h.registers.bits_there) (λ k n x. others k n)
            (holds_ret (places_of file plan s.at) site.back site.back is
            (site_back_same file plan new s.pc site g found none) is.0) h.registers.bits_small;
        memory = h.memory;
        heap = h.heap;
      };
    })

-- two turns lead from a chosen pair to its stub
pair_enters : (file : List ℕ) (plan : Plan) (new : List ℕ) (s : SymMachine) (m : Machine) (line : PlanLine)
    (site : Site) (input output : List ℕ)
    → Ground file plan new → InStep file plan new s m → s.ending ≡ Running → (at : LineAt plan.sites s.pc line)
    → site_at file s.pc ≡ Some site → IsPairSite file s.pc site
    → AtStub m input output (stub_at (text_at file) at.number)
pair_enters file plan new s m line site input output g h run at found pair =
    let number : ℕ = at.number in
    let stub : ℕ = stub_at (text_at file) number in
    let room : (text_at file ≤ stub) × (stub + 44 ≤ text_at file + text_room) × (stub + 44 < 2 ^ 31) × (stub % 4 ≡ 0)
    = stub_room file plan new number g (slice_get_within plan.sites number line at.there) in
    let (next, last, is) = pair_behind file plan new s.pc site g pair in
    let low : s.pc + 4 ≤ text_at file = g.low_code s.pc pair.first pair.there in
    let text : text_at file + text_room ≤ 0x7FF00000 = g.memory.low_text in
    let double : site.pair ≡ true = pair.pair in
    let addr : site.addr ≡ s.pc = pair.addr in
    let far : minus stub s.pc < 2 ^ 32 = omega arith in
    let upper : ℕ = (split_of (minus stub s.pc)).0 in
    let lower : ℕ = (split_of (minus stub s.pc)).1 in
    let none : s.pc + 4 * 0 ≡ s.pc = omega arith in
    let first : fetched m.memory s.pc ≡ Some (encoded (Auipc 1 upper)) =
    subst (λ x. fetched m.memory x ≡ Some (encoded (Auipc 1 upper))) none
    (jump_word file plan new s m line site 0 pair.first (encoded (Auipc 1 upper)) g h at found
    (ap (code_word file) none ∙ pair.there) (rw (double, addr) refl)) in
    let second : fetched m.memory (s.pc + 4) ≡ Some (encoded (Jalr 0 1 lower)) =
    jump_word file plan new s m line site 1 pair.second (encoded (Jalr 0 1 lower)) g h at found pair.next
    (rw (double, addr) refl) in
    let formed : (upper < 2 ^ 32) × (upper % 2 ^ 12 ≡ 0) = g.laws.upper (minus stub s.pc) far in
    let there : plus (plus s.pc upper) lower ≡ stub =
    g.laws.there s.pc stub (omega (arith, low, text)) (omega (arith, room.2)) in
    let half : stub / 2 * 2 ≡ stub = omega (arith, room.3) in
    let to : Machine = after_pair 0 upper stub m in
    record {
      turns = 2;
      some = omega arith;
      few = omega arith;
      first = to;
      run = pair_turns m input output (encoded (Auipc 1 upper)) (encoded (Jalr 0 1 lower)) 0 upper lower stub
          (h.ending ∙ run) h.registers.long
          (ap (fetched m.memory) h.pc ∙ first) (decoded-encoded (Auipc 1 upper) (omega arith, formed.0, formed.1))
          (ap (fetched m.memory) (ap behind h.pc ∙ next) ∙ second)
          (decoded-encoded (Jalr 0 1 lower) (omega arith, omega arith, g.laws.lower (minus stub s.pc) far))
          (ap (λ x. plus (plus x upper) lower / 2 * 2) h.pc ∙ (ap (λ x. x / 2 * 2) there ∙ half)) room.3;
      ending = refl;
      pc = refl;
      memory = refl;
      long = length-set (slice_set m.registers 1 (plus m.pc upper)) 0 (behind (behind m.pc))
          ∙ (length-set m.registers 1 (plus m.pc upper) ∙ h.registers.long);
      others = λ k n. zero_unread (slice_set m.registers 1 (plus m.pc upper)) (behind (behind m.pc)) k
          ∙ link_unread m.registers (plus m.pc upper) k n;
    }

-- the call of a pair
pair_follows : (file : List ℕ) (plan : Plan) (new : List ℕ) (s : SymMachine) (m : Machine) (site : Site)
    (input output : List ℕ) → Ground file plan new
    → InStep file plan new s m → s.ending ≡ Running → site_at file s.pc ≡ Some site → IsPairSite file s.pc site
    → Follows file plan new (quiet input (record (calls_from plan site.back s) { pc = site.target })) m input output
pair_follows file plan new s m site input output g h run found pair = by_line (line_at plan.sites s.pc) refl
  where
    by_line : (o : Option PlanLine) → line_at plan.sites s.pc ≡ o
        → Follows file plan new (quiet input (record (calls_from plan site.back s) { pc = site.target })) m input output
    by_line None named = unchosen_pair file plan new s m site input output g h run found pair named
    by_line (Some line) named =
        let at : LineAt plan.sites s.pc line = line_some plan.sites s.pc line named in
        let target : site.target ≡ plus s.pc (pair.upper + pair.lower) / 2 * 2 = pair.target in
        let (next, last, is) = pair_behind file plan new s.pc site g pair in
        enters file plan new s m line site input output g h run at named found (omega (arith, target))
        (target_aligned file plan new site.target g pair.code) is
        (pair_enters file plan new s m line site input output g h run at found pair)

some_same : (a b : ℕ) → Some a ≡ Some b → a ≡ b
some_same a b e = cc

is_some_of : (o : Option Site) → IsSome o → is_some o ≡ true
is_some_of (Some s) h = refl
is_some_of None h = absurd (cc)

-- a site line names a site
line_site : (file : List ℕ) (plan : Plan) (new : List ℕ) (k : ℕ) (line : PlanLine) → Ground file plan new
    → slice_get plan.sites k ≡ Some line
    → is_some (site_at file line.addr) ≡ true
line_site file plan new k line g there =
    let value : get_or plan.sites k line ≡ line = get_or_from_slice_get plan.sites k line line there in
    is_some_of (site_at file line.addr)
    (subst (λ (l : PlanLine). IsSome (site_at file l.addr)) value
    (g.fits.sites k line (slice_get_within plan.sites k line there)))

-- the turn of a running machine at what stands at its pc
running_follows : (file : List ℕ) (plan : Plan) (new : List ℕ) (s : SymMachine) (m : Machine) (input output : List ℕ)
    → Ground file plan new → All (λ b. b < 256) input
    → InStep file plan new s m → s.ending ≡ Running
    → IsNoFault (runs_here file plan input (here file s.pc) s).next.ending
    → Follows file plan new (runs_here file plan input (here file s.pc) s) m input output
unfolding acts
running_follows file plan new s m input output g bytes h run safe = by_here (here file s.pc) refl safe
  where
    chosen : (w : ℕ) (line : PlanLine) → IsCodeHere file s.pc w → line_at plan.sites s.pc ≡ Some line
        → (o : Option Site) → site_at file s.pc ≡ o → is_some o ≡ true
        → IsNoFault (executes file plan input (decoded w) s).next.ending
        → Follows file plan new (executes file plan input (decoded w) s) m input output
    chosen w line here named None found some safe = absurd (cc)
    chosen w line here named (Some site) found some safe =
        by_kind (g.sites s.pc site found)
      where
        by_kind : IsJalSite file s.pc site ⊎ IsPairSite file s.pc site
            → Follows file plan new (executes file plan input (decoded w) s) m input output
        by_kind (inl jal) =
            let same : w ≡ jal.word = some_same w jal.word (sym here.code ∙ jal.there) in
            let reads : decoded w ≡ Some (Jal 1 jal.imm) = ap decoded same ∙ jal.reads in
            let at : LineAt plan.sites s.pc line = line_some plan.sites s.pc line named in
            subst (λ o. Follows file plan new (executes file plan input o s) m input output) (sym reads)
            (chosen_jal file plan new s m line site input output g h run at named found jal
            (subst (λ o. IsNoFault (executes file plan input o s).next.ending) reads safe))
        by_kind (inr pair) = let clash : true ≡ false = sym pair.pair ∙ here.single site found in absurd (cc)

    by_line : (w : ℕ) → IsCodeHere file s.pc w → (o : Option PlanLine) → line_at plan.sites s.pc ≡ o
        → IsNoFault (executes file plan input (decoded w) s).next.ending
        → Follows file plan new (executes file plan input (decoded w) s) m input output
    by_line w here None named safe = unchosen file plan new s m w input output g bytes h run here.code
        (record { none = named; alone = here.alone; no_function = here.no_function }) safe
    by_line w here (Some line) named safe =
        let at : LineAt plan.sites s.pc line = line_some plan.sites s.pc line named in
        chosen w line here named (site_at file s.pc) refl
        (subst (λ a. is_some (site_at file a) ≡ true) at.addr (line_site file plan new at.number line g at.there)) safe

    by_pair : (site : Site) → site_at file s.pc ≡ Some site → site.pair ≡ true
        → IsJalSite file s.pc site ⊎ IsPairSite file s.pc site
        → Follows file plan new (runs_here file plan input (Pair site) s) m input output
    by_pair site found double (inl jal) = let clash : true ≡ false = sym double ∙ jal.pair in absurd (cc)
    by_pair site found double (inr pair) = pair_follows file plan new s m site input output g h run found pair

    by_here : (x : Here) → here file s.pc ≡ x → IsNoFault (runs_here file plan input x s).next.ending
        → Follows file plan new (runs_here file plan input x s) m input output
    by_here Nothing e safe = absurd safe
    by_here (Heap name) e safe =
        heap_turns file plan new g name s m input output h run (here_heap file s.pc name e) safe
    by_here (Pair site) e safe =
        let (found, double) = here_pair file s.pc site e in by_pair site found double (g.sites s.pc site found)
    by_here (Code w) e safe = by_line w (here_code file s.pc w e) (line_at plan.sites s.pc) refl safe

-- an ended machine stays as it is
ended_follows : (file : List ℕ) (plan : Plan) (new : List ℕ) (s : SymMachine) (m : Machine) (input output : List ℕ)
    → InStep file plan new s m
    → flat.turn input m ≡ flat_calls.quiet input m → Follows file plan new (quiet input s) m input output
ended_follows file plan new s m input output h e =
    follows_one file plan new (quiet input s) m input output (rw e (quiet_alike file plan new input s m h))

ended_turn : (input : List ℕ) (m : Machine) (e : Ending) → m.ending ≡ e → (e ≡ Running → ⊥)
    → flat.turn input m ≡ flat_calls.quiet input m
unfolding flat.turn
ended_turn input m Running h n = absurd (n refl)
ended_turn input m (Exit status) h n = rw h refl
ended_turn input m (Illegal at) h n = rw h refl
ended_turn input m (Fault kind at) h n = rw h refl

-- a turn of the symbol machine without an address fault is followed
pub turn_follows : (file : List ℕ) (plan : Plan) (new : List ℕ) (s : SymMachine) (m : Machine) (input output : List ℕ)
    → Ground file plan new → All (λ b. b < 256) input
    → InStep file plan new s m → IsNoFault (turn file plan input s).next.ending
    → Follows file plan new (turn file plan input s) m input output
unfolding turn
turn_follows file plan new s m input output g bytes h safe = by_ending s.ending refl safe
  where
    by_ending : (e : Ending) → s.ending ≡ e → IsNoFault (turn_of file plan e input s).next.ending
        → Follows file plan new (turn_of file plan e input s) m input output
    by_ending Running e safe = running_follows file plan new s m input output g bytes h e safe
    by_ending (Exit status) e safe = ended_follows file plan new s m input output h
        (ended_turn input m (Exit status) (h.ending ∙ e) (λ q. cc))
    by_ending (Illegal at) e safe = ended_follows file plan new s m input output h
        (ended_turn input m (Illegal at) (h.ending ∙ e) (λ q. cc))
    by_ending (Fault kind at) e safe = ended_follows file plan new s m input output h
        (ended_turn input m (Fault kind at) (h.ending ∙ e) (λ q. cc))
