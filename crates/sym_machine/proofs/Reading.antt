-- A machine at a read that wants input: its turn and its note.
use Rattle.std.proofs.Common.{◌≡◌, ℕ, zero, suc, ◌+◌, ◌==◌, Bool, true, false, ◌||◌, List, [], take, refl, ap, ◌∙◌}
use Rattle.std.specs.Prelude.{Option, Some, None, if◌then◌else◌}
use Rattle.rv_isa.specs.declared.Instr.{Instr}
use Rattle.rv_isa.specs.declared.Instr.TheVariants.{Lui, Auipc, Jal, Jalr, Branch, Load, Store, OpImm, Reg, Fence}
use Rattle.rv_isa.specs.declared.Instr.TheVariants.{Ecall, Ebreak}
use Rattle.rv_isa.specs.Table.{decoded}
use Rattle.elf_spec.specs.declared.HeapName.{HeapName}
use Rattle.elf_spec.specs.Code.{code_word}
use Rattle.site_spec.specs.declared.Site.{Site}
use Rattle.site_spec.specs.Sites.{site_at, call_at, code_at}
use Rattle.machine_spec.specs.declared.Ending.{Ending}
use Rattle.machine_spec.specs.declared.Ending.TheVariants.{Running, Exit, Illegal, Fault}
use Rattle.machine_spec.specs.Calls.{Call, Read, Write, Exits, Brk, Unknown, call_of}
use Rattle.machine_run.specs.Machines.{Nothing as NoAsk, Input}
use Rattle.sym_value.specs.declared.Value.{Value}
use Rattle.sym_cells.specs.Buffers.{is_within, taken, filled}
use Rattle.sym_spec.specs.Plain.{is_plain, is_plain_store}
use Rattle.sym_spec.specs.SymMachine.{value_of}
use Rattle.sym_spec.specs.HeapActions.{function_at}
use Rattle.sym_spec.specs.SymCalls.{SymTurn, number_of_value, pointer_in, buffer_in, reads_into, calls}
use Rattle.sym_spec.specs.SymTurns.{Here, Nothing, Heap, Pair, Code, here, here_with, is_second, turn as machine_turn}
use Rattle.sym_spec.specs.SymNotes.{here_note, is_fault, ending_note, note}
use Rattle.sym_machine.specs.Programs.{Program, turn, turned}
use Rattle.sym_machine.specs.Asks.{asks, asks_of, asks_here, asks_instr, asks_by, asks_with, asks_read, asks_write}
use Rattle.sym_machine.specs.Asks.{asks_into, asks_from, asks_input, asks_output}
use Rattle.sym_machine.specs.Seen.{read_note}

-- what stands where a read wants n bytes
pub record Reading (p : Program) (n : ℕ) : Type 0 where
  pub runs : p.machine.ending ≡ Running
  pub word : ℕ
  pub code : here p.file p.machine.pc ≡ Code word
  pub instr : decoded word ≡ Some Ecall
  pub number : ℕ
  pub number_is : number_of_value (value_of p.machine 17) ≡ Some number
  pub call : call_of number ≡ Read
  pub fd : ℕ
  pub fd_is : number_of_value (value_of p.machine 10) ≡ Some fd
  pub zero_is : (fd == 0) ≡ true
  pub len : number_of_value (value_of p.machine 12) ≡ Some n
  pub some : (n == 0) ≡ false
  pub start : Value
  pub starts : buffer_in n (value_of p.machine 11) ≡ Some start
  pub within : is_within (is_plain_store p.file) p.machine.memory n start ≡ true
  pub points : pointer_in (value_of p.machine 11) ≡ Some start

-- a machine whose call, and the registers that it uses, are known so far
record Calling (p : Program) : Type 0 where
  runs : p.machine.ending ≡ Running
  word : ℕ
  code : here p.file p.machine.pc ≡ Code word
  instr : decoded word ≡ Some Ecall

record Numbered (p : Program) : Type 0 where
  calling : Calling p
  number : ℕ
  number_is : number_of_value (value_of p.machine 17) ≡ Some number

record FromInput (p : Program) : Type 0 where
  numbered : Numbered p
  call : call_of numbered.number ≡ Read
  fd : ℕ
  fd_is : number_of_value (value_of p.machine 10) ≡ Some fd
  zero_is : (fd == 0) ≡ true

some_of : (n k : ℕ) (b : Bool) → (k == 0) ≡ b → asks_input k ≡ Input n → (k ≡ n) × ((k == 0) ≡ false)
some_of n k true e h = absurd (let z : NoAsk ≡ Input n = rw e at h in cc)
some_of n k false e h = let z : Input k ≡ Input n = rw e at h in let same : k ≡ n = cc in (same, e)

pointed : (n : ℕ) (v w : Value) → (n == 0) ≡ false → buffer_in n v ≡ Some w → pointer_in v ≡ Some w
pointed n v w e h = rw e at h

read_within : (p : Program) (n k : ℕ) (f : FromInput p) (start : Value) (b : Bool)
    → number_of_value (value_of p.machine 12) ≡ Some k → buffer_in k (value_of p.machine 11) ≡ Some start
    → is_within (is_plain_store p.file) p.machine.memory k start ≡ b
    → (if b then asks_input k else NoAsk) ≡ Input n → Reading p n
read_within p n k f start false len s w h = absurd (cc)
read_within p n k f start true len s w h =
    let (same, some) = some_of n k (k == 0) refl h in
    record {
      runs = f.numbered.calling.runs;
      word = f.numbered.calling.word;
      code = f.numbered.calling.code;
      instr = f.numbered.calling.instr;
      number = f.numbered.number;
      number_is = f.numbered.number_is;
      call = f.call;
      fd = f.fd;
      fd_is = f.fd_is;
      zero_is = f.zero_is;
      len = rw (← same) len;
      some = rw (← same) some;
      start = start;
      starts = rw (← same) s;
      within = rw (← same) w;
      points = pointed k (value_of p.machine 11) start some s;
    }

read_start : (p : Program) (n k : ℕ) (f : FromInput p) (o : Option Value)
    → number_of_value (value_of p.machine 12) ≡ Some k → buffer_in k (value_of p.machine 11) ≡ o
    → asks_into p.file p.machine k o ≡ Input n → Reading p n
read_start p n k f None len s h = absurd (cc)
read_start p n k f (Some start) len s h =
    read_within p n k f start (is_within (is_plain_store p.file) p.machine.memory k start) len s refl h

read_len : (p : Program) (n : ℕ) (f : FromInput p) (o : Option ℕ) → number_of_value (value_of p.machine 12) ≡ o
    → asks_read p.file p.machine o ≡ Input n → Reading p n
read_len p n f None len h = absurd (cc)
read_len p n f (Some k) len h = read_start p n k f (buffer_in k (value_of p.machine 11)) len refl h

read_zero : (p : Program) (n : ℕ) (c : Numbered p) (fd : ℕ) (b : Bool) → call_of c.number ≡ Read
    → number_of_value (value_of p.machine 10) ≡ Some fd → (fd == 0) ≡ b
    → (if b then asks_read p.file p.machine (number_of_value (value_of p.machine 12)) else NoAsk) ≡ Input n
    → Reading p n
read_zero p n c fd false call is z h = absurd (cc)
read_zero p n c fd true call is z h =
    read_len p n (record { numbered = c; call = call; fd = fd; fd_is = is; zero_is = z })
    (number_of_value (value_of p.machine 12)) refl h

read_fd : (p : Program) (n : ℕ) (c : Numbered p) (o : Option ℕ) → call_of c.number ≡ Read
    → number_of_value (value_of p.machine 10) ≡ o → asks_with p.file p.machine Read o ≡ Input n → Reading p n
read_fd p n c None call is h = absurd (cc)
read_fd p n c (Some fd) call is h = read_zero p n c fd (fd == 0) call is refl h

-- no other call wants input
no_output : (n k : ℕ) (o : Option (List ℕ)) → asks_output k o ≡ Input n → ⊥
no_output n k (Some bytes) h = cc
no_output n k None h = cc

no_from : (p : Program) (n k : ℕ) (o : Option Value) → asks_from p.file p.machine k o ≡ Input n → ⊥
no_from p n k None h = cc
no_from p n k (Some start) h =
    by_test (is_within (is_plain p.file) p.machine.memory k start) h
  where
    by_test : (b : Bool) → (if b then asks_output k (taken p.machine.memory k start) else NoAsk) ≡ Input n → ⊥
    by_test true h = no_output n k (taken p.machine.memory k start) h
    by_test false h = cc

no_write : (p : Program) (n : ℕ) (o : Option ℕ) → asks_write p.file p.machine o ≡ Input n → ⊥
no_write p n None h = cc
no_write p n (Some k) h = no_from p n k (buffer_in k (value_of p.machine 11)) h

no_write_to : (p : Program) (n : ℕ) (o : Option ℕ) → asks_with p.file p.machine Write o ≡ Input n → ⊥
no_write_to p n None h = cc
no_write_to p n (Some fd) h = by_test ((fd == 1) || (fd == 2)) h
  where
    by_test : (b : Bool)
        → (if b then asks_write p.file p.machine (number_of_value (value_of p.machine 12)) else NoAsk) ≡ Input n → ⊥
    by_test true h = no_write p n (number_of_value (value_of p.machine 12)) h
    by_test false h = cc

read_call : (p : Program) (n : ℕ) (c : Numbered p) (call : Call) → call_of c.number ≡ call
    → asks_with p.file p.machine call (number_of_value (value_of p.machine 10)) ≡ Input n → Reading p n
read_call p n c Read is h = read_fd p n c (number_of_value (value_of p.machine 10)) is refl h
read_call p n c Write is h = absurd (no_write_to p n (number_of_value (value_of p.machine 10)) h)
read_call p n c Exits is h = absurd (cc)
read_call p n c Brk is h = absurd (cc)
read_call p n c Unknown is h = absurd (cc)

read_number : (p : Program) (n : ℕ) (c : Calling p) (o : Option ℕ) → number_of_value (value_of p.machine 17) ≡ o
    → asks_by p.file p.machine o ≡ Input n → Reading p n
read_number p n c None is h = absurd (cc)
read_number p n c (Some number) is h =
    read_call p n (record { calling = c; number = number; number_is = is }) (call_of number) refl h

read_instr : (p : Program) (n w : ℕ) (o : Option Instr) → p.machine.ending ≡ Running
    → here p.file p.machine.pc ≡ Code w → decoded w ≡ o → asks_instr p.file p.machine o ≡ Input n → Reading p n
read_instr p n w (Some Ecall) r c i h =
    read_number p n (record { runs = r; word = w; code = c; instr = i }) (number_of_value (value_of p.machine 17))
    refl h
read_instr p n w (Some (Lui rd imm)) r c i h = absurd (cc)
read_instr p n w (Some (Auipc rd imm)) r c i h = absurd (cc)
read_instr p n w (Some (Jal rd imm)) r c i h = absurd (cc)
read_instr p n w (Some (Jalr rd rs1 imm)) r c i h = absurd (cc)
read_instr p n w (Some (Branch cond rs1 rs2 imm)) r c i h = absurd (cc)
read_instr p n w (Some (Load width rd rs1 imm)) r c i h = absurd (cc)
read_instr p n w (Some (Store width rs1 rs2 imm)) r c i h = absurd (cc)
read_instr p n w (Some (OpImm op rd rs1 imm)) r c i h = absurd (cc)
read_instr p n w (Some (Reg op rd rs1 rs2)) r c i h = absurd (cc)
read_instr p n w (Some (Fence rest)) r c i h = absurd (cc)
read_instr p n w (Some Ebreak) r c i h = absurd (cc)
read_instr p n w None r c i h = absurd (cc)

read_here : (p : Program) (n : ℕ) (o : Here) → p.machine.ending ≡ Running → here p.file p.machine.pc ≡ o
    → asks_here p.file p.machine o ≡ Input n → Reading p n
read_here p n Nothing r c h = absurd (cc)
read_here p n (Heap name) r c h = absurd (cc)
read_here p n (Pair s) r c h = absurd (cc)
read_here p n (Code w) r c h = read_instr p n w (decoded w) r c refl h

read_ending : (p : Program) (n : ℕ) (e : Ending) → p.machine.ending ≡ e → asks_of p.file p.machine e ≡ Input n
    → Reading p n
read_ending p n Running r h = read_here p n (here p.file p.machine.pc) r refl h
read_ending p n (Exit status) r h = absurd (cc)
read_ending p n (Illegal at) r h = absurd (cc)
read_ending p n (Fault kind at) r h = absurd (cc)

pub reading : (p : Program) (n : ℕ) → asks p ≡ Input n → Reading p n
unfolding asks
reading p n h = read_ending p n p.machine.ending refl h

-- its turn on an input
pub machine_at_read : (p : Program) (n : ℕ) (input : List ℕ) (r : Reading p n)
    → machine_turn p.file p.plan input p.machine
    ≡ reads_into input n (filled (is_plain_store p.file) p.machine.memory n (take n input) r.start) p.machine
unfolding machine_turn calls
machine_at_read p n input r =
    rw (r.runs, r.code, r.instr, r.number_is, r.call, r.fd_is, r.zero_is, r.len, r.starts) refl

pub take_none : (n : ℕ) → take {A = ℕ} n [] ≡ []
take_none zero = refl
take_none (suc n) = refl

pub turn_at_read : (p : Program) (n : ℕ) (input : List ℕ) (r : Reading p n) → turn input p ≡ turned p
    (reads_into input n (filled (is_plain_store p.file) p.machine.memory n (take n input) r.start) p.machine)
unfolding turn
turn_at_read p n input r = ap (turned p) (machine_at_read p n input r)

-- there is no site where a system call stands
code_is : (file : List ℕ) (a w : ℕ) (t : Bool) (o : Option ℕ) (n : Option HeapName) (s : Option Site)
    → is_second file a ≡ t → code_word file a ≡ o → (if t then Nothing else here_with o n s) ≡ Code w
    → code_word file a ≡ Some w
code_is file a w true o n s e f h = absurd (cc)
code_is file a w false None n s e f h = absurd (cc)
code_is file a w false (Some v) (Some name) s e f h = absurd (cc)
code_is file a w false (Some v) None None e f h = let same : v ≡ w = cc in f ∙ ap Some same
code_is file a w false (Some v) None (Some s) e f h = by_pair s.pair h
  where
    by_pair : (b : Bool) → (if b then Pair s else Code v) ≡ Code w → code_word file a ≡ Some w
    by_pair true h = absurd (cc)
    by_pair false h = let same : v ≡ w = cc in f ∙ ap Some same

no_call : (file : List ℕ) (a : ℕ) (next : Option Instr) → call_at file a (Some Ecall) next ≡ None
unfolding call_at
no_call file a None = refl
no_call file a (Some i) = refl

no_site : (file : List ℕ) (a w : ℕ) → here file a ≡ Code w → decoded w ≡ Some Ecall → site_at file a ≡ None
unfolding here site_at
no_site file a w h e =
    let word : code_word file a ≡ Some w =
    code_is file a w (is_second file a) (code_word file a) (function_at file a) (site_at file a) refl refl h in
    rw (word, e, no_call file a (code_at file (a + 4))) refl

pub filled_some : (p : Program) (n : ℕ) (r : Reading p n)
    → filled (is_plain_store p.file) p.machine.memory n [] r.start ≡ Some p.machine.memory
unfolding filled
filled_some p n r = rw r.within refl

-- its turn on an empty input
pub empty_at_read : (p : Program) (n : ℕ) → Reading p n
    → machine_turn p.file p.plan [] p.machine ≡ reads_into [] n (Some p.machine.memory) p.machine
empty_at_read p n r =
    machine_at_read p n [] r ∙ ap (λ o. reads_into [] n o p.machine)
    (ap (λ bs. filled (is_plain_store p.file) p.machine.memory n bs r.start) (take_none n) ∙ filled_some p n r)

-- its note
pub note_whole : (p : Program) → p.machine.ending ≡ Running
    → is_fault (machine_turn p.file p.plan [] p.machine).next.ending ≡ false
    → note p.file p.plan p.machine ≡ here_note p.file p.plan (here p.file p.machine.pc) p.machine
unfolding note
note_whole p r e = ap (λ (x : Ending). ending_note p.file p.plan x p.machine) r ∙ rw e refl

instr_at_read : (p : Program) (n : ℕ) → Reading p n
    → here_note p.file p.plan (here p.file p.machine.pc) p.machine ≡ read_note p.machine n
instr_at_read p n r =
    let site : site_at p.file p.machine.pc ≡ None = no_site p.file p.machine.pc r.word r.code r.instr in
    rw (r.code, r.instr, site, r.number_is, r.call, r.fd_is, r.zero_is, r.len, r.some) refl

pub note_at_read : (p : Program) (n : ℕ) → Reading p n → note p.file p.plan p.machine ≡ read_note p.machine n
note_at_read p n r =
    let turns : machine_turn p.file p.plan [] p.machine ≡ reads_into [] n (Some p.machine.memory) p.machine =
    empty_at_read p n r in
    let goes : is_fault (machine_turn p.file p.plan [] p.machine).next.ending ≡ false =
    ap (λ (t : SymTurn). is_fault t.next.ending) turns ∙ ap is_fault r.runs in
    note_whole p r.runs goes ∙ instr_at_read p n r
