-- Turns that neither read, write nor end.
use Rattle.std.proofs.Common.{◌≡◌, ℕ, ◌+◌, ◌*◌, ◌/◌, List, true, refl, ap, sym, ◌∙◌, add-one}
use Rattle.std.specs.Prelude.{Option, Some, None, option_and_then}
use Rattle.rv_isa.specs.declared.Cond.{Cond}
use Rattle.rv_isa.specs.declared.Instr.{Instr}
use Rattle.rv_isa.specs.declared.Instr.TheVariants.{Jal, Jalr, Branch}
use Rattle.rv_isa.specs.Addresses.{plus}
use Rattle.rv_isa.specs.Compute.{is_held}
use Rattle.rv_isa.specs.Table.{decoded}
use Rattle.machine_spec.specs.Memory.{Range}
use Rattle.flat_spec.specs.Stores.{fetched}
use Rattle.flat_spec.specs.Machine.{Machine, jumps, word_read}
use Rattle.flat_spec.specs.Calls.{quiet}
use Rattle.flat_spec.specs.Turns.{acts, executes, runs_word, turn}
use Rattle.flat_mem.specs.Decoded.{instr_at}
use Rattle.machine_run.specs.Machines.{GoesQuietly}
use Rattle.flat_machine.specs.Quiet.{running_at, Acts, Goes, Takes}
use Rattle.flat_machine.specs.Rules.{turned, flat_rules}

-- the turn is that of the instruction at the pc
word_turn : (o : Option ℕ) (i : Instr) (input : List ℕ) (m : Machine) → Some i ≡ option_and_then decoded o
    → runs_word input o m ≡ executes input (Some i) m
word_turn None i input m h = absurd (cc)
word_turn (Some w) i input m h = let is : decoded w ≡ Some i = sym h in rw is refl

pub turn_acts : (result : Option ℕ) (i : Instr) (memory kept new : List Range) (words registers : List ℕ) (pc : ℕ)
    → kept ≡ memory → Some i ≡ instr_at memory pc → Acts result i (running_at kept words pc) new registers
    → Takes result (running_at memory words pc) new registers
unfolding turn
turn_acts None i memory kept new words registers pc same is acts = (acts.0 ∙ same, acts.1)
turn_acts (Some next) i memory kept new words registers pc same is acts = λ input.
    word_turn (fetched memory pc) i input (running_at memory words pc) is
    ∙ ap (λ m. executes input (Some i) (running_at m words pc)) (sym same) ∙ acts input

-- one more turn
pub one_more : (n : ℕ) (old : Machine) (memory new : List Range) (words registers : List ℕ) (pc next : ℕ)
    → GoesQuietly flat_rules n old (running_at memory words pc)
    → Takes (Some next) (running_at memory words pc) new registers
    → GoesQuietly flat_rules (n + 1) old (running_at new registers next)
one_more n old memory new words registers pc next led takes =
    rw (add-one n) (running_at memory words pc, led, refl, λ input. ap turned (takes input))

-- and no more, where a turn isn't taken
pub no_more : (n : ℕ) (old : Machine) (memory new : List Range) (words registers : List ℕ) (pc : ℕ)
    → GoesQuietly flat_rules n old (running_at memory words pc)
    → Takes None (running_at memory words pc) new registers
    → GoesQuietly flat_rules n old (running_at new registers pc)
no_more n old memory new words registers pc led takes = rw (takes.0, takes.1) led

-- the turns of jumps
jumped : (result : Option ℕ) (i : Instr) (after old : Machine) (memory : List Range) (registers : List ℕ)
    → ((input : List ℕ) → executes input (Some i) old ≡ quiet input after) → Goes result after old memory registers
    → Acts result i old memory registers
jumped None i after old memory registers does goes = goes
jumped (Some next) i after old memory registers does goes = λ input. does input ∙ ap (quiet input) goes

pub acts_jal : (result : Option ℕ) (memory : List Range) (words registers : List ℕ) (pc rd imm : ℕ)
    → Goes result (jumps rd (plus pc imm) (running_at memory words pc)) (running_at memory words pc) memory registers
    → Acts result (Jal rd imm) (running_at memory words pc) memory registers
unfolding acts
acts_jal result memory words registers pc rd imm goes =
    jumped result (Jal rd imm) (jumps rd (plus pc imm) (running_at memory words pc)) (running_at memory words pc) memory
    registers (λ input. refl) goes

pub acts_jalr : (result : Option ℕ) (memory : List Range) (words registers : List ℕ) (pc rd rs1 imm addr : ℕ)
    → Goes result (jumps rd (addr / 2 * 2) (running_at memory words pc)) (running_at memory words pc) memory registers
    → addr ≡ plus (word_read words rs1) imm
    → Acts result (Jalr rd rs1 imm) (running_at memory words pc) memory registers
unfolding acts
acts_jalr result memory words registers pc rd rs1 imm addr goes is =
    jumped result (Jalr rd rs1 imm) (jumps rd (addr / 2 * 2) (running_at memory words pc)) (running_at memory words pc)
    memory registers (λ input. ap (λ a. quiet input (jumps rd (a / 2 * 2) (running_at memory words pc))) (sym is)) goes

pub acts_branch : (result : Option ℕ) (memory : List Range) (words registers : List ℕ) (pc : ℕ) (condition : Cond)
    (rs1 rs2 imm : ℕ)
    → Goes result (jumps 0 (plus pc imm) (running_at memory words pc)) (running_at memory words pc) memory registers
    → is_held condition (word_read words rs1) (word_read words rs2) ≡ true
    → Acts result (Branch condition rs1 rs2 imm) (running_at memory words pc) memory registers
unfolding acts
acts_branch result memory words registers pc condition rs1 rs2 imm goes held =
    jumped result (Branch condition rs1 rs2 imm) (jumps 0 (plus pc imm) (running_at memory words pc))
    (running_at memory words pc) memory registers (λ input. rw held refl) goes
