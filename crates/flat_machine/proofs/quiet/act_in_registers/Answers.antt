use Rattle.std.proofs.Common.{◌∙◌, sym}
use Rattle.flat_machine.proofs.QuietTurns.{acts_jal, acts_jalr, acts_branch}
use Rattle.flat_machine.proofs.quiet.act_in_registers.Goals as goal

pub returns-in-Jal : goal.returns-in-Jal
returns-in-Jal c = λ memory.
    rw c.in-Jal.is (acts_jal c.jump.result memory c.args.registers.now c.jump.new.registers c.args.pc
    c.in-Jal.rd c.in-Jal.imm (c.jump.ensures memory))

pub returns-in-Jalr : goal.returns-in-Jalr
returns-in-Jalr c = λ memory.
    rw c.in-Jalr.is (acts_jalr c.jump-in-Jalr.result memory c.args.registers.now c.jump-in-Jalr.new.registers
    c.args.pc c.in-Jalr.rd c.in-Jalr.rs1 c.in-Jalr.imm c.address.result (c.jump-in-Jalr.ensures memory)
    c.address.ensures)

pub returns-then-is_held : goal.returns-then-is_held
returns-then-is_held c = λ memory.
    rw c.in-Branch.is (acts_branch c.jump-then-is_held.result memory c.args.registers.now
    c.jump-then-is_held.new.registers c.args.pc c.in-Branch.cond c.in-Branch.rs1 c.in-Branch.rs2 c.in-Branch.imm
    (c.jump-then-is_held.ensures memory)
    (rw (c.read.ensures, c.read-in-Branch.ensures) at (sym c.is_held.ensures ∙ c.if-is_held.true)))
