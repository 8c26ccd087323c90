-- The generated program G(n): it prepends n nodes to a left list and n to a right one, in turn, each with the
-- number of nodes that are still to come, adds up the numbers of both lists eight times, and exits with the
-- sum's low byte. A node is a block of eight bytes: the next node's address and a number.
use Rattle.std.specs.Prelude.{ℕ, ◌+◌, ◌-◌, ◌%◌, ◌^◌, List, [], ◌∷◌, ◌++◌, map, codes}
use Rattle.elf_spec.specs.declared.Reloc.{Reloc}
use Rattle.rv_isa.specs.declared.Instr.{Instr}
use Rattle.rv_isa.specs.Split.{upper_part}
use Rattle.rv_isa.specs.Encoded.{encoded}
use Rattle.rv_build.specs.declared.labels.Label.{Label}
use Rattle.rv_build.specs.Parts.{Parts}
use Rattle.rv_build.specs.Built.{built_file}
use Rattle.rv_build.specs.Assembly.{x0, ra, sp, s0, s1, a0, a4, a5, a7, s2, s3, s4, below_zero, lui, auipc, addi, andi}
use Rattle.rv_build.specs.Assembly.{add, lw, sw, jal, jalr, beq, bne, ecall, ebreak, placed}

-- where the functions stand
abbrev pub left : ℕ
left = 0x1016c

abbrev pub right : ℕ
right = 0x10190

abbrev pub node : ℕ
node = 0x101b4

abbrev pub malloc : ℕ
malloc = 0x101d4

-- what is left of a number beside the nearest multiple of 4096, as a word
abbrev pub lower_part : ℕ → ℕ
lower_part n = (n + 2 ^ 32 - upper_part n) % 2 ^ 32

-- from 0x10100 on: s2 counts down from n; s0 and s1 are the heads of the two lists
abbrev pub building : ℕ → List (ℕ → Instr)
building n =
    lui s2 (upper_part n) ∷
    addi s2 s2 (lower_part n) ∷
    addi s0 x0 0 ∷
    addi s1 x0 0 ∷
    jal ra left ∷  -- 0x10110
    jal ra right ∷
    addi s2 s2 (below_zero 1) ∷
    bne s2 x0 0x10110 ∷
    []

-- from 0x10120 on: s3 is the sum, s4 the passes that are left
abbrev pub adding : List (ℕ → Instr)
adding =
    addi s3 x0 0 ∷
    addi s4 x0 8 ∷
    addi a5 s0 0 ∷  -- 0x10128
    beq a5 x0 0x10140 ∷  -- 0x1012c
    lw a4 4 a5 ∷
    add s3 s3 a4 ∷
    lw a5 0 a5 ∷
    jal x0 0x1012c ∷
    addi a5 s1 0 ∷  -- 0x10140
    beq a5 x0 0x10158 ∷  -- 0x10144
    lw a4 4 a5 ∷
    add s3 s3 a4 ∷
    lw a5 0 a5 ∷
    jal x0 0x10144 ∷
    addi s4 s4 (below_zero 1) ∷  -- 0x10158
    bne s4 x0 0x10128 ∷
    andi a0 s3 255 ∷
    addi a7 x0 93 ∷
    ecall ∷
    []

-- the functions `left` and `right`: a new node in front of the list with this head
abbrev pub prepending : ℕ → List (ℕ → Instr)
prepending head =
    addi sp sp (below_zero 16) ∷
    sw ra 12 sp ∷
    jal ra node ∷
    sw head 0 a0 ∷
    sw s2 4 a0 ∷
    addi head a0 0 ∷
    lw ra 12 sp ∷
    addi sp sp 16 ∷
    jalr x0 0 ra ∷
    []

-- the function `node`, which takes a block of eight bytes from `malloc`, and the two words of `malloc`
abbrev pub allocating : List (ℕ → Instr)
allocating =
    addi sp sp (below_zero 16) ∷
    sw ra 12 sp ∷
    addi a0 x0 8 ∷
    auipc ra 0 ∷  -- 0x101c0
    jalr ra 20 ra ∷
    lw ra 12 sp ∷
    addi sp sp 16 ∷
    jalr x0 0 ra ∷
    ebreak ∷
    ebreak ∷
    []

abbrev pub listing : ℕ → List (ℕ → Instr)
listing n = building n ++ adding ++ prepending s0 ++ prepending s1 ++ allocating

-- the instructions from the entry on
unfoldable pub instructions : ℕ → List Instr
instructions n = placed 0x10100 (listing n)

-- the functions with their sizes
abbrev pub functions : List Label
functions =
    record { name = codes "left"; at = left; size = 36 } ∷
    record { name = codes "right"; at = right; size = 36 } ∷
    record { name = codes "node"; at = node; size = 32 } ∷
    record { name = codes "malloc"; at = malloc; size = 8 } ∷
    []

-- a call of the function with this number, by one jump (17, R_RISCV_JAL) or by a pair (19, R_RISCV_CALL_PLT)
abbrev pub call : (place kind symbol : ℕ) → Reloc
call place kind symbol = record { place = place; kind = kind; symbol = symbol }

abbrev pub calls : List Reloc
calls = call 0x10110 17 1 ∷ call 0x10114 17 2 ∷ call 0x10174 17 3 ∷ call 0x10198 17 3 ∷ call 0x101c0 19 4 ∷ []

unfoldable pub program : ℕ → Parts
program n = record { words = map encoded (instructions n); symbols = functions; relocs = calls }

-- the file
abbrev pub generated : ℕ → List ℕ
generated n = built_file (program n)
