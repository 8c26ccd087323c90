-- Decoding and encoding undo each other.
use Rattle.std.proofs.Common.{◌≡◌, ℕ, ◌^◌, ◌<◌, lit<, refl, sym}
use Rattle.std.specs.Prelude.{Option, None, Some, IfSome}
use Rattle.rv_isa.specs.declared.Op.TheVariants.{Add, Sub, Sll, Slt, Sltu, Xor, Srl, Sra, Or, And, Mul, Mulh, Mulhsu}
use Rattle.rv_isa.specs.declared.Op.TheVariants.{Mulhu, Div, Divu, Rem, Remu}
use Rattle.rv_isa.specs.declared.Cond.TheVariants.{Eq, Ne, Lt, Ge, Ltu, Geu}
use Rattle.rv_isa.specs.declared.Width.TheVariants.{Byte, Half, Word, ByteU, HalfU}
use Rattle.rv_isa.specs.declared.Instr.{Instr}
use Rattle.rv_isa.specs.declared.Instr.TheVariants.{Lui, Auipc, Jal, Jalr, Branch, Load, Store, OpImm, Reg, Fence}
use Rattle.rv_isa.specs.declared.Instr.TheVariants.{Ecall, Ebreak}
use Rattle.rv_isa.specs.Table.{table, decoded}
use Rattle.rv_isa.specs.Encoded.{encoded, IsFormed, NamesRegisters}
use Rattle.rv_isa.proofs.Fits.{decoded_by}
use Rattle.rv_isa.proofs.Rows.{reads_decoded}
use Rattle.rv_isa.proofs.Forms.{r_back, i_back, s_back, b_back, u_back, j_back, fence_back}

-- the word of a formed instruction is decoded to it
pub decoded-encoded : (i : Instr) → IsFormed i → decoded (encoded i) ≡ Some i
unfolding table encoded
decoded-encoded (Lui a b) h = u_back 0x37 (λ x y. Lui x y) (λ f g w. refl) (lit< tt) a b h.0 h.1 h.2
decoded-encoded (Auipc a b) h = u_back 0x17 (λ x y. Auipc x y) (λ f g w. refl) (lit< tt) a b h.0 h.1 h.2
decoded-encoded (Jal a b) h = j_back 0x6f (λ x y. Jal x y) (λ f g w. refl) (lit< tt) a b h.0 h.1 h.2
decoded-encoded (Jalr a b c) h =
    i_back 0x67 0 (λ x y z. Jalr x y z) (λ g w. refl) (lit< tt) (lit< tt) a b c h.0 h.1 h.2
decoded-encoded (Branch Eq a b c) h =
    b_back 0x63 0 (λ x y z. Branch Eq x y z) (λ g w. refl) (lit< tt) (lit< tt) a b c h.0 h.1 h.2 h.3
decoded-encoded (Branch Ne a b c) h =
    b_back 0x63 1 (λ x y z. Branch Ne x y z) (λ g w. refl) (lit< tt) (lit< tt) a b c h.0 h.1 h.2 h.3
decoded-encoded (Branch Lt a b c) h =
    b_back 0x63 4 (λ x y z. Branch Lt x y z) (λ g w. refl) (lit< tt) (lit< tt) a b c h.0 h.1 h.2 h.3
decoded-encoded (Branch Ge a b c) h =
    b_back 0x63 5 (λ x y z. Branch Ge x y z) (λ g w. refl) (lit< tt) (lit< tt) a b c h.0 h.1 h.2 h.3
decoded-encoded (Branch Ltu a b c) h =
    b_back 0x63 6 (λ x y z. Branch Ltu x y z) (λ g w. refl) (lit< tt) (lit< tt) a b c h.0 h.1 h.2 h.3
decoded-encoded (Branch Geu a b c) h =
    b_back 0x63 7 (λ x y z. Branch Geu x y z) (λ g w. refl) (lit< tt) (lit< tt) a b c h.0 h.1 h.2 h.3
decoded-encoded (Load Byte a b c) h =
    i_back 0x03 0 (λ x y z. Load Byte x y z) (λ g w. refl) (lit< tt) (lit< tt) a b c h.0 h.1 h.2
decoded-encoded (Load Half a b c) h =
    i_back 0x03 1 (λ x y z. Load Half x y z) (λ g w. refl) (lit< tt) (lit< tt) a b c h.0 h.1 h.2
decoded-encoded (Load Word a b c) h =
    i_back 0x03 2 (λ x y z. Load Word x y z) (λ g w. refl) (lit< tt) (lit< tt) a b c h.0 h.1 h.2
decoded-encoded (Load ByteU a b c) h =
    i_back 0x03 4 (λ x y z. Load ByteU x y z) (λ g w. refl) (lit< tt) (lit< tt) a b c h.0 h.1 h.2
decoded-encoded (Load HalfU a b c) h =
    i_back 0x03 5 (λ x y z. Load HalfU x y z) (λ g w. refl) (lit< tt) (lit< tt) a b c h.0 h.1 h.2
decoded-encoded (Store Byte a b c) h =
    s_back 0x23 0 (λ x y z. Store Byte x y z) (λ g w. refl) (lit< tt) (lit< tt) a b c h.1 h.2 h.3
decoded-encoded (Store Half a b c) h =
    s_back 0x23 1 (λ x y z. Store Half x y z) (λ g w. refl) (lit< tt) (lit< tt) a b c h.1 h.2 h.3
decoded-encoded (Store Word a b c) h =
    s_back 0x23 2 (λ x y z. Store Word x y z) (λ g w. refl) (lit< tt) (lit< tt) a b c h.1 h.2 h.3
decoded-encoded (Store ByteU a b c) h = absurd h.0
decoded-encoded (Store HalfU a b c) h = absurd h.0
decoded-encoded (OpImm Add a b c) h =
    i_back 0x13 0 (λ x y z. OpImm Add x y z) (λ g w. refl) (lit< tt) (lit< tt) a b c h.0 h.1 h.2
decoded-encoded (OpImm Sub a b c) h = absurd h.2
decoded-encoded (OpImm Sll a b c) h =
    r_back 0x13 1 0 (λ x y z. OpImm Sll x y z) (λ w. refl) (lit< tt) (lit< tt) (lit< tt) a b c h.0 h.1 h.2
decoded-encoded (OpImm Slt a b c) h =
    i_back 0x13 2 (λ x y z. OpImm Slt x y z) (λ g w. refl) (lit< tt) (lit< tt) a b c h.0 h.1 h.2
decoded-encoded (OpImm Sltu a b c) h =
    i_back 0x13 3 (λ x y z. OpImm Sltu x y z) (λ g w. refl) (lit< tt) (lit< tt) a b c h.0 h.1 h.2
decoded-encoded (OpImm Xor a b c) h =
    i_back 0x13 4 (λ x y z. OpImm Xor x y z) (λ g w. refl) (lit< tt) (lit< tt) a b c h.0 h.1 h.2
decoded-encoded (OpImm Srl a b c) h =
    r_back 0x13 5 0 (λ x y z. OpImm Srl x y z) (λ w. refl) (lit< tt) (lit< tt) (lit< tt) a b c h.0 h.1 h.2
decoded-encoded (OpImm Sra a b c) h =
    r_back 0x13 5 0x20 (λ x y z. OpImm Sra x y z) (λ w. refl) (lit< tt) (lit< tt) (lit< tt) a b c h.0 h.1 h.2
decoded-encoded (OpImm Or a b c) h =
    i_back 0x13 6 (λ x y z. OpImm Or x y z) (λ g w. refl) (lit< tt) (lit< tt) a b c h.0 h.1 h.2
decoded-encoded (OpImm And a b c) h =
    i_back 0x13 7 (λ x y z. OpImm And x y z) (λ g w. refl) (lit< tt) (lit< tt) a b c h.0 h.1 h.2
decoded-encoded (OpImm Mul a b c) h = absurd h.2
decoded-encoded (OpImm Mulh a b c) h = absurd h.2
decoded-encoded (OpImm Mulhsu a b c) h = absurd h.2
decoded-encoded (OpImm Mulhu a b c) h = absurd h.2
decoded-encoded (OpImm Div a b c) h = absurd h.2
decoded-encoded (OpImm Divu a b c) h = absurd h.2
decoded-encoded (OpImm Rem a b c) h = absurd h.2
decoded-encoded (OpImm Remu a b c) h = absurd h.2
decoded-encoded (Reg Add a b c) h =
    r_back 0x33 0 0 (λ x y z. Reg Add x y z) (λ w. refl) (lit< tt) (lit< tt) (lit< tt) a b c h.0 h.1 h.2
decoded-encoded (Reg Sub a b c) h =
    r_back 0x33 0 0x20 (λ x y z. Reg Sub x y z) (λ w. refl) (lit< tt) (lit< tt) (lit< tt) a b c h.0 h.1 h.2
decoded-encoded (Reg Sll a b c) h =
    r_back 0x33 1 0 (λ x y z. Reg Sll x y z) (λ w. refl) (lit< tt) (lit< tt) (lit< tt) a b c h.0 h.1 h.2
decoded-encoded (Reg Slt a b c) h =
    r_back 0x33 2 0 (λ x y z. Reg Slt x y z) (λ w. refl) (lit< tt) (lit< tt) (lit< tt) a b c h.0 h.1 h.2
decoded-encoded (Reg Sltu a b c) h =
    r_back 0x33 3 0 (λ x y z. Reg Sltu x y z) (λ w. refl) (lit< tt) (lit< tt) (lit< tt) a b c h.0 h.1 h.2
decoded-encoded (Reg Xor a b c) h =
    r_back 0x33 4 0 (λ x y z. Reg Xor x y z) (λ w. refl) (lit< tt) (lit< tt) (lit< tt) a b c h.0 h.1 h.2
decoded-encoded (Reg Srl a b c) h =
    r_back 0x33 5 0 (λ x y z. Reg Srl x y z) (λ w. refl) (lit< tt) (lit< tt) (lit< tt) a b c h.0 h.1 h.2
decoded-encoded (Reg Sra a b c) h =
    r_back 0x33 5 0x20 (λ x y z. Reg Sra x y z) (λ w. refl) (lit< tt) (lit< tt) (lit< tt) a b c h.0 h.1 h.2
decoded-encoded (Reg Or a b c) h =
    r_back 0x33 6 0 (λ x y z. Reg Or x y z) (λ w. refl) (lit< tt) (lit< tt) (lit< tt) a b c h.0 h.1 h.2
decoded-encoded (Reg And a b c) h =
    r_back 0x33 7 0 (λ x y z. Reg And x y z) (λ w. refl) (lit< tt) (lit< tt) (lit< tt) a b c h.0 h.1 h.2
decoded-encoded (Reg Mul a b c) h =
    r_back 0x33 0 1 (λ x y z. Reg Mul x y z) (λ w. refl) (lit< tt) (lit< tt) (lit< tt) a b c h.0 h.1 h.2
decoded-encoded (Reg Mulh a b c) h =
    r_back 0x33 1 1 (λ x y z. Reg Mulh x y z) (λ w. refl) (lit< tt) (lit< tt) (lit< tt) a b c h.0 h.1 h.2
decoded-encoded (Reg Mulhsu a b c) h =
    r_back 0x33 2 1 (λ x y z. Reg Mulhsu x y z) (λ w. refl) (lit< tt) (lit< tt) (lit< tt) a b c h.0 h.1 h.2
decoded-encoded (Reg Mulhu a b c) h =
    r_back 0x33 3 1 (λ x y z. Reg Mulhu x y z) (λ w. refl) (lit< tt) (lit< tt) (lit< tt) a b c h.0 h.1 h.2
decoded-encoded (Reg Div a b c) h =
    r_back 0x33 4 1 (λ x y z. Reg Div x y z) (λ w. refl) (lit< tt) (lit< tt) (lit< tt) a b c h.0 h.1 h.2
decoded-encoded (Reg Divu a b c) h =
    r_back 0x33 5 1 (λ x y z. Reg Divu x y z) (λ w. refl) (lit< tt) (lit< tt) (lit< tt) a b c h.0 h.1 h.2
decoded-encoded (Reg Rem a b c) h =
    r_back 0x33 6 1 (λ x y z. Reg Rem x y z) (λ w. refl) (lit< tt) (lit< tt) (lit< tt) a b c h.0 h.1 h.2
decoded-encoded (Reg Remu a b c) h =
    r_back 0x33 7 1 (λ x y z. Reg Remu x y z) (λ w. refl) (lit< tt) (lit< tt) (lit< tt) a b c h.0 h.1 h.2
decoded-encoded (Fence a) h = fence_back a h.0 h.1
decoded-encoded Ecall h = decoded_by 0x00000073 (lit< tt)
decoded-encoded Ebreak h = decoded_by 0x00100073 (lit< tt)

-- no other word is
pub encoded_only : (i : Instr) (w : ℕ) → w < 2 ^ 32 → decoded w ≡ Some i → w ≡ encoded i
encoded_only i w m e = sym (reads_decoded w m i e).word

-- an instruction that some word is, is formed
pub formed_decoded : (w : ℕ) → w < 2 ^ 32 → (i : Instr) → decoded w ≡ Some i → IsFormed i
formed_decoded w m i e = (reads_decoded w m i e).formed

pub IfSome-formed : (w : ℕ) → w < 2 ^ 32 → (o : Option Instr) → o ≡ decoded w → IfSome o IsFormed
IfSome-formed w m None e = tt
IfSome-formed w m (Some i) e = formed_decoded w m i (sym e)

-- the registers of a formed instruction are below 32
pub registers_formed : (i : Instr) → IsFormed i → NamesRegisters i
registers_formed (Lui a b) h = h.0
registers_formed (Auipc a b) h = h.0
registers_formed (Jal a b) h = h.0
registers_formed (Jalr a b c) h = (h.0, h.1)
registers_formed (Branch a b c d) h = (h.0, h.1)
registers_formed (Load a b c d) h = (h.0, h.1)
registers_formed (Store a b c d) h = (h.1, h.2)
registers_formed (OpImm a b c d) h = (h.0, h.1)
registers_formed (Reg a b c d) h = h
registers_formed (Fence a) h = tt
registers_formed Ecall h = tt
registers_formed Ebreak h = tt

pub IfSome-registers : (w : ℕ) → w < 2 ^ 32 → (o : Option Instr) → o ≡ decoded w → IfSome o NamesRegisters
IfSome-registers w m None e = tt
IfSome-registers w m (Some i) e = registers_formed i (formed_decoded w m i (sym e))
