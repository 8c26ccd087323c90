-- Each format once: a word is made of its fields, and the fields of the made word are the fields.
use Rattle.std.proofs.Common.{◌≡◌, ℕ, ◌+◌, ◌*◌, ◌/◌, ◌%◌, ◌^◌, ◌<◌, refl, ◌∙◌, ap, arith}
use Rattle.std.specs.Prelude.{Some}
use Rattle.rv_isa.specs.declared.Instr.{Instr}
use Rattle.rv_isa.specs.declared.Instr.TheVariants.{Fence}
use Rattle.rv_isa.specs.Words.{extended, bits_at, rd, rs1, rs2, imm_i, imm_s, imm_b, imm_u, imm_j, rest_of}
use Rattle.rv_isa.specs.Table.{table, decoded}
use Rattle.rv_isa.specs.Encoded.{IsExtended, r_word, i_word, s_word, b_word, u_word, j_word}
use Rattle.rv_isa.proofs.Fits.{read_fields, decoded_by}
use Rattle.rv_isa.proofs.Extended.{extended_12, extended_13, extended_21, extended_back_12, extended_back_13}
use Rattle.rv_isa.proofs.Extended.{extended_back_21}

-- a word is made of its fields
pub r_again :
    (o f g w : ℕ) → w < 2 ^ 32 → w % 2 ^ 7 ≡ o → w / 2 ^ 12 % 2 ^ 3 ≡ f → w / 2 ^ 25 ≡ g →
    r_word o f g (rd w) (rs1 w) (rs2 w) ≡ w
r_again o f g w m a b c = omega arith

pub i_again :
    (o f w : ℕ) → w < 2 ^ 32 → w % 2 ^ 7 ≡ o → w / 2 ^ 12 % 2 ^ 3 ≡ f →
    i_word o f (rd w) (rs1 w) (imm_i w) ≡ w
i_again o f w m a b =
    let x : ℕ = w / 2 ^ 20 in
    let s : x < 2 ^ 12 = omega arith in
    let k = extended_12 x s in omega (arith, k)

pub s_again :
    (o f w : ℕ) → w < 2 ^ 32 → w % 2 ^ 7 ≡ o → w / 2 ^ 12 % 2 ^ 3 ≡ f →
    s_word o f (rs1 w) (rs2 w) (imm_s w) ≡ w
s_again o f w m a b =
    let x : ℕ = w / 2 ^ 25 * 2 ^ 5 + bits_at 7 5 w in
    let s : x < 2 ^ 12 = omega arith in
    let k = extended_12 x s in omega (arith, k)

pub b_again :
    (o f w : ℕ) → w < 2 ^ 32 → w % 2 ^ 7 ≡ o → w / 2 ^ 12 % 2 ^ 3 ≡ f →
    b_word o f (rs1 w) (rs2 w) (imm_b w) ≡ w
b_again o f w m a b =
    let x : ℕ = w / 2 ^ 31 * 2 ^ 12 + bits_at 7 1 w * 2 ^ 11 + bits_at 25 6 w * 2 ^ 5 + bits_at 8 4 w * 2 in
    let s : x < 2 ^ 13 = omega arith in
    let k = extended_13 x s in omega (arith, k)

pub u_again : (o w : ℕ) → w < 2 ^ 32 → w % 2 ^ 7 ≡ o → u_word o (rd w) (imm_u w) ≡ w
u_again o w m a = omega arith

pub j_again : (o w : ℕ) → w < 2 ^ 32 → w % 2 ^ 7 ≡ o → j_word o (rd w) (imm_j w) ≡ w
j_again o w m a =
    let x : ℕ = w / 2 ^ 31 * 2 ^ 20 + bits_at 12 8 w * 2 ^ 12 + bits_at 20 1 w * 2 ^ 11 + bits_at 21 10 w * 2 in
    let s : x < 2 ^ 21 = omega arith in
    let k = extended_21 x s in omega (arith, k)

-- equal fields give equal readings, and equal parts equal instructions
fields_are :
    (o f g o' f' g' w : ℕ) → o' ≡ o → f' ≡ f → g' ≡ g → read_fields table o' f' g' w ≡ read_fields table o f g w
fields_are o f g o' f' g' w a b c = cc

made_2 : (make : ℕ → ℕ → Instr) (a b a' b' : ℕ) → a' ≡ a → b' ≡ b → Some (make a' b') ≡ Some (make a b)
made_2 make a b a' b' ea eb = cc

made_3 :
    (make : ℕ → ℕ → ℕ → Instr) (a b c a' b' c' : ℕ) → a' ≡ a → b' ≡ b → c' ≡ c →
    Some (make a' b' c') ≡ Some (make a b c)
made_3 make a b c a' b' c' ea eb ec = cc

-- the word that a format makes of a row's fields and an instruction's parts is that instruction
pub r_back :
    (o f g : ℕ) (make : ℕ → ℕ → ℕ → Instr) →
    ((w : ℕ) → read_fields table o f g w ≡ Some (make (rd w) (rs1 w) (rs2 w))) →
    o < 2 ^ 7 → f < 2 ^ 3 → g < 2 ^ 7 → (a b c : ℕ) → a < 32 → b < 32 → c < 32 →
    decoded (r_word o f g a b c) ≡ Some (make a b c)
r_back o f g make row lo lf lg a b c la lb lc =
    let w : ℕ = r_word o f g a b c in
    let m : w < 2 ^ 32 = omega arith in
    let at = decoded_by w m in
    let eo : w % 2 ^ 7 ≡ o = omega arith in
    let ef : w / 2 ^ 12 % 2 ^ 3 ≡ f = omega arith in
    let eg : w / 2 ^ 25 ≡ g = omega arith in
    let ea : rd w ≡ a = omega arith in
    let eb : rs1 w ≡ b = omega arith in
    let ec : rs2 w ≡ c = omega arith in
    at ∙ fields_are o f g (w % 2 ^ 7) (w / 2 ^ 12 % 2 ^ 3) (w / 2 ^ 25) w eo ef eg ∙ row w
    ∙ made_3 make a b c (rd w) (rs1 w) (rs2 w) ea eb ec

pub i_back :
    (o f : ℕ) (make : ℕ → ℕ → ℕ → Instr) →
    ((g w : ℕ) → read_fields table o f g w ≡ Some (make (rd w) (rs1 w) (imm_i w))) →
    o < 2 ^ 7 → f < 2 ^ 3 → (a b c : ℕ) → a < 32 → b < 32 → IsExtended 12 c →
    decoded (i_word o f a b c) ≡ Some (make a b c)
i_back o f make row lo lf a b c la lb h =
    let w : ℕ = i_word o f a b c in
    let m : w < 2 ^ 32 = omega arith in
    let at = decoded_by w m in
    let eo : w % 2 ^ 7 ≡ o = omega arith in
    let ef : w / 2 ^ 12 % 2 ^ 3 ≡ f = omega arith in
    let ea : rd w ≡ a = omega arith in
    let eb : rs1 w ≡ b = omega arith in
    let low : w / 2 ^ 20 ≡ c % 2 ^ 12 = omega arith in
    let ec : imm_i w ≡ c = ap (λ v. extended 12 v) low ∙ extended_back_12 c h in
    at ∙ fields_are o f (w / 2 ^ 25) (w % 2 ^ 7) (w / 2 ^ 12 % 2 ^ 3) (w / 2 ^ 25) w eo ef refl ∙ row (w / 2 ^ 25) w
    ∙ made_3 make a b c (rd w) (rs1 w) (imm_i w) ea eb ec

pub s_back :
    (o f : ℕ) (make : ℕ → ℕ → ℕ → Instr) →
    ((g w : ℕ) → read_fields table o f g w ≡ Some (make (rs1 w) (rs2 w) (imm_s w))) →
    o < 2 ^ 7 → f < 2 ^ 3 → (a b c : ℕ) → a < 32 → b < 32 → IsExtended 12 c →
    decoded (s_word o f a b c) ≡ Some (make a b c)
s_back o f make row lo lf a b c la lb h =
    let w : ℕ = s_word o f a b c in
    let m : w < 2 ^ 32 = omega arith in
    let at = decoded_by w m in
    let eo : w % 2 ^ 7 ≡ o = omega arith in
    let ef : w / 2 ^ 12 % 2 ^ 3 ≡ f = omega arith in
    let ea : rs1 w ≡ a = omega arith in
    let eb : rs2 w ≡ b = omega arith in
    let low : w / 2 ^ 25 * 2 ^ 5 + bits_at 7 5 w ≡ c % 2 ^ 12 = omega arith in
    let ec : imm_s w ≡ c = ap (λ v. extended 12 v) low ∙ extended_back_12 c h in
    at ∙ fields_are o f (w / 2 ^ 25) (w % 2 ^ 7) (w / 2 ^ 12 % 2 ^ 3) (w / 2 ^ 25) w eo ef refl ∙ row (w / 2 ^ 25) w
    ∙ made_3 make a b c (rs1 w) (rs2 w) (imm_s w) ea eb ec

pub b_back :
    (o f : ℕ) (make : ℕ → ℕ → ℕ → Instr) →
    ((g w : ℕ) → read_fields table o f g w ≡ Some (make (rs1 w) (rs2 w) (imm_b w))) →
    o < 2 ^ 7 → f < 2 ^ 3 → (a b c : ℕ) → a < 32 → b < 32 → IsExtended 13 c → c % 2 ≡ 0 →
    decoded (b_word o f a b c) ≡ Some (make a b c)
b_back o f make row lo lf a b c la lb h e =
    let w : ℕ = b_word o f a b c in
    let m : w < 2 ^ 32 = omega arith in
    let at = decoded_by w m in
    let eo : w % 2 ^ 7 ≡ o = omega arith in
    let ef : w / 2 ^ 12 % 2 ^ 3 ≡ f = omega arith in
    let ea : rs1 w ≡ a = omega arith in
    let eb : rs2 w ≡ b = omega arith in
    let low : w / 2 ^ 31 * 2 ^ 12 + bits_at 7 1 w * 2 ^ 11 + bits_at 25 6 w * 2 ^ 5 + bits_at 8 4 w * 2 ≡ c % 2 ^ 13 =
    omega arith in
    let ec : imm_b w ≡ c = ap (λ v. extended 13 v) low ∙ extended_back_13 c h in
    at ∙ fields_are o f (w / 2 ^ 25) (w % 2 ^ 7) (w / 2 ^ 12 % 2 ^ 3) (w / 2 ^ 25) w eo ef refl ∙ row (w / 2 ^ 25) w
    ∙ made_3 make a b c (rs1 w) (rs2 w) (imm_b w) ea eb ec

pub u_back :
    (o : ℕ) (make : ℕ → ℕ → Instr) →
    ((f g w : ℕ) → read_fields table o f g w ≡ Some (make (rd w) (imm_u w))) →
    o < 2 ^ 7 → (a b : ℕ) → a < 32 → b < 2 ^ 32 → b % 2 ^ 12 ≡ 0 →
    decoded (u_word o a b) ≡ Some (make a b)
u_back o make row lo a b la lb e =
    let w : ℕ = u_word o a b in
    let m : w < 2 ^ 32 = omega arith in
    let at = decoded_by w m in
    let eo : w % 2 ^ 7 ≡ o = omega arith in
    let ea : rd w ≡ a = omega arith in
    let eb : imm_u w ≡ b = omega arith in
    at ∙ fields_are o (w / 2 ^ 12 % 2 ^ 3) (w / 2 ^ 25) (w % 2 ^ 7) (w / 2 ^ 12 % 2 ^ 3) (w / 2 ^ 25) w eo refl refl
    ∙ row (w / 2 ^ 12 % 2 ^ 3) (w / 2 ^ 25) w
    ∙ made_2 make a b (rd w) (imm_u w) ea eb

pub j_back :
    (o : ℕ) (make : ℕ → ℕ → Instr) →
    ((f g w : ℕ) → read_fields table o f g w ≡ Some (make (rd w) (imm_j w))) →
    o < 2 ^ 7 → (a b : ℕ) → a < 32 → IsExtended 21 b → b % 2 ≡ 0 →
    decoded (j_word o a b) ≡ Some (make a b)
j_back o make row lo a b la h e =
    let w : ℕ = j_word o a b in
    let m : w < 2 ^ 32 = omega arith in
    let at = decoded_by w m in
    let eo : w % 2 ^ 7 ≡ o = omega arith in
    let ea : rd w ≡ a = omega arith in
    let low : w / 2 ^ 31 * 2 ^ 20 + bits_at 12 8 w * 2 ^ 12 + bits_at 20 1 w * 2 ^ 11 + bits_at 21 10 w * 2
    ≡ b % 2 ^ 21 = omega arith in
    let eb : imm_j w ≡ b = ap (λ v. extended 21 v) low ∙ extended_back_21 b h in
    at ∙ fields_are o (w / 2 ^ 12 % 2 ^ 3) (w / 2 ^ 25) (w % 2 ^ 7) (w / 2 ^ 12 % 2 ^ 3) (w / 2 ^ 25) w eo refl refl
    ∙ row (w / 2 ^ 12 % 2 ^ 3) (w / 2 ^ 25) w
    ∙ made_2 make a b (rd w) (imm_j w) ea eb

-- a fence is its opcode and all other bits
pub fence_back : (a : ℕ) → a < 2 ^ 25 → bits_at 5 3 a ≡ 0 → decoded (0x0f + bits_at 0 25 a * 2 ^ 7) ≡ Some (Fence a)
unfolding table
fence_back a m z =
    let w : ℕ = 0x0f + bits_at 0 25 a * 2 ^ 7 in
    let n : w < 2 ^ 32 = omega arith in
    let at = decoded_by w n in
    let eo : w % 2 ^ 7 ≡ 0x0f = omega arith in
    let ef : w / 2 ^ 12 % 2 ^ 3 ≡ 0 = omega arith in
    let ea : rest_of w ≡ a = omega arith in
    at ∙ fields_are 0x0f 0 (w / 2 ^ 25) (w % 2 ^ 7) (w / 2 ^ 12 % 2 ^ 3) (w / 2 ^ 25) w eo ef refl
    ∙ ap (λ v. Some (Fence v)) ea
