-- From a near site all stubs are within reach, unless it is a pair.
use Rattle.std.proofs.Common.{◌≡◌, ◌∙◌, ℕ, zero, suc, ◌+◌, ◌*◌, ◌/◌, ◌<◌, ◌==◌, ◌⊎◌, ◌&&◌, ◌||◌, Bool, true, false}
use Rattle.std.proofs.Common.{List, [], ◌∷◌, length, get_or, refl, sym, ap, inl, inr, arith, Option, Some, None}
use Rattle.std.specs.List.{list_all}
use Rattle.std.proofs.lemmas.Bool.{agree_below_at, and_parts, eqb-true}
use Rattle.rv_isa.specs.declared.Instr.{Instr}
use Rattle.rv_isa.specs.declared.Instr.TheVariants.{Lui, Auipc, Jal, Jalr, Branch, Load, Store, OpImm, Reg, Fence}
use Rattle.rv_isa.specs.declared.Instr.TheVariants.{Ecall, Ebreak}
use Rattle.rv_isa.specs.Addresses.{plus}
use Rattle.elf_spec.specs.Relocations.{has_reloc, relocs_of}
use Rattle.site_spec.specs.declared.Site.{Site}
use Rattle.site_spec.specs.Places.{text_at, stub_at, reaches}
use Rattle.site_spec.specs.Sites.{stub_numbers, call_at, code_at, is_call_of_code, kept_site, reaches_all_stubs}
use Rattle.site_spec.specs.Sites.{site_at}

-- a pair, or a jump that is near where it reaches all stubs
abbrev IsKind : List ℕ → ℕ → Site → Type 0
IsKind file a s = (s.pair ≡ true) ⊎ (s.near ≡ reaches_all_stubs file a)

kept : (file : List ℕ) (o : Option Site) (s : Site) → kept_site file o ≡ Some s → o ≡ Some s
kept file None s is = absurd (cc)
kept file (Some t) s is = by (is_call_of_code file t) refl
  where
    by : (b : Bool) → is_call_of_code file t ≡ b → Some t ≡ Some s
    by true test = rw test at is
    by false test = absurd (let none : None ≡ Some s = rw test at is in cc)

jump : (file : List ℕ) (a rd imm : ℕ) (n : Option Instr) (s : Site) → call_at file a (Some (Jal rd imm)) n ≡ Some s
    → IsKind file a s
unfolding call_at
jump file a rd imm n s is = by ((rd == 1) && has_reloc (relocs_of file) 17 a) refl
  where
    made : Site
    made = record { addr = a; target = plus a imm; back = a + 4; pair = false; near = reaches_all_stubs file a }

    by : (b : Bool) → ((rd == 1) && has_reloc (relocs_of file) 17 a) ≡ b → IsKind file a s
    by true test =
        let some : Some made ≡ Some s = rw test at is in
        let same : made ≡ s = cc in
        inr (ap (λ (t : Site). t.near) (sym same))
    by false test = absurd (let none : None ≡ Some s = rw test at is in cc)

pair : (file : List ℕ) (a rd imm rd' rs1 low : ℕ) (s : Site)
    → call_at file a (Some (Auipc rd imm)) (Some (Jalr rd' rs1 low)) ≡ Some s → IsKind file a s
unfolding call_at
pair file a rd imm rd' rs1 low s is =
    by (((rd == 1) && ((rd' == 1) && (rs1 == 1)))
    && (has_reloc (relocs_of file) 18 a || has_reloc (relocs_of file) 19 a)) refl
  where
    made : Site
    made = record { addr = a; target = plus a (imm + low) / 2 * 2; back = a + 8; pair = true; near = true }

    by : (b : Bool) → (((rd == 1) && ((rd' == 1) && (rs1 == 1)))
        && (has_reloc (relocs_of file) 18 a || has_reloc (relocs_of file) 19 a)) ≡ b → IsKind file a s
    by true test =
        let some : Some made ≡ Some s = rw test at is in
        let same : made ≡ s = cc in
        inl (ap (λ (t : Site). t.pair) (sym same))
    by false test = absurd (let none : None ≡ Some s = rw test at is in cc)

pair_from : (file : List ℕ) (a rd imm : ℕ) (n : Option Instr) (s : Site)
    → call_at file a (Some (Auipc rd imm)) n ≡ Some s → IsKind file a s
unfolding call_at
pair_from file a rd imm (Some (Jalr rd' rs1 low)) s is = pair file a rd imm rd' rs1 low s is
pair_from file a rd imm None s is = absurd (cc)
pair_from file a rd imm (Some (Lui x i)) s is = absurd (cc)
pair_from file a rd imm (Some (Auipc x i)) s is = absurd (cc)
pair_from file a rd imm (Some (Jal x i)) s is = absurd (cc)
pair_from file a rd imm (Some (Branch x y z i)) s is = absurd (cc)
pair_from file a rd imm (Some (Load x y z i)) s is = absurd (cc)
pair_from file a rd imm (Some (Store x y z i)) s is = absurd (cc)
pair_from file a rd imm (Some (OpImm x y z i)) s is = absurd (cc)
pair_from file a rd imm (Some (Reg x y z i)) s is = absurd (cc)
pair_from file a rd imm (Some (Fence x)) s is = absurd (cc)
pair_from file a rd imm (Some Ecall) s is = absurd (cc)
pair_from file a rd imm (Some Ebreak) s is = absurd (cc)

kind_of : (file : List ℕ) (a : ℕ) (o n : Option Instr) (s : Site) → call_at file a o n ≡ Some s → IsKind file a s
unfolding call_at
kind_of file a (Some (Jal rd imm)) n s is = jump file a rd imm n s is
kind_of file a (Some (Auipc rd imm)) n s is = pair_from file a rd imm n s is
kind_of file a None n s is = absurd (cc)
kind_of file a (Some (Lui x i)) n s is = absurd (cc)
kind_of file a (Some (Jalr x y i)) n s is = absurd (cc)
kind_of file a (Some (Branch x y z i)) n s is = absurd (cc)
kind_of file a (Some (Load x y z i)) n s is = absurd (cc)
kind_of file a (Some (Store x y z i)) n s is = absurd (cc)
kind_of file a (Some (OpImm x y z i)) n s is = absurd (cc)
kind_of file a (Some (Reg x y z i)) n s is = absurd (cc)
kind_of file a (Some (Fence x)) n s is = absurd (cc)
kind_of file a (Some Ecall) n s is = absurd (cc)
kind_of file a (Some Ebreak) n s is = absurd (cc)

kind : (file : List ℕ) (a : ℕ) (s : Site) → site_at file a ≡ Some s → IsKind file a s
unfolding site_at
kind file a s is = kind_of file a (code_at file a) (code_at file (a + 4)) s
    (kept file (call_at file a (code_at file a) (code_at file (a + 4))) s is)

-- a test of all numbers of stubs holds of each
of_all : (p : ℕ → Bool) (ks : List ℕ) (i : ℕ) → i < length ks → list_all p ks ≡ true → p (get_or ks i 0) ≡ true
of_all p [] i within all = absurd (omega arith)
of_all p (k ∷ ks) zero within all = (and_parts (p k) (list_all p ks) all).0
of_all p (k ∷ ks) (suc i) within all = of_all p ks i (omega arith) (and_parts (p k) (list_all p ks) all).1

number_at : (k : ℕ) → k < 32 → get_or stub_numbers k 0 ≡ k
number_at k few = eqb-true (get_or stub_numbers k 0) k
    (agree_below_at (λ j. get_or stub_numbers j 0 == j) (λ _. true) 32 k refl few)

-- from a near site that is no pair each stub is within reach
pub near_reaches : (file : List ℕ) (a : ℕ) (s : Site) (k : ℕ) → site_at file a ≡ Some s → s.near ≡ true
    → s.pair ≡ false → k < 32 → reaches a (stub_at (text_at file) k) ≡ true
near_reaches file a s k is near single few = elim (kind file a s is) [
  | inl pair ↦ absurd (let both : true ≡ false = sym pair ∙ single in cc)
  | inr by ↦
      let all : reaches_all_stubs file a ≡ true = sym by ∙ near in
      let here : reaches a (stub_at (text_at file) (get_or stub_numbers k 0)) ≡ true =
      of_all (λ j. reaches a (stub_at (text_at file) j)) stub_numbers k few all in
      rw (number_at k few) at here
]
