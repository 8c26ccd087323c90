-- What a site is.
use Rattle.std.proofs.Common.{◌≡◌, ℕ, ◌+◌, ◌*◌, ◌/◌, ◌==◌, ◌⊎◌, ◌&&◌, ◌||◌, Bool, true, false, List, refl, sym, ap, ◌∙◌}
use Rattle.std.proofs.Common.{inl, inr, arith, Option, Some, None, is_some, subst, if◌then◌else◌}
use Rattle.std.specs.Prelude.{option_and_then}
use Rattle.std.proofs.lemmas.Bool.Decides.{nat_tests}
use Rattle.rv_isa.specs.declared.Instr.{Instr}
use Rattle.rv_isa.specs.declared.Instr.TheVariants.{Lui, Auipc, Jal, Jalr, Branch, Load, Store, OpImm, Reg, Fence}
use Rattle.rv_isa.specs.declared.Instr.TheVariants.{Ecall, Ebreak}
use Rattle.rv_isa.specs.Table.{decoded}
use Rattle.elf_spec.specs.Code.{code_word}
use Rattle.elf_spec.specs.Relocations.{has_reloc, relocs_of}
use Rattle.site_spec.specs.declared.Site.{Site}
use Rattle.rv_isa.specs.Addresses.{plus}
use Rattle.site_spec.specs.Sites.{call_at, code_at, is_call_of_code, kept_site, reaches_all_stubs, site_at}
use Rattle.exec_image.specs.Accepted.{IsSiteOfCode}

abbrev pub IsJal : List ℕ → ℕ → Site → Type 0
IsJal file a s = (imm : ℕ) × (code_at file a ≡ Some (Jal 1 imm)) × (s.back ≡ a + 4) × (s.pair ≡ false)

abbrev pub IsPair : List ℕ → ℕ → Site → Type 0
IsPair file a s = (low : ℕ) × (code_at file (a + 4) ≡ Some (Jalr 1 1 low)) × (s.back ≡ a + 8) × (s.pair ≡ true)

pub record IsShape (file : List ℕ) (a : ℕ) (s : Site) : Type 0 where
  pub addr : s.addr ≡ a
  pub reloc : (has_reloc (relocs_of file) 17 a || (has_reloc (relocs_of file) 18 a || has_reloc (relocs_of file) 19 a))
      ≡ true
  pub kind : IsJal file a s ⊎ IsPair file a s

kept : (file : List ℕ) (o : Option Site) (s : Site) → kept_site file o ≡ Some s → o ≡ Some s
kept file None s h = absurd (cc)
kept file (Some t) s h = decide (is_call_of_code file t) refl
  where
    decide : (b : Bool) → is_call_of_code file t ≡ b → Some t ≡ Some s
    decide true e = rw e at h
    decide false e = absurd (let q : None ≡ Some s = rw e at h in cc)

jal : (file : List ℕ) (a rd imm : ℕ) (o n : Option Instr) (s : Site) → code_at file a ≡ o → o ≡ Some (Jal rd imm)
    → call_at file a (Some (Jal rd imm)) n ≡ Some s → IsShape file a s
unfolding call_at
jal file a rd imm o n s c e h = decide (rd == 1) (has_reloc (relocs_of file) 17 a) refl refl
  where
    decide : (b r : Bool) → (rd == 1) ≡ b → has_reloc (relocs_of file) 17 a ≡ r → IsShape file a s
    decide true true f g =
        let q : Some (record {
          addr = a;
          target = plus a imm;
          back = a + 4;
          pair = false;
          near = reaches_all_stubs file a;
        }) ≡ Some s = rw (f, g) at h in
        let t : record { addr = a; target = plus a imm; back = a + 4; pair = false; near = reaches_all_stubs file a }
        ≡ s = cc in
        let i : rd ≡ 1 = grind (arith, nat_tests) in
        record {
          addr = ap (λ s. s.addr) (sym t);
          reloc = rw g refl;
          kind = inl (imm, c ∙ e ∙ ap (λ r. Some (Jal r imm)) i, ap (λ s. s.back) (sym t), ap (λ s. s.pair) (sym t));
        }
    decide true false f g = absurd (let q : None ≡ Some s = rw (f, g) at h in cc)
    decide false r f g = absurd (let q : None ≡ Some s = rw f at h in cc)

pair : (file : List ℕ) (a rd imm rd' rs1 low : ℕ) (s : Site) → code_at file (a + 4) ≡ Some (Jalr rd' rs1 low)
    → call_at file a (Some (Auipc rd imm)) (Some (Jalr rd' rs1 low)) ≡ Some s → IsShape file a s
unfolding call_at
pair file a rd imm rd' rs1 low s c h =
    decide ((rd == 1) && ((rd' == 1) && (rs1 == 1)))
    (has_reloc (relocs_of file) 18 a || has_reloc (relocs_of file) 19 a) (has_reloc (relocs_of file) 17 a) refl refl
    refl
  where
    made : Site
    made = record { addr = a; target = plus a (imm + low) / 2 * 2; back = a + 8; pair = true; near = true }

    ones : (x y z : ℕ) → ((x == 1) && ((y == 1) && (z == 1))) ≡ true → (y ≡ 1) × (z ≡ 1)
    ones x y z h = (grind (arith, nat_tests), grind (arith, nat_tests))

    some_of : (b c : Bool) → c ≡ true → (b || c) ≡ true
    some_of true c h = refl
    some_of false c h = h

    decide : (b r j : Bool) → ((rd == 1) && ((rd' == 1) && (rs1 == 1))) ≡ b
        → (has_reloc (relocs_of file) 18 a || has_reloc (relocs_of file) 19 a) ≡ r
        → has_reloc (relocs_of file) 17 a ≡ j → IsShape file a s
    decide true true j f g k =
        let q : Some made ≡ Some s = rw (f, g) at h in
        let t : made ≡ s = cc in
        let (y, z) = ones rd rd' rs1 f in
        record {
          addr = ap (λ s. s.addr) (sym t);
          reloc = some_of (has_reloc (relocs_of file) 17 a)
              (has_reloc (relocs_of file) 18 a || has_reloc (relocs_of file) 19 a) g;
          kind = inr (low, c ∙ rw (y, z) refl, ap (λ s. s.back) (sym t), ap (λ s. s.pair) (sym t));
        }
    decide true false j f g k = absurd (let q : None ≡ Some s = rw (f, g) at h in cc)
    decide false r j f g k = absurd (let q : None ≡ Some s = rw f at h in cc)

behind_auipc : (file : List ℕ) (a rd imm : ℕ) (n : Option Instr) (s : Site) → code_at file (a + 4) ≡ n
    → call_at file a (Some (Auipc rd imm)) n ≡ Some s
    → IsShape file a s
unfolding call_at
behind_auipc file a rd imm (Some (Jalr rd' rs1 low)) s c h = pair file a rd imm rd' rs1 low s c h
behind_auipc file a rd imm None s c h = absurd (cc)
behind_auipc file a rd imm (Some (Lui x i)) s c h = absurd (cc)
behind_auipc file a rd imm (Some (Auipc x i)) s c h = absurd (cc)
behind_auipc file a rd imm (Some (Jal x i)) s c h = absurd (cc)
behind_auipc file a rd imm (Some (Branch x y z i)) s c h = absurd (cc)
behind_auipc file a rd imm (Some (Load x y z i)) s c h = absurd (cc)
behind_auipc file a rd imm (Some (Store x y z i)) s c h = absurd (cc)
behind_auipc file a rd imm (Some (OpImm x y z i)) s c h = absurd (cc)
behind_auipc file a rd imm (Some (Reg x y z i)) s c h = absurd (cc)
behind_auipc file a rd imm (Some (Fence x)) s c h = absurd (cc)
behind_auipc file a rd imm (Some Ecall) s c h = absurd (cc)
behind_auipc file a rd imm (Some Ebreak) s c h = absurd (cc)

call : (file : List ℕ) (a : ℕ) (o n : Option Instr) (s : Site) → code_at file a ≡ o → code_at file (a + 4) ≡ n
    → call_at file a o n ≡ Some s → IsShape file a s
unfolding call_at
call file a (Some (Jal rd imm)) n s c d h = jal file a rd imm (Some (Jal rd imm)) n s c refl h
call file a (Some (Auipc rd imm)) n s c d h = behind_auipc file a rd imm n s d h
call file a None n s c d h = absurd (cc)
call file a (Some (Lui x i)) n s c d h = absurd (cc)
call file a (Some (Jalr x y i)) n s c d h = absurd (cc)
call file a (Some (Branch x y z i)) n s c d h = absurd (cc)
call file a (Some (Load x y z i)) n s c d h = absurd (cc)
call file a (Some (Store x y z i)) n s c d h = absurd (cc)
call file a (Some (OpImm x y z i)) n s c d h = absurd (cc)
call file a (Some (Reg x y z i)) n s c d h = absurd (cc)
call file a (Some (Fence x)) n s c d h = absurd (cc)
call file a (Some Ecall) n s c d h = absurd (cc)
call file a (Some Ebreak) n s c d h = absurd (cc)

pub shape : (file : List ℕ) (a : ℕ) (s : Site) → site_at file a ≡ Some s → IsShape file a s
unfolding site_at
shape file a s h = call file a (code_at file a) (code_at file (a + 4)) s refl refl
    (kept file (call_at file a (code_at file a) (code_at file (a + 4))) s h)

same_place : (file : List ℕ) (a b : ℕ) (s t : Site) → IsJal file a s → IsPair file b t → s.back ≡ t.back → ⊥
same_place file a b s t (imm, c, e, u) (low, d, f, v) h =
    let q : a + 4 ≡ b + 8 = sym e ∙ h ∙ f in
    let p : b + 4 ≡ a = omega arith in
    let g : code_at file a ≡ Some (Jalr 1 1 low) = rw p at d in
    let r : Some (Jal 1 imm) ≡ Some (Jalr 1 1 low) = sym c ∙ g in
    cc

pub one_back : (file : List ℕ) (a b : ℕ) (s t : Site) → site_at file a ≡ Some s → site_at file b ≡ Some t
    → s.back ≡ t.back → s ≡ t
one_back file a b s t h k e = same (place (shape file a s h).kind (shape file b t k).kind)
  where
    same : a ≡ b → s ≡ t
    same p = let q : Some s ≡ Some t = sym h ∙ ap (site_at file) p ∙ k in cc

    place : IsJal file a s ⊎ IsPair file a s → IsJal file b t ⊎ IsPair file b t → a ≡ b
    place (inl (imm, c, x, u)) (inl (imm', d, y, v)) = let q : a + 4 ≡ b + 4 = sym x ∙ e ∙ y in omega arith
    place (inr (low, c, x, u)) (inr (low', d, y, v)) = let q : a + 8 ≡ b + 8 = sym x ∙ e ∙ y in omega arith
    place (inl i) (inr j) = absurd (same_place file a b s t i j e)
    place (inr i) (inl j) = absurd (same_place file b a t s j i (sym e))

-- a site that is kept calls a code word
calls_code : (file : List ℕ) (o : Option Site) (s : Site) → kept_site file o ≡ Some s
    → is_call_of_code file s ≡ true
calls_code file None s h = absurd (cc)
calls_code file (Some t) s h = decide (is_call_of_code file t) refl h
  where
    decide : (b : Bool) → is_call_of_code file t ≡ b → (if b then Some t else None) ≡ Some s
        → is_call_of_code file s ≡ true
    decide true e q = let same : t ≡ s = cc in subst (λ x. is_call_of_code file x ≡ true) same e
    decide false e q = absurd (cc)

first_true : (b c : Bool) → (b && c) ≡ true → b ≡ true
first_true true c h = refl
first_true false c h = h

target_code : (file : List ℕ) (a : ℕ) (s : Site) → site_at file a ≡ Some s → is_some (code_word file s.target) ≡ true
unfolding site_at
target_code file a s h =
    first_true (is_some (code_word file s.target)) _
    (calls_code file (call_at file a (code_at file a) (code_at file (a + 4))) s h)

-- where an instruction is read there is a word
word_there : (o : Option ℕ) → is_some (option_and_then decoded o) ≡ true → is_some o ≡ true
word_there (Some w) h = refl
word_there None h = h

instr_there : (file : List ℕ) (a : ℕ) (o n : Option Instr) (s : Site) → call_at file a o n ≡ Some s
    → is_some o ≡ true
unfolding call_at
instr_there file a (Some i) n s h = refl
instr_there file a None n s h = absurd (cc)

own_code : (file : List ℕ) (a : ℕ) (s : Site) → site_at file a ≡ Some s → is_some (code_word file a) ≡ true
unfolding site_at
own_code file a s h =
    word_there (code_word file a) (instr_there file a (code_at file a) (code_at file (a + 4)) s
    (kept file (call_at file a (code_at file a) (code_at file (a + 4))) s h))

pub site_of_code : (file : List ℕ) (a : ℕ) (s : Site) → site_at file a ≡ Some s → IsSiteOfCode file a s
site_of_code file a s h = record {
  addr = (shape file a s h).addr;
  code = own_code file a s h;
  target = target_code file a s h;
  back = behind (shape file a s h).kind;
}
  where
    behind : IsJal file a s ⊎ IsPair file a s → (s.back ≡ a + 4) ⊎ (s.back ≡ a + 8)
    behind (inl (imm, c, e, single)) = inl e
    behind (inr (low, c, e, double)) = inr e
