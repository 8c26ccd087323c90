-- The instruction at a site, and what stands at an address.
use Rattle.std.proofs.Common.{◌≡◌, ℕ, ◌+◌, ◌*◌, ◌/◌, ◌==◌, ◌&&◌, ◌||◌, Bool, true, false, List, [], ◌∷◌, refl, sym, ap}
use Rattle.std.proofs.Common.{◌∙◌, subst, Option, Some, None}
use Rattle.std.specs.Prelude.{All, IsSome, if◌then◌else◌, is_some}
use Rattle.std.proofs.lemmas.Bool.{and_parts, both_ways, eqb-true}
use Rattle.std.proofs.lemmas.List.Elements.{All-head, All-tail}
use Rattle.rv_isa.specs.declared.Instr.{Instr}
use Rattle.rv_isa.specs.declared.Instr.TheVariants.{Auipc, Jal, Jalr}
use Rattle.rv_isa.specs.Addresses.{plus}
use Rattle.elf_spec.specs.declared.HeapName.{HeapName}
use Rattle.elf_spec.specs.Code.{code_word}
use Rattle.elf_spec.specs.Relocations.{has_reloc, relocs_of}
use Rattle.plan_core.specs.declared.types.PlanLine.{PlanLine}
use Rattle.site_spec.specs.declared.Site.{Site}
use Rattle.site_spec.specs.Sites.{call_at, code_at, is_call_of_code, kept_site, reaches_all_stubs, site_at}
use Rattle.sym_spec.specs.SymMachine.{line_at}
use Rattle.sym_spec.specs.HeapActions.{function_at}
use Rattle.sym_spec.specs.SymTurns.{Here, Nothing, Heap, Pair, Code, here, here_with, is_second}

-- the instruction at a site: a JAL that links ra, or the first of a pair
abbrev pub IsCall : Instr → Site → Type 0
IsCall (Jal rd imm) s = (rd ≡ 1) × (s.pair ≡ false)
IsCall (Auipc rd imm) s = s.pair ≡ true
IsCall i s = ⊥

abbrev IsCallAt : Option Instr → Site → Type 0
IsCallAt (Some i) s = IsCall i s
IsCallAt None s = ⊥

kept : (file : List ℕ) (o : Option Site) (s : Site) → kept_site file o ≡ Some s → o ≡ Some s
kept file None s is = absurd (cc)
kept file (Some t) s is = by (is_call_of_code file t) refl
  where
    by : (b : Bool) → is_call_of_code file t ≡ b → Some t ≡ Some s
    by true test = rw test at is
    by false test = absurd (let none : None ≡ Some s = rw test at is in cc)

jump : (file : List ℕ) (a rd imm : ℕ) (n : Option Instr) (s : Site) → call_at file a (Some (Jal rd imm)) n ≡ Some s
    → IsCall (Jal rd imm) s × (s.addr ≡ a)
unfolding call_at
jump file a rd imm n s is = by ((rd == 1) && has_reloc (relocs_of file) 17 a) refl
  where
    made : Site
    made = record { addr = a; target = plus a imm; back = a + 4; pair = false; near = reaches_all_stubs file a }

    by : (b : Bool) → ((rd == 1) && has_reloc (relocs_of file) 17 a) ≡ b → IsCall (Jal rd imm) s × (s.addr ≡ a)
    by true test =
        let some : Some made ≡ Some s = rw test at is in
        let same : s ≡ made = cc in (
          (
            eqb-true rd 1 (and_parts (rd == 1) (has_reloc (relocs_of file) 17 a) test).0,
            ap (λ (t : Site). t.pair) same,
          ),
          ap (λ (t : Site). t.addr) same,
        )
    by false test = absurd (let none : None ≡ Some s = rw test at is in cc)

pair : (file : List ℕ) (a rd imm rd' rs1 low : ℕ) (s : Site)
    → call_at file a (Some (Auipc rd imm)) (Some (Jalr rd' rs1 low)) ≡ Some s → (s.pair ≡ true) × (s.addr ≡ a)
unfolding call_at
pair file a rd imm rd' rs1 low s is =
    by (((rd == 1) && ((rd' == 1) && (rs1 == 1)))
    && (has_reloc (relocs_of file) 18 a || has_reloc (relocs_of file) 19 a)) refl
  where
    made : Site
    made = record { addr = a; target = plus a (imm + low) / 2 * 2; back = a + 8; pair = true; near = true }

    by : (b : Bool) → (((rd == 1) && ((rd' == 1) && (rs1 == 1)))
        && (has_reloc (relocs_of file) 18 a || has_reloc (relocs_of file) 19 a)) ≡ b
        → (s.pair ≡ true) × (s.addr ≡ a)
    by true test =
        let some : Some made ≡ Some s = rw test at is in
        let same : s ≡ made = cc in
        (ap (λ (t : Site). t.pair) same, ap (λ (t : Site). t.addr) same)
    by false test = absurd (let none : None ≡ Some s = rw test at is in cc)

pair_from : (file : List ℕ) (a rd imm : ℕ) (n : Option Instr) (s : Site)
    → call_at file a (Some (Auipc rd imm)) n ≡ Some s → (s.pair ≡ true) × (s.addr ≡ a)
unfolding call_at
pair_from file a rd imm (Some (Jalr rd' rs1 low)) s is = pair file a rd imm rd' rs1 low s is
pair_from file a rd imm None s is = absurd (cc)
pair_from file a rd imm (Some i) s is = absurd (cc)

call_of : (file : List ℕ) (a : ℕ) (o n : Option Instr) (s : Site) → call_at file a o n ≡ Some s
    → IsCallAt o s × (s.addr ≡ a)
unfolding call_at
call_of file a (Some (Jal rd imm)) n s is = jump file a rd imm n s is
call_of file a (Some (Auipc rd imm)) n s is = pair_from file a rd imm n s is
call_of file a None n s is = absurd (cc)
call_of file a (Some i) n s is = absurd (cc)

pub site_is : (file : List ℕ) (a : ℕ) (s : Site) → site_at file a ≡ Some s
    → IsCallAt (code_at file a) s × (s.addr ≡ a)
unfolding site_at
site_is file a s is = call_of file a (code_at file a) (code_at file (a + 4)) s
    (kept file (call_at file a (code_at file a) (code_at file (a + 4))) s is)

pub call_is : (file : List ℕ) (a : ℕ) (s : Site) (i : Instr) → site_at file a ≡ Some s → code_at file a ≡ Some i
    → IsCall i s
call_is file a s i is code = subst (λ o. IsCallAt o s) code (site_is file a s is).0

-- an address without a site is that of no line, where each line names a site
pub no_line : (file : List ℕ) (lines : List PlanLine) (a : ℕ) → All (λ line. IsSome (site_at file line.addr)) lines
    → site_at file a ≡ None → line_at lines a ≡ None
no_line file [] a all none = refl
no_line file (line ∷ lines) a all none =
    by (line.addr == a) refl
    (no_line file lines a (All-tail (λ l. IsSome (site_at file l.addr)) line lines all) none)
  where
    head : IsSome (site_at file line.addr)
    head = All-head (λ l. IsSome (site_at file l.addr)) line lines all

    by : (t : Bool) → (line.addr == a) ≡ t → line_at lines a ≡ None
        → (if t then Some line else line_at lines a) ≡ None
    by true same rest =
        let here : site_at file line.addr ≡ None = ap (site_at file) (eqb-true line.addr a same) ∙ none in
        absurd (both_ways (is_some (site_at file line.addr)) (ap is_some here) head)
    by false other rest = rest

-- what stands at an address where an instruction does, or a pair
abbrev pub IsHere : List ℕ → ℕ → Here → Type 0
IsHere file a Nothing = Unit {0}
IsHere file a (Heap name) = Unit {0}
IsHere file a (Pair s) = site_at file a ≡ Some s
IsHere file a (Code w) = (code_word file a ≡ Some w) × ((s : Site) → site_at file a ≡ Some s → s.pair ≡ false)

with_is : (file : List ℕ) (a : ℕ) (w : Option ℕ) (name : Option HeapName) (s : Option Site) → code_word file a ≡ w
    → site_at file a ≡ s → IsHere file a (here_with w name s)
with_is file a (Some w) (Some name) s code site = tt
with_is file a (Some w) None (Some s) code site = by s.pair refl
  where
    by : (t : Bool) → s.pair ≡ t → IsHere file a (if t then Pair s else Code w)
    by true both = site
    by false single = (
      code,
      λ x is. (let same : Some s ≡ Some x = sym site ∙ is in
          let one : s ≡ x = cc in ap (λ (y : Site). y.pair) (sym one) ∙ single),
    )
with_is file a (Some w) None None code site = (code, λ x is. absurd (let no : None ≡ Some x = sym site ∙ is in cc))
with_is file a None name s code site = tt

pub here_is : (file : List ℕ) (a : ℕ) → IsHere file a (here file a)
unfolding here
here_is file a = by (is_second file a)
  where
    by : (t : Bool)
        → IsHere file a (if t then Nothing else here_with (code_word file a) (function_at file a) (site_at file a))
    by true = tt
    by false = with_is file a (code_word file a) (function_at file a) (site_at file a) refl refl
