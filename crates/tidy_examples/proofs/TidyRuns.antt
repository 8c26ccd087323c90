-- Which runs are tidy: those of the programs that call one chosen site and come back from it, and not that of the
-- function that calls itself by a chosen site.
use Rattle.std.proofs.Common.{◌≡◌, ◌∙◌, ℕ, suc, ◌+◌, ◌==◌, ◌<◌, ◌&&◌, ◌||◌, ◌⊎◌, inl, inr, Bool, true, false, List, []}
use Rattle.std.proofs.Common.{◌∷◌, arith, refl, sym, subst, ap}
use Rattle.std.specs.Prelude.{Option, Some, None, if◌then◌else◌, is_some, not, zero}
use Rattle.std.proofs.lemmas.Bool.{and_parts, eqb-true}
use Rattle.std.proofs.lemmas.Bool.Decides.{nat_tests}
use Rattle.rv_isa.specs.declared.Instr.{Instr}
use Rattle.rv_isa.specs.declared.Instr.TheVariants.{Auipc, Jal, Jalr}
use Rattle.elf_spec.specs.Relocations.{relocs_of, has_reloc}
use Rattle.plan_core.specs.declared.types.PlanLine.{PlanLine}
use Rattle.site_spec.specs.declared.Site.{Site}
use Rattle.site_spec.specs.Sites.{site_at, kept_site, call_at, code_at, is_call_of_code}
use Rattle.sym_spec.specs.declared.StepNote.{StepNote}
use Rattle.run_laws.specs.Grants.{Run}
use Rattle.tidy_runs.specs.Tidy.{IsTidy, IsTidyStep, is_on, note_at, stack_at}
use Rattle.machine_examples.proofs.Files.{p3}
use Rattle.machine_examples.proofs.Setup.{plan_p3}
use Rattle.machine_examples.proofs.HeapFiles.{heap_file}
use Rattle.machine_examples.proofs.HeapSetup.{heap_plan}
use Rattle.machine_examples.proofs.HeapRuns.{heap_run_opened, nested_plan}
use Rattle.machine_examples.proofs.NestedFiles.{nested_file}
use Rattle.machine_examples.proofs.NewFiles.{sites_opened}

-- a site comes back to the address behind its one word or its two
abbrev IsBehind : ℕ → Site → Type 0
IsBehind a s = (s.back ≡ a + 4) ⊎ (s.back ≡ a + 8)

kept : (file : List ℕ) (o : Option Site) (s : Site) → kept_site file o ≡ Some s → o ≡ Some s
kept file None s is = absurd (cc)
kept file (Some t) s is = by (is_call_of_code file t) refl
  where
    by : (b : Bool) → is_call_of_code file t ≡ b → Some t ≡ Some s
    by true test = rw test at is
    by false test = absurd (let none : None ≡ Some s = rw test at is in cc)

given : (test : Bool) (t s : Site) → (if test then Some t else None) ≡ Some s → s ≡ t
given true t s is = cc
given false t s is = absurd (cc)

call_back : (file : List ℕ) (a : ℕ) (i n : Option Instr) (s : Site) → call_at file a i n ≡ Some s → IsBehind a s
unfolding call_at
call_back file a (Some (Jal rd imm)) n s is = inl (ap (λ (t : Site). t.back) (given _ _ s is))
call_back file a (Some (Auipc rd imm)) (Some (Jalr rd' rs1 low)) s is =
    inr (ap (λ (t : Site). t.back) (given _ _ s is))
call_back file a (Some (Auipc rd imm)) None s is = absurd (cc)
call_back file a (Some (Auipc rd imm)) (Some i) s is = absurd (cc)
call_back file a None n s is = absurd (cc)
call_back file a (Some i) n s is = absurd (cc)

comes_back : (file : List ℕ) (a : ℕ) (s : Site) → site_at file a ≡ Some s → IsBehind a s
unfolding site_at
comes_back file a s is =
    call_back file a (code_at file a) (code_at file (a + 4)) s
    (kept file (call_at file a (code_at file a) (code_at file (a + 4))) s is)

-- a step without a call and without a way back is tidy
quiet : (file : List ℕ) (lines : List PlanLine) (note : StepNote) (stack : List Site) → note.call ≡ None
    → note.back ≡ None → IsTidyStep file lines note stack
quiet file lines note stack no_call no_back = record {
  call = λ a is chosen. absurd (let none : None ≡ Some a = sym no_call ∙ is in cc);
  back = λ a b s is here same. absurd (let none : None ≡ Some a = sym no_back ∙ is in cc);
}

-- a call with an empty stack
first_call : (file : List ℕ) (lines : List PlanLine) (note : StepNote) (stack : List Site) → stack ≡ []
    → note.back ≡ None → IsTidyStep file lines note stack
first_call file lines note [] none no_back = record {
  call = λ a is chosen. refl;
  back = λ a b s is here same. absurd (let no : None ≡ Some a = sym no_back ∙ is in cc);
}
first_call file lines note (s ∷ ss) none no_back = absurd (cc)

-- the way back from the only site of a stack: another one that comes back there would stand four bytes before its
-- return address, or eight
only_back : (file : List ℕ) (lines : List PlanLine) (note : StepNote) (stack : List Site) (s : Site) (a : ℕ)
    → stack ≡ s ∷ [] → note.call ≡ None → note.back ≡ Some (a + 8)
    → ((b : ℕ) (t : Site) → (b ≡ a + 4) ⊎ (b ≡ a) → site_at file b ≡ Some t → t ≡ s)
    → IsTidyStep file lines note stack
only_back file lines note stack s a one no_call back only = record {
  call = λ c is chosen. absurd (let none : None ≡ Some c = sym no_call ∙ is in cc);
  back = λ c b t is here same. (
      let to : Some (a + 8) ≡ Some c = sym back ∙ is in
      let end : a + 8 ≡ c = cc in
      let it : t ≡ s = only b t (places c b t end same (comes_back file b t here)) here in
      ([], one ∙ ap (λ (x : Site). x ∷ []) (sym it)));
}
  where
    places : (c b : ℕ) (t : Site) → a + 8 ≡ c → t.back ≡ c → IsBehind b t → (b ≡ a + 4) ⊎ (b ≡ a)
    places c b t end same (inl four) = inl (let e : a + 8 ≡ b + 4 = end ∙ (sym same ∙ four) in omega (arith, e))
    places c b t end same (inr eight) = inr (let e : a + 8 ≡ b + 8 = end ∙ (sym same ∙ eight) in omega (arith, e))

-- one more turn that is tidy
one_more : (run : Run) (n : ℕ) → IsTidy run n
    → IsTidyStep run.file run.plan.sites (note_at run n) (stack_at run n) → IsTidy run (suc n)
one_more run n before here i low = by (i == n) refl
  where
    Tidy : ℕ → Type 0
    Tidy k = IsTidyStep run.file run.plan.sites (note_at run k) (stack_at run k)

    by : (t : Bool) → (i == n) ≡ t → Tidy i
    by true is = subst Tidy (sym (eqb-true i n is)) here
    by false is = before i (grind (arith, nat_tests))

-- what stands at a place that is computed
abbrev Found : Option Site → Site → Type 0
Found (Some s) t = t ≡ s
Found None t = ⊥

found : (file : List ℕ) (b a : ℕ) (t : Site) (o : Option Site) → b ≡ a → site_at file a ≡ o → site_at file b ≡ Some t
    → Found o t
found file b a t o same there is = by o there
  where
    at : site_at file a ≡ Some t
    at = subst (λ x. site_at file x ≡ Some t) same is

    by : (o : Option Site) → site_at file a ≡ o → Found o t
    by (Some s) there = let one : Some s ≡ Some t = sym there ∙ at in cc
    by None there = absurd (let none : None ≡ Some t = sym there ∙ at in cc)

-- a note without a call and without a way back
abbrev is_quiet : StepNote → Bool
is_quiet note = not (is_some note.call) && not (is_some note.back)

-- so many turns from one on have such notes
abbrev are_quiet : Run → (from count : ℕ) → Bool
are_quiet run from zero = true
are_quiet run from (suc n) = is_quiet (note_at run (from + n)) && are_quiet run from n

none_there : (o : Option ℕ) → not (is_some o) ≡ true → o ≡ None
none_there (Some n) test = absurd (cc)
none_there None test = refl

quiet_note : (run : Run) (n : ℕ) → is_quiet (note_at run n) ≡ true
    → IsTidyStep run.file run.plan.sites (note_at run n) (stack_at run n)
quiet_note run n test =
    let (no_call, no_back) = and_parts (not (is_some (note_at run n).call)) (not (is_some (note_at run n).back)) test in
    quiet run.file run.plan.sites (note_at run n) (stack_at run n) (none_there (note_at run n).call no_call)
    (none_there (note_at run n).back no_back)

quiet_turns : (run : Run) (from count : ℕ) → IsTidy run from → are_quiet run from count ≡ true
    → IsTidy run (from + count)
quiet_turns run from zero before test = subst (IsTidy run) (omega arith) before
quiet_turns run from (suc n) before test =
    let (last, others) = and_parts (is_quiet (note_at run (from + n))) (are_quiet run from n) test in
    let same : suc (from + n) ≡ from + suc n = omega arith in
    subst (IsTidy run) same
    (one_more run (from + n) (quiet_turns run from n before others) (quiet_note run (from + n) last))

no_turn : (run : Run) → IsTidy run 0
no_turn run i low = absurd (omega (arith, low))

-- the program that calls its one chosen site by a JAL in its first turn, and comes back in its ninth
abbrev jal_run : Run
jal_run = record { file = p3; plan = plan_p3; input = [] }

abbrev jal_site : Site
jal_site = record { addr = 0x10100; target = 0x10110; back = 0x10104; pair = false; near = true }

jal_here : site_at p3 0x10100 ≡ Some jal_site
unfolding sites_opened
jal_here = refl

jal_before : site_at p3 0x100FC ≡ None
unfolding sites_opened
jal_before = refl

jal_only : (b : ℕ) (t : Site) → (b ≡ 0x10100) ⊎ (b ≡ 0x100FC) → site_at p3 b ≡ Some t → t ≡ jal_site
jal_only b t (inl here) is = found p3 b 0x10100 t (Some jal_site) here jal_here is
jal_only b t (inr before) is = absurd (found p3 b 0x100FC t None before jal_before is)

jal_calls : IsTidyStep p3 plan_p3.sites (note_at jal_run 0) (stack_at jal_run 0)
unfolding heap_run_opened
jal_calls = first_call p3 plan_p3.sites (note_at jal_run 0) (stack_at jal_run 0) refl refl

jal_is_quiet : are_quiet jal_run 1 7 ≡ true
unfolding heap_run_opened
jal_is_quiet = refl

jal_comes_back : IsTidyStep p3 plan_p3.sites (note_at jal_run 8) (stack_at jal_run 8)
unfolding heap_run_opened
jal_comes_back =
    only_back p3 plan_p3.sites (note_at jal_run 8) (stack_at jal_run 8) jal_site 0x100FC refl refl refl jal_only

jal_ends_quiet : are_quiet jal_run 9 3 ≡ true
unfolding heap_run_opened
jal_ends_quiet = refl

pub jal_run_is_tidy : IsTidy jal_run 12
jal_run_is_tidy =
    quiet_turns jal_run 9 3
    (one_more jal_run 8 (quiet_turns jal_run 1 7 (one_more jal_run 0 (no_turn jal_run) jal_calls) jal_is_quiet)
    jal_comes_back) jal_ends_quiet

-- the program that calls malloc by its one chosen pair in its second turn, and comes back in the next
abbrev pair_run : Run
pair_run = record { file = heap_file; plan = heap_plan; input = [] }

abbrev pair_site : Site
pair_site = record { addr = 0x10104; target = 0x10118; back = 0x1010C; pair = true; near = true }

pair_here : site_at heap_file 0x10104 ≡ Some pair_site
unfolding sites_opened
pair_here = refl

pair_second : site_at heap_file 0x10108 ≡ None
unfolding sites_opened
pair_second = refl

pair_only : (b : ℕ) (t : Site) → (b ≡ 0x10108) ⊎ (b ≡ 0x10104) → site_at heap_file b ≡ Some t → t ≡ pair_site
pair_only b t (inl second) is = absurd (found heap_file b 0x10108 t None second pair_second is)
pair_only b t (inr here) is = found heap_file b 0x10104 t (Some pair_site) here pair_here is

pair_starts_quiet : are_quiet pair_run 0 1 ≡ true
unfolding heap_run_opened
pair_starts_quiet = refl

pair_calls : IsTidyStep heap_file heap_plan.sites (note_at pair_run 1) (stack_at pair_run 1)
unfolding heap_run_opened
pair_calls = first_call heap_file heap_plan.sites (note_at pair_run 1) (stack_at pair_run 1) refl refl

pair_comes_back : IsTidyStep heap_file heap_plan.sites (note_at pair_run 2) (stack_at pair_run 2)
unfolding heap_run_opened
pair_comes_back =
    only_back heap_file heap_plan.sites (note_at pair_run 2) (stack_at pair_run 2) pair_site 0x10104 refl refl refl
    pair_only

pair_ends_quiet : are_quiet pair_run 3 3 ≡ true
unfolding heap_run_opened
pair_ends_quiet = refl

pub pair_run_is_tidy : IsTidy pair_run 6
pair_run_is_tidy =
    quiet_turns pair_run 3 3
    (one_more pair_run 2
    (one_more pair_run 1 (quiet_turns pair_run 0 1 (no_turn pair_run) pair_starts_quiet) pair_calls) pair_comes_back)
    pair_ends_quiet

-- the function that calls itself by its chosen site: it is in the stack at the second such call
abbrev nested_run : Run
nested_run = record { file = nested_file; plan = nested_plan; input = [] }

nested_calls : (note_at nested_run 17).call ≡ Some 0x1012C
unfolding heap_run_opened
nested_calls = refl

nested_is_on : is_on (stack_at nested_run 17) 0x1012C ≡ true
unfolding heap_run_opened
nested_is_on = refl

pub nested_run_is_not_tidy : IsTidy nested_run 18 → ⊥
nested_run_is_not_tidy tidy =
    let off : is_on (stack_at nested_run 17) 0x1012C ≡ false =
    (tidy 17 (omega arith)).call 0x1012C nested_calls refl in
    let clash : true ≡ false = sym nested_is_on ∙ off in
    cc
