-- The contexts of a run have addresses of near sites of its file alone: the sites on its stack are the file's.
use Rattle.std.proofs.Common.{◌≡◌, ℕ, zero, suc, ◌+◌, inl, inr, ◌==◌, ◌&&◌, ◌||◌, Bool, true, false, not, List, [], ◌∷◌}
use Rattle.std.proofs.Common.{◌++◌, Option, Some, None, refl, sym, ap, subst, arith}
use Rattle.std.specs.Prelude.{All, filter, map, if◌then◌else◌}
use Rattle.std.specs.List.{list_any}
use Rattle.std.proofs.lemmas.Bool.{eqb-true, or_left, or_right, or_cases, both_ways}
use Rattle.std.proofs.lemmas.List.Elements.{All-cons, All-head, All-push, All-tail}
use Rattle.rv_isa.specs.declared.Instr.{Instr}
use Rattle.rv_isa.specs.declared.Instr.TheVariants.{Auipc, Jal, Jalr}
use Rattle.elf_spec.specs.Relocations.{relocs_of, has_reloc}
use Rattle.plan_core.specs.declared.types.Plan.{Plan}
use Rattle.plan_core.specs.declared.profiles.Event.{Event}
use Rattle.selectors.specs.Sets.{is_in}
use Rattle.site_spec.specs.declared.Site.{Site}
use Rattle.site_spec.specs.Sites.{call_at, code_at, is_call_of_code, kept_site, site_at}
use Rattle.sym_spec.specs.declared.StepNote.{StepNote}
use Rattle.sym_spec.specs.SymMachine.{SymMachine}
use Rattle.sym_spec.specs.SymNotes.{note}
use Rattle.sym_spec.specs.Contexts.{comes_back_to, cut, pushed, left_by, called, stack_after, last_of_equal, is_near}
use Rattle.sym_spec.specs.Contexts.{addr_of, context_of}
use Rattle.heap_trace.specs.Events.{Traced, Granted}
use Rattle.heap_trace.specs.Traces.{Leads, LeadsOn, nothing_traced}
use Rattle.plan_making.specs.Plans.{AreNearSites}

-- ---- a site stands at its address

chosen : (test : Bool) (t s : Site) → (if test then Some t else None) ≡ Some s → t ≡ s
chosen true t s is = cc
chosen false t s is = absurd (cc)

behind_auipc : (file : List ℕ) (a rd imm : ℕ) (next : Option Instr) (s : Site)
    → call_at file a (Some (Auipc rd imm)) next ≡ Some s → s.addr ≡ a
unfolding call_at
behind_auipc file a rd imm (Some (Jalr rd' rs1 low)) s is =
    sym (ap addr_of (chosen (((rd == 1) && ((rd' == 1) && (rs1 == 1)))
    && (has_reloc (relocs_of file) 18 a || has_reloc (relocs_of file) 19 a)) _ s is))
behind_auipc file a rd imm _ s is = absurd (cc)

call_addr : (file : List ℕ) (a : ℕ) (here next : Option Instr) (s : Site) → call_at file a here next ≡ Some s
    → s.addr ≡ a
unfolding call_at
call_addr file a (Some (Jal rd imm)) next s is =
    sym (ap addr_of (chosen ((rd == 1) && has_reloc (relocs_of file) 17 a) _ s is))
call_addr file a (Some (Auipc rd imm)) next s is = behind_auipc file a rd imm next s is
call_addr file a _ next s is = absurd (cc)

kept_is : (file : List ℕ) (o : Option Site) (s : Site) → kept_site file o ≡ Some s → o ≡ Some s
kept_is file None s is = absurd (cc)
kept_is file (Some t) s is = ap (λ (u : Site). Some u) (chosen (is_call_of_code file t) t s is)

site_addr : (file : List ℕ) (a : ℕ) (s : Site) → site_at file a ≡ Some s → s.addr ≡ a
unfolding site_at
site_addr file a s is = call_addr file a (code_at file a) (code_at file (a + 4)) s
    (kept_is file (call_at file a (code_at file a) (code_at file (a + 4))) s is)

-- ---- the sites on the stack are the file's

module _ (file : List ℕ) where
  abbrev IsOfFile : Site → Type 0
  IsOfFile s = site_at file s.addr ≡ Some s

  -- an address is that of a near site
  abbrev IsNearSite : ℕ → Type 0
  IsNearSite a = (site : Site) × (site_at file a ≡ Some site) × (site.near ≡ true)

  none : All IsOfFile []
  none i d within = absurd (omega arith)

  called_of_file : (call : Option ℕ) (s : Site) → called file call ≡ Some s → IsOfFile s
  called_of_file None s is = absurd (cc)
  called_of_file (Some a) s is = subst (λ b. site_at file b ≡ Some s) (sym (site_addr file a s is)) is

  pushed_of_file : (called_site : Option Site) → ((s : Site) → called_site ≡ Some s → IsOfFile s)
      → (stack : List Site) → All IsOfFile stack → All IsOfFile (pushed called_site stack)
  pushed_of_file None of stack all = all
  pushed_of_file (Some s) of stack all = All-push IsOfFile stack s all (of s refl)

  cut_of_file : (a : ℕ) (stack : List Site) → All IsOfFile stack → All IsOfFile (cut a stack)
  cut_of_file a [] all = all
  cut_of_file a (s ∷ stack) all =
      by (comes_back_to a s && not (list_any (comes_back_to a) stack))
      (cut_of_file a stack (All-tail IsOfFile s stack all))
    where
      by : (test : Bool) → All IsOfFile (cut a stack) → All IsOfFile (if test then [] else s ∷ cut a stack)
      by true rest = none
      by false rest = All-cons IsOfFile s (cut a stack) (All-head IsOfFile s stack all) rest

  left_of_file : (back : Option ℕ) (stack : List Site) → All IsOfFile stack → All IsOfFile (left_by back stack)
  left_of_file None stack all = all
  left_of_file (Some a) stack all = cut_of_file a stack all

  stack_of_file : (v : StepNote) (stack : List Site) → All IsOfFile stack → All IsOfFile (stack_after file v stack)
  stack_of_file v stack all = left_of_file v.back (pushed (called file v.call) stack)
      (pushed_of_file (called file v.call) (called_of_file v.call) stack all)

  -- ---- so its context has addresses of near sites alone

  in_last : (ns : List ℕ) (a : ℕ) → is_in (last_of_equal ns) a ≡ true → is_in ns a ≡ true
  in_last [] a there = there
  in_last (n ∷ ns) a there = by (list_any (λ m. m == n) ns) (in_last ns a) there
    where
      by : (test : Bool) → (is_in (last_of_equal ns) a ≡ true → is_in ns a ≡ true)
          → is_in (if test then last_of_equal ns else n ∷ last_of_equal ns) a ≡ true → is_in (n ∷ ns) a ≡ true
      by true rest there = or_right (n == a) (is_in ns a) (rest there)
      by false rest there = elim (or_cases (n == a) (is_in (last_of_equal ns) a) there) [
        | inl here ↦ or_left (n == a) (is_in ns a) here
        | inr later ↦ or_right (n == a) (is_in ns a) (rest later)
      ]

  near_in : (stack : List Site) → All IsOfFile stack → (a : ℕ)
      → is_in (map addr_of (filter is_near stack)) a ≡ true → IsNearSite a
  near_in [] all a there = absurd (both_ways false refl there)
  near_in (s ∷ stack) all a there = by s.near refl (near_in stack (All-tail IsOfFile s stack all) a) there
    where
      by : (near : Bool) → s.near ≡ near → (is_in (map addr_of (filter is_near stack)) a ≡ true → IsNearSite a)
          → is_in (map addr_of (if near then s ∷ filter is_near stack else filter is_near stack)) a ≡ true
          → IsNearSite a
      by true is rest there = elim (or_cases (s.addr == a) (is_in (map addr_of (filter is_near stack)) a) there) [
        | inl here ↦ (
          s,
          subst (λ b. site_at file b ≡ Some s) (eqb-true s.addr a here)
              (All-head IsOfFile s stack all),
          is,
        )
        | inr later ↦ rest later
      ]
      by false is rest there = rest there

  near_context : (stack : List Site) → All IsOfFile stack → (a : ℕ) → is_in (context_of stack) a ≡ true → IsNearSite a
  near_context stack all a there = near_in stack all a (in_last (map addr_of (filter is_near stack)) a there)

  -- ---- and so have all contexts

  near_more : (contexts : List (List ℕ)) (context : List ℕ) → AreNearSites file contexts
      → ((a : ℕ) → is_in context a ≡ true → IsNearSite a) → AreNearSites file (contexts ++ context ∷ [])
  near_more [] context near new zero a there = new a there
  near_more [] context near new (suc d) a there = absurd (both_ways false refl there)
  near_more (c ∷ contexts) context near new zero a there = near zero a there
  near_more (c ∷ contexts) context near new (suc d) a there =
      near_more contexts context (λ e b within. near (suc e) b within) new d a there

  near_granted : (grant : Option ℕ) (context : List ℕ) (before after : List (List ℕ)) (event : Option Event)
      → Granted grant context before after event → AreNearSites file before
      → ((a : ℕ) → is_in context a ≡ true → IsNearSite a) → AreNearSites file after
  near_granted None context before after event granted near new =
      subst (λ (cs : List (List ℕ)). AreNearSites file cs) (sym granted.0) near
  near_granted (Some block) context before after event (number, numbered, is) near new = elim numbered.grows [
    | inl same ↦ subst (λ (cs : List (List ℕ)). AreNearSites file cs) (sym same) near
    | inr more ↦ subst (λ (cs : List (List ℕ)). AreNearSites file cs) (sym more.0) (near_more before context near new)
  ]

  -- what is traced of a run
  record IsOfSites (t : Traced) : Type 0 where
    stack : All IsOfFile t.stack
    contexts : AreNearSites file t.contexts

  nothing_of_sites : IsOfSites nothing_traced
  nothing_of_sites = record { stack = none; contexts = λ d a there. absurd (both_ways false refl there) }

  leads_of_sites : (v : StepNote) (before after : Traced) (earlier events : List Event)
      → LeadsOn file v before earlier after events → IsOfSites before → IsOfSites after
  leads_of_sites v before after earlier events leads of = record {
    stack = subst (λ (sites : List Site). All IsOfFile sites) (sym leads.takes.stack)
        (stack_of_file v before.stack of.stack);
    contexts = near_granted v.grant (context_of before.stack) before.contexts after.contexts leads.takes.grant
        leads.takes.granted of.contexts (near_context before.stack of.stack);
  }

  of_sites : (plan : Plan) (n : ℕ) (m : SymMachine) (t : Traced) (events : List Event) → Leads file plan n m t events
      → IsOfSites t
  of_sites plan zero m t events (_, is, _) = subst IsOfSites (sym is) nothing_of_sites
  of_sites plan (suc n) m t events (last, input, before, earlier, leads, machine, on) =
      leads_of_sites (note file plan last) before t earlier events on
      (of_sites plan n last before earlier leads)

  pub near_sites : (plan : Plan) (n : ℕ) (m : SymMachine) (t : Traced) (events : List Event)
      → Leads file plan n m t events → AreNearSites file t.contexts
  near_sites plan n m t events leads = (of_sites plan n m t events leads).contexts
