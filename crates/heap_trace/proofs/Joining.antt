-- The stack of a trace is that of the run's turns, and its contexts are those of the run's grants.
use Rattle.std.proofs.Common.{◌≡◌, ◌∙◌, ◌⊎◌, inl, inr, ◌+◌, ◌<◌, ◌==◌, ℕ, zero, suc, Bool, true, false, List, []}
use Rattle.std.proofs.Common.{◌∷◌, ◌++◌, Option, Some, None, length, refl, sym, ap, subst, arith}
use Rattle.std.proofs.lemmas.Bool.{eqb-true}
use Rattle.std.proofs.lemmas.Bool.Decides.{nat_tests}
use Rattle.std.specs.Prelude.{filter_map, option_map, slice_get}
use Rattle.plan_core.specs.declared.types.Area.{Area}
use Rattle.plan_core.specs.declared.profiles.Event.{Event}
use Rattle.plan_core.specs.declared.profiles.Event.TheVariants.{Grant, Access, Release}
use Rattle.plan_core.specs.declared.profiles.Profile.{Profile}
use Rattle.sym_spec.specs.declared.BlockAccess.{BlockAccess}
use Rattle.sym_spec.specs.declared.StepNote.{StepNote}
use Rattle.sym_spec.specs.Contexts.{context_of, stack_after}
use Rattle.run_laws.specs.Grants.{Run, Grants}
use Rattle.tidy_runs.specs.Tidy.{context_at, note_at, stack_at}
use Rattle.heap_trace.specs.Events.{Traced, IsNumbered, Granted, release_of, access_of}
use Rattle.heap_trace.specs.Profiles.{IsProfileOf, plan_of_area}
use Rattle.heap_trace.specs.Traces.{events_in, LeadsOn, Traces}
use Rattle.heap_trace.specs.GrantContexts.{AreContextsOf, IsGrantedIn, IsNamedIn, NameContexts}

pub stack_is : (run : Run) (n : ℕ) (t : Traced) (events : List Event)
    → Traces run.file run.plan run.input n t events → t.stack ≡ stack_at run n
stack_is run zero t events h = ap (λ (t : Traced). t.stack) h.0
stack_is run (suc n) t events (before, earlier, traces, led) =
    led.takes.stack ∙ ap (stack_after run.file (note_at run n)) (stack_is run n before earlier traces)

-- what stands in a list stands there with others behind it
stays : {A : Type 0} (xs ys : List A) (k : ℕ) (x : A) → slice_get xs k ≡ Some x → slice_get (xs ++ ys) k ≡ Some x
stays [] ys k x is = absurd (cc)
stays (z ∷ xs) ys zero x is = is
stays (z ∷ xs) ys (suc k) x is = stays xs ys k x is

parts : {A : Type 0} (xs ys : List A) (k : ℕ) (x : A) → slice_get (xs ++ ys) k ≡ Some x
    → (slice_get xs k ≡ Some x) ⊎ ((j : ℕ) × (slice_get ys j ≡ Some x))
parts [] ys k x is = inr (k, is)
parts (z ∷ xs) ys zero x is = inl is
parts (z ∷ xs) ys (suc k) x is = parts xs ys k x is

-- the numbers of contexts stay
grown : (context : List ℕ) (before after : List (List ℕ)) (number k : ℕ) (c : List ℕ)
    → IsNumbered context before after number → slice_get before k ≡ Some c → slice_get after k ≡ Some c
grown context before after number k c h is = by h.grows
  where
    by : (after ≡ before) ⊎ ((after ≡ before ++ context ∷ []) × (number ≡ length before)) → slice_get after k ≡ Some c
    by (inl same) = subst (λ l. slice_get l k ≡ Some c) (sym same) is
    by (inr (more, last)) = subst (λ l. slice_get l k ≡ Some c) (sym more) (stays before (context ∷ []) k c is)

old_or_new : (context : List ℕ) (before after : List (List ℕ)) (number k : ℕ) (c : List ℕ)
    → IsNumbered context before after number → slice_get after k ≡ Some c
    → (slice_get before k ≡ Some c) ⊎ (c ≡ context)
old_or_new context before after number k c h is = by h.grows
  where
    only : (j : ℕ) → slice_get (context ∷ []) j ≡ Some c → c ≡ context
    only zero one = let same : Some context ≡ Some c = one in cc
    only (suc j) one = absurd (cc)

    split : (slice_get before k ≡ Some c) ⊎ ((j : ℕ) × (slice_get (context ∷ []) j ≡ Some c))
        → (slice_get before k ≡ Some c) ⊎ (c ≡ context)
    split (inl old) = inl old
    split (inr (j, one)) = inr (only j one)

    by : (after ≡ before) ⊎ ((after ≡ before ++ context ∷ []) × (number ≡ length before))
        → (slice_get before k ≡ Some c) ⊎ (c ≡ context)
    by (inl same) = inl (subst (λ l. slice_get l k ≡ Some c) same is)
    by (inr (more, last)) = split (parts before (context ∷ []) k c (subst (λ l. slice_get l k ≡ Some c) more is))

-- the contexts and events of so many turns
pub record Joined (run : Run) (n : ℕ) (contexts : List (List ℕ)) (events : List Event) : Type 0 where
  pub contexts_are : AreContextsOf run n contexts
  pub names : NameContexts run n contexts events

-- no event behind the grant of a step grants a block
rest_grants_none : (note : StepNote) (j block number : ℕ)
    → slice_get (events_in (release_of note ∷ access_of note ∷ [])) j ≡ Some (Grant block number) → ⊥
rest_grants_none note j block number is = by note.release note.access j is
  where
    by : (r : Option ℕ) (a : Option BlockAccess) (j : ℕ)
        → slice_get (events_in (option_map (λ b. Release b) r ∷ option_map (λ a. Access a.block a.width) a ∷ [])) j
        ≡ Some (Grant block number) → ⊥
    by None None j is = cc
    by None (Some a) zero is = cc
    by None (Some a) (suc j) is = cc
    by (Some r) None zero is = cc
    by (Some r) None (suc j) is = cc
    by (Some r) (Some a) zero is = cc
    by (Some r) (Some a) (suc zero) is = cc
    by (Some r) (Some a) (suc (suc j)) is = cc

-- a turn up to one is before it or it
place : (turn n : ℕ) → turn < suc n → (turn < n) ⊎ (turn ≡ n)
place turn n low = by (turn == n) refl
  where
    by : (t : Bool) → (turn == n) ≡ t → (turn < n) ⊎ (turn ≡ n)
    by true same = inr (eqb-true turn n same)
    by false other = inl (grind (arith, nat_tests))

module _ (run : Run) (n : ℕ) (before after : List (List ℕ)) (earlier : List Event)
    (h : Joined run n before earlier) where
  -- what was granted before is one turn further back
  later : (context : List ℕ) → IsGrantedIn run n context → IsGrantedIn run (suc n) context
  later context g =
      record { turn = g.turn; block = g.block; before = omega (arith, g.before); grants = g.grants; same = g.same }

  named_later : (block number : ℕ) → ((k : ℕ) (c : List ℕ) → slice_get before k ≡ Some c → slice_get after k ≡ Some c)
      → IsNamedIn run n before block number → IsNamedIn run (suc n) after block number
  named_later block number stay g = record {
    turn = g.turn;
    before = omega (arith, g.before);
    grants = g.grants;
    names = stay number (context_at run g.turn) g.names;
  }

  -- a turn without a grant
  quiet : (events : List Event) → (note_at run n).grant ≡ None → after ≡ before
      → events ≡ earlier ++ events_in (release_of (note_at run n) ∷ access_of (note_at run n) ∷ [])
      → Joined run (suc n) after events
  quiet events none same all = record {
    contexts_are = record {
      each = λ k c is. later c (h.contexts_are.each k c (subst (λ l. slice_get l k ≡ Some c) same is));
      all = λ turn block low grants. granted turn block grants (place turn n low);
    };
    names = λ i block number is. named i block number
        (parts earlier _ i (Grant block number) (subst (λ l. slice_get l i ≡ Some (Grant block number)) all is));
  }
    where
      stay : (k : ℕ) (c : List ℕ) → slice_get before k ≡ Some c → slice_get after k ≡ Some c
      stay k c is = subst (λ l. slice_get l k ≡ Some c) (sym same) is

      granted : (turn block : ℕ) → Grants run turn block → (turn < n) ⊎ (turn ≡ n)
          → (k : ℕ) × (slice_get after k ≡ Some (context_at run turn))
      granted turn block grants (inl low) =
          let (k, is) = h.contexts_are.all turn block low grants in (k, stay k (context_at run turn) is)
      granted turn block grants (inr here) =
          let some : (note_at run n).grant ≡ Some block = subst (λ t. Grants run t block) here grants in
          absurd (let clash : None ≡ Some block = sym none ∙ some in cc)

      named : (i block number : ℕ)
          → (slice_get earlier i ≡ Some (Grant block number)) ⊎ ((j : ℕ)
          × (slice_get (events_in (release_of (note_at run n) ∷ access_of (note_at run n) ∷ [])) j
          ≡ Some (Grant block number))) → IsNamedIn run (suc n) after block number
      named i block number (inl old) = named_later block number stay (h.names i block number old)
      named i block number (inr (j, new)) = absurd (rest_grants_none (note_at run n) j block number new)

  -- a turn that grants a block
  grants_one : (events : List Event) (new number : ℕ) → (note_at run n).grant ≡ Some new
      → IsNumbered (context_at run n) before after number
      → events ≡ earlier ++ Grant new number ∷ events_in (release_of (note_at run n) ∷ access_of (note_at run n) ∷ [])
      → Joined run (suc n) after events
  grants_one events new number some numbered all = record {
    contexts_are = record {
      each = λ k c is. each k c (old_or_new (context_at run n) before after number k c numbered is);
      all = λ turn block low grants. granted turn block grants (place turn n low);
    };
    names = λ i block k is. named i block k
        (parts earlier _ i (Grant block k) (subst (λ l. slice_get l i ≡ Some (Grant block k)) all is));
  }
    where
      stay : (k : ℕ) (c : List ℕ) → slice_get before k ≡ Some c → slice_get after k ≡ Some c
      stay k c is = grown (context_at run n) before after number k c numbered is

      each : (k : ℕ) (c : List ℕ) → (slice_get before k ≡ Some c) ⊎ (c ≡ context_at run n) → IsGrantedIn run (suc n) c
      each k c (inl old) = later c (h.contexts_are.each k c old)
      each k c (inr same) = record { turn = n; block = new; before = omega arith; grants = some; same = same }

      granted : (turn block : ℕ) → Grants run turn block → (turn < n) ⊎ (turn ≡ n)
          → (k : ℕ) × (slice_get after k ≡ Some (context_at run turn))
      granted turn block grants (inl low) =
          let (k, is) = h.contexts_are.all turn block low grants in (k, stay k (context_at run turn) is)
      granted turn block grants (inr here) =
          (number, subst (λ t. slice_get after number ≡ Some (context_at run t)) (sym here) numbered.stands)

      fresh : (j block k : ℕ)
          → slice_get (Grant new number ∷ events_in (release_of (note_at run n) ∷ access_of (note_at run n) ∷ [])) j
          ≡ Some (Grant block k) → IsNamedIn run (suc n) after block k
      fresh zero block k is =
          let one : Some (Grant new number) ≡ Some (Grant block k) = is in
          let block_is : new ≡ block = cc in
          let number_is : number ≡ k = cc in record {
            turn = n;
            before = omega arith;
            grants = some ∙ ap (λ b. Some b) block_is;
            names = subst (λ x. slice_get after x ≡ Some (context_at run n)) number_is numbered.stands;
          }
      fresh (suc j) block k is = absurd (rest_grants_none (note_at run n) j block k is)

      named : (i block k : ℕ)
          → (slice_get earlier i ≡ Some (Grant block k)) ⊎ ((j : ℕ)
          × (slice_get (Grant new number ∷ events_in (release_of (note_at run n) ∷ access_of (note_at run n) ∷ [])) j
          ≡ Some (Grant block k))) → IsNamedIn run (suc n) after block k
      named i block k (inl old) = named_later block k stay (h.names i block k old)
      named i block k (inr (j, there)) = fresh j block k there

  next : (events : List Event) (grant : Option Event) (o : Option ℕ) → (note_at run n).grant ≡ o
      → Granted o (context_at run n) before after grant
      → events ≡ earlier ++ events_in (grant ∷ release_of (note_at run n) ∷ access_of (note_at run n) ∷ [])
      → Joined run (suc n) after events
  next events grant None is (same, none) all =
      quiet events is same
      (subst (λ g. events ≡ earlier ++ events_in (g ∷ release_of (note_at run n) ∷ access_of (note_at run n) ∷ []))
      none all)
  next events grant (Some new) is (number, numbered, some) all =
      grants_one events new number is numbered
      (subst (λ g. events ≡ earlier ++ events_in (g ∷ release_of (note_at run n) ∷ access_of (note_at run n) ∷ []))
      some all)

nothing_joined : (run : Run) (contexts : List (List ℕ)) (events : List Event) → contexts ≡ [] → events ≡ []
    → Joined run 0 contexts events
nothing_joined run contexts events none no_events = record {
  contexts_are = record {
    each = λ k c is. absurd (let no : slice_get [] k ≡ Some c = subst (λ l. slice_get l k ≡ Some c) none is in cc);
    all = λ turn block low grants. absurd (omega (arith, low));
  };
  names = λ i block k is. absurd
      (let no : slice_get [] i ≡ Some (Grant block k) =
      subst (λ l. slice_get l i ≡ Some (Grant block k)) no_events is in cc);
}

pub joined : (run : Run) (n : ℕ) (t : Traced) (events : List Event) → Traces run.file run.plan run.input n t events
    → Joined run n t.contexts events
joined run zero t events h = nothing_joined run t.contexts events (ap (λ (t : Traced). t.contexts) h.0) h.1
joined run (suc n) t events (before, earlier, traces, led) =
    let stack : before.stack ≡ stack_at run n = stack_is run n before earlier traces in
    next run n before.contexts t.contexts earlier (joined run n before earlier traces) events led.takes.grant
    (note_at run n).grant refl
    (subst (λ s. Granted (note_at run n).grant (context_of s) before.contexts t.contexts led.takes.grant) stack
    led.takes.granted)
    (subst (λ es. events ≡ earlier ++ events_in es) led.takes.all led.all)

-- so are the contexts of a profile
pub profiled : (file : List ℕ) (area : Area) (input : List ℕ) (n distance : ℕ) (p : Profile)
    → IsProfileOf file area input n distance p
    → AreContextsOf (record { file = file; plan = plan_of_area area; input = input }) n p.contexts
profiled file area input n distance p h =
    subst (AreContextsOf (record { file = file; plan = plan_of_area area; input = input }) n) (sym h.contexts)
    (joined (record { file = file; plan = plan_of_area area; input = input }) n h.trace h.events h.traced).contexts_are
