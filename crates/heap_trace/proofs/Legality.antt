-- The events of turns are a legal list.
use Rattle.std.proofs.Common.{◌≡◌, ◌⊎◌, inl, inr, ◌==◌, ◌||◌, ◌+◌, ◌<◌, ◌≤◌, ℕ, zero, suc, Bool, true, false, cond}
use Rattle.std.proofs.Common.{nat_lt, List, [], ◌∷◌, ◌++◌, length, Option, Some, None, refl, ap, sym, ◌∙◌, subst, arith}
use Rattle.std.proofs.Common.{append_assoc, length-append}
use Rattle.std.specs.Prelude.{filter_map, slice_set, MatchOption, if◌then◌else◌}
use Rattle.std.proofs.lemmas.Bool.Decides.{nat_tests}
use Rattle.std.proofs.lemmas.List.{append-nil, length-set}
use Rattle.std.proofs.lemmas.List.Elements.{filter_map-append}
use Rattle.std.proofs.lemmas.List.Folds.{list_any-append}
use Rattle.std.proofs.lemmas.Option.{slice_get_within}
use Rattle.plan_core.specs.declared.types.Plan.{Plan}
use Rattle.plan_core.specs.declared.profiles.Event.{Event}
use Rattle.plan_core.specs.declared.profiles.Event.TheVariants.{Grant, Access, Release}
use Rattle.affinity.specs.Histories.{is_in, context_granted, block_released, entry_of, contexts_of, released_in}
use Rattle.affinity.specs.Histories.{accesses_of, different, MayFollow, Legal}
use Rattle.sym_spec.specs.declared.BlockAccess.{BlockAccess}
use Rattle.sym_spec.specs.declared.StepNote.{StepNote}
use Rattle.sym_spec.specs.SymMachine.{SymMachine, start}
use Rattle.sym_spec.specs.StartMemory.{start_memory}
use Rattle.sym_spec.specs.SymNotes.{note}
use Rattle.sym_spec.specs.SymTurns.{turn}
use Rattle.sym_spec.specs.SymRuns.{sym_run, steps, step}
use Rattle.sym_spec.specs.Contexts.{context_of}
use Rattle.heap_trace.specs.Events.{Traced, IsNumbered, Granted, release_of, access_of}
use Rattle.heap_trace.specs.Traces.{events_in, added, LeadsOn, Traces, Leads}
use Rattle.heap_trace.proofs.Blocks.{IsAlive}
use Rattle.heap_trace.proofs.Turns.{alive_in, with_grant, with_release, Accesses, Did, turn_did}

-- one event more, in a list that is made event by event
grown : {X : Type 0} (f : Event → Option X) (h : List Event) (e : Event) (x : X) → f e ≡ Some x
    → filter_map f (h ++ e ∷ []) ≡ filter_map f h ++ x ∷ []
grown f h e x is = filter_map-append f h (e ∷ []) ∙ rw is refl

kept : {X : Type 0} (f : Event → Option X) (h : List Event) (e : Event) → f e ≡ None
    → filter_map f (h ++ e ∷ []) ≡ filter_map f h
kept f h e is = filter_map-append f h (e ∷ []) ∙ rw is (append-nil (filter_map f h))

is_in_push : (ns : List ℕ) (n x : ℕ) → is_in (ns ++ n ∷ []) x ≡ (is_in ns x || ((n == x) || false))
is_in_push ns n x = list_any-append (λ y. y == x) ns (n ∷ [])

-- the blocks that live after one more, and after one dies
alive_more : (ls : List Bool) (b : ℕ) → IsAlive (ls ++ true ∷ []) b → IsAlive ls b ⊎ (b ≡ length ls)
alive_more [] zero h = inr refl
alive_more [] (suc b) h = absurd cc
alive_more (l ∷ ls) zero h = inl h
alive_more (l ∷ ls) (suc b) h = by_rest (alive_more ls b h)
  where
    by_rest : IsAlive ls b ⊎ (b ≡ length ls) → IsAlive (l ∷ ls) (suc b) ⊎ (suc b ≡ length (l ∷ ls))
    by_rest (inl a) = inl a
    by_rest (inr e) = inr (ap suc e)

alive_still : (ls : List Bool) (b x : ℕ) → IsAlive (slice_set ls b false) x → IsAlive ls x × (b ≡ x → ⊥)
alive_still [] b x h = (h, λ e. absurd cc)
alive_still (l ∷ ls) zero zero h = (absurd cc, λ e. absurd cc)
alive_still (l ∷ ls) zero (suc x) h = (h, λ e. absurd cc)
alive_still (l ∷ ls) (suc b) zero h = (h, λ e. absurd cc)
alive_still (l ∷ ls) (suc b) (suc x) h =
    let rest = alive_still ls b x h in (rest.0, λ e. rest.1 (omega (arith, e)))

-- events that led to so many contexts and to these blocks, with at most so many grants and accesses
pub record Stands (h : List Event) (contexts : ℕ) (ls : List Bool) (grants accesses : ℕ) : Type 0 where
  pub legal : Legal h
  pub named : length ls ≡ length (contexts_of h)
  pub living : (b : ℕ) → IsAlive ls b → is_in (released_in h) b ≡ false
  pub released : (b : ℕ) → is_in (released_in h) b ≡ true → b < length ls
  pub different_are : different (contexts_of h) ≡ contexts
  pub dense : (c : ℕ) → is_in (contexts_of h) c ≡ nat_lt c contexts
  pub few_contexts : contexts ≤ grants
  pub few_grants : length (contexts_of h) ≤ grants
  pub few_accesses : length (accesses_of h) ≤ accesses

-- more grants and accesses may come
weaker : (h : List Event) (k : ℕ) (ls : List Bool) (g a g' a' : ℕ) → Stands h k ls g a → g ≤ g' → a ≤ a'
    → Stands h k ls g' a'
weaker h k ls g a g' a' s up more = record {
  legal = s.legal;
  named = s.named;
  living = s.living;
  released = s.released;
  different_are = s.different_are;
  dense = s.dense;
  few_contexts = omega (arith, s.few_contexts);
  few_grants = omega (arith, s.few_grants);
  few_accesses = omega (arith, s.few_accesses);
}

-- the number of a context, and how many there are then
counted : (c : List ℕ) (before after : List (List ℕ)) (n : ℕ) → IsNumbered c before after n
    → (n ≤ length before) × (length after ≡ length before + (if nat_lt n (length before) then 0 else 1))
counted c before after n is = by_growth is.grows
  where
    by_growth : (after ≡ before) ⊎ ((after ≡ before ++ c ∷ []) × (n ≡ length before))
        → (n ≤ length before) × (length after ≡ length before + (if nat_lt n (length before) then 0 else 1))
    by_growth (inl same) =
        let low : n < length after = slice_get_within after n c is.stands in
        let as_many : length after ≡ length before = ap length same in
        let below : nat_lt n (length before) ≡ true = grind (arith, nat_tests) in
        (omega (arith, low, as_many), rw below (omega (arith, as_many)))
    by_growth (inr (new, last)) =
        let as_many : length after ≡ length before + 1 = ap length new ∙ length-append before (c ∷ []) in
        let above : nat_lt n (length before) ≡ false = grind (arith, nat_tests) in
        (omega (arith, last), rw above as_many)

pub added_in : (h : List Event) (x : Option Event) (xs : List (Option Event))
    → h ++ events_in (x ∷ xs) ≡ added h x ++ events_in xs
added_in h None xs = refl
added_in h (Some e) xs = sym (append_assoc h (e ∷ []) (events_in xs))

pub all_added : (h : List Event) (x y z : Option Event)
    → h ++ events_in (x ∷ y ∷ z ∷ []) ≡ added (added (added h x) y) z
all_added h x y z =
    added_in h x (y ∷ z ∷ []) ∙ added_in (added h x) y (z ∷ []) ∙ added_in (added (added h x) y) z []
    ∙ append-nil (added (added (added h x) y) z)

-- a run is turns on its input
pub traces_lead : (file : List ℕ) (plan : Plan) (input : List ℕ) (n : ℕ) (t : Traced) (events : List Event)
    → Traces file plan input n t events → Leads file plan n (sym_run file plan input n).machine t events
unfolding sym_run steps step
traces_lead file plan input zero t events (at, events_are) = (refl, at, events_are)
traces_lead file plan input (suc n) t events (before, earlier, traces, on) = (
  (sym_run file plan input n).machine,
  (sym_run file plan input n).input,
  before,
  earlier,
  traces_lead file plan input n before earlier traces,
  refl,
  on,
)

module _ (empty : Legal []) (more : (h : List Event) (e : Event) → Legal h → MayFollow h e → Legal (h ++ e ∷ []))
    (one_more : (ns : List ℕ) (n : ℕ) → different (ns ++ n ∷ []) ≡ different ns + (if is_in ns n then 0 else 1)) where
  nothing_stands : Stands [] 0 [] 0 0
  nothing_stands = record {
    legal = empty;
    named = refl;
    living = λ b h. refl;
    released = λ b h. absurd cc;
    different_are = refl;
    dense = λ c. not_below c;
    few_contexts = omega arith;
    few_grants = omega arith;
    few_accesses = omega arith;
  }
    where
      not_below : (c : ℕ) → false ≡ nat_lt c 0
      not_below c = grind (arith, nat_tests)

  grant_stands : (h : List Event) (k c k' : ℕ) (ls : List Bool) (g a : ℕ) → Stands h k ls g a → g < 4294967295
      → c ≤ k → k' ≡ k + (if nat_lt c k then 0 else 1)
      → Stands (h ++ Grant (length ls) c ∷ []) k' (ls ++ true ∷ []) (g + 1) a
  grant_stands h k c k' ls g a s few low is =
      let contexts : contexts_of (h ++ Grant (length ls) c ∷ []) ≡ contexts_of h ++ c ∷ [] =
      grown context_granted h (Grant (length ls) c) c refl in
      let released : released_in (h ++ Grant (length ls) c ∷ []) ≡ released_in h =
      kept block_released h (Grant (length ls) c) refl in
      let accesses : accesses_of (h ++ Grant (length ls) c ∷ []) ≡ accesses_of h =
      kept entry_of h (Grant (length ls) c) refl in
      let longer : length (ls ++ true ∷ []) ≡ length ls + 1 = length-append ls (true ∷ []) in
      let longer_contexts : length (contexts_of h ++ c ∷ []) ≡ length (contexts_of h) + 1 =
      length-append (contexts_of h) (c ∷ []) in
      record {
        legal = more h (Grant (length ls) c) s.legal (
          omega (arith, s.few_grants),
          s.named,
          omega
              (arith, s.different_are),
        );
        named = rw contexts (omega (arith, longer, longer_contexts, s.named));
        living = λ b l. rw released (by_age b (alive_more ls b l));
        released = λ b r. (let old = s.released b (rw released at r) in omega (arith, old, longer));
        different_are = rw contexts (one_more (contexts_of h) c ∙ rw (s.dense c) (omega (arith, is, s.different_are)));
        dense = λ x. rw contexts (is_in_push (contexts_of h) c x ∙ rw (s.dense x) (by_bound x));
        few_contexts = by_few (nat_lt c k) is;
        few_grants = rw contexts (omega (arith, longer_contexts, s.few_grants));
        few_accesses = rw accesses s.few_accesses;
      }
    where
      by_age : (b : ℕ) → IsAlive ls b ⊎ (b ≡ length ls) → is_in (released_in h) b ≡ false
      by_age b (inl l) = s.living b l
      by_age b (inr e) = by_test (is_in (released_in h) b) refl
        where
          by_test : (t : Bool) → is_in (released_in h) b ≡ t → t ≡ false
          by_test true r = absurd (omega (arith, s.released b r, e))
          by_test false r = refl

      by_few : (t : Bool) → k' ≡ k + cond t 0 1 → k' ≤ g + 1
      by_few true is = omega (arith, s.few_contexts)
      by_few false is = omega (arith, s.few_contexts)

      by_bound : (x : ℕ) → (nat_lt x k || ((c == x) || false)) ≡ nat_lt x k'
      by_bound x = by_test (nat_lt c k) refl is
        where
          by_test : (t : Bool) → nat_lt c k ≡ t → k' ≡ k + cond t 0 1
              → (nat_lt x k || ((c == x) || false)) ≡ nat_lt x k'
          by_test true below is = grind (arith, nat_tests)
          by_test false above is = grind (arith, nat_tests)

  release_stands : (h : List Event) (k b : ℕ) (ls : List Bool) (g a : ℕ) → Stands h k ls g a → IsAlive ls b
      → Stands (h ++ Release b ∷ []) k (slice_set ls b false) g a
  release_stands h k b ls g a s alive =
      let contexts : contexts_of (h ++ Release b ∷ []) ≡ contexts_of h = kept context_granted h (Release b) refl in
      let released : released_in (h ++ Release b ∷ []) ≡ released_in h ++ b ∷ [] =
      grown block_released h (Release b) b refl in
      let accesses : accesses_of (h ++ Release b ∷ []) ≡ accesses_of h = kept entry_of h (Release b) refl in
      let as_long : length (slice_set ls b false) ≡ length ls = length-set ls b false in
      let low : b < length ls = slice_get_within ls b true alive in
      record {
        legal = more h (Release b) s.legal (omega (arith, low, s.named), s.living b alive);
        named = rw contexts (as_long ∙ s.named);
        living = λ x l. rw released (is_in_push (released_in h) b x ∙ still x (alive_still ls b x l));
        released = λ x r. below x low as_long (sym (is_in_push (released_in h) b x) ∙ rw released at r);
        different_are = rw contexts s.different_are;
        dense = λ c. rw contexts (s.dense c);
        few_contexts = s.few_contexts;
        few_grants = rw contexts s.few_grants;
        few_accesses = rw accesses s.few_accesses;
      }
    where
      still : (x : ℕ) → IsAlive ls x × (b ≡ x → ⊥) → (is_in (released_in h) x || ((b == x) || false)) ≡ false
      still x (l, other) = rw (s.living x l) (apart other)
        where
          apart : (b ≡ x → ⊥) → ((b == x) || false) ≡ false
          apart other = grind (arith, nat_tests)

      below : (x : ℕ) → b < length ls → length (slice_set ls b false) ≡ length ls
          → (is_in (released_in h) x || ((b == x) || false)) ≡ true → x < length (slice_set ls b false)
      below x low as_long r = by_test (is_in (released_in h) x) refl r
        where
          by_test : (t : Bool) → is_in (released_in h) x ≡ t → (t || ((b == x) || false)) ≡ true
              → x < length (slice_set ls b false)
          by_test true here r = omega (arith, s.released x here, as_long)
          by_test false none r = let same : b ≡ x = grind (arith, nat_tests) in omega (arith, same, low, as_long)

  access_stands : (h : List Event) (k b w : ℕ) (ls : List Bool) (g a : ℕ) → Stands h k ls g a → a < 4294967295
      → 1 ≤ w → IsAlive ls b → Stands (h ++ Access b w ∷ []) k ls g (a + 1)
  access_stands h k b w ls g a s few some alive =
      let contexts : contexts_of (h ++ Access b w ∷ []) ≡ contexts_of h = kept context_granted h (Access b w) refl in
      let released : released_in (h ++ Access b w ∷ []) ≡ released_in h = kept block_released h (Access b w) refl in
      let accesses : accesses_of (h ++ Access b w ∷ []) ≡ accesses_of h ++ record { block = b; width = w } ∷ [] =
      grown entry_of h (Access b w) (record { block = b; width = w }) refl in
      let low : b < length ls = slice_get_within ls b true alive in
      let longer = length-append (accesses_of h) (record { block = b; width = w } ∷ []) in
      record {
        legal = more h (Access b w) s.legal (
          omega (arith, s.few_accesses),
          some,
          (
            omega
                (arith, low, s.named),
            s.living b alive,
          ),
        );
        named = rw contexts s.named;
        living = λ x l. rw released (s.living x l);
        released = λ x r. s.released x (rw released at r);
        different_are = rw contexts s.different_are;
        dense = λ c. rw contexts (s.dense c);
        few_contexts = s.few_contexts;
        few_grants = rw contexts s.few_grants;
        few_accesses = rw accesses (omega (arith, longer, s.few_accesses));
      }

  -- the three events of a turn
  granted_stands : (h : List Event) (ls : List Bool) (n : ℕ) (grant : Option ℕ) (c : List ℕ)
      (before after : List (List ℕ)) (event : Option Event)
      → Stands h (length before) ls n n → n < 4294967295 → Granted grant c before after event
      → MatchOption grant (Unit {0}) (λ b. b ≡ length ls)
      → Stands (added h event) (length after) (with_grant grant ls) (n + 1) n
  granted_stands h ls n None c before after event s few (same, none) name =
      rw (same, none) (weaker h (length before) ls n n (n + 1) n s (omega arith) (omega arith))
  granted_stands h ls n (Some b) c before after event s few (number, is, some) name =
      let count = counted c before after number is in
      rw (some, name) (grant_stands h (length before) number (length after) ls n n s few count.0 count.1)

  released_stands : (h : List Event) (k : ℕ) (ls : List Bool) (g a : ℕ) (v : StepNote) → Stands h k ls g a
      → MatchOption v.release (Unit {0}) (IsAlive ls)
      → Stands (added h (release_of v)) k (with_release v.release ls) g a
  released_stands h k ls g a v s alive = by_release v.release alive
    where
      by_release : (r : Option ℕ) → MatchOption r (Unit {0}) (IsAlive ls)
          → Stands (added h (release_of (record v { release = r }))) k (with_release r ls) g a
      by_release None alive = s
      by_release (Some b) alive = release_stands h k b ls g a s alive

  accessed_stands : (h : List Event) (k : ℕ) (ls : List Bool) (g n : ℕ) (v : StepNote) → Stands h k ls g n
      → n < 4294967295 → Accesses v.access ls → Stands (added h (access_of v)) k ls g (n + 1)
  accessed_stands h k ls g n v s few is = by_access v.access is
    where
      by_access : (a : Option BlockAccess) → Accesses a ls
          → Stands (added h (access_of (record v { access = a }))) k ls g (n + 1)
      by_access None is = weaker h k ls g n g (n + 1) s (omega arith) (omega arith)
      by_access (Some a) is = access_stands h k a.block a.width ls g n s few is.0 is.1

  -- one turn
  turn_stands : (file : List ℕ) (plan : Plan) (input : List ℕ) (m : SymMachine) (n : ℕ) (before after : Traced)
      (earlier events : List Event)
      → Stands earlier (length before.contexts) (alive_in m) n n → n < 4294967295
      → LeadsOn file (note file plan m) before earlier after events
      → Stands events (length after.contexts) (alive_in (turn file plan input m).next) (n + 1) (n + 1)
  turn_stands file plan input m n before after earlier events s few on =
      let v : StepNote = note file plan m in
      let did : Did v (alive_in m) (alive_in (turn file plan input m).next) = turn_did file plan input m in
      let first : Stands (added earlier on.takes.grant) (length after.contexts) (with_grant v.grant (alive_in m))
      (n + 1) n =
      granted_stands earlier (alive_in m) n v.grant (context_of before.stack) before.contexts after.contexts
      on.takes.grant s few on.takes.granted did.grant in
      let second : Stands (added (added earlier on.takes.grant) (release_of v)) (length after.contexts)
      (with_release v.release (with_grant v.grant (alive_in m))) (n + 1) n =
      released_stands (added earlier on.takes.grant) (length after.contexts) (with_grant v.grant (alive_in m))
      (n + 1) n v
      first did.release in
      let here : Stands (added (added earlier on.takes.grant) (release_of v)) (length after.contexts)
      (alive_in (turn file plan input m).next) (n + 1) n = rw did.blocks second in
      let third : Stands (added (added (added earlier on.takes.grant) (release_of v)) (access_of v))
      (length after.contexts) (alive_in (turn file plan input m).next) (n + 1) (n + 1) =
      accessed_stands (added (added earlier on.takes.grant) (release_of v)) (length after.contexts)
      (alive_in (turn file plan input m).next) (n + 1) n v here few did.access in
      let all : events ≡ added (added (added earlier on.takes.grant) (release_of v)) (access_of v) =
      on.all ∙ ap (λ es. earlier ++ events_in es) on.takes.all
      ∙ all_added earlier on.takes.grant (release_of v) (access_of v) in
      rw all third

  start_stands : (file : List ℕ) (plan : Plan) → Stands [] 0 (alive_in (start file plan)) 0 0
  unfolding start start_memory
  start_stands file plan = nothing_stands

  -- all turns
  pub leads_stand : (file : List ℕ) (plan : Plan) (n : ℕ) (m : SymMachine) (t : Traced) (events : List Event)
      → n ≤ 4294967295 → Leads file plan n m t events
      → Stands events (length t.contexts) (alive_in m) n n
  leads_stand file plan zero m t events few (at, trace, events_are) = rw (at, trace, events_are)
      (start_stands file plan)
  leads_stand file plan (suc n) m t events few (last, input, before, earlier, leads, next, on) =
      let s = leads_stand file plan n last before earlier (omega arith) leads in
      let after = turn_stands file plan input last n before t earlier events s (omega arith) on in
      rw next (subst (λ k. Stands events (length t.contexts) (alive_in (turn file plan input last).next) k k)
      (one_up n) after)
    where
      one_up : (k : ℕ) → k + 1 ≡ suc k
      one_up k = omega arith
