-- Profiles of runs are profiles that have a text.
use Rattle.std.proofs.Common.{◌≡◌, ◌==◌, ◌||◌, ◌^◌, ◌<◌, ℕ, Bool, true, false, cond, not, List, [], ◌∷◌, length, map}
use Rattle.std.proofs.Common.{filter, refl, ap, sym, ◌∙◌, arith}
use Rattle.std.specs.Prelude.{All, IfOk, Result, Ok, Err}
use Rattle.std.specs.List.{list_any, list_all}
use Rattle.std.proofs.lemmas.Bool.Decides.{nat_tests}
use Rattle.std.proofs.lemmas.List.Elements.{All-cons, All-filter, All-head, All-map, All-tail, All-weaker}
use Rattle.site_spec.specs.declared.Site.{Site}
use Rattle.plan_core.specs.declared.profiles.Edge.{Edge}
use Rattle.plan_core.specs.declared.profiles.Event.{Event}
use Rattle.plan_core.specs.declared.profiles.Node.{Node}
use Rattle.plan_core.specs.declared.profiles.Profile.{Profile}
use Rattle.profile_text.specs.Distinct.{are_distinct}
use Rattle.profile_text.specs.Profile.{IsContext, IsProfile, NodeFits}
use Rattle.affinity.specs.Graphs.{IsGraph}
use Rattle.affinity.specs.Pushed.{Pushed}
use Rattle.affinity.specs.State.{Seen}
use Rattle.affinity.specs.Weights.{weight}
use Rattle.sym_spec.specs.Contexts.{addr_of, context_of, is_near, last_of_equal}
use Rattle.heap_trace.specs.declared.stack.Frame.{Frame}
use Rattle.heap_trace.specs.Events.{Traced}
use Rattle.heap_trace.specs.Stacks.{sites_of}
use Rattle.heap_trace.specs.Traces.{IsLegalTrace}

-- of equal numbers the last stays
first_false : (s t : Bool) → (s || t) ≡ false → s ≡ false
first_false true t h = absurd cc
first_false false t h = refl

rest_false : (s t : Bool) → (s || t) ≡ false → t ≡ false
rest_false true t h = absurd cc
rest_false false t h = h

unlike : (x n : ℕ) → (n == x) ≡ false → not (x == n) ≡ true
unlike x n h = grind (arith, nat_tests)

none_equal : (x : ℕ) (ns : List ℕ) → list_any (λ m. m == x) ns ≡ false
    → list_all (λ y. not (x == y)) (last_of_equal ns) ≡ true
none_equal x [] h = refl
none_equal x (n ∷ ns) h =
    by_test (list_any (λ m. m == n) ns) (none_equal x ns (rest_false (n == x) (list_any (λ m. m == x) ns) h))
  where
    by_test : (t : Bool) → list_all (λ y. not (x == y)) (last_of_equal ns) ≡ true
        → list_all (λ y. not (x == y)) (cond t (last_of_equal ns) (n ∷ last_of_equal ns)) ≡ true
    by_test true later = later
    by_test false later = rw (unlike x n (first_false (n == x) (list_any (λ m. m == x) ns) h), later) refl

last_distinct : (ns : List ℕ) → are_distinct (last_of_equal ns) ≡ true
last_distinct [] = refl
last_distinct (n ∷ ns) = by_test (list_any (λ m. m == n) ns) refl (last_distinct ns)
  where
    by_test : (t : Bool) → list_any (λ m. m == n) ns ≡ t → are_distinct (last_of_equal ns) ≡ true
        → are_distinct (cond t (last_of_equal ns) (n ∷ last_of_equal ns)) ≡ true
    by_test true there later = later
    by_test false there later = rw (none_equal n ns there, later) refl

last_all : (P : ℕ → Type 0) (ns : List ℕ) → All P ns → All P (last_of_equal ns)
last_all P [] h = h
last_all P (n ∷ ns) h = by_test (list_any (λ m. m == n) ns) (last_all P ns (All-tail P n ns h))
  where
    by_test : (t : Bool) → All P (last_of_equal ns) → All P (cond t (last_of_equal ns) (n ∷ last_of_equal ns))
    by_test true later = later
    by_test false later = All-cons P n (last_of_equal ns) (All-head P n ns h) later

-- the context of a stack is one
pub stack_context : (frames : List Frame) (context : List ℕ) → All (λ f. f.site.addr < 2 ^ 32) frames
    → context ≡ context_of (sites_of frames) → IsContext context
stack_context frames context words is =
    let sites : All (λ (s : Site). s.addr < 2 ^ 32) (sites_of frames) =
    All-map (λ (s : Site). s.addr < 2 ^ 32) (λ (f : Frame). f.site) frames words in
    let near : All (λ (s : Site). s.addr < 2 ^ 32) (filter is_near (sites_of frames)) =
    All-filter is_near (λ (s : Site). s.addr < 2 ^ 32) (sites_of frames) sites in
    let addrs : All (λ a. a < 2 ^ 32) (map addr_of (filter is_near (sites_of frames))) =
    All-map (λ a. a < 2 ^ 32) addr_of (filter is_near (sites_of frames)) near in
    rw is (
      last_all (λ a. a < 2 ^ 32) (map addr_of (filter is_near (sites_of frames))) addrs,
      last_distinct (map addr_of (filter is_near (sites_of frames))),
    )

pub context_told : {V E : Type 0} (items : V → List ℕ) (r : Result V E) (frames : List Frame) (order : List ℕ)
    → All (λ f. f.site.addr < 2 ^ 32) frames → order ≡ context_of (sites_of frames)
    → IfOk r (λ v. items v ≡ order) → IfOk r (λ v. IsContext (items v))
context_told items (Ok v) frames order words same is = stack_context frames (items v) words (is ∙ same)
context_told items (Err e) frames order words same is = is

-- the profile of what was recorded
pub is_profile : (p : Profile) (a : Seen) (t : Traced) (h : List Event) (n : ℕ) → Pushed a h → IsLegalTrace n t h
    → n < 2 ^ 32 → p.distance ≡ a.distance → p.contexts ≡ t.contexts → All IsContext p.contexts
    → IsGraph a.distance h p.graph → All (λ n. (n.grants < 2 ^ 32) × (n.accesses < 2 ^ 32)) p.graph.nodes
    → IsProfile p
is_profile p a t h n pushed legal small distance same contexts graph counts = record {
  near = omega (arith, distance, pushed.near);
  few = omega (arith, ap length same, legal.few, small);
  sizes = graph.nodes.0 ∙ legal.contexts ∙ ap length (sym same);
  contexts = contexts;
  nodes = All-weaker (λ (n : Node). (n.grants < 2 ^ 32) × (n.accesses < 2 ^ 32)) NodeFits
      (λ n small. (omega (arith, small.0), omega (arith, small.1))) p.graph.nodes counts;
  ordered = graph.ordered;
  counted = All-weaker (λ (e : Edge). (e.weight ≡ weight a.distance h e.low e.high) × (0 < e.weight))
      (λ (e : Edge). 0 < e.weight) (λ e w. w.1) p.graph.edges graph.weights;
}
