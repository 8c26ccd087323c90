-- Events that may follow are events that an affinity takes.
use Rattle.std.proofs.Common.{◌≡◌, ◌<◌, ◌++◌, ◌∷◌, [], ℕ, suc, zero, Bool, true, false, not, List, length, Option, Some}
use Rattle.std.proofs.Common.{None, refl, ap, sym, ◌∙◌, arith}
use Rattle.std.specs.Prelude.{slice_get, slice_index_or, MatchOption}
use Rattle.plan_core.specs.declared.profiles.Event.{Event}
use Rattle.plan_core.specs.declared.profiles.Event.TheVariants.{Grant, Access, Release}
use Rattle.affinity.specs.Histories.{Lives, MayFollow, Legal}
use Rattle.affinity.specs.State.{Seen}
use Rattle.affinity.specs.Pushed.{IsLive, Takes, Pushed}
use Rattle.heap_trace.specs.Traces.{added, events_in}
use Rattle.heap_trace.proofs.Legality.{added_in}

get_here : (ls : List Bool) (b : ℕ) (d x : Bool) → b < length ls → slice_index_or ls b d ≡ x → slice_get ls b ≡ Some x
get_here [] b d x low is = absurd (omega arith)
get_here (l ∷ ls) zero d x low is = ap (λ t. Some t) is
get_here (l ∷ ls) (suc b) d x low is = get_here ls b d x (omega arith) is

live : (a : Seen) (h : List Event) (b : ℕ) → Pushed a h → Lives h b → IsLive a b
live a h b p (low, kept) =
    let inside : b < a.grants = omega (arith, low, p.grants) in
    let within : b < length a.lives = omega (arith, inside, p.lives) in
    get_here a.lives b false true within (p.living b false inside ∙ ap not kept)

takes_one : (a : Seen) (h : List Event) (e : Event) → Pushed a h → MayFollow h e → Takes a e
takes_one a h (Grant block context) p (few, name, low) =
    (name ∙ sym p.grants, omega (arith, low, p.contexts), omega (arith, few, p.grants))
takes_one a h (Access block width) p (few, some, lives) = (some, live a h block p lives, omega (arith, few, p.accesses))
takes_one a h (Release block) p lives = live a h block p lives

-- the first of some events that lead to a legal list
pub takes_first : (a : Seen) (h : List Event) (x : Option Event) (xs : List (Option Event)) → Pushed a h
    → Legal (h ++ events_in (x ∷ xs)) → MatchOption x (Unit {0}) (Takes a)
takes_first a h None xs p legal = tt
takes_first a h (Some e) xs p legal = takes_one a h e p (legal h e (events_in xs) refl)

-- and with it the rest leads there
pub legal_rest : (h : List Event) (x : Option Event) (xs : List (Option Event)) → Legal (h ++ events_in (x ∷ xs))
    → Legal (added h x ++ events_in xs)
legal_rest h x xs legal = rw (← added_in h x xs) legal

-- a list of three is that of its items
pub three : (es : List (Option Event)) (x y z : Option Event) → es ≡ x ∷ y ∷ z ∷ []
    → slice_index_or es 0 None ∷ slice_index_or es 1 None ∷ slice_index_or es 2 None ∷ [] ≡ es
three es x y z is = rw is refl
