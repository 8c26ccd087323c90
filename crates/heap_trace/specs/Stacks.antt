-- What the fields of a shadow stack keep: the places of near sites in the order of their last calls, and how
-- many sites come back to each address.
use Rattle.std.specs.Prelude.{◌≡◌, ◌<◌, ◌^◌, ℕ, List, All, [], ◌∷◌, ◌++◌, map, count_by, nat_eq, position, unwrap_or}
use Rattle.std.specs.Prelude.{Option, None, if◌then◌else◌}
use Rattle.std.specs.Set.{remove_key}
use Rattle.indexmap.specs.IndexMap.{IndexMap, get}
use Rattle.site_spec.specs.declared.Site.{Site}
use Rattle.heap_trace.specs.declared.stack.Frame.{Frame}
use Rattle.sym_spec.specs.Contexts.{comes_back_to, context_of}

-- the sites of some frames
abbrev pub sites_of : List Frame → List Site
sites_of frames = map (λ f. f.site) frames

-- an address behind the others
abbrev pub called_last : ℕ → List ℕ → List ℕ
called_last a order = remove_key (nat_eq a) order ++ a ∷ []

-- the place of a site in the order of near sites, before it is called
abbrev pub place_of : List Site → Site → Option ℕ
place_of before s = if s.near then position (nat_eq s.addr) (context_of before) else None

-- frames keep the places that their sites had before, where these sites stand before them
abbrev pub KeepPlaces : List Site → List Frame → Type 0
KeepPlaces before [] = Unit {0}
KeepPlaces before (f ∷ fs) = (f.place ≡ place_of before f.site) × KeepPlaces (before ++ f.site ∷ []) fs

-- the count that is kept for an address; 0 where there is none
abbrev pub count_in : {S : Type 0} → IndexMap ℕ ℕ S → ℕ → ℕ
count_in m a = unwrap_or (get nat_eq m a) 0

pub record IsStack {S : Type 0} (frames : List Frame) (order : List ℕ) (returns : IndexMap ℕ ℕ S) : Type 0 where
  pub places : KeepPlaces [] frames
  pub order_is : order ≡ context_of (sites_of frames)
  pub words : All (λ f. f.site.addr < 2 ^ 32) frames
  pub counts : (a : ℕ) → count_in returns a ≡ count_by (comes_back_to a) (sites_of frames)
