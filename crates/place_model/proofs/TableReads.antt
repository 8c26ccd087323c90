-- What is read in tables, and the blocks that their starts say.
use Rattle.std.proofs.Common.{◌≡◌, ℕ, zero, suc, ◌+◌, ◌<◌, ◌≤◌, cond, Bool, [], replicate, sym, ◌∙◌, refl, ap}
use Rattle.std.specs.Prelude.{Option, Some, None}
use Rattle.std.specs.Option.{option_or}
use Rattle.place_spec.specs.declared.parts.Spot.{Spot}
use Rattle.std.proofs.Common.{pow_mono}
use Rattle.plan_core.specs.declared.types.Area.{Area}
use Rattle.std.proofs.lemmas.Bool.{le-leb, lt-leb}
use Rattle.place_spec.specs.Layout.{Layout, chunk_size}
use Rattle.place_spec.specs.Place.{current_spot, fresh_spot, front_spot, spot_of}
use Rattle.place_model.specs.declared.tables.Start.{Start}
use Rattle.place_model.specs.Tables.{blocks_from}

pub or_or : (a b c : Option Spot) → option_or (option_or a b) c ≡ option_or a (option_or b c)
or_or None b c = refl
or_or (Some s) b c = refl

-- where nothing begins
abbrev pub nothing : Start
nothing = record { granules = 0; group = None }

pub no_blocks : (i n : ℕ) → blocks_from i (replicate n nothing) ≡ []
no_blocks i zero = refl
no_blocks i (suc n) = no_blocks (i + 1) n

pub size_small : (area : Area) → area.log_chunk ≤ 20 → chunk_size area ≤ 1048576
size_small area l = pow_mono l

-- the spot that the rules choose
abbrev chooses : Area → Layout → (need g : ℕ) → Bool → Option Spot
chooses area s need g t =
    cond t (option_or (current_spot area s need g) (option_or (fresh_spot s g) (front_spot s need))) (front_spot s need)

pub spot_none : (area : Area) (s : Layout) (need : ℕ) → front_spot s need ≡ spot_of area s need None
unfolding spot_of
spot_none area s need = refl

pub spot_large : (area : Area) (s : Layout) (need g : ℕ) → chunk_size area < need
    → front_spot s need ≡ spot_of area s need (Some g)
unfolding spot_of
spot_large area s need g l = sym (ap (chooses area s need g) (lt-leb need (chunk_size area) l))

pub spot_chunk : (area : Area) (s : Layout) (need g : ℕ) (spot : Spot) → need ≤ chunk_size area
    → option_or (current_spot area s need g) (fresh_spot s g) ≡ Some spot → Some spot ≡ spot_of area s need (Some g)
unfolding spot_of
spot_chunk area s need g spot l e =
    sym (ap (chooses area s need g) (le-leb need (chunk_size area) l)
    ∙ (sym (or_or (current_spot area s need g) (fresh_spot s g) (front_spot s need))
    ∙ ap (λ o. option_or o (front_spot s need)) e))

pub spot_front : (area : Area) (s : Layout) (need g : ℕ) → need ≤ chunk_size area
    → option_or (current_spot area s need g) (fresh_spot s g) ≡ None → front_spot s need ≡ spot_of area s need (Some g)
unfolding spot_of
spot_front area s need g l e =
    sym (ap (chooses area s need g) (le-leb need (chunk_size area) l)
    ∙ (sym (or_or (current_spot area s need g) (fresh_spot s g) (front_spot s need))
    ∙ ap (λ o. option_or o (front_spot s need)) e))
