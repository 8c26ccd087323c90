-- The granule of a block's address.
use Rattle.std.proofs.Common.{◌≡◌, ℕ, ◌+◌, ◌*◌, ◌^◌, ◌<◌, ◌≤◌, refl, arith}
use Rattle.plan_core.specs.declared.types.Area.{Area}
use Rattle.plan_core.specs.Plan.{granules}
use Rattle.place_spec.specs.Layout.{address_of}
use Rattle.heap_spec.specs.Places.{base_of, area_end}
use Rattle.frag_code.specs.Meaning.{Rights, frag_run}
use Rattle.frag_code.specs.Ends.{Ends}
use Rattle.frag_code.proofs.Rules.{view, skip_ends, imm_then, set_then, compute_then}
use Rattle.frag_rules.proofs.Values.{sub_is, over_16}
use Rattle.heap_code.specs.Pieces.{granule_of_block}

pub granule_ends : (g : Rights) (w : ℕ) (area : Area) (data_at first : ℕ) (r m : ℕ → ℕ) (c : ℕ)
    → r 10 ≡ address_of (base_of area data_at) first
    → area_end area data_at < 2 ^ 32 → first < granules area
    → Ends (frag_run g (granule_of_block area data_at) w (view r m c)) (λ t. (t.registers 10 ≡ first)
    × ((t.memory ≡ m) × (t.spent ≤ c + 9)))
granule_ends g w area data_at first r m c r10 end l =
    set_then _ _ _ _ _ _ _ _ _ (base_of area data_at) (omega (arith, end))
    (compute_then _ _ _ _ _ _ _ _ _ _ _ (16 * first) (sub_is _ _ _ (omega (arith, r10)) (omega (arith, r10, end, l)))
    (imm_then _ _ _ _ _ _ _ _ _ _ _ first (over_16 _ first (omega arith))
    (skip_ends _ _ _ _ _ _ (refl, (refl, omega arith)))))
