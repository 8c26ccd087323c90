-- Words that stand for values, and the law of operations and conditions on them.
use Rattle.std.proofs.Common.{◌≡◌, ℕ, ◌^◌, ◌<◌, Bool, refl}
use Rattle.std.specs.Prelude.{Some}
use Rattle.rv_isa.specs.declared.Op.{Op}
use Rattle.rv_isa.specs.declared.Cond.{Cond}
use Rattle.rv_isa.specs.Compute.{computed, is_held}
use Rattle.rv_isa.proofs.Bounds.{computed-lt}
use Rattle.sym_value.specs.declared.Value.{Value}
use Rattle.sym_value.specs.declared.Value.TheVariants.{Num, Ret, Unset}
use Rattle.sym_value.specs.Places.{Lives}
use Rattle.sym_value.specs.Decisions.{decide}
use Rattle.sym_value.specs.Operations.{apply}
use Rattle.sym_value.specs.Standing.{IsReturn, Placed}
use Rattle.match_spec.specs.Stands.{Places, Holds}
use Rattle.simulation.specs.Laws.{Laws}

pub holds_num : (places : Places) (w : ℕ) → w < 2 ^ 32 → Holds places (Num w) w
holds_num places w small = record { is = record { stands = refl; value = tt }; small = small }

pub holds_unset : (places : Places) (w : ℕ) → w < 2 ^ 32 → Holds places Unset w
holds_unset places w small = record { is = record { stands = tt; value = tt }; small = small }

pub holds_ret : (places : Places) (a w : ℕ) → IsReturn a → places.back a ≡ w → w < 2 ^ 32 → Holds places (Ret a) w
holds_ret places a w h e small = record { is = record { stands = e; value = h }; small = small }

-- the law of operations
pub apply_holds : (places : Places) (live : Lives) (op : Op) (x y : Value) (v w : ℕ) → Laws → Placed live places.blocks
    → Holds places x v → Holds places y w → Holds places (apply live op x y) (computed op v w)
apply_holds places live op x y v w laws placed h k = record {
  is = laws.operations places.back places.blocks live op x y v w placed h.small k.small h.is k.is;
  small = computed-lt op v w h.small k.small;
}

-- the law of conditions
pub decide_holds : (places : Places) (live : Lives) (condition : Cond) (x y : Value) (v w : ℕ) (b : Bool) → Laws
    → Placed live places.blocks → Holds places x v → Holds places y w → decide live condition x y ≡ Some b
    → is_held condition v w ≡ b
decide_holds places live condition x y v w b laws placed h k e =
    laws.conditions places.back places.blocks live condition x y b v w placed h.is k.is e
