-- What requests lead to, by whether and where a block is placed.
use Rattle.std.proofs.Common.{◌≡◌, ℕ, ◌^◌, ◌<◌, ◌≤◌, true, false, List, refl, arith, Some, None}
use Rattle.std.specs.Prelude.{nat_lt}
use Rattle.std.proofs.lemmas.Bool.Decides.{nat_tests}
use Rattle.plan_core.specs.declared.types.Plan.{Plan}
use Rattle.place_spec.specs.Layout.{granules_for}
use Rattle.place_spec.specs.Place.{Placed, placed}
use Rattle.place_spec.specs.Release.{then_released}
use Rattle.sym_value.specs.declared.Value.TheVariants.{Num, Ptr}
use Rattle.sym_cells.specs.Memory.{granted, copied, dropped}
use Rattle.sym_spec.specs.SymMachine.{SymMachine}
use Rattle.sym_spec.specs.HeapActions.{answers, grants, moves, with_block, next_name, granule_in}

pub grants_big : (file : List ℕ) (plan : Plan) (size : ℕ) (m : SymMachine) → 2 ^ 32 ≤ size
    → grants file plan size m ≡ answers (Num 0) m
grants_big file plan size m l = let t : nat_lt size (2 ^ 32) ≡ false = grind (arith, nat_tests) in rw t refl

pub grants_none : (file : List ℕ) (plan : Plan) (size : ℕ) (m : SymMachine) → size < 2 ^ 32
    → placed plan.rows plan.area m.layout (granules_for size) m.bits ≡ None
    → grants file plan size m ≡ answers (Num 0) m
grants_none file plan size m l e = let t : nat_lt size (2 ^ 32) ≡ true = grind (arith, nat_tests) in rw (t, e) refl

pub grants_some : (file : List ℕ) (plan : Plan) (size : ℕ) (m : SymMachine) (p : Placed) → size < 2 ^ 32
    → placed plan.rows plan.area m.layout (granules_for size) m.bits ≡ Some p
    → grants file plan size m ≡ record {
      machine = with_block file plan (granules_for size) p m;
      answer = Ptr (next_name m) 0;
      grant = Some (next_name m);
      release = None;
    }
grants_some file plan size m p l e = let t : nat_lt size (2 ^ 32) ≡ true = grind (arith, nat_tests) in rw (t, e) refl

pub moves_none : (file : List ℕ) (plan : Plan) (b size : ℕ) (m : SymMachine)
    → placed plan.rows plan.area m.layout (granules_for size) m.bits ≡ None
    → moves file plan b size m ≡ answers (Num 0) m
moves_none file plan b size m e = rw e refl

pub moves_some : (file : List ℕ) (plan : Plan) (b size : ℕ) (m : SymMachine) (p : Placed)
    → placed plan.rows plan.area m.layout (granules_for size) m.bits ≡ Some p
    → moves file plan b size m ≡ record {
      machine = record (with_block file plan (granules_for size)
          (then_released plan.area (granule_in file plan b m) p) m) {
            memory = dropped b (copied b (next_name m) (granted (granules_for size) m.memory));
          };
      answer = Ptr (next_name m) 0;
      grant = Some (next_name m);
      release = Some b;
    }
moves_some file plan b size m p e = rw e refl
