-- The law of operations, row by row.
use Rattle.std.proofs.Common.{◌≡◌, ℕ, ◌^◌, ◌<◌, List, Option, Some, None, refl}
use Rattle.rv_isa.specs.declared.Op.{Op}
use Rattle.rv_isa.specs.Compute.{computed}
use Rattle.sym_value.specs.declared.Value.{Value}
use Rattle.sym_value.specs.Places.{Lives}
use Rattle.sym_value.specs.Operations.{otherwise, apply}
use Rattle.sym_value.specs.Standing.{Holds, Placed}
use Rattle.sym_value.proofs.RowLaws.{either, of_numbers_holds, right_zero_holds, left_zero_holds, moved_up_holds}
use Rattle.sym_value.proofs.RowLaws.{moved_down_holds, distance_holds, distance_of_blocks_holds}
use Rattle.sym_value.proofs.RowLaws.{outer_less_pointer_holds, xor_in_block_holds, xor_of_blocks_holds}
use Rattle.sym_value.proofs.RowLaws.{xor_with_outer_holds, or_of_pointers_holds, or_with_number_holds, or_of_mix_holds}
use Rattle.sym_value.proofs.RowLaws.{low_bits_holds, rounded_down_holds, low_bits_of_mix_holds, whole_byte_holds}
use Rattle.sym_value.proofs.RowLaws.{compared_holds}

-- the first row that fits, or what stands below it
first : (o : Option Value) (rest : Value) (P : Value → Type 0) → ((x : Value) → o ≡ Some x → P x) → (o ≡ None → P rest)
    → P (otherwise o rest)
first (Some x) rest P f g = f x refl
first None rest P f g = g refl

pub apply_holds : (back : ℕ → ℕ) (at : List ℕ) (live : Lives) (op : Op) (a b : Value) (v w : ℕ) → Placed live at
    → v < 2 ^ 32 → w < 2 ^ 32 → Holds back at a v → Holds back at b w
    → Holds back at (apply live op a b) (computed op v w)
unfolding apply
apply_holds back at live op a b v w placed sv sw sa sb =
    first _ _ P (λ x e. of_numbers_holds back at op a b x v w sv sw sa sb e)
    (λ _. first _ _ P (λ x e. either back at _ (right_zero_holds back at) op a b x v w sv sw sa sb e)
    (λ nonzero. first _ _ P (λ x e. either back at _ (left_zero_holds back at) op a b x v w sv sw sa sb e)
    (λ _. first _ _ P (λ x e. moved_up_holds back at op a b x v w sv sw sa sb e)
    (λ _. first _ _ P (λ x e. moved_down_holds back at op a b x v w sv sw sa sb e)
    (λ _. first _ _ P (λ x e. distance_holds back at op a b x v w sv sw sa sb e)
    (λ _. first _ _ P (λ x e. distance_of_blocks_holds back at live placed op a b x v w sv sw sa sb e)
    (λ _. first _ _ P (λ x e. outer_less_pointer_holds back at live placed op a b x v w sv sw sa sb e)
    (λ _. first _ _ P (λ x e. either back at _ (xor_in_block_holds back at live placed) op a b x v w sv sw sa sb e)
    (λ _. first _ _ P (λ x e. either back at _ (xor_of_blocks_holds back at live placed) op a b x v w sv sw sa sb e)
    (λ _. first _ _ P (λ x e. either back at _ (xor_with_outer_holds back at live placed) op a b x v w sv sw sa sb e)
    (λ _. first _ _ P (λ x e. either back at _ (or_of_pointers_holds back at live placed) op a b x v w sv sw sa sb e)
    (λ _. first _ _ P (λ x e. or_with_number_holds back at live placed op a b x v w sa sb nonzero e)
    (λ _. first _ _ P (λ x e. either back at _ (or_of_mix_holds back at live placed) op a b x v w sv sw sa sb e)
    (λ _. first _ _ P (λ x e. either back at _ (low_bits_holds back at live placed) op a b x v w sv sw sa sb e)
    (λ _. first _ _ P (λ x e. either back at _ (rounded_down_holds back at live placed) op a b x v w sv sw sa sb e)
    (λ _. first _ _ P (λ x e. either back at _ (low_bits_of_mix_holds back at) op a b x v w sv sw sa sb e)
    (λ _. first _ _ P (λ x e. either back at _ (whole_byte_holds back at) op a b x v w sv sw sa sb e)
    (λ _. first _ _ P (λ x e. compared_holds back at live placed op a b x v w sv sw sa sb e)
    (λ _. record { stands = tt; value = tt })))))))))))))))))))
  where
    P : Value → Type 0
    P x = Holds back at x (computed op v w)
