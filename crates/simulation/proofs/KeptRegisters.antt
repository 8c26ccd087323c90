-- Registers after a heap function: those that it may change are unset, but for its answer.
use Rattle.std.proofs.Common.{◌≡◌, ◌≢◌, ℕ, zero, suc, ◌+◌, ◌^◌, ◌<◌, List, [], ◌∷◌, ◌++◌, Bool, true, false, cond}
use Rattle.std.proofs.Common.{length, refl, ap, sym, ◌∙◌, subst, arith, length-set, get_or-set_same, get_or-set_other}
use Rattle.std.specs.Prelude.{nat_eq, slice_index_or, slice_set}
use Rattle.std.proofs.lemmas.Bool.Decides.{nat_tests}
use Rattle.plan_core.specs.declared.types.Plan.{Plan}
use Rattle.flat_spec.specs.Machine.{word_read}
use Rattle.heap_spec.specs.Service.{may_change}
use Rattle.sym_value.specs.declared.Value.{Value}
use Rattle.sym_value.specs.declared.Value.TheVariants.{Num, Unset}
use Rattle.sym_spec.specs.SymMachine.{value_read}
use Rattle.sym_spec.specs.HeapActions.{kept_from}
use Rattle.match_spec.specs.Stands.{Places, places_of, back_of, Holds}
use Rattle.match_spec.specs.Parts.{InRegisters}
use Rattle.simulation.specs.Laws.{Laws}
use Rattle.simulation.proofs.Operations.{holds_num, holds_unset}

kept_value : (values : List Value) (k r n : ℕ) → n ≡ k + r
    → slice_index_or (kept_from k values) r Unset ≡ cond (may_change n) Unset (slice_index_or values r Unset)
kept_value [] k r n e = at (may_change n)
  where
    at : (t : Bool) → slice_index_or (kept_from k []) r Unset ≡ cond t Unset (slice_index_or [] r Unset)
    at true = refl
    at false = refl
kept_value (v ∷ vs) k zero n e = let same : n ≡ k = omega (arith, e) in rw same refl
kept_value (v ∷ vs) k (suc r) n e = kept_value vs (k + 1) r n (omega (arith, e))

kept_length : (k : ℕ) (values : List Value) → length (kept_from k values) ≡ length values
kept_length k [] = refl
kept_length k (v ∷ vs) = ap suc (kept_length (k + 1) vs)

pub kept_registers : (places : Places) (values : List Value) (words now : List ℕ) (bits : ℕ) (v : Value)
    → InRegisters places values words bits → length now ≡ 32 → ((r : ℕ) → r < 32 → word_read now r < 2 ^ 32)
    → ((r : ℕ) → may_change r ≡ false → word_read now r ≡ word_read words r) → Holds places v (word_read now 10)
    → InRegisters places (slice_set (kept_from 0 values) 10 v) now bits
kept_registers places values words now bits v h long small same answer = record {
  holds = λ r low other. at r low other (nat_eq r 10) refl (nat_eq r 0) refl (may_change r) refl;
  bits_there = same 4 refl ∙ h.bits_there;
  bits_small = h.bits_small;
  spare = let apart : 4 ≢ 10 = omega arith in
      get_or-set_other (kept_from 0 values) 10 4 v Unset apart ∙ (kept_value values 0 4 4 refl ∙ h.spare);
  long = long;
  sym_long = sym_length;
}
  where
    sym_length : length (slice_set (kept_from 0 values) 10 v) ≡ 32
    sym_length = length-set (kept_from 0 values) 10 v ∙ (kept_length 0 values ∙ h.sym_long)

    value : (r : ℕ) → r ≢ 10 → (c : Bool) → nat_eq r 0 ≡ false → may_change r ≡ c
        → cond (nat_eq r 0) (Num 0) (slice_index_or (slice_set (kept_from 0 values) 10 v) r Unset)
        ≡ cond c Unset (slice_index_or values r Unset)
    value r apart c f q =
        ap (λ t. cond t (Num 0) (slice_index_or (slice_set (kept_from 0 values) 10 v) r Unset)) f
        ∙ (get_or-set_other (kept_from 0 values) 10 r v Unset apart
        ∙ (kept_value values 0 r r (omega arith) ∙ ap (λ t. cond t Unset (slice_index_or values r Unset)) q))

    at : (r : ℕ) → r < 32 → r ≢ 4 → (t : Bool) → nat_eq r 10 ≡ t → (z : Bool) → nat_eq r 0 ≡ z → (c : Bool)
        → may_change r ≡ c
        → Holds places (cond (nat_eq r 0) (Num 0) (slice_index_or (slice_set (kept_from 0 values) 10 v) r Unset))
        (word_read now r)
    at r low other true e z f c q =
        let ten : r ≡ 10 = grind (arith, nat_tests) in
        let inside : 10 < length (kept_from 0 values) = omega (arith, kept_length 0 values, h.sym_long) in
        rw (ten, get_or-set_same (kept_from 0 values) 10 v Unset inside) answer
    at r low other false e true f c q =
        let none : r ≡ 0 = grind (arith, nat_tests) in rw none (holds_num places 0 (omega arith))
    at r low other false e false f true q =
        let apart : r ≢ 10 = grind (arith, nat_tests) in
        subst (λ x. Holds places x (word_read now r)) (sym (value r apart true f q))
        (holds_unset places (word_read now r) (small r low))
    at r low other false e false f false q =
        let apart : r ≢ 10 = grind (arith, nat_tests) in
        let before : Holds places (cond false (Num 0) (slice_index_or values r Unset)) (word_read words r) =
        subst (λ t. Holds places (cond t (Num 0) (slice_index_or values r Unset)) (word_read words r)) f
        (h.holds r low other) in
        subst (λ x. Holds places x (word_read now r)) (sym (value r apart false f q))
        (subst (λ w. Holds places (slice_index_or values r Unset) w) (sym (same r q)) before)

-- registers stand for the same values where one more block has an address
pub longer_holds : (file : List ℕ) (plan : Plan) (at : List ℕ) (a : ℕ) (v : Value) (w : ℕ) → Laws
    → Holds (places_of file plan at) v w → Holds (places_of file plan (at ++ a ∷ [])) v w
longer_holds file plan at a v w laws h =
    record { is = laws.longer_value (back_of file plan) at a v w h.is; small = h.small }

pub longer_registers : (file : List ℕ) (plan : Plan) (at : List ℕ) (a : ℕ) (values : List Value) (words : List ℕ)
    (bits : ℕ) → Laws → InRegisters (places_of file plan at) values words bits
    → InRegisters (places_of file plan (at ++ a ∷ [])) values words bits
longer_registers file plan at a values words bits laws h = record {
  holds = λ r low other.
      longer_holds file plan at a (value_read values r) (word_read words r) laws (h.holds r low other);
  bits_there = h.bits_there;
  bits_small = h.bits_small;
  spare = h.spare;
  long = h.long;
  sym_long = h.sym_long;
}
