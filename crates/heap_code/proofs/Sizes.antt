-- A size becomes the granules that it needs, and the registers that stay are set.
use Rattle.std.proofs.Common.{◌≡◌, ℕ, zero, suc, ◌+◌, ◌-◌, ◌*◌, ◌/◌, ◌^◌, ◌<◌, ◌≤◌, refl, arith}
use Rattle.std.specs.Prelude.{max}
use Rattle.plan_core.specs.declared.types.Area.{Area}
use Rattle.place_spec.specs.Layout.{granules_for}
use Rattle.heap_spec.specs.Places.{rows_at}
use Rattle.heap_spec.specs.Tables.{none_word}
use Rattle.frag_code.specs.Meaning.{Rights, put, frag_run}
use Rattle.frag_code.specs.Ends.{Ends}
use Rattle.frag_code.proofs.Rules.{view, seq_ends, skip_ends, imm_then, compute_then, set_then}
use Rattle.frag_rules.proofs.Values.{sum_is, add_is, sub_is, over_16, below_is, not_below_is}
use Rattle.heap_chunks.specs.Results.{Settled}
use Rattle.heap_chunks.proofs.Sums.{Gives, plus_ends}
use Rattle.heap_code.specs.Pieces.{size_need, settle}

need_is : (size : ℕ) → (size + 15) / 16 ≡ (size - 1) / 16 + 1 → 0 < size
    → max 1 ((size + 15) / 16) ≡ (size - 1) / 16 + 1
need_is size e l = omega (arith, e)

-- the granules, and no register but x6 and x10
pub need_ends : (g : Rights) (w : ℕ) (r m : ℕ → ℕ) (c size : ℕ) → r 10 ≡ size → size < 2 ^ 32
    → Ends (frag_run g size_need w (view r m c)) (λ t. (t.registers 10 ≡ granules_for size)
    × ((t.memory ≡ m) × (t.spent ≤ c + 12)))
need_ends g w r m c zero e l =
    compute_then _ _ _ _ _ _ _ _ _ _ _ 0 (not_below_is 0 (r 10) (omega (arith, e)))
    (compute_then _ _ _ _ _ _ _ _ _ _ _ 0 (sub_is _ _ 0 (omega (arith, e)) (omega (arith, e)))
    (imm_then _ _ _ _ _ _ _ _ _ _ _ 0 (over_16 _ 0 refl)
    (imm_then _ _ _ _ _ _ _ _ _ _ _ 1 (add_is _ _ 1 refl (omega arith))
    (skip_ends _ _ _ _ _ _ (refl, (refl, omega arith))))))
need_ends g w r m c (suc n) e l =
    compute_then _ _ _ _ _ _ _ _ _ _ _ 1 (below_is 0 (r 10) (omega (arith, e)))
    (compute_then _ _ _ _ _ _ _ _ _ _ _ n (sub_is _ _ n (omega (arith, e)) (omega (arith, e, l)))
    (imm_then _ _ _ _ _ _ _ _ _ _ _ (n / 16) (over_16 _ (n / 16) refl)
    (imm_then _ _ _ _ _ _ _ _ _ _ _ (n / 16 + 1) (add_is _ _ (n / 16 + 1) refl (omega (arith, l)))
    (skip_ends _ _ _ _ _ _ (let q : n / 16 + 1 ≡ max 1 ((suc n + 15) / 16) = omega arith in q, (refl, omega arith))))))

pub need_some : (size : ℕ) → 1 ≤ granules_for size
need_some size = omega arith

pub need_small : (size : ℕ) → size < 2 ^ 32 → granules_for size < 2 ^ 31
need_small size l = omega (arith, l)

-- the registers that stay
pub settle_ends : (g : Rights) (w : ℕ) (area : Area) (data_at : ℕ) (r m : ℕ → ℕ) (c : ℕ) → rows_at area data_at < 2 ^ 32
    → Ends (frag_run g (settle area data_at) w (view r m c)) (λ t. Settled area data_at t.registers
    × ((t.memory ≡ m) × (t.spent ≤ c + 12)))
settle_ends g w area data_at r m c l =
    imm_then _ _ _ _ _ _ _ _ _ _ _ none_word (sum_is _ _ none_word refl)
    (set_then _ _ _ _ _ _ _ _ _ data_at (omega (arith, l))
    (seq_ends _ _ _ _ _ _ _ _ (Gives 11 11 (rows_at area data_at) (put (put r 31 none_word) 12 data_at)
    m (c + 3 + 3 + 6))
    (plus_ends g w (put (put r 31 none_word) 12 data_at) m (c + 3 + 3) 11
    12 11 (128 + 16 * area.chunks) (rows_at area data_at) refl refl (omega arith) l)
    (λ r' m' c' q. let sp = q.spent in skip_ends _ _ _ _ _ _ (
      record {
        none = q.others 31 refl refl;
        tables = q.others 12 refl refl;
        rows = q.is;
      },
      (q.memory, omega (arith, sp)),
    ))))
