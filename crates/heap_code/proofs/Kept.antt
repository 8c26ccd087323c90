-- Placing leaves the registers that the functions use behind it.
use Rattle.std.proofs.Common.{◌≡◌, ℕ, ◌+◌, ◌*◌, ◌==◌, ◌||◌, Bool, true, false, cond, List, [], ◌∷◌, refl}
use Rattle.std.specs.Prelude.{nat_lt}
use Rattle.std.specs.List.{list_any}
use Rattle.rv_isa.specs.declared.Op.TheVariants.{Add, And, Sub}
use Rattle.rv_isa.specs.declared.Cond.TheVariants.{Eq}
use Rattle.plan_core.specs.declared.types.Area.{Area}
use Rattle.plan_core.specs.declared.types.Row.{Row}
use Rattle.place_spec.specs.Layout.{chunk_size}
use Rattle.frag_code.specs.Fragments.{Skip, Set, Compute, Imm, Seq, If, chained}
use Rattle.frag_code.specs.Frames.{assigns}
use Rattle.heap_holes.specs.Placing.{first_fit}
use Rattle.heap_chunks.specs.Constants.{constant, plus_constant}
use Rattle.heap_chunks.specs.Groups.{row_tests, group_tests}
use Rattle.heap_chunks.specs.Chunks.{place_high}
use Rattle.heap_code.specs.Pieces.{settle, place_low, has_groups, place_block}

-- none of the registers that placing writes
pub record Unused (k : ℕ) : Type 0 where
  pub n5 : (5 == k) ≡ false
  pub n6 : (6 == k) ≡ false
  pub n7 : (7 == k) ≡ false
  pub n13 : (13 == k) ≡ false
  pub n14 : (14 == k) ≡ false
  pub n15 : (15 == k) ≡ false
  pub n28 : (28 == k) ≡ false
  pub n29 : (29 == k) ≡ false
  pub n30 : (30 == k) ≡ false

pub unused_10 : Unused 10
unused_10 = record {
  n5 = refl;
  n6 = refl;
  n7 = refl;
  n13 = refl;
  n14 = refl;
  n15 = refl;
  n28 = refl;
  n29 = refl;
  n30 = refl;
}

pub unused_11 : Unused 11
unused_11 = record {
  n5 = refl;
  n6 = refl;
  n7 = refl;
  n13 = refl;
  n14 = refl;
  n15 = refl;
  n28 = refl;
  n29 = refl;
  n30 = refl;
}

pub unused_12 : Unused 12
unused_12 = record {
  n5 = refl;
  n6 = refl;
  n7 = refl;
  n13 = refl;
  n14 = refl;
  n15 = refl;
  n28 = refl;
  n29 = refl;
  n30 = refl;
}

pub unused_17 : Unused 17
unused_17 = record {
  n5 = refl;
  n6 = refl;
  n7 = refl;
  n13 = refl;
  n14 = refl;
  n15 = refl;
  n28 = refl;
  n29 = refl;
  n30 = refl;
}

pub unused_31 : Unused 31
unused_31 = record {
  n5 = refl;
  n6 = refl;
  n7 = refl;
  n13 = refl;
  n14 = refl;
  n15 = refl;
  n28 = refl;
  n29 = refl;
  n30 = refl;
}

pub nor : (a b : Bool) → a ≡ false → b ≡ false → (a || b) ≡ false
nor a b e f = rw (e, f) refl

pub constant_keeps : (rd v k : ℕ) → (rd == k) ≡ false → assigns (constant rd v) k ≡ false
constant_keeps rd v k e = by (nat_lt v 2048)
  where
    by : (t : Bool) → assigns (cond t (Imm Add rd 0 v) (Set rd v)) k ≡ false
    by true = e
    by false = e

pub plus_keeps : (rd rs spare v k : ℕ) → (rd == k) ≡ false → (spare == k) ≡ false
    → assigns (plus_constant rd rs spare v) k ≡ false
plus_keeps rd rs spare v k e f = by (nat_lt v 2048)
  where
    by : (t : Bool) → assigns (cond t (Imm Add rd rs v) (Seq (Set spare v) (Compute Add rd rs spare))) k ≡ false
    by true = e
    by false = rw (f, e) refl

tests_keep : (rows : List Row) (k : ℕ) → Unused k → assigns (row_tests rows) k ≡ false
tests_keep [] k u = u.n14
tests_keep (row ∷ rows) k u = rw (mask (nat_lt row.mask 2048), u.n14, tests_keep rows k u) refl
  where
    mask : (t : Bool) → assigns (cond t (Imm And 30 13 row.mask) (Seq (Set 30 row.mask) (Compute And 30 30 13))) k
        ≡ false
    mask true = u.n30
    mask false = rw (u.n30) refl

pub groups_keep : (rows : List Row) (k : ℕ) → Unused k → assigns (group_tests rows) k ≡ false
groups_keep rows k u = by (list_any (λ row. row.mask == 0) rows)
  where
    by : (t : Bool) → assigns (cond t (row_tests rows) (If Eq 5 0 (Compute Add 14 31 0) (row_tests rows))) k ≡ false
    by true = tests_keep rows k u
    by false = rw (u.n14, tests_keep rows k u) refl

pub high_keeps : (area : Area) (k : ℕ) → Unused k → assigns (place_high area) k ≡ false
high_keeps area k u =
    rw (
      constant_keeps 28 (chunk_size area) k u.n28,
      plus_keeps 15 7 28 area.fallback
          k u.n15 u.n28,
      u.n6,
      u.n7,
      u.n15,
      u.n29,
      u.n30,
    ) refl

low_keeps : (area : Area) (k : ℕ) → Unused k → assigns (place_low area) k ≡ false
low_keeps area k u = by (area.fallback == 0)
  where
    by : (t : Bool) → assigns (cond t (Compute Add 15 31 0) first_fit) k ≡ false
    by true = u.n15
    by false = rw (u.n5, u.n7, u.n15, u.n28, u.n29) refl

pub placing_keeps : (rows : List Row) (area : Area) (k : ℕ) → Unused k → assigns (place_block rows area) k ≡ false
placing_keeps rows area k u = by (has_groups rows area)
  where
    by : (t : Bool)
        → assigns (cond t (chained (Compute Sub 13 31 5 ∷ group_tests rows
        ∷ If Eq 14 31 (Compute Add 15 31 0) (place_high area) ∷ If Eq 15 31 (place_low area) Skip ∷ []))
        (place_low area)) k ≡ false
    by true =
        nor _ _ u.n13 (nor _ _ (groups_keep rows k u)
        (nor _ _ (nor _ _ u.n15 (high_keeps area k u)) (nor _ _ (nor _ _ (low_keeps area k u) refl) refl)))
    by false = low_keeps area k u

-- setting the registers that stay writes no other
pub settle_keeps : (area : Area) (data_at k : ℕ) → (31 == k) ≡ false → (12 == k) ≡ false → (11 == k) ≡ false
    → assigns (settle area data_at) k ≡ false
settle_keeps area data_at k a b c =
    nor _ _ a (nor _ _ b (nor _ _ (plus_keeps 11 12 11 (128 + 16 * area.chunks) k c c) refl))
