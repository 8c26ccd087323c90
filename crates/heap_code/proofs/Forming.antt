-- Each fragment has its fields in their ranges, whatever the plan, and few words.
use Rattle.std.proofs.Common.{◌≡◌, ℕ, ◌+◌, ◌-◌, ◌*◌, ◌%◌, ◌^◌, ◌<◌, ◌≤◌, ◌==◌, cond, Bool, true, false, List, [], ◌∷◌}
use Rattle.std.proofs.Common.{length, refl, arith}
use Rattle.std.specs.Prelude.{nat_lt}
use Rattle.std.specs.List.{list_any}
use Rattle.std.proofs.lemmas.Bool.Decides.{nat_tests}
use Rattle.rv_isa.specs.declared.Op.TheVariants.{Add, And, Sub}
use Rattle.rv_isa.specs.declared.Cond.TheVariants.{Eq, Ltu}
use Rattle.plan_core.specs.declared.types.Area.{Area}
use Rattle.plan_core.specs.declared.types.Row.{Row}
use Rattle.place_spec.specs.Layout.{chunk_size}
use Rattle.place_spec.proofs.Lists.{Each}
use Rattle.frag_code.specs.Fragments.{Skip, Set, Compute, Imm, Seq, If, chained}
use Rattle.frag_code.specs.Forms.{is_target, is_source}
use Rattle.frag_rules.specs.Checks.{is_near, has_fields, words_in}
use Rattle.heap_holes.specs.Placing.{first_fit}
use Rattle.heap_chunks.specs.Chunks.{place_high, release_high}
use Rattle.heap_chunks.specs.Constants.{constant, plus_constant, minus_constant}
use Rattle.heap_chunks.specs.Groups.{mask_test, row_tests, group_tests}
use Rattle.heap_code.specs.Calls.{grant, calloc_code, free_code}
use Rattle.heap_code.specs.Moving.{realloc_code}
use Rattle.heap_code.specs.Pieces.{settle, place_low, has_groups, place_block, free_low, free_block}

near_is : (x : ℕ) → x < 2 ^ 32 → (x + 2 ^ 11) % 2 ^ 32 < 2 ^ 12 → is_near x ≡ true
near_is x word sign =
    let first : nat_lt x (2 ^ 32) ≡ true = grind (arith, nat_tests) in
    let second : nat_lt ((x + 2 ^ 11) % 2 ^ 32) (2 ^ 12) ≡ true = grind (arith, nat_tests) in
    rw (first, second) refl

near_small : (x : ℕ) → x < 2048 → is_near x ≡ true
near_small x l = near_is x (omega (arith, l)) (omega (arith, l))

near_minus : (v : ℕ) → v - 1 < 2048 → is_near ((2 ^ 32 - v) % 2 ^ 32) ≡ true
near_minus v l = near_is ((2 ^ 32 - v) % 2 ^ 32) (omega arith) (omega (arith, l))

-- constants
constant_fields : (rd v : ℕ) → is_target rd ≡ true → has_fields (constant rd v) ≡ true
constant_fields rd v t = by (nat_lt v 2048) refl
  where
    by : (u : Bool) → nat_lt v 2048 ≡ u → has_fields (cond u (Imm Add rd 0 v) (Set rd v)) ≡ true
    by true e = let n : is_near v ≡ true = near_small v (grind (arith, nat_tests)) in rw (t, n) refl
    by false e = t

plus_fields : (rd rs spare v : ℕ) → is_target rd ≡ true → is_source rs ≡ true
    → is_target spare ≡ true → is_source spare ≡ true
    → has_fields (plus_constant rd rs spare v) ≡ true
plus_fields rd rs spare v t s p q = by (nat_lt v 2048) refl
  where
    by : (u : Bool) → nat_lt v 2048 ≡ u
        → has_fields (cond u (Imm Add rd rs v) (Seq (Set spare v) (Compute Add rd rs spare))) ≡ true
    by true e = let n : is_near v ≡ true = near_small v (grind (arith, nat_tests)) in rw (t, s, n) refl
    by false e = rw (q, p, t, s) refl

minus_fields : (rd rs spare v : ℕ) → is_target rd ≡ true → is_source rs ≡ true
    → is_target spare ≡ true → is_source spare ≡ true
    → has_fields (minus_constant rd rs spare v) ≡ true
minus_fields rd rs spare v t s p q = by (nat_lt (v - 1) 2048) refl
  where
    by : (u : Bool) → nat_lt (v - 1) 2048 ≡ u
        → has_fields (cond u (Imm Add rd rs ((2 ^ 32 - v) % 2 ^ 32)) (Seq (Set spare v) (Compute Sub rd rs spare)))
        ≡ true
    by true e = let n : is_near ((2 ^ 32 - v) % 2 ^ 32) ≡ true = near_minus v (grind (arith, nat_tests)) in
        rw (t, s, n) refl
    by false e = rw (q, p, t, s) refl

constant_words : (rd v : ℕ) → words_in (constant rd v) ≤ 2
constant_words rd v = by (nat_lt v 2048)
  where
    by : (u : Bool) → words_in (cond u (Imm Add rd 0 v) (Set rd v)) ≤ 2
    by true = omega arith
    by false = omega arith

plus_words : (rd rs spare v : ℕ) → words_in (plus_constant rd rs spare v) ≤ 3
plus_words rd rs spare v = by (nat_lt v 2048)
  where
    by : (u : Bool) → words_in (cond u (Imm Add rd rs v) (Seq (Set spare v) (Compute Add rd rs spare))) ≤ 3
    by true = omega arith
    by false = omega arith

minus_words : (rd rs spare v : ℕ) → words_in (minus_constant rd rs spare v) ≤ 3
minus_words rd rs spare v = by (nat_lt (v - 1) 2048)
  where
    by : (u : Bool) → words_in (cond u (Imm Add rd rs ((2 ^ 32 - v) % 2 ^ 32))
        (Seq (Set spare v) (Compute Sub rd rs spare))) ≤ 3
    by true = omega arith
    by false = omega arith

-- the tests of the rows
mask_fields : (mask : ℕ) → has_fields (mask_test mask) ≡ true
mask_fields mask = by (nat_lt mask 2048) refl
  where
    by : (u : Bool) → nat_lt mask 2048 ≡ u
        → has_fields (cond u (Imm And 30 13 mask) (Seq (Set 30 mask) (Compute And 30 30 13))) ≡ true
    by true e = let n : is_near mask ≡ true = near_small mask (grind (arith, nat_tests)) in rw n refl
    by false e = refl

mask_words : (mask : ℕ) → words_in (mask_test mask) ≤ 3
mask_words mask = by (nat_lt mask 2048)
  where
    by : (u : Bool) → words_in (cond u (Imm And 30 13 mask) (Seq (Set 30 mask) (Compute And 30 30 13))) ≤ 3
    by true = omega arith
    by false = omega arith

rows_fields : (rows : List Row) → Each (λ row. row.group < 16) rows → has_fields (row_tests rows) ≡ true
rows_fields [] h = refl
rows_fields (row ∷ rows) h =
    let small = h.0 in
    let n : is_near (64 + 4 * row.group) ≡ true = near_small (64 + 4 * row.group) (omega (arith, small)) in
    rw (mask_fields row.mask, n, rows_fields rows h.1) refl

rows_words : (rows : List Row) → words_in (row_tests rows) ≤ 7 * length rows + 1
rows_words [] = omega arith
rows_words (row ∷ rows) = let m = mask_words row.mask in let r = rows_words rows in omega (arith, m, r)

tests_fields : (rows : List Row) → Each (λ row. row.group < 16) rows → has_fields (group_tests rows) ≡ true
tests_fields rows h = by (list_any (λ row. row.mask == 0) rows)
  where
    by : (u : Bool) → has_fields (cond u (row_tests rows) (If Eq 5 0 (Compute Add 14 31 0) (row_tests rows))) ≡ true
    by true = rows_fields rows h
    by false = rw (rows_fields rows h) refl

tests_words : (rows : List Row) → words_in (group_tests rows) ≤ 7 * length rows + 5
tests_words rows = let r = rows_words rows in by r (list_any (λ row. row.mask == 0) rows)
  where
    by : words_in (row_tests rows) ≤ 7 * length rows + 1 → (u : Bool)
        → words_in (cond u (row_tests rows) (If Eq 5 0 (Compute Add 14 31 0) (row_tests rows))) ≤ 7 * length rows + 5
    by r true = omega (arith, r)
    by r false = omega (arith, r)

-- placing and releasing in chunks
module _ (area : Area) (low : area.log_chunk < 32) where
  log_is : nat_lt area.log_chunk 32 ≡ true
  log_is = grind (arith, nat_tests)

  high_fields : has_fields (place_high area) ≡ true
  high_fields = rw (
    constant_fields 28 (chunk_size area) refl,
    plus_fields
        15 7 28 area.fallback refl refl refl refl,
    log_is,
  ) refl

  release_fields : has_fields (release_high area) ≡ true
  release_fields = rw (minus_fields 7 10 28 area.fallback refl refl refl refl, log_is) refl

high_words : (area : Area) → words_in (place_high area) ≤ 110
high_words area =
    let c = constant_words 28 (chunk_size area) in let p = plus_words 15 7 28 area.fallback in omega (arith, c, p)

release_words : (area : Area) → words_in (release_high area) ≤ 24
release_words area = let m = minus_words 7 10 28 area.fallback in omega (arith, m)

-- the pieces
settle_fields : (area : Area) (data_at : ℕ) → has_fields (settle area data_at) ≡ true
settle_fields area data_at = rw (plus_fields 11 12 11 (128 + 16 * area.chunks) refl refl refl refl) refl

settle_words : (area : Area) (data_at : ℕ) → words_in (settle area data_at) ≤ 6
settle_words area data_at = let p = plus_words 11 12 11 (128 + 16 * area.chunks) in omega (arith, p)

low_fields : (area : Area) → has_fields (place_low area) ≡ true
low_fields area = by (area.fallback == 0)
  where
    by : (u : Bool) → has_fields (cond u (Compute Add 15 31 0) first_fit) ≡ true
    by true = refl
    by false = refl

low_words : (area : Area) → words_in (place_low area) ≤ 38
low_words area = by (area.fallback == 0)
  where
    by : (u : Bool) → words_in (cond u (Compute Add 15 31 0) first_fit) ≤ 38
    by true = omega arith
    by false = omega arith

free_low_fields : (area : Area) → has_fields (free_low area) ≡ true
free_low_fields area = rw (plus_fields 11 12 11 (128 + 16 * area.chunks) refl refl refl refl) refl

free_low_words : (area : Area) → words_in (free_low area) ≤ 53
free_low_words area = let p = plus_words 11 12 11 (128 + 16 * area.chunks) in omega (arith, p)

module _ (area : Area) (low : area.log_chunk < 32) where
  free_fields : has_fields (free_block area) ≡ true
  free_fields = by (area.fallback == 0) (area.chunks == 0)
    where
      by : (t u : Bool)
          → has_fields (cond t (release_high area)
          (cond u (free_low area) (chained (constant 7 area.fallback
          ∷ If Ltu 10 7 (free_low area) (release_high area) ∷ [])))) ≡ true
      by true u = release_fields area low
      by false true = free_low_fields area
      by false false = rw (constant_fields 7 area.fallback refl, free_low_fields area, release_fields area low) refl

free_words : (area : Area) → words_in (free_block area) ≤ 84
free_words area = by (free_low_words area) (release_words area) (constant_words 7 area.fallback)
    (area.fallback == 0) (area.chunks == 0)
  where
    by : words_in (free_low area) ≤ 53 → words_in (release_high area) ≤ 24
        → words_in (constant 7 area.fallback) ≤ 2 → (t u : Bool)
        → words_in (cond t (release_high area)
        (cond u (free_low area) (chained (constant 7 area.fallback
        ∷ If Ltu 10 7 (free_low area) (release_high area) ∷ [])))) ≤ 84
    by l h c true u = omega (arith, h)
    by l h c false true = omega (arith, l)
    by l h c false false = omega (arith, l, h, c)

module _ (rows : List Row) (area : Area) (groups : Each (λ row. row.group < 16) rows) (low : area.log_chunk < 32) where
  place_fields : has_fields (place_block rows area) ≡ true
  place_fields = by (has_groups rows area)
    where
      by : (t : Bool)
          → has_fields (cond t (chained (Compute Sub 13 31 5 ∷ group_tests rows
          ∷ If Eq 14 31 (Compute Add 15 31 0) (place_high area) ∷ If Eq 15 31 (place_low area) Skip ∷ []))
          (place_low area)) ≡ true
      by true = rw (tests_fields rows groups, high_fields area low, low_fields area) refl
      by false = low_fields area

  pub grant_fields : (data_at : ℕ) → has_fields (grant rows area data_at) ≡ true
  grant_fields data_at = rw (settle_fields area data_at, place_fields) refl

  pub calloc_fields : (data_at : ℕ) → has_fields (calloc_code rows area data_at) ≡ true
  calloc_fields data_at = rw (grant_fields data_at) refl

  pub realloc_fields : (data_at : ℕ) → has_fields (realloc_code rows area data_at) ≡ true
  realloc_fields data_at = rw (settle_fields area data_at, place_fields, free_fields area low) refl

pub release_call_fields : (area : Area) (data_at : ℕ) → area.log_chunk < 32 → has_fields (free_code area data_at) ≡ true
release_call_fields area data_at low = rw (free_fields area low) refl

place_words : (rows : List Row) (area : Area) → words_in (place_block rows area) ≤ 7 * length rows + 170
place_words rows area = by (tests_words rows) (high_words area) (low_words area) (has_groups rows area)
  where
    by : words_in (group_tests rows) ≤ 7 * length rows + 5 → words_in (place_high area) ≤ 110
        → words_in (place_low area) ≤ 38 → (t : Bool)
        → words_in (cond t (chained (Compute Sub 13 31 5 ∷ group_tests rows
        ∷ If Eq 14 31 (Compute Add 15 31 0) (place_high area) ∷ If Eq 15 31 (place_low area) Skip ∷ []))
        (place_low area)) ≤ 7 * length rows + 170
    by g h l true = omega (arith, g, h, l)
    by g h l false = omega (arith, l)

pub grant_words : (rows : List Row) (area : Area) (data_at : ℕ)
    → words_in (grant rows area data_at) ≤ 7 * length rows + 200
grant_words rows area data_at = let s = settle_words area data_at in let p =
    place_words rows area in omega (arith, s, p)

pub calloc_words : (rows : List Row) (area : Area) (data_at : ℕ)
    → words_in (calloc_code rows area data_at) ≤ 7 * length rows + 206
calloc_words rows area data_at = let g = grant_words rows area data_at in omega (arith, g)

pub realloc_words : (rows : List Row) (area : Area) (data_at : ℕ)
    → words_in (realloc_code rows area data_at) ≤ 7 * length rows + 330
realloc_words rows area data_at =
    let s = settle_words area data_at in let p = place_words rows area in
    let f = free_words area in omega (arith, s, p, f)

pub release_call_words : (area : Area) (data_at : ℕ) → words_in (free_code area data_at) ≤ 94
release_call_words area data_at = let f = free_words area in omega (arith, f)
