-- A chunk has at most as many live blocks as granules.
use Rattle.std.proofs.Common.{◌≡◌, ◌≢◌, ℕ, zero, suc, ◌+◌, ◌<◌, ◌≤◌, ◌==◌, cond, Bool, true, false, ◌&&◌, List, [], ◌∷◌}
use Rattle.std.proofs.Common.{refl, sym, ◌∙◌, ap, subst, arith}
use Rattle.std.specs.Prelude.{nat_le, nat_lt, count_by}
use Rattle.std.proofs.lemmas.List.Sums.{sum_by-cons}
use Rattle.std.proofs.lemmas.Bool.{eqb-true, ne_eqb}
use Rattle.std.proofs.lemmas.Bool.Decides.{nat_tests}
use Rattle.plan_core.specs.declared.types.Area.{Area}
use Rattle.place_spec.specs.Layout.{Block, Layout, chunk_of, chunk_size, chunk_front}
use Rattle.place_spec.specs.Sound.{is_in_chunk}
use Rattle.place_spec.proofs.Lists.{Each, Pairs, each_map}
use Rattle.place_spec.proofs.Blocks.{Differ}
use Rattle.place_spec.proofs.Fronts.{front_next}
use Rattle.place_spec.proofs.Leaving.{differ}
use Rattle.place_spec.proofs.SoundParts.{Stands, Parts}

abbrev one : Bool → ℕ
one t = cond t 1 0

-- a block begins among n granules from one on
abbrev begins : (from n : ℕ) → Block → Bool
begins from n b = nat_le from b.first && nat_lt b.first (from + n)

abbrev begins_at : ℕ → Block → Bool
begins_at at b = b.first == at

none_at : (at : ℕ) (xs : List Block) → Each (λ x. x.first ≢ at) xs → count_by (begins_at at) xs ≡ 0
none_at at [] e = refl
none_at at (x ∷ xs) e =
    let l = sum_by-cons (λ y. one (begins_at at y)) x xs in
    let q = ap one (ne_eqb x.first at e.0) in
    let r = none_at at xs e.1 in omega (arith, l, q, r)

one_at : (at : ℕ) (xs : List Block) → Pairs Differ xs → count_by (begins_at at) xs ≤ 1
one_at at [] p = omega arith
one_at at (x ∷ xs) p = by (one_at at xs p.1) (x.first == at) refl (sum_by-cons (λ y. one (begins_at at y)) x xs)
  where
    by : count_by (begins_at at) xs ≤ 1 → (v : Bool) → (x.first == at) ≡ v
        → count_by (begins_at at) (x ∷ xs) ≡ one v + count_by (begins_at at) xs → count_by (begins_at at) (x ∷ xs) ≤ 1
    by rest true u l =
        let none = none_at at xs
        (each_map (Differ x) (λ y. y.first ≢ at) xs (λ y n e. n (eqb-true x.first at u ∙ sym e)) p.0) in
        omega (arith, l, none)
    by rest false u l = omega (arith, l, rest)

one_more : (from n first : ℕ) → one (nat_le from first && nat_lt first (from + suc n))
    ≤ one (nat_le from first && nat_lt first (from + n)) + one (first == from + n)
one_more from n first = grind (arith, nat_tests)

none_begin : (from : ℕ) (xs : List Block) → count_by (begins from 0) xs ≡ 0
none_begin from [] = refl
none_begin from (x ∷ xs) =
    let l = sum_by-cons (λ y. one (begins from 0 y)) x xs in
    let q : one (nat_le from x.first && nat_lt x.first (from + 0)) ≡ 0 = grind (arith, nat_tests) in
    let r = none_begin from xs in omega (arith, l, q, r)

sums : (from n : ℕ) (xs : List Block)
    → count_by (begins from (suc n)) xs ≤ count_by (begins from n) xs + count_by (begins_at (from + n)) xs
sums from n [] = omega arith
sums from n (x ∷ xs) =
    let l = sum_by-cons (λ y. one (begins from (suc n) y)) x xs in
    let m = sum_by-cons (λ y. one (begins from n y)) x xs in
    let o = sum_by-cons (λ y. one (begins_at (from + n) y)) x xs in
    let q = one_more from n x.first in
    let r = sums from n xs in omega (arith, l, m, o, q, r)

few : (from n : ℕ) (xs : List Block) → Pairs Differ xs → count_by (begins from n) xs ≤ n
few from zero xs p = let e = none_begin from xs in omega (arith, e)
few from (suc n) xs p =
    let s = sums from n xs in
    let r = few from n xs p in
    let o = one_at (from + n) xs p in omega (arith, s, r, o)

pub few_live : (area : Area) (layout : Layout) (k : ℕ) → Parts area layout → k < area.chunks
    → (chunk_of layout k).live ≤ chunk_size area
few_live area layout k p l =
    let d : Pairs Differ layout.blocks =
    differ layout.blocks (each_map (Stands area layout) (λ x. 0 < x.granules) layout.blocks
    (λ x h. h.filled) p.blocks) p.apart in
    let f : count_by (begins (chunk_front area k) (chunk_size area)) layout.blocks ≤ chunk_size area =
    few (chunk_front area k) (chunk_size area) layout.blocks d in
    let e : count_by (is_in_chunk area k) layout.blocks ≤ chunk_size area =
    subst (λ end. count_by
    (λ b. nat_le (chunk_front area k) b.first && nat_lt b.first end) layout.blocks ≤ chunk_size area)
    (sym (front_next area k)) f in
    let c = (p.keeps k l).counted in omega (arith, c, e)
