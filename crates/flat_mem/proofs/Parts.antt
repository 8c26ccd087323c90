-- Pieces that are copied and stored page by page: one more page's part.
use Rattle.std.proofs.Common.{◌≡◌, ℕ, zero, suc, ◌+◌, ◌/◌, ◌%◌, ◌<◌, ◌≤◌, List, ◌++◌, length, map, take, drop}
use Rattle.std.proofs.Common.{replicate, ◌∷◌}
use Rattle.std.proofs.Common.{refl, sym, ap, ◌∙◌, arith, length-append}
use Rattle.std.specs.List.{range_with_len}
use Rattle.std.proofs.lemmas.List.{length-replicate, length-take-le, take_at, take-replicate}
use Rattle.std.proofs.lemmas.List.{replicate-append-replicate}
use Rattle.std.proofs.lemmas.List.FromFn.{length-map-range_with_len}
use Rattle.flat_mem.specs.Areas.{byte_in, over, page_at, place, written, IsDirectory}
use Rattle.flat_mem.proofs.Pages.{part_is, written_over}
use Rattle.flat_mem.proofs.Puts.{over_again, over_more}

map_more : (f : ℕ → ℕ) (a m n : ℕ) → map f (range_with_len a m) ++ map f (range_with_len (a + m) n)
    ≡ map f (range_with_len a (m + n))
map_more f a zero n =
    let z : a + 0 ≡ a = omega arith in
    let e : 0 + n ≡ n = omega arith in
    rw (z, e) refl
map_more f a (suc m) n =
    let e : suc m + n ≡ suc (m + n) = omega arith in
    let far : a + suc m ≡ a + 1 + m = omega arith in
    rw (e, far) (ap (λ xs. f a ∷ xs) (map_more f (a + 1) m n))

-- copies
pub copied_more : (d bytes into other piece : List ℕ) (a done count : ℕ) → IsDirectory d (length bytes / 4096)
    → take done into ≡ map (byte_in d bytes) (range_with_len a done)
    → (a + done) % 4096 + count ≤ 4096 → done + count ≤ length into
    → piece ≡ take count (drop (place d (a + done)) bytes) → other ≡ written into done piece
    → take (done + count) other ≡ map (byte_in d bytes) (range_with_len a (done + count))
copied_more d bytes into other piece a done count h so_far page fits p w =
    let is : piece ≡ map (byte_in d bytes) (range_with_len (a + done) count) =
    p ∙ part_is d bytes (a + done) count h page in
    let n : length piece ≡ count = ap length is ∙ length-map-range_with_len (byte_in d bytes) (a + done) count in
    let front : length (take done into ++ piece) ≡ done + count =
    omega (arith, length-append (take done into) piece, length-take-le done into (omega (arith, fits)), n) in
    ap (take (done + count)) w
    ∙ take_at (take done into ++ piece) (drop (done + length piece) into) (done + count) front
    ∙ ap (λ xs. xs ++ piece) so_far ∙ ap (λ xs. map (byte_in d bytes) (range_with_len a done) ++ xs) is
    ∙ map_more (byte_in d bytes) a done count

-- stores
pub stored_more : (d bytes other part xs : List ℕ) (f : ℕ → ℕ) (a done k : ℕ) → IsDirectory d (length bytes / 4096)
    → length xs ≡ done → byte_in d bytes k ≡ over f a xs k
    → 0 < page_at d (a + done) → (a + done) % 4096 + length part ≤ 4096
    → other ≡ written bytes (place d (a + done)) part
    → byte_in d other k ≡ over f a (xs ++ part) k
stored_more d bytes other part xs f a done k h n so_far own page w =
    ap (λ bs. byte_in d bs k) w ∙ written_over d bytes (a + done) part k h own page
    ∙ over_again (byte_in d bytes) (over f a xs) (a + done) part k so_far
    ∙ ap (λ i. over (over f a xs) (a + i) part k) (sym n) ∙ over_more f a xs part k

pub filled_more : (d bytes other : List ℕ) (f : ℕ → ℕ) (a done count v k : ℕ)
    → byte_in d bytes k ≡ over f a (replicate done v) k → count ≤ 4096
    → byte_in d other k ≡ over (byte_in d bytes) (a + done) (take count (replicate 4096 v)) k
    → byte_in d other k ≡ over f a (replicate (done + count) v) k
filled_more d bytes other f a done count v k so_far l w =
    w ∙ ap (λ xs. over (byte_in d bytes) (a + done) xs k) (take-replicate count 4096 v l)
    ∙ over_again (byte_in d bytes) (over f a (replicate done v)) (a + done) (replicate count v) k so_far
    ∙ ap (λ i. over (over f a (replicate done v)) (a + i) (replicate count v) k) (sym (length-replicate done v))
    ∙ over_more f a (replicate done v) (replicate count v) k
    ∙ ap (λ xs. over f a xs k) (replicate-append-replicate done count v)
