-- Lists with one more item at their end, and items of lists of blocks.
use Rattle.std.proofs.Common.{◌≡◌, ◌⊎◌, ℕ, zero, suc, ◌*◌, ◌<◌, List, [], ◌∷◌, ◌++◌, true, length, map, replicate, refl}
use Rattle.std.proofs.Common.{ap, sym, ◌∙◌, subst, arith, inl, inr}
use Rattle.std.specs.Prelude.{Some, All, Any, slice_get, slice_index}
use Rattle.std.proofs.lemmas.List.{length-replicate, get_or_append_left}
use Rattle.place_spec.specs.Layout.{Block}
use Rattle.sym_value.specs.declared.live.Life.{Life}
use Rattle.sym_cells.specs.Cells.{zero_cell}
use Rattle.sym_cells.specs.Memory as cells
use Rattle.sym_cells.specs.Memory.{Memory, life_of, granted}
use Rattle.block_laws.specs.Blocks.{IsOneOf}

-- an item of a list with one more is one of the list or the last
pub last_or_old : {A : Type 0} (xs : List A) (x : A) (b : ℕ) (k : A) → slice_get (xs ++ x ∷ []) b ≡ Some k
    → (slice_get xs b ≡ Some k) ⊎ ((b ≡ length xs) × (x ≡ k))
last_or_old [] x zero k e = let same : x ≡ k = cc in inr (refl, same)
last_or_old [] x (suc b) k e = absurd (cc)
last_or_old (y ∷ ys) x zero k e = inl e
last_or_old (y ∷ ys) x (suc b) k e = by_rest (last_or_old ys x b k e)
  where
    by_rest : (slice_get ys b ≡ Some k) ⊎ ((b ≡ length ys) × (x ≡ k))
        → (slice_get ys b ≡ Some k) ⊎ ((suc b ≡ suc (length ys)) × (x ≡ k))
    by_rest (inl old) = inl old
    by_rest (inr (place, same)) = inr (ap suc place, same)

pub still_there : {A : Type 0} (xs : List A) (x : A) (b : ℕ) (k : A) → slice_get xs b ≡ Some k
    → slice_get (xs ++ x ∷ []) b ≡ Some k
still_there [] x b k e = absurd (cc)
still_there (y ∷ ys) x zero k e = e
still_there (y ∷ ys) x (suc b) k e = still_there ys x b k e

pub last_there : {A : Type 0} (xs : List A) (x : A) → slice_get (xs ++ x ∷ []) (length xs) ≡ Some x
last_there [] x = refl
last_there (y ∷ ys) x = last_there ys x

pub index_still : (at : List ℕ) (a b : ℕ) → b < length at → slice_index (at ++ a ∷ []) b ≡ slice_index at b
index_still at a b low = get_or_append_left at (a ∷ []) 0 b low

pub index_last : (at : List ℕ) (a b : ℕ) → b ≡ length at → slice_index (at ++ a ∷ []) b ≡ a
index_last [] a zero e = refl
index_last [] a (suc b) e = absurd (omega (arith, e))
index_last (x ∷ xs) a zero e = absurd (omega (arith, e))
index_last (x ∷ xs) a (suc b) e = index_last xs a b (omega (arith, e))

-- the blocks as values see them
pub life_there : (xs : List cells.Block) (b : ℕ) (k : cells.Block) → slice_get xs b ≡ Some k
    → slice_get (map life_of xs) b ≡ Some (life_of k)
life_there [] b k e = absurd (cc)
life_there (x ∷ xs) zero k e = let same : x ≡ k = cc in ap (λ y. Some (life_of y)) same
life_there (x ∷ xs) (suc b) k e = life_there xs b k e

map_last : (xs : List cells.Block) (x : cells.Block) → map life_of (xs ++ x ∷ []) ≡ map life_of xs ++ life_of x ∷ []
map_last [] x = refl
map_last (y ∷ ys) x = ap (λ ls. life_of y ∷ ls) (map_last ys x)

abbrev pub new_life : ℕ → Life
new_life need = record { capacity = 16 * need; lives = true }

pub granted_lives : (need : ℕ) (m : Memory)
    → map life_of (granted need m).blocks ≡ map life_of m.blocks ++ new_life need ∷ []
unfolding granted
granted_lives need m =
    let long : length (replicate (4 * need) zero_cell) ≡ 4 * need = length-replicate (4 * need) zero_cell in
    let size : 4 * length (replicate (4 * need) zero_cell) ≡ 16 * need = omega (arith, long) in
    map_last m.blocks (record { cells = replicate (4 * need) zero_cell; lives = true })
    ∙ ap (λ c. map life_of m.blocks ++ record { capacity = c; lives = true } ∷ []) size

-- what holds of all blocks of a list holds of one of them
pub all_of : (P : Block → Type 0) (xs : List Block) (x : Block) → All P xs → IsOneOf xs x → P x
all_of P xs x h (j, y, low, there, same) = subst P (there ∙ same) (h j y low)

-- and a block of which something holds is one of them
pub one_of : (P : Block → Type 0) (xs : List Block) → Any P xs → (x : Block) × (IsOneOf xs x × P x)
one_of P xs (j, x, low, there, p) = (x, ((j, x, low, there, refl), p))

pub any_of : (P : Block → Type 0) (xs : List Block) (x : Block) → IsOneOf xs x → P x → Any P xs
any_of P xs x (j, y, low, there, same) p = (j, y, low, there, subst P (sym same) p)
