-- Laws of the calls of blocks, over their lives and buffers and what contracts see of them.
use Rattle.std.proofs.Common.{◌≡◌, ◌≢◌, ℕ, zero, suc, ◌+◌, ◌-◌, ◌*◌, ◌/◌, ◌%◌, ◌<◌, ◌≤◌, List, [], ◌∷◌, ◌++◌, Bool}
use Rattle.std.proofs.Common.{true, false, Option, Some, None, option_map, length, map, take, drop, replicate, nat_le}
use Rattle.std.proofs.Common.{slice_get, slice_set, slice_index_or, refl, ap, ap₂, sym, ◌∙◌, subst, arith}
use Rattle.std.proofs.Common.{length-append, length-drop, length-take-le, take_all, drop_of_length-le}
use Rattle.std.proofs.lemmas.List.{length-replicate, take-append-drop, set-append_left, set-append_right, get_or-take}
use Rattle.std.proofs.lemmas.List.{get_or-drop}
use Rattle.std.proofs.lemmas.Bool.{le-leb}
use Rattle.sym_value.specs.Places.{Lives, with_block, without_block, lives_in, capacity_in, is_living}
use Rattle.sym_value.specs.declared.live.Life.{Life}
use Rattle.sym_cells.specs.Cells.{Cell, blank_cell, zero_cell}
use Rattle.sym_cells.specs.Memory.{Block, life_of, set_block, died, overlaid, overlaid_block}
use Rattle.sym_memory.specs.Kept.{HeldBlocks, block_with, block_of, blocks_of, IsKept, AreKept, holds_access, is_alive}
use Rattle.sym_memory.proofs.KeptLaws.{same_element, length-blocks, lives_of_blocks, block_is, kept_at, Reached}
use Rattle.sym_memory.proofs.KeptLaws.{reached, written, written_kept, kept_more, blocks_more, kept_dead, blocks_dead}

abbrev pub held_with : List Block → ℕ → HeldBlocks
held_with blocks end = record { blocks = blocks; end = end }

abbrev lives_with : List Life → ℕ → Lives
lives_with blocks end = record { blocks = blocks; end = end }

abbrev pub IsHeld : Lives → List (List Cell) → HeldBlocks → Type 0
IsHeld live bs held = held_with (blocks_of live.blocks bs) live.end ≡ held

-- a block that lives
pub alive : (live : Lives) (bs : List (List Cell)) (held : HeldBlocks) (i : ℕ) → AreKept live.blocks bs
    → IsHeld live bs held → is_alive (slice_get held.blocks i) ≡ true → Reached live.blocks bs i 0 0
alive live bs held i kept view e =
    reached live.blocks bs i 0 0 kept
    (reach_none (slice_get (blocks_of live.blocks bs) i) (ap (λ (h : HeldBlocks). is_alive (slice_get h.blocks i)) view
    ∙ e))
  where
    reach_none : (k : Option Block) → is_alive k ≡ true → holds_access 0 0 k ≡ true
    reach_none None f = absurd (cc)
    reach_none (Some k) f =
        let test : nat_le 0 (4 * length k.cells) ≡ true = le-leb _ _ (omega arith) in rw (f, test) refl

pub is_living_one : (live : Lives) (bs : List (List Cell)) (i : ℕ) → Reached live.blocks bs i 0 0
    → is_living live i ≡ true
is_living_one live bs i r = ap lives_in r.is ∙ r.lives

-- lives, names
pub live_held : (live : Lives) (bs : List (List Cell)) (held : HeldBlocks) → AreKept live.blocks bs
    → IsHeld live bs held → live ≡ lives_with (map life_of held.blocks) held.end
live_held live bs held kept view =
    ap (λ x. lives_with x live.end) (sym (lives_of_blocks live.blocks bs kept))
    ∙ ap (λ (h : HeldBlocks). lives_with (map life_of h.blocks) h.end) view

pub names_held : (live : Lives) (bs : List (List Cell)) (held : HeldBlocks) → AreKept live.blocks bs
    → IsHeld live bs held → length live.blocks ≡ length held.blocks
names_held live bs held kept view =
    sym (length-blocks live.blocks bs kept) ∙ ap (λ (h : HeldBlocks). length h.blocks) view

-- no blocks
pub none_held : (live : Lives) (bs : List (List Cell)) (end : ℕ) → live ≡ lives_with [] end → bs ≡ []
    → IsHeld live bs (held_with [] end)
unfolding blocks_of
none_held live bs end e f =
    ap₂ (λ (x : Lives) y. held_with (blocks_of x.blocks y) x.end) e f

-- a grant
pub granted_kept : (live after : Lives) (bs more : List (List Cell)) (cells : List Cell) (need : ℕ)
    → AreKept live.blocks bs → after ≡ with_block (16 * need) live → more ≡ bs ++ cells ∷ []
    → cells ≡ replicate (4 * need) zero_cell → AreKept after.blocks more
granted_kept live after bs more cells need kept added pushed zeros =
    let n : length cells ≡ 4 * need = ap length zeros ∙ length-replicate (4 * need) zero_cell in
    rw (added, pushed) (kept_more live.blocks bs (record { capacity = 16 * need; lives = true }) cells kept
    (record { whole = omega arith; size = λ l. omega (arith, n) }))

pub granted_held : (live after : Lives) (bs more : List (List Cell)) (cells : List Cell) (need : ℕ) (held : HeldBlocks)
    → AreKept live.blocks bs → after ≡ with_block (16 * need) live → more ≡ bs ++ cells ∷ []
    → cells ≡ replicate (4 * need) zero_cell → IsHeld live bs held
    → IsHeld after more (held_with (held.blocks ++ record { cells = replicate (4 * need) zero_cell; lives = true } ∷ [])
    held.end)
granted_held live after bs more cells need held kept added pushed zeros view =
    rw (added, pushed, zeros) (ap (λ x. held_with x live.end)
    (blocks_more live.blocks bs (record { capacity = 16 * need; lives = true }) (replicate (4 * need) zero_cell) kept)
    ∙ ap (λ (h : HeldBlocks). held_with (h.blocks ++ record {
      cells = replicate (4 * need) zero_cell;
      lives =
          true;
    } ∷ []) h.end) view)

-- a death
dead_lives : (live : Lives) (i : ℕ) (k : Life) → slice_get live.blocks i ≡ Some k
    → (without_block i live).blocks ≡ slice_set live.blocks i (record { capacity = k.capacity; lives = false })
dead_lives live i k e =
    ap (λ x. slice_set live.blocks i (record { capacity = capacity_in x; lives = false })) e

pub dropped_kept : (live after : Lives) (bs rest : List (List Cell)) (i : ℕ) → AreKept live.blocks bs
    → Reached live.blocks bs i 0 0 → after ≡ without_block i live → rest ≡ slice_set bs i [] → AreKept after.blocks rest
dropped_kept live after bs rest i kept r gone released =
    rw (gone, released, dead_lives live i r.life r.is) (kept_dead live.blocks bs i r.life kept r.is)

pub dropped_held : (live after : Lives) (bs rest : List (List Cell)) (i : ℕ) (held : HeldBlocks)
    → AreKept live.blocks bs → Reached live.blocks bs i 0 0 → after ≡ without_block i live → rest ≡ slice_set bs i []
    → IsHeld live bs held
    → IsHeld after rest (held_with (set_block i (option_map died (slice_get held.blocks i)) held.blocks) held.end)
dropped_held live after bs rest i held kept r gone released view =
    let cells : List Cell = slice_index_or bs i [] in
    let size : r.life.capacity ≡ 4 * length cells = (kept_at live.blocks bs i r.life kept r.is).size r.lives in
    let count : r.life.capacity / 4 ≡ length cells = omega (arith, size) in
    let dead : set_block i (option_map died (slice_get (blocks_of live.blocks bs) i)) (blocks_of live.blocks bs)
    ≡ slice_set (blocks_of live.blocks bs) i (record { cells = replicate (length cells) blank_cell; lives = false }) =
    ap (λ x. set_block i (option_map died x) (blocks_of live.blocks bs)) r.block in
    rw (gone, released, dead_lives live i r.life r.is) (ap (λ x. held_with x live.end)
    (blocks_dead live.blocks bs i r.life kept r.is
    ∙ ap (λ n. slice_set (blocks_of live.blocks bs) i (record { cells = replicate n blank_cell; lives = false })) count
    ∙ sym dead)
    ∙ ap (λ (h : HeldBlocks). held_with (set_block i (option_map died (slice_get h.blocks i)) h.blocks) h.end) view)

-- a copy
pub length-overlaid : (from onto : List Cell) → length (overlaid from onto) ≡ length onto
length-overlaid [] onto = by_take onto
  where
    by_take : (onto : List Cell) → length (take (length onto) [] ++ onto) ≡ length onto
    by_take [] = refl
    by_take (c ∷ onto) = refl
length-overlaid (f ∷ from) [] = refl
length-overlaid (f ∷ from) (c ∷ onto) = ap suc (length-overlaid from onto)

pub copied_kept : (live : Lives) (bs after : List (List Cell)) (from to : ℕ) → AreKept live.blocks bs
    → after ≡ slice_set bs to (overlaid (slice_index_or bs from []) (slice_index_or bs to []))
    → AreKept live.blocks after
copied_kept live bs after from to kept e =
    rw e (written_kept live.blocks bs to (overlaid (slice_index_or bs from []) (slice_index_or bs to [])) kept
    (length-overlaid (slice_index_or bs from []) (slice_index_or bs to [])))

pub copied_held : (live : Lives) (bs after : List (List Cell)) (from to : ℕ) (held : HeldBlocks)
    → AreKept live.blocks bs → Reached live.blocks bs from 0 0 → Reached live.blocks bs to 0 0
    → after ≡ slice_set bs to (overlaid (slice_index_or bs from []) (slice_index_or bs to []))
    → IsHeld live bs held
    → IsHeld live after (held_with (set_block to
    (overlaid_block (slice_get held.blocks from) (slice_get held.blocks to)) held.blocks) held.end)
copied_held live bs after from to held kept f t e view =
    let cells : List Cell = overlaid (slice_index_or bs from []) (slice_index_or bs to []) in
    let done : set_block to (overlaid_block (slice_get (blocks_of live.blocks bs) from) (slice_get
    (blocks_of live.blocks bs) to)) (blocks_of live.blocks bs)
    ≡ slice_set (blocks_of live.blocks bs) to (record { cells = cells; lives = true }) =
    ap₂ (λ x y. set_block to (overlaid_block x y) (blocks_of live.blocks bs)) f.block t.block in
    rw e (ap (λ x. held_with x live.end) (written live.blocks bs to t.life cells kept t.is t.lives ∙ sym done)
    ∙ ap (λ (h : HeldBlocks). held_with (set_block to (overlaid_block (slice_get h.blocks from) (slice_get h.blocks to))
    h.blocks) h.end) view)

-- two buffers of a list that is split between them
pub low_of : {A : Type 0} (xs front : List A) (i n : ℕ) (x d : A) → front ≡ take n xs → i < n → n ≤ length xs
    → x ≡ slice_index_or front i x → x ≡ slice_index_or xs i d
low_of xs front i n x d e less inside is =
    is ∙ ap (λ ys. slice_index_or ys i x) e ∙ get_or-take n xs i x less
    ∙ same_element xs i x d (omega (arith, less, inside))

pub high_of : {A : Type 0} (xs back : List A) (n : ℕ) (x d : A) → back ≡ drop n xs → n < length xs
    → x ≡ slice_index_or back 0 x → x ≡ slice_index_or xs n d
high_of xs back n x d e inside is =
    let place : n + 0 ≡ n = omega arith in
    is ∙ ap (λ ys. slice_index_or ys 0 x) e ∙ get_or-drop n xs 0 x ∙ ap (λ j. slice_index_or xs j x) place
    ∙ same_element xs n x d inside

pub set_high : {A : Type 0} (xs front back : List A) (n : ℕ) (y : A) → front ≡ take n xs → back ≡ drop n xs
    → n ≤ length xs → front ++ slice_set back 0 y ≡ slice_set xs n y
set_high xs front back n y e f inside =
    let place : n - n ≡ 0 = omega arith in
    ap₂ (λ u v. u ++ slice_set v 0 y) e f
    ∙ ap (λ j. take n xs ++ slice_set (drop n xs) j y) (sym place)
    ∙ sym (set-append_right (take n xs) (drop n xs) n n y (length-take-le n xs inside) (omega arith))
    ∙ ap (λ ys. slice_set ys n y) (take-append-drop n xs)

pub set_low : {A : Type 0} (xs front back : List A) (i n : ℕ) (y : A) → front ≡ take n xs → back ≡ drop n xs
    → i < n → n ≤ length xs → slice_set front i y ++ back ≡ slice_set xs i y
set_low xs front back i n y e f less inside =
    let long = length-take-le n xs inside in
    ap₂ (λ u v. slice_set u i y ++ v) e f
    ∙ sym (set-append_left (take n xs) (drop n xs) i y (omega (arith, long, less)))
    ∙ ap (λ ys. slice_set ys i y) (take-append-drop n xs)
