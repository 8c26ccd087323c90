-- The part of a match that speaks of memory, and that stores on both machines keep it.
use Rattle.std.proofs.Common.{◌≡◌, ◌≢◌, ◌⊎◌, ℕ, ◌+◌, ◌-◌, ◌<◌, ◌≤◌, List, [], ◌∷◌, Bool, true, false, length, map, refl}
use Rattle.std.proofs.Common.{ap, sym, ◌∙◌, subst, arith, inl, inr, ⊎_elim}
use Rattle.std.specs.Prelude.{Some, is_some, nat_eq, slice_get, slice_index}
use Rattle.std.specs.List.{All}
use Rattle.std.proofs.lemmas.Bool.{cases_lt, eqb-true, eqb-false}
use Rattle.std.proofs.lemmas.List.Elements.{All-head, All-tail}
use Rattle.elf_spec.specs.Memory.{image_end}
use Rattle.elf_spec.specs.Records.{segments_of}
use Rattle.site_spec.specs.Places.{text_at, text_room}
use Rattle.machine_spec.specs.Memory.{Range, range_at, byte_of}
use Rattle.flat_spec.specs.Stores.{allows_store, put_byte, put_bytes}
use Rattle.flat_spec.proofs.Memories.{put_byte_shape, put_there, put_elsewhere, same_there}
use Rattle.flat_spec.proofs.Pieces.{put_bytes_shape, put_bytes_elsewhere, writable_there}
use Rattle.sym_cells.specs.Memory.{Memory, life_of}
use Rattle.sym_cells.specs.Region.{InBlock, Laid, IsThere, MemoryStands}
use Rattle.sym_spec.specs.Plain.{is_plain, is_plain_store, is_code_byte}
use Rattle.match_spec.specs.Stands.{Places}
use Rattle.match_spec.specs.Parts.{InMemory}
use Rattle.simulation.specs.Ground.{MemoryGround}

-- an address where a store may go: one that can be stored to, or one in a living block
abbrev pub IsReached : List ℕ → Places → Memory → ℕ → Type 0
IsReached file places m a = (is_plain_store file a ≡ true) ⊎ InBlock places.blocks m a

-- it is in memory, and neither code nor new text
reached_there : (file new : List ℕ) (places : Places) (m : Memory) (memory : List Range) (a : ℕ)
    → InMemory file new places m memory → IsReached file places m a → is_some (range_at memory a) ≡ true
reached_there file new places m memory a h (inl store) = writable_there memory a (h.laid.writable a store)
reached_there file new places m memory a h (inr block) =
    let o : ℕ = a - slice_index places.blocks block.block in
    let place : slice_index places.blocks block.block + o ≡ a = (let l = block.low in omega (arith, l)) in
    let inside : o < block.life.capacity = (let t = block.high in let l = block.low in omega (arith, t, l)) in
    writable_there memory a (subst (λ y. allows_store (range_at memory y) ≡ true) place
    (h.laid.block_writable block.block o block.life block.is block.lives inside))

not_code : (file new : List ℕ) (places : Places) (m : Memory) (memory : List Range) (a x : ℕ) → MemoryGround file new
    → InMemory file new places m memory → IsReached file places m a → is_code_byte file x ≡ true → x ≢ a
not_code file new places m memory a x g h reached code e =
    let clash : true ≡ false = sym code ∙ (ap (is_code_byte file) e ∙ beside reached) in cc
  where
    beside : IsReached file places m a → is_code_byte file a ≡ false
    beside (inl store) = g.plain_data a (h.laid.stores a store)
    beside (inr block) = h.block_data a block

not_text : (file new : List ℕ) (places : Places) (m : Memory) (memory : List Range) (a x : ℕ) → MemoryGround file new
    → InMemory file new places m memory → IsReached file places m a
    → text_at file ≤ x → x < text_at file + text_room → x ≢ a
not_text file new places m memory a x g h reached low high = by_place reached
  where
    room : text_at file + text_room ≤ 0x7FF00000
    room = g.low_text

    apart : (a < text_at file) ⊎ (0x7FF00000 ≤ a) → x ≢ a
    apart (inl l) = omega arith
    apart (inr r) = omega (arith, room)

    by_place : IsReached file places m a → x ≢ a
    by_place (inl store) = apart (g.plain_apart a (h.laid.stores a store))
    by_place (inr block) = let above = h.block_apart a block in omega (arith, above)

-- an address that isn't among n from a on
pub outside : (x a n : ℕ) → (a ≤ x → x < a + n → ⊥) → (x < a) ⊎ (a + n ≤ x)
outside x a n never = ⊎_elim (λ (l : x < a). inl l) (λ (r : a ≤ x). ⊎_elim (λ (s : x < a + n). absurd (never r s)) (λ
    (t : a + n ≤ x). inr t) (cases_lt x (a + n))) (cases_lt x a)

-- bytes that are stored among bytes
bytes_put : (memory : List Range) (a : ℕ) (bs : List ℕ) → ((x b : ℕ) → byte_of memory x ≡ Some b → b < 256)
    → IsThere memory a (length bs) → All (λ b. b < 256) bs → (x b : ℕ) → byte_of (put_bytes memory a bs) x ≡ Some b
    → b < 256
bytes_put memory a [] small there bytes x b e = small x b e
bytes_put memory a (c ∷ bs) small there bytes x b e =
    bytes_put (put_byte memory a c) (a + 1) bs (λ y d f. one y d f (nat_eq y a) refl)
    (λ y low high. same_there (put_byte memory a c) memory y (put_byte_shape memory a c)
    ∙ there y (omega arith) (omega arith))
    (All-tail (λ b. b < 256) c bs bytes) x b e
  where
    one : (y d : ℕ) → byte_of (put_byte memory a c) y ≡ Some d → (t : Bool) → nat_eq y a ≡ t → d < 256
    one y d f true t =
        let same : y ≡ a = eqb-true y a t in
        let is : Some c ≡ Some d = sym (put_there memory a c (there a (omega arith) (omega arith)))
        ∙ (ap (byte_of (put_byte memory a c)) (sym same) ∙ f) in
        let value : c ≡ d = cc in
        subst (λ z. z < 256) value (All-head (λ b. b < 256) c bs bytes)
    one y d f false t = small y d (sym (put_elsewhere memory a c y (eqb-false y a t)) ∙ f)

-- a block of a memory with the same lives
same_block : (places : Places) (m n : Memory) (x : ℕ) → map life_of n.blocks ≡ map life_of m.blocks
    → InBlock places.blocks n x → InBlock places.blocks m x
same_block places m n x lives h = record {
  block = h.block;
  life = h.life;
  is = ap (λ ls. slice_get ls h.block) (sym lives) ∙ h.is;
  lives = h.lives;
  low = h.low;
  high = h.high;
}

-- bytes that go where a store may go, after which memory still stands and lies as before
pub puts_memory : (file new : List ℕ) (places : Places) (m n : Memory) (memory : List Range) (a : ℕ) (bs : List ℕ)
    → MemoryGround file new → InMemory file new places m memory → All (λ b. b < 256) bs
    → MemoryStands places.back places.blocks (is_plain file) (put_bytes memory a bs) n
    → Laid places.blocks (image_end (segments_of file)) (is_plain file) (is_plain_store file) (put_bytes memory a bs) n
    → map life_of n.blocks ≡ map life_of m.blocks
    → ((x : ℕ) → a ≤ x → x < a + length bs → IsReached file places m x)
    → InMemory file new places n (put_bytes memory a bs)
puts_memory file new places m n memory a bs g h bytes stands laid lives went = record {
  stands = stands;
  laid = laid;
  block_data = λ x block. h.block_data x (same_block places m n x lives block);
  block_apart = λ x block. h.block_apart x (same_block places m n x lives block);
  small = bytes_put memory a bs h.small (λ x low high. reached_there file new places m memory x h
      (went x low high)) bytes;
  shape = put_bytes_shape memory a bs ∙ h.shape;
  code = λ x code. put_bytes_elsewhere memory a bs x (outside x a (length bs)
      (λ low high. not_code file new places m memory x x g h (went x low high) code refl)) ∙ h.code x code;
  text = λ x low high. put_bytes_elsewhere memory a bs x (outside x a (length bs)
      (λ l t. not_text file new places m memory x x g h (went x l t) low high refl)) ∙ h.text x low high;
}
