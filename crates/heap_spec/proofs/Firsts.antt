-- The first words of the tables spell the first layout.
use Rattle.std.proofs.Common.{◌≡◌, ℕ, zero, suc, ◌+◌, ◌*◌, ◌<◌, ◌==◌, cond, Bool, true, false, List, [], ◌∷◌, ◌++◌}
use Rattle.std.proofs.Common.{length, get_or, replicate, sym, ◌∙◌, subst, refl, ap, arith}
use Rattle.std.specs.Prelude.{Option, None}
use Rattle.std.proofs.lemmas.List.{length-append}
use Rattle.plan_core.specs.declared.types.Area.{Area}
use Rattle.place_spec.specs.Layout.{idle_chunk, first_layout}
use Rattle.heap_spec.specs.Places.{current_row, chunk_row, rows_at}
use Rattle.heap_spec.specs.Tables.{none_word, word_or_none, SpellsHoles, SpellsChunk, Spells, idle_rows, first_words}
use Rattle.heap_spec.specs.Tables.{HasWords}

front : (m : ℕ → ℕ) (at : ℕ) (xs ys : List ℕ) → HasWords m at (xs ++ ys) → HasWords m at xs
front m at [] ys h = tt
front m at (x ∷ xs) ys h = (h.0, front m (at + 4) xs ys h.1)

back : (m : ℕ → ℕ) (at n to : ℕ) (xs ys : List ℕ) → length xs ≡ n → at + 4 * n ≡ to → HasWords m at (xs ++ ys)
    → HasWords m to ys
back m at n to [] ys l e h = let q : at ≡ to = omega arith in subst (λ a. HasWords m a ys) q h
back m at zero to (x ∷ xs) ys l e h = absurd (omega arith)
back m at (suc n) to (x ∷ xs) ys l e h = back m (at + 4) n to xs ys (omega arith) (omega arith) h.1

same : (m : ℕ → ℕ) (at n v i k : ℕ) → i < n → k ≡ at + 4 * i → HasWords m at (replicate n v) → m k ≡ v
same m at zero v i k l e h = absurd (omega arith)
same m at (suc n) v zero k l e h = let q : at ≡ k = omega arith in subst (λ a. m a ≡ v) q h.0
same m at (suc n) v (suc i) k l e h = same m (at + 4) n v i k (omega arith) (omega arith) h.1

idle : (m : ℕ → ℕ) (at n k to : ℕ) → k < n → to ≡ at + 16 * k → HasWords m at (idle_rows n)
    → SpellsChunk m to idle_chunk
idle m at zero k to l e h = absurd (omega arith)
idle m at (suc n) zero to l e h =
    let q : at ≡ to = omega arith in
    subst (λ a. SpellsChunk m a idle_chunk) q (record {
      owner = h.0;
      bump = h.1.0;
      live = subst (λ a. m a ≡ 0) (let p : at + 4 + 4 ≡ at + 8 = omega arith in p) h.1.1.0;
      fourth = subst (λ a. m a ≡ 0) (let p : at + 4 + 4 + 4 ≡ at + 12 = omega arith in p) h.1.1.1.0;
    })
idle m at (suc n) (suc k) to l e h = idle m (at + 4 + 4 + 4 + 4) n k to (omega arith) (omega arith) h.1.1.1.1

rows_long : (n : ℕ) → length (idle_rows n) ≡ 4 * n
rows_long zero = refl
rows_long (suc n) = let l = rows_long n in omega (arith, l)

any_same : {X : Type 0} → (n i : ℕ) (x : X) → get_or (replicate n x) i x ≡ x
any_same zero i x = refl
any_same (suc n) zero x = refl
any_same (suc n) (suc i) x = any_same n i x

-- the one hole, where there is a fallback
hole : (m : ℕ → ℕ) (rows word fallback : ℕ) (empty : Bool) → word ≡ cond empty none_word 0
    → HasWords m rows (cond empty [] (fallback ∷ none_word ∷ []))
    → SpellsHoles rows m word (cond empty [] (record { start = 0; length = fallback } ∷ []))
hole m rows word fallback true e h = e
hole m rows word fallback false e h = (
  e,
  subst (λ a. m a ≡ fallback) (let p : rows ≡ rows + 8 * 0 = omega arith in p) h.0,
  subst (λ a. m a ≡ none_word) (let p : rows + 4 ≡ rows + 8 * 0 + 4 = omega arith in p) h.1.0,
)

pub first_spells : (area : Area) (data_at : ℕ) (m : ℕ → ℕ) → HasWords m data_at (first_words area)
    → Spells area data_at m (first_layout area)
unfolding first_words
first_spells area data_at m h =
    let scratch : List ℕ = replicate 15 0 in
    let currents : List ℕ = replicate 16 none_word in
    let last : List ℕ = cond (area.fallback == 0) [] (area.fallback ∷ none_word ∷ []) in
    let tail : HasWords m (data_at + 64) (currents ++ (idle_rows area.chunks ++ last)) =
    back m (data_at + 4) 15 (data_at + 64) scratch (currents ++ (idle_rows area.chunks ++ last)) refl
    (omega arith) h.1 in
    let rest : HasWords m (data_at + 128) (idle_rows area.chunks ++ last) =
    back m (data_at + 64) 16 (data_at + 128) currents (idle_rows area.chunks ++ last) refl (omega arith) tail in
    let end : HasWords m (rows_at area data_at) last =
    back m (data_at + 128) (4 * area.chunks) (rows_at area data_at) (idle_rows area.chunks) last
    (rows_long area.chunks) (omega arith) rest in
    record {
      holes = hole m (rows_at area data_at) (m data_at) area.fallback (area.fallback == 0) h.0 end;
      currents = λ group l. same m (data_at + 64) 16 none_word group (current_row data_at group) l (omega arith)
          (front m (data_at + 64) currents (idle_rows area.chunks ++ last) tail)
          ∙ sym (ap_word (any_same 16 group nothing));
      chunks = λ k l. subst (SpellsChunk m (chunk_row data_at k)) (sym (any_same area.chunks k idle_chunk))
          (idle m (data_at + 128) area.chunks k (chunk_row data_at k) l (omega arith)
          (front m (data_at + 128) (idle_rows area.chunks) last rest));
      lengths = λ i d l. absurd (omega arith);
    }
  where
    nothing : Option ℕ
    nothing = None

    ap_word : {o o' : Option ℕ} → o ≡ o' → word_or_none o ≡ word_or_none o'
    ap_word e = ap word_or_none e

tail_long : (fallback : ℕ) (empty : Bool) → 4 * length (cond empty [] (fallback ∷ none_word ∷ [])) ≡ cond empty 0 8
tail_long fallback true = refl
tail_long fallback false = refl

pub first_size : (area : Area) → 4 * length (first_words area) ≡ 128 + 16 * area.chunks + cond (area.fallback == 0) 0 8
unfolding first_words
first_size area =
    let last : List ℕ = cond (area.fallback == 0) [] (area.fallback ∷ none_word ∷ []) in
    let rest : length (idle_rows area.chunks ++ last) ≡ length (idle_rows area.chunks) + length last = length-append
    (idle_rows area.chunks) last in
    omega (arith, rest, rows_long area.chunks, tail_long area.fallback (area.fallback == 0))
