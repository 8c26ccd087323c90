-- Words that can't be stored to, which no store changes: what is kept of them stays right.
use Rattle.std.proofs.Common.{◌≡◌, ◌⊎◌, ℕ, zero, suc, ◌+◌, ◌%◌, ◌<◌, ◌≤◌, List, [], ◌∷◌, Bool, true, false, cond, ◌==◌}
use Rattle.std.proofs.Common.{◌&&◌, length, refl, ap, sym, ◌∙◌, arith, inl, inr, replicate}
use Rattle.std.specs.List.{All}
use Rattle.std.specs.Prelude.{Some, None, not, nat_lt, option_and_then}
use Rattle.std.proofs.lemmas.List.Elements.{All-nil, All-cons}
use Rattle.std.proofs.lemmas.Bool.Decides.{nat_tests}
use Rattle.rv_isa.specs.Table.{decoded}
use Rattle.rv_isa.specs.declared.Width.{Width}
use Rattle.machine_spec.specs.Widths.{low_bytes, size_of}
use Rattle.machine_spec.specs.Memory.{Range, range_at}
use Rattle.machine_spec.proofs.AllFrom.{all_agree, and_second, each_passes}
use Rattle.flat_spec.specs.Stores.{allows_store, can_store, fetched, put_bytes, stored}
use Rattle.flat_spec.proofs.Memories.{same_writable}
use Rattle.flat_spec.proofs.Pieces.{put_bytes_shape, put_bytes_elsewhere, fetched_same}
use Rattle.flat_mem.specs.declared.decoding.Known.{Known}
use Rattle.flat_mem.specs.Calls.{Stores}
use Rattle.flat_mem.specs.Decoded.{is_fixed, IsKnown, IsTable}
use Rattle.flat_mem.proofs.Numbers.{length-low_bytes}

-- an entry for address 1 is right, and the same at each place of a table
pub nothing_known : (m : List Range) (known : Known) → known.addr ≡ 1 → known.instr ≡ None → IsKnown m known
unfolding fetched
nothing_known m known a i = record {
  is = rw (a, i) refl;
  fixed = λ e. absurd (omega (arith, a, e));
  registers = rw i tt;
}

pub all_known : (m : List Range) (known : Known) (n : ℕ) → IsKnown m known → All (IsKnown m) (replicate n known)
all_known m known zero h = All-nil (IsKnown m)
all_known m known (suc n) h = All-cons (IsKnown m) known (replicate n known) h (all_known m known n h)

-- at an address that isn't aligned nothing is fetched
fetched_unaligned : (m : List Range) (a : ℕ) → (a % 4 == 0) ≡ false → fetched m a ≡ None
unfolding fetched
fetched_unaligned m a e = rw e refl

unlike : (b : Bool) → b ≡ true → not b ≡ true → ⊥
unlike true e f = absurd (cc)
unlike false e f = absurd (cc)

-- an address that can't be stored to is outside of a piece that can
outside : (m : List Range) (a size j : ℕ) → can_store m a size ≡ true → not (allows_store (range_at m j)) ≡ true
    → (j < a) ⊎ (a + size ≤ j)
outside m a size j can fixed = at (nat_lt j a) (nat_lt j (a + size)) refl refl
  where
    at : (v w : Bool) → nat_lt j a ≡ v → nat_lt j (a + size) ≡ w → (j < a) ⊎ (a + size ≤ j)
    at true w e f = inl (grind (arith, nat_tests))
    at false false e f = inr (grind (arith, nat_tests))
    at false true e f =
        let low : a ≤ j = grind (arith, nat_tests) in
        let high : j < a + size = grind (arith, nat_tests) in
        absurd (unlike (allows_store (range_at m j)) (each_passes (λ k. allows_store (range_at m k)) a size can j low
        high) fixed)

-- a store changes no word that can't be stored to
fetched_kept : (m : List Range) (a : ℕ) (bs : List ℕ) (w : ℕ) → can_store m a (length bs) ≡ true
    → (w % 4 ≡ 0 → is_fixed m w ≡ true) → fetched (put_bytes m a bs) w ≡ fetched m w
fetched_kept m a bs w can fixed = at (w % 4 == 0) refl
  where
    at : (v : Bool) → (w % 4 == 0) ≡ v → fetched (put_bytes m a bs) w ≡ fetched m w
    at false e = fetched_unaligned (put_bytes m a bs) w e ∙ sym (fetched_unaligned m w e)
    at true e =
        let aligned : w % 4 ≡ 0 = grind (arith, nat_tests) in
        fetched_same (put_bytes m a bs) m w (put_bytes_shape m a bs) (λ k low high.
        put_bytes_elsewhere m a bs k (outside m a (length bs) k can
        (each_passes (λ k. not (allows_store (range_at m k))) w 4 (fixed aligned) k low high)))

fixed_kept : (m : List Range) (a : ℕ) (bs : List ℕ) (w : ℕ) → is_fixed (put_bytes m a bs) w ≡ is_fixed m w
fixed_kept m a bs w =
    all_agree (λ k. not (allows_store (range_at (put_bytes m a bs) k))) (λ k. not (allows_store (range_at m k))) w 4
    (λ k low high. ap not (same_writable (put_bytes m a bs) m k (put_bytes_shape m a bs)))

-- so what is kept stays right after a store of a piece
pub known_kept : (m : List Range) (a : ℕ) (bs : List ℕ) (known : Known) → can_store m a (length bs) ≡ true
    → IsKnown m known → IsKnown (put_bytes m a bs) known
known_kept m a bs known can h = record {
  is = ap (option_and_then decoded) (fetched_kept m a bs known.addr can h.fixed) ∙ h.is;
  fixed = λ e. fixed_kept m a bs known.addr ∙ h.fixed e;
  registers = h.registers;
}

pub table_kept : (m : List Range) (a : ℕ) (bs : List ℕ) (table : List Known) → can_store m a (length bs) ≡ true
    → IsTable m table → IsTable (put_bytes m a bs) table
table_kept m a bs table can h = record {
  long = h.long;
  known = λ i d l. known_kept m a bs _ can (h.known i d l);
}

-- of a byte, where it can be stored
pub table_kept_byte : (r : Bool) (m new : List Range) (a b : ℕ) (table : List Known) → r ≡ allows_store (range_at m a)
    → new ≡ cond r (put_bytes m a (b ∷ [])) m → IsTable m table → IsTable new table
table_kept_byte true m new a b table can is h =
    let here : (allows_store (range_at m a) && true) ≡ true = rw (sym can) refl in
    let stored : new ≡ put_bytes m a (b ∷ []) = is in
    rw stored (table_kept m a (b ∷ []) table here h)
table_kept_byte false m new a b table can is h =
    let same : new ≡ m = is in
    rw same h

-- and of a number
pub table_kept_number : (r : Bool) (m new : List Range) (width : Width) (a v : ℕ) (table : List Known)
    → Stores r (stored m width a v) m new → IsTable m table → IsTable new table
unfolding stored
table_kept_number r m new width a v table does h =
    at r ((a % size_of width == 0) && can_store m a (size_of width)) refl does
  where
    at : (r b : Bool) → ((a % size_of width == 0) && can_store m a (size_of width)) ≡ b
        → Stores r (cond b (Some (put_bytes m a (low_bytes (size_of width) v))) None) m new → IsTable new table
    at false b e f = let same : new ≡ m = f.1 in rw same h
    at true false e f = absurd (cc)
    at true true e f =
        let same : put_bytes m a (low_bytes (size_of width) v) ≡ new = cc in
        let can : can_store m a (size_of width) ≡ true = and_second (a % size_of width == 0)
        (can_store m a (size_of width)) e in
        rw same at (table_kept m a (low_bytes (size_of width) v) table (rw (length-low_bytes (size_of width) v) can) h)
