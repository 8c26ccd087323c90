-- Loads, stores and fetches of numbers by what their addresses allow.
use Rattle.std.proofs.Common.{◌≡◌, ◌≢◌, ℕ, zero, suc, ◌+◌, ◌*◌, ◌/◌, ◌%◌, ◌<◌, ◌≤◌, List, ◌∷◌, Bool, true, false, cond}
use Rattle.std.proofs.Common.{◌&&◌, length, map, replicate, refl, sym, ap, ◌∙◌, arith}
use Rattle.std.specs.Prelude.{Option, Some, None, option_map, option_and_then, is_some, bit_and, nat_eq, ◌==◌, ◌^◌}
use Rattle.std.specs.List.{range_with_len}
use Rattle.std.proofs.lemmas.Bool.{eq-eqb, ne_eqb}
use Rattle.std.proofs.lemmas.Bool.Decides.{nat_tests}
use Rattle.std.proofs.lemmas.Nat.{and_block, and_le_r}
use Rattle.rv_isa.specs.declared.Width.{Width}
use Rattle.rv_isa.specs.declared.Width.TheVariants.{Byte, Half, Word, ByteU, HalfU}
use Rattle.machine_spec.specs.Memory.{Range, range_at, byte_of, all_from}
use Rattle.machine_spec.specs.Widths.{number_of, low_bytes, size_of, loaded_as}
use Rattle.machine_spec.proofs.AllFrom.{all_agree, and_first, and_second}
use Rattle.flat_spec.specs.Stores.{bytes_from, put_bytes, loaded, stored, fetched}
use Rattle.flat_mem.specs.declared.area.Area.{Area}
use Rattle.flat_mem.specs.declared.area.Access.{Access}
use Rattle.flat_mem.specs.declared.area.Access.TheVariants.{Load, Store, Fetch}
use Rattle.flat_mem.specs.Areas.{allows, area_of, byte_in, flag_of, range_in, ranges, rights_of, IsDirectory, IsPaged}
use Rattle.flat_mem.proofs.Found.{range_at_ranges, byte_found}

-- an aligned number doesn't leave its page
pub size_some : (width : Width) → 0 < size_of width
size_some Byte = omega arith
size_some Half = omega arith
size_some Word = omega arith
size_some ByteU = omega arith
size_some HalfU = omega arith

pub number_in_page : (width : Width) (a : ℕ) → a % size_of width ≡ 0 → a % 4096 + size_of width ≤ 4096
number_in_page Byte a h = omega arith
number_in_page Half a h = omega (arith, h)
number_in_page Word a h = omega (arith, h)
number_in_page ByteU a h = omega arith
number_in_page HalfU a h = omega (arith, h)

pub byte_aligned : (a : ℕ) → a % 1 ≡ 0
byte_aligned a = omega arith

-- all bytes of a number have a flag where the number has the flags of all of them
split : (x y m n : ℕ) → x < 256 → m < 256 → (y * 256 + x == n * 256 + m) ≡ ((x == m) && (y == n))
split x y m n h l = at (nat_eq x m) (nat_eq y n) refl refl
  where
    at : (v w : Bool) → nat_eq x m ≡ v → nat_eq y n ≡ w → (y * 256 + x == n * 256 + m) ≡ (v && w)
    at true true e f =
        let p : x ≡ m = grind (arith, nat_tests) in
        let q : y ≡ n = grind (arith, nat_tests) in
        rw (p, q) (eq-eqb (n * 256 + m) (n * 256 + m) refl)
    at false w e f =
        let p : x ≢ m = grind (arith, nat_tests) in
        ne_eqb (y * 256 + x) (n * 256 + m) (omega (arith, p, h, l))
    at true false e f =
        let q : y ≢ n = grind (arith, nat_tests) in
        let p : x ≡ m = grind (arith, nat_tests) in
        ne_eqb (y * 256 + x) (n * 256 + m) (omega (arith, p, q, h, l))

pub flagged : (right : ℕ → ℕ) (flag a n : ℕ) → ((k : ℕ) → right k < 256) → flag < 256
    → (bit_and (number_of (map right (range_with_len a n))) (number_of (replicate n flag))
    == number_of (replicate n flag)) ≡ all_from (λ k. bit_and (right k) flag == flag) a n
flagged right flag a zero h l = refl
flagged right flag a (suc n) h l =
    let rest : ℕ = number_of (map right (range_with_len (a + 1) n)) in
    let more : ℕ = number_of (replicate n flag) in
    let front : right a + 256 * rest ≡ rest * 2 ^ 8 + right a = omega arith in
    let wanted : flag + 256 * more ≡ more * 2 ^ 8 + flag = omega arith in
    let both : bit_and (right a + 256 * rest) (flag + 256 * more) ≡ bit_and rest more * 256 + bit_and (right a) flag =
    rw (front, wanted) (and_block 8 rest more (right a) flag (h a) l) in
    let low : bit_and (right a) flag < 256 = omega (arith, l, and_le_r (right a) flag) in
    let same : flag + 256 * more ≡ more * 256 + flag = omega arith in
    ap (λ x. x == flag + 256 * more) both ∙ ap (λ y. bit_and rest more * 256 + bit_and (right a) flag == y) same
    ∙ split (bit_and (right a) flag) (bit_and rest more) flag more low l
    ∙ ap (λ b. (bit_and (right a) flag == flag) && b) (flagged right flag (a + 1) n h l)

pub rights_few : (o : Option Area) → rights_of o < 256
rights_few None = omega arith
rights_few (Some s) = at s.writable s.executable
  where
    at : (w x : Bool) → 1 + (cond w 2 0 + cond x 4 0) < 256
    at true true = omega arith
    at true false = omega arith
    at false true = omega arith
    at false false = omega arith

pub flag_few : (access : Access) → flag_of access < 256
flag_few Load = omega arith
flag_few Store = omega arith
flag_few Fetch = omega arith

-- an area's flags say what its range allows
pub right_says : (byte : ℕ → ℕ) (access : Access) (o : Option Area)
    → (bit_and (rights_of o) (flag_of access) == flag_of access) ≡ allows access (option_map (range_in byte) o)
right_says byte Load None = refl
right_says byte Store None = refl
right_says byte Fetch None = refl
right_says byte access (Some s) = at access s.writable s.executable refl refl
  where
    at : (access : Access) (w x : Bool) → s.writable ≡ w → s.executable ≡ x
        → (bit_and (1 + (cond w 2 0 + cond x 4 0)) (flag_of access) == flag_of access)
        ≡ allows access (Some (range_in byte s))
    at Load true true e f = refl
    at Load true false e f = refl
    at Load false true e f = refl
    at Load false false e f = refl
    at Store true true e f = sym e
    at Store true false e f = sym e
    at Store false true e f = sym e
    at Store false false e f = sym e
    at Fetch true true e f = sym f
    at Fetch true false e f = sym f
    at Fetch false true e f = sym f
    at Fetch false false e f = sym f

-- so do the flags beside the bytes of a number
pub number_allows : (areas : List Area) (d bytes rights : List ℕ) (access : Access) (a n : ℕ)
    → IsPaged areas d bytes rights
    → (bit_and (number_of (map (byte_in d rights) (range_with_len a n))) (number_of (replicate n (flag_of access)))
    == number_of (replicate n (flag_of access)))
    ≡ all_from (λ k. allows access (range_at (ranges (byte_in d bytes) areas) k)) a n
number_allows areas d bytes rights access a n h =
    flagged (byte_in d rights) (flag_of access) a n (λ k. rw (h.right k) (rights_few (area_of areas k)))
    (flag_few access)
    ∙ all_agree (λ k. bit_and (byte_in d rights k) (flag_of access) == flag_of access)
    (λ k. allows access (range_at (ranges (byte_in d bytes) areas) k)) a n
    (λ k low high. ap (λ r. bit_and r (flag_of access) == flag_of access) (h.right k)
    ∙ right_says (byte_in d bytes) access (area_of areas k)
    ∙ ap (allows access) (sym (range_at_ranges (byte_in d bytes) k areas)))

-- the flags stand in the same pages as the bytes
pub rights_direct : (areas : List Area) (d bytes rights : List ℕ) → IsPaged areas d bytes rights
    → IsDirectory d (length rights / 4096)
rights_direct areas d bytes rights h = rw h.same h.directs

-- what allows an access is there
pub allowed_there : (access : Access) (o : Option Range) → allows access o ≡ true → is_some o ≡ true
allowed_there access (Some r) h = refl
allowed_there Load None h = absurd (cc)
allowed_there Store None h = absurd (cc)
allowed_there Fetch None h = absurd (cc)

pub area_there : (byte : ℕ → ℕ) (access : Access) (areas : List Area) (k : ℕ)
    → allows access (range_at (ranges byte areas) k) ≡ true → is_some (area_of areas k) ≡ true
area_there byte access areas k h = at (area_of areas k) (rw (range_at_ranges byte k areas) at h)
  where
    at : (o : Option Area) → allows access (option_map (range_in byte) o) ≡ true → is_some o ≡ true
    at (Some s) h = refl
    at None h = allowed_there access None h

-- the bytes from an address on, where all are there
pub bytes_are : (byte : ℕ → ℕ) (access : Access) (areas : List Area) (a n : ℕ)
    → all_from (λ k. allows access (range_at (ranges byte areas) k)) a n ≡ true
    → bytes_from (ranges byte areas) a n ≡ Some (map byte (range_with_len a n))
bytes_are byte access areas a zero h = refl
bytes_are byte access areas a (suc n) h =
    at (area_of areas a) refl (area_there byte access areas a (and_first
    (allows access (range_at (ranges byte areas) a))
    (all_from (λ k. allows access (range_at (ranges byte areas) k)) (a + 1) n) h))
    (bytes_are byte access areas (a + 1) n (and_second (allows access (range_at (ranges byte areas) a))
    (all_from (λ k. allows access (range_at (ranges byte areas) k)) (a + 1) n) h))
  where
    at : (o : Option Area) → area_of areas a ≡ o → is_some o ≡ true
        → bytes_from (ranges byte areas) (a + 1) n ≡ Some (map byte (range_with_len (a + 1) n))
        → option_and_then (λ b. option_map (λ bs. b ∷ bs) (bytes_from (ranges byte areas) (a + 1) n))
        (byte_of (ranges byte areas) a) ≡ Some (byte a ∷ map byte (range_with_len (a + 1) n))
    at (Some s) e h rest = rw (byte_found byte a areas s e, rest) refl
    at None e h rest = absurd (cc)

-- what the laws of memory say
abbrev pub BytesThere : Type 0
BytesThere = (m : List Range) (a : ℕ) → is_some (byte_of m a) ≡ is_some (range_at m a)

-- there are bytes exactly where each address is in memory
pub bytes_there : BytesThere → (m : List Range) (a n : ℕ) → is_some (bytes_from m a n)
    ≡ all_from (λ k. allows Load (range_at m k)) a n
bytes_there there m a zero = refl
bytes_there there m a (suc n) = at (byte_of m a) (bytes_from m (a + 1) n)
    ∙ ap (λ b. b && is_some (bytes_from m (a + 1) n)) (there m a)
    ∙ ap (λ b. is_some (range_at m a) && b) (bytes_there there m (a + 1) n)
  where
    at : (o : Option ℕ) (r : Option (List ℕ)) → is_some (option_and_then (λ b. option_map (λ bs. b ∷ bs) r) o)
        ≡ (is_some o && is_some r)
    at None r = refl
    at (Some b) None = refl
    at (Some b) (Some bs) = refl

-- no bytes where an address is outside
pub no_bytes : BytesThere → (m : List Range) (a n : ℕ) → all_from (λ k. allows Load (range_at m k)) a n ≡ false
    → bytes_from m a n ≡ None
no_bytes there m a n h = at (bytes_from m a n) (bytes_there there m a n ∙ h)
  where
    at : (o : Option (List ℕ)) → is_some o ≡ false → o ≡ None
    at None e = refl
    at (Some bs) e = absurd (cc)

-- fetches
pub fetched_unaligned : (m : List Range) (a : ℕ) → a % 4 ≢ 0 → fetched m a ≡ None
unfolding fetched
fetched_unaligned m a h = rw (ne_eqb (a % 4) 0 h) refl

pub fetched_when : (m : List Range) (a : ℕ) (v : Bool) → a % 4 ≡ 0 → all_from (λ k. allows Fetch (range_at m k)) a 4 ≡ v
    → fetched m a ≡ cond v (option_map number_of (bytes_from m a 4)) None
unfolding fetched
fetched_when m a v h e = rw (eq-eqb (a % 4) 0 h, e) refl

-- loads
pub loaded_unaligned : (m : List Range) (width : Width) (a : ℕ) → a % size_of width ≢ 0 → loaded m width a ≡ None
unfolding loaded
loaded_unaligned m width a h = rw (ne_eqb (a % size_of width) 0 h) refl

pub loaded_when : (m : List Range) (width : Width) (a : ℕ) → a % size_of width ≡ 0
    → loaded m width a ≡ option_map (λ n. loaded_as width n) (option_map number_of (bytes_from m a (size_of width)))
unfolding loaded
loaded_when m width a h = rw (eq-eqb (a % size_of width) 0 h) (at (bytes_from m a (size_of width)))
  where
    at : (o : Option (List ℕ)) → option_map (λ bs. loaded_as width (number_of bs)) o
        ≡ option_map (λ n. loaded_as width n) (option_map number_of o)
    at None = refl
    at (Some bs) = refl

-- stores
pub stored_unaligned : (m : List Range) (width : Width) (a v : ℕ) → a % size_of width ≢ 0 → stored m width a v ≡ None
unfolding stored
stored_unaligned m width a v h = rw (ne_eqb (a % size_of width) 0 h) refl

pub stored_when : (m : List Range) (width : Width) (a v : ℕ) (b : Bool) → a % size_of width ≡ 0
    → all_from (λ k. allows Store (range_at m k)) a (size_of width) ≡ b
    → stored m width a v ≡ cond b (Some (put_bytes m a (low_bytes (size_of width) v))) None
unfolding stored
stored_when m width a v b h e = rw (eq-eqb (a % size_of width) 0 h, e) refl

pub length-low_bytes : (n v : ℕ) → length (low_bytes n v) ≡ n
length-low_bytes zero v = refl
length-low_bytes (suc n) v = ap suc (length-low_bytes n (v / 256))
