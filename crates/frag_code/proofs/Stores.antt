-- A store of a word on the machine's way.
use Rattle.std.proofs.Common.{◌≡◌, ◌≢◌, ◌⊎◌, ℕ, ◌+◌, ◌/◌, ◌%◌, ◌^◌, ◌<◌, ◌≤◌, List, Bool, true, false, cond, refl, ap}
use Rattle.std.proofs.Common.{◌∙◌, arith, inl, inr, get_or}
use Rattle.std.specs.Prelude.{Some, nat_eq, nat_lt, ◌==◌}
use Rattle.std.proofs.lemmas.Bool.Decides.{nat_tests}
use Rattle.rv_isa.specs.declared.Width.TheVariants.{Word}
use Rattle.machine_spec.specs.Memory.{Range, range_at, byte_of}
use Rattle.machine_spec.specs.Widths.{number_of, low_bytes}
use Rattle.machine_spec.specs.Start.{behind}
use Rattle.machine_spec.proofs.AllFrom.{each_passes}
use Rattle.flat_spec.specs.Stores.{loaded, stored, allows_store, can_store, put_bytes, bytes_from}
use Rattle.flat_spec.specs.Machine.{Machine, register}
use Rattle.flat_spec.specs.Machine as flat
use Rattle.flat_spec.proofs.Pieces.{put_bytes_shape, put_bytes_elsewhere, put_bytes_there, bytes_from_same}
use Rattle.flat_spec.proofs.Pieces.{bytes_from_are, storable_same, writable_there}
use Rattle.frag_code.specs.Meaning.{View, Rights, with_word}
use Rattle.frag_code.specs.Machines.{HasRights, IsWordKept}
use Rattle.frag_code.proofs.OnWay.{OnWay, storable}

-- the number of a word's bytes, and its bytes
pub number_of_low : (v : ℕ) → number_of (low_bytes 4 v) ≡ v % 2 ^ 32
number_of_low v = omega arith

pub low_of_word : (v : ℕ) → low_bytes 4 v ≡ low_bytes 4 (v % 2 ^ 32)
low_of_word v =
    let e0 : v % 256 ≡ v % 2 ^ 32 % 256 = omega arith in
    let e1 : v / 256 % 256 ≡ v % 2 ^ 32 / 256 % 256 = omega arith in
    let e2 : v / 256 / 256 % 256 ≡ v % 2 ^ 32 / 256 / 256 % 256 = omega arith in
    let e3 : v / 256 / 256 / 256 % 256 ≡ v % 2 ^ 32 / 256 / 256 / 256 % 256 = omega arith in
    rw (e0, e1, e2, e3) refl

-- a store where bytes can be stored
pub store_is : (memory : List Range) (a v : ℕ) → a % 4 ≡ 0 → can_store memory a 4 ≡ true
    → stored memory Word a v ≡ Some (put_bytes memory a (low_bytes 4 v))
unfolding stored
store_is memory a v aligned h =
    let test : (a % 4 == 0) ≡ true = grind (arith, nat_tests) in
    rw (test, h) refl

-- a word that is loaded is the number of its bytes
pub load_is : (memory : List Range) (a : ℕ) (bs : List ℕ) → a % 4 ≡ 0 → bytes_from memory a 4 ≡ Some bs
    → loaded memory Word a ≡ Some (number_of bs)
unfolding loaded
load_is memory a bs aligned h =
    let test : (a % 4 == 0) ≡ true = grind (arith, nat_tests) in
    rw (test, h) refl

pub load_same : (m n : List Range) (a : ℕ) → bytes_from m a 4 ≡ bytes_from n a 4 → loaded m Word a ≡ loaded n Word a
unfolding loaded
load_same m n a h = rw h refl

-- the memory after a store
module _ (g : Rights) (start : Machine) (at a v : ℕ) (s : View) (m : Machine) (given : HasRights start.memory g)
    (h : OnWay g start at s m) (aligned : a % 4 ≡ 0) (may : g.writes a ≡ true) where
  can : can_store m.memory a 4 ≡ true
  can = storable_same m.memory start.memory a 4 h.shape ∙ storable start.memory g a given aligned may

  there : (i : ℕ) → i < 4 → byte_of (put_bytes m.memory a (low_bytes 4 v)) (a + i) ≡ Some (get_or (low_bytes 4 v) i 0)
  there i small =
      put_bytes_there m.memory a (low_bytes 4 v)
      (λ k low high. writable_there m.memory k (each_passes (λ x. allows_store (range_at m.memory x)) a 4 can k low
      high)) i small

  elsewhere : (k : ℕ) → (k < a) ⊎ (a + 4 ≤ k) → byte_of (put_bytes m.memory a (low_bytes 4 v)) k ≡ byte_of m.memory k
  elsewhere k outside = put_bytes_elsewhere m.memory a (low_bytes 4 v) k outside

  apart : (b : ℕ) → b % 4 ≡ 0 → b ≢ a → (k : ℕ) → b ≤ k → k < b + 4 → (t : Bool) → nat_lt b a ≡ t → (k < a)
      ⊎ (a + 4 ≤ k)
  apart b even other k low high true f =
      let less : b < a = grind (arith, nat_tests) in
      inl (omega (arith, even, aligned))
  apart b even other k low high false f =
      let more : a ≤ b = grind (arith, nat_tests) in
      inr (omega (arith, even, aligned, other))

  words : (b : ℕ) → b % 4 ≡ 0 → loaded m.memory Word b ≡ Some (s.memory b) → (t : Bool) → nat_eq b a ≡ t
      → loaded (put_bytes m.memory a (low_bytes 4 v)) Word b ≡ Some (cond t (v % 2 ^ 32) (s.memory b))
  words b even before true e =
      let same : b ≡ a = grind (arith, nat_tests) in
      rw same (load_is (put_bytes m.memory a (low_bytes 4 v)) a (low_bytes 4 v) aligned
      (bytes_from_are (put_bytes m.memory a (low_bytes 4 v)) a (low_bytes 4 v) there)
      ∙ ap (λ x. Some x) (number_of_low v))
  words b even before false e =
      let other : b ≢ a = grind (arith, nat_tests) in
      load_same (put_bytes m.memory a (low_bytes 4 v)) m.memory b
      (bytes_from_same (put_bytes m.memory a (low_bytes 4 v)) m.memory b 4
      (λ k low high. elsewhere k (apart b even other k low high (nat_lt b a) refl)))
      ∙ before

  bytes : (b : ℕ) → b % 4 ≡ 0 → IsWordKept g s start.memory m.memory b → (t : Bool) → nat_eq b a ≡ t
      → ((k : ℕ) → b ≤ k → k < b + 4 → byte_of (put_bytes m.memory a (low_bytes 4 v)) k ≡ byte_of start.memory k)
      ⊎ ((g.writes b ≡ true) × (bytes_from (put_bytes m.memory a (low_bytes 4 v)) b 4
      ≡ Some (low_bytes 4 (cond t (v % 2 ^ 32) (s.memory b)))))
  bytes b even before true e =
      let same : b ≡ a = grind (arith, nat_tests) in
      inr (
        rw same may,
        rw same (bytes_from_are (put_bytes m.memory a (low_bytes 4 v)) a (low_bytes 4 v) there
            ∙ ap (λ x. Some x) (low_of_word v)),
      )
  bytes b even before false e = by before
    where
      other : b ≢ a
      other = grind (arith, nat_tests)

      still : (k : ℕ) → b ≤ k → k < b + 4 → byte_of (put_bytes m.memory a (low_bytes 4 v)) k ≡ byte_of m.memory k
      still k low high = elsewhere k (apart b even other k low high (nat_lt b a) refl)

      by : IsWordKept g s start.memory m.memory b
          → ((k : ℕ) → b ≤ k → k < b + 4 → byte_of (put_bytes m.memory a (low_bytes 4 v)) k ≡ byte_of start.memory k)
          ⊎ ((g.writes b ≡ true) × (bytes_from (put_bytes m.memory a (low_bytes 4 v)) b 4
          ≡ Some (low_bytes 4 (s.memory b))))
      by (inl same) = inl (λ k low high. still k low high ∙ same k low high)
      by (inr stored) = inr (
        stored.0,
        bytes_from_same (put_bytes m.memory a (low_bytes 4 v)) m.memory b 4 still
            ∙ stored.1,
      )

  pub way_stores : OnWay g start (at + 4) (with_word a (v % 2 ^ 32) s) (flat.stores (stored m.memory Word a v) m)
  way_stores = rw (store_is m.memory a v aligned can) (record {
    running = h.running;
    there = let next : behind (at % 2 ^ 32) ≡ (at + 4) % 2 ^ 32 = omega arith in ap behind h.there ∙ next;
    long = h.long;
    shows = record {
      registers = h.shows.registers;
      words = λ b even may. words b even (h.shows.words b even may) (nat_eq b a) refl;
    };
    others = h.others;
    shape = put_bytes_shape m.memory a (low_bytes 4 v) ∙ h.shape;
    bytes = λ b even. bytes b even (h.bytes b even) (nat_eq b a) refl;
  })
