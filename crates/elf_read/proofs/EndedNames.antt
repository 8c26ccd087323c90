-- Names that end in the strings.
use Rattle.std.proofs.Common.{◌≡◌, ◌≢◌, ℕ, suc, ◌+◌, ◌-◌, ◌<◌, ◌≤◌, Bool, true, false, not, List, ◌∷◌, length, take}
use Rattle.std.proofs.Common.{drop, get_or, nat_eq, nat_le, nat_lt, refl, sym, ap, ◌∙◌, inl, inr, arith, length-drop}
use Rattle.std.proofs.Common.{length-take, drop-cons}
use Rattle.std.specs.List.{All}
use Rattle.std.proofs.lemmas.Bool.{cases_lt}
use Rattle.std.proofs.lemmas.Bool.Decides.{nat_tests}
use Rattle.std.proofs.lemmas.List.{get_or-drop, get_or-take, get_or_default}
use Rattle.std.proofs.lemmas.List.Folds.{list_any_at, list_any_none}
use Rattle.elf_spec.specs.declared.Section.{Section}
use Rattle.elf_spec.specs.Fields.{byte_at}
use Rattle.elf_spec.specs.Tables.{name_len_at}
use Rattle.elf_read.specs.Checks.{is_ended, is_name_out}

abbrev is_zero : ℕ → Bool
is_zero b = nat_eq b 0

-- the bytes of the strings from a name on
abbrev rest : List ℕ → Section → ℕ → List ℕ
rest file strings name = take (strings.size - name) (drop (strings.offset + name) file)

length-rest : (file : List ℕ) (strings : Section) (name : ℕ) → strings.offset + strings.size ≤ length file
    → length (rest file strings name) ≡ strings.size - name
length-rest file strings name h = omega (
  arith,
  length-take (strings.size - name) (drop (strings.offset + name) file),
  length-drop (strings.offset + name) file,
)

get_or-rest : (file : List ℕ) (strings : Section) (name k d : ℕ) → k < strings.size - name
    → get_or (rest file strings name) k d ≡ get_or file (strings.offset + name + k) d
get_or-rest file strings name k d h =
    get_or-take (strings.size - name) (drop (strings.offset + name) file) k d h
    ∙ get_or-drop (strings.offset + name) file k d

-- behind the end of the last name no byte is zero
none : (file : List ℕ) (strings : Section) (name end : ℕ) → strings.offset + strings.size ≤ length file → end ≤ name
    → ((k : ℕ) → end ≤ k → k < strings.size → byte_at file (strings.offset + k) ≢ 0)
    → All (λ b. is_zero b ≡ false) (rest file strings name)
none file strings name end inside g last = λ k d l.
    let i : k < strings.size - name = omega (arith, length-rest file strings name inside, l) in
    let p : k < length (drop (strings.offset + name) file) = omega (arith, length-drop (strings.offset + name) file) in
    let o : strings.offset + name + k ≡ strings.offset + (name + k) = omega arith in
    let n : get_or file (strings.offset + (name + k)) 0 ≢ 0 = last (name + k) (omega arith) (omega arith) in
    let e : get_or (rest file strings name) k d ≡ get_or file (strings.offset + (name + k)) d =
    get_or-rest file strings name k d i ∙ ap (λ j. get_or file j d) o in
    let f : get_or file (strings.offset + (name + k)) d ≡ get_or file (strings.offset + (name + k)) 0 =
    get_or_default file (strings.offset + (name + k)) d 0 (omega arith) in
    let m : get_or (rest file strings name) k d ≢ 0 = λ z. n (sym f ∙ sym e ∙ z) in
    grind (arith, nat_tests, m)

-- a name ends in the strings exactly where it begins before the end of the last name
ended : (file : List ℕ) (strings : Section) (name end : ℕ) → strings.offset + strings.size ≤ length file
    → end ≤ strings.size
    → (0 < end → byte_at file (strings.offset + (end - 1)) ≡ 0)
    → ((k : ℕ) → end ≤ k → k < strings.size → byte_at file (strings.offset + k) ≢ 0)
    → is_ended file strings name ≡ nat_lt name end
ended file strings name end inside short some last = elim (cases_lt name end) [
  | inl l ↦
      let t : nat_lt name end ≡ true = grind (arith, nat_tests) in
      let k : end - 1 - name < strings.size - name = omega arith in
      let o : strings.offset + name + (end - 1 - name) ≡ strings.offset + (end - 1) = omega arith in
      let z : get_or (rest file strings name) (end - 1 - name) 0 ≡ 0 =
      get_or-rest file strings name (end - 1 - name) 0 k ∙ ap (λ i. get_or file i 0) o ∙ some (omega arith) in
      let e : is_zero (get_or (rest file strings name) (end - 1 - name) 0) ≡ true = rw z refl in
      list_any_at is_zero (rest file strings name) (end - 1 - name) 0
      (omega (arith, length-rest file strings name inside)) e ∙ sym t
  | inr g ↦
      let f : nat_lt name end ≡ false = grind (arith, nat_tests) in
      list_any_none is_zero (rest file strings name) (none file strings name end inside g last) ∙ sym f
]

-- the length of a name, byte by byte
pub length_zero : (file : List ℕ) (at : ℕ) → at < length file → byte_at file at ≡ 0 → name_len_at file at ≡ 0
length_zero file at h z =
    let c : drop at file ≡ get_or file at 0 ∷ drop (suc at) file = drop-cons file at 0 h in
    rw (c, z) refl

pub length_more : (file : List ℕ) (at : ℕ) → at < length file → byte_at file at ≢ 0
    → name_len_at file at ≡ name_len_at file (at + 1) + 1
length_more file at h n =
    let s : suc at ≡ at + 1 = omega arith in
    let c : drop at file ≡ get_or file at 0 ∷ drop (at + 1) file = drop-cons file at 0 h
    ∙ ap (λ j. get_or file at 0 ∷ drop j file) s in
    let e : nat_eq (get_or file at 0) 0 ≡ false = grind (arith, nat_tests) in
    rw (c, e) (omega arith)

-- a name is refused exactly where it begins at or behind the end of the last name
pub name_out : (file : List ℕ) (strings : Section) (name end : ℕ) → strings.offset + strings.size ≤ length file
    → end ≤ strings.size
    → (0 < end → byte_at file (strings.offset + (end - 1)) ≡ 0)
    → ((k : ℕ) → end ≤ k → k < strings.size → byte_at file (strings.offset + k) ≢ 0)
    → name ≢ 0 → nat_le end name ≡ is_name_out file strings name
name_out file strings name end inside short some last named =
    let z : nat_eq name 0 ≡ false = grind (arith, nat_tests) in
    let e : nat_le end name ≡ not (nat_lt name end) = grind (arith, nat_tests) in
    rw (z, ended file strings name end inside short some last) e

-- a name that is not refused begins before the end of the last name
pub named : (file : List ℕ) (strings : Section) (name end : ℕ) → strings.offset + strings.size ≤ length file
    → end ≤ strings.size
    → (0 < end → byte_at file (strings.offset + (end - 1)) ≡ 0)
    → ((k : ℕ) → end ≤ k → k < strings.size → byte_at file (strings.offset + k) ≢ 0)
    → is_name_out file strings name ≡ false → name ≢ 0 → name < end
named file strings name end inside short some last out n =
    let e : nat_le end name ≡ false = name_out file strings name end inside short some last n ∙ out in
    grind (arith, nat_tests)
