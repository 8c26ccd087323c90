-- Lines: what is read is what is written.
use Rattle.std.proofs.Common.{◌≡◌, ◌==◌, ◌<◌, ◌≤◌, ◌^◌, ◌↔◌, ℕ, false, List, [], ◌∷◌, ◌++◌, Option, Some, None, refl}
use Rattle.std.proofs.Common.{subst, arith, append_assoc}
use Rattle.std.specs.Prelude.{codes}
use Rattle.std.specs.Fmt.{decimal}
use Rattle.std.proofs.lemmas.Bool.Decides.{nat_tests}
use Rattle.std.proofs.lemmas.Option.{option_and_then_some, some_pair_parts}
use Rattle.text_fields.specs.Reading.{◌>>=◌, after_front, number_at, hex_at}
use Rattle.text_fields.specs.Writing.{hex8}
use Rattle.plan_core.specs.declared.types.PlanLine.{PlanLine}
use Rattle.plan_core.specs.declared.types.Row.{Row}
use Rattle.plan_core.specs.declared.types.Area.{Area}
use Rattle.plan_core.specs.declared.lines.TextLine.{TextLine}
use Rattle.plan_core.specs.declared.lines.TextLine.TheVariants.{Head, Size, Site, Mask, End}
use Rattle.plan_core.specs.Plan.{line_text, LineFits}
use Rattle.plan_core.specs.Reading.{or_else, area_at, site_at, row_at, word_line_at, line_at}

-- what the laws of fields say: each is read exactly where it is written
pub record Fields : Type 0 where
  pub front : (front bytes rest : List ℕ) → (after_front front bytes ≡ Some rest) ↔ (bytes ≡ front ++ rest)
  pub number : (end max n : ℕ) (bytes rest : List ℕ) → end < 48 → max < 2 ^ 59
      → (number_at end max bytes ≡ Some (n, rest)) ↔ ((n ≤ max) × (bytes ≡ decimal n ++ (end ∷ rest)))
  pub hexadecimal : (n : ℕ) (bytes rest : List ℕ)
      → (hex_at bytes ≡ Some (n, rest)) ↔ ((n < 2 ^ 32) × (bytes ≡ hex8 n ++ rest))

-- and so is a line
abbrev pub ReadsLines : Type 0
ReadsLines = (text : List ℕ) (l : TextLine) (rest : List ℕ)
    → (line_at text ≡ Some (l, rest)) ↔ (LineFits l × (text ≡ line_text l ++ rest))

front_takes : Fields → (front bytes rest : List ℕ) → after_front front bytes ≡ Some rest → bytes ≡ front ++ rest
front_takes fields front bytes rest found = (fields.front front bytes rest).0 found

front_again : Fields → (front rest : List ℕ) → after_front front (front ++ rest) ≡ Some rest
front_again fields front rest = (fields.front front (front ++ rest) rest).1 refl

-- nothing is found where the first bytes differ
front_fails : Fields → (f g : ℕ) (front bytes : List ℕ) → (g == f) ≡ false → after_front (f ∷ front) (g ∷ bytes) ≡ None
front_fails fields f g front bytes differs = at (after_front (f ∷ front) (g ∷ bytes)) refl
  where
    at : (o : Option (List ℕ)) → after_front (f ∷ front) (g ∷ bytes) ≡ o → o ≡ None
    at None e = refl
    at (Some rest) e =
        let is : g ∷ bytes ≡ (f ∷ front) ++ rest = (fields.front (f ∷ front) (g ∷ bytes) rest).0 e in
        let same : g ≡ f = cc in
        absurd (grind (arith, nat_tests))

number_takes : Fields → (end max n : ℕ) (bytes rest : List ℕ) → end < 48 → max < 2 ^ 59
    → number_at end max bytes ≡ Some (n, rest)
    → (n ≤ max) × (bytes ≡ decimal n ++ (end ∷ rest))
number_takes fields end max n bytes rest low small found = (fields.number end max n bytes rest low small).0 found

number_again : Fields → (end max n : ℕ) (rest : List ℕ) → end < 48 → n ≤ max → max < 2 ^ 59
    → number_at end max (decimal n ++ (end ∷ rest)) ≡ Some (n, rest)
number_again fields end max n rest low fits small =
    (fields.number end max n (decimal n ++ (end ∷ rest)) rest low small).1 (fits, refl)

hex_takes : Fields → (bytes : List ℕ) (n : ℕ) (rest : List ℕ) → hex_at bytes ≡ Some (n, rest)
    → (n < 2 ^ 32) × (bytes ≡ hex8 n ++ rest)
hex_takes fields bytes n rest found = (fields.hexadecimal n bytes rest).0 found

hex_again : Fields → (n : ℕ) (rest : List ℕ) → n < 2 ^ 32 → hex_at (hex8 n ++ rest) ≡ Some (n, rest)
hex_again fields n rest small = (fields.hexadecimal n (hex8 n ++ rest) rest).1 (small, refl)

-- both steps found something, if the two together did
bound : {A B P : Type 0} (r : Option A) (f : A → Option B) (y : B) → (r >>= f) ≡ Some y
    → ((x : A) → r ≡ Some x → f x ≡ Some y → P) → P
bound r f y e k = option_and_then_some f r y e k

-- each line with a rest behind it, as a front and its fields in turn
head_shape : (rest : List ℕ) → line_text Head ++ rest ≡ (codes "halo-plan 1" ++ (10 ∷ [])) ++ rest
unfolding line_text
head_shape rest = refl

end_shape : (rest : List ℕ) → line_text End ++ rest ≡ (codes "end" ++ (10 ∷ [])) ++ rest
unfolding line_text
end_shape rest = refl

size_shape : (a : Area) (rest : List ℕ)
    → line_text (Size a) ++ rest ≡ codes "area "
    ++ (decimal a.chunks ++ (32 ∷ (decimal a.log_chunk ++ (32 ∷ (decimal a.fallback ++ (10 ∷ rest))))))
unfolding line_text
size_shape a rest = simp append_assoc

site_shape : (s : PlanLine) (rest : List ℕ)
    → line_text (Site s) ++ rest ≡ codes "site " ++ (decimal s.bit ++ (32 ∷ (hex8 s.addr ++ (10 ∷ rest))))
unfolding line_text
site_shape s rest = simp append_assoc

row_shape : (r : Row) (rest : List ℕ)
    → line_text (Mask r) ++ rest ≡ codes "row " ++ (decimal r.group ++ (32 ∷ (hex8 r.mask ++ (10 ∷ rest))))
unfolding line_text
row_shape r rest = simp append_assoc

-- which choice found something
chosen : {A P : Type 0} (o : Option (List ℕ)) (fields : List ℕ → Option A) (other : Option A) (y : A)
    → or_else o fields other ≡ Some y → ((rest : List ℕ) → o ≡ Some rest → fields rest ≡ Some y → P)
    → (other ≡ Some y → P) → P
chosen None fields other y e here there = there e
chosen (Some rest) fields other y e here there = here rest refl e

-- a line that is found fits, and is written there
abbrev Takes : List ℕ → TextLine → List ℕ → Type 0
Takes text l rest = LineFits l × (text ≡ line_text l ++ rest)

site_takes : Fields → (text fields : List ℕ) (l : TextLine) (rest : List ℕ)
    → after_front (codes "site ") text ≡ Some fields → site_at fields ≡ Some (l, rest) → Takes text l rest
unfolding site_at
site_takes laws text fields l rest front found =
    bound (number_at 32 255 fields) _ _ found (λ bit e1 t1.
    bound (hex_at bit.1) _ _ t1 (λ addr e2 t2.
    bound (after_front (10 ∷ []) addr.1) _ _ t2 (λ tail e3 t3.
    let s : PlanLine = record { bit = bit.0; addr = addr.0 } in
    let both : (Site s ≡ l) × (tail ≡ rest) = some_pair_parts _ _ _ _ t3 in
    let number = number_takes laws 32 255 bit.0 fields bit.1 (omega arith) (omega arith) e1 in
    let hex = hex_takes laws bit.1 addr.0 addr.1 e2 in
    let newline = front_takes laws (10 ∷ []) addr.1 tail e3 in
    let word = front_takes laws (codes "site ") text fields front in
    let P : TextLine → Type 0 = λ k. Takes text k rest in
    let text_is : text ≡ line_text (Site s) ++ rest =
    rw (site_shape s rest) (cc (word, number.1, hex.1, newline, both.1)) in
    subst P both.0 ((number.0, hex.0), text_is))))

row_takes : Fields → (text fields : List ℕ) (l : TextLine) (rest : List ℕ)
    → after_front (codes "row ") text ≡ Some fields → row_at fields ≡ Some (l, rest) → Takes text l rest
unfolding row_at
row_takes laws text fields l rest front found =
    bound (number_at 32 255 fields) _ _ found (λ group e1 t1.
    bound (hex_at group.1) _ _ t1 (λ mask e2 t2.
    bound (after_front (10 ∷ []) mask.1) _ _ t2 (λ tail e3 t3.
    let r : Row = record { group = group.0; mask = mask.0 } in
    let both : (Mask r ≡ l) × (tail ≡ rest) = some_pair_parts _ _ _ _ t3 in
    let number = number_takes laws 32 255 group.0 fields group.1 (omega arith) (omega arith) e1 in
    let hex = hex_takes laws group.1 mask.0 mask.1 e2 in
    let newline = front_takes laws (10 ∷ []) mask.1 tail e3 in
    let word = front_takes laws (codes "row ") text fields front in
    let P : TextLine → Type 0 = λ k. Takes text k rest in
    let text_is : text ≡ line_text (Mask r) ++ rest =
    rw (row_shape r rest) (cc (word, number.1, hex.1, newline, both.1)) in
    subst P both.0 ((number.0, hex.0), text_is))))

area_takes : Fields → (text fields : List ℕ) (l : TextLine) (rest : List ℕ)
    → after_front (codes "area ") text ≡ Some fields → area_at fields ≡ Some (l, rest) → Takes text l rest
unfolding area_at
area_takes laws text fields l rest front found =
    bound (number_at 32 4294967295 fields) _ _ found (λ chunks e1 t1.
    bound (number_at 32 255 chunks.1) _ _ t1 (λ log e2 t2.
    bound (number_at 10 4294967295 log.1) _ _ t2 (λ fallback e3 t3.
    let a : Area = record { chunks = chunks.0; log_chunk = log.0; fallback = fallback.0 } in
    let both : (Size a ≡ l) × (fallback.1 ≡ rest) = some_pair_parts _ _ _ _ t3 in
    let first = number_takes laws 32 4294967295 chunks.0 fields chunks.1 (omega arith) (omega arith) e1 in
    let second = number_takes laws 32 255 log.0 chunks.1 log.1 (omega arith) (omega arith) e2 in
    let third = number_takes laws 10 4294967295 fallback.0 log.1 fallback.1 (omega arith) (omega arith) e3 in
    let word = front_takes laws (codes "area ") text fields front in
    let P : TextLine → Type 0 = λ k. Takes text k rest in
    let text_is : text ≡ line_text (Size a) ++ rest =
    rw (size_shape a rest) (cc (word, first.1, second.1, third.1, both.1)) in
    let low : chunks.0 < 2 ^ 32 = omega (arith, first.0) in
    let high : fallback.0 < 2 ^ 32 = omega (arith, third.0) in
    subst P both.0 ((low, second.0, high), text_is))))

word_takes : Fields → (text : List ℕ) (l : TextLine) (rest : List ℕ) → word_line_at text ≡ Some (l, rest)
    → Takes text l rest
unfolding word_line_at
word_takes laws text l rest found =
    let P : TextLine → Type 0 = λ k. Takes text k rest in
    chosen _ _ _ _ found
    (λ tail front e.
    let both : (Head ≡ l) × (tail ≡ rest) = some_pair_parts _ _ _ _ e in
    let word = front_takes laws (codes "halo-plan 1" ++ (10 ∷ [])) text tail front in
    let text_is : text ≡ line_text Head ++ rest = rw (head_shape rest, ← both.1) word in
    subst P both.0 (tt, text_is))
    (λ other. chosen _ _ _ _ other
    (λ tail front e.
    let both : (End ≡ l) × (tail ≡ rest) = some_pair_parts _ _ _ _ e in
    let word = front_takes laws (codes "end" ++ (10 ∷ [])) text tail front in
    let text_is : text ≡ line_text End ++ rest = rw (end_shape rest, ← both.1) word in
    subst P both.0 (tt, text_is))
    (λ none. absurd cc))

pub line_takes : Fields → (text : List ℕ) (l : TextLine) (rest : List ℕ) → line_at text ≡ Some (l, rest)
    → LineFits l × (text ≡ line_text l ++ rest)
unfolding line_at
line_takes laws text l rest found =
    chosen _ _ _ _ found (λ r front e. site_takes laws text r l rest front e)
    (λ other. chosen _ _ _ _ other (λ r front e. row_takes laws text r l rest front e)
    (λ last. chosen _ _ _ _ last (λ r front e. area_takes laws text r l rest front e)
    (λ word. word_takes laws text l rest word)))

-- a line that fits and is written is found
pub line_again : Fields → (l : TextLine) (rest : List ℕ) → LineFits l → line_at (line_text l ++ rest) ≡ Some (l, rest)
unfolding line_at site_at row_at area_at word_line_at
line_again laws Head rest fits =
    let tail = (codes "halo-plan 1" ++ (10 ∷ [])) ++ rest in
    let no_site : after_front (codes "site ") tail ≡ None = front_fails laws _ _ _ _ refl in
    let no_row : after_front (codes "row ") tail ≡ None = front_fails laws _ _ _ _ refl in
    let no_area : after_front (codes "area ") tail ≡ None = front_fails laws _ _ _ _ refl in
    rw (head_shape rest, no_site, no_row, no_area, front_again laws (codes "halo-plan 1" ++ (10 ∷ [])) rest) refl
line_again laws (Size a) rest fits =
    let third = decimal a.fallback ++ (10 ∷ rest) in
    let second = decimal a.log_chunk ++ (32 ∷ third) in
    let first = decimal a.chunks ++ (32 ∷ second) in
    let no_site : after_front (codes "site ") (codes "area " ++ first) ≡ None = front_fails laws _ _ _ _ refl in
    let no_row : after_front (codes "row ") (codes "area " ++ first) ≡ None = front_fails laws _ _ _ _ refl in
    rw (
      size_shape a rest,
      no_site,
      no_row,
      front_again laws (codes "area ") first,
      number_again laws 32 4294967295 a.chunks second (omega arith) (omega arith) (omega arith),
      number_again laws 32 255 a.log_chunk third (omega arith) (fits.1) (omega arith),
      number_again laws 10 4294967295 a.fallback rest (omega arith) (omega arith) (omega arith),
    ) refl
line_again laws (Site s) rest fits =
    let third = 10 ∷ rest in
    let second = hex8 s.addr ++ third in
    let first = decimal s.bit ++ (32 ∷ second) in
    rw (
      site_shape s rest,
      front_again laws (codes "site ") first,
      number_again laws 32 255 s.bit second (omega arith) (fits.0) (omega arith),
      hex_again laws s.addr third (fits.1),
      front_again laws (10 ∷ []) rest,
    ) refl
line_again laws (Mask r) rest fits =
    let third = 10 ∷ rest in
    let second = hex8 r.mask ++ third in
    let first = decimal r.group ++ (32 ∷ second) in
    let no_site : after_front (codes "site ") (codes "row " ++ first) ≡ None = front_fails laws _ _ _ _ refl in
    rw (
      row_shape r rest,
      no_site,
      front_again laws (codes "row ") first,
      number_again laws 32 255 r.group second (omega arith) (fits.0) (omega arith),
      hex_again laws r.mask third (fits.1),
      front_again laws (10 ∷ []) rest,
    ) refl
line_again laws End rest fits =
    let tail = (codes "end" ++ (10 ∷ [])) ++ rest in
    let no_site : after_front (codes "site ") tail ≡ None = front_fails laws _ _ _ _ refl in
    let no_row : after_front (codes "row ") tail ≡ None = front_fails laws _ _ _ _ refl in
    let no_area : after_front (codes "area ") tail ≡ None = front_fails laws _ _ _ _ refl in
    let no_head : after_front (codes "halo-plan 1" ++ (10 ∷ [])) tail ≡ None = front_fails laws _ _ _ _ refl in
    rw (end_shape rest, no_site, no_row, no_area, no_head, front_again laws (codes "end" ++ (10 ∷ [])) rest) refl

-- a line is read exactly where it fits and is written
pub reads_lines : Fields → ReadsLines
reads_lines laws text l rest = (line_takes laws text l rest, λ is. rw (is.1) (line_again laws l rest is.0))

-- two lines at one place are one line
pub one_line : ReadsLines → (k l : TextLine) (x y : List ℕ) → LineFits k → LineFits l
    → line_text k ++ x ≡ line_text l ++ y → (k ≡ l) × (x ≡ y)
one_line reads k l x y k_fits l_fits same =
    let here : line_at (line_text k ++ x) ≡ Some (k, x) = (reads (line_text k ++ x) k x).1 (k_fits, refl) in
    let there : line_at (line_text l ++ y) ≡ Some (l, y) = (reads (line_text l ++ y) l y).1 (l_fits, refl) in
    let joined : ◌≡◌ {A = Option (TextLine × List ℕ)} (Some (k, x)) (Some (l, y)) = cc in
    some_pair_parts k l x y joined

-- a line has a first byte
pub line_some : (l : TextLine) → (c : ℕ) × (cs : List ℕ) × (line_text l ≡ c ∷ cs)
unfolding line_text
line_some Head = (_, _, refl)
line_some (Size a) = (_, _, refl)
line_some (Site s) = (_, _, refl)
line_some (Mask r) = (_, _, refl)
line_some End = (_, _, refl)
