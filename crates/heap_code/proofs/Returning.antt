-- A machine that came from an entry to ra served the request, if the view that it shows says so.
use Rattle.std.proofs.Common.{◌≡◌, ℕ, zero, suc, ◌+◌, ◌-◌, ◌*◌, ◌/◌, ◌%◌, ◌^◌, ◌<◌, ◌≤◌, ◌⊎◌, List, ◌∷◌, Bool, true}
use Rattle.std.proofs.Common.{false, ◌&&◌, ◌||◌, get_or, refl, ap, sym, ◌∙◌, subst, inl, inr, arith}
use Rattle.std.specs.Prelude.{Option, Some, None, ◌==◌, is_some, unwrap_or, option_map, option_and_then, nat_le, nat_lt}
use Rattle.std.proofs.lemmas.Bool.{cases_lt}
use Rattle.std.proofs.lemmas.Bool.Decides.{nat_tests}
use Rattle.rv_isa.specs.declared.Width.TheVariants.{Word}
use Rattle.plan_core.specs.declared.types.Area.{Area}
use Rattle.machine_spec.specs.Memory.{Range, range_at, byte_of, all_from}
use Rattle.machine_spec.specs.Widths.{low_bytes}
use Rattle.flat_spec.specs.Stores.{loaded, stored, can_store, allows_store, bytes_from}
use Rattle.flat_spec.specs.Machine.{Machine, register}
use Rattle.place_spec.specs.Layout.{Block, Layout}
use Rattle.place_spec.specs.Release.{block_at}
use Rattle.place_spec.proofs.SoundParts.{Parts}
use Rattle.heap_spec.specs.Places.{base_of, area_end, tables_end}
use Rattle.heap_spec.specs.Tables.{Spells}
use Rattle.heap_spec.specs.Service.{IsMachine, HoldsData, IsOutside, IsServed, IsInBlock, words_of, turn_bound}
use Rattle.heap_spec.proofs.Frames.{spells_same}
use Rattle.frag_code.specs.Meaning.{View, Rights, read}
use Rattle.frag_code.specs.Machines.{HasRights, Shows, IsWordKept}
use Rattle.frag_code.proofs.Keeping.{rights_all}
use Rattle.frag_code.proofs.OnWay.{OnWay}
use Rattle.frag_rules.specs.Rights.{in_span}
use Rattle.frag_rules.proofs.Spans.{in_span_yes}
use Rattle.heap_code.specs.Rights.{call_rights, IsSpan}
use Rattle.heap_code.proofs.Entries.{Comes}

-- the bytes of a word, one by one
pub byte_from : (memory : List Range) (a n : ℕ) (bs : List ℕ) → bytes_from memory a n ≡ Some bs → (i : ℕ) → i < n
    → byte_of memory (a + i) ≡ Some (get_or bs i 0)
byte_from memory a zero bs e i l = absurd (omega (arith, l))
byte_from memory a (suc n) bs e i l = by (byte_from memory (a + 1) n) (byte_of memory a)
    refl (bytes_from memory (a + 1) n) refl e i l
  where
    by : ((cs : List ℕ) → bytes_from memory (a + 1) n ≡ Some cs → (i : ℕ)
        → i < n → byte_of memory (a + 1 + i) ≡ Some (get_or cs i 0))
        → (o : Option ℕ) → byte_of memory a ≡ o → (r : Option (List ℕ)) → bytes_from memory (a + 1) n ≡ r
        → option_and_then (λ b. option_map (λ bs. b ∷ bs) r) o ≡ Some bs → (i : ℕ)
        → i < suc n → byte_of memory (a + i) ≡ Some (get_or bs i 0)
    by rest None u r v e i l = absurd (cc)
    by rest (Some b) u None v e i l = absurd (cc)
    by rest (Some b) u (Some cs) v e zero l =
        let q : b ∷ cs ≡ bs = cc in
        subst (λ x. byte_of memory x ≡ Some (get_or bs 0 0)) (let z : a ≡ a + 0 = omega arith in z) (u
        ∙ ap (λ xs. Some (get_or xs 0 0)) q)
    by rest (Some b) u (Some cs) v e (suc i) l =
        let q : b ∷ cs ≡ bs = cc in
        subst (λ x. byte_of memory x ≡ Some (get_or bs (suc i) 0)) (let z : a + 1 + i ≡ a + suc i = omega arith in z)
        (rest cs v i (omega (arith, l)) ∙ ap (λ xs. Some (get_or xs (suc i) 0)) q)

-- the four bytes of a word are bytes
low_small : (v i : ℕ) → i < 4 → get_or (low_bytes 4 v) i 0 < 256
low_small v zero l = omega arith
low_small v (suc zero) l = omega arith
low_small v (suc (suc zero)) l = omega arith
low_small v (suc (suc (suc zero))) l = omega arith
low_small v (suc (suc (suc (suc i)))) l = absurd (omega (arith, l))

span_parts : (lo hi a : ℕ) → in_span lo hi a ≡ true → (lo ≤ a) × (a < hi)
span_parts lo hi a e = by (nat_le lo a) refl (nat_lt a hi) refl e
  where
    by : (p : Bool) → nat_le lo a ≡ p → (q : Bool) → nat_lt a hi ≡ q → (p && q) ≡ true → (lo ≤ a) × (a < hi)
    by true u true v e = (grind (arith, nat_tests), grind (arith, nat_tests))
    by true u false v e = absurd (cc)
    by false u q v e = absurd (cc)

pub either_span : (lo hi from to a : ℕ) → (in_span lo hi a || in_span from to a) ≡ true
    → ((lo ≤ a) × (a < hi)) ⊎ ((from ≤ a) × (a < to))
either_span lo hi from to a e = by (in_span lo hi a) refl e
  where
    by : (t : Bool) → in_span lo hi a ≡ t → (t || in_span from to a) ≡ true
        → ((lo ≤ a) × (a < hi)) ⊎ ((from ≤ a) × (a < to))
    by true u e = inl (span_parts lo hi a u)
    by false u e = inr (span_parts from to a e)

all_passes : (test : ℕ → Bool) (a n : ℕ) → ((k : ℕ) → a ≤ k → k < a + n → test k ≡ true) → all_from test a n ≡ true
all_passes test a zero h = refl
all_passes test a (suc n) h =
    let first : test a ≡ true = h a (omega arith) (omega arith) in
    rw (first, all_passes test (a + 1) n (λ k l m. h k (omega (arith, l)) (omega (arith, m)))) refl

-- where words can be stored
stored_there : (memory : List Range) (a : ℕ) → a % 4 ≡ 0 → can_store memory a 4 ≡ true
    → is_some (stored memory Word a 0) ≡ true
unfolding stored
stored_there memory a aligned h = let t : (a % 4 == 0) ≡ true = grind (arith, nat_tests) in rw (t, h) refl

module _ (area : Area) (data_at from to : ℕ) (aligned : data_at % 4 ≡ 0) (span : IsSpan area data_at from to)
    (memory : List Range)
    (held : HoldsData memory data_at (area_end area data_at)) where
  word_there : (a : ℕ) → a % 4 ≡ 0 → data_at ≤ a → a + 4 ≤ area_end area data_at
      → is_some (stored memory Word a 0) ≡ true
  word_there a q lo hi =
      stored_there memory a q (all_passes (λ k. allows_store (range_at memory k)) a 4
      (λ k l m. ap allows_store (held.lies.there k (omega (arith, l, lo)) (omega (arith, m, hi))) ∙ held.writable))

  pub rights_given : HasRights memory (call_rights area data_at from to)
  rights_given a q may = by (either_span data_at (tables_end area data_at) from to a may)
    where
      given : data_at ≤ a → a + 4 ≤ area_end area data_at → (is_some (stored memory Word a 0) ≡ true)
          × (in_span data_at (area_end area data_at) a ≡ true)
      given lo hi = (word_there a q lo hi, in_span_yes data_at (area_end area data_at) a lo (omega (arith, hi)))

      by : ((data_at ≤ a) × (a < tables_end area data_at)) ⊎ ((from ≤ a) × (a < to))
          → (is_some (stored memory Word a 0) ≡ true) × (in_span data_at (area_end area data_at) a ≡ true)
      by (inl h) = given h.0 (let l = h.1 in omega (arith, l, aligned, q))
      by (inr h) =
          let l = h.1 in
          let z = span.last in
          let first = span.inside a h.0 h.1 in
          let last = span.inside (a + 3) (let f = h.0 in omega (arith, f)) (omega (arith, l, z, q)) in
          given (let f = first.0 in omega (arith, f)) (let f = last.1 in omega (arith, f))

  pub words_there : (a : ℕ) → a % 4 ≡ 0 → in_span data_at (area_end area data_at) a ≡ true
      → loaded memory Word a ≡ Some (words_of memory a)
  words_there a q h =
      let p = span_parts data_at (area_end area data_at) a h in
      let lo = p.0 in
      let hi = p.1 in
      some (loaded memory Word a) (rights_all memory a q (word_there a q lo (omega (arith, hi, q, aligned)))).1
    where
      some : (o : Option ℕ) → is_some o ≡ true → o ≡ Some (unwrap_or o 0)
      some (Some v) h = refl
      some None h = absurd (cc)

-- the view that a machine shows at its start
pub shown : (area : Area) (data_at from to : ℕ) → data_at % 4 ≡ 0 → IsSpan area data_at from to → (m : Machine)
    → HoldsData m.memory data_at (area_end area data_at)
    → Shows (call_rights area data_at from to) (record {
      registers = register m;
      memory = words_of m.memory;
      spent = 0;
    }) m
shown area data_at from to aligned span m held = record {
  registers = λ r l. by r;
  words = λ a q h. words_there area data_at from to aligned span m.memory held a q h;
}
  where
    by : (r : ℕ) → register m r ≡ read (register m) r
    by zero = refl
    by (suc r) = refl

module _ (area : Area) (data_at from to : ℕ) (aligned : data_at % 4 ≡ 0) (span : IsSpan area data_at from to)
    (m : Machine) (input output : List ℕ)
    (machine : IsMachine m) (ra : ℕ) (ra_is : register m 1 ≡ ra) (ra_small : ra < 2 ^ 32) where
  abbrev g : Rights
  g = call_rights area data_at from to

  -- the bytes outside the tables and the stretch
  byte_same : (s : View) (end : Machine) → OnWay g m ra s end → (a : ℕ)
      → (a < data_at) ⊎ (tables_end area data_at ≤ a) → (a < from) ⊎ (to ≤ a)
      → byte_of end.memory a ≡ byte_of m.memory a
  byte_same s end way a t h = by (way.bytes (a / 4 * 4) (omega arith))
    where
      no : ((data_at ≤ a / 4 * 4) × (a / 4 * 4 < tables_end area data_at)) ⊎ ((from ≤ a / 4 * 4) × (a / 4 * 4 < to))
          → (a < data_at) ⊎ (tables_end area data_at ≤ a) → (a < from) ⊎ (to ≤ a) → ⊥
      no (inl (lo, hi)) (inl l) h = omega (arith, lo, l)
      no (inl (lo, hi)) (inr l) h = omega (arith, hi, l, aligned)
      no (inr (lo, hi)) t (inl l) = omega (arith, lo, l)
      no (inr (lo, hi)) t (inr l) = let z = span.last in omega (arith, hi, l, z)

      by : IsWordKept g s m.memory end.memory (a / 4 * 4) → byte_of end.memory a ≡ byte_of m.memory a
      by (inl same) = same a (omega arith) (omega arith)
      by (inr w) = absurd (no (either_span data_at (tables_end area data_at) from to (a / 4 * 4) w.0) t h)

  pub byte_small : (s : View) (end : Machine) → OnWay g m ra s end → (a b : ℕ) → byte_of end.memory a ≡ Some b → b < 256
  byte_small s end way a b e = by (way.bytes (a / 4 * 4) (omega arith))
    where
      by : IsWordKept g s m.memory end.memory (a / 4 * 4) → b < 256
      by (inl same) = machine.bytes a b (sym (same a (omega arith) (omega arith)) ∙ e)
      by (inr w) =
          let i : ℕ = a - a / 4 * 4 in
          let l : i < 4 = omega arith in
          let q : byte_of end.memory (a / 4 * 4 + i) ≡ Some (get_or (low_bytes 4 (s.memory (a / 4 * 4))) i 0) =
          byte_from end.memory (a / 4 * 4) 4 (low_bytes 4 (s.memory (a / 4 * 4))) w.1 i l in
          let p : byte_of end.memory a ≡ Some (get_or (low_bytes 4 (s.memory (a / 4 * 4))) i 0) =
          subst (λ x. byte_of end.memory x ≡ Some (get_or (low_bytes 4 (s.memory (a / 4 * 4))) i 0))
          (let z : a / 4 * 4 + i ≡ a = omega arith in z) q in
          let v : get_or (low_bytes 4 (s.memory (a / 4 * 4))) i 0
          ≡ b = (let both : Some (get_or (low_bytes 4 (s.memory (a / 4 * 4))) i 0) ≡ Some b = sym p ∙ e in cc) in
          subst (λ x. x < 256) v (low_small (s.memory (a / 4 * 4)) i l)

  apart : (a : ℕ) → (a < base_of area data_at) ⊎ (area_end area data_at ≤ a) → (a < from) ⊎ (to ≤ a)
  apart a o = by (cases_lt a from) (cases_lt a to) o
    where
      by : (a < from) ⊎ (from ≤ a) → (a < to) ⊎ (to ≤ a) → (a < base_of area data_at) ⊎ (area_end area data_at ≤ a)
          → (a < from) ⊎ (to ≤ a)
      by (inl l) q o = inl l
      by (inr l) (inr q) o = inr q
      by (inr l) (inl q) (inl k) = absurd (let i = (span.inside a l q).0 in omega (arith, i, k))
      by (inr l) (inl q) (inr k) = absurd (let i = (span.inside a l q).1 in omega (arith, i, k))

  pub served : (before after : Layout) (Answers : Machine → Type 0) (s : View) (spent : ℕ)
      → (comes : Comes g m input output ra s spent m)
      → s.spent + 8 ≤ turn_bound area + spent → Parts area after → Spells area data_at s.memory after
      → ((r : ℕ) → s.registers r < 2 ^ 32)
      → ((end : Machine) → OnWay g m ra s end → Answers end)
      → ((b : Block) → block_at before b.first ≡ Some b → (a : ℕ) → IsInBlock area data_at b a → (a < from) ⊎ (to ≤ a))
      → IsServed area data_at before after m input output Answers
  served before after Answers s spent comes most p spells words answers blocks = record {
    end = comes.after;
    count = comes.count;
    some = comes.some;
    within = let b = comes.bound in omega (arith, b, most);
    run = comes.run;
    machine = record {
      long = way.long;
      words = λ r l. subst (λ x. x < 2 ^ 32) (sym (way.shows.registers r l)) (small r);
      bytes = byte_small s comes.after way;
    };
    running = way.running;
    pc = way.there ∙ (let q : ra % 2 ^ 32 ≡ ra = omega (arith, ra_small) in q ∙ sym ra_is);
    answers = answers comes.after way;
    spells = spells_same area after p data_at s.memory (words_of comes.after.memory)
        aligned (same data_at aligned (omega arith) (omega arith))
        (λ k q lo hi. same k q (omega (arith, lo)) hi) spells;
    registers = λ r h. way.others r h;
    shape = way.shape;
    outside = λ a o. byte_same s comes.after way a (tables a o) (apart a (area_side a o));
    blocks = λ i d l found a h. byte_same s comes.after way a (inr (let q = h.0 in omega (arith, q)))
        (blocks (get_or after.blocks i d) found a h);
  }
    where
      way : OnWay g m ra s comes.after
      way = comes.way

      small : (r : ℕ) → read s.registers r < 2 ^ 32
      small zero = omega arith
      small (suc r) = words (suc r)

      same : (k : ℕ) → k % 4 ≡ 0 → data_at ≤ k → k < tables_end area data_at
          → words_of comes.after.memory k ≡ s.memory k
      same k q lo hi =
          ap (λ o. unwrap_or o 0) (way.shows.words k q
          (in_span_yes data_at (area_end area data_at) k lo (omega (arith, hi))))

      tables : (a : ℕ) → IsOutside area data_at a → (a < data_at) ⊎ (tables_end area data_at ≤ a)
      tables a (inl l) = inl l
      tables a (inr (inl (t, l))) = inr t
      tables a (inr (inr l)) = inr (omega (arith, l))

      area_side : (a : ℕ) → IsOutside area data_at a → (a < base_of area data_at) ⊎ (area_end area data_at ≤ a)
      area_side a (inl l) = inl (omega (arith, l))
      area_side a (inr (inl (t, l))) = inl l
      area_side a (inr (inr l)) = inr l
