-- Each of the four functions serves its requests, at its plain entry and at its reentrant one.
use Rattle.std.proofs.Common.{◌≡◌, ℕ, ◌+◌, ◌*◌, ◌/◌, ◌%◌, ◌^◌, ◌<◌, ◌≤◌, ◌⊎◌, ◌==◌, List, [], ◌∷◌, ◌++◌, Bool, true}
use Rattle.std.proofs.Common.{false, cond, length, refl, ap, sym, ◌∙◌, subst, inl, inr, arith, length-append}
use Rattle.std.specs.Prelude.{Option, Some, None, Any, nat_lt, find, slice_index}
use Rattle.std.proofs.lemmas.Bool.{cases_lt, eqb-false, eq-eqb, ne_eqb}
use Rattle.std.proofs.lemmas.Bool.Decides.{nat_tests}
use Rattle.rv_isa.specs.declared.Instr.{Instr}
use Rattle.rv_isa.specs.declared.Op.TheVariants.{Mul, Mulhu}
use Rattle.rv_isa.specs.declared.Width.TheVariants.{Word}
use Rattle.rv_isa.specs.Compute.{computed}
use Rattle.rv_isa.specs.Encoded as isa
use Rattle.rv_isa.specs.Encoded.{encoded}
use Rattle.rv_isa.specs.Table.{decoded}
use Rattle.plan_core.specs.declared.types.Area.{Area}
use Rattle.plan_core.specs.declared.types.Row.{Row}
use Rattle.plan_core.specs.Plan.{granules, group_of_bits}
use Rattle.machine_spec.specs.Memory.{Range, range_at}
use Rattle.flat_spec.specs.Stores.{loaded}
use Rattle.flat_spec.specs.Machine.{Machine, register}
use Rattle.place_spec.specs.Layout.{Block, Layout, granules_for, address_of}
use Rattle.place_spec.specs.Place.{Placed, placed}
use Rattle.place_spec.specs.Release.{block_at, released}
use Rattle.place_spec.proofs.Lists.{Has, has, each}
use Rattle.place_spec.proofs.Blocks.{found_first, each_found}
use Rattle.place_spec.proofs.SoundParts.{Stands, Parts, parts}
use Rattle.place_spec.proofs.Sounds.{placing, releasing, row_group}
use Rattle.heap_spec.specs.Places.{base_of}
use Rattle.heap_spec.specs.Tables.{Spells}
use Rattle.heap_spec.specs.Requests.{Form, Plain, Reentrant, argument_of, granule_at, IsPointer, placed_for}
use Rattle.heap_spec.specs.Requests.{layout_then}
use Rattle.heap_spec.specs.Service.{Suits, IsReady, IsServed, Grants, Moves, Releases, Reallocates, Frees, IsGranted}
use Rattle.heap_spec.specs.Service.{AnyAnswer, words_at, words_of, turn_bound}
use Rattle.frag_code.specs.Fragments.{Fragment}
use Rattle.frag_code.specs.Forms as forms
use Rattle.frag_code.specs.Meaning.{Rights, put, frag_run}
use Rattle.frag_code.specs.Machines.{StandsAt}
use Rattle.frag_code.specs.Ends.{Ends}
use Rattle.frag_code.proofs.Rules.{view, ends_so, seq_ends, skip_ends, compute_then, set_then, imm_ends, if_taken}
use Rattle.frag_code.proofs.Rules.{if_other}
use Rattle.frag_code.proofs.Acts.{stands_front, stands_back}
use Rattle.frag_rules.proofs.Values.{add_is, eq_yes, eq_no}
use Rattle.frag_rules.proofs.Narrow.{ends_more, ends_keep_all}
use Rattle.heap_holes.specs.Releasing.{ReleaseLowReleases}
use Rattle.heap_bytes.specs.Copying.{CopiesBlocks}
use Rattle.heap_chunks.specs.Results.{table_rights, ReleasesHigh}
use Rattle.heap_code.specs.Calls.{grant, malloc_code, calloc_code, free_code}
use Rattle.heap_code.specs.Moving.{realloc_code}
use Rattle.heap_code.specs.Pieces.{granule_of_block}
use Rattle.heap_code.specs.Words.{entry_words, two_arguments, malloc_words, calloc_words, realloc_words, free_words}
use Rattle.heap_code.specs.Words.{all_words, calloc_at, realloc_at, free_at}
use Rattle.heap_code.specs.Rights.{call_rights}
use Rattle.heap_code.proofs.Sizes.{need_some}
use Rattle.heap_code.proofs.Spots.{few_holes}
use Rattle.heap_code.proofs.Blocks.{granule_small}
use Rattle.heap_code.proofs.News.{beside}
use Rattle.heap_code.proofs.Freeing.{frees_block}
use Rattle.heap_code.proofs.Granules.{granule_ends}
use Rattle.heap_code.proofs.Granting.{Setting, grant_ends, block_from, block_to, tables_may}
use Rattle.heap_code.proofs.Reallocating.{covers, none_ends, block_ends}
use Rattle.heap_code.proofs.Coming.{with_one, with_two, one_behind, two_behind, one_spent, two_spent, register_small}
use Rattle.heap_code.proofs.Coming.{one_comes, plain_comes, two_comes, start_words, plain_words, one_small, two_small}
use Rattle.heap_code.proofs.Bytes.{word_small}
use Rattle.heap_code.proofs.Serving.{KeepsWords, IsNew, Grant, granted, settled_alone, block_span, no_span}
use Rattle.heap_code.proofs.Relocating.{relocated}

-- words that stand in a range of code stand where they can be run
abbrev pub RangesStand : Type 0
RangesStand =
    (memory : List Range) (r : Range) (at : ℕ) (words : List ℕ) → r.executable ≡ true → r.writable ≡ false
    → at + 4 * length words ≤ 2 ^ 32
    → ((a : ℕ) → at ≤ a → a < at + 4 * length words → range_at memory a ≡ Some r)
    → ((k : ℕ) → k < length words → loaded memory Word (at + 4 * k) ≡ Some (slice_index words k))
    → StandsAt memory at words

-- what the lower layers give, for a plan and its places
pub record Given (rows : List Row) (area : Area) (text_at data_at : ℕ) : Type 0 where
  pub suits : Suits rows area text_at data_at
  pub setting : Setting rows area data_at
  pub back : ReleaseLowReleases area data_at
  pub back_high : ReleasesHigh area data_at
  pub copies : CopiesBlocks
  pub decodes : (i : Instr) → isa.IsFormed i → decoded (encoded i) ≡ Some i
  pub keeps : KeepsWords
  pub standing : RangesStand
  pub malloc : forms.IsFormed (malloc_code rows area data_at)
  pub calloc : forms.IsFormed (calloc_code rows area data_at)
  pub realloc : forms.IsFormed (realloc_code rows area data_at)
  pub free : forms.IsFormed (free_code area data_at)
  pub few : length (all_words rows area data_at) ≤ 4096

upper_is : (a b : ℕ) → computed Mulhu a b ≡ a * b / 2 ^ 32
unfolding computed
upper_is a b = refl

lower_is : (a b : ℕ) → computed Mul a b ≡ a * b % 2 ^ 32
unfolding computed
lower_is a b = refl

-- a block is found where one begins
found_there : (g : ℕ) (xs : List Block) → Has (λ b. g ≡ b.first) xs
    → (b : Block) × (find (λ x. x.first == g) xs ≡ Some b)
found_there g [] h = absurd h
found_there g (x ∷ xs) h = at (found_there g xs) (x.first == g) refl h
  where
    at : (Has (λ b. g ≡ b.first) xs → (b : Block) × (find (λ x. x.first == g) xs ≡ Some b))
        → (t : Bool) → (x.first == g) ≡ t
        → (g ≡ x.first) ⊎ Has (λ b. g ≡ b.first) xs → (b : Block)
        × (cond t (Some x) (find (λ x. x.first == g) xs) ≡ Some b)
    at rest true e h = (x, refl)
    at rest false e (inl q) = absurd (eqb-false x.first g e (sym q))
    at rest false e (inr q) = rest q

module _ (rows : List Row) (area : Area) (text_at data_at : ℕ) (given : Given rows area text_at data_at)
    (layout : Layout) (m : Machine) (input output : List ℕ) (entry : ℕ)
    (ready : IsReady area text_at data_at (all_words rows area data_at) entry layout m) where
  abbrev bits : ℕ
  bits = register m 4

  abbrev ra : ℕ
  ra = register m 1

  abbrev w : ℕ
  w = granules area + 256

  abbrev at : ℕ
  at = words_at text_at

  aligned : data_at % 4 ≡ 0
  aligned = let s = given.suits in let p = s.page in let t = s.tables in omega (arith, p, t)

  low_end : data_at + 4096 ≤ 2 ^ 31
  low_end = let s = given.suits in let b = s.below_stack in let t = s.tables in omega (arith, b, t)

  bits_small : bits < 2 ^ 32
  bits_small = register_small m ready.machine 4

  ra_small : ra < 2 ^ 32
  ra_small = register_small m ready.machine 1

  stands : StandsAt m.memory at (all_words rows area data_at)
  stands =
      given.standing m.memory ready.code.lies.range at (all_words rows area data_at)
      ready.code.executable ready.code.writable
      (let f = given.few in let t = given.suits.tables in let b = given.suits.below_stack in omega (arith, f, t, b))
      ready.code.lies.there ready.code.stand

  stands_malloc : StandsAt m.memory at (malloc_words rows area data_at)
  stands_malloc =
      stands_front m.memory at (malloc_words rows area data_at)
      (calloc_words rows area data_at ++ (realloc_words rows area data_at ++ free_words area data_at)) stands

  behind_malloc : StandsAt m.memory (calloc_at rows area data_at text_at)
      (calloc_words rows area data_at ++ (realloc_words rows area data_at ++ free_words area data_at))
  behind_malloc =
      stands_back m.memory at (malloc_words rows area data_at)
      (calloc_words rows area data_at ++ (realloc_words rows area data_at ++ free_words area data_at)) stands

  stands_calloc : StandsAt m.memory (calloc_at rows area data_at text_at) (calloc_words rows area data_at)
  stands_calloc =
      stands_front m.memory (calloc_at rows area data_at text_at) (calloc_words rows area data_at)
      (realloc_words rows area data_at ++ free_words area data_at) behind_malloc

  behind_calloc : StandsAt m.memory (realloc_at rows area data_at text_at)
      (realloc_words rows area data_at ++ free_words area data_at)
  behind_calloc =
      stands_back m.memory (calloc_at rows area data_at text_at) (calloc_words rows area data_at)
      (realloc_words rows area data_at ++ free_words area data_at) behind_malloc

  stands_realloc : StandsAt m.memory (realloc_at rows area data_at text_at) (realloc_words rows area data_at)
  stands_realloc = stands_front m.memory (realloc_at rows area data_at text_at)
      (realloc_words rows area data_at) (free_words area data_at) behind_calloc

  stands_free : StandsAt m.memory (free_at rows area data_at text_at) (free_words area data_at)
  stands_free = stands_back m.memory (realloc_at rows area data_at text_at)
      (realloc_words rows area data_at) (free_words area data_at) behind_calloc

  -- a placed block is new
  new_block : (need : ℕ) → 1 ≤ need → IsNew area layout need (placed rows area layout need bits)
  new_block need some = record {
    parts_after = λ p e. placing rows area layout need bits p given.setting.groups
        (parts area layout ready.sound) some e;
    inside = λ p e. granule_small area layout need (group_of_bits rows bits) p (parts area layout ready.sound) some
        (λ h. row_group rows bits h (each _ rows given.setting.groups)) e;
    apart = λ p e b there. (beside area layout need (group_of_bits rows bits) p b (parts area layout ready.sound) some
        (λ h. row_group rows bits h (each _ rows given.setting.groups)) e there).apart;
  }

  none_new : (need : ℕ) → IsNew area layout need None
  none_new need = record { parts_after = λ p e. absurd (cc); inside = λ p e. absurd (cc); apart = λ p e. absurd (cc) }

  -- what is placed for a size
  for_small : (size : ℕ) → size < 2 ^ 32 → placed_for rows area layout size bits
      ≡ placed rows area layout (granules_for size) bits
  for_small size l = let t : nat_lt size (2 ^ 32) ≡ true = grind (arith, nat_tests) in rw t refl

  for_large : (size : ℕ) → 2 ^ 32 ≤ size → placed_for rows area layout size bits ≡ None
  for_large size l = let t : nat_lt size (2 ^ 32) ≡ false = grind (arith, nat_tests) in rw t refl

  -- the outcome of a grant for a size that is a word
  abbrev found : ℕ → Option Placed
  found size = placed rows area layout (granules_for size) bits

  abbrev rights : ℕ → Rights
  rights size = call_rights area data_at (block_from area data_at (found size))
      (block_to area data_at (granules_for size) (found size))

  grants : (size : ℕ) → size < 2 ^ 32 → (r : ℕ → ℕ) (c : ℕ) → c ≤ 20 → r 10 ≡ size → r 5 ≡ bits
      → Ends (frag_run (rights size) (grant rows area data_at) w (view r (words_of m.memory) c))
      (Grant area data_at layout (granules_for size) (found size) (31 * granules area + 8000))
  grants size l r c few r10 r5 =
      ends_so _ _ _ (λ t z. record {
        answer = z.answer;
        spells = z.spells;
        zeros = z.zeros;
        spent = let sp = z.spent in let k = given.suits.chunks in omega (arith, sp, k, few);
      })
      (grant_ends rows area data_at given.setting layout ready.sound size bits w l bits_small (omega arith)
      (block_from area data_at (found size)) (block_to area data_at (granules_for size) (found size))
      (covers rows area data_at given.setting given.back given.back_high given.copies
      layout ready.sound size bits w l bits_small (omega arith))
      r (words_of m.memory) c ready.spells r10 r5)

  bound : 31 * granules area + 8000 + 8 ≤ turn_bound area
  bound = omega arith

  -- where the functions stand
  malloc_few : length (malloc_words rows area data_at) ≤ 4096
  malloc_few =
      let l = length-append (malloc_words rows area data_at) (calloc_words rows area data_at
      ++ (realloc_words rows area data_at ++ free_words area data_at)) in
      let f = given.few in omega (arith, l, f)

  calloc_few : length (malloc_words rows area data_at) + length (calloc_words rows area data_at) ≤ 4096
  calloc_few =
      let l = length-append (malloc_words rows area data_at) (calloc_words rows area data_at
      ++ (realloc_words rows area data_at ++ free_words area data_at)) in
      let k = length-append (calloc_words rows area data_at) (realloc_words rows area data_at
      ++ free_words area data_at) in
      let f = given.few in omega (arith, l, k, f)

  realloc_few : length (malloc_words rows area data_at) + length (calloc_words rows area data_at) + length
      (realloc_words rows area data_at) ≤ 4096
  realloc_few =
      let l = length-append (malloc_words rows area data_at) (calloc_words rows area data_at
      ++ (realloc_words rows area data_at ++ free_words area data_at)) in
      let k = length-append (calloc_words rows area data_at) (realloc_words rows area data_at
      ++ free_words area data_at) in
      let j = length-append (realloc_words rows area data_at) (free_words area data_at) in
      let f = given.few in omega (arith, l, k, j, f)

  low : at + 16384 + 8 < 2 ^ 32
  low = let s = given.suits in let b = s.below_stack in let t = s.tables in omega (arith, b, t)

  one_below : (place : ℕ) (form : Form) → place ≤ at + 16384 → place + one_behind form < 2 ^ 32
  one_below place Plain l = let q = low in omega (arith, l, q)
  one_below place Reentrant l = let q = low in omega (arith, l, q)

  two_below : (place : ℕ) (form : Form) → place ≤ at + 16384 → place + two_behind form < 2 ^ 32
  two_below place Plain l = let q = low in omega (arith, l, q)
  two_below place Reentrant l = let q = low in omega (arith, l, q)

  one_few : (form : Form) → one_spent form + 3 ≤ 20
  one_few Plain = omega arith
  one_few Reentrant = omega arith

  two_few : (form : Form) → two_spent form + 3 ≤ 9
  two_few Plain = omega arith
  two_few Reentrant = omega arith

  -- the arguments
  first_argument : (form : Form) → put (with_one form (register m)) 5 bits 10 ≡ register m (argument_of form)
  first_argument Plain = refl
  first_argument Reentrant = refl

  first_of_two : (form : Form) → put (with_two form (register m)) 5 bits 10 ≡ register m (argument_of form)
  first_of_two Plain = refl
  first_of_two Reentrant = refl

  second_of_two : (form : Form) → put (with_two form (register m)) 5 bits 11 ≡ register m (argument_of form + 1)
  second_of_two Plain = refl
  second_of_two Reentrant = refl

  argument_small : (form : Form) → register m (argument_of form) < 2 ^ 32
  argument_small form = register_small m ready.machine (argument_of form)

  next_small : (form : Form) → register m (argument_of form + 1) < 2 ^ 32
  next_small form = register_small m ready.machine (argument_of form + 1)

  -- a function with two arguments that grants or refuses a block
  grants_two : (f : Fragment) (place need : ℕ) (o : Option Placed) (form : Form)
      → forms.IsFormed f → IsNew area layout need o
      → StandsAt m.memory place (two_arguments ++ entry_words f) → place ≤ at + 16384 → m.pc ≡ place + two_behind form
      → Ends (frag_run (call_rights area data_at (block_from area data_at o) (block_to area data_at need o)) f w
      (view (put (with_two form (register m)) 5 bits) (words_of m.memory) (two_spent form + 3)))
      (Grant area data_at layout need o (31 * granules area + 8000))
      → IsServed area data_at layout (layout_then layout o) m input output (IsGranted area data_at need o)
  grants_two f place need o form formed new stand l pc e =
      granted area data_at aligned layout ready.sound m input output ready.machine
      ra refl ra_small given.keeps need (31 * granules area + 8000) o new f w
      (view (put (with_two form (register m)) 5 bits) (words_of m.memory) (two_spent form + 3))
      (start_words (call_rights area data_at (block_from area data_at o) (block_to area data_at need o))
      m ready.machine (with_two form (register m)) (two_spent form + 3)
      (two_small m ready.machine form)) e bound
      (λ s run. two_comes given.decodes area data_at (block_from area data_at o)
      (block_to area data_at need o) aligned (block_span area data_at aligned layout need o new)
      m input output ready.machine ready.running ready.tables ra refl ready.ra
      f formed w place form s pc (two_below place form l) stand run)

  pub malloc_serves : (form : Form) → m.pc ≡ at + one_behind form
      → Grants rows area data_at layout m input output (register m (argument_of form))
  malloc_serves form pc =
      subst (λ o. IsServed area data_at layout (layout_then layout o) m input
      output (IsGranted area data_at (granules_for size) o)) (sym (for_small size (argument_small form)))
      (granted area data_at aligned layout ready.sound m input output ready.machine
      ra refl ra_small given.keeps (granules_for size) (31 * granules area + 8000)
      (found size) new (malloc_code rows area data_at) w
      (view (put (with_one form (register m)) 5 bits) (words_of m.memory) (one_spent form + 3))
      (start_words (rights size) m ready.machine (with_one form (register m))
      (one_spent form + 3) (one_small m ready.machine form))
      (grants size (argument_small form) (put (with_one form (register m)) 5 bits)
      (one_spent form + 3) (one_few form) (first_argument form) refl) bound
      (λ s run. one_comes given.decodes area data_at (block_from area data_at (found size))
      (block_to area data_at (granules_for size) (found size)) aligned
      (block_span area data_at aligned layout (granules_for size) (found size) new)
      m input output ready.machine ready.running ready.tables ra refl ready.ra
      (malloc_code rows area data_at) given.malloc w at form s pc
      (one_below at form (omega arith)) stands_malloc run))
    where
      size : ℕ
      size = register m (argument_of form)

      new : IsNew area layout (granules_for size) (found size)
      new = new_block (granules_for size) (need_some size)

  pub calloc_serves : (form : Form) → m.pc ≡ calloc_at rows area data_at text_at + two_behind form
      → Grants rows area data_at layout m input output
      (register m (argument_of form) * register m (argument_of form + 1))
  calloc_serves form pc = by (cases_lt product (2 ^ 32))
    where
      product : ℕ
      product = register m (argument_of form) * register m (argument_of form + 1)

      start : ℕ → ℕ
      start = put (with_two form (register m)) 5 bits

      place : calloc_at rows area data_at text_at ≤ at + 16384
      place = let f = malloc_few in omega (arith, f)

      upper : computed Mulhu (start 10) (start 11) ≡ product / 2 ^ 32
      upper = upper_is (start 10) (start 11) ∙ ap (λ x. x / 2 ^ 32) (ap (λ x. x * start 11) (first_of_two form)
          ∙ ap (λ x. register m (argument_of form) * x) (second_of_two form))

      lower : computed Mul (start 10) (start 11) ≡ product % 2 ^ 32
      lower = lower_is (start 10) (start 11) ∙ ap (λ x. x % 2 ^ 32) (ap (λ x. x * start 11) (first_of_two form)
          ∙ ap (λ x. register m (argument_of form) * x) (second_of_two form))

      by : (product < 2 ^ 32) ⊎ (2 ^ 32 ≤ product) → Grants rows area data_at layout m input output product
      by (inl l) =
          let new : IsNew area layout (granules_for product) (found product) =
          new_block (granules_for product) (need_some product) in
          subst (λ o. IsServed area data_at layout (layout_then layout o)
          m input output (IsGranted area data_at (granules_for product) o)) (sym (for_small product l))
          (grants_two (calloc_code rows area data_at) (calloc_at rows area data_at text_at)
          (granules_for product) (found product) form given.calloc new stands_calloc place pc
          (compute_then _ _ _ _ _ _ _ _ _ _ _ 0 (upper ∙ (let z : product / 2 ^ 32 ≡ 0 = omega (arith, l) in z))
          (compute_then _ _ _ _ _ _ _ _ _ _ _ product (lower
          ∙ (let z : product % 2 ^ 32 ≡ product = omega (arith, l) in z))
          (seq_ends _ _ _ _ _ _ _ _ (Grant area data_at layout (granules_for product)
          (found product) (31 * granules area + 8000))
          (if_taken _ _ _ _ _ _ _ _ _ _ _ (eq_yes _ _ refl)
          (grants product l (put (put start 6 0) 10 product) (two_spent form + 3 + 3 + 3 + 3)
          (let f = two_few form in omega (arith, f)) refl refl))
          (λ r' m' c' z. skip_ends _ _ _ _ _ _ z)))))
      by (inr l) =
          subst (λ o. IsServed area data_at layout (layout_then layout o)
          m input output (IsGranted area data_at (granules_for product) o)) (sym (for_large product l))
          (grants_two (calloc_code rows area data_at) (calloc_at rows area data_at text_at)
          (granules_for product) None form given.calloc (none_new (granules_for product)) stands_calloc place pc
          (compute_then _ _ _ _ _ _ _ _ _ _ _ (product / 2 ^ 32) upper
          (compute_then _ _ _ _ _ _ _ _ _ _ _ (product % 2 ^ 32) lower
          (seq_ends _ _ _ _ _ _ _ _ (Grant area data_at layout (granules_for product) None (31 * granules area + 8000))
          (if_other _ _ _ _ _ _ _ _ _ _ _ (eq_no _ _ (λ e. omega (arith, e, l)))
          (imm_ends _ _ _ _ _ _ _ _ _ _ 0 (add_is _ _ 0 refl (omega arith))
          (record {
            answer = refl;
            spells = ready.spells;
            zeros = λ p e. absurd (cc);
            spent = let f = two_few form in omega (arith, f);
          })))
          (λ r' m' c' z. skip_ends _ _ _ _ _ _ z)))))

  -- the block of a pointer that isn't 0
  pub record Pointed (p : ℕ) : Type 0 where
    pub block : Block
    pub there : block_at layout block.first ≡ Some block
    pub place : p ≡ address_of (base_of area data_at) block.first

  pointed : (p : ℕ) → Any (λ b. p ≡ address_of (base_of area data_at) b.first) layout.blocks → Pointed p
  pointed p any =
      let b : Block = any.1 in
      let h = found_there b.first layout.blocks
      (has (λ x. b.first ≡ x.first) layout.blocks (any.0, b, any.2, any.3, refl)) in
      let f : h.0.first ≡ b.first = found_first b.first h.0 layout.blocks h.1 in
      record {
        block = h.0;
        there = subst (λ g. find (λ x. x.first == g) layout.blocks ≡ Some h.0) (sym f) h.1;
        place = any.4 ∙ ap (address_of (base_of area data_at)) (sym f);
      }

  granule_is : (p : ℕ) (q : Pointed p) → granule_at area data_at p ≡ q.block.first
  granule_is p q = let e = q.place in omega (arith, e)

  inside : (p : ℕ) (q : Pointed p) → q.block.first < granules area
  inside p q =
      let s = each_found (Stands area layout) (λ x. x.first == q.block.first)
      q.block layout.blocks q.there (parts area layout ready.sound).blocks in
      let i = s.inside in let f = s.filled in omega (arith, i, f)

  -- free
  free_place : free_at rows area data_at text_at ≤ at + 16384
  free_place = let f = realloc_few in omega (arith, f)

  free_comes : (form : Form) → m.pc ≡ free_at rows area data_at text_at + one_behind form
      → (after : Layout) → Parts area after
      → Ends (frag_run (call_rights area data_at 0 0) (free_code area data_at)
      w (view (with_one form (register m)) (words_of m.memory) (one_spent form + 3)))
      (λ t. Spells area data_at t.memory after × (t.spent ≤ 31 * granules area + 8000))
      → IsServed area data_at layout after m input output AnyAnswer
  free_comes form pc after p e =
      settled_alone area data_at aligned layout ready.sound m input output
      ready.machine ra refl ra_small given.keeps after p (31 * granules area + 8000)
      (free_code area data_at) w (view (with_one form (register m))
      (words_of m.memory) (one_spent form + 3))
      (plain_words (call_rights area data_at 0 0) m ready.machine (with_one form (register m))
      (one_spent form + 3) (one_small m ready.machine form)) e bound
      (λ s run. plain_comes given.decodes area data_at 0 0 aligned (no_span area data_at aligned)
      m input output ready.machine ready.running ready.tables ra refl ready.ra
      (free_code area data_at) given.free w (free_at rows area data_at text_at) form s pc
      (one_below (free_at rows area data_at text_at) form free_place) stands_free run)

  pub free_serves : (form : Form) → m.pc ≡ free_at rows area data_at text_at + one_behind form
      → IsPointer area data_at layout (register m (argument_of form))
      → Frees rows area data_at layout m input output (register m (argument_of form) == 0) (argument_of form)
  free_serves form pc (inl z) =
      subst (λ t. Frees rows area data_at layout m input output t (argument_of form))
      (sym (eq-eqb (register m (argument_of form)) 0 z))
      (free_comes form pc layout (parts area layout ready.sound)
      (if_taken _ _ _ _ _ _ _ _ _ _ _ (eq_yes _ _ (first_argument form ∙ z))
      (skip_ends _ _ _ _ _ _ (ready.spells, let f = one_few form in omega (arith, f)))))
  free_serves form pc (inr any) =
      subst (λ t. Frees rows area data_at layout m input output t (argument_of form))
      (sym (ne_eqb (register m (argument_of form)) 0 (λ e. let f = q.place in omega (arith, e, f))))
      (subst (λ g. Releases rows area data_at layout m input output g)
      (sym (granule_is (register m (argument_of form)) q))
      (free_comes form pc (released area layout q.block.first)
      (releasing area layout q.block.first (parts area layout ready.sound))
      (if_other _ _ _ _ _ _ _ _ _ _ _ (eq_no _ _ (λ e. let f = q.place in
      let a = first_argument form in omega (arith, e, f, a)))
      (ends_more (table_rights area data_at) (call_rights area data_at 0 0)
      _ w w _ _ (tables_may area data_at 0 0) (omega arith)
      (set_then _ _ _ _ _ _ _ _ _ data_at (let b = low_end in omega (arith, b))
      (seq_ends _ _ _ _ _ _ _ _ _
      (ends_keep_all (table_rights area data_at) (granule_of_block area data_at)
      w (view (put start 12 data_at) (words_of m.memory) (one_spent form + 3 + 3 + 3)) _
      (granule_ends (table_rights area data_at) w area data_at q.block.first
      (put start 12 data_at) (words_of m.memory) (one_spent form + 3 + 3 + 3)
      (first_argument form ∙ q.place) (let b = given.suits.below_stack in omega (arith, b))
      (inside (register m (argument_of form)) q)))
      (λ r' m' c' h. seq_ends _ _ _ _ _ _ _ _ (λ t. Spells area data_at t.memory (released area layout q.block.first)
      × (t.spent ≤ 31 * granules area + 8000))
      (ends_so _ _ _ (λ t z. (
        z.0,
        let zs = z.1 in let hs = h.0.1.1 in let f =
            one_few form in omega (arith, zs, hs, f),
      ))
      (frees_block area data_at given.setting.room given.back given.back_high w layout q.block ready.sound q.there m'
      (subst (λ f. Spells area data_at f layout) (sym h.0.1.0) ready.spells)
      (let f = few_holes area layout (parts area layout ready.sound) in omega (arith, f)) r' c' h.0.0 (h.1 12 refl)))
      (λ r'' m'' c'' z. skip_ends _ _ _ _ _ _ z))))))))
    where
      q : Pointed (register m (argument_of form))
      q = pointed (register m (argument_of form)) any

      start : ℕ → ℕ
      start = with_one form (register m)

  -- realloc
  realloc_place : realloc_at rows area data_at text_at ≤ at + 16384
  realloc_place = let f = calloc_few in omega (arith, f)

  pub realloc_serves : (form : Form) → m.pc ≡ realloc_at rows area data_at text_at + two_behind form
      → IsPointer area data_at layout (register m (argument_of form))
      → Reallocates rows area data_at layout m input output (register m (argument_of form) == 0) (argument_of form)
  realloc_serves form pc (inl z) =
      let size : ℕ = register m (argument_of form + 1) in
      subst (λ t. Reallocates rows area data_at layout m input output t (argument_of form))
      (sym (eq-eqb (register m (argument_of form)) 0 z))
      (subst (λ o. IsServed area data_at layout (layout_then layout o) m input
      output (IsGranted area data_at (granules_for (register m (argument_of form + 1))) o))
      (sym (for_small (register m (argument_of form + 1)) (next_small form)))
      (grants_two (realloc_code rows area data_at) (realloc_at rows area data_at text_at)
      (granules_for (register m (argument_of form + 1))) (found (register m (argument_of form + 1))) form
      given.realloc (new_block (granules_for (register m (argument_of form + 1)))
      (need_some (register m (argument_of form + 1)))) stands_realloc realloc_place pc
      (ends_so _ _ _ (λ t y. record {
        answer = y.answer;
        spells = y.spells;
        zeros = y.zeros;
        spent = let sp = y.spent in let k = given.suits.chunks in let f = two_few form in omega (arith, sp, k, f);
      })
      (none_ends rows area data_at given.setting given.back given.back_high
      given.copies layout ready.sound (register m (argument_of form + 1))
      bits w (next_small form) bits_small (omega arith)
      (put (with_two form (register m)) 5 bits) (words_of m.memory) (two_spent form + 3)
      ready.spells (first_of_two form ∙ z) (second_of_two form) refl))))
  realloc_serves form pc (inr any) =
      subst (λ t. Reallocates rows area data_at layout m input output t (argument_of form))
      (sym (ne_eqb (register m (argument_of form)) 0 (λ e. let f = q.place in omega (arith, e, f))))
      (subst (λ g. Moves rows area data_at layout m input output g size)
      (sym (granule_is (register m (argument_of form)) q))
      (relocated area data_at aligned layout ready.sound m input output ready.machine
      ra refl ra_small given.keeps ready.tables q.block q.there
      (granules_for size) (68 * granules area + 8000) (found size) new (realloc_code rows area data_at) w
      (view (put (with_two form (register m)) 5 bits) (words_of m.memory) (two_spent form + 3))
      (start_words (rights size) m ready.machine (with_two form (register m))
      (two_spent form + 3) (two_small m ready.machine form))
      (ends_so _ _ _ (λ t y. record {
        answer = y.answer;
        spells = y.spells;
        copied = y.copied;
        zeros = y.zeros;
        spent = let sp = y.spent in let k = given.suits.chunks in let f = two_few form in omega (arith, sp, k, f);
      })
      (block_ends rows area data_at given.setting given.back given.back_high
      given.copies layout ready.sound size bits w (next_small form) bits_small (omega arith) q.block q.there
      (put (with_two form (register m)) 5 bits) (words_of m.memory) (two_spent form + 3)
      ready.spells (first_of_two form ∙ q.place) (second_of_two form) refl
      (λ a k lo hi. word_small m.memory ready.machine.bytes a)))
      (omega arith)
      (λ s run. two_comes given.decodes area data_at (block_from area data_at (found size))
      (block_to area data_at (granules_for size) (found size)) aligned
      (block_span area data_at aligned layout (granules_for size) (found size) new)
      m input output ready.machine ready.running ready.tables ra refl ready.ra
      (realloc_code rows area data_at) given.realloc w (realloc_at rows area data_at text_at) form s pc
      (two_below (realloc_at rows area data_at text_at) form realloc_place) stands_realloc run)))
    where
      size : ℕ
      size = register m (argument_of form + 1)

      q : Pointed (register m (argument_of form))
      q = pointed (register m (argument_of form)) any

      new : IsNew area layout (granules_for size) (found size)
      new = new_block (granules_for size) (need_some size)
