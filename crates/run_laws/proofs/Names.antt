-- Which live block of a layout is which block of the run, and for which group it was granted.
use Rattle.std.proofs.Common.{◌≡◌, ◌≢◌, ◌⊎◌, ◌∙◌, ℕ, ◌+◌, ◌*◌, ◌<◌, ◌≤◌, List, [], ◌∷◌, ◌++◌, true, false, length, refl}
use Rattle.std.proofs.Common.{sym, ap, subst, inl, inr, arith, length-append, length-set}
use Rattle.std.specs.Prelude.{All, Some, slice_get, slice_index, Option}
use Rattle.std.proofs.lemmas.Option.{slice_get_within}
use Rattle.plan_core.specs.declared.types.Plan.{Plan}
use Rattle.plan_core.specs.Plan.{group_of_bits}
use Rattle.place_spec.specs.Layout.{Block, address_of}
use Rattle.place_spec.specs.Place.{Placed, placed}
use Rattle.place_spec.specs.Release.{released}
use Rattle.place_spec.specs.Sound.{Apart}
use Rattle.block_laws.specs.Blocks.{IsOneOf, StandsWithout}
use Rattle.heap_spec.specs.Requests.{granule_at}
use Rattle.site_spec.specs.Places.{data_at}
use Rattle.sym_value.specs.declared.live.Life.{Life}
use Rattle.sym_spec.specs.HeapActions.{base}
use Rattle.run_laws.specs.Turns.{Heap, new_life, with_block, without_block}
use Rattle.run_laws.proofs.Blocks.{Adds, IsIn, adds, all_in, of_one, placed_block}
use Rattle.run_laws.proofs.Lists.{index_last, index_still, last_or_old, last_there, set_cases, set_other, still_there}
use Rattle.run_laws.proofs.Stores.{dead}

-- a block of the run, by its address, its life and its group, is a block of the layout
pub record Stands (file : List ℕ) (plan : Plan) (at : List ℕ) (groups : List (Option ℕ)) (b : ℕ) (k : Life)
    (x : Block) : Type 0 where
  pub begins : slice_index at b ≡ address_of (base file plan) x.first
  pub size : k.capacity ≡ 16 * x.granules
  pub group : slice_get groups b ≡ Some x.group

pub record Standing (file : List ℕ) (plan : Plan) (at : List ℕ) (groups : List (Option ℕ)) (xs : List Block) (b : ℕ)
    (k : Life) : Type 0 where
  pub block : Block
  pub one : IsIn block xs
  pub stands : Stands file plan at groups b k block

pub record Named (file : List ℕ) (plan : Plan) (at : List ℕ) (groups : List (Option ℕ)) (lives : List Life)
    (x : Block) : Type 0 where
  pub name : ℕ
  pub life : Life
  pub there : slice_get lives name ≡ Some life
  pub live : life.lives ≡ true
  pub stands : Stands file plan at groups name life x

-- the live blocks of the layout are the living blocks, each with an address of its own
pub record Holds (file : List ℕ) (plan : Plan) (groups : List (Option ℕ)) (h : Heap) : Type 0 where
  pub addresses : length h.at ≡ length h.lives
  pub grouped : length groups ≡ length h.lives
  pub placed : (b : ℕ) (k : Life) → slice_get h.lives b ≡ Some k → k.lives ≡ true
      → Standing file plan h.at groups h.layout.blocks b k
  pub named : (x : Block) → IsIn x h.layout.blocks → Named file plan h.at groups h.lives x
  pub apart : (b c : ℕ) (k l : Life) → b ≢ c → slice_get h.lives b ≡ Some k → slice_get h.lives c ≡ Some l
      → k.lives ≡ true → l.lives ≡ true → slice_index h.at b ≢ slice_index h.at c

-- one more block
module _ (file : List ℕ) (plan : Plan) (groups : List (Option ℕ)) (h : Heap) (need bits : ℕ) (p : Placed)
    (some : 1 ≤ need) (found : placed plan.rows plan.area h.layout need bits ≡ Some p)
    (filled : All (λ b. 0 < b.granules) h.layout.blocks)
    (away : All (λ b. Apart p.granule need b.first b.granules) h.layout.blocks) (holds : Holds file plan groups h) where
  abbrev address : ℕ
  address = address_of (base file plan) p.granule

  abbrev group : Option ℕ
  group = group_of_bits plan.rows bits

  abbrev new : Block
  new = placed_block plan.rows need bits p

  abbrev after : Heap
  after = with_block file plan need p h

  abbrev groups_after : List (Option ℕ)
  groups_after = groups ++ group ∷ []

  beside : Adds new h.layout.blocks p.after.blocks
  beside = adds plan.rows plan.area h.layout need bits p found

  low : (b : ℕ) (k : Life) → slice_get h.lives b ≡ Some k → b < length h.at
  low b k there =
      let inside : b < length h.lives = slice_get_within h.lives b k there in
      let long : length h.at ≡ length h.lives = holds.addresses in
      omega (arith, inside, long)

  pub old_index : (b : ℕ) (k : Life) → slice_get h.lives b ≡ Some k → slice_index after.at b ≡ slice_index h.at b
  old_index b k there = index_still h.at address b (low b k there)

  last_index : (b : ℕ) → b ≡ length h.lives → slice_index after.at b ≡ address
  last_index b last = index_last h.at address b (last ∙ sym holds.addresses)

  old_stands : (b : ℕ) (k : Life) (x : Block) → slice_get h.lives b ≡ Some k
      → Stands file plan h.at groups b k x → Stands file plan after.at groups_after b k x
  old_stands b k x there s = record {
    begins = old_index b k there ∙ s.begins;
    size = s.size;
    group = still_there groups group b x.group s.group;
  }

  new_stands : (b : ℕ) (k : Life) → b ≡ length h.lives → new_life need ≡ k
      → Stands file plan after.at groups_after b k new
  new_stands b k last same = record {
    begins = last_index b last;
    size = ap (λ (l : Life). l.capacity) (sym same);
    group = ap (slice_get groups_after) (last ∙ sym holds.grouped) ∙ last_there groups group;
  }

  -- the new block begins where no old one does
  begins_apart : (b : ℕ) (k : Life) → slice_get h.lives b ≡ Some k → k.lives ≡ true → slice_index h.at b ≢ address
  begins_apart b k there live same =
      let s : Standing file plan h.at groups h.layout.blocks b k = holds.placed b k there live in
      by s.block s.stands.begins (all_in (λ x. 0 < x.granules) h.layout.blocks s.block filled s.one)
      (all_in (λ x. Apart p.granule need x.first x.granules) h.layout.blocks s.block away s.one)
    where
      by : (x : Block) → slice_index h.at b ≡ address_of (base file plan) x.first → 0 < x.granules
          → Apart p.granule need x.first x.granules → ⊥
      by x begins full (inl l) = omega (arith, same, begins, full, l, some)
      by x begins full (inr r) = omega (arith, same, begins, full, r, some)

  pub granted : Holds file plan groups_after after
  granted = record {
    addresses = length-append h.at (address ∷ [])
        ∙ (ap (λ n. n + 1) holds.addresses ∙ sym (length-append h.lives (new_life need ∷ [])));
    grouped = length-append groups (group ∷ [])
        ∙ (ap (λ n. n + 1) holds.grouped ∙ sym (length-append h.lives (new_life need ∷ [])));
    placed = λ b k there live. placed_at b k live (last_or_old h.lives (new_life need) b k there);
    named = λ x one. named_at x (beside.each x one);
    apart = λ b c k l other at_b at_c live_b live_c.
        apart_at b c k l other live_b live_c (last_or_old h.lives (new_life need) b k at_b)
        (last_or_old h.lives (new_life need) c l at_c);
  }
    where
      placed_at : (b : ℕ) (k : Life) → k.lives ≡ true
          → (slice_get h.lives b ≡ Some k) ⊎ ((b ≡ length h.lives) × (new_life need ≡ k))
          → Standing file plan after.at groups_after p.after.blocks b k
      placed_at b k live (inl old) =
          let s : Standing file plan h.at groups h.layout.blocks b k = holds.placed b k old live in
          record { block = s.block; one = beside.old s.block s.one; stands = old_stands b k s.block old s.stands }
      placed_at b k live (inr (last, same)) =
          record { block = new; one = beside.new; stands = new_stands b k last same }

      named_at : (x : Block) → (x ≡ new) ⊎ IsIn x h.layout.blocks
          → Named file plan after.at groups_after after.lives x
      named_at x (inl is) = subst (Named file plan after.at groups_after after.lives) (sym is) (record {
        name = length h.lives;
        life = new_life need;
        there = last_there h.lives (new_life need);
        live = refl;
        stands = new_stands (length h.lives) (new_life need) refl refl;
      })
      named_at x (inr old) =
          let n : Named file plan h.at groups h.lives x = holds.named x old in
          record {
            name = n.name;
            life = n.life;
            there = still_there h.lives (new_life need) n.name n.life n.there;
            live = n.live;
            stands = old_stands n.name n.life x n.there n.stands;
          }

      apart_at : (b c : ℕ) (k l : Life) → b ≢ c → k.lives ≡ true → l.lives ≡ true
          → (slice_get h.lives b ≡ Some k) ⊎ ((b ≡ length h.lives) × (new_life need ≡ k))
          → (slice_get h.lives c ≡ Some l) ⊎ ((c ≡ length h.lives) × (new_life need ≡ l))
          → slice_index after.at b ≢ slice_index after.at c
      apart_at b c k l other live_b live_c (inl old) (inl elder) same =
          holds.apart b c k l other old elder live_b live_c
          (sym (old_index b k old) ∙ (same ∙ old_index c l elder))
      apart_at b c k l other live_b live_c (inl old) (inr (last, is)) same =
          begins_apart b k old live_b (sym (old_index b k old) ∙ (same ∙ last_index c last))
      apart_at b c k l other live_b live_c (inr (last, is)) (inl elder) same =
          begins_apart c l elder live_c (sym (old_index c l elder) ∙ (sym same ∙ last_index b last))
      apart_at b c k l other live_b live_c (inr (last, is)) (inr (latest, its)) same = other (last ∙ sym latest)

-- one block fewer
module _ (file : List ℕ) (plan : Plan) (groups : List (Option ℕ)) (h : Heap) (b : ℕ) (k : Life) (granule : ℕ)
    (there : slice_get h.lives b ≡ Some k) (live : k.lives ≡ true)
    (granule_is : granule ≡ granule_at plan.area (data_at file) (slice_index h.at b))
    (without : StandsWithout granule h.layout.blocks (released plan.area h.layout granule).blocks)
    (holds : Holds file plan groups h) where
  abbrev fewer : Heap
  fewer = without_block plan b granule k h

  own : Standing file plan h.at groups h.layout.blocks b k
  own = holds.placed b k there live

  own_first : granule ≡ own.block.first
  own_first = by own.block.first own.stands.begins
    where
      by : (g : ℕ) → slice_index h.at b ≡ address_of (base file plan) g → granule ≡ g
      by g begins = omega (arith, granule_is, begins)

  -- a block that lives then is another one, and lived before
  lived : (c : ℕ) (l : Life) → slice_get fewer.lives c ≡ Some l → l.lives ≡ true
      → (c ≢ b) × (slice_get h.lives c ≡ Some l)
  lived c l is alive = by (set_cases h.lives b c (dead k) l is)
    where
      by : ((c ≡ b) × (dead k ≡ l)) ⊎ ((c ≢ b) × (slice_get h.lives c ≡ Some l))
          → (c ≢ b) × (slice_get h.lives c ≡ Some l)
      by (inl (same, died)) = absurd (let clash : false ≡ true = ap (λ (y : Life). y.lives) died ∙ alive in cc)
      by (inr other) = other

  -- and stands at another granule
  other_first : (c : ℕ) (l : Life) (x : Block) → c ≢ b → slice_get h.lives c ≡ Some l → l.lives ≡ true
      → Stands file plan h.at groups c l x → x.first ≢ granule
  other_first c l x other is alive s same =
      holds.apart c b l k other is there alive live
      (s.begins ∙ (ap (address_of (base file plan)) (same ∙ own_first) ∙ sym own.stands.begins))

  pub dropped_one : Holds file plan groups fewer
  dropped_one = record {
    addresses = holds.addresses ∙ sym (length-set h.lives b (dead k));
    grouped = holds.grouped ∙ sym (length-set h.lives b (dead k));
    placed = λ c l is alive. (
        let was = lived c l is alive in
        let s : Standing file plan h.at groups h.layout.blocks c l = holds.placed c l was.1 alive in
        record {
          block = s.block;
          one = of_one fewer.layout.blocks s.block
              (all_in (λ x. x.first ≢ granule → IsOneOf fewer.layout.blocks x) h.layout.blocks s.block without.old s.one
              (other_first c l s.block was.0 was.1 alive s.stands));
          stands = s.stands;
        });
    named = λ x one. (
        let was = all_in (λ y. (y.first ≢ granule) × IsOneOf h.layout.blocks y) fewer.layout.blocks x without.each
        one in
        let n : Named file plan h.at groups h.lives x = holds.named x (of_one h.layout.blocks x was.1) in
        record {
          name = n.name;
          life = n.life;
          there = set_other h.lives b n.name (dead k) (λ same. was.0 (its_first n.name x same n.stands.begins))
              ∙ n.there;
          live = n.live;
          stands = n.stands;
        });
    apart = λ c d l m other at_c at_d live_c live_d.
        holds.apart c d l m other (lived c l at_c live_c).1 (lived d m at_d live_d).1 live_c live_d;
  }
    where
      its_first : (c : ℕ) (x : Block) → c ≡ b → slice_index h.at c ≡ address_of (base file plan) x.first
          → x.first ≡ granule
      its_first c x same begins =
          let here : slice_index h.at b ≡ address_of (base file plan) x.first =
          ap (slice_index h.at) (sym same) ∙ begins in
          by x.first here
        where
          by : (g : ℕ) → slice_index h.at b ≡ address_of (base file plan) g → g ≡ granule
          by g begins = omega (arith, granule_is, begins)
