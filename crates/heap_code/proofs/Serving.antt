-- A request for a block is served: from the run of the function's fragment to the machine that comes back.
use Rattle.std.proofs.Common.{◌≡◌, ℕ, ◌+◌, ◌*◌, ◌/◌, ◌%◌, ◌^◌, ◌<◌, ◌≤◌, ◌⊎◌, List, refl, ap, ◌∙◌, inl, inr, arith}
use Rattle.std.specs.Prelude.{Option, Some, None}
use Rattle.rv_isa.specs.declared.Width.TheVariants.{Word}
use Rattle.plan_core.specs.declared.types.Area.{Area}
use Rattle.plan_core.specs.Plan.{granules}
use Rattle.flat_spec.specs.Stores.{loaded}
use Rattle.flat_spec.specs.Machine.{Machine, register}
use Rattle.place_spec.specs.Layout.{Block, Layout, address_of}
use Rattle.place_spec.specs.Place.{Placed}
use Rattle.place_spec.specs.Release.{block_at}
use Rattle.place_spec.specs.Sound.{Sound, Apart}
use Rattle.place_spec.proofs.SoundParts.{Parts, parts}
use Rattle.heap_spec.specs.Places.{base_of, area_end}
use Rattle.heap_spec.specs.Tables.{Spells}
use Rattle.heap_spec.specs.Requests.{address_or_zero, layout_then}
use Rattle.heap_spec.specs.Service.{IsMachine, IsServed, IsInBlock, IsGranted, IsZero, IsZeroBlock, AnyAnswer}
use Rattle.heap_spec.specs.Service.{turn_bound}
use Rattle.frag_code.specs.Fragments.{Fragment}
use Rattle.frag_code.specs.Frames.{HasWords}
use Rattle.frag_code.specs.Meaning.{View, Rights, frag_run}
use Rattle.frag_code.specs.Ends.{Ends}
use Rattle.frag_code.proofs.OnWay.{OnWay}
use Rattle.frag_rules.proofs.Spans.{in_span_yes}
use Rattle.heap_code.specs.Rights.{call_rights, IsSpan}
use Rattle.heap_code.proofs.Entries.{Comes}
use Rattle.heap_code.proofs.Returning.{served}
use Rattle.heap_code.proofs.Bytes.{zero_byte}
use Rattle.heap_code.proofs.Granting.{block_from, block_to}

-- a run keeps words
abbrev pub KeepsWords : Type 0
KeepsWords = (g : Rights) (f : Fragment) (w : ℕ) (s t : View) → HasWords g s → frag_run g f w s ≡ Some t → HasWords g t

-- what holds of a block that was placed in a layout
pub record IsNew (area : Area) (layout : Layout) (need : ℕ) (o : Option Placed) : Type 0 where
  pub parts_after : (p : Placed) → o ≡ Some p → Parts area p.after
  pub inside : (p : Placed) → o ≡ Some p → p.granule + need ≤ granules area
  pub apart : (p : Placed) → o ≡ Some p → (b : Block) → block_at layout b.first ≡ Some b
      → Apart p.granule need b.first b.granules

-- what a function's fragment says of a grant
pub record Grant (area : Area) (data_at : ℕ) (layout : Layout) (need : ℕ)
    (o : Option Placed) (most : ℕ) (t : View) : Type 0 where
  pub answer : t.registers 10 ≡ address_or_zero area data_at o
  pub spells : Spells area data_at t.memory (layout_then layout o)
  pub zeros : (p : Placed) → o ≡ Some p → (k : ℕ) → k % 4 ≡ 0 → address_of (base_of area data_at) p.granule ≤ k
      → k < address_of (base_of area data_at) p.granule + 16 * need → t.memory k ≡ 0
  pub spent : t.spent ≤ most

module _ (area : Area) (data_at : ℕ) (aligned : data_at % 4 ≡ 0) where
  pub base_aligned : base_of area data_at % 4 ≡ 0
  base_aligned = let a = aligned in omega (arith, a)

  -- the stretch of a new block
  pub block_span : (layout : Layout) (need : ℕ) (o : Option Placed) → IsNew area layout need o
      → IsSpan area data_at (block_from area data_at o) (block_to area data_at need o)
  block_span layout need None n = record { first = refl; last = refl; inside = λ a l h. absurd (omega (arith, l, h)) }
  block_span layout need (Some p) n =
      let i = n.inside p refl in
      let al = base_aligned in
      record {
        first = omega (arith, al);
        last = omega (arith, al);
        inside = λ a l h. (omega (arith, l), omega (arith, h, i));
      }

  pub no_span : IsSpan area data_at 0 0
  no_span = record { first = refl; last = refl; inside = λ a l h. absurd (omega (arith, l, h)) }

  -- the other blocks stand beside it
  pub block_apart : (layout : Layout) (need : ℕ) (o : Option Placed) → IsNew area layout need o
      → (b : Block) → block_at layout b.first ≡ Some b
      → (a : ℕ) → IsInBlock area data_at b a → (a < block_from area data_at o) ⊎ (block_to area data_at need o ≤ a)
  block_apart layout need None n b there a i = inr (omega arith)
  block_apart layout need (Some p) n b there a i = by (n.apart p refl b there)
    where
      by : Apart p.granule need b.first b.granules → (a < address_of (base_of area data_at) p.granule)
          ⊎ (address_of (base_of area data_at) p.granule + 16 * need ≤ a)
      by (inl l) = inr (let q = i.0 in omega (arith, q, l))
      by (inr l) = inl (let q = i.1 in omega (arith, q, l))

  parts_then : (layout : Layout) (need : ℕ) (o : Option Placed) → Parts area layout
      → IsNew area layout need o → Parts area (layout_then layout o)
  parts_then layout need None p n = p
  parts_then layout need (Some q) p n = n.parts_after q refl

  module _ (layout : Layout) (sound : Sound area layout) (m : Machine) (input output : List ℕ)
      (machine : IsMachine m) (ra : ℕ)
      (ra_is : register m 1 ≡ ra) (ra_small : ra < 2 ^ 32) (keeps : KeepsWords) where
    -- a zero word of the area, byte by byte
    pub zeroed : (from to n a : ℕ) (s : View) (end : Machine) → OnWay (call_rights area data_at from to) m ra s end
        → a % 4 ≡ 0
        → base_of area data_at ≤ a → a + 16 * n ≤ area_end area data_at
        → ((k : ℕ) → k % 4 ≡ 0 → a ≤ k → k < a + 16 * n → s.memory k ≡ 0) → IsZero end.memory a (16 * n)
    zeroed from to n a s end way al lo hi zeros i l =
        let k : ℕ = (a + i) / 4 * 4 in
        let k4 : k % 4 ≡ 0 = omega arith in
        let k_lo : a ≤ k = omega (arith, al) in
        let k_hi : k < a + 16 * n = omega (arith, l) in
        let word : loaded end.memory Word k ≡ Some 0 =
        way.shows.words k k4 (in_span_yes data_at (area_end area data_at)
        k (omega (arith, k_lo, lo)) (omega (arith, k_hi, hi)))
        ∙ ap (λ x. Some x) (zeros k k4 k_lo k_hi) in
        zero_byte end.memory k (a + i) word (omega arith) (omega arith)

    pub granted : (need most : ℕ) (o : Option Placed) → IsNew area layout need o → (f : Fragment) (w : ℕ) (s0 : View)
        → HasWords (call_rights area data_at (block_from area data_at o) (block_to area data_at need o)) s0
        → Ends (frag_run (call_rights area data_at (block_from area data_at o) (block_to area data_at need o)) f w s0)
        (Grant area data_at layout need o most)
        → most + 8 ≤ turn_bound area
        → ((s : View) → frag_run (call_rights area data_at (block_from area data_at o) (block_to area data_at need o))
        f w s0 ≡ Some s
        → Comes (call_rights area data_at (block_from area data_at o) (block_to area data_at need o))
        m input output ra s 0 m)
        → IsServed area data_at layout (layout_then layout o) m input output (IsGranted area data_at need o)
    granted need most o new f w s0 words e bound comes =
        served area data_at from to aligned (block_span layout need o new)
        m input output machine ra ra_is ra_small layout (layout_then layout o)
        (IsGranted area data_at need o) e.state 0 (comes e.state e.is)
        (let sp = e.has.spent in omega (arith, sp, bound))
        (parts_then layout need o (parts area layout sound) new) e.has.spells
        (keeps (call_rights area data_at from to) f w s0 e.state words e.is).registers
        (λ end way. record {
          address = way.shows.registers 10 (omega arith) ∙ e.has.answer;
          zero = zero_block o new (λ p q. e.has.zeros p q) end way;
        })
        (block_apart layout need o new)
      where
        from : ℕ
        from = block_from area data_at o

        to : ℕ
        to = block_to area data_at need o

        zero_block : (o' : Option Placed) → IsNew area layout need o'
            → ((p : Placed) → o' ≡ Some p → (k : ℕ) → k % 4 ≡ 0 → address_of (base_of area data_at) p.granule ≤ k
            → k < address_of (base_of area data_at) p.granule + 16 * need → e.state.memory k ≡ 0)
            → (end : Machine) → OnWay (call_rights area data_at from to) m ra e.state end
            → IsZeroBlock area data_at need o' end.memory
        zero_block None n zeros end way = tt
        zero_block (Some p) n zeros end way =
            let i = n.inside p refl in
            let al = base_aligned in
            zeroed from to need (address_of (base_of area data_at) p.granule)
            e.state end way (omega (arith, al)) (omega arith) (omega (arith, i)) (zeros p refl)

    -- nothing was granted, and the layout after it is another
    pub settled_alone : (after : Layout) → Parts area after → (most : ℕ) (f : Fragment) (w : ℕ) (s0 : View)
        → HasWords (call_rights area data_at 0 0) s0
        → Ends (frag_run (call_rights area data_at 0 0) f w s0) (λ t. Spells area data_at t.memory after
        × (t.spent ≤ most))
        → most + 8 ≤ turn_bound area
        → ((s : View) → frag_run (call_rights area data_at 0 0) f w s0 ≡ Some s
        → Comes (call_rights area data_at 0 0) m input output ra s 0 m)
        → IsServed area data_at layout after m input output AnyAnswer
    settled_alone after p most f w s0 words e bound comes =
        served area data_at 0 0 aligned no_span m input output machine ra
        ra_is ra_small layout after AnyAnswer e.state 0 (comes e.state e.is)
        (let sp = e.has.1 in omega (arith, sp, bound)) p e.has.0
        (keeps (call_rights area data_at 0 0) f w s0 e.state words e.is).registers
        (λ end way. tt) (λ b there a i. inr (omega arith))
