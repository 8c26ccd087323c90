-- A request to move a block is served.
use Rattle.std.proofs.Common.{◌≡◌, ℕ, ◌+◌, ◌-◌, ◌*◌, ◌/◌, ◌%◌, ◌^◌, ◌<◌, ◌≤◌, ◌==◌, List, refl, ap, sym, ◌∙◌, subst}
use Rattle.std.proofs.Common.{arith}
use Rattle.std.specs.Prelude.{Option, Some, None, min, option_map}
use Rattle.rv_isa.specs.declared.Width.TheVariants.{Word}
use Rattle.plan_core.specs.declared.types.Area.{Area}
use Rattle.plan_core.specs.Plan.{granules}
use Rattle.machine_spec.specs.Memory.{byte_of}
use Rattle.flat_spec.specs.Stores.{loaded}
use Rattle.flat_spec.specs.Machine.{Machine, register}
use Rattle.place_spec.specs.Layout.{Block, Layout, address_of}
use Rattle.place_spec.specs.Place.{Placed}
use Rattle.place_spec.specs.Release.{block_at, then_released}
use Rattle.place_spec.specs.Sound.{Sound}
use Rattle.place_spec.proofs.SoundParts.{Stands, Parts, parts}
use Rattle.place_spec.proofs.Sounds.{releasing}
use Rattle.place_spec.proofs.Blocks.{each_found}
use Rattle.heap_spec.specs.Places.{base_of, area_end}
use Rattle.heap_spec.specs.Tables.{Spells}
use Rattle.heap_spec.specs.Requests.{address_or_zero, layout_then}
use Rattle.heap_spec.specs.Service.{IsMachine, HoldsData, IsServed, IsMoved, IsMovedBlock, IsCopy, IsZero, words_of}
use Rattle.heap_spec.specs.Service.{turn_bound}
use Rattle.frag_code.specs.Fragments.{Fragment}
use Rattle.frag_code.specs.Frames.{HasWords}
use Rattle.frag_code.specs.Meaning.{View, frag_run}
use Rattle.frag_code.specs.Ends.{Ends}
use Rattle.frag_code.proofs.OnWay.{OnWay}
use Rattle.frag_rules.proofs.Spans.{in_span_yes}
use Rattle.heap_code.specs.Rights.{call_rights}
use Rattle.heap_code.proofs.Entries.{Comes}
use Rattle.heap_code.proofs.Returning.{served, byte_small, words_there}
use Rattle.heap_code.proofs.Bytes.{same_byte}
use Rattle.heap_code.proofs.Granting.{block_from, block_to}
use Rattle.heap_code.proofs.Serving.{KeepsWords, IsNew, base_aligned, block_span, block_apart, zeroed}

-- what the function's fragment says of a move
pub record Move (area : Area) (data_at : ℕ) (layout : Layout) (need : ℕ) (b : Block) (m : ℕ
    → ℕ) (o : Option Placed) (most : ℕ) (t : View) : Type 0 where
  pub answer : t.registers 10 ≡ address_or_zero area data_at o
  pub spells : Spells area data_at t.memory (layout_then layout (option_map (then_released area b.first) o))
  pub copied : (p : Placed) → o ≡ Some p → (i : ℕ) → i % 4 ≡ 0 → i < 16 * min b.granules need
      → t.memory (address_of (base_of area data_at) p.granule + i) ≡ m (address_of (base_of area data_at) b.first + i)
  pub zeros : (p : Placed) → o ≡ Some p → (k : ℕ) → k % 4 ≡ 0
      → address_of (base_of area data_at) p.granule + 16 * min b.granules need ≤ k
      → k < address_of (base_of area data_at) p.granule + 16 * need → t.memory k ≡ 0
  pub spent : t.spent ≤ most

module _ (area : Area) (data_at : ℕ) (aligned : data_at % 4 ≡ 0) (layout : Layout)
    (sound : Sound area layout) (m : Machine) (input output : List ℕ)
    (machine : IsMachine m) (ra : ℕ) (ra_is : register m 1 ≡ ra) (ra_small : ra < 2 ^ 32) (keeps : KeepsWords)
    (tables : HoldsData m.memory data_at (area_end area data_at)) (b : Block) (there : block_at layout b.first
    ≡ Some b) where
  -- the layout after it
  moved_parts : (need : ℕ) (o : Option Placed) → IsNew area layout need o
      → Parts area (layout_then layout (option_map (then_released area b.first) o))
  moved_parts need None n = parts area layout sound
  moved_parts need (Some p) n = releasing area p.after b.first (n.parts_after p refl)

  old_inside : b.first + b.granules ≤ granules area
  old_inside = (each_found (Stands area layout) (λ x. x.first == b.first)
      b layout.blocks there (parts area layout sound).blocks).inside

  pub relocated : (need most : ℕ) (o : Option Placed) → IsNew area layout need o → (f : Fragment) (w : ℕ) (s0 : View)
      → HasWords (call_rights area data_at (block_from area data_at o) (block_to area data_at need o)) s0
      → Ends (frag_run (call_rights area data_at (block_from area data_at o) (block_to area data_at need o)) f w s0)
      (Move area data_at layout need b (words_of m.memory) o most)
      → most + 8 ≤ turn_bound area
      → ((s : View) → frag_run (call_rights area data_at (block_from area data_at o) (block_to area data_at need o))
      f w s0 ≡ Some s
      → Comes (call_rights area data_at (block_from area data_at o) (block_to area data_at need o))
      m input output ra s 0 m)
      → IsServed area data_at layout (layout_then layout (option_map (then_released area b.first) o)) m input output
      (IsMoved area data_at need (block_at layout b.first) m.memory (option_map (then_released area b.first) o))
  relocated need most o new f w s0 words e bound comes =
      served area data_at from to aligned (block_span area data_at aligned layout need o new)
      m input output machine ra ra_is ra_small layout
      (layout_then layout (option_map (then_released area b.first) o))
      (IsMoved area data_at need (block_at layout b.first) m.memory (option_map (then_released area b.first) o))
      e.state 0 (comes e.state e.is) (let sp = e.has.spent in omega (arith, sp, bound))
      (moved_parts need o new) e.has.spells
      (keeps (call_rights area data_at from to) f w s0 e.state words e.is).registers
      (λ end way. record {
        address = way.shows.registers 10 (omega arith) ∙ (e.has.answer ∙ same_address o);
        bytes = λ old q. moved_block old (same_old old q) o new (λ p q. e.has.copied p q)
            (λ p q. e.has.zeros p q) end way;
      })
      (block_apart area data_at aligned layout need o new)
    where
      from : ℕ
      from = block_from area data_at o

      to : ℕ
      to = block_to area data_at need o

      at : ℕ → ℕ
      at granule = address_of (base_of area data_at) granule

      same_address : (o' : Option Placed) → address_or_zero area data_at o'
          ≡ address_or_zero area data_at (option_map (then_released area b.first) o')
      same_address None = refl
      same_address (Some p) = refl

      same_old : (old : Block) → block_at layout b.first ≡ Some old → b ≡ old
      same_old old q = let r : Some b ≡ Some old = sym there ∙ q in cc

      moved_block : (old : Block) → b ≡ old → (o' : Option Placed) → IsNew area layout need o'
          → ((p : Placed) → o' ≡ Some p → (i : ℕ) → i % 4 ≡ 0 → i < 16 * min b.granules need
          → e.state.memory (address_of (base_of area data_at) p.granule + i)
          ≡ words_of m.memory (address_of (base_of area data_at) b.first + i))
          → ((p : Placed) → o' ≡ Some p → (k : ℕ) → k % 4 ≡ 0
          → address_of (base_of area data_at) p.granule + 16 * min b.granules need ≤ k
          → k < address_of (base_of area data_at) p.granule + 16 * need → e.state.memory k ≡ 0)
          → (end : Machine) → OnWay (call_rights area data_at from to) m ra e.state end
          → IsMovedBlock area data_at need old m.memory (option_map (then_released area b.first) o') end.memory
      moved_block old q None n copied zeros end way = tt
      moved_block old q (Some p) n copied zeros end way =
          subst (λ x. IsMovedBlock area data_at need x m.memory (Some (then_released area b.first p)) end.memory)
          q (copy, rest)
        where
          i_new : p.granule + need ≤ granules area
          i_new = n.inside p refl

          copy : IsCopy m.memory end.memory (address_of (base_of area data_at) b.first)
              (address_of (base_of area data_at) p.granule) (16 * min b.granules need)
          copy i l =
              let al = base_aligned area data_at aligned in
              let j : ℕ = i / 4 * 4 in
              let j4 : j % 4 ≡ 0 = omega arith in
              let j_hi : j < 16 * min b.granules need = omega (arith, l) in
              let new_end = i_new in
              let old_end = old_inside in
              let new_word : loaded end.memory Word (address_of (base_of area data_at) p.granule + j)
              ≡ Some (words_of m.memory (address_of (base_of area data_at) b.first + j)) =
              way.shows.words (address_of (base_of area data_at) p.granule + j) (omega (arith, al, j4))
              (in_span_yes data_at (area_end area data_at) (address_of (base_of area data_at) p.granule + j)
              (omega arith) (omega (arith, j_hi, new_end)))
              ∙ ap (λ x. Some x) (copied p refl j j4 j_hi) in
              let old_word : loaded m.memory Word (address_of (base_of area data_at) b.first + j)
              ≡ Some (words_of m.memory (address_of (base_of area data_at) b.first + j)) =
              words_there area data_at from to aligned (block_span area data_at aligned layout need o new)
              m.memory tables
              (address_of (base_of area data_at) b.first + j) (omega (arith, al, j4))
              (in_span_yes data_at (area_end area data_at) (address_of (base_of area data_at) b.first + j)
              (omega arith) (omega (arith, j_hi, old_end))) in
              let k : ℕ = i - j in
              let k_small : k < 4 = omega arith in
              let both : byte_of end.memory (address_of (base_of area data_at) p.granule + j + k)
              ≡ byte_of m.memory (address_of (base_of area data_at) b.first + j + k) =
              same_byte end.memory m.memory
              (byte_small area data_at from to aligned (block_span area data_at aligned layout need o new)
              m input output machine ra ra_is ra_small e.state end way)
              machine.bytes (address_of (base_of area data_at) p.granule + j)
              (address_of (base_of area data_at) b.first + j) k
              (words_of m.memory (address_of (base_of area data_at) b.first + j)) new_word old_word k_small in
              subst (λ x. byte_of end.memory x ≡ byte_of m.memory (address_of (base_of area data_at) b.first + i))
              (let z : address_of (base_of area data_at) p.granule + j + k
              ≡ address_of (base_of area data_at) p.granule + i = omega arith in z)
              (subst (λ y. byte_of end.memory (address_of (base_of area data_at) p.granule + j + k)
              ≡ byte_of m.memory y)
              (let z : address_of (base_of area data_at) b.first + j + k
              ≡ address_of (base_of area data_at) b.first + i = omega arith in z) both)

          rest : IsZero end.memory (address_of (base_of area data_at) (p.granule + min b.granules need))
              (16 * (need - b.granules))
          rest =
              let al = base_aligned area data_at aligned in
              let new_end = i_new in
              zeroed area data_at aligned layout sound m input output machine
              ra ra_is ra_small keeps from to (need - b.granules)
              (address_of (base_of area data_at) (p.granule + min b.granules need))
              e.state end way (omega (arith, al)) (omega arith) (omega (arith, new_end))
              (λ k k4 lo hi. zeros p refl k k4 (omega (arith, lo)) (omega (arith, lo, hi)))
