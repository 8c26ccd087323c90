-- Two grants in a chunk that stays in use, with none in it between them.
use Rattle.std.proofs.Common.{◌≡◌, ◌∙◌, ℕ, suc, ◌+◌, ◌*◌, ◌<◌, ◌≤◌, false, List, [], ◌∷◌, ◌++◌, length, refl, sym, ap}
use Rattle.std.proofs.Common.{subst, arith}
use Rattle.std.specs.Prelude.{All, Option, Some, None, count_by, slice_get, slice_index}
use Rattle.std.proofs.lemmas.List.Elements.{All-append, All-cons, All-nil}
use Rattle.std.proofs.lemmas.Option.{slice_get_within}
use Rattle.plan_core.specs.declared.types.Area.{Area}
use Rattle.plan_core.specs.declared.types.Plan.{Plan}
use Rattle.plan_core.specs.declared.types.Row.{Row}
use Rattle.place_spec.specs.Layout.{Layout, address_of, chunk_front, chunk_of}
use Rattle.place_spec.specs.Place.{Placed, placed}
use Rattle.place_spec.specs.Reached.{IsAllowed, Places, PlacesElsewhere, Request, StandsIn, StaysInUse, layout_after}
use Rattle.place_spec.specs.Reached.{layout_after_all}
use Rattle.place_spec.specs.Release.{released}
use Rattle.place_spec.specs.Sound.{Sound, is_in_chunk}
use Rattle.sym_value.specs.Places.{capacity_in}
use Rattle.sym_spec.specs.SymMachine.{SymMachine}
use Rattle.sym_spec.specs.SymNotes.{note}
use Rattle.sym_spec.specs.HeapActions.{base, granule_in}
use Rattle.run_laws.specs.Turns.{Heap, IsGranted, heap_of, new_life}
use Rattle.run_laws.specs.Turns as turns
use Rattle.run_laws.specs.Grants.{Grants, GrantsIn, HasGroups, Run, begins, ends, live_count_at, machine_at}
use Rattle.run_laws.proofs.Blocks.{passed_before}
use Rattle.run_laws.proofs.Lists.{index_last, last_there, set_other}
use Rattle.run_laws.proofs.Owners.{Laws, climbs, grant_of, holds_at, is_granted, last_name, sound_at, turn_at}
use Rattle.run_laws.proofs.Requests.{placing_leads, releasing, releasing_allowed, releasing_leads, then_after}

-- requests that lead from one layout to another while chunk k stays in use
pub record Path (plan : Plan) (k : ℕ) (from to : Layout) : Type 0 where
  pub requests : List Request
  pub allowed : All IsAllowed requests
  pub leads : layout_after_all plan.rows plan.area from requests ≡ to
  pub uses : StaysInUse plan.rows plan.area k from requests

stays_join : (rows : List Row) (area : Area) (k : ℕ) (layout : Layout) (rs ss : List Request)
    → StaysInUse rows area k layout rs → StaysInUse rows area k (layout_after_all rows area layout rs) ss
    → StaysInUse rows area k layout (rs ++ ss)
stays_join rows area k layout [] ss first second = second
stays_join rows area k layout (r ∷ rs) ss first second =
    (first.0, (first.1.0, stays_join rows area k (layout_after rows area layout r) rs ss first.1.1 second))

path_join : (plan : Plan) (k : ℕ) (from by to : Layout) → Path plan k from by → Path plan k by to → Path plan k from to
path_join plan k from by to first second = record {
  requests = first.requests ++ second.requests;
  allowed = All-append IsAllowed first.requests second.requests first.allowed second.allowed;
  leads = then_after plan.rows plan.area from first.requests second.requests
      ∙ (ap (λ l. layout_after_all plan.rows plan.area l second.requests) first.leads ∙ second.leads);
  uses = stays_join plan.rows plan.area k from first.requests second.requests first.uses
      (subst (λ l. StaysInUse plan.rows plan.area k l second.requests) (sym first.leads) second.uses);
}

abbrev InUse : ℕ → Layout → Type 0
InUse k layout = 0 < (chunk_of layout k).live

no_path : (plan : Plan) (k : ℕ) (layout : Layout) → InUse k layout → Path plan k layout layout
no_path plan k layout used = record { requests = []; allowed = All-nil IsAllowed; leads = refl; uses = used }

-- the release of a turn
release_path : (file : List ℕ) (plan : Plan) (m : SymMachine) (k : ℕ) (o : Option ℕ) (before after : Heap)
    → turns.AfterRelease file plan m o before after → InUse k before.layout → InUse k after.layout
    → Path plan k before.layout after.layout
release_path file plan m k o before after is used still = record {
  requests = releasing file plan m o;
  allowed = releasing_allowed file plan m o;
  leads = releasing_leads file plan m o before after is;
  uses = by o is;
}
  where
    by : (o : Option ℕ) → turns.AfterRelease file plan m o before after
        → StaysInUse plan.rows plan.area k before.layout (releasing file plan m o)
    by None is = used
    by (Some b) gone = (used, (tt, subst (λ (h : Heap). InUse k h.layout) gone.after_is still))

-- the grant of a turn that places no block in the chunk
grant_path : (file : List ℕ) (plan : Plan) (m : SymMachine) (k : ℕ) (o : Option ℕ) (between : Heap)
    → turns.AfterGrant file plan m o between
    → ((b : ℕ) (is : IsGranted file plan m b between) → o ≡ Some b → ¬ StandsIn plan.area k is.place.granule)
    → InUse k m.layout → InUse k between.layout → Path plan k m.layout between.layout
grant_path file plan m k None between same away used still =
    subst (λ (h : Heap). Path plan k m.layout h.layout) (sym same) (no_path plan k m.layout used)
grant_path file plan m k (Some b) between is away used still = record {
  requests = Places is.need m.bits ∷ [];
  allowed = All-cons IsAllowed (Places is.need m.bits) [] is.some (All-nil IsAllowed);
  leads = leads;
  uses = (used, (elsewhere, subst (InUse k) (sym leads) still));
}
  where
    leads : layout_after plan.rows plan.area m.layout (Places is.need m.bits) ≡ between.layout
    leads = placing_leads plan.rows plan.area m.layout is.need m.bits is.place is.placed_there
        ∙ ap (λ (h : Heap). h.layout) (sym is.after_is)

    elsewhere : PlacesElsewhere plan.rows plan.area k m.layout (Places is.need m.bits)
    elsewhere p found stands =
        let both : Some is.place ≡ Some p = sym is.placed_there ∙ found in
        let same : p ≡ is.place = cc in
        away b is refl (subst (λ (q : Placed). StandsIn plan.area k q.granule) same stands)

-- the law of layouts
abbrev pub NextBegins : Type 0
NextBegins = (rows : List Row) (area : Area) (layout : Layout) (k need bits : ℕ) (p : Placed) (between : List Request)
    (next_need next_bits : ℕ) (q : Placed) → All (λ row. row.group < 16) rows → Sound area layout → k < area.chunks
    → 1 ≤ need → placed rows area layout need bits ≡ Some p → StandsIn area k p.granule
    → All IsAllowed between → StaysInUse rows area k p.after between → 1 ≤ next_need
    → placed rows area (layout_after_all rows area p.after between) next_need next_bits ≡ Some q
    → StandsIn area k q.granule → q.granule ≡ p.granule + need

module _ (laws : Laws) (next_law : NextBegins) (run : Run) (few : HasGroups run) (k : ℕ)
    (chunk : k < run.plan.area.chunks) where
  abbrev layout_at : ℕ → Layout
  layout_at n = (machine_at run n).layout

  abbrev between : ℕ → Heap
  between n = (turn_at laws run few n).between

  -- where the block of a grant stands, and its life
  granted_at : (n b : ℕ) (is : IsGranted run.file run.plan (machine_at run n) b (between n)) → Grants run n b
      → (begins run (suc n) b ≡ address_of (base run.file run.plan) is.place.granule)
      × (slice_get (heap_of (machine_at run (suc n))).lives b ≡ Some (new_life is.need))
  granted_at n b is granted =
      by (note run.file run.plan (machine_at run n)).release (turn_at laws run few n).releases
    where
      last : b ≡ length (heap_of (machine_at run n)).lives
      last = last_name laws run few n b granted

      begins_there : slice_index (between n).at b ≡ address_of (base run.file run.plan) is.place.granule
      begins_there = ap (λ (h : Heap). slice_index h.at b) is.after_is
          ∙ index_last (machine_at run n).at _ b (last ∙ sym (holds_at laws run few n).addresses)

      lives_there : slice_get (between n).lives b ≡ Some (new_life is.need)
      lives_there = ap (λ (h : Heap). slice_get h.lives b) is.after_is
          ∙ (ap (slice_get ((heap_of (machine_at run n)).lives ++ new_life is.need ∷ [])) last
          ∙ last_there (heap_of (machine_at run n)).lives (new_life is.need))

      by : (o : Option ℕ)
          → turns.AfterRelease run.file run.plan (machine_at run n) o (between n) (heap_of (machine_at run (suc n)))
          → (begins run (suc n) b ≡ address_of (base run.file run.plan) is.place.granule)
          × (slice_get (heap_of (machine_at run (suc n))).lives b ≡ Some (new_life is.need))
      by None same = (
        ap (λ (h : Heap). slice_index h.at b) same ∙ begins_there,
        ap (λ (h : Heap). slice_get h.lives b) same ∙ lives_there,
      )
      by (Some c) gone =
          let low : c < length (heap_of (machine_at run n)).lives =
          slice_get_within (heap_of (machine_at run n)).lives c gone.life gone.there in (
            ap (λ (h : Heap). slice_index h.at b) gone.after_is ∙ begins_there,
            ap (λ (h : Heap). slice_get h.lives b) gone.after_is
                ∙ (set_other (between n).lives c b (record gone.life { lives = false })
                (λ same. omega (arith, same, last, low)) ∙ lives_there),
          )

  -- in which chunk
  stands_in : (a g : ℕ) → a ≡ address_of (base run.file run.plan) g
      → (address_of (base run.file run.plan) (chunk_front run.plan.area k) ≤ a)
      × (a < address_of (base run.file run.plan) (chunk_front run.plan.area (k + 1)))
      → StandsIn run.plan.area k g
  stands_in a g at stands = by (chunk_front run.plan.area k) (chunk_front run.plan.area (k + 1)) stands
    where
      by : (low high : ℕ)
          → (address_of (base run.file run.plan) low ≤ a) × (a < address_of (base run.file run.plan) high)
          → (low ≤ g) × (g < high)
      by low high (from, to) = (omega (arith, at, from), omega (arith, at, to))

  in_chunk : (a g : ℕ) → a ≡ address_of (base run.file run.plan) g → StandsIn run.plan.area k g
      → (address_of (base run.file run.plan) (chunk_front run.plan.area k) ≤ a)
      × (a < address_of (base run.file run.plan) (chunk_front run.plan.area (k + 1)))
  in_chunk a g at stands = by (chunk_front run.plan.area k) (chunk_front run.plan.area (k + 1)) stands
    where
      by : (low high : ℕ) → (low ≤ g) × (g < high)
          → (address_of (base run.file run.plan) low ≤ a) × (a < address_of (base run.file run.plan) high)
      by low high (from, to) = (omega (arith, at, from), omega (arith, at, to))

  -- the chunk is in use between the grant and the release of a turn, too
  between_sound : (n : ℕ) → Sound run.plan.area (between n).layout
  between_sound n = by (grant_of run n) (turn_at laws run few n).grants
    where
      by : (o : Option ℕ) → turns.AfterGrant run.file run.plan (machine_at run n) o (between n)
          → Sound run.plan.area (between n).layout
      by None same = subst (λ (h : Heap). Sound run.plan.area h.layout) (sym same) (sound_at laws run few n)
      by (Some b) is = subst (λ (h : Heap). Sound run.plan.area h.layout) (sym is.after_is)
          (laws.placing run.plan.rows run.plan.area (layout_at n) is.need (machine_at run n).bits is.place few
          (sound_at laws run few n) is.some is.placed_there)

  between_used : (n : ℕ) → InUse k (layout_at (suc n)) → InUse k (between n).layout
  between_used n used = by (note run.file run.plan (machine_at run n)).release (turn_at laws run few n).releases
    where
      by : (o : Option ℕ)
          → turns.AfterRelease run.file run.plan (machine_at run n) o (between n) (heap_of (machine_at run (suc n)))
          → InUse k (between n).layout
      by None same = subst (λ (h : Heap). InUse k h.layout) same used
      by (Some c) gone =
          let granule : ℕ = granule_in run.file run.plan c (machine_at run n) in
          let after : layout_at (suc n) ≡ released run.plan.area (between n).layout granule =
          ap (λ (h : Heap). h.layout) gone.after_is in
          let blocks = ap (λ (l : Layout). l.blocks) after in
          let here : 0 < count_by (is_in_chunk run.plan.area k) (layout_at (suc n)).blocks =
          subst (λ c. 0 < c) (sym ((sound_at laws run few (suc n)).counted k chunk)) used in
          subst (λ c. 0 < c) ((between_sound n).counted k chunk)
          (passed_before (is_in_chunk run.plan.area k) granule (between n).layout.blocks
          (released run.plan.area (between n).layout granule).blocks
          (laws.without run.plan.area (between n).layout granule)
          (subst (λ bs. 0 < count_by (is_in_chunk run.plan.area k) bs) blocks here))

  -- a turn that grants no block in the chunk
  turn_path : (n : ℕ) → InUse k (layout_at n) → InUse k (layout_at (suc n)) → ((d : ℕ) → ¬ GrantsIn run k n d)
      → Path run.plan k (layout_at n) (layout_at (suc n))
  turn_path n used still none =
      path_join run.plan k (layout_at n) (between n).layout (layout_at (suc n))
      (grant_path run.file run.plan (machine_at run n) k (grant_of run n) (between n) (turn_at laws run few n).grants
      away used (between_used n still))
      (release_path run.file run.plan (machine_at run n) k (note run.file run.plan (machine_at run n)).release
      (between n) (heap_of (machine_at run (suc n))) (turn_at laws run few n).releases (between_used n still) still)
    where
      away : (b : ℕ) (is : IsGranted run.file run.plan (machine_at run n) b (between n)) → grant_of run n ≡ Some b
          → ¬ StandsIn run.plan.area k is.place.granule
      away b is granted stands = none b (record {
        granted = granted;
        stands = in_chunk (begins run (suc n) b) is.place.granule (granted_at n b is granted).0 stands;
      })

  -- the second of two grants begins where the first ends
  pub next_begins : (i j b c : ℕ) → i < j → GrantsIn run k i b → GrantsIn run k j c
      → ((n d : ℕ) → i < n → n < j → ¬ GrantsIn run k n d)
      → ((n : ℕ) → i < n → n ≤ j → 0 < live_count_at run k n) → begins run (suc j) c ≡ ends run (suc i) b
  next_begins i j b c less first second none used =
      let is : IsGranted run.file run.plan (machine_at run i) b (between i) =
      is_granted laws run few i b first.granted in
      let later : IsGranted run.file run.plan (machine_at run j) c (between j) =
      is_granted laws run few j c second.granted in
      let here = granted_at i b is first.granted in
      let there = granted_at j c later second.granted in
      let begin : (between i).layout ≡ is.place.after = ap (λ (h : Heap). h.layout) is.after_is in
      let path : Path run.plan k is.place.after (layout_at j) =
      subst (λ l. Path run.plan k l (layout_at j)) begin whole in
      let next : later.place.granule ≡ is.place.granule + is.need =
      next_law run.plan.rows run.plan.area (layout_at i) k is.need (machine_at run i).bits is.place path.requests
      later.need (machine_at run j).bits later.place few (sound_at laws run few i) chunk is.some is.placed_there
      (stands_in (begins run (suc i) b) is.place.granule here.0 first.stands) path.allowed path.uses later.some
      (ap (λ l. placed run.plan.rows run.plan.area l later.need (machine_at run j).bits) path.leads
      ∙ later.placed_there)
      (stands_in (begins run (suc j) c) later.place.granule there.0 second.stands) in
      joined (begins run (suc j) c) (begins run (suc i) b) later.place.granule is.place.granule is.need _ there.0 here.0
      (ap capacity_in here.1) next
    where
      still : (n : ℕ) → i < n → n ≤ j → InUse k (layout_at n)
      still n low high = used n low high

      start : Path run.plan k (between i).layout (layout_at (suc i))
      start = release_path run.file run.plan (machine_at run i) k (note run.file run.plan (machine_at run i)).release
          (between i) (heap_of (machine_at run (suc i))) (turn_at laws run few i).releases
          (between_used i (still (suc i) (omega arith) (omega (arith, less))))
          (still (suc i) (omega arith) (omega (arith, less)))

      whole : Path run.plan k (between i).layout (layout_at j)
      whole = climbs (λ n. Path run.plan k (between i).layout (layout_at n)) (suc i) j (omega (arith, less)) start
          (λ n low high path. path_join run.plan k (between i).layout (layout_at n) (layout_at (suc n)) path
          (turn_path n (still n (omega (arith, low)) (omega (arith, high)))
          (still (suc n) (omega (arith, low)) (omega (arith, high)))
          (λ d. none n d (omega (arith, low)) (omega (arith, high)))))

      joined : (a b g h need size : ℕ) → a ≡ address_of (base run.file run.plan) g
          → b ≡ address_of (base run.file run.plan) h → size ≡ 16 * need → g ≡ h + need → a ≡ b + size
      joined a b g h need size at from full next = omega (arith, at, from, full, next)
