-- The grants of a run, by their names, and the owner of the chunk in which a living block stands.
use Rattle.std.proofs.Common.{◌≡◌, ◌∙◌, ℕ, zero, suc, ◌<◌, ◌≤◌, List, [], ◌∷◌, ◌++◌, false, length, refl, sym, ap}
use Rattle.std.proofs.Common.{subst, inl, inr, arith, length-append}
use Rattle.std.specs.Prelude.{All, Any, Option, Some, None, slice_get, slice_index}
use Rattle.std.proofs.lemmas.Bool.{cases_eq, cases_order}
use Rattle.std.proofs.lemmas.List.{length-map}
use Rattle.std.proofs.lemmas.Option.{slice_get-get_or, slice_get_within}
use Rattle.plan_core.specs.declared.types.Area.{Area}
use Rattle.plan_core.specs.declared.types.Plan.{Plan}
use Rattle.plan_core.specs.declared.types.Row.{Row}
use Rattle.plan_core.specs.Plan.{group_of_bits}
use Rattle.place_spec.specs.Layout.{Block, Layout}
use Rattle.place_spec.specs.Place.{Placed, placed}
use Rattle.place_spec.specs.Reached.{IsReached}
use Rattle.place_spec.specs.Release.{released}
use Rattle.place_spec.specs.Sound.{Apart, Sound}
use Rattle.block_laws.specs.Blocks.{StandsBeside, StandsWithout}
use Rattle.heap_spec.specs.Requests.{granule_at}
use Rattle.site_spec.specs.Places.{data_at}
use Rattle.sym_value.specs.declared.live.Life.{Life}
use Rattle.sym_value.specs.Places.{capacity_in, lives_in}
use Rattle.sym_cells.specs.Memory.{life_of}
use Rattle.sym_spec.specs.SymMachine.{SymMachine, start}
use Rattle.sym_spec.specs.StartMemory.{start_memory}
use Rattle.sym_spec.specs.SymNotes.{note}
use Rattle.sym_spec.specs.HeapActions.{granule_in}
use Rattle.run_laws.specs.Turns.{Heap, IsGranted, ServesHeap, heap_of, new_life}
use Rattle.run_laws.specs.Turns as turns
use Rattle.run_laws.specs.Grants.{Grants, HasGroups, IsBlock, IsNamed, Lives, Run, begins, group_at, machine_at}
use Rattle.run_laws.proofs.Blocks.{any_in, in_all}
use Rattle.run_laws.proofs.HeapTurns.{Alive, alive}
use Rattle.run_laws.proofs.Lists.{last_there, still_there}
use Rattle.run_laws.proofs.Names.{Holds, Standing, Stands, dropped_one, granted, old_index}
use Rattle.run_laws.proofs.Requests.{TurnsServe, reached, served, starts}

-- the laws on which those of runs rest
pub record Laws : Type 0 where
  pub serve : TurnsServe
  pub sound : (rows : List Row) (area : Area) (layout : Layout) → All (λ row. row.group < 16) rows
      → IsReached rows area layout → Sound area layout
  pub placing : (rows : List Row) (area : Area) (layout : Layout) (need bits : ℕ) (p : Placed)
      → All (λ row. row.group < 16) rows → Sound area layout → 1 ≤ need
      → placed rows area layout need bits ≡ Some p → Sound area p.after
  pub beside : (rows : List Row) (area : Area) (layout : Layout) (need bits : ℕ) (p : Placed)
      → All (λ row. row.group < 16) rows → Sound area layout → 1 ≤ need
      → placed rows area layout need bits ≡ Some p → StandsBeside need layout p
  pub without : (area : Area) (layout : Layout) (granule : ℕ)
      → StandsWithout granule layout.blocks (released area layout granule).blocks

-- what holds at one moment and from each to the next holds at a later one
pub climbs : (P : ℕ → Type 0) (i n : ℕ) → i ≤ n → P i → ((m : ℕ) → i ≤ m → m < n → P m → P (suc m)) → P n
climbs P i zero le begin up = subst P (let none : i ≡ 0 = omega arith in none) begin
climbs P i (suc n) le begin up = elim (cases_eq i (suc n)) [
  | inl same ↦ subst P same begin
  | inr other ↦ up n (omega (arith, other)) (omega arith)
      (climbs P i n (omega (arith, other)) begin (λ m low high p. up m low (omega (arith, high)) p))
]

-- the groups of the grants before turn n, by the names of their blocks
abbrev pub grown : Option ℕ → Option ℕ → List (Option ℕ) → List (Option ℕ)
grown (Some block) group groups = groups ++ group ∷ []
grown None group groups = groups

abbrev pub grant_of : Run → ℕ → Option ℕ
grant_of run n = (note run.file run.plan (machine_at run n)).grant

abbrev pub groups_before : Run → ℕ → List (Option ℕ)
groups_before run zero = []
groups_before run (suc n) = grown (grant_of run n) (group_at run n) (groups_before run n)

-- the heap between the grant and the release of a turn
pub record Between (file : List ℕ) (plan : Plan) (groups : List (Option ℕ)) (m : SymMachine)
    (between : Heap) : Type 0 where
  pub holds : Holds file plan groups between
  pub old : (b : ℕ) (k : Life) → slice_get (heap_of m).lives b ≡ Some k
      → (slice_get between.lives b ≡ Some k) × (slice_index between.at b ≡ slice_index m.at b)

starts_held : (file : List ℕ) (plan : Plan) → Holds file plan [] (heap_of (start file plan))
unfolding start start_memory
starts_held file plan = record {
  addresses = refl;
  grouped = refl;
  placed = λ b k there. absurd (cc);
  named = λ x one. absurd one;
  apart = λ b c k l other there. absurd (cc);
}

between_held : Laws → (file : List ℕ) (plan : Plan) (groups : List (Option ℕ)) (m : SymMachine) (between : Heap)
    (o : Option ℕ) → All (λ row. row.group < 16) plan.rows → Sound plan.area m.layout
    → Holds file plan groups (heap_of m) → turns.AfterGrant file plan m o between
    → Between file plan (grown o (group_of_bits plan.rows m.bits) groups) m between
between_held laws file plan groups m between None few sound holds same =
    subst (Between file plan groups m) (sym same) (record { holds = holds; old = λ b k there. (there, refl) })
between_held laws file plan groups m between (Some block) few sound holds is =
    subst (Between file plan (groups ++ group_of_bits plan.rows m.bits ∷ []) m) (sym is.after_is) (record {
      holds = granted file plan groups (heap_of m) is.need m.bits is.place is.some is.placed_there sound.blocks_filled
          away holds;
      old = λ b k there. (
        still_there (heap_of m).lives (new_life is.need) b k there,
        old_index file plan groups (heap_of m) is.need m.bits is.place is.some is.placed_there sound.blocks_filled
            away holds b k there,
      );
    })
  where
    away : All (λ b. Apart is.place.granule is.need b.first b.granules) m.layout.blocks
    away =
        (laws.beside plan.rows plan.area m.layout is.need m.bits is.place few sound is.some is.placed_there).apart

after_held : Laws → (file : List ℕ) (plan : Plan) (groups : List (Option ℕ)) (m : SymMachine) (between after : Heap)
    (o : Option ℕ) → Between file plan groups m between → turns.AfterRelease file plan m o between after
    → Holds file plan groups after
after_held laws file plan groups m between after None is same = subst (Holds file plan groups) (sym same) is.holds
after_held laws file plan groups m between after (Some b) is gone =
    let old = is.old b gone.life gone.there in
    subst (Holds file plan groups) (sym gone.after_is)
    (dropped_one file plan groups between b gone.life (granule_in file plan b m) old.0 gone.lived
    (ap (granule_at plan.area (data_at file)) (sym old.1))
    (laws.without plan.area between.layout (granule_in file plan b m)) is.holds)

module _ (laws : Laws) (run : Run) (few : HasGroups run) where
  pub sound_at : (n : ℕ) → Sound run.plan.area (machine_at run n).layout
  sound_at n = laws.sound run.plan.rows run.plan.area (machine_at run n).layout few (reached laws.serve run n)

  pub turn_at : (n : ℕ) → ServesHeap run.file run.plan (machine_at run n) (note run.file run.plan (machine_at run n))
      (machine_at run (suc n))
  turn_at n = served laws.serve run n

  between_at : (n : ℕ) → Holds run.file run.plan (groups_before run n) (heap_of (machine_at run n))
      → Between run.file run.plan (groups_before run (suc n)) (machine_at run n) (turn_at n).between
  between_at n holds = between_held laws run.file run.plan (groups_before run n) (machine_at run n) (turn_at n).between
      (grant_of run n) few (sound_at n) holds (turn_at n).grants

  pub holds_at : (n : ℕ) → Holds run.file run.plan (groups_before run n) (heap_of (machine_at run n))
  holds_at zero = subst (λ (m : SymMachine). Holds run.file run.plan [] (heap_of m)) (sym (starts run))
      (starts_held run.file run.plan)
  holds_at (suc n) =
      after_held laws run.file run.plan (groups_before run (suc n)) (machine_at run n) (turn_at n).between
      (heap_of (machine_at run (suc n))) (note run.file run.plan (machine_at run n)).release
      (between_at n (holds_at n)) (turn_at n).releases

  -- what is granted in a turn
  pub is_granted : (n b : ℕ) → Grants run n b → IsGranted run.file run.plan (machine_at run n) b (turn_at n).between
  is_granted n b is =
      subst (λ o. turns.AfterGrant run.file run.plan (machine_at run n) o (turn_at n).between) is (turn_at n).grants

  pub last_name : (n b : ℕ) → Grants run n b → b ≡ length (heap_of (machine_at run n)).lives
  last_name n b is = (is_granted n b is).named ∙ sym (length-map (machine_at run n).memory.blocks life_of)

  last_group : (n b : ℕ) → Grants run n b → b ≡ length (groups_before run n)
  last_group n b is = last_name n b is ∙ sym (holds_at n).grouped

  more_groups : (n b : ℕ) → Grants run n b → groups_before run (suc n) ≡ groups_before run n ++ group_at run n ∷ []
  more_groups n b is = ap (λ o. grown o (group_at run n) (groups_before run n)) is

  groups_still : (n b : ℕ) (g : Option ℕ) → slice_get (groups_before run n) b ≡ Some g
      → slice_get (groups_before run (suc n)) b ≡ Some g
  groups_still n b g there = by (grant_of run n)
    where
      by : (o : Option ℕ) → slice_get (grown o (group_at run n) (groups_before run n)) b ≡ Some g
      by None = there
      by (Some c) = still_there (groups_before run n) (group_at run n) b g there

  -- a block that was granted has the group of its grant
  pub its_group : (i n b : ℕ) → Grants run i b → i < n → slice_get (groups_before run n) b ≡ Some (group_at run i)
  its_group i n b is before =
      climbs (λ m. slice_get (groups_before run m) b ≡ Some (group_at run i)) (suc i) n (omega (arith, before)) here
      (λ m low high there. groups_still m b (group_at run i) there)
    where
      here : slice_get (groups_before run (suc i)) b ≡ Some (group_at run i)
      here = ap (λ gs. slice_get gs b) (more_groups i b is)
          ∙ (ap (slice_get (groups_before run i ++ group_at run i ∷ [])) (last_group i b is)
          ∙ last_there (groups_before run i) (group_at run i))

  -- each block was granted
  pub was_granted : (n b : ℕ) → b < length (groups_before run n) → (i : ℕ) × (i < n) × Grants run i b
  was_granted zero b low = absurd (omega (arith, low))
  was_granted (suc n) b low = by (grant_of run n) refl low (λ l. was_granted n b l)
    where
      by : (o : Option ℕ) → grant_of run n ≡ o → b < length (grown o (group_at run n) (groups_before run n))
          → (b < length (groups_before run n) → (i : ℕ) × (i < n) × Grants run i b)
          → (i : ℕ) × (i < suc n) × Grants run i b
      by None is low old = let h = old low in (h.0, omega (arith, h.1), h.2)
      by (Some c) is low old =
          let last : c ≡ length (groups_before run n) = last_group n c is in
          let long = length-append (groups_before run n) (group_at run n ∷ []) in
          elim (cases_eq b c) [
            | inl same ↦ (n, omega arith, is ∙ ap (λ x. Some x) (sym same))
            | inr other ↦
                let h = old (omega (arith, last, long, low, other)) in (h.0, omega (arith, h.1), h.2)
          ]

  granted_low : (i n b : ℕ) → Grants run i b → i < n → b < length (groups_before run n)
  granted_low i n b is before =
      slice_get_within (groups_before run n) b (group_at run i) (its_group i n b is before)

  pub once : (i j b : ℕ) → Grants run i b → Grants run j b → i ≡ j
  once i j b first second = elim (cases_order i j) [
    | inl same ↦ same
    | inr (inl less) ↦
        absurd (let low = granted_low i j b first less in let last = last_group j b second in omega (arith, low, last))
    | inr (inr more) ↦
        absurd (let low = granted_low j i b second more in let last = last_group i b first in omega (arith, low, last))
  ]

  -- an address stays
  at_still : (n b : ℕ) (k : Life) → slice_get (heap_of (machine_at run n)).lives b ≡ Some k
      → begins run (suc n) b ≡ begins run n b
  at_still n b k there =
      by (note run.file run.plan (machine_at run n)).release (turn_at n).releases
      ∙ ((between_at n (holds_at n)).old b k there).1
    where
      by : (o : Option ℕ) → turns.AfterRelease run.file run.plan (machine_at run n) o (turn_at n).between
          (heap_of (machine_at run (suc n))) → begins run (suc n) b ≡ slice_index (turn_at n).between.at b
      by None same = ap (λ (h : Heap). slice_index h.at b) same
      by (Some c) gone = ap (λ (h : Heap). slice_index h.at b) gone.after_is

  pub stays : (i n b : ℕ) → Grants run i b → i < n → begins run n b ≡ begins run (suc i) b
  stays i n b is before =
      climbs (λ m. begins run m b ≡ begins run (suc i) b) (suc i) n (omega (arith, before)) refl (λ m low high same.
      let inside : b < length (groups_before run m) = granted_low i m b is (omega (arith, low)) in
      let long : length (groups_before run m) ≡ length (heap_of (machine_at run m)).lives = (holds_at m).grouped in
      at_still m b _ (slice_get-get_or (heap_of (machine_at run m)).lives b no_life (omega (arith, inside, long)))
      ∙ same)
    where
      no_life : Life
      no_life = record { capacity = 0; lives = false }

  -- a block that lives is a block of the layout
  life_at : (n b : ℕ) → Lives run n b → Alive (heap_of (machine_at run n)).lives b
  life_at n b lives =
      alive (slice_get (heap_of (machine_at run n)).lives b) (heap_of (machine_at run n)).lives b refl lives

  standing_at : (n b : ℕ) → (is : Alive (heap_of (machine_at run n)).lives b)
      → Standing run.file run.plan (machine_at run n).at (groups_before run n) (machine_at run n).layout.blocks b
      is.life
  standing_at n b is = (holds_at n).placed b is.life is.there is.live

  pub lives_granted : (n b : ℕ) → Lives run n b → (i : ℕ) × (i < n) × Grants run i b
  lives_granted n b lives =
      let is : Alive (heap_of (machine_at run n)).lives b = life_at n b lives in
      let low : b < length (heap_of (machine_at run n)).lives =
      slice_get_within (heap_of (machine_at run n)).lives b is.life is.there in
      let long : length (groups_before run n) ≡ length (heap_of (machine_at run n)).lives = (holds_at n).grouped in
      was_granted n b (omega (arith, low, long))

  is_block : (n i b : ℕ) (k : Life) (x : Block) → i < n → Grants run i b
      → slice_get (heap_of (machine_at run n)).lives b ≡ Some k
      → Stands run.file run.plan (machine_at run n).at (groups_before run n) b k x → IsBlock run n i b x
  is_block n i b k x before is there s = record {
    address = s.begins;
    capacity = ap capacity_in there ∙ s.size;
    group = let same : Some x.group ≡ Some (group_at run i) = sym s.group ∙ its_group i n b is before in
        let group : x.group ≡ group_at run i = cc in group;
  }

  pub placed_blocks : (n i b : ℕ) → i < n → Grants run i b → Lives run n b
      → Any (IsBlock run n i b) (machine_at run n).layout.blocks
  placed_blocks n i b before is lives =
      let alive_is : Alive (heap_of (machine_at run n)).lives b = life_at n b lives in
      let s = standing_at n b alive_is in
      any_in (IsBlock run n i b) (machine_at run n).layout.blocks s.block s.one
      (is_block n i b alive_is.life s.block before is alive_is.there s.stands)

  pub named_blocks : (n : ℕ) → All (IsNamed run n) (machine_at run n).layout.blocks
  named_blocks n = in_all (IsNamed run n) (machine_at run n).layout.blocks (λ x one.
      let its = (holds_at n).named x one in
      let lives : Lives run n its.name = ap lives_in its.there ∙ its.live in
      let grant = lives_granted n its.name lives in
      record {
        block = its.name;
        turn = grant.0;
        before = grant.1;
        granted = grant.2;
        lives = lives;
        is = is_block n grant.0 its.name its.life x grant.1 grant.2 its.there its.stands;
      })
