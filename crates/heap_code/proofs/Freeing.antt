-- A block is released, whether it stands in the fallback or in a chunk.
use Rattle.std.proofs.Common.{◌≡◌, ℕ, ◌+◌, ◌*◌, ◌^◌, ◌<◌, ◌≤◌, ◌⊎◌, ◌==◌, cond, Bool, true, false, [], ◌∷◌, length}
use Rattle.std.proofs.Common.{refl, sym, ◌∙◌, ap, subst, inl, inr, arith}
use Rattle.std.specs.Prelude.{Some}
use Rattle.std.proofs.lemmas.Bool.{cases_lt, eqb-true}
use Rattle.rv_isa.specs.declared.Op.TheVariants.{Add, Sll}
use Rattle.rv_isa.specs.declared.Cond.TheVariants.{Ltu}
use Rattle.plan_core.specs.declared.types.Area.{Area}
use Rattle.place_spec.specs.Layout.{Block, Layout}
use Rattle.place_spec.specs.Release.{block_at, released}
use Rattle.place_spec.specs.Sound.{Sound}
use Rattle.place_spec.proofs.Blocks.{each_found}
use Rattle.place_spec.proofs.SoundParts.{Stands, parts}
use Rattle.heap_spec.specs.Places.{rows_at, granule_row, tables_end}
use Rattle.heap_spec.specs.Tables.{Spells}
use Rattle.frag_code.specs.Ends.{Ends}
use Rattle.frag_code.specs.Fragments.{If, Seq, Skip, Imm, Compute, chained}
use Rattle.frag_code.specs.Meaning.{View, Rights, put, frag_run}
use Rattle.frag_code.proofs.Rules.{view, ends_so, imm_then, compute_then, if_taken, if_other, seq_ends, skip_ends}
use Rattle.frag_rules.specs.Rights.{one_span}
use Rattle.frag_rules.proofs.Values.{add_is, times_8, ltu_yes, ltu_no}
use Rattle.heap_holes.specs.Releasing.{release_low, ReleaseLowReleases}
use Rattle.heap_chunks.specs.Chunks.{release_high}
use Rattle.heap_chunks.specs.Constants.{constant}
use Rattle.heap_chunks.specs.Results.{HasRoom, ReleasesHigh}
use Rattle.heap_chunks.proofs.Sums.{Gives, constant_ends, plus_ends}
use Rattle.heap_code.specs.Pieces.{free_low, free_block}

module _ (area : Area) (data_at : ℕ) (room : HasRoom area data_at) (low : ReleaseLowReleases area data_at)
    (high : ReleasesHigh area data_at)
    (w : ℕ) (layout : Layout) (b : Block) (sound : Sound area layout) (found : block_at layout b.first ≡ Some b)
    (m : ℕ → ℕ) (spells : Spells area data_at m layout) (enough : length layout.holes ≤ w) where
  abbrev g : Rights
  g = one_span data_at (tables_end area data_at)

  -- the layout after it, and the cost
  abbrev pub Freed : (most : ℕ) → View → Type 0
  Freed most t = Spells area data_at t.memory (released area layout b.first) × (t.spent ≤ most)

  stands : Stands area layout b
  stands = each_found (Stands area layout) (λ x. x.first == b.first) b layout.blocks
      found (parts area layout sound).blocks

  low_ends : (r : ℕ → ℕ) (c most : ℕ) → b.first < area.fallback → r 10 ≡ b.first
      → r 12 ≡ data_at → c + 6 * area.fallback + 102 ≤ most
      → Ends (frag_run g (free_low area) w (view r m c)) (Freed most)
  low_ends r c most in_low given tables le =
      let end = room.end in
      let i = stands.inside in
      let p = stands.filled in
      seq_ends _ _ _ _ _ _ _ _ (Gives 11 11 (rows_at area data_at) r m (c + 6))
      (plus_ends g w r m c 11 12 11 (128 + 16 * area.chunks) (rows_at area data_at)
      refl refl (omega (arith, tables)) (omega (arith, end, i, p)))
      (λ r' m' c' q.
      let base = q.is in
      let given' = q.others 10 refl refl in
      let tables' = q.others 12 refl refl in
      let cost = q.spent in
      subst (λ x. Ends (frag_run g (Seq (Imm Sll 7 10 3) (Seq (Compute Add 7 7 11) (Seq release_low Skip)))
      w (view r' x c')) (Freed most)) (sym q.memory)
      (imm_then _ _ _ _ _ _ _ _ _ _ _ (8 * b.first)
      (times_8 (r' 10) (8 * b.first) (omega (arith, given, given')) (omega (arith, end, i, p)))
      (compute_then _ _ _ _ _ _ _ _ _ _ _ (granule_row area data_at b.first)
      (add_is (8 * b.first) (r' 11) (granule_row area data_at b.first)
      (omega (arith, base)) (omega (arith, end, i, p)))
      (seq_ends _ _ _ _ _ _ _ _ (Freed most)
      (ends_so _ _ (Freed most) (λ t k. (k.0, let u = k.1 in omega (arith, u, cost, le)))
      (low w layout b (view (put (put r' 7 (8 * b.first)) 7 (granule_row area data_at b.first)) m (c' + 3 + 3))
      sound found in_low spells
      (record { given = given' ∙ given; row = refl; rows = base; tables = tables' ∙ tables }) enough))
      (λ r2 m2 c2 k. skip_ends _ _ _ _ _ _ k)))))

  high_ends : (r : ℕ → ℕ) (c most : ℕ) → area.fallback ≤ b.first → r 10 ≡ b.first → r 12 ≡ data_at → c + 60 ≤ most
      → Ends (frag_run g (release_high area) w (view r m c)) (Freed most)
  high_ends r c most in_high given tables le =
      ends_so _ _ (Freed most) (λ t k. (k.0, let u = k.1 in omega (arith, u, le)))
      (high w layout b (view r m c) sound spells tables given found in_high)

  pub frees_block : (r : ℕ → ℕ) (c : ℕ) → r 10 ≡ b.first → r 12 ≡ data_at
      → Ends (frag_run g (free_block area) w (view r m c)) (Freed (c + 6 * area.fallback + 120))
  frees_block r c given tables = by (area.fallback == 0) refl (area.chunks == 0) refl
    where
      both : Ends (frag_run g (chained (constant 7 area.fallback ∷ If Ltu 10 7 (free_low area) (release_high area)
          ∷ [])) w (view r m c)) (Freed (c + 6 * area.fallback + 120))
      both =
          let small = room.granules in
          seq_ends _ _ _ _ _ _ _ _ (Gives 7 7 area.fallback r m (c + 6))
          (constant_ends g w r m c 7 area.fallback (omega (arith, small)))
          (λ r' m' c' q.
          let limit = q.is in
          let given' = q.others 10 refl refl ∙ given in
          let tables' = q.others 12 refl refl ∙ tables in
          let cost = q.spent in
          subst (λ x. Ends (frag_run g (Seq (If Ltu 10 7 (free_low area) (release_high area)) Skip) w (view r' x c'))
          (Freed (c + 6 * area.fallback + 120))) (sym q.memory)
          (seq_ends _ _ _ _ _ _ _ _ (Freed (c + 6 * area.fallback + 120))
          (at r' c' limit given' tables' cost (cases_lt b.first area.fallback))
          (λ r2 m2 c2 k. skip_ends _ _ _ _ _ _ k)))
        where
          at : (r' : ℕ → ℕ) (c' : ℕ) → r' 7 ≡ area.fallback → r' 10 ≡ b.first
              → r' 12 ≡ data_at → c' ≤ c + 6 → (b.first < area.fallback) ⊎ (area.fallback ≤ b.first)
              → Ends (frag_run g (If Ltu 10 7 (free_low area) (release_high area)) w (view r' m c'))
              (Freed (c + 6 * area.fallback + 120))
          at r' c' limit given' tables' cost (inl l) =
              if_taken _ _ _ _ _ _ _ _ _ _ _ (ltu_yes (r' 10) (r' 7) (omega (arith, limit, given', l)))
              (low_ends r' (c' + 3) (c + 6 * area.fallback + 120) l given' tables' (omega (arith, cost)))
          at r' c' limit given' tables' cost (inr l) =
              if_other _ _ _ _ _ _ _ _ _ _ _ (ltu_no (r' 10) (r' 7) (omega (arith, limit, given', l)))
              (high_ends r' (c' + 3) (c + 6 * area.fallback + 120) l given' tables' (omega (arith, cost)))

      by : (t : Bool) → (area.fallback == 0) ≡ t → (u : Bool) → (area.chunks == 0) ≡ u
          → Ends (frag_run g (cond t (release_high area)
          (cond u (free_low area) (chained (constant 7 area.fallback
          ∷ If Ltu 10 7 (free_low area) (release_high area) ∷ [])))) w (view r m c))
          (Freed (c + 6 * area.fallback + 120))
      by true e u f = let z : area.fallback ≡ 0 = eqb-true area.fallback 0 e in
          high_ends r c (c + 6 * area.fallback + 120) (omega (arith, z)) given tables (omega arith)
      by false e true f =
          let z : area.chunks ≡ 0 = eqb-true area.chunks 0 f in
          let i = stands.inside in
          let p = stands.filled in
          let nothing : 0 * 2 ^ area.log_chunk ≡ 0 = omega arith in
          let none : area.chunks * 2 ^ area.log_chunk ≡ 0 = ap (λ k. k * 2 ^ area.log_chunk) z ∙ nothing in
          low_ends r c (c + 6 * area.fallback + 120) (omega (arith, i, p, none)) given tables (omega arith)
      by false e false f = both
