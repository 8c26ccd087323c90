-- The first two rules together.
use Rattle.std.proofs.Common.{◌≡◌, ℕ, ◌+◌, ◌*◌, ◌^◌, ◌<◌, ◌≤◌, Bool, true, false, cond, refl, ap, sym, ◌∙◌, subst}
use Rattle.std.proofs.Common.{arith}
use Rattle.std.specs.Prelude.{Option, Some, None, nat_le, option_and_then}
use Rattle.std.specs.Option.{option_or}
use Rattle.std.proofs.lemmas.Bool.Decides.{nat_tests}
use Rattle.rv_isa.specs.declared.Cond.TheVariants.{Eq}
use Rattle.plan_core.specs.declared.types.Area.{Area}
use Rattle.plan_core.specs.Plan.{granules}
use Rattle.place_spec.specs.declared.parts.Spot.{Spot}
use Rattle.place_spec.specs.declared.parts.Spot.TheVariants.{Current}
use Rattle.place_spec.specs.Layout.{Layout, current_of, chunk_of, chunk_size}
use Rattle.place_spec.specs.Place.{current_spot, fresh_spot}
use Rattle.place_spec.proofs.Fronts.{front_next, front_end}
use Rattle.place_spec.proofs.SoundParts.{Parts, parts}
use Rattle.heap_spec.specs.Places.{current_row, chunk_row, rows_at}
use Rattle.heap_spec.specs.Tables.{Spells, none_word, word_or_none}
use Rattle.frag_code.specs.Fragments.{If, Load, Seq}
use Rattle.frag_code.specs.Meaning.{View, put, frag_run}
use Rattle.frag_code.specs.Ends.{Ends}
use Rattle.frag_code.proofs.Rules.{view, ends_so, seq_ends, skip_ends, compute_ends, imm_then, compute_then, load_then}
use Rattle.frag_code.proofs.Rules.{if_ends, if_taken, if_other}
use Rattle.frag_rules.proofs.Values.{add_is, times_16, plus_is, eq_yes, eq_no, ltu_true, ltu_false}
use Rattle.heap_chunks.specs.Chunks.{place_fresh, place_owned}
use Rattle.heap_chunks.specs.Results.{HasRoom, Settled, table_rights, Tried, chunk_spot, PlacesHigh}
use Rattle.heap_chunks.proofs.Sums.{Gives, constant_ends}
use Rattle.heap_chunks.proofs.Answering.{may}
use Rattle.heap_chunks.proofs.Currents.{PlacedAt, current_ends}
use Rattle.heap_chunks.proofs.Owning.{Result, fresh_ends}

not_le : (a b : ℕ) → b < a → nat_le a b ≡ false
not_le a b l = grind (arith, nat_tests)

is_le : (a b : ℕ) → a ≤ b → nat_le a b ≡ true
is_le a b l = grind (arith, nat_tests)

module _ (area : Area) (data_at : ℕ) (room : HasRoom area data_at) (layout : Layout) (need group : ℕ)
    (p : Parts area layout)
    (small : group < 16) (some : 1 ≤ need) (fits : need ≤ chunk_size area) where
  -- what the rules choose behind the first
  abbrev then_fresh : Option Spot → Option Spot
  then_fresh o = option_or o (fresh_spot layout group)

  no_current : current_of layout group ≡ None → current_spot area layout need group ≡ None
  no_current e = ap (option_and_then
      (λ k. cond (nat_le ((chunk_of layout k).bump + need) (chunk_size area)) (Some (Current k)) None)) e

  in_current : (k : ℕ) → current_of layout group ≡ Some k → (t : Bool)
      → nat_le ((chunk_of layout k).bump + need) (chunk_size area) ≡ t
      → current_spot area layout need group ≡ cond t (Some (Current k)) None
  in_current k e t u =
      ap (option_and_then (λ k. cond (nat_le ((chunk_of layout k).bump + need) (chunk_size area))
      (Some (Current k)) None)) e
      ∙ ap (λ t. cond t (Some (Current k)) None) u

  -- the registers at chunk k
  abbrev at_chunk : (ℕ → ℕ) → ℕ → ℕ → ℕ
  at_chunk r k =
      put (put (put (put r 6 (16 * k)) 6 (data_at + 16 * k)) 29 (chunk_of layout k).bump) 30
      ((chunk_of layout k).bump + need)

  owned_ends : (w : ℕ) (r m : ℕ → ℕ) (c k : ℕ) → current_of layout group ≡ Some k → k < area.chunks
      → Spells area data_at m layout
      → Settled area data_at r → r 7 ≡ k → r 10 ≡ need → r 14 ≡ current_row data_at group → r 28 ≡ chunk_size area
      → area.chunks ≤ w
      → Ends (frag_run (table_rights area data_at) (place_owned area) w (view r m c))
      (Result area data_at layout need group m (c + 12 * area.chunks + 84)
      (then_fresh (current_spot area layout need group)))
  owned_ends w r m c k current within s settled r7 r10 r14 r28 few =
      let al = room.aligned in
      let end = room.end in
      let most = room.granules in
      let r12 = settled.tables in
      let row : ℕ = chunk_row data_at k in
      let l : row + 16 ≤ rows_at area data_at = omega (arith, within) in
      let bump = (p.keeps k within).bumps in
      let size : chunk_size area ≤ 2 ^ 20 =
      (let e = front_end area k within in let n = front_next area k in omega (arith, e, n, most)) in
      imm_then _ _ _ _ _ _ _ _ _ _ _ (16 * k) (times_16 _ _ (omega (arith, r7)) (omega (arith, l, end)))
      (compute_then _ _ _ _ _ _ _ _ _ _ _ (data_at + 16 * k) (add_is _ _ _ (omega (arith, r12)) (omega (arith, l, end)))
      (load_then _ _ _ _ _ _ _ _ _ _ (row + 4) (chunk_of layout k).bump
      (plus_is _ _ _ (omega arith) (omega (arith, l, end))) (omega (arith, al))
      (may area data_at room (row + 4) (omega arith) (omega (arith, l))) (s.chunks k within).bump
      (compute_then _ _ _ _ _ _ _ _ _ _ _ ((chunk_of layout k).bump + need)
      (add_is _ _ _ (omega (arith, r10)) (omega (arith, bump, fits, size)))
      (seq_ends _ _ _ _ _ _ _ _
      (Result area data_at layout need group m (c + 12 * area.chunks + 84)
      (then_fresh (current_spot area layout need group)))
      (if_ends _ _ _ _ _ _ _ _ _ _ _
      (λ h. let full : chunk_size area < (chunk_of layout k).bump + need = subst
      (λ x. x < (chunk_of layout k).bump + need) r28 (ltu_true _ _ h) in
      let o : current_spot area layout need group ≡ None = in_current k current false
      (not_le ((chunk_of layout k).bump + need) (chunk_size area) full) in
      ends_so _ (Result area data_at layout need group m (c + 3 + 3 + 3 + 3 + 3 + 12 * area.chunks + 69)
      (fresh_spot layout group)) _
      (λ t q. subst (λ o. Result area data_at layout need group m (c + 12 * area.chunks + 84) (then_fresh o) t)
      (sym o)
      (q.0, let sp = q.1 in omega (arith, sp)))
      (fresh_ends area data_at room layout need group p (omega (arith, within)) small some fits w
      (at_chunk r k) m (c + 3 + 3 + 3 + 3 + 3) s
      (record { none = settled.none; tables = settled.tables; rows = settled.rows }) r10 r14 few))
      (λ h. let room_left : (chunk_of layout k).bump + need ≤ chunk_size area = subst
      (λ x. (chunk_of layout k).bump + need ≤ x) r28 (ltu_false _ _ h) in
      let o : current_spot area layout need group ≡ Some (Current k) =
      in_current k current true (is_le ((chunk_of layout k).bump + need) (chunk_size area) room_left) in
      ends_so _ (PlacedAt area data_at layout need group (Current k) (c + 3 + 3 + 3 + 3 + 3 + 33)) _
      (λ t q. subst (λ o. Result area data_at layout need group m (c + 12 * area.chunks + 84) (then_fresh o) t)
      (sym o)
      ((q.granule_is, q.spells), let sp = q.spent in omega (arith, sp)))
      (current_ends area data_at room layout need group k p within current small some room_left w
      (at_chunk r k) m (c + 3 + 3 + 3 + 3 + 3) s refl r7 refl refl r10 settled.rows)))
      (λ r' m' c' h. skip_ends _ _ _ _ _ _ h)))))

  -- with a need that a chunk can hold
  fitting_ends : (w : ℕ) (r m : ℕ → ℕ) (c : ℕ) → Spells area data_at m layout → Settled area data_at r → r 10 ≡ need
      → r 14 ≡ current_row data_at group → r 28 ≡ chunk_size area → 0 < area.chunks → area.chunks ≤ w
      → Ends (frag_run (table_rights area data_at)
      (Seq (Load 7 14 0) (If Eq 7 31 (place_fresh area) (place_owned area))) w (view r m c))
      (Result area data_at layout need group m (c + 12 * area.chunks + 90)
      (then_fresh (current_spot area layout need group)))
  fitting_ends w r m c s settled r10 r14 r28 some_chunk few =
      let al = room.aligned in
      let end = room.end in
      load_then _ _ _ _ _ _ _ _ _ _ (current_row data_at group) (word_or_none (current_of layout group))
      (plus_is _ _ _ (omega (arith, r14)) (omega (arith, small, end))) (omega (arith, al))
      (may area data_at room (current_row data_at group) (omega arith) (omega (arith, small)))
      (s.currents group small) (by (current_of layout group) refl)
    where
      settled' : (x : ℕ) → Settled area data_at (put r 7 x)
      settled' x = record { none = settled.none; tables = settled.tables; rows = settled.rows }

      by : (o : Option ℕ) → current_of layout group ≡ o
          → Ends (frag_run (table_rights area data_at) (If Eq 7 31 (place_fresh area) (place_owned area)) w
          (view (put r 7 (word_or_none o)) m (c + 3)))
          (Result area data_at layout need group m (c + 12 * area.chunks + 90)
          (then_fresh (current_spot area layout need group)))
      by None e =
          let n31 = settled.none in
          if_taken _ _ _ _ _ _ _ _ _ _ _ (eq_yes _ _ (sym n31))
          (ends_so _ (Result area data_at layout need group m (c + 3 + 3 + 12 * area.chunks + 69)
          (fresh_spot layout group)) _
          (λ t q. subst (λ o. Result area data_at layout need group m (c + 12 * area.chunks + 90) (then_fresh o) t)
          (sym (no_current e))
          (q.0, let sp = q.1 in omega (arith, sp)))
          (fresh_ends area data_at room layout need group p some_chunk small some fits w (put r 7 none_word) m
          (c + 3 + 3) s (settled' none_word) r10 r14 few))
      by (Some k) e =
          let n31 = settled.none in
          let within = (p.currents group k e).0 in
          let chunks = room.chunks in
          if_other _ _ _ _ _ _ _ _ _ _ _ (eq_no _ _ (λ q. omega (arith, q, n31, within, chunks)))
          (ends_so _ (Result area data_at layout need group m (c + 3 + 3 + 12 * area.chunks + 84)
          (then_fresh (current_spot area layout need group))) _
          (λ t q. (q.0, let sp = q.1 in omega (arith, sp)))
          (owned_ends w (put r 7 k) m (c + 3 + 3) k e within s (settled' k) refl r10 r14 r28 few))

pub high_ends : (area : Area) (data_at : ℕ) → HasRoom area data_at → 0 < area.chunks → PlacesHigh area data_at
high_ends area data_at room some_chunk w layout need group s sound spells settled r10 some word r14 small few =
    seq_ends _ _ _ _ _ _ _ _ (Gives 28 28 (chunk_size area) s.registers s.memory (s.spent + 6))
    (constant_ends _ w s.registers s.memory s.spent 28 (chunk_size area) (omega (arith, size, most)))
    (λ r' m' c' q. let r28 = q.is in
    let e10 : r' 10 ≡ need = q.others 10 refl refl ∙ r10 in
    let sp = q.spent in
    seq_ends _ _ _ _ _ _ _ _ Want
    (if_ends _ _ _ _ _ _ _ _ _ _ _
    (λ h. let large : chunk_size area < need = subst (λ x. chunk_size area < x) e10
    (subst (λ x. x < r' 10) r28 (ltu_true _ _ h)) in
    let e31 : r' 31 ≡ none_word = q.others 31 refl refl ∙ settled.none in
    compute_ends _ _ _ _ _ _ _ _ _ _ none_word (add_is _ _ none_word (omega (arith, e31)) (omega arith))
    (subst (λ o. Result area data_at layout need group s.memory (s.spent + 12 * area.chunks + 128) o
    (view (put r' 15 none_word) m' (c' + 3 + 3)))
    (sym (too_large (not_le need (chunk_size area) large)))
    ((refl, q.memory), omega (arith, sp))))
    (λ h. let fits : need ≤ chunk_size area = subst (λ x. x ≤ chunk_size area) e10
    (subst (λ x. r' 10 ≤ x) r28 (ltu_false _ _ h)) in
    ends_so _ (Result area data_at layout need group m' (c' + 3 + 12 * area.chunks + 90)
    (option_or (current_spot area layout need group) (fresh_spot layout group))) _
    (λ t z. subst (λ o. Result area data_at layout need group s.memory (s.spent + 12 * area.chunks + 128) o t)
    (sym (rules (is_le need (chunk_size area) fits))) (
      subst (λ f. Tried area data_at layout need group f
          (option_or (current_spot area layout need group) (fresh_spot layout group)) t) q.memory z.0,
      let zs = z.1 in omega (arith, zs, sp),
    ))
    (fitting_ends area data_at room layout need group (parts area layout sound) small some fits w r' m' (c' + 3)
    (subst (λ f. Spells area data_at f layout) (sym q.memory) spells)
    (record {
      none = q.others 31 refl refl ∙ settled.none;
      tables = q.others 12 refl refl
          ∙ settled.tables;
      rows = q.others 11 refl refl ∙ settled.rows;
    })
    e10 (q.others 14 refl refl ∙ r14) r28 some_chunk few)))
    (λ r'' m'' c'' h. skip_ends _ _ _ _ _ _ h))
  where
    most : granules area ≤ 1048576
    most = room.granules

    size : chunk_size area ≤ granules area
    size = let e = front_end area 0 some_chunk in let n = front_next area 0 in omega (arith, e, n)

    Want : View → Type 0
    Want = Result area data_at layout need group s.memory (s.spent + 12 * area.chunks + 128)
        (chunk_spot area layout need group)

    too_large : nat_le need (chunk_size area) ≡ false → chunk_spot area layout need group ≡ None
    too_large e = rw e refl

    rules : nat_le need (chunk_size area) ≡ true
        → chunk_spot area layout need group ≡ option_or (current_spot area layout need group) (fresh_spot layout group)
    rules e = rw e refl
