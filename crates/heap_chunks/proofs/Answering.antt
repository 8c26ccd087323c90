-- A block's answer and its row, and a block in its group's current chunk.
use Rattle.std.proofs.Common.{◌≡◌, ℕ, ◌+◌, ◌*◌, ◌^◌, ◌<◌, ◌≤◌, refl, ap, true, arith}
use Rattle.plan_core.specs.declared.types.Area.{Area}
use Rattle.plan_core.specs.Plan.{granules}
use Rattle.frag_code.specs.Meaning.{View, put}
use Rattle.frag_code.specs.Meaning.{frag_run}
use Rattle.frag_code.specs.Ends.{Ends}
use Rattle.frag_code.proofs.Rules.{view, seq_ends, skip_ends, compute_then, imm_then, store_then}
use Rattle.frag_rules.proofs.Values.{add_is, shift_is, times_8, plus_is}
use Rattle.frag_rules.proofs.Spans.{in_span_yes}
use Rattle.place_spec.specs.Layout.{chunk_size, chunk_front}
use Rattle.heap_spec.specs.Places.{rows_at, granule_row, tables_end}
use Rattle.heap_chunks.specs.Chunks.{answer_block}
use Rattle.heap_chunks.specs.Results.{HasRoom, table_rights}
use Rattle.heap_chunks.proofs.Sums.{Gives, plus_ends}

-- the block's granule is answered, and its row has its length
pub record Answered (area : Area) (data_at granule need : ℕ) (m : ℕ → ℕ) (most : ℕ) (s : View) : Type 0 where
  pub granule_is : s.registers 15 ≡ granule
  pub memory : s.memory ≡ put m (granule_row area data_at granule) need
  pub spent : s.spent ≤ most

module _ (area : Area) (data_at : ℕ) (room : HasRoom area data_at) where
  -- a word of the tables
  pub may : (a : ℕ) → data_at ≤ a → a < tables_end area data_at → (table_rights area data_at).reads a ≡ true
  may a l h = in_span_yes data_at (tables_end area data_at) a l h

  pub answer_ends : (w : ℕ) (r m : ℕ → ℕ) (c k bump granule need : ℕ) → r 7 ≡ k → r 29 ≡ bump → r 10 ≡ need
      → r 11 ≡ rows_at area data_at
      → granule ≡ chunk_front area k + bump → granule < granules area → need < 2 ^ 32
      → Ends (frag_run (table_rights area data_at) (answer_block area) w (view r m c))
      (Answered area data_at granule need m (c + 21))
  answer_ends w r m c k bump granule need r7 r29 r10 r11 where_is low small =
      let al = room.aligned in
      let few = room.granules in
      let log = room.log_chunk in
      let end = room.end in
      let size : k * chunk_size area ≤ granule = omega (arith, where_is) in
      imm_then _ _ _ _ _ _ _ _ _ _ _ (k * chunk_size area)
      (shift_is _ _ area.log_chunk (k * chunk_size area) (omega (arith, log)) (omega (arith, log))
      (ap (λ x. x * chunk_size area) r7)
      (omega (arith, size, low, few)))
      (compute_then _ _ _ _ _ _ _ _ _ _ _ (k * chunk_size area + bump)
      (add_is _ _ _ (omega (arith, r29)) (omega (arith, where_is, low, few)))
      (seq_ends _ _ _ _ _ _ _ _ (Gives 15 28 granule _ m (c + 3 + 3 + 6))
      (plus_ends _ w _ m (c + 3 + 3) 15 7 28 area.fallback granule refl refl (omega (arith, where_is))
      (omega (arith, low, few)))
      (λ r' m' c' p. let i = p.is in
      let e10 : r' 10 ≡ r 10 = p.others 10 refl refl in
      let e11 : r' 11 ≡ r 11 = p.others 11 refl refl in
      let sp = p.spent in
      imm_then _ _ _ _ _ _ _ _ _ _ _ (8 * granule) (times_8 _ _ (omega (arith, i)) (omega (arith, low, few)))
      (compute_then _ _ _ _ _ _ _ _ _ _ _ (granule_row area data_at granule)
      (add_is _ _ _ (omega (arith, e11, r11)) (omega (arith, low, end)))
      (store_then _ _ _ _ _ _ _ _ _ _ (granule_row area data_at granule) need
      (plus_is _ _ _ (omega arith) (omega (arith, low, end)))
      (omega (arith, al)) (may (granule_row area data_at granule) (omega arith) (omega (arith, low)))
      (omega (arith, e10, r10, small))
      (skip_ends _ _ _ _ _ _ (record {
        granule_is = i;
        memory = ap (λ f. put f (granule_row area data_at granule) need) p.memory;
        spent = omega (arith, sp);
      })))))))
