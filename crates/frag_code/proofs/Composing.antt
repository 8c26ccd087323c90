-- Runs one after the other: what stands before a run stands after it, and its end is the next one's start.
use Rattle.std.proofs.Common.{◌≡◌, ℕ, ◌+◌, ◌^◌, ◌%◌, List, [], ◌∷◌, Bool, true, false, ◌&&◌, cond, map, refl, ap, sym}
use Rattle.std.proofs.Common.{◌∙◌, arith, inl, inr}
use Rattle.std.specs.Prelude.{Some, None, is_some, ◌==◌}
use Rattle.rv_isa.specs.declared.Width.TheVariants.{Word}
use Rattle.machine_spec.specs.Memory.{Range, shape_of}
use Rattle.machine_spec.specs.Widths.{number_of, low_bytes}
use Rattle.flat_spec.specs.Stores.{stored, can_store, bytes_from, put_bytes}
use Rattle.flat_spec.specs.Machine.{Machine}
use Rattle.flat_spec.specs.Runs.{steps}
use Rattle.flat_spec.proofs.Memories.{same_writable}
use Rattle.flat_spec.proofs.Pieces.{bytes_from_same, storable_same}
use Rattle.frag_code.specs.Meaning.{View, Rights}
use Rattle.frag_code.specs.Machines.{StandsAt, HasRights, IsWordKept, Arrives}
use Rattle.flat_spec.proofs.Runs.{more_steps}
use Rattle.frag_code.proofs.Steps.{state}
use Rattle.frag_code.proofs.OnWay.{code_stays}
use Rattle.frag_code.proofs.Stores.{load_is, low_of_word, number_of_low}

-- memories of one shape give the same rights
same_stored : (m n : List Range) (a : ℕ) → map shape_of m ≡ map shape_of n
    → is_some (stored m Word a 0) ≡ is_some (stored n Word a 0)
unfolding stored
same_stored m n a e = rw (storable_same m n a 4 e) (by ((a % 4 == 0) && can_store n a 4))
  where
    by : (v : Bool) → is_some (cond v (Some (put_bytes m a (low_bytes 4 0))) None)
        ≡ is_some (cond v (Some (put_bytes n a (low_bytes 4 0))) None)
    by true = refl
    by false = refl

pub same_rights : (m n : List Range) (g : Rights) → map shape_of m ≡ map shape_of n → HasRights n g → HasRights m g
same_rights m n g e given a aligned may = (same_stored m n a e ∙ (given a aligned may).0, (given a aligned may).1)

-- code stands where it stood
pub code_stands : (g : Rights) (s : View) (before after : List Range) → HasRights before g
    → ((a : ℕ) → a % 4 ≡ 0 → IsWordKept g s before after a)
    → map shape_of after ≡ map shape_of before → (at : ℕ) (ws : List ℕ) → StandsAt before at ws → StandsAt after at ws
code_stands g s before after given bytes shape at [] h = tt
code_stands g s before after given bytes shape at (w ∷ ws) h = (
  (
    code_stays g s before after given bytes (at % 2 ^ 32) w shape h.0,
    λ k low high. same_writable after before k shape
        ∙ h.0.1 k low high,
  ),
  code_stands g s before after given bytes shape (at + 4) ws h.1,
)

-- two runs are one
pub arrives_then : (g : Rights) (s t : View) (place place' most most' : ℕ) (m : Machine) (input output : List ℕ)
    → HasRights m.memory g
    → (r : Arrives g s place most m input output) → Arrives g t place' most' r.after input output
    → Arrives g t place' (most' + most) m input output
arrives_then g s t place place' most most' m input output given r n = record {
  after = n.after;
  count = n.count + r.count;
  within = omega (arith, n.within, r.within);
  run = more_steps n.count r.count (state m input output) ∙ (ap (steps n.count) r.run ∙ n.run);
  running = n.running;
  there = n.there;
  shows = n.shows;
  others = λ k free. n.others k free ∙ r.others k free;
  long = n.long;
  shape = n.shape ∙ r.shape;
  bytes = λ a aligned. by a aligned (n.bytes a aligned) (r.bytes a aligned);
  rights = n.rights;
  stands = λ at ws h. n.stands at ws (r.stands at ws h);
}
  where
    by : (a : ℕ) → a % 4 ≡ 0 → IsWordKept g t r.after.memory n.after.memory a → IsWordKept g s m.memory r.after.memory a
        → IsWordKept g t m.memory n.after.memory a
    by a aligned (inl same) (inl first) = inl (λ k low high. same k low high ∙ first k low high)
    by a aligned (inl same) (inr kept) =
        let bytes : bytes_from n.after.memory a 4 ≡ Some (low_bytes 4 (s.memory a)) =
        bytes_from_same n.after.memory r.after.memory a 4 same ∙ kept.1 in
        let number : Some (number_of (low_bytes 4 (s.memory a))) ≡ Some (t.memory a) =
        sym (load_is n.after.memory a (low_bytes 4 (s.memory a)) aligned bytes)
        ∙ n.shows.words a aligned (given a aligned kept.0).1 in
        let word : number_of (low_bytes 4 (s.memory a)) ≡ t.memory a = cc in
        inr (
          kept.0,
          bytes ∙ ap (λ x. Some x) (low_of_word (s.memory a)
              ∙ ap (low_bytes 4) (sym (number_of_low (s.memory a)) ∙ word)),
        )
    by a aligned (inr kept) first = inr kept
