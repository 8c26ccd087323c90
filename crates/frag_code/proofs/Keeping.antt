-- The code of a formed fragment keeps its meaning.
use Rattle.std.proofs.Common.{◌≡◌, ℕ, zero, suc, ◌+◌, ◌-◌, ◌*◌, ◌%◌, ◌<◌, List, ◌∷◌, true, length, refl, ◌∙◌, subst}
use Rattle.std.proofs.Common.{arith, inl}
use Rattle.std.specs.Prelude.{Option, Some, None, option_map, option_and_then, is_some, unwrap_or}
use Rattle.std.proofs.lemmas.List.{length-map}
use Rattle.rv_isa.specs.declared.Width.TheVariants.{Word}
use Rattle.rv_isa.specs.declared.Instr.{Instr}
use Rattle.rv_isa.specs.Encoded as words
use Rattle.rv_isa.specs.Encoded.{encoded}
use Rattle.rv_isa.specs.Table.{decoded}
use Rattle.machine_spec.specs.Memory.{Range, range_at, byte_of}
use Rattle.machine_spec.proofs.AllFrom.{and_first, and_second}
use Rattle.flat_spec.specs.Stores.{loaded, allows_store, can_store, bytes_from}
use Rattle.flat_spec.specs.Machine.{Machine, register}
use Rattle.flat_spec.proofs.Memories.{byte_there}
use Rattle.flat_spec.proofs.Pieces.{writable_there}
use Rattle.frag_code.specs.Fragments.{Fragment}
use Rattle.frag_code.specs.Forms.{IsFormed}
use Rattle.frag_code.specs.Code.{instructions_of, code_of}
use Rattle.frag_code.specs.Meaning.{read}
use Rattle.frag_code.specs.Machines.{HasRights, Shows, view_of, rights_of, Arrives, behind_code, RunsAs, RunsAsShown}
use Rattle.frag_code.proofs.OnWay.{OnWay, stored_storable}
use Rattle.frag_code.proofs.Stores.{load_is}
use Rattle.frag_code.proofs.Composing.{same_rights, code_stands}
use Rattle.frag_code.proofs.Acts.{Gets, acts}

-- where bytes can be stored, bytes are
bytes_there : (memory : List Range) (a n : ℕ) → can_store memory a n ≡ true → is_some (bytes_from memory a n) ≡ true
bytes_there memory a zero h = refl
bytes_there memory a (suc n) h =
    both (byte_of memory a) (bytes_from memory (a + 1) n)
    (byte_there memory a ∙ writable_there memory a (and_first (allows_store (range_at memory a))
    (can_store memory (a + 1) n) h))
    (bytes_there memory (a + 1) n (and_second (allows_store (range_at memory a)) (can_store memory (a + 1) n) h))
  where
    both : (o : Option ℕ) (r : Option (List ℕ)) → is_some o ≡ true → is_some r ≡ true
        → is_some (option_and_then (λ b. option_map (λ bs. b ∷ bs) r) o) ≡ true
    both (Some b) (Some bs) p q = refl
    both (Some b) None p q = absurd (cc)
    both None r p q = absurd (cc)

word_there : (memory : List Range) (a : ℕ) → a % 4 ≡ 0 → can_store memory a 4 ≡ true
    → is_some (loaded memory Word a) ≡ true
word_there memory a aligned h = at (bytes_from memory a 4) refl (bytes_there memory a 4 h)
  where
    at : (o : Option (List ℕ)) → bytes_from memory a 4 ≡ o → is_some o ≡ true → is_some (loaded memory Word a) ≡ true
    at (Some bs) e h = rw (load_is memory a bs aligned e) refl
    at None e h = absurd (cc)

-- a machine shows its whole view under all rights that its memory gives
pub rights_all : (memory : List Range) → HasRights memory (rights_of memory)
rights_all memory a aligned h = (h, word_there memory a aligned (stored_storable memory a 0 h))

pub shows_all : (m : Machine) → Shows (rights_of m.memory) (view_of m) m
shows_all m = record { registers = registers; words = λ a aligned h. at (loaded m.memory Word a) h }
  where
    registers : (r : ℕ) → r < 32 → register m r ≡ read (register m) r
    registers zero small = refl
    registers (suc r) small = refl

    at : (o : Option ℕ) → is_some o ≡ true → o ≡ Some (unwrap_or o 0)
    at (Some v) h = refl
    at None h = absurd (cc)

module _ (decodes : (i : Instr) → words.IsFormed i → decoded (encoded i) ≡ Some i) (f : Fragment) (formed : IsFormed f)
  where
    pub runs_shown : RunsAsShown f (code_of f)
    runs_shown g w before s m input output begins given shows run =
        let long : length (code_of f) ≡ length (instructions_of f) = length-map (instructions_of f) encoded in
        let way : OnWay g m m.pc before m = record {
          running = begins.running;
          there = omega (arith, begins.place);
          long = begins.long;
          shows = shows;
          others = λ r free. refl;
          shape = refl;
          bytes = λ a aligned. inl (λ k low high. refl);
        } in
        let end : m.pc + 4 * length (code_of f) ≡ m.pc + 4 * length (instructions_of f) = omega (arith, long) in
        let gets : Gets g m (m.pc + 4 * length (code_of f)) s before.spent m input output =
        acts decodes g m given input output f w m.pc (m.pc + 4 * length (code_of f)) before s m formed.fields
        formed.size end begins.stands run way in
        record {
          after = gets.after;
          count = gets.count;
          within = omega (arith, gets.bound);
          run = gets.run;
          running = gets.way.running;
          there = gets.way.there;
          shows = gets.way.shows;
          others = gets.way.others;
          long = gets.way.long;
          shape = gets.way.shape;
          bytes = gets.way.bytes;
          rights = same_rights gets.after.memory m.memory g gets.way.shape given;
          stands = code_stands g s m.memory gets.after.memory given gets.way.bytes gets.way.shape;
        }

    pub runs : RunsAs f (code_of f)
    runs w s m input output begins run =
        let none : s.spent - 0 ≡ s.spent = omega arith in
        subst (λ n. Arrives (rights_of m.memory) s (behind_code (code_of f) m) n m input output) none
        (runs_shown (rights_of m.memory) w (view_of m) s m input output begins (rights_all m.memory) (shows_all m) run)
