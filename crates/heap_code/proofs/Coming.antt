-- From an entry, plain or reentrant, to ra: what the function's fragment says of the machine's words holds
-- of the machine that comes back.
use Rattle.std.proofs.Common.{◌≡◌, ℕ, zero, suc, ◌+◌, ◌%◌, ◌^◌, ◌<◌, ◌≤◌, ◌==◌, List, ◌++◌, Bool, true, false, cond}
use Rattle.std.proofs.Common.{refl, sym, ◌∙◌, subst, inl, inr, ◌⊎◌, arith}
use Rattle.std.specs.Prelude.{Some, slice_index}
use Rattle.std.proofs.lemmas.Bool.{cases_lt}
use Rattle.std.proofs.lemmas.List.{get_or_past}
use Rattle.machine_spec.specs.declared.Ending.TheVariants.{Running}
use Rattle.rv_isa.specs.declared.Instr.{Instr}
use Rattle.rv_isa.specs.Encoded.{encoded, IsFormed}
use Rattle.rv_isa.specs.Table.{decoded}
use Rattle.plan_core.specs.declared.types.Area.{Area}
use Rattle.flat_spec.specs.Machine.{Machine, register}
use Rattle.heap_spec.specs.Places.{area_end}
use Rattle.heap_spec.specs.Requests.{Form, Plain, Reentrant}
use Rattle.heap_spec.specs.Service.{IsMachine, HoldsData, words_of}
use Rattle.frag_code.specs.Fragments.{Fragment}
use Rattle.frag_code.specs.Forms as forms
use Rattle.frag_code.specs.Frames.{HasWords}
use Rattle.frag_code.specs.Meaning.{View, Rights, put, frag_run, with_register}
use Rattle.frag_code.specs.Machines.{StandsAt, HasRights}
use Rattle.frag_code.proofs.Rules.{view}
use Rattle.frag_code.proofs.OnWay.{OnWay, register_is}
use Rattle.frag_code.proofs.Moves.{Moves}
use Rattle.heap_code.specs.Words.{entry_words, returning_words, one_argument, two_arguments}
use Rattle.heap_code.specs.Rights.{call_rights, IsSpan}
use Rattle.heap_code.proofs.Entries.{Comes, move_to, entry_comes, function_comes, comes_then}
use Rattle.heap_code.proofs.Returning.{rights_given, shown}
use Rattle.heap_code.proofs.Bytes.{word_small}

-- the registers behind the moves of a reentrant entry with one argument or two
abbrev pub with_one : Form → (ℕ → ℕ) → ℕ → ℕ
with_one Plain r = r
with_one Reentrant r = put r 10 (r 11)

abbrev pub with_two : Form → (ℕ → ℕ) → ℕ → ℕ
with_two Plain r = r
with_two Reentrant r = put (put r 10 (r 11)) 11 (r 12)

-- how far a plain entry stands behind the reentrant one
abbrev pub one_behind : Form → ℕ
one_behind Plain = 4
one_behind Reentrant = 0

abbrev pub two_behind : Form → ℕ
two_behind Plain = 8
two_behind Reentrant = 0

-- the cost before the function
abbrev pub one_spent : Form → ℕ
one_spent Plain = 0
one_spent Reentrant = 3

abbrev pub two_spent : Form → ℕ
two_spent Plain = 0
two_spent Reentrant = 6

-- every register is a word, and so is every word that may be read
pub register_small : (m : Machine) → IsMachine m → (r : ℕ) → register m r < 2 ^ 32
register_small m machine r = by r (cases_lt r 32)
  where
    by : (r : ℕ) → (r < 32) ⊎ (32 ≤ r) → register m r < 2 ^ 32
    by r (inl l) = machine.words r l
    by zero (inr l) = absurd (omega (arith, l))
    by (suc r) (inr l) =
        let z : slice_index m.registers (suc r)
        ≡ 0 = get_or_past m.registers (suc r) 0 (let n = machine.long in omega (arith, n, l)) in
        subst (λ x. x < 2 ^ 32) (sym (register_is m r ∙ z)) (omega arith)

pub one_small : (m : Machine) → IsMachine m → (form : Form) (k : ℕ) → with_one form (register m) k < 2 ^ 32
one_small m machine Plain k = register_small m machine k
one_small m machine Reentrant k = by (k == 10)
  where
    by : (t : Bool) → cond t (register m 11) (register m k) < 2 ^ 32
    by true = register_small m machine 11
    by false = register_small m machine k

pub two_small : (m : Machine) → IsMachine m → (form : Form) (k : ℕ) → with_two form (register m) k < 2 ^ 32
two_small m machine Plain k = register_small m machine k
two_small m machine Reentrant k = by (k == 11) (k == 10)
  where
    by : (t u : Bool) → cond t (register m 12) (cond u (register m 11) (register m k)) < 2 ^ 32
    by true u = register_small m machine 12
    by false true = register_small m machine 11
    by false false = register_small m machine k

-- the view at a function's start holds words
pub plain_words : (g : Rights) (m : Machine) → IsMachine m → (r : ℕ → ℕ) (c : ℕ) → ((k : ℕ) → r k < 2 ^ 32)
    → HasWords g (view r (words_of m.memory) c)
plain_words g m machine r c small = record {
  registers = small;
  memory = λ a h. word_small m.memory machine.bytes a;
}

pub start_words : (g : Rights) (m : Machine) → IsMachine m → (r : ℕ → ℕ) (c : ℕ) → ((k : ℕ) → r k < 2 ^ 32)
    → HasWords g (view (put r 5 (register m 4)) (words_of m.memory) c)
start_words g m machine r c small = plain_words g m machine (put r 5 (register m 4)) c (λ k. by k (k == 5))
  where
    by : (k : ℕ) (t : Bool) → cond t (register m 4) (r k) < 2 ^ 32
    by k true = register_small m machine 4
    by k false = small k

module _ (decodes : (i : Instr) → IsFormed i → decoded (encoded i) ≡ Some i)
    (area : Area) (data_at from to : ℕ) (aligned : data_at % 4 ≡ 0)
    (span : IsSpan area data_at from to) (m : Machine) (input output : List ℕ)
    (machine : IsMachine m) (running : m.ending ≡ Running)
    (tables : HoldsData m.memory data_at (area_end area data_at)) (ra : ℕ) (ra_is : register m 1
    ≡ ra) (ra_aligned : ra % 4 ≡ 0)
    (f : Fragment) (formed : forms.IsFormed f) where
  abbrev g : Rights
  g = call_rights area data_at from to

  given : HasRights m.memory g
  given = rights_given area data_at from to aligned span m.memory tables

  abbrev bits : ℕ
  bits = register m 4

  ra_small : ra < 2 ^ 32
  ra_small = subst (λ x. x < 2 ^ 32) ra_is (register_small m machine 1)

  start_way : (at c : ℕ) → m.pc ≡ at → at < 2 ^ 32 → OnWay g m at (view (register m) (words_of m.memory) c) m
  start_way at c e l = record {
    running = running;
    there = e ∙ (let q : at ≡ at % 2 ^ 32 = omega (arith, l) in q);
    long = machine.long;
    shows = let h = shown area data_at from to aligned span m tables in
        record { registers = h.registers; words = h.words };
    others = λ r free. refl;
    shape = refl;
    bytes = λ a q. inl (λ k low high. refl);
  }

  -- behind the moves of the arguments
  entered : (w at spent : ℕ) (r : ℕ → ℕ) (s : View) (n : Machine) → OnWay g m at (view r (words_of m.memory) spent) n
      → StandsAt m.memory at (entry_words f) → frag_run g f w (view (put r 5 bits) (words_of m.memory) (spent + 3))
      ≡ Some s
      → Comes g m input output ra s spent n
  entered w at spent r s n way stands run =
      entry_comes decodes g m input output given f formed w at ra (view r (words_of m.memory) spent)
      s n way stands (register_small m machine 4)
      ra_is ra_small ra_aligned run

  pub one_comes : (w at : ℕ) (form : Form) (s : View) → m.pc ≡ at + one_behind form → at + one_behind form < 2 ^ 32
      → StandsAt m.memory at (one_argument ++ entry_words f)
      → frag_run g f w (view (put (with_one form (register m)) 5 bits) (words_of m.memory) (one_spent form + 3))
      ≡ Some s
      → Comes g m input output ra s 0 m
  one_comes w at Plain s e l stands run = entered w (at + 4) 0 (register m) s m (start_way (at + 4) 0 e l) stands.1 run
  one_comes w at Reentrant s e l stands run =
      let first : Moves g m (at + 4) (with_register 10 (register m 11) (view (register m) (words_of m.memory) 0))
      m input output =
      move_to decodes g m input output given at 10 11 (register m 11) (view (register m) (words_of m.memory) 0) m
      (start_way at 0 (e ∙ (let q : at + 0 ≡ at = omega arith in q)) (omega (arith, l)))
      stands.0 refl (omega arith) (omega arith) refl (register_small m machine 11) in
      comes_then decodes g m input output given ra s 0 (at + 4) (0 + 3)
      (with_register 10 (register m 11) (view (register m) (words_of m.memory) 0)) m first (omega arith)
      (entered w (at + 4) (0 + 3) (put (register m) 10 (register m 11)) s first.next first.way stands.1 run)

  -- the same of a function that doesn't look at the bits
  pub plain_comes : (w at : ℕ) (form : Form) (s : View) → m.pc ≡ at + one_behind form → at + one_behind form < 2 ^ 32
      → StandsAt m.memory at (one_argument ++ returning_words f)
      → frag_run g f w (view (with_one form (register m)) (words_of m.memory) (one_spent form + 3)) ≡ Some s
      → Comes g m input output ra s 0 m
  plain_comes w at Plain s e l stands run =
      function_comes decodes g m input output given f formed w (at + 4) ra 0
      (view (register m) (words_of m.memory) 3) s m (omega arith) (start_way (at + 4) 3 e l) stands.1
      ra_is ra_small ra_aligned run
  plain_comes w at Reentrant s e l stands run =
      let first : Moves g m (at + 4) (with_register 10 (register m 11) (view (register m) (words_of m.memory) 3))
      m input output =
      move_to decodes g m input output given at 10 11 (register m 11) (view (register m) (words_of m.memory) 3) m
      (start_way at 3 (e ∙ (let q : at + 0 ≡ at = omega arith in q)) (omega (arith, l)))
      stands.0 refl (omega arith) (omega arith) refl (register_small m machine 11) in
      comes_then decodes g m input output given ra s 0 (at + 4) 1
      (with_register 10 (register m 11) (view (register m) (words_of m.memory) 3)) m first (omega arith)
      (function_comes decodes g m input output given f formed w (at + 4) ra 1
      (view (put (register m) 10 (register m 11)) (words_of m.memory) (3 + 3)) s first.next
      (omega arith) first.way stands.1 ra_is ra_small ra_aligned run)

  pub two_comes : (w at : ℕ) (form : Form) (s : View) → m.pc ≡ at + two_behind form → at + two_behind form < 2 ^ 32
      → StandsAt m.memory at (two_arguments ++ entry_words f)
      → frag_run g f w (view (put (with_two form (register m)) 5 bits) (words_of m.memory) (two_spent form + 3))
      ≡ Some s
      → Comes g m input output ra s 0 m
  two_comes w at Plain s e l stands run =
      entered w (at + 4 + 4) 0 (register m) s m (start_way (at + 4 + 4) 0 (e
      ∙ (let q : at + 8 ≡ at + 4 + 4 = omega arith in q)) (omega (arith, l))) stands.1.1 run
  two_comes w at Reentrant s e l stands run =
      let s0 : View = view (register m) (words_of m.memory) 0 in
      let first : Moves g m (at + 4) (with_register 10 (register m 11) (view (register m) (words_of m.memory) 0))
      m input output =
      move_to decodes g m input output given at 10 11 (register m 11) (view (register m) (words_of m.memory) 0) m
      (start_way at 0 (e ∙ (let q : at + 0 ≡ at = omega arith in q)) (omega (arith, l)))
      stands.0 refl (omega arith) (omega arith) refl (register_small m machine 11) in
      let second : Moves g m (at + 4 + 4) (with_register 11 (register m 12)
      (with_register 10 (register m 11) (view (register m) (words_of m.memory) 0))) first.next input output =
      move_to decodes g m input output given (at + 4) 11 12 (register m 12)
      (with_register 10 (register m 11) (view (register m) (words_of m.memory) 0)) first.next
      first.way stands.1.0 refl (omega arith) (omega arith) (first.way.shows.registers 12 (omega arith))
      (register_small m machine 12) in
      comes_then decodes g m input output given ra s 0 (at + 4) (0 + 3)
      (with_register 10 (register m 11) (view (register m) (words_of m.memory) 0)) m first (omega arith)
      (comes_then decodes g m input output given ra s (0 + 3) (at + 4 + 4) (0 + 3 + 3)
      (with_register 11 (register m 12) (with_register 10 (register m 11)
      (view (register m) (words_of m.memory) 0)))
      first.next second (omega arith)
      (entered w (at + 4 + 4) (0 + 3 + 3) (put (put (register m) 10 (register m 11)) 11 (register m 12))
      s second.next second.way stands.1.1 run))
