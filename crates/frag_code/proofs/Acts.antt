-- A fragment's code does what the fragment does, by induction on the fragment and the turns of its loops.
use Rattle.std.proofs.Common.{◌≡◌, ℕ, zero, suc, ◌+◌, ◌-◌, ◌*◌, ◌%◌, ◌^◌, ◌<◌, ◌≤◌, List, [], ◌∷◌, ◌++◌, Bool, true}
use Rattle.std.proofs.Common.{false, cond, length, map, refl, ap, sym, ◌∙◌, subst, arith, length-append}
use Rattle.std.specs.Prelude.{Some, None, option_and_then}
use Rattle.std.proofs.lemmas.Option.{option_and_then_some}
use Rattle.std.proofs.lemmas.List.{map-append, length-map}
use Rattle.rv_isa.specs.declared.Op.{Op}
use Rattle.rv_isa.specs.declared.Cond.{Cond}
use Rattle.rv_isa.specs.declared.Instr.{Instr}
use Rattle.rv_isa.specs.declared.Instr.TheVariants as rv
use Rattle.rv_isa.specs.Encoded.{encoded, IsFormed, IsExtended}
use Rattle.rv_isa.specs.Table.{decoded}
use Rattle.rv_isa.specs.Compute.{computed}
use Rattle.rv_isa.specs.Split.{split_of}
use Rattle.machine_spec.specs.Memory.{Range}
use Rattle.flat_spec.specs.Machine.{Machine}
use Rattle.rv_isa.specs.Addresses.{plus}
use Rattle.flat_spec.specs.Runs.{steps}
use Rattle.frag_code.specs.Fragments.{Fragment, Skip, Set, Compute, Imm, Load, Store, Seq, If, While}
use Rattle.frag_code.specs.Forms.{HasFields, most_words, is_source}
use Rattle.frag_code.specs.Code.{instructions_of, while_code}
use Rattle.frag_code.specs.Meaning.{View, Rights, read, with_register, with_word, tested, holds, is_allowed, turns}
use Rattle.frag_code.specs.Meaning.{frag_run}
use Rattle.frag_code.specs.Machines.{StandsAt, HasRights}
use Rattle.flat_spec.proofs.Runs.{more_steps, one_step}
use Rattle.frag_code.proofs.Steps.{state, no_step}
use Rattle.frag_code.proofs.OnWay.{OnWay, way_tested}
use Rattle.frag_code.proofs.Moves.{Moves, lui_move, addi_move, compute_move, imm_move, load_move, store_move, jump_move}
use Rattle.frag_code.proofs.Moves.{taken_move, missed_move}

-- the front and the back of code
pub stands_front : (memory : List Range) (at : ℕ) (ws vs : List ℕ) → StandsAt memory at (ws ++ vs)
    → StandsAt memory at ws
stands_front memory at [] vs h = tt
stands_front memory at (w ∷ ws) vs h = (h.0, stands_front memory (at + 4) ws vs h.1)

pub stands_back : (memory : List Range) (at : ℕ) (ws vs : List ℕ) → StandsAt memory at (ws ++ vs)
    → StandsAt memory (at + 4 * length ws) vs
stands_back memory at [] vs h = let same : at ≡ at + 4 * 0 = omega arith in subst (λ a. StandsAt memory a vs) same h
stands_back memory at (w ∷ ws) vs h =
    let same : at + 4 + 4 * length ws ≡ at + 4 * suc (length ws) = omega arith in
    subst (λ a. StandsAt memory a vs) same (stands_back memory (at + 4) ws vs h.1)

code_front : (memory : List Range) (at : ℕ) (is js : List Instr) → StandsAt memory at (map encoded (is ++ js))
    → StandsAt memory at (map encoded is)
code_front memory at is js h =
    stands_front memory at (map encoded is) (map encoded js)
    (subst (λ ws. StandsAt memory at ws) (map-append encoded is js) h)

code_back : (memory : List Range) (at : ℕ) (is js : List Instr) → StandsAt memory at (map encoded (is ++ js))
    → StandsAt memory (at + 4 * length is) (map encoded js)
code_back memory at is js h =
    let long : length (map encoded is) ≡ length is = length-map is encoded in
    subst (λ n. StandsAt memory (at + 4 * n) (map encoded js)) long
    (stands_back memory at (map encoded is) (map encoded js)
    (subst (λ ws. StandsAt memory at ws) (map-append encoded is js) h))

-- some steps lead to a machine at a place, which shows a view; they are no more than what was spent
pub record Gets (g : Rights) (start : Machine) (at : ℕ) (s : View) (spent : ℕ) (m : Machine)
    (input output : List ℕ) : Type 0 where
  pub after : Machine
  pub count : ℕ
  pub bound : count + spent ≤ s.spent
  pub run : steps count (state m input output) ≡ state after input output
  pub way : OnWay g start at s after

-- what a fragment's code does
abbrev pub Acts : Rights → Machine → List ℕ → List ℕ → Fragment → Type 0
Acts g start input output f =
    (w at to : ℕ) (s s' : View) (m : Machine) → HasFields f → length (instructions_of f) ≤ most_words
    → to ≡ at + 4 * length (instructions_of f) → StandsAt start.memory at (map encoded (instructions_of f))
    → frag_run g f w s ≡ Some s' → OnWay g start at s m → Gets g start to s' s.spent m input output

-- a test decides
decided : {A : Type 0} (t : Bool) (x y : A) → t ≡ true → cond t x y ≡ x
decided true x y e = refl
decided false x y e = absurd (cc)

undecided : {A : Type 0} (t : Bool) (x y : A) → t ≡ false → cond t x y ≡ y
undecided false x y e = refl
undecided true x y e = absurd (cc)

-- no distance in a fragment's code is too far
near_forth : (n : ℕ) → n ≤ 4098 → IsExtended 21 (4 * n)
near_forth n h = record { word = omega (arith, h); sign = omega (arith, h) }

near_back : (n : ℕ) → 0 < n → n ≤ 4098 → IsExtended 21 (2 ^ 32 - 4 * n)
near_back n p h = record { word = omega (arith, p, h); sign = omega (arith, p, h) }

module _ (g : Rights) (start : Machine) (input output : List ℕ) where
  gets_none : (at spent : ℕ) (s : View) (m : Machine) → spent ≤ s.spent → OnWay g start at s m
      → Gets g start at s spent m input output
  gets_none at spent s m bound h = record {
    after = m;
    count = 0;
    bound = omega (arith, bound);
    run =
        no_step (state m input output);
    way = h;
  }

  gets_less : (at spent less : ℕ) (s : View) (m : Machine) → less ≤ spent → Gets g start at s spent m input output
      → Gets g start at s less m input output
  gets_less at spent less s m le h = record {
    after = h.after;
    count = h.count;
    bound =
        omega (arith, h.bound, le);
    run = h.run;
    way = h.way;
  }

  -- a step, and then more
  gets_first : (at to spent : ℕ) (s s' : View) (m : Machine) (move : Moves g start at s m input output)
      → Gets g start to s' (suc spent) move.next input output → Gets g start to s' spent m input output
  gets_first at to spent s s' m move h = record {
    after = h.after;
    count = h.count + 1;
    bound = omega (arith, h.bound);
    run = more_steps h.count 1 (state m input output) ∙ (ap (steps h.count) (one_step (state m input output) ∙ move.is)
        ∙ h.run);
    way = h.way;
  }

  gets_then : (at to spent : ℕ) (s s' : View) (m : Machine) (h : Gets g start at s spent m input output)
      → Gets g start to s' s.spent h.after input output → Gets g start to s' spent m input output
  gets_then at to spent s s' m h k = record {
    after = k.after;
    count = k.count + h.count;
    bound = omega (arith, h.bound, k.bound);
    run = more_steps k.count h.count (state m input output) ∙ (ap (steps k.count) h.run ∙ k.run);
    way = k.way;
  }

  -- a last step that costs nothing
  gets_last : (at to spent : ℕ) (s : View) (m : Machine) (h : Gets g start at s (suc spent) m input output)
      → Moves g start to s h.after input output → Gets g start to s spent m input output
  gets_last at to spent s m h move = record {
    after = move.next;
    count = 1 + h.count;
    bound = omega (arith, h.bound);
    run = more_steps 1 h.count (state m input output) ∙ (ap (steps 1) h.run
        ∙ (one_step (state h.after input output) ∙ move.is));
    way = move.way;
  }

  -- one step that costs 3
  gets_one : (at to : ℕ) (s s' : View) (m : Machine) → to ≡ at → s.spent + 3 ≡ s'.spent
      → Moves g start at s' m input output → Gets g start to s' s.spent m input output
  gets_one at to s s' m e cost move =
      gets_first at to s.spent s' s' m move
      (gets_none to (suc s.spent) s' move.next (omega (arith, cost))
      (subst (λ a. OnWay g start a s' move.next) (sym e) move.way))

module _ (decodes : (i : Instr) → IsFormed i → decoded (encoded i) ≡ Some i) (g : Rights) (start : Machine)
    (given : HasRights start.memory g) (input output : List ℕ) where
  acts_skip : Acts g start input output Skip
  unfolding instructions_of frag_run
  acts_skip w at to s s' m fields size place stands run h =
      let same : s ≡ s' = cc in
      let here : at ≡ to = omega (arith, place) in
      subst (λ x. Gets g start to x s.spent m input output) same
      (gets_none g start input output to s.spent s m (omega arith) (subst (λ a. OnWay g start a s m) here h))

  acts_set : (rd value : ℕ) → Acts g start input output (Set rd value)
  unfolding instructions_of frag_run
  acts_set rd value w at to s s' m fields size place stands run h =
      let same : with_register rd (value % 2 ^ 32) s ≡ s' = cc in
      let upper : Moves g start (at + 4) (with_register rd (split_of value).0 s) m input output =
      lui_move decodes g start given input output at rd value s m h stands.0 fields in
      let lower : Moves g start (at + 4 + 4) (with_register rd (value % 2 ^ 32) s) upper.next input output =
      addi_move decodes g start given input output (at + 4) rd value s upper.next upper.way stands.1.0 fields in
      subst (λ x. Gets g start to x s.spent m input output) same
      (gets_first g start input output (at + 4) to s.spent (with_register rd (split_of value).0 s)
      (with_register rd (value % 2 ^ 32) s) m upper
      (gets_first g start input output (at + 4 + 4) to (suc s.spent) (with_register rd (value % 2 ^ 32) s)
      (with_register rd (value % 2 ^ 32) s) upper.next lower
      (gets_none g start input output to (suc (suc s.spent)) (with_register rd (value % 2 ^ 32) s) lower.next
      (omega arith)
      (let there : at + 4 + 4 ≡ to = omega (arith, place) in
      subst (λ a. OnWay g start a (with_register rd (value % 2 ^ 32) s) lower.next) there lower.way))))

  acts_compute : (op : Op) (rd rs1 rs2 : ℕ) → Acts g start input output (Compute op rd rs1 rs2)
  unfolding instructions_of frag_run
  acts_compute op rd rs1 rs2 w at to s s' m fields size place stands run h =
      let same : with_register rd (computed op (read s.registers rs1) (read s.registers rs2)) s ≡ s' = cc in
      subst (λ x. Gets g start to x s.spent m input output) same
      (gets_one g start input output (at + 4) to s (with_register rd
      (computed op (read s.registers rs1) (read s.registers rs2)) s) m (omega (arith, place)) refl
      (compute_move decodes g start given input output at op rd rs1 rs2 s m h stands.0 fields.0 fields.1 fields.2))

  acts_imm : (op : Op) (rd rs1 imm : ℕ) → Acts g start input output (Imm op rd rs1 imm)
  unfolding instructions_of frag_run
  acts_imm op rd rs1 imm w at to s s' m fields size place stands run h =
      let same : with_register rd (computed op (read s.registers rs1) (imm % 2 ^ 32)) s ≡ s' = cc in
      subst (λ x. Gets g start to x s.spent m input output) same
      (gets_one g start input output (at + 4) to s (with_register rd (computed op (read s.registers rs1) (imm % 2 ^ 32))
      s) m (omega (arith, place)) refl
      (imm_move decodes g start given input output at op rd rs1 imm s m h stands.0 fields.0 fields.1 fields.2))

  acts_load : (rd rs1 offset : ℕ) → Acts g start input output (Load rd rs1 offset)
  unfolding instructions_of frag_run
  acts_load rd rs1 offset w at to s s' m fields size place stands run h =
      by (is_allowed g.reads (plus (read s.registers rs1) offset)) refl run
    where
      by : (t : Bool) → is_allowed g.reads (plus (read s.registers rs1) offset) ≡ t
          → cond t (Some (with_register rd (s.memory (plus (read s.registers rs1) offset)) s)) None ≡ Some s'
          → Gets g start to s' s.spent m input output
      by true may run =
          let same : with_register rd (s.memory (plus (read s.registers rs1) offset)) s ≡ s' = cc in
          subst (λ x. Gets g start to x s.spent m input output) same
          (gets_one g start input output (at + 4) to s (with_register rd (s.memory (plus (read s.registers rs1) offset))
          s) m (omega (arith, place)) refl
          (load_move decodes g start given input output at rd rs1 offset s m h stands.0 fields.0 fields.1 fields.2 may))
      by false may run = absurd (cc)

  acts_store : (rs1 rs2 offset : ℕ) → Acts g start input output (Store rs1 rs2 offset)
  unfolding instructions_of frag_run
  acts_store rs1 rs2 offset w at to s s' m fields size place stands run h =
      by (is_allowed g.writes (plus (read s.registers rs1) offset)) refl run
    where
      by : (t : Bool) → is_allowed g.writes (plus (read s.registers rs1) offset) ≡ t
          → cond t (Some (with_word (plus (read s.registers rs1) offset) (read s.registers rs2 % 2 ^ 32) s)) None
          ≡ Some s' → Gets g start to s' s.spent m input output
      by true may run =
          let same : with_word (plus (read s.registers rs1) offset) (read s.registers rs2 % 2 ^ 32) s ≡ s' = cc in
          subst (λ x. Gets g start to x s.spent m input output) same
          (gets_one g start input output (at + 4) to s (with_word (plus (read s.registers rs1) offset)
          (read s.registers rs2 % 2 ^ 32) s) m (omega (arith, place)) refl
          (store_move decodes g start given input output at rs1 rs2 offset s m h stands.0 fields.0 fields.1 fields.2
          may))
      by false may run = absurd (cc)

  acts_seq : (a b : Fragment) → Acts g start input output a → Acts g start input output b
      → Acts g start input output (Seq a b)
  unfolding instructions_of frag_run
  acts_seq a b first second w at to s s' m fields size place stands run h =
      let la : ℕ = length (instructions_of a) in
      let lb : ℕ = length (instructions_of b) in
      let long : length (instructions_of a ++ instructions_of b) ≡ la + lb =
      length-append (instructions_of a) (instructions_of b) in
      option_and_then_some (frag_run g b w) (frag_run g a w s) s' run (λ s1 run1 run2.
      let one : Gets g start (at + 4 * la) s1 s.spent m input output =
      first w at (at + 4 * la) s s1 m fields.0 (omega (arith, size, long)) refl
      (code_front start.memory at (instructions_of a) (instructions_of b) stands) run1 h in
      gets_then g start input output (at + 4 * la) to s.spent s1 s' m one
      (second w (at + 4 * la) to s1 s' one.after fields.1 (omega (arith, size, long)) (omega (arith, place, long))
      (code_back start.memory at (instructions_of a) (instructions_of b) stands) run2 one.way))

  acts_if : (c : Cond) (rs1 rs2 : ℕ) (a b : Fragment) → Acts g start input output a → Acts g start input output b
      → Acts g start input output (If c rs1 rs2 a b)
  unfolding instructions_of frag_run
  acts_if c rs1 rs2 a b first second w at to s s' m fields size place stands run h = by (holds c rs1 rs2 s) refl run
    where
      la : ℕ
      la = length (instructions_of a)

      lb : ℕ
      lb = length (instructions_of b)

      behind : List Instr
      behind = rv.Jal 0 (4 * (length (instructions_of b) + 1)) ∷ instructions_of b

      long : length (instructions_of a ++ behind) ≡ la + suc lb
      long = length-append (instructions_of a) behind

      by : (t : Bool) → holds c rs1 rs2 s ≡ t → cond t (frag_run g a w (tested s)) (frag_run g b w (tested s)) ≡ Some s'
          → Gets g start to s' s.spent m input output
      by true held run =
          let branch : Moves g start (at + 4 + 4) s m input output =
          taken_move decodes g start given input output at c rs1 rs2 s m h stands.0 fields.0 fields.1 held in
          let way : OnWay g start (at + 4 + 4) (tested s) branch.next =
          way_tested g start (at + 4 + 4) s branch.next branch.way in
          let arm : Gets g start (at + 4 + 4 + 4 * la) s' (s.spent + 3) branch.next input output =
          first w (at + 4 + 4) (at + 4 + 4 + 4 * la) (tested s) s' branch.next fields.2 (omega (arith, size, long)) refl
          (code_front start.memory (at + 4 + 4) (instructions_of a) behind stands.1.1) run way in
          let back : StandsAt start.memory (at + 4 + 4 + 4 * la) (map encoded behind) =
          code_back start.memory (at + 4 + 4) (instructions_of a) behind stands.1.1 in
          let arm' : Gets g start (at + 4 + 4 + 4 * la) s' (suc (suc s.spent)) branch.next input output =
          gets_less g start input output (at + 4 + 4 + 4 * la) (s.spent + 3) (suc (suc s.spent)) s' branch.next
          (omega arith) arm in
          gets_first g start input output (at + 4 + 4) to s.spent s s' m branch
          (gets_last g start input output (at + 4 + 4 + 4 * la) to (suc s.spent) s' branch.next arm'
          (jump_move decodes g start given input output (at + 4 + 4 + 4 * la) to (4 * (lb + 1)) s' arm'.after arm'.way
          back.0
          (near_forth (lb + 1) (omega (arith, size, long))) (omega arith)
          (let e : at + 4 + 4 + 4 * la + 4 * (lb + 1) ≡ to = omega (arith, place, long) in ap (λ x. x % 2 ^ 32) e)))
      by false held run =
          let branch : Moves g start (at + 4) s m input output =
          missed_move decodes g start given input output at c rs1 rs2 s m h stands.0 fields.0 fields.1 held in
          let over : Moves g start (at + 4 + 4 + 4 * la + 4) s branch.next input output =
          jump_move decodes g start given input output (at + 4) (at + 4 + 4 + 4 * la + 4) (4 * (la + 2)) s branch.next
          branch.way stands.1.0
          (near_forth (la + 2) (omega (arith, size, long))) (omega arith)
          (let e : at + 4 + 4 * (la + 2) ≡ at + 4 + 4 + 4 * la + 4 = omega arith in ap (λ x. x % 2 ^ 32) e) in
          let way : OnWay g start (at + 4 + 4 + 4 * la + 4) (tested s) over.next =
          way_tested g start (at + 4 + 4 + 4 * la + 4) s over.next over.way in
          let back : StandsAt start.memory (at + 4 + 4 + 4 * la) (map encoded behind) =
          code_back start.memory (at + 4 + 4) (instructions_of a) behind stands.1.1 in
          let arm : Gets g start to s' (s.spent + 3) over.next input output =
          second w (at + 4 + 4 + 4 * la + 4) to (tested s) s' over.next fields.3 (omega (arith, size, long))
          (omega (arith, place, long)) back.1 run way in
          gets_first g start input output (at + 4) to s.spent s s' m branch
          (gets_first g start input output (at + 4 + 4 + 4 * la + 4) to (suc s.spent) s s' branch.next over
          (gets_less g start input output to (s.spent + 3) (suc (suc s.spent)) s' over.next (omega arith) arm))

  -- so many turns of a loop
  acts_turns : (c : Cond) (rs1 rs2 : ℕ) (body : Fragment) → Acts g start input output body → (w at to : ℕ)
      → is_source rs1 ≡ true → is_source rs2 ≡ true → HasFields body → length (instructions_of body) + 3 ≤ most_words
      → to ≡ at + 4 * (length (instructions_of body) + 3)
      → StandsAt start.memory at (map encoded (while_code c rs1 rs2 (instructions_of body)))
      → (n : ℕ) (s s' : View) (m : Machine) → turns n (holds c rs1 rs2) (frag_run g body w) s ≡ Some s'
      → OnWay g start at s m → Gets g start to s' s.spent m input output
  acts_turns c rs1 rs2 body acts w at to first second fields size place stands = by_count
    where
      long : ℕ
      long = length (instructions_of body)

      behind : List Instr
      behind = rv.Jal 0 (2 ^ 32 - 4 * (length (instructions_of body) + 2)) ∷ []

      over : (s s' : View) (m : Machine) → holds c rs1 rs2 s ≡ false → Some (tested s) ≡ Some s' → OnWay g start at s m
          → Gets g start to s' s.spent m input output
      over s s' m held run h =
          let same : tested s ≡ s' = cc in
          let branch : Moves g start (at + 4) s m input output =
          missed_move decodes g start given input output at c rs1 rs2 s m h stands.0 first second held in
          let out : Moves g start to s branch.next input output =
          jump_move decodes g start given input output (at + 4) to (4 * (long + 2)) s branch.next branch.way stands.1.0
          (near_forth (long + 2) (omega (arith, size))) (omega arith)
          (let e : at + 4 + 4 * (long + 2) ≡ to = omega (arith, place) in ap (λ x. x % 2 ^ 32) e) in
          subst (λ x. Gets g start to x s.spent m input output) same
          (gets_first g start input output (at + 4) to s.spent s (tested s) m branch
          (gets_first g start input output to to (suc s.spent) s (tested s) branch.next out
          (gets_none g start input output to (suc (suc s.spent)) (tested s) out.next (omega arith)
          (way_tested g start to s out.next out.way))))

      -- the branch, the body and the jump back
      again : (s s1 : View) (m : Machine) → holds c rs1 rs2 s ≡ true → frag_run g body w (tested s) ≡ Some s1
          → OnWay g start at s m → Gets g start at s1 s.spent m input output
      again s s1 m held run h =
          let branch : Moves g start (at + 4 + 4) s m input output =
          taken_move decodes g start given input output at c rs1 rs2 s m h stands.0 first second held in
          let way : OnWay g start (at + 4 + 4) (tested s) branch.next =
          way_tested g start (at + 4 + 4) s branch.next branch.way in
          let done : Gets g start (at + 4 + 4 + 4 * long) s1 (s.spent + 3) branch.next input output =
          acts w (at + 4 + 4) (at + 4 + 4 + 4 * long) (tested s) s1 branch.next fields (omega (arith, size)) refl
          (code_front start.memory (at + 4 + 4) (instructions_of body) behind stands.1.1) run way in
          let back : StandsAt start.memory (at + 4 + 4 + 4 * long) (map encoded behind) =
          code_back start.memory (at + 4 + 4) (instructions_of body) behind stands.1.1 in
          let less : Gets g start (at + 4 + 4 + 4 * long) s1 (suc (suc s.spent)) branch.next input output =
          gets_less g start input output (at + 4 + 4 + 4 * long) (s.spent + 3) (suc (suc s.spent)) s1 branch.next
          (omega arith) done in
          gets_first g start input output (at + 4 + 4) at s.spent s s1 m branch
          (gets_last g start input output (at + 4 + 4 + 4 * long) at (suc s.spent) s1 branch.next less
          (jump_move decodes g start given input output (at + 4 + 4 + 4 * long) at (2 ^ 32 - 4 * (long + 2)) s1
          less.after less.way back.0
          (near_back (long + 2) (omega arith) (omega (arith, size))) (omega (arith, size)) (omega (arith, size))))

      by_count : (n : ℕ) (s s' : View) (m : Machine) → turns n (holds c rs1 rs2) (frag_run g body w) s ≡ Some s'
          → OnWay g start at s m → Gets g start to s' s.spent m input output
      by_count zero s s' m run h = by (holds c rs1 rs2 s) refl run
        where
          by : (t : Bool) → holds c rs1 rs2 s ≡ t → cond t None (Some (tested s)) ≡ Some s'
              → Gets g start to s' s.spent m input output
          by true held run = absurd (cc)
          by false held run = over s s' m held run h
      by_count (suc n) s s' m run h = by (λ s1 m1 run1 h1. by_count n s1 s' m1 run1 h1) (holds c rs1 rs2 s) refl run
        where
          by : ((s1 : View) (m1 : Machine) → turns n (holds c rs1 rs2) (frag_run g body w) s1 ≡ Some s'
              → OnWay g start at s1 m1 → Gets g start to s' s1.spent m1 input output)
              → (t : Bool) → holds c rs1 rs2 s ≡ t
              → cond t (option_and_then (turns n (holds c rs1 rs2) (frag_run g body w)) (frag_run g body w (tested s)))
              (Some (tested s)) ≡ Some s'
              → Gets g start to s' s.spent m input output
          by rest true held run =
              option_and_then_some (turns n (holds c rs1 rs2) (frag_run g body w)) (frag_run g body w (tested s)) s' run
              (λ s1 run1 run2.
              let one : Gets g start at s1 s.spent m input output = again s s1 m held run1 h in
              gets_then g start input output at to s.spent s1 s' m one (rest s1 one.after run2 one.way))
          by rest false held run = over s s' m held run h

  acts_while : (c : Cond) (rs1 rs2 : ℕ) (body : Fragment) → Acts g start input output body
      → Acts g start input output (While c rs1 rs2 body)
  unfolding instructions_of frag_run
  acts_while c rs1 rs2 body acts w at to s s' m fields size place stands run h =
      let long : length (instructions_of body ++ rv.Jal 0 (2 ^ 32 - 4 * (length (instructions_of body) + 2)) ∷ [])
      ≡ length (instructions_of body) + 1 =
      length-append (instructions_of body) (rv.Jal 0 (2 ^ 32 - 4 * (length (instructions_of body) + 2)) ∷ []) in
      acts_turns c rs1 rs2 body acts w at to fields.0 fields.1 fields.2 (omega (arith, size, long))
      (omega (arith, place, long)) stands w s s' m run h

  -- every fragment
  pub acts : (f : Fragment) → Acts g start input output f
  acts Skip = acts_skip
  acts (Set rd value) = acts_set rd value
  acts (Compute op rd rs1 rs2) = acts_compute op rd rs1 rs2
  acts (Imm op rd rs1 imm) = acts_imm op rd rs1 imm
  acts (Load rd rs1 offset) = acts_load rd rs1 offset
  acts (Store rs1 rs2 offset) = acts_store rs1 rs2 offset
  acts (Seq a b) = acts_seq a b (acts a) (acts b)
  acts (If c rs1 rs2 a b) = acts_if c rs1 rs2 a b (acts a) (acts b)
  acts (While c rs1 rs2 body) = acts_while c rs1 rs2 body (acts body)
