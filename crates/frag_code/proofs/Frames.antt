-- What a fragment's run leaves as it is, and that more rights and more turns change nothing.
use Rattle.std.proofs.Common.{◌≡◌, ◌≢◌, ℕ, zero, suc, ◌%◌, ◌^◌, ◌<◌, ◌≤◌, Bool, true, false, cond, ◌||◌, refl, ◌∙◌}
use Rattle.std.proofs.Common.{subst, arith}
use Rattle.std.specs.Prelude.{Option, Some, None, option_and_then, nat_eq, ◌==◌}
use Rattle.std.proofs.lemmas.Bool.Decides.{nat_tests}
use Rattle.std.proofs.lemmas.Option.{option_and_then_some}
use Rattle.rv_isa.specs.declared.Op.{Op}
use Rattle.rv_isa.specs.Compute.{computed}
use Rattle.machine_spec.proofs.AllFrom.{and_first, and_second}
use Rattle.rv_isa.specs.Addresses.{plus}
use Rattle.frag_code.specs.Fragments.{Fragment, Skip, Set, Compute, Imm, Load, Store, Seq, If, While}
use Rattle.frag_code.specs.Frames.{assigns, has_stores, HasWords, HasMore}
use Rattle.frag_code.specs.Meaning.{View, Rights, put, read, with_register, with_word, tested, holds, is_allowed, turns}
use Rattle.frag_code.specs.Meaning.{frag_run}

neither_first : (p q : Bool) → (p || q) ≡ false → p ≡ false
neither_first true q h = h
neither_first false q h = refl

neither_second : (p q : Bool) → (p || q) ≡ false → q ≡ false
neither_second true q h = absurd (cc)
neither_second false q h = h

-- each register that the fragment writes passes, and it has stores only where S holds
abbrev pub Writes : (ℕ → Type 0) → Type 0 → Fragment → Type 0
Writes P S Skip = Unit {0}
Writes P S (Set rd value) = P rd
Writes P S (Compute op rd rs1 rs2) = P rd
Writes P S (Imm op rd rs1 imm) = P rd
Writes P S (Load rd rs1 offset) = P rd
Writes P S (Store rs1 rs2 offset) = S
Writes P S (Seq first second) = Writes P S first × Writes P S second
Writes P S (If c rs1 rs2 taken other) = Writes P S taken × Writes P S other
Writes P S (While c rs1 rs2 body) = Writes P S body

-- what each change of a view keeps, a run keeps
pub record Kept (g : Rights) (P : ℕ → Type 0) (S : Type 0) (R : View → View → Type 0) : Type 0 where
  pub same : (s : View) → R s s
  pub and_then : (s t u : View) → R s t → R t u → R s u
  pub test : (s : View) → R s (tested s)
  pub set : (rd v : ℕ) (s : View) → P rd → R s (with_register rd (v % 2 ^ 32) s)
  pub compute : (op : Op) (rd rs1 rs2 : ℕ) (s : View) → P rd
      → R s (with_register rd (computed op (read s.registers rs1) (read s.registers rs2)) s)
  pub imm : (op : Op) (rd rs1 imm : ℕ) (s : View) → P rd → R s
      (with_register rd (computed op (read s.registers rs1) (imm % 2 ^ 32)) s)
  pub load : (rd a : ℕ) (s : View) → P rd → is_allowed g.reads a ≡ true → R s (with_register rd (s.memory a) s)
  pub store : (a v : ℕ) (s : View) → S → is_allowed g.writes a ≡ true → R s (with_word a (v % 2 ^ 32) s)

module _ (g : Rights) (P : ℕ → Type 0) (S : Type 0) (R : View → View → Type 0) (k : Kept g P S R) (w : ℕ) where
  turns_keep : (test : View → Bool) (body : View → Option View) → ((s t : View) → body s ≡ Some t → R s t)
      → (n : ℕ) (s t : View) → turns n test body s ≡ Some t → R s t
  turns_keep test body keep zero s t run = by (test s) run
    where
      by : (v : Bool) → cond v None (Some (tested s)) ≡ Some t → R s t
      by true run = absurd (cc)
      by false run = let same : tested s ≡ t = cc in subst (λ x. R s x) same (k.test s)
  turns_keep test body keep (suc n) s t run = by (λ u. turns_keep test body keep n u t) (test s) run
    where
      by : ((u : View) → turns n test body u ≡ Some t → R u t)
          → (v : Bool) → cond v (option_and_then (turns n test body) (body (tested s))) (Some (tested s)) ≡ Some t
          → R s t
      by more true run =
          option_and_then_some (turns n test body) (body (tested s)) t run (λ u first rest.
          k.and_then s (tested s) t (k.test s) (k.and_then (tested s) u t (keep (tested s) u first) (more u rest)))
      by more false run = let same : tested s ≡ t = cc in subst (λ x. R s x) same (k.test s)

  pub run_keeps : (f : Fragment) → Writes P S f → (s t : View) → frag_run g f w s ≡ Some t → R s t
  unfolding frag_run
  run_keeps Skip h s t run = let same : s ≡ t = cc in subst (λ x. R s x) same (k.same s)
  run_keeps (Set rd value) h s t run =
      let same : with_register rd (value % 2 ^ 32) s ≡ t = cc in subst (λ x. R s x) same (k.set rd value s h)
  run_keeps (Compute op rd rs1 rs2) h s t run =
      let same : with_register rd (computed op (read s.registers rs1) (read s.registers rs2)) s ≡ t = cc in
      subst (λ x. R s x) same (k.compute op rd rs1 rs2 s h)
  run_keeps (Imm op rd rs1 imm) h s t run =
      let same : with_register rd (computed op (read s.registers rs1) (imm % 2 ^ 32)) s ≡ t = cc in
      subst (λ x. R s x) same (k.imm op rd rs1 imm s h)
  run_keeps (Load rd rs1 offset) h s t run = by (is_allowed g.reads (plus (read s.registers rs1) offset)) refl run
    where
      by : (v : Bool) → is_allowed g.reads (plus (read s.registers rs1) offset) ≡ v
          → cond v (Some (with_register rd (s.memory (plus (read s.registers rs1) offset)) s)) None ≡ Some t → R s t
      by true may run =
          let same : with_register rd (s.memory (plus (read s.registers rs1) offset)) s ≡ t = cc in
          subst (λ x. R s x) same (k.load rd (plus (read s.registers rs1) offset) s h may)
      by false may run = absurd (cc)
  run_keeps (Store rs1 rs2 offset) h s t run = by (is_allowed g.writes (plus (read s.registers rs1) offset)) refl run
    where
      by : (v : Bool) → is_allowed g.writes (plus (read s.registers rs1) offset) ≡ v
          → cond v (Some (with_word (plus (read s.registers rs1) offset) (read s.registers rs2 % 2 ^ 32) s)) None
          ≡ Some t → R s t
      by true may run =
          let same : with_word (plus (read s.registers rs1) offset) (read s.registers rs2 % 2 ^ 32) s ≡ t = cc in
          subst (λ x. R s x) same (k.store (plus (read s.registers rs1) offset) (read s.registers rs2) s h may)
      by false may run = absurd (cc)
  run_keeps (Seq a b) h s t run =
      let first : (u : View) → frag_run g a w s ≡ Some u → R s u = run_keeps a h.0 s in
      let second : (u : View) → frag_run g b w u ≡ Some t → R u t = λ u. run_keeps b h.1 u t in
      option_and_then_some (frag_run g b w) (frag_run g a w s) t run
      (λ u one two. k.and_then s u t (first u one) (second u two))
  run_keeps (If c rs1 rs2 a b) h s t run = by (run_keeps a h.0 (tested s) t) (run_keeps b h.1 (tested s) t)
      (holds c rs1 rs2 s) run
    where
      by : (frag_run g a w (tested s) ≡ Some t → R (tested s) t) → (frag_run g b w (tested s) ≡ Some t → R (tested s) t)
          → (v : Bool) → cond v (frag_run g a w (tested s)) (frag_run g b w (tested s)) ≡ Some t → R s t
      by first second true run = k.and_then s (tested s) t (k.test s) (first run)
      by first second false run = k.and_then s (tested s) t (k.test s) (second run)
  run_keeps (While c rs1 rs2 body) h s t run = turns_keep (holds c rs1 rs2) (frag_run g body w) (run_keeps body h) w s t
      run

-- a register that the fragment doesn't write
module _ (g : Rights) (r : ℕ) where
  other_stays : (rd v : ℕ) (s : View) → r ≢ rd → put s.registers rd v r ≡ s.registers r
  other_stays rd v s other = at (nat_eq r rd) refl
    where
      at : (e : Bool) → nat_eq r rd ≡ e → cond e v (s.registers r) ≡ s.registers r
      at true e = let same : r ≡ rd = grind (arith, nat_tests) in absurd (other same)
      at false e = refl

  register_kept : Kept g (λ rd. r ≢ rd) (Unit {0}) (λ s t. t.registers r ≡ s.registers r)
  register_kept = record {
    same = λ s. refl;
    and_then = λ s t u first second. second ∙ first;
    test = λ s. refl;
    set = λ rd v s other. other_stays rd (v % 2 ^ 32) s other;
    compute = λ op rd rs1 rs2 s other. other_stays rd (computed op (read s.registers rs1) (read s.registers rs2)) s
        other;
    imm = λ op rd rs1 imm s other. other_stays rd (computed op (read s.registers rs1) (imm % 2 ^ 32)) s other;
    load = λ rd a s other may. other_stays rd (s.memory a) s other;
    store = λ a v s h may. refl;
  }

  differs : (rd : ℕ) → (rd == r) ≡ false → r ≢ rd
  differs rd h = grind (arith, nat_tests)

  not_assigned : (f : Fragment) → assigns f r ≡ false → Writes (λ rd. r ≢ rd) (Unit {0}) f
  not_assigned Skip h = tt
  not_assigned (Set rd value) h = differs rd h
  not_assigned (Compute op rd rs1 rs2) h = differs rd h
  not_assigned (Imm op rd rs1 imm) h = differs rd h
  not_assigned (Load rd rs1 offset) h = differs rd h
  not_assigned (Store rs1 rs2 offset) h = tt
  not_assigned (Seq a b) h = (
    not_assigned a (neither_first (assigns a r) (assigns b r) h),
    not_assigned b
        (neither_second (assigns a r) (assigns b r) h),
  )
  not_assigned (If c rs1 rs2 a b) h = (
    not_assigned a (neither_first (assigns a r) (assigns b r) h),
    not_assigned b
        (neither_second (assigns a r) (assigns b r) h),
  )
  not_assigned (While c rs1 rs2 body) h = not_assigned body h

  pub register_stays : (f : Fragment) (w : ℕ) (s t : View) → assigns f r ≡ false → frag_run g f w s ≡ Some t
      → t.registers r ≡ s.registers r
  register_stays f w s t h run =
      run_keeps g (λ rd. r ≢ rd) (Unit {0}) (λ s t. t.registers r ≡ s.registers r) register_kept w f (not_assigned f h)
      s t run

every : (f : Fragment) → Writes (λ rd. Unit {0}) (Unit {0}) f
every Skip = tt
every (Set rd value) = tt
every (Compute op rd rs1 rs2) = tt
every (Imm op rd rs1 imm) = tt
every (Load rd rs1 offset) = tt
every (Store rs1 rs2 offset) = tt
every (Seq a b) = (every a, every b)
every (If c rs1 rs2 a b) = (every a, every b)
every (While c rs1 rs2 body) = every body

-- a word that may not be written
module _ (g : Rights) (a : ℕ) (free : is_allowed g.writes a ≡ false) where
  word_kept : Kept g (λ rd. Unit {0}) (Unit {0}) (λ s t. t.memory a ≡ s.memory a)
  word_kept = record {
    same = λ s. refl;
    and_then = λ s t u first second. second ∙ first;
    test = λ s. refl;
    set = λ rd v s h. refl;
    compute = λ op rd rs1 rs2 s h. refl;
    imm = λ op rd rs1 imm s h. refl;
    load = λ rd b s h may. refl;
    store = λ b v s h may. at b (v % 2 ^ 32) s (nat_eq a b) refl may;
  }
    where
      at : (b v : ℕ) (s : View) (e : Bool) → nat_eq a b ≡ e → is_allowed g.writes b ≡ true
          → cond e v (s.memory a) ≡ s.memory a
      at b v s true e may =
          let same : a ≡ b = grind (arith, nat_tests) in
          let clash : is_allowed g.writes a ≡ true = rw same may in
          absurd (cc)
      at b v s false e may = refl

  pub word_stays : (f : Fragment) (w : ℕ) (s t : View) → frag_run g f w s ≡ Some t → t.memory a ≡ s.memory a
  word_stays f w s t run = run_keeps g (λ rd. Unit {0}) (Unit {0}) (λ s t. t.memory a ≡ s.memory a) word_kept w f
      (every f) s t run

-- a fragment without stores leaves every word
memory_kept : (g : Rights) → Kept g (λ rd. Unit {0}) ⊥ (λ s t. t.memory ≡ s.memory)
memory_kept g = record {
  same = λ s. refl;
  and_then = λ s t u first second. second ∙ first;
  test = λ s. refl;
  set = λ rd v s h. refl;
  compute = λ op rd rs1 rs2 s h. refl;
  imm = λ op rd rs1 imm s h. refl;
  load = λ rd a s h may. refl;
  store = λ a v s h may. absurd h;
}

no_stores : (f : Fragment) → has_stores f ≡ false → Writes (λ rd. Unit {0}) ⊥ f
no_stores Skip h = tt
no_stores (Set rd value) h = tt
no_stores (Compute op rd rs1 rs2) h = tt
no_stores (Imm op rd rs1 imm) h = tt
no_stores (Load rd rs1 offset) h = tt
no_stores (Store rs1 rs2 offset) h = let clash : true ≡ false = h in cc
no_stores (Seq a b) h = (
  no_stores a (neither_first (has_stores a) (has_stores b) h),
  no_stores b
      (neither_second (has_stores a) (has_stores b) h),
)
no_stores (If c rs1 rs2 a b) h = (
  no_stores a (neither_first (has_stores a) (has_stores b) h),
  no_stores b
      (neither_second (has_stores a) (has_stores b) h),
)
no_stores (While c rs1 rs2 body) h = no_stores body h

pub memory_stays : (g : Rights) (f : Fragment) (w : ℕ) (s t : View) → has_stores f ≡ false → frag_run g f w s ≡ Some t
    → t.memory ≡ s.memory
memory_stays g f w s t h run = run_keeps g (λ rd. Unit {0}) ⊥ (λ s t. t.memory ≡ s.memory) (memory_kept g) w f
    (no_stores f h) s t run

-- a run costs, and nothing is given back
cost_kept : (g : Rights) → Kept g (λ rd. Unit {0}) (Unit {0}) (λ s t. s.spent ≤ t.spent)
cost_kept g = record {
  same = λ s. omega arith;
  and_then = λ s t u first second. omega (arith, first, second);
  test = λ s. omega arith;
  set = λ rd v s h. omega arith;
  compute = λ op rd rs1 rs2 s h. omega arith;
  imm = λ op rd rs1 imm s h. omega arith;
  load = λ rd a s h may. omega arith;
  store = λ a v s h may. omega arith;
}

pub cost_rises : (g : Rights) (f : Fragment) (w : ℕ) (s t : View) → frag_run g f w s ≡ Some t → s.spent ≤ t.spent
cost_rises g f w s t run = run_keeps g (λ rd. Unit {0}) (Unit {0}) (λ s t. s.spent ≤ t.spent) (cost_kept g) w f
    (every f) s t run

-- words stay words
module _ (results : (op : Op) (a b : ℕ) → a < 2 ^ 32 → b < 2 ^ 32 → computed op a b < 2 ^ 32) (g : Rights) where
  put_small : (f : ℕ → ℕ) (a v k : ℕ) → v < 2 ^ 32 → f k < 2 ^ 32 → put f a v k < 2 ^ 32
  put_small f a v k new old = at (nat_eq k a)
    where
      at : (e : Bool) → cond e v (f k) < 2 ^ 32
      at true = new
      at false = old

  read_small : (f : ℕ → ℕ) (r : ℕ) → ((k : ℕ) → f k < 2 ^ 32) → read f r < 2 ^ 32
  read_small f zero small = omega arith
  read_small f (suc r) small = small (suc r)

  with_small : (rd v : ℕ) (s : View) → v < 2 ^ 32 → HasWords g s → HasWords g (with_register rd v s)
  with_small rd v s small h = record {
    registers = λ r. put_small s.registers rd v r small (h.registers r);
    memory =
        h.memory;
  }

  words_kept : Kept g (λ rd. Unit {0}) (Unit {0}) (λ s t. HasWords g s → HasWords g t)
  words_kept = record {
    same = λ s h. h;
    and_then = λ s t u first second h. second (first h);
    test = λ s h. record { registers = h.registers; memory = h.memory };
    set = λ rd v s p h. with_small rd (v % 2 ^ 32) s (omega arith) h;
    compute = λ op rd rs1 rs2 s p h.
        with_small rd (computed op (read s.registers rs1) (read s.registers rs2)) s
        (results op (read s.registers rs1) (read s.registers rs2) (read_small s.registers rs1 h.registers)
        (read_small s.registers rs2 h.registers)) h;
    imm = λ op rd rs1 imm s p h.
        with_small rd (computed op (read s.registers rs1) (imm % 2 ^ 32)) s
        (results op (read s.registers rs1) (imm % 2 ^ 32) (read_small s.registers rs1 h.registers) (omega arith)) h;
    load = λ rd a s p may h. with_small rd (s.memory a) s (h.memory a (and_second (a % 4 == 0) (g.reads a) may)) h;
    store = λ a v s p may h. record {
      registers = h.registers;
      memory =
          λ k reads. put_small s.memory a (v % 2 ^ 32) k (omega arith) (h.memory k reads);
    };
  }

  pub words_stay : (f : Fragment) (w : ℕ) (s t : View) → HasWords g s → frag_run g f w s ≡ Some t → HasWords g t
  words_stay f w s t h run = run_keeps g (λ rd. Unit {0}) (Unit {0}) (λ s t. HasWords g s → HasWords g t) words_kept w f
      (every f) s t run h

-- more rights
allowed_more : (right more : ℕ → Bool) (a : ℕ) → ((x : ℕ) → right x ≡ true → more x ≡ true) → is_allowed right a ≡ true
    → is_allowed more a ≡ true
allowed_more right more a grows h =
    let first : (a % 4 == 0) ≡ true = and_first (a % 4 == 0) (right a) h in
    let second : more a ≡ true = grows a (and_second (a % 4 == 0) (right a) h) in
    rw (first, second) refl

turns_grow : (test : View → Bool) (body further : View → Option View)
    → ((s t : View) → body s ≡ Some t → further s ≡ Some t)
    → (n most : ℕ) → n ≤ most → (s t : View) → turns n test body s ≡ Some t → turns most test further s ≡ Some t
turns_grow test body further grows zero zero few s t run = run
turns_grow test body further grows zero (suc most) few s t run = by (test s) refl run
  where
    by : (v : Bool) → test s ≡ v → cond v None (Some (tested s)) ≡ Some t
        → cond v (option_and_then (turns most test further) (further (tested s))) (Some (tested s)) ≡ Some t
    by true e run = absurd (cc)
    by false e run = run
turns_grow test body further grows (suc n) zero few s t run = absurd (omega (arith, few))
turns_grow test body further grows (suc n) (suc most) few s t run =
    by (λ u. turns_grow test body further grows n most (omega (arith, few)) u t) (test s) run
  where
    by : ((u : View) → turns n test body u ≡ Some t → turns most test further u ≡ Some t) → (v : Bool)
        → cond v (option_and_then (turns n test body) (body (tested s))) (Some (tested s)) ≡ Some t
        → cond v (option_and_then (turns most test further) (further (tested s))) (Some (tested s)) ≡ Some t
    by more true run =
        option_and_then_some (turns n test body) (body (tested s)) t run (λ u first rest.
        rw (grows (tested s) u first) (more u rest))
    by more false run = run

-- a run with more rights and more turns is the same
module _ (g more : Rights) (h : HasMore g more) (w most : ℕ) (few : w ≤ most) where
  pub run_grows : (f : Fragment) (s t : View) → frag_run g f w s ≡ Some t → frag_run more f most s ≡ Some t
  unfolding frag_run
  run_grows Skip s t run = run
  run_grows (Set rd value) s t run = run
  run_grows (Compute op rd rs1 rs2) s t run = run
  run_grows (Imm op rd rs1 imm) s t run = run
  run_grows (Load rd rs1 offset) s t run = by (is_allowed g.reads (plus (read s.registers rs1) offset)) refl run
    where
      by : (v : Bool) → is_allowed g.reads (plus (read s.registers rs1) offset) ≡ v
          → cond v (Some (with_register rd (s.memory (plus (read s.registers rs1) offset)) s)) None ≡ Some t
          → cond (is_allowed more.reads (plus (read s.registers rs1) offset))
          (Some (with_register rd (s.memory (plus (read s.registers rs1) offset)) s)) None ≡ Some t
      by true may run = rw (allowed_more g.reads more.reads (plus (read s.registers rs1) offset) h.reads may) run
      by false may run = absurd (cc)
  run_grows (Store rs1 rs2 offset) s t run = by (is_allowed g.writes (plus (read s.registers rs1) offset)) refl run
    where
      by : (v : Bool) → is_allowed g.writes (plus (read s.registers rs1) offset) ≡ v
          → cond v (Some (with_word (plus (read s.registers rs1) offset) (read s.registers rs2 % 2 ^ 32) s)) None
          ≡ Some t
          → cond (is_allowed more.writes (plus (read s.registers rs1) offset))
          (Some (with_word (plus (read s.registers rs1) offset) (read s.registers rs2 % 2 ^ 32) s)) None ≡ Some t
      by true may run = rw (allowed_more g.writes more.writes (plus (read s.registers rs1) offset) h.writes may) run
      by false may run = absurd (cc)
  run_grows (Seq a b) s t run =
      let first : (u : View) → frag_run g a w s ≡ Some u → frag_run more a most s ≡ Some u = run_grows a s in
      let second : (u : View) → frag_run g b w u ≡ Some t → frag_run more b most u ≡ Some t = λ u. run_grows b u t in
      option_and_then_some (frag_run g b w) (frag_run g a w s) t run (λ u one two. rw (first u one) (second u two))
  run_grows (If c rs1 rs2 a b) s t run = by (run_grows a (tested s) t) (run_grows b (tested s) t) (holds c rs1 rs2 s)
      run
    where
      by : (frag_run g a w (tested s) ≡ Some t → frag_run more a most (tested s) ≡ Some t)
          → (frag_run g b w (tested s) ≡ Some t → frag_run more b most (tested s) ≡ Some t) → (v : Bool)
          → cond v (frag_run g a w (tested s)) (frag_run g b w (tested s)) ≡ Some t
          → cond v (frag_run more a most (tested s)) (frag_run more b most (tested s)) ≡ Some t
      by first second true run = first run
      by first second false run = second run
  run_grows (While c rs1 rs2 body) s t run = turns_grow (holds c rs1 rs2) (frag_run g body w) (frag_run more body most)
      (run_grows body) w most few s t run
