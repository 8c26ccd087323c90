-- How the run of a fragment is proved: one rule for each form. The rule of an instruction takes the value
-- that it gives under a name of its own, so that terms stay small along a chain.
use Rattle.std.proofs.Common.{◌≡◌, ℕ, ◌+◌, ◌%◌, ◌^◌, Bool, true, false, refl, ap, arith}
use Rattle.std.specs.Prelude.{Option, Some, ◌==◌}
use Rattle.std.proofs.lemmas.Bool.Decides.{nat_tests}
use Rattle.rv_isa.specs.declared.Op.{Op}
use Rattle.rv_isa.specs.declared.Cond.{Cond}
use Rattle.rv_isa.specs.Compute.{computed, is_held}
use Rattle.rv_isa.specs.Addresses.{plus}
use Rattle.frag_code.specs.Fragments.{Fragment, Skip, Set, Compute, Imm, Load, Store, Seq, If}
use Rattle.frag_code.specs.Meaning.{View, Rights, put, read, is_allowed, frag_run}
use Rattle.frag_code.specs.Ends.{Ends}

abbrev pub view : (ℕ → ℕ) → (ℕ → ℕ) → ℕ → View
view registers memory spent = record { registers = registers; memory = memory; spent = spent }

pub allowed : (right : ℕ → Bool) (a : ℕ) → a % 4 ≡ 0 → right a ≡ true → is_allowed right a ≡ true
allowed right a aligned h = let test : (a % 4 == 0) ≡ true = grind (arith, nat_tests) in rw (test, h) refl

-- what holds of the view after a run follows from what is known of it
pub ends_so : (o : Option View) (P Q : View → Type 0) → ((s : View) → P s → Q s) → Ends o P → Ends o Q
ends_so o P Q so h = record { state = h.state; is = h.is; has = so h.state h.has }

module _ (g : Rights) (w : ℕ) (Q : View → Type 0) (r m : ℕ → ℕ) (c : ℕ) where
  -- one form alone
  pub skip_ends : Q (view r m c) → Ends (frag_run g Skip w (view r m c)) Q
  unfolding frag_run
  skip_ends h = record { state = view r m c; is = refl; has = h }

  pub set_ends : (rd value v : ℕ) → value % 2 ^ 32 ≡ v → Q (view (put r rd v) m (c + 3))
      → Ends (frag_run g (Set rd value) w (view r m c)) Q
  unfolding frag_run
  set_ends rd value v e h =
      record { state = view (put r rd v) m (c + 3); is = ap (λ x. Some (view (put r rd x) m (c + 3))) e; has = h }

  pub compute_ends : (op : Op) (rd rs1 rs2 v : ℕ) → computed op (read r rs1) (read r rs2) ≡ v
      → Q (view (put r rd v) m (c + 3)) → Ends (frag_run g (Compute op rd rs1 rs2) w (view r m c)) Q
  unfolding frag_run
  compute_ends op rd rs1 rs2 v e h =
      record { state = view (put r rd v) m (c + 3); is = ap (λ x. Some (view (put r rd x) m (c + 3))) e; has = h }

  pub imm_ends : (op : Op) (rd rs1 imm v : ℕ) → computed op (read r rs1) (imm % 2 ^ 32) ≡ v
      → Q (view (put r rd v) m (c + 3)) → Ends (frag_run g (Imm op rd rs1 imm) w (view r m c)) Q
  unfolding frag_run
  imm_ends op rd rs1 imm v e h =
      record { state = view (put r rd v) m (c + 3); is = ap (λ x. Some (view (put r rd x) m (c + 3))) e; has = h }

  pub load_ends : (rd rs1 offset a v : ℕ) → plus (read r rs1) offset ≡ a → a % 4 ≡ 0 → g.reads a ≡ true → m a ≡ v
      → Q (view (put r rd v) m (c + 3)) → Ends (frag_run g (Load rd rs1 offset) w (view r m c)) Q
  unfolding frag_run
  load_ends rd rs1 offset a v place aligned may e h =
      record { state = view (put r rd v) m (c + 3); is = rw (place, allowed g.reads a aligned may, e) refl; has = h }

  pub store_ends : (rs1 rs2 offset a v : ℕ) → plus (read r rs1) offset ≡ a → a % 4 ≡ 0 → g.writes a ≡ true
      → read r rs2 % 2 ^ 32 ≡ v
      → Q (view r (put m a v) (c + 3)) → Ends (frag_run g (Store rs1 rs2 offset) w (view r m c)) Q
  unfolding frag_run
  store_ends rs1 rs2 offset a v place aligned may e h =
      record { state = view r (put m a v) (c + 3); is = rw (place, allowed g.writes a aligned may, e) refl; has = h }

  -- one after the other, with what holds between them
  pub seq_ends : (first second : Fragment) (P : View → Type 0) → Ends (frag_run g first w (view r m c)) P
      → ((r' m' : ℕ → ℕ) (c' : ℕ) → P (view r' m' c') → Ends (frag_run g second w (view r' m' c')) Q)
      → Ends (frag_run g (Seq first second) w (view r m c)) Q
  unfolding frag_run
  seq_ends first second P h k =
      let end : Ends (frag_run g second w h.state) Q = k h.state.registers h.state.memory h.state.spent h.has in
      record { state = end.state; is = rw h.is end.is; has = end.has }

  -- a choice, whose test is known or not
  pub if_taken : (cond : Cond) (rs1 rs2 : ℕ) (taken other : Fragment) → is_held cond (read r rs1) (read r rs2) ≡ true
      → Ends (frag_run g taken w (view r m (c + 3))) Q → Ends (frag_run g (If cond rs1 rs2 taken other) w (view r m c))
      Q
  unfolding frag_run
  if_taken cond rs1 rs2 taken other held h = record { state = h.state; is = rw held h.is; has = h.has }

  pub if_other : (cond : Cond) (rs1 rs2 : ℕ) (taken other : Fragment) → is_held cond (read r rs1) (read r rs2) ≡ false
      → Ends (frag_run g other w (view r m (c + 3))) Q → Ends (frag_run g (If cond rs1 rs2 taken other) w (view r m c))
      Q
  unfolding frag_run
  if_other cond rs1 rs2 taken other held h = record { state = h.state; is = rw held h.is; has = h.has }

  pub if_ends : (cond : Cond) (rs1 rs2 : ℕ) (taken other : Fragment)
      → (is_held cond (read r rs1) (read r rs2) ≡ true → Ends (frag_run g taken w (view r m (c + 3))) Q)
      → (is_held cond (read r rs1) (read r rs2) ≡ false → Ends (frag_run g other w (view r m (c + 3))) Q)
      → Ends (frag_run g (If cond rs1 rs2 taken other) w (view r m c)) Q
  if_ends cond rs1 rs2 taken other h k = by (is_held cond (read r rs1) (read r rs2)) refl
    where
      by : (t : Bool) → is_held cond (read r rs1) (read r rs2) ≡ t
          → Ends (frag_run g (If cond rs1 rs2 taken other) w (view r m c)) Q
      by true held = if_taken cond rs1 rs2 taken other held (h held)
      by false held = if_other cond rs1 rs2 taken other held (k held)

-- one form with more behind it
module _ (g : Rights) (w : ℕ) (Q : View → Type 0) (r m : ℕ → ℕ) (c : ℕ) (rest : Fragment) where
  then_ends : (first : Fragment) (r' m' : ℕ → ℕ) (c' : ℕ) → frag_run g first w (view r m c) ≡ Some (view r' m' c')
      → Ends (frag_run g rest w (view r' m' c')) Q → Ends (frag_run g (Seq first rest) w (view r m c)) Q
  unfolding frag_run
  then_ends first r' m' c' e h = record { state = h.state; is = rw e h.is; has = h.has }

  pub skip_then : Ends (frag_run g rest w (view r m c)) Q → Ends (frag_run g (Seq Skip rest) w (view r m c)) Q
  unfolding frag_run
  skip_then h = then_ends Skip r m c refl h

  pub set_then : (rd value v : ℕ) → value % 2 ^ 32 ≡ v → Ends (frag_run g rest w (view (put r rd v) m (c + 3))) Q
      → Ends (frag_run g (Seq (Set rd value) rest) w (view r m c)) Q
  unfolding frag_run
  set_then rd value v e h =
      then_ends (Set rd value) (put r rd v) m (c + 3) (ap (λ x. Some (view (put r rd x) m (c + 3))) e) h

  pub compute_then : (op : Op) (rd rs1 rs2 v : ℕ) → computed op (read r rs1) (read r rs2) ≡ v
      → Ends (frag_run g rest w (view (put r rd v) m (c + 3))) Q
      → Ends (frag_run g (Seq (Compute op rd rs1 rs2) rest) w (view r m c)) Q
  unfolding frag_run
  compute_then op rd rs1 rs2 v e h =
      then_ends (Compute op rd rs1 rs2) (put r rd v) m (c + 3) (ap (λ x. Some (view (put r rd x) m (c + 3))) e) h

  pub imm_then : (op : Op) (rd rs1 imm v : ℕ) → computed op (read r rs1) (imm % 2 ^ 32) ≡ v
      → Ends (frag_run g rest w (view (put r rd v) m (c + 3))) Q
      → Ends (frag_run g (Seq (Imm op rd rs1 imm) rest) w (view r m c)) Q
  unfolding frag_run
  imm_then op rd rs1 imm v e h =
      then_ends (Imm op rd rs1 imm) (put r rd v) m (c + 3) (ap (λ x. Some (view (put r rd x) m (c + 3))) e) h

  pub load_then : (rd rs1 offset a v : ℕ) → plus (read r rs1) offset ≡ a → a % 4 ≡ 0 → g.reads a ≡ true → m a ≡ v
      → Ends (frag_run g rest w (view (put r rd v) m (c + 3))) Q
      → Ends (frag_run g (Seq (Load rd rs1 offset) rest) w (view r m c)) Q
  unfolding frag_run
  load_then rd rs1 offset a v place aligned may e h =
      then_ends (Load rd rs1 offset) (put r rd v) m (c + 3) (rw (place, allowed g.reads a aligned may, e) refl) h

  pub store_then : (rs1 rs2 offset a v : ℕ) → plus (read r rs1) offset ≡ a → a % 4 ≡ 0 → g.writes a ≡ true
      → read r rs2 % 2 ^ 32 ≡ v
      → Ends (frag_run g rest w (view r (put m a v) (c + 3))) Q
      → Ends (frag_run g (Seq (Store rs1 rs2 offset) rest) w (view r m c)) Q
  unfolding frag_run
  store_then rs1 rs2 offset a v place aligned may e h =
      then_ends (Store rs1 rs2 offset) r (put m a v) (c + 3) (rw (place, allowed g.writes a aligned may, e) refl) h
