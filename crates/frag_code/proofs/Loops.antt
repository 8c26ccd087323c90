-- The rules of loops: the invariant runs down a count or a list, and the loop may stop before its end.
use Rattle.std.proofs.Common.{◌≡◌, ℕ, zero, suc, ◌≤◌, List, [], ◌∷◌, Bool, true, false, length, refl, subst, arith}
use Rattle.rv_isa.specs.declared.Cond.{Cond}
use Rattle.frag_code.specs.Fragments.{Fragment, While}
use Rattle.frag_code.specs.Meaning.{View, Rights, tested, holds, turns, frag_run}
use Rattle.frag_code.specs.Ends.{Ends}

module _ (g : Rights) (w : ℕ) (Q : View → Type 0) (c : Cond) (rs1 rs2 : ℕ) (body : Fragment) where
  -- a loop that is over
  over : (most : ℕ) (s : View) → holds c rs1 rs2 s ≡ false → Q (tested s)
      → Ends (turns most (holds c rs1 rs2) (frag_run g body w) s) Q
  over zero s held h = record { state = tested s; is = rw held refl; has = h }
  over (suc most) s held h = record { state = tested s; is = rw held refl; has = h }

  -- n turns where more may be made
  turns_count : (I : ℕ → View → Type 0)
      → ((n : ℕ) (s : View) → I (suc n) s → holds c rs1 rs2 s ≡ true → Ends (frag_run g body w (tested s)) (I n))
      → ((s : View) → I 0 s → holds c rs1 rs2 s ≡ false)
      → ((n : ℕ) (s : View) → I n s → holds c rs1 rs2 s ≡ false → Q (tested s))
      → (most n : ℕ) → n ≤ most → (s : View) → I n s → Ends (turns most (holds c rs1 rs2) (frag_run g body w) s) Q
  turns_count I next last out zero n few s h = by (holds c rs1 rs2 s) refl
    where
      none : n ≡ 0
      none = omega (arith, few)

      by : (t : Bool) → holds c rs1 rs2 s ≡ t → Ends (turns zero (holds c rs1 rs2) (frag_run g body w) s) Q
      by false held = over zero s held (out n s h held)
      by true held = let clash : holds c rs1 rs2 s ≡ false = last s (subst (λ k. I k s) none h) in absurd (cc)
  turns_count I next last out (suc most) n few s h = by (λ k le t i. turns_count I next last out most k le t i) n few h
      (holds c rs1 rs2 s) refl
    where
      by : ((k : ℕ) → k ≤ most → (t : View) → I k t → Ends (turns most (holds c rs1 rs2) (frag_run g body w) t) Q)
          → (n : ℕ) → n ≤ suc most → I n s → (t : Bool) → holds c rs1 rs2 s ≡ t
          → Ends (turns (suc most) (holds c rs1 rs2) (frag_run g body w) s) Q
      by more n few h false held = over (suc most) s held (out n s h held)
      by more zero few h true held = let clash : holds c rs1 rs2 s ≡ false = last s h in absurd (cc)
      by more (suc n) few h true held =
          let turn : Ends (frag_run g body w (tested s)) (I n) = next n s h held in
          let rest : Ends (turns most (holds c rs1 rs2) (frag_run g body w) turn.state) Q =
          more n (omega (arith, few)) turn.state turn.has in
          record { state = rest.state; is = rw (held, turn.is) rest.is; has = rest.has }

  -- at most n turns are left: one more where the condition holds, none is left where it can't hold, and
  -- what is wanted wherever it doesn't
  pub while_count : (I : ℕ → View → Type 0)
      → ((n : ℕ) (s : View) → I (suc n) s → holds c rs1 rs2 s ≡ true → Ends (frag_run g body w (tested s)) (I n))
      → ((s : View) → I 0 s → holds c rs1 rs2 s ≡ false)
      → ((n : ℕ) (s : View) → I n s → holds c rs1 rs2 s ≡ false → Q (tested s))
      → (n : ℕ) → n ≤ w → (s : View) → I n s → Ends (frag_run g (While c rs1 rs2 body) w s) Q
  unfolding frag_run
  while_count I next last out n few s h = turns_count I next last out w n few s h

-- the invariant down a list
pub record AlongList (A : Type 0) (I : List A → View → Type 0) (n : ℕ) (s : View) : Type 0 where
  pub list : List A
  pub long : length list ≡ n
  pub holds_there : I list s

module _ (g : Rights) (w : ℕ) (Q : View → Type 0) (c : Cond) (rs1 rs2 : ℕ) (body : Fragment) (A : Type 0)
    (I : List A → View → Type 0) where
  pub while_list : ((x : A) (xs : List A) (s : View) → I (x ∷ xs) s → holds c rs1 rs2 s ≡ true
      → Ends (frag_run g body w (tested s)) (I xs))
      → ((s : View) → I [] s → holds c rs1 rs2 s ≡ false)
      → ((xs : List A) (s : View) → I xs s → holds c rs1 rs2 s ≡ false → Q (tested s))
      → (xs : List A) → length xs ≤ w → (s : View) → I xs s → Ends (frag_run g (While c rs1 rs2 body) w s) Q
  while_list next last out xs few s h =
      while_count g w Q c rs1 rs2 body (AlongList A I) (λ n t i held. step n t i.list i.long i.holds_there held)
      (λ t i. none t i.list i.long i.holds_there)
      (λ n t i held. out i.list t i.holds_there held) (length xs) few s
      (record { list = xs; long = refl; holds_there = h })
    where
      step : (n : ℕ) (t : View) (l : List A) → length l ≡ suc n → I l t → holds c rs1 rs2 t ≡ true
          → Ends (frag_run g body w (tested t)) (AlongList A I n)
      step n t [] long i held = absurd (omega (arith, long))
      step n t (x ∷ l) long i held =
          let end : Ends (frag_run g body w (tested t)) (I l) = next x l t i held in
          record {
            state = end.state;
            is = end.is;
            has = record
                { list = l; long = omega (arith, long); holds_there = end.has };
          }

      none : (t : View) (l : List A) → length l ≡ 0 → I l t → holds c rs1 rs2 t ≡ false
      none t [] long i = last t i
      none t (x ∷ l) long i = absurd (omega (arith, long))
