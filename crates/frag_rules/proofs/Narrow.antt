-- Runs under few rights: what holds under them holds under more, and what they don't allow stays.
use Rattle.std.proofs.Common.{◌≡◌, ℕ, ◌≤◌, false, arith}
use Rattle.frag_code.specs.Ends.{Ends}
use Rattle.frag_code.specs.Fragments.{Fragment}
use Rattle.frag_code.specs.Frames.{assigns, has_stores, HasMore}
use Rattle.frag_code.specs.Meaning.{View, Rights, is_allowed, frag_run}
use Rattle.frag_code.proofs.Frames.{run_grows, word_stays, memory_stays, register_stays}

-- the same run, with more rights and more turns
pub ends_more : (few more : Rights) (f : Fragment) (w most : ℕ) (s : View) (Q : View → Type 0) → HasMore few more
    → w ≤ most
    → Ends (frag_run few f w s) Q → Ends (frag_run more f most s) Q
ends_more few more f w most s Q h le e =
    record { state = e.state; is = run_grows few more h w most le f s e.state e.is; has = e.has }

-- under more rights, and the words that the few don't allow stay
abbrev pub Stays : Rights → View → (View → Type 0) → View → Type 0
Stays few s Q t = Q t × ((a : ℕ) → is_allowed few.writes a ≡ false → t.memory a ≡ s.memory a)

pub ends_narrow : (few more : Rights) (f : Fragment) (w : ℕ) (s : View) (Q : View → Type 0) → HasMore few more
    → Ends (frag_run few f w s) Q → Ends (frag_run more f w s) (Stays few s Q)
ends_narrow few more f w s Q h e = record {
  state = e.state;
  is = run_grows few more h w w (omega arith) f s e.state e.is;
  has = (e.has, λ a free. word_stays few a free f w s e.state e.is);
}

-- a register that the fragment doesn't write stays
pub ends_keep : (g : Rights) (f : Fragment) (w r : ℕ) (s : View) (Q : View → Type 0) → assigns f r ≡ false
    → Ends (frag_run g f w s) Q → Ends (frag_run g f w s) (λ t. Q t × (t.registers r ≡ s.registers r))
ends_keep g f w r s Q h e =
    record { state = e.state; is = e.is; has = (e.has, register_stays g r f w s e.state h e.is) }

-- each register that the fragment doesn't write stays
pub ends_keep_all : (g : Rights) (f : Fragment) (w : ℕ) (s : View) (Q : View → Type 0) → Ends (frag_run g f w s) Q
    → Ends (frag_run g f w s) (λ t. Q t × ((r : ℕ) → assigns f r ≡ false → t.registers r ≡ s.registers r))
ends_keep_all g f w s Q e =
    record { state = e.state; is = e.is; has = (e.has, λ r h. register_stays g r f w s e.state h e.is) }

-- a fragment without stores leaves memory
pub ends_same : (g : Rights) (f : Fragment) (w : ℕ) (s : View) (Q : View → Type 0) → has_stores f ≡ false
    → Ends (frag_run g f w s) Q
    → Ends (frag_run g f w s) (λ t. Q t × (t.memory ≡ s.memory))
ends_same g f w s Q h e = record { state = e.state; is = e.is; has = (e.has, memory_stays g f w s e.state h e.is) }
