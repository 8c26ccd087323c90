-- Rights to the words of one stretch of memory or of two.
use Rattle.std.specs.Prelude.{ℕ, Bool, ◌&&◌, ◌||◌, nat_le, nat_lt}
use Rattle.frag_code.specs.Meaning.{Rights}

-- an address lies from one on and below another
abbrev pub in_span : (lo hi : ℕ) → ℕ → Bool
in_span lo hi a = nat_le lo a && nat_lt a hi

-- to read and write the words of a stretch
abbrev pub one_span : (lo hi : ℕ) → Rights
one_span lo hi = record { reads = in_span lo hi; writes = in_span lo hi }

-- to read and write those of two
abbrev pub two_spans : (lo hi from to : ℕ) → Rights
two_spans lo hi from to = record {
  reads = λ a. in_span lo hi a || in_span from to a;
  writes = λ a. in_span lo hi a || in_span from to a;
}
