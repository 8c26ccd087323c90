-- What words and bytes stand for, where one more block has an address.
use Rattle.std.proofs.Common.{◌≡◌, ℕ, ◌+◌, ◌%◌, ◌^◌, List, [], ◌∷◌, ◌++◌, Bool, sym, ◌∙◌, refl, ap, arith}
use Rattle.std.proofs.lemmas.List.{length-append, get_or_append_left}
use Rattle.machine_spec.specs.Memory.{Range}
use Rattle.machine_spec.specs.Widths.{number_of}
use Rattle.sym_value.specs.declared.Value.{Value}
use Rattle.sym_value.specs.declared.Value.TheVariants.{Num, Ptr, Ret, Mix, Part, Unset}
use Rattle.sym_value.specs.declared.Whole.{Whole}
use Rattle.sym_value.specs.declared.Whole.TheVariants.{Ptr as WholePtr, Ret as WholeRet}
use Rattle.sym_value.specs.Standing.{address, standing, byte_of_word, IsPointer, IsWhole, Holds}
use Rattle.sym_cells.specs.declared.Mark.{Mark}
use Rattle.sym_cells.specs.declared.Mark.TheVariants.{Known, Blank, Piece}
use Rattle.sym_cells.specs.Cells.{Cells, mark_at}
use Rattle.sym_cells.specs.Region.{MarkStands, Region}

module _ (back : ℕ → ℕ) (at : List ℕ) (a : ℕ) where
  abbrev more : List ℕ
  more = at ++ a ∷ []

  address_same : (b o : ℕ) → IsPointer at b o → address more b o ≡ address at b o
  address_same b o p = ap (λ n. (n + o) % 2 ^ 32) (get_or_append_left at (a ∷ []) 0 b p.0)

  pointer_more : (b o : ℕ) → IsPointer at b o → IsPointer more b o
  pointer_more b o p = let long = length-append at (a ∷ []) in let l = p.0 in (omega (arith, long, l), p.1)

  whole_same : (s : Whole) → IsWhole at s → standing back more s ≡ standing back at s
  whole_same (WholePtr b o) p = address_same b o p
  whole_same (WholeRet r) p = refl

  whole_more : (s : Whole) → IsWhole at s → IsWhole more s
  whole_more (WholePtr b o) p = pointer_more b o p
  whole_more (WholeRet r) p = p

  pub holds_more : (v : Value) (w : ℕ) → Holds back at v w → Holds back more v w
  holds_more (Num n) w h = record { stands = h.stands; value = h.value }
  holds_more (Ptr b o) w h = record {
    stands = address_same b o h.value ∙ h.stands;
    value = pointer_more b o h.value;
  }
  holds_more (Ret r) w h = record { stands = h.stands; value = h.value }
  holds_more (Mix low) w h = record { stands = h.stands; value = h.value }
  holds_more (Part s i) w h = record {
    stands = h.stands ∙ ap (byte_of_word i) (sym (whole_same s h.value.0));
    value = (whole_more s h.value.0, h.value.1);
  }
  holds_more Unset w h = record { stands = h.stands; value = h.value }

  mark_more : (m : Mark) (b : ℕ) → MarkStands back at m b → MarkStands back more m b
  mark_more (Known n) b h = h
  mark_more Blank b h = h
  mark_more (Piece s i) b (is, whole, low) =
      (is ∙ ap (byte_of_word i) (sym (whole_same s whole)), whole_more s whole, low)

  pub region_more : (memory : List Range) (base : ℕ) (covers : ℕ → Bool) (cells : Cells)
      → Region back at memory base covers cells → Region back more memory base covers cells
  region_more memory base covers cells r = record {
    marks = λ o b reached there. mark_more (mark_at cells o) b (r.marks o b reached there);
    mixes = λ k low bs reached mixed there. holds_more (Mix low) (number_of bs) (r.mixes k low bs reached mixed there);
  }
