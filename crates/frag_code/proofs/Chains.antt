-- Fragments one after the other, put together from the last.
use Rattle.std.proofs.Common.{◌≡◌, List, [], ◌∷◌, ◌++◌, refl, ap, map}
use Rattle.frag_code.specs.declared.Frag.{Frag}
use Rattle.frag_code.specs.Fragments.{Fragment, Skip, Seq, plain, chained}

-- the fragments before those that are put together
abbrev pub chained_onto : List Fragment → Fragment → Fragment
chained_onto [] end = end
chained_onto (f ∷ fs) end = Seq f (chained_onto fs end)

pub onto_skip : (fs : List Fragment) → chained_onto fs Skip ≡ chained fs
onto_skip [] = refl
onto_skip (f ∷ fs) = ap (Seq f) (onto_skip fs)

pub onto_last : (parts : List Frag) (last : Frag) (end : Fragment)
    → chained_onto (map plain (parts ++ last ∷ [])) end ≡ chained_onto (map plain parts) (Seq (plain last) end)
onto_last [] last end = refl
onto_last (p ∷ parts) last end = ap (Seq (plain p)) (onto_last parts last end)
