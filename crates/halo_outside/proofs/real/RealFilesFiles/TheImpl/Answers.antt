use Rattle.std.proofs.Common.{arith, refl, inl, IfOk, Result, Ok, Err}
use Rattle.halo_outside.proofs.real.RealFilesFiles.TheImpl.Goals as goal

-- a fact that holds of every answer holds of one that is Ok
always : {T E : Type 0} (r : Result T E) → IfOk r (λ _. Unit {0})
always (Ok _) = tt
always (Err _) = tt

pub read-tells : goal.read-tells
read-tells g c = record {
  same = refl;
  later = c.ensures.later;
  more = c.ensures.more;
  bound = c.ensures.bound;
  whole = always c.result;
  counted = c.ensures.counted;
  failed = λ is. inl (let now : _ = c.ensures.fault is in omega arith);
  lacking = λ never. absurd never;
  lacking_keeps = λ never. absurd never;
  too_long = c.ensures.too_long;
  longer = λ never. absurd never;
  memory = λ is. c.ensures.no_fault (λ failed. cc);
}
