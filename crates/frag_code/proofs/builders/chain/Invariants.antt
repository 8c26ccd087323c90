use Rattle.std.proofs.Common.{◌≡◌, map, length}
use Rattle.frag_code.specs.Fragments.{plain, chained}
use Rattle.frag_code.proofs.Chains.{chained_onto}
use Rattle.frag_code.proofs.builders.chain.Given as goal

abbrev pub invariant-loop-part : goal.invariant-loop-part
invariant-loop-part l = chained_onto (map plain l.parts.items) (plain l.all) ≡ chained (map plain l.fn.parts.items)

abbrev pub decreases-loop-part : goal.decreases-loop-part
decreases-loop-part l = length l.parts.items
