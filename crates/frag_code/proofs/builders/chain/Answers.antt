use Rattle.std.proofs.Common.{map, sym, ap, ◌∙◌}
use Rattle.frag_code.specs.Fragments.{plain}
use Rattle.frag_code.proofs.Chains.{chained_onto, onto_skip, onto_last}
use Rattle.frag_code.proofs.builders.chain.Goals as goal

pub loop-part-init : goal.loop-part-init
loop-part-init c = onto_skip (map plain c.args.parts.items)

pub loop-part-preserved : goal.loop-part-preserved
loop-part-preserved c =
    ap (chained_onto (map plain c.pop.new.self.items)) c.in_ok-all.ensures
    ∙ (sym (onto_last c.pop.new.self.items c.in-Some.part (plain c.loop-part.all))
    ∙ (ap (λ x. chained_onto (map plain x) (plain c.loop-part.all)) (sym c.in-Some.ensures.items)
    ∙ c.loop-part.invariant))
