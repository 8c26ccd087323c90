-- The sorted parts, with the greatest end so far, stand for the parts.
use Rattle.std.proofs.Common.{List, rules}
use Rattle.std.specs.List.Sorted.{IsNonDecreasingBy}
use Rattle.std.proofs.lemmas.List.Sorted.{IsNonDecreasingBy-from_sort_by_key}
use Rattle.exec_image.specs.declared.parts.Part.{Part}
use Rattle.exec_image.specs.Parts.{StandsFor, running}
use Rattle.exec_image.proofs.Running.{gives, running_stands, stands_permuted}
use Rattle.exec_image.proofs.parts.in_order.Goals as goal

pub returns : goal.returns
returns c =
    let ps : List Part = c.sort_unstable_by_key.new.self.items in
    let up : IsNonDecreasingBy (λ p. p.start) ps =
    IsNonDecreasingBy-from_sort_by_key (λ p. p.start) _ c.sort_unstable_by_key.ensures.sorted
    (λ a r q k. search rules) in
    let h : StandsFor c.args.parts.items (running 0 ps) =
    stands_permuted c.args.parts.items ps (running 0 ps) c.sort_unstable_by_key.ensures.permutation
    (running_stands ps up) in
    gives c.with_ends.result c.args.parts.items (running 0 ps) h (search rules)
