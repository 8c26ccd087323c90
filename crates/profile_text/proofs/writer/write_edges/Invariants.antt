use Rattle.std.proofs.Common.{◌≡◌, ◌++◌, map, take}
use Rattle.profile_text.specs.declared.lines.TextLine.TheVariants.{Joined}
use Rattle.profile_text.specs.Profile.{text_of}
use Rattle.profile_text.proofs.writer.write_edges.Given as goal

abbrev pub invariant-loop-edge : goal.invariant-loop-edge
invariant-loop-edge l = l.out.items ≡ l.fn.out.items ++ text_of (map Joined (take l.edge-index l.edges))
