use Rattle.grouping.proofs.Weighing.{heavy_are}
use Rattle.grouping.proofs.kept.Kept.new.Goals as goal

pub loop_weights-requires : goal.loop_weights-requires
loop_weights-requires c = record {
  edges = rw (c.as_slice.ensures.value, c.in_ok-edges.ensures)
      (heavy_are _ c.args.least c.args.edges.now c.requires.edges);
}

pub returns-clause-kept : goal.returns-clause-kept
returns-clause-kept c = record {
  edges = rw c.in_ok-edges.ensures (heavy_are _ c.args.least c.args.edges.now c.requires.edges);
  count = c.in_ok-loops.ensures.0;
  loops = rw (c.as_slice.ensures.value) at c.in_ok-loops.ensures.1;
}
