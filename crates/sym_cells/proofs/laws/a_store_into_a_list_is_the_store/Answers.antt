use Rattle.sym_cells.proofs.Lists.{store_in_bounds, length-store, spans_after, store_spans}
use Rattle.sym_cells.proofs.laws.a_store_into_a_list_is_the_store.Goals as goal

pub returns : goal.returns
returns c = record {
  list = store_in_bounds;
  as_many = λ cells width o v. length-store width o v cells;
  spans = store_spans;
  same_spans = spans_after;
}
