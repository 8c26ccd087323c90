use Rattle.text_fields.proofs.Fronts.{front_takes, front_again, cut_takes, cut_first, cut_found, cut_none, none_cut}
use Rattle.text_fields.proofs.laws.parts_are_read_where_they_stand.Goals as goal

pub returns : goal.returns
returns c = record {
  front = λ front bytes rest. (front_takes front bytes rest, λ is. rw is (front_again front rest));
  parts = λ end bytes word rest. (
    λ found. (cut_takes end bytes word rest found, cut_first end bytes word rest found),
    λ is. rw (is.0) (cut_found end word rest is.1),
  );
  whole = λ end bytes. (cut_none end bytes, none_cut end bytes);
}
