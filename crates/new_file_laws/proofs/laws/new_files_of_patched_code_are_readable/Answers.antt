-- The patches leave all that is read, and the headers pass.
use Rattle.new_file_laws.proofs.Readable.{readable_again}
use Rattle.new_file_laws.proofs.laws.new_files_of_patched_code_are_readable.Goals as goal

pub returns : goal.returns
returns c = readable_again c.new_files_are_read_again.ensures
