use Rattle.new_file_laws.proofs.HeapEntries.{lacks_all}
use Rattle.new_file_laws.proofs.laws.files_without_entries_have_no_heap_function.Goals as goal

pub returns : goal.returns
returns c = lacks_all
