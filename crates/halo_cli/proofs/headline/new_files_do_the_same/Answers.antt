-- A file that was rewritten does the same.
use Rattle.halo_cli.proofs.headline.new_files_do_the_same.Goals as goal

pub returns : goal.returns
returns c = λ file plan new input n is bytes safe. is.same input bytes n safe
