use Rattle.std.proofs.Common.{◌≡◌, rules}
use Rattle.elf_spec.specs.Code.{code_word}
use Rattle.exec_image.proofs.Absent.{code_none}
use Rattle.exec_image.proofs.image.Image.code_word.Goals as goal

pub returns-clause-none : goal.returns-clause-none
returns-clause-none c =
    let is : c.code_word.result ≡ code_word c.args.self.now c.args.addr = search rules in
    rw is (code_none c.args.self.now c.args.addr)
