-- The segment that places a code word puts it where the section says.
use Rattle.std.proofs.Common.{◌≡◌, sym, ◌∙◌}
use Rattle.elf_spec.specs.Code.{code_place}
use Rattle.exec_image.proofs.CodePlaces.{place_exact, place_some}
use Rattle.exec_image.proofs.code.code_place.Goals as goal

placed : (c : goal.After-place_in) → c.place_in.result ≡ code_place c.args.file.now c.args.addr
placed c =
    c.place_in.ensures
    ∙ place_exact c.args.file.now c.args.segments.now c.args.code.now c.args.addr c.requires
    (sym c.is_code_word.ensures ∙ c.if-is_code_word.true)

pub returns-then-is_code_word-clause-exact : goal.returns-then-is_code_word-clause-exact
returns-then-is_code_word-clause-exact c = placed c

pub returns-then-is_code_word-clause-inside : goal.returns-then-is_code_word-clause-inside
returns-then-is_code_word-clause-inside c =
    (place_some c.args.file.now c.args.segments.now c.args.code.now c.args.addr c.place_in.result c.requires
    (placed c)).0

pub returns-then-is_code_word-clause-low : goal.returns-then-is_code_word-clause-low
returns-then-is_code_word-clause-low c =
    (place_some c.args.file.now c.args.segments.now c.args.code.now c.args.addr c.place_in.result c.requires
    (placed c)).1
