-- The buffer holds the new file, which is laid out as the law says.
use Rattle.std.proofs.Common.{◌≡◌, length, sym, subst, arith}
use Rattle.std.proofs.lemmas.Grind.{common_steps}
use Rattle.elf_spec.specs.NewFile.{new_file, table_end}
use Rattle.elf_write.specs.Ends.{contents_end, new_length}
use Rattle.elf_write.specs.Layout.{NewLayout}
use Rattle.elf_write.proofs.LayoutLaw.{new_layout}
use Rattle.elf_write.proofs.with_new_segments.Goals as goal

buffer_is : (c : goal.In_ok-push_contents) → c.push_contents.new.out.items
    ≡ new_file c.args.file.now c.args.patches.now c.args.segments.now
unfolding new_file
buffer_is c = grind (arith, common_steps)

pub returns-clause-layout : goal.returns-clause-layout
returns-clause-layout c =
    subst (NewLayout c.args.file.now c.args.patches.now c.args.segments.now) (sym (buffer_is c))
    (new_layout c.args.file.now c.args.patches.now c.args.segments.now record
    { long = c.requires.has_file_header; table = c.requires.has_table; inside = c.requires.patches_inside })

pub returns-clause-fits_33_mib : goal.returns-clause-fits_33_mib
returns-clause-fits_33_mib c =
    let long : length c.push_contents.new.out.items ≡ new_length c.args.file.now c.args.segments.now =
    (returns-clause-layout c).length_is in
    let end : c.table_end-end.result ≡ table_end c.args.file.now c.args.segments.now = c.table_end-end.ensures.is in
    let same : c.contents_end.result ≡ new_length c.args.file.now c.args.segments.now =
    subst (λ n. c.contents_end.result ≡ contents_end n c.args.segments.now) end c.contents_end.ensures.is in
    omega arith
