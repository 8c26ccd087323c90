use Rattle.std.proofs.Common.{◌≡◌, ◌+◌, ◌-◌, ◌++◌, take, drop, sym, ◌∙◌, arith}
use Rattle.std.proofs.lemmas.Grind.{common_steps}
use Rattle.byteorder.specs.Endian.{little_bytes}
use borrow.Rule.Slice.PartMut.{put_mid}
use Rattle.elf_write.proofs.Sets.{put_word-parts}
use Rattle.elf_write.proofs.bytes.set_word.Goals as goal

pub returns : goal.returns
returns c =
    let written : put_mid c.args.at (c.args.at + 4 - c.args.at) c.args.bytes.now c.write_u32.new.buf
    ≡ (take c.args.at c.args.bytes.now ++ little_bytes 4 c.args.number) ++ drop (c.args.at + 4) c.args.bytes.now =
    grind (arith, common_steps) in
    written ∙ sym (put_word-parts c.args.at c.args.number c.args.bytes.now c.requires c.ranges.number.fits)
