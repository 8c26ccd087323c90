-- Segments that share no address and end below 2^31 take less than 2^32 bytes.
use Rattle.std.proofs.Common.{◌≤◌, arith}
use Rattle.elf_read.specs.Refusals.{memory_size}
use Rattle.elf_read.proofs.Sizes.{memory_fits}
use Rattle.elf_read.proofs.read_file.read_elf.Goals as goal

pub check_large-requires : goal.check_large-requires
check_large-requires c =
    let h : memory_size c.as_slice-program_headers.result.now ≤ 0x7ff00000 =
    memory_fits _ _ c.in_ok-check_out.ensures c.in_ok-check_overlap.ensures in
    omega (arith, h)
