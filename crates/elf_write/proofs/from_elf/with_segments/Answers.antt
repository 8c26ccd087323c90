-- The new file is laid out and loaded as the laws say of a file that was read.
use Rattle.std.proofs.Common.{ℕ, ◌+◌, ◌<◌, ◌≤◌, List, length, sym, subst, arith}
use Rattle.elf_spec.specs.declared.NewSegment.{NewSegment}
use Rattle.elf_spec.specs.Records.{e_phnum}
use Rattle.elf_read.specs.declared.elf_file.Elf.{Elf}
use Rattle.elf_read.specs.Elf.{IsReadFrom}
use Rattle.elf_write.specs.Kept.{AreAddedAbove, DoHeadersPass}
use Rattle.elf_write.specs.NewMemory.{NewMemory}
use Rattle.elf_write.proofs.Above.{above_pass}
use Rattle.elf_write.proofs.Written.{behind_header}
use Rattle.elf_write.proofs.StillReadable.{none_overlaps, readable_new}
use Rattle.elf_write.proofs.MemoryLaw.{new_memory}
use Rattle.elf_write.proofs.from_elf.with_segments.Goals as goal

headers : (elf : Elf) (file : List ℕ) (ss : List NewSegment) → IsReadFrom elf file → AreAddedAbove file ss
    → DoHeadersPass file ss
headers elf file ss read = above_pass file ss read.facts.segments (none_overlaps file read.readable)

pub returns-clause-headers : goal.returns-clause-headers
returns-clause-headers c = headers _ _ _ c.requires.read

pub returns-in_err-out-clause-headers : goal.returns-in_err-out-clause-headers
returns-in_err-out-clause-headers c = headers _ _ _ c.requires.read

pub returns-clause-readable : goal.returns-clause-readable
returns-clause-readable c = λ beside alone pass.
    let few : e_phnum c.args.file.now + length c.args.segments.now ≤ 100 =
    omega (arith, c.requires.has_few_headers, c.requires.few_segments) in
    readable_new c.args.file.now c.args.patches.now c.args.segments.now c.in_ok-out.out.items c.in_ok-out.ensures.layout
    c.requires.read.readable c.requires.read.facts
    (behind_header c.args.patches.now c.requires.patches_apart) few beside alone pass

pub returns-clause-memory : goal.returns-clause-memory
returns-clause-memory c =
    let few : e_phnum c.args.file.now + length c.args.segments.now < 65536 =
    omega (arith, c.requires.has_few_headers, c.requires.few_segments) in
    subst (NewMemory c.args.file.now c.args.patches.now c.args.segments.now) (sym c.in_ok-out.ensures.is)
    (new_memory c.args.file.now c.args.patches.now c.args.segments.now
    record {
      long = c.requires.read.facts.long;
      table = c.requires.read.facts.segment_table;
      inside =
          c.requires.patches_inside;
    }
    c.requires.patches_apart c.requires.read.facts.segments few)
