use Rattle.std.proofs.Common.{◌≡◌, ◌+◌, ◌≤◌, length, map, filter, take, get_or, ap, ◌∙◌}
use Rattle.std.specs.List.{All}
use Rattle.std.proofs.lemmas.List.{take_all}
use Rattle.elf_spec.specs.declared.Segment.{Segment}
use Rattle.elf_spec.specs.Memory.{is_loaded}
use Rattle.elf_spec.specs.Records.{segments_of}
use Rattle.elf_read.specs.declared.elf_file.Elf.{Elf}
use Rattle.elf_read.specs.Readable.{IsLoadedInside, ReadableFacts}
use Rattle.machine_spec.specs.Memory.{stack_start}
use Rattle.flat_mem.specs.declared.area.Area.{Area}
use Rattle.flat_mem.specs.Building.{area_for, memory_in}
use Rattle.flat_mem.proofs.Apart.{areas_away, before_apart, memory_whole, segments_below}
use Rattle.flat_mem.proofs.loading.load.Goals as goal

pub add_segment-requires-clause-apart : goal.add_segment-requires-clause-apart
add_segment-requires-clause-apart c =
    let facts : ReadableFacts c.args.file.now = c.readable_files_keep_their_facts.ensures c.args.file.now
    c.requires.readable in
    let same : c.as_slice-segments.result.now ≡ segments_of c.args.file.now = c.as_slice-segments.ensures
    ∙ ap (λ (e : Elf). e.segments) c.requires.read in
    let none : Segment = record {
      kind = 0;
      offset = 0;
      vaddr = 0;
      paddr = 0;
      file_size = 0;
      mem_size = 0;
      flags = 0;
      align = 0;
    } in
    λ loaded. rw c.loop-segment.invariant.areas (areas_away
    (get_or c.as_slice-segments.result.now c.loop-segment.segment-index none)
    (take c.loop-segment.segment-index c.as_slice-segments.result.now) loaded
    (before_apart c.as_slice-segments.result.now c.loop-segment.segment-index none (rw same facts.apart)
    c.loop-segment-test.true))

pub add_stack-requires-clause-below : goal.add_stack-requires-clause-below
add_stack-requires-clause-below c =
    let facts : ReadableFacts c.args.file.now = c.readable_files_keep_their_facts.ensures c.args.file.now
    c.requires.readable in
    let same : c.as_slice-segments.result.now ≡ segments_of c.args.file.now = c.as_slice-segments.ensures
    ∙ ap (λ (e : Elf). e.segments) c.requires.read in
    let all : take c.loop-segment.segment-index c.as_slice-segments.result.now ≡ c.as_slice-segments.result.now =
    take_all _ _ c.loop-segment-test.false in
    let inside : All (IsLoadedInside (length c.args.file.now)) c.as_slice-segments.result.now =
    rw same facts.segments in
    let below : All (λ (r : Area). r.start + r.size ≤ stack_start)
    (map area_for (filter is_loaded c.as_slice-segments.result.now)) =
    segments_below (length c.args.file.now) c.as_slice-segments.result.now inside in
    rw (c.loop-segment.invariant.areas, all) below

pub returns : goal.returns
returns c =
    let same : c.as_slice-segments.result.now ≡ segments_of c.args.file.now = c.as_slice-segments.ensures
    ∙ ap (λ (e : Elf). e.segments) c.requires.read in
    let all : take c.loop-segment.segment-index c.as_slice-segments.result.now ≡ c.as_slice-segments.result.now =
    take_all _ _ c.loop-segment-test.false in
    c.with_table.ensures
    ∙ c.new-storage.ensures
    ∙ memory_whole c.args.file.now c.as_slice-segments.result.now (memory_in c.loop-segment.memory)
    (memory_in c.add_stack.new.memory) same (rw all at c.loop-segment.invariant.ranges)
    c.in_ok-add_stack.ensures.ranges
