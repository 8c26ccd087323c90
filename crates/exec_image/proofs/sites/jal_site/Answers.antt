-- The entry is the one that a site needs.
use Rattle.std.proofs.Common.{◌≡◌, ◌==◌, ◌∙◌, true, false, refl, sym}
use Rattle.std.specs.List.{list_any}
use Rattle.elf_spec.specs.Relocations.{has_reloc, relocs_of}
use Rattle.site_spec.specs.Sites.{call_at}
use Rattle.exec_image.proofs.sites.jal_site.Goals as goal

pub returns-then-is_among-clause-exact : goal.returns-then-is_among-clause-exact
unfolding call_at
returns-then-is_among-clause-exact c =
    let e : list_any (λ p. p == c.args.addr) c.as_slice.result.now ≡ true =
    sym c.is_among.ensures ∙ c.if-is_among.true in
    let h : has_reloc (relocs_of c.args.from.now.file.now) 17 c.args.addr ≡ true =
    sym (c.requires.sources.calls.jals c.args.addr) ∙ rw c.as_slice.ensures.value at e in
    rw (h, c.reaches_all_stubs.ensures) refl

pub returns-else-is_among-clause-exact : goal.returns-else-is_among-clause-exact
unfolding call_at
returns-else-is_among-clause-exact c =
    let e : list_any (λ p. p == c.args.addr) c.as_slice.result.now ≡ false =
    sym c.is_among.ensures ∙ c.if-is_among.false in
    let h : has_reloc (relocs_of c.args.from.now.file.now) 17 c.args.addr ≡ false =
    sym (c.requires.sources.calls.jals c.args.addr) ∙ rw c.as_slice.ensures.value at e in
    rw h refl
