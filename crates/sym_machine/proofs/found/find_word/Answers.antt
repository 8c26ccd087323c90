use Rattle.std.proofs.Common.{◌≡◌, sym, ◌∙◌}
use Rattle.std.specs.Prelude.{Some, None}
use Rattle.site_spec.specs.Sites.{site_at}
use Rattle.sym_machine.specs.Found.{mask_at}
use Rattle.sym_machine.proofs.Finding.{found_call, found_word}
use Rattle.sym_machine.proofs.found.find_word.Goals as goal

pub returns-in-Some-clause-found : goal.returns-in-Some-clause-found
returns-in-Some-clause-found c =
    let site : site_at c.args.image.now c.args.addr ≡ Some c.in-Some.site = sym c.site.ensures.exact ∙ c.in-Some.is in
    let mask : c.mask_at-mask.result ≡ mask_at c.args.plan.now c.args.addr =
    rw c.as_slice.ensures at c.mask_at-mask.ensures in
    rw (c.call_found.ensures.found, mask)
    (sym (found_call c.args.image.now c.args.plan.now c.args.addr c.args.word c.in-Some.site c.requires.second
    c.requires.word c.requires.name site))

pub returns-in-None-clause-found : goal.returns-in-None-clause-found
returns-in-None-clause-found c =
    let site : site_at c.args.image.now c.args.addr ≡ None = sym c.site.ensures.exact ∙ c.in-None.is in
    let mask : c.mask_at-mask.result ≡ mask_at c.args.plan.now c.args.addr =
    rw c.as_slice.ensures at c.mask_at-mask.ensures in
    rw (c.decode.ensures.exact, mask)
    (sym (found_word c.args.image.now c.args.plan.now c.args.addr c.args.word c.requires.second c.requires.word
    c.requires.name site))
