-- The text has zeros up to the heap's words, and then these.
use Rattle.std.proofs.Common.{◌≡◌, ap, ◌∙◌, arith, length}
use Rattle.site_spec.specs.Places.{text_at}
use Rattle.new_file_spec.specs.Rewritten.{text_segment}
use Rattle.rewriter.proofs.HeapTexts.{heap_text_is}
use Rattle.rewriter.proofs.text.heap_segment.Goals as goal

pub returns : goal.returns
returns c =
    let long : c.in_ok-text.text.len ≡ length c.in_ok-text.text.items = omega (arith, c.in_ok-text.text.ok.0) in
    c.segment_of.ensures
    ∙ ap (text_segment (text_at c.args.image.now)) (heap_text_is c.args.image.now c.args.plan.now c.args.words.now
    c.in_ok-text.text.items _ _ c.in_ok-text.text.len long c.in_ok-text.ensures.is c.in_ok-text.ensures.short
    c.in_ok-resize.ensures.items
    c.in_ok-push_words.ensures.is)
