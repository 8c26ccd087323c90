use Rattle.std.proofs.Common.{◌≡◌, ◌<◌, [], ◌∷◌, ◌++◌, take, length, slice_index_or, ap, sym, ◌∙◌, arith}
use Rattle.std.proofs.lemmas.List.{append-nil, length-append, take_all}
use Rattle.std.proofs.lemmas.Str.{encode_ascii}
use Rattle.text_fields.specs.Writing.{hex8}
use Rattle.endings.proofs.Digits.{digits_are_ascii, eight_digits, one_more}
use Rattle.endings.proofs.parts.push_address.Goals as goal

pub loop-digit-init : goal.loop-digit-init
loop-digit-init c = (sym (append-nil _), omega arith)

-- the digit at hand is one byte
is_ascii : (c : goal.After-from) → c.from.result < 128
is_ascii c = rw (c.from.ensures, c.hex_digits-digits.ensures) (digits_are_ascii _ _ c.loop-digit-test.true)

pub push-requires : goal.push-requires
push-requires c =
    let size = c.loop-digit.invariant.1 in
    let one = ap length (encode_ascii _ (is_ascii c)) in
    (omega arith, omega (arith, size, one, c.requires, c.loop-digit-test.true))

pub loop-digit-preserved : goal.loop-digit-preserved
loop-digit-preserved c =
    let digit : c.from.result < 128 =
    rw (c.from.ensures, c.hex_digits-digits.ensures) (digits_are_ascii _ _ c.loop-digit-test.true) in
    let pushed = c.push.ensures.ascii digit in
    let is : c.from.result ≡ slice_index_or (hex8 c.args.word) c.loop-digit.digit-index 0 =
    rw (← c.hex_digits-digits.ensures) c.from.ensures in
    let eight = eight_digits c.args.word in
    let longer = length-append c.loop-digit.line.bytes (c.from.result ∷ []) in
    let size = c.loop-digit.invariant.1 in
    let long = ap length pushed in (
      pushed ∙ ap (λ x. x ++ c.from.result ∷ []) c.loop-digit.invariant.0
          ∙ ap (λ x. c.args.line.now.bytes ++ take c.loop-digit.digit-index (hex8 c.args.word) ++ x ∷ []) is
          ∙ one_more _ (hex8 c.args.word) _ (omega (arith, eight, c.loop-digit-test.true)),
      omega (arith, long, longer, size),
    )

pub returns-clause-exact : goal.returns-clause-exact
returns-clause-exact c =
    let eight = eight_digits c.args.word in
    c.loop-digit.invariant.0 ∙ ap (λ x. c.args.line.now.bytes ++ x)
    (take_all _ (hex8 c.args.word) (omega (arith, eight, c.loop-digit-test.false)))

pub returns-clause-size : goal.returns-clause-size
returns-clause-size c =
    let size = c.loop-digit.invariant.1 in
    omega (arith, size, c.loop-digit-test.false, c.loop-digit.auto.digit-index-end)
