use Rattle.std.proofs.Common.{◌+◌, ◌++◌, drop, ap, ◌∙◌, arith}
use Rattle.page.specs.Letters.{letters_of}
use Rattle.page.proofs.Spelling.{letter_more, letters_end_at, letters_end_all}
use Rattle.page.proofs.fields.read_letters.Goals as goal

pub loop-byte-preserved : goal.loop-byte-preserved
loop-byte-preserved c =
    let m = letter_more _ _ c.args.field.now c.loop-byte.byte-index c.in-Ok.cell c.loop-byte-test.true c.in-Ok.ensures c.loop-byte.invariant.1 in
    (omega (arith, c.push.ensures.len), ap (λ cells. cells ++ letters_of (drop (c.loop-byte.byte-index + 1) c.args.field.now)) c.push.ensures.items ∙ m)

pub returns-after-loop-byte-clause-cells : goal.returns-after-loop-byte-clause-cells
returns-after-loop-byte-clause-cells c = letters_end_all _ _ c.args.field.now c.loop-byte.byte-index (omega arith) c.loop-byte.invariant.1

pub returns-in_default-clause-cells : goal.returns-in_default-clause-cells
returns-in_default-clause-cells c = letters_end_at _ _ c.args.field.now c.loop-byte.byte-index c.in_default.field-0 c.loop-byte-test.true c.in_default.ensures c.loop-byte.invariant.1
