use Rattle.std.proofs.Common.{ap, ◌∙◌, rules}
use Rattle.std.proofs.lemmas.List.{take_rest}
use Rattle.page.specs.Decimals.{points_in, whole_of, signed_of}
use Rattle.page.proofs.Steps.{minus_read}
use Rattle.page.proofs.fields.read_points.Goals as goal

pub returns-in-45 : goal.returns-in-45
unfolding points_in
returns-in-45 c =
    let bytes = c.skip_blanks.result.now in
    minus_read bytes c.read_whole.result c.and_then.result (search rules) (c.read_whole.ensures.value ∙ ap whole_of (take_rest bytes 1)) c.and_then.ensures
    ∙ ap signed_of c.skip_blanks.ensures.rest

pub returns-in_default : goal.returns-in_default
unfolding points_in
returns-in_default c = search rules
