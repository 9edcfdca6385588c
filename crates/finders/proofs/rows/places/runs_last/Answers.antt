use Rattle.std.proofs.Common.{ℕ, Bool, ap, ◌∙◌, rules}
use Rattle.finders.specs.Places.{marked}
use Rattle.finders.specs.Runs.{ends_among}
use Rattle.finders.proofs.Marks.{ends_got}
use Rattle.finders.proofs.rows.places.runs_last.Goals as goal

pub returns : goal.returns
returns g c =
    let stands : ℕ → Bool = λ p. marked c.args.runs.now p in
    ends_got stands (λ x. x.now) c.get.result _ _ _ _ _ c.get.ensures.lookup.1 c.get.ensures.lookup.3 c.is_some_and.ensures (λ x q. search rules)
    ∙ ap (λ rs. ends_among rs stands c.args.keyword) c.keywords.ensures.rows
