use Rattle.std.proofs.Common.{◌≡◌, Ok, sym, ap, ◌∙◌, subst, rules}
use Rattle.bench.specs.Keeping.{told}
use Rattle.parting.specs.declared.commands.Command.{Command}
use Rattle.parting.specs.Replies.{said, fed}
use Rattle.parting.specs.Runs.{Answered}
use Rattle.parting.proofs.runs.answer.Goals as goal

pub returns-in_ok-feed-in-Feed : goal.returns-in_ok-feed-in-Feed
returns-in_ok-feed-in-Feed g c =
    let tick : said (Ok c.into.result) ≡ fed (told c.feed.result) = search rules in
    subst (λ (x : Command g.row.C-Sample.Denot). Answered g.C.Cell g.F.Finder c.args.bench.now x (Ok c.into.result) c.feed.new.self) (sym c.in-Feed.is)
    (record {
      replied = λ b h r. tick ∙ ap fed (c.feed.ensures.answer b h r);
      history = λ b h r. c.feed.ensures.history b h r;
    })

pub returns-in_err-feed-in-Feed : goal.returns-in_err-feed-in-Feed
returns-in_err-feed-in-Feed g c =
    let refused : said c.from_residual.result ≡ fed (told c.feed.result) = search rules in
    subst (λ (x : Command g.row.C-Sample.Denot). Answered g.C.Cell g.F.Finder c.args.bench.now x c.from_residual.result c.feed.new.self) (sym c.in-Feed.is)
    (record {
      replied = λ b h r. refused ∙ ap fed (c.feed.ensures.answer b h r);
      history = λ b h r. c.feed.ensures.history b h r;
    })
