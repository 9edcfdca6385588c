use Rattle.std.proofs.Common.{Bool, List, ◌∷◌, ap, ◌∙◌}
use Rattle.book.specs.Book.{Book}
use Rattle.finders.specs.Runs.{taken, ends}
use Rattle.finders.proofs.LatestRuns.{taken_newest}
use Rattle.matching.specs.Seen.{Heard, Has}
use Rattle.matching.proofs.Spots.{spots, past_book}
use Rattle.matching.proofs.spot.Goals as goal

pub returns : goal.returns
returns g c =
    let hears : g.row.C.Denot → g.row.C-Sample.Denot → Bool = g.C.Cell.hears in
    let stood = g.F.Finder.stands c.args.finder.now in
    let next : (b : Book g.row.C.Denot) (newest : List g.row.C-Sample.Denot) (s : g.row.C-Sample.Denot) → Has g.C.Cell g.F.Finder c.args.finder.now b newest → Heard g.C.Cell g.F.Finder c.args.symbol s → Has g.C.Cell g.F.Finder c.take.new.self b (s ∷ newest) = λ b newest s r heard. record {
      of = c.take.ensures.book ∙ r.of;
      proper = r.proper;
      runs = λ p. c.take.ensures.stands p ∙ (λ i. taken (r.of i) (λ x. heard.alike x i) stood p) ∙ taken_newest hears b stood newest s r.runs p;
    } in
    record {
      finder = next;
      spots = λ b newest s r heard.
          let later = next b newest s r heard in
          record {
            ended = (
              (λ k. c.ended_all.ensures k ∙ ap (λ x. ends x (g.F.Finder.stands c.take.new.self) k) later.of ∙ spots hears (s ∷ newest) b (g.F.Finder.stands c.take.new.self) k later.proper.each later.runs),
              past_book hears (s ∷ newest) b,
            );
          };
    }
