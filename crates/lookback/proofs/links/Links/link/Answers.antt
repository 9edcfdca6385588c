use Rattle.std.proofs.Common.{◌+◌, sym, ap, ◌∙◌, add-one, arith}
use Rattle.lookback.specs.Prefixes.{opens, reach}
use Rattle.lookback.proofs.Grows.{opened_more, followed_more, listed_more, used_more}
use Rattle.lookback.proofs.links.Links.link.Goals as goal

pub returns-then-not-has : goal.returns-then-not-has
returns-then-not-has c lines keywords t is =
    let links = c.args.self.now in
    let j = c.args.before in
    let d = c.args.row.gap + c.args.row.length in
    let fits = c.requires.1 in
    let next = add-one j in
    let later = ap (opens lines) (sym next) ∙ sym (t.firsts (j + 1) (omega arith)) ∙ sym c.if-not-has.ensures in
    let own = ap (reach keywords) (sym next) ∙ is in
    record {
      firsts = t.firsts;
      followed = followed_more links lines keywords j t d later own (omega (arith, fits.some)) (omega (arith, fits.short, fits.narrow)) c.requires.0 c.with.result c.with.ensures;
      listed = listed_more links lines keywords j t d later own (omega (arith, fits.some)) (omega (arith, fits.short, fits.narrow)) c.requires.0 c.insert.new.self c.insert.ensures;
      used = used_more links lines keywords j t d later own (omega (arith, fits.some)) (omega (arith, fits.short, fits.narrow)) c.requires.0 c.insert.new.self c.insert.ensures;
    }

pub returns-else-not-has : goal.returns-else-not-has
returns-else-not-has c lines keywords t is =
    let j = c.args.before in
    opened_more c.args.self.now lines keywords j t (ap (opens lines) (sym (add-one j)) ∙ sym (t.firsts (j + 1) (omega arith)) ∙ sym c.if-not-has.ensures)
