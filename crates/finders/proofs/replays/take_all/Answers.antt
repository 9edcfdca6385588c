use Rattle.std.proofs.Common.{[], ◌∷◌, ◌++◌, take, sym, refl, ap, ◌∙◌}
use Rattle.finders.specs.Latest.{run}
use Rattle.finders.specs.Runs.{taken}
use Rattle.std.proofs.lemmas.List.{take_more, take_all}
use Rattle.finders.proofs.LatestRuns.{taken_run, no_run}
use Rattle.finders.proofs.replays.take_all.Goals as goal

pub loop-symbol-init : goal.loop-symbol-init
loop-symbol-init g c = (refl, λ p. c.requires p ∙ sym (no_run g.F.Finder.admits _ p))

pub loop-symbol-preserved : goal.loop-symbol-preserved
loop-symbol-preserved g c =
    let inv = c.loop-symbol.invariant in
    let i = c.loop-symbol.symbol-index in
    let ys = c.args.symbols.now in
    let y = c.symbol-item.result in
    let b = g.F.Finder.book c.args.finder.now in
    let more = take_more ys i y c.loop-symbol-test.true ∙ ap (λ x. take i ys ++ x ∷ []) (sym c.symbol-item.is) in (
      c.take.ensures.book ∙ inv.0,
      λ p. c.take.ensures.stands p
          ∙ ap (λ d. taken d (λ x. g.F.Finder.admits x y) (g.F.Finder.stands c.loop-symbol.finder) p) inv.0
          ∙ taken_run g.F.Finder.admits b (g.F.Finder.stands c.loop-symbol.finder) (take i ys) y inv.1 p
          ∙ ap (λ xs. run g.F.Finder.admits b xs p) (sym more),
    )

pub returns : goal.returns
returns g c =
    let all = take_all c.loop-symbol.symbol-index c.args.symbols.now c.loop-symbol-test.false in
    record {
      book = c.loop-symbol.invariant.0;
      stands = λ b same p. c.loop-symbol.invariant.1 p
          ∙ ap (λ xs. run g.F.Finder.admits (g.F.Finder.book c.args.finder.now) xs p) all
          ∙ ap (λ d. run g.F.Finder.admits d c.args.symbols.now p) same;
    }
