use Rattle.std.proofs.Common.{◌≡◌, ◌+◌, Bool, true, false, ◌&&◌, ◌||◌, eqb, List, get_or, drop, pos, sym, refl, ap, ◌∙◌}
use Rattle.std.proofs.lemmas.List.{at_drop_more, at_drop_all}
use Rattle.columns.specs.Numbers.{member, is_number}
use Rattle.bench.specs.declared.lines.Watched.{Watched}
use Rattle.bench.specs.Firing.{any_fires}
use Rattle.bench.proofs.desks.Desk.reported.Goals as goal
use Rattle.bench.proofs.desks.Desk.reported.Goals.{then-is_reported, else-is_reported}

none : Watched
none = record { number = 0; points = pos 0; lag = 0; last = 0; span = 0 }

turn : (a b c : Bool) → ((a || b) || c) ≡ (b || (a || c))
turn true true c = refl
turn true false c = refl
turn false true c = refl
turn false false c = refl

or_false : (a : Bool) → (a || false) ≡ a
or_false true = refl
or_false false = refl

pub loop-line-preserved : goal.loop-line-preserved
unfolding none
loop-line-preserved c n =
    let lines = c.as_slice-line-items.result.now in
    let i = c.loop-line.line-index in
    let any : List Watched → Bool = λ ws. any_fires c.args.column c.args.self.now.standings c.args.self.now.count ws n in
    let w = get_or lines i none in
    let rest = any (drop (i + 1) lines) in
    let e = at_drop_more any lines i none c.loop-line-test.true in
    let before = member c.loop-line.reported n in
    let own = is_number w.number && eqb n w.number in
    elim c.if-is_reported.branch [
      | then-is_reported v ↦
          ap (λ x. x || rest) (ap (λ x. member x n) v.reported-is ∙ v.insert.ensures n)
          ∙ turn own before rest
          ∙ ap (λ x. before || ((x && own) || rest)) (sym v.if-is_reported.true ∙ c.is_reported.ensures)
          ∙ ap (λ x. before || x) (sym e)
          ∙ c.loop-line.invariant n
      | else-is_reported v ↦
          ap (λ x. x || rest) (ap (λ x. member x n) v.reported-is)
          ∙ ap (λ x. before || ((x && own) || rest)) (sym v.if-is_reported.false ∙ c.is_reported.ensures)
          ∙ ap (λ x. before || x) (sym e)
          ∙ c.loop-line.invariant n
    ]

pub returns : goal.returns
returns c n =
    let lines = c.as_slice-line-items.result.now in
    let any : List Watched → Bool = λ ws. any_fires c.args.column c.args.self.now.standings c.args.self.now.count ws n in
    let e = at_drop_all any lines c.loop-line.line-index c.loop-line-test.false in
    let before = member c.loop-line.reported n in
    sym (or_false before) ∙ ap (λ x. before || x) (sym e) ∙ c.loop-line.invariant n ∙ ap any c.as_slice-line-items.ensures.value
