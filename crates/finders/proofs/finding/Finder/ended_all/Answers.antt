use Rattle.std.proofs.Common.{◌≡◌, ℕ, Bool, false, ◌&&◌, ◌||◌, eqb, sym, ap, ◌∙◌, ⊎_elim, arith}
use Rattle.std.proofs.lemmas.Bool.{cases_lt, lt-ltb, le-ltb, and_right}
use Rattle.columns.specs.Marks.{mark}
use Rattle.finders.specs.Runs.{ends, ends_among}
use Rattle.finders.proofs.Marks.{one_on_yes, one_on_no, ends_past}
use Rattle.finders.proofs.finding.Finder.ended_all.Goals as goal
use Rattle.finders.proofs.finding.Finder.ended_all.Goals.{then-ended, else-ended}

pub loop-keyword-init : goal.loop-keyword-init
loop-keyword-init g c k = c.none-all.ensures k ∙ ap (λ b. b && ends (g.Self.Finder.book c.args.self.now) (g.Self.Finder.stands c.args.self.now) k) (sym (le-ltb k 0 (omega arith)))

pub loop-keyword-preserved : goal.loop-keyword-preserved
loop-keyword-preserved g c k =
    let e : ℕ → Bool = ends (g.Self.Finder.book c.args.self.now) (g.Self.Finder.stands c.args.self.now) in
    let n = c.loop-keyword.keyword in
    let few = lt-ltb n 512 (omega (arith, c.loop-keyword-test.true, c.keywords-keyword-end.ensures.few)) in
    elim c.if-ended.branch [
      | then-ended w ↦ ap (λ m. mark m k) w.all-is ∙ w.with-all.ensures k ∙ ap (λ b. (b && eqb k n) || mark c.loop-keyword.all k) few ∙ ap (λ b. eqb k n || b) (c.loop-keyword.invariant k) ∙ one_on_yes e n k (sym c.ended.ensures ∙ w.if-ended.true)
      | else-ended w ↦ ap (λ m. mark m k) w.all-is ∙ c.loop-keyword.invariant k ∙ one_on_no e n k (sym c.ended.ensures ∙ w.if-ended.false)
    ]

pub returns : goal.returns
returns g c k =
    let rows = c.keywords-keyword-end.result.now in
    let e : ℕ → Bool = ends (g.Self.Finder.book c.args.self.now) (g.Self.Finder.stands c.args.self.now) in
    c.loop-keyword.invariant k ∙ ⊎_elim
    (λ lt. ap (λ b. b && e k) (lt-ltb k c.loop-keyword.keyword lt))
    (λ le. let off : e k ≡ false = ap (λ rs. ends_among rs (g.Self.Finder.stands c.args.self.now) k) (sym c.keywords-keyword-end.ensures.rows) ∙ ends_past (g.Self.Finder.stands c.args.self.now) rows k (omega (arith, le, c.loop-keyword-test.false)) in and_right _ _ off ∙ sym off)
    (cases_lt k c.loop-keyword.keyword)
