use Rattle.std.proofs.Common.{length, sym, refl, ap, ◌∙◌, arith, rules}
use Rattle.book.specs.Stored.{sealed_book}
use Rattle.automaton.proofs.Grows.{plant_none, planted_to}
use Rattle.automaton.proofs.Keywords.{told, all_rows}
use Rattle.automaton.proofs.trie.plant.Goals as goal

pub loop-keyword-init : goal.loop-keyword-init
loop-keyword-init c = record { planted = plant_none _ _ _ (omega (arith, c.wipe.auto.part, c.requires.next)) c.requires.states c.wipe.ensures; lent = (refl, refl) }

pub plant_keyword-requires : goal.plant_keyword-requires
plant_keyword-requires c =
    let rows = c.keywords-keyword-items.ensures in
    let t = told (sealed_book c.args.book.now) _ c.loop-keyword.keyword-index (record { gap = 0; first = 0; length = 0 }) rows.rows rows.fit c.loop-keyword-test.true in
    record { planted = planted_to _ _ _ _ _ _ (sym t.first) c.loop-keyword.invariant.planted; lies = t.lies }

pub loop-keyword-preserved : goal.loop-keyword-preserved
loop-keyword-preserved c =
    let rows = c.keywords-keyword-items.ensures in
    let t = told (sealed_book c.args.book.now) _ c.loop-keyword.keyword-index (record { gap = 0; first = 0; length = 0 }) rows.rows rows.fit c.loop-keyword-test.true in
    let old = c.loop-keyword.invariant.lent in
    let new = c.plant_keyword.ensures.lent in
    record { planted = planted_to _ _ _ _ _ _ t.end c.plant_keyword.ensures.planted; lent = (new.0 ∙ old.0, new.1 ∙ old.1) }

pub returns : goal.returns
returns c =
    let all = all_rows (sealed_book c.args.book.now) c.loop-keyword.keyword-index (omega (arith, c.loop-keyword-test.false, ap length c.keywords-keyword-items.ensures.rows)) in
    (c.loop-keyword.planter.made, search (rules, planted_to _ _ _ _ _ _ all c.loop-keyword.invariant.planted, c.loop-keyword.invariant.lent.0, c.loop-keyword.invariant.lent.1))
