use Rattle.std.proofs.Common.{rules, ◌≡◌, ℕ, suc, ◌+◌, ◌<◌, List, [], ◌∷◌, ◌++◌, length, drop, get_or, sym, ap, ◌∙◌, subst, add-one, zero-add, length-append, arith}
use Rattle.std.specs.List.{enumerate_from}
use Rattle.std.proofs.lemmas.Iterator.{YieldsList-from_slice}
use Rattle.std.proofs.lemmas.Iterator.Adapters.{YieldsList-from_skip}
use Rattle.std.proofs.lemmas.Iterator.Consumers.{YieldsList-from_enumerate, YieldsList-turn, YieldsList-end}
use Rattle.std.proofs.lemmas.List.FromFn.{length-enumerate_from, get_or-enumerate_from}
use Rattle.std.proofs.lemmas.List.{get_or-replicate}
use Rattle.std.proofs.lemmas.Bool.{and_left, both_ways, le-ltb}
use Rattle.book.specs.declared.rows.LineRow.{LineRow}
use Rattle.book.specs.declared.rows.KeywordRow.{KeywordRow}
use Rattle.columns.specs.Marks.{mark, blank}
use Rattle.lookback.specs.declared.links.Links.{Links}
use Rattle.lookback.specs.Linked.{LinkedTo}
use Rattle.lookback.specs.Prefixes.{reach}
use Rattle.lookback.proofs.Grows.{none_linked}
use Rattle.lookback.proofs.Reaches.{reach_at}
use Rattle.lookback.proofs.links.Links.of.Goals as goal

pub loop-before-init : goal.loop-before-init
loop-before-init c = record {
  firsts = c.first_keywords.ensures;
  followed = λ d below k h. ap (λ x. mark x k) (get_or-replicate 128 d c.none.result blank below) ∙ c.none.ensures k ∙ sym (and_left _ _ (le-ltb (suc k) 1 (omega arith)));
  listed = λ k h o. absurd (let z : ⊥ = omega arith in z);
  used = λ d m. absurd (both_ways _ (search rules) m);
}

-- a turn has the keyword behind the one that it counts
turn_at : (ks : List KeywordRow) (i : ℕ) (p : ℕ × KeywordRow) → (i < length (enumerate_from 0 (drop 1 ks))) × (p ≡ get_or (enumerate_from 0 (drop 1 ks)) i p)
    → (p.0 ≡ i) × (i + 1 < length ks) × (p.1 ≡ get_or ks (i + 1) p.1)
turn_at [] i p h = absurd (omega (arith, h.0))
turn_at (r ∷ rs) i p h =
    let n = length-enumerate_from 0 rs in
    let at = h.1 ∙ get_or-enumerate_from 0 rs i p (omega (arith, n, h.0)) in
    let next = add-one i in
    (ap (λ q. q.0) at ∙ zero-add i, omega (arith, n, h.0), ap (λ q. q.1) at ∙ sym (ap (λ x. get_or (r ∷ rs) x p.1) next))

pub link-requires : goal.link-requires
link-requires c =
    let road = YieldsList-from_enumerate {s = c.into_iter-before-iterator.result} (YieldsList-from_skip 1 (YieldsList-from_slice c.args.keywords.now (cc)) (cc)) (cc) in
    let turn = YieldsList-turn road c.loop-before.yielded c.loop-before.before-iterator c.loop-before.yielded_by c.next.result c.next.new.self (c.in-Some.before, c.in-Some.row) c.in-Some.is c.next.ensures.steps in
    let at = turn_at c.args.keywords.now (length c.loop-before.yielded) (c.in-Some.before, c.in-Some.row.now) turn in
    (omega (arith, at.0, at.1, c.requires.few), rw at.2 (c.requires.fit (length c.loop-before.yielded + 1) c.in-Some.row.now at.1))

pub loop-before-preserved : goal.loop-before-preserved
loop-before-preserved c =
    let road = YieldsList-from_enumerate {s = c.into_iter-before-iterator.result} (YieldsList-from_skip 1 (YieldsList-from_slice c.args.keywords.now (cc)) (cc)) (cc) in
    let turn = YieldsList-turn road c.loop-before.yielded c.loop-before.before-iterator c.loop-before.yielded_by c.next.result c.next.new.self (c.in-Some.before, c.in-Some.row) c.in-Some.is c.next.ensures.steps in
    let ks = c.args.keywords.now in
    let n = length c.loop-before.yielded in
    let at = turn_at ks n (c.in-Some.before, c.in-Some.row.now) turn in
    let now : c.in-Some.before + 1 ≡ n + 1 = omega (arith, at.0) in
    let later : c.in-Some.before + 2 ≡ length (c.loop-before.yielded ++ (c.in-Some.before, c.in-Some.row) ∷ []) + 1 = omega (arith, at.0, length-append c.loop-before.yielded ((c.in-Some.before, c.in-Some.row) ∷ [])) in
    subst (LinkedTo c.link.new.self c.args.lines.now ks) later
    (c.link.ensures c.args.lines.now ks (subst (LinkedTo c.loop-before.links c.args.lines.now ks) (sym now) c.loop-before.invariant)
    (ap (reach ks) now ∙ reach_at ks (n + 1) c.in-Some.row.now at.1 ∙ ap (λ r. r.gap + r.length) (sym at.2)))

ended : (links : Links) (lines : List LineRow) (ks : List KeywordRow) (n : ℕ) → n ≡ length (enumerate_from 0 (drop 1 ks)) → LinkedTo links lines ks (n + 1) → LinkedTo links lines ks (length ks)
ended links lines [] n e t = none_linked links lines [] (subst (LinkedTo links lines []) (ap (λ x. x + 1) e) t)
ended links lines (r ∷ rs) n e t = let all : n + 1 ≡ length (r ∷ rs) = omega (arith, e, length-enumerate_from 0 rs) in subst (LinkedTo links lines (r ∷ rs)) all t

pub returns : goal.returns
returns c =
    let road = YieldsList-from_enumerate {s = c.into_iter-before-iterator.result} (YieldsList-from_skip 1 (YieldsList-from_slice c.args.keywords.now (cc)) (cc)) (cc) in
    let end = YieldsList-end road c.loop-before.yielded c.loop-before.before-iterator c.loop-before.yielded_by c.next.result c.next.new.self c.in-None.is c.next.ensures.steps in
    ended c.loop-before.links c.args.lines.now c.args.keywords.now (length c.loop-before.yielded) end.1 c.loop-before.invariant
