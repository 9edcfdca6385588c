use Rattle.std.proofs.Common.{◌≡◌, ℕ, List, [], ◌∷◌, length, Some, None, sym, refl, ap, ◌∙◌, arith, rules}
use Rattle.queue.specs.Answers.{put_after, first, rest}
use Rattle.queue.specs.Queued.{queued, room}
use Rattle.automaton.proofs.Breadths.{stored_few, within_first, within_done, between_none, between_same, all_settled, automaton_same}
use Rattle.automaton.proofs.linking.link.Goals as goal

oldest_first : (xs : List ℕ) (x : ℕ) → first xs ≡ Some x → xs ≡ x ∷ rest xs
oldest_first [] x e = absurd (let z : ◌≡◌ {A = ℕ} 0 1 = cc in let no : ⊥ = omega arith in no)
oldest_first (y ∷ ys) x e = let z : y ≡ x = cc in ap (λ v. v ∷ ys) z

none_first : (xs : List ℕ) → first xs ≡ None → xs ≡ []
none_first [] e = refl
none_first (y ∷ ys) e = absurd (let z : ◌≡◌ {A = ℕ} 0 1 = cc in let no : ⊥ = omega arith in no)

pub loop-state-init : goal.loop-state-init
loop-state-init c =
    let q : queued c.put.new.self ≡ 0 ∷ [] =
    c.put.ensures.items ∙ ap (λ (xs : List ℕ). put_after xs (room c.new-queue.result) 0) c.new-queue.ensures.items ∙ ap (λ (n : ℕ). put_after {T = ℕ} [] n 0) (c.new-queue.ensures.room ∙ c.requires.slots) in
    record { outside = λ w B. between_same w _ _ _ 1 q B; lent = record { next = refl; fail = refl; turns = refl; slots = refl; room = refl } }

pub settle_state-requires-clause-within : goal.settle_state-requires-clause-within
settle_state-requires-clause-within c =
    let e = oldest_first _ _ (sym c.in-Some.ensures.result) ∙ ap (λ xs. c.in-Some.state ∷ xs) (sym c.in-Some.ensures.items) in
    let w = c.requires.trie.0 in
    let B = between_none w _ _ _ _ c.requires.trie.1.1 c.requires.next (c.wipe.auto.part ∙ c.requires.fail) (c.wipe-2.auto.part ∙ c.requires.turns) c.wipe.ensures c.wipe-2.ensures in
    (w, within_first w _ _ _ _ _ _ _ e (c.loop-state.invariant.outside w B))

pub loop-state-smaller : goal.loop-state-smaller
loop-state-smaller c =
    let e = oldest_first _ _ (sym c.in-Some.ensures.result) ∙ ap (λ xs. c.in-Some.state ∷ xs) (sym c.in-Some.ensures.items) in
    let w = c.requires.trie.0 in
    let B = between_none w _ _ _ _ c.requires.trie.1.1 c.requires.next (c.wipe.auto.part ∙ c.requires.fail) (c.wipe-2.auto.part ∙ c.requires.turns) c.wipe.ensures c.wipe-2.ensures in
    let I = c.loop-state.invariant.outside w B in
    let R = within_first w _ _ _ _ _ _ _ e I in
    let D = c.settle_state.ensures.within w R in
    omega (arith, I.last, R.last, D.last, c.settle_state.ensures.turn, stored_few _ _ _ _ _ _ I.stored, ap length e)

pub loop-state-preserved : goal.loop-state-preserved
loop-state-preserved c =
    let e = oldest_first _ _ (sym c.in-Some.ensures.result) ∙ ap (λ xs. c.in-Some.state ∷ xs) (sym c.in-Some.ensures.items) in
    let old = c.loop-state.invariant.lent in
    let new = c.settle_state.ensures.lent in
    record {
      outside = λ w B. within_done w _ _ _ _ _ _ (c.settle_state.ensures.within w (within_first w _ _ _ _ _ _ _ e (c.loop-state.invariant.outside w B)));
      lent = record {
        next = new.next ∙ old.next;
        fail = new.fail ∙ old.fail;
        turns = new.turns ∙ old.turns;
        slots = new.slots ∙ c.in-Some.ensures.lender ∙ old.slots;
        room = new.room ∙ c.in-Some.ensures.room ∙ old.room;
      };
    }

pub returns : goal.returns
returns c w made T =
    let B = between_none w _ _ _ made T c.requires.next (c.wipe.auto.part ∙ c.requires.fail) (c.wipe-2.auto.part ∙ c.requires.turns) c.wipe.ensures c.wipe-2.ensures in
    let lent = c.loop-state.invariant.lent in
    automaton_same w (search (rules, lent.next)) (search (rules, lent.fail)) (search (rules, lent.turns))
    (all_settled w _ _ _ _ _ (none_first _ (sym c.in_default.ensures.result)) (c.loop-state.invariant.outside w B))
