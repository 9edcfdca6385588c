-- Lemmas on the slots in the order of their use, and on what waits in them.
use Rattle.std.proofs.Common.{◌≡◌, ℕ, suc, ◌+◌, ◌-◌, ◌<◌, ◌≤◌, min, true, false, ltb, List, [], ◌∷◌, ◌++◌, length, get_or, take, drop, set, sym, ap, ◌∙◌, inl, inr, rules, arith}
use lib.Seq.{take-set-lt}
use Rattle.std.proofs.lemmas.List.{append-nil, append_assoc, length-set, length-take, length-drop, length-append, take_all, take_min, take_more, take_more_set, take-append-le, take-set-le, drop_all, drop_more, drop-set-add, drop-set-lt, set-append_left, set-append_right}
use Rattle.std.proofs.lemmas.Bool.{cases_lt, lt-ltb, le-ltb}
use Rattle.queue.specs.declared.Queue.{Queue}
use Rattle.queue.specs.Queued.{turned, waiting, queued, room}
use Rattle.queue.specs.Places.{start, past, back}
use Rattle.queue.specs.Answers.{rest}

-- The head's slot is a slot.
pub start_in : (head size : ℕ) → 0 < size → start head size < size
start_in head size some = search rules

module _ {T : Type 0} (slots : List T) (head : ℕ) where
  -- Each slot is used once in a round.
  length-turned : length (turned head slots) ≡ length slots
  unfolding turned
  length-turned = simp (length-append, length-drop, length-take) (omega arith)

  -- As many wait as are counted, up to the slots.
  pub length-waiting : (count : ℕ) → length (waiting slots head count) ≡ min count (length slots)
  length-waiting count = length-take count (turned head slots) ∙ ap (min count) length-turned

  -- A head past the slots reads as the first slot.
  turned_past : length slots ≤ head → turned head slots ≡ slots
  unfolding turned
  turned_past h = rw (drop_all, take_all)

  turned_start : turned head slots ≡ turned (start head (length slots)) slots
  unfolding turned
  turned_start = search (rules, turned_past, append-nil)

module _ {T : Type 0} (slots : List T) (at : ℕ) (in_slots : at < length slots) where
  -- To write a slot is to write its place in the order of use.
  set-turned : (by : ℕ) (x : T) → by < length slots → turned at (set slots (past at by (length slots)) x) ≡ set (turned at slots) by x
  unfolding turned
  set-turned by x lt =
      let l : length (drop at slots) ≡ length slots - at = length-drop at slots in
      elim (cases_lt (at + by) (length slots)) [
        | inl h ↦
            let t : ltb (at + by) (length slots) ≡ true = lt-ltb _ _ h in
            let a : by < length (drop at slots) = omega arith in
            let b : at ≤ at + by = omega arith in
            rw (t, drop-set-add, take-set-le) (sym (set-append_left (drop at slots) (take at slots) by x a))
        | inr h ↦
            let t : ltb (at + by) (length slots) ≡ false = le-ltb _ _ h in
            let b : at + by - length slots < at = omega arith in
            let p : by - (length slots - at) ≡ at + by - length slots = omega arith in
            let r = set-append_right (drop at slots) (take at slots) (length slots - at) by x l (omega arith) in
            rw (t, drop-set-lt, take-set-lt, ← p) (sym r)
      ]

  -- All slots but the one at the head, in the order of use.
  others : List T
  others = drop (at + 1) slots ++ take at slots

  -- The head's slot is used first, and one place on it is used last.
  turned_first : (d : T) → turned at slots ≡ get_or slots at d ∷ others
  unfolding turned others
  turned_first d = ap (λ xs. xs ++ take at slots) (drop_more slots at d in_slots)

  turned_next : (d : T) → turned (past at 1 (length slots)) slots ≡ others ++ get_or slots at d ∷ []
  unfolding turned others
  turned_next d =
      let e : turned (at + 1) slots ≡ others ++ get_or slots at d ∷ [] = rw (take_more slots at d in_slots) (sym (append_assoc (drop (at + 1) slots) (take at slots) (get_or slots at d ∷ []))) in
      elim (cases_lt (at + 1) (length slots)) [
        | inl h ↦ rw (lt-ltb (at + 1) (length slots) h) e
        | inr h ↦
            let z : at + 1 - length slots ≡ 0 = omega arith in
            rw (le-ltb (at + 1) (length slots) h, z) (append-nil slots ∙ sym (turned_past slots (at + 1) h) ∙ e)
      ]

  length_others : length others + 1 ≡ length slots
  unfolding others
  length_others = simp (length-append, length-drop, length-take) (omega arith)

-- An element, where there is one.
some_of : {T : Type 0} (xs : List T) → 0 < length xs → T
some_of [] h = absurd (omega arith)
some_of (x ∷ xs) h = x

module _ {T : Type 0} (q : Queue T) where
  abbrev slots : List T
  slots = q.slots.now

  abbrev at : ℕ
  at = start q.head (room q)

  -- What waits is the front of its own length.
  queued_all : queued q ≡ take (length (queued q)) (turned q.head slots)
  queued_all = rw length-take (sym (take_min q.count (turned q.head slots)))

  -- No more wait than there are places.
  pub queued_within : length (queued q) ≤ room q
  queued_within = omega (arith, length-waiting slots q.head q.count)

  -- To write the slot behind those that wait is to write behind them in the order of use.
  set_back : (x : T) → length (queued q) < room q → turned q.head (set slots (back q) x) ≡ set (turned q.head slots) (length (queued q)) x
  set_back x lt =
      let l = length-set slots (back q) x in
      let i = start_in q.head (room q) (omega arith) in
      turned_start _ q.head ∙ simp l (set-turned slots at i (length (queued q)) x lt)
      ∙ ap (λ xs. set xs (length (queued q)) x) (sym (turned_start slots q.head))

  -- What is written behind those that wait, and counted, waits behind them.
  pub adds : (x : T) → length (queued q) < room q → waiting (set slots (back q) x) q.head (length (queued q) + 1) ≡ queued q ++ x ∷ []
  adds x lt =
      let k : length (queued q) < length (turned q.head slots) = omega (arith, length-turned slots q.head) in
      ap (take (length (queued q) + 1)) (set_back x lt)
      ∙ take_more_set (turned q.head slots) (length (queued q)) x k
      ∙ ap (λ xs. xs ++ x ∷ []) (sym queued_all)

  module _ (some : 0 < length (queued q)) where
    -- Where some wait, the head's slot is a slot.
    pub in_slots : at < room q
    in_slots = start_in q.head (room q) (omega (arith, queued_within))

    -- The oldest is in the head's slot.
    first_rest : (d : T) → queued q ≡ get_or slots at d ∷ take (length (queued q) - 1) (others slots at in_slots)
    first_rest d =
        let n : length (queued q) ≡ suc (length (queued q) - 1) = omega arith in
        queued_all ∙ ap (take (length (queued q))) (turned_start slots q.head ∙ turned_first slots at in_slots d)
        ∙ ap (λ k. take k (get_or slots at d ∷ others slots at in_slots)) n

    pub begins : (d : T) → queued q ≡ get_or slots at d ∷ rest (queued q)
    begins d = let e = first_rest d in cc

    -- From one place on, and one less, all but the oldest wait.
    pub goes_on : waiting slots (past at 1 (room q)) (length (queued q) - 1) ≡ rest (queued q)
    goes_on =
        let d = some_of slots (omega (arith, in_slots)) in
        let k : length (queued q) - 1 ≤ length (others slots at in_slots) = omega (arith, length_others slots at in_slots, queued_within) in
        ap (take (length (queued q) - 1)) (turned_next slots at in_slots d)
        ∙ take-append-le (length (queued q) - 1) (others slots at in_slots) (get_or slots at d ∷ []) k
        ∙ sym (ap rest (first_rest d))
