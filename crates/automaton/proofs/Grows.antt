-- The trie grows by a place.
use Rattle.std.proofs.Common.{◌≡◌, ℕ, ◌+◌, ◌-◌, ◌*◌, ◌<◌, ◌≤◌, true, cond, ◌≢◌, ◌⊎◌, List, length, get_or, set, sym, refl, ap, ◌∙◌, subst, inl, inr, ⊎_elim, arith, length-set, get_or-set_other, get_or-set_same}
use Rattle.std.proofs.lemmas.Bool.{cases_eq, cases_lt, cases_Bool, both_ways}
use Rattle.book.specs.Book.{Book, all_cells}
use Rattle.cells.specs.declared.letters.LetterCell.{LetterCell}
use Rattle.finders.specs.Runs.{begins}
use Rattle.automaton.specs.Memory.{at, leads}
use Rattle.automaton.specs.Places.{Places, Sound, letters, before, places}
use Rattle.automaton.specs.Trie.{Edge, Trie, Planted}
use Rattle.automaton.proofs.Keywords.{first_begins}

pub none : {P : Type 0} (n : ℕ) → n < 0 → P
none n h = absurd (let no : ⊥ = omega arith in no)

-- two numbers of the table
pub other_edge : (u d x c : ℕ) → d < 16 → c < 16 → (u ≡ x → d ≡ c → ⊥) → u * 16 + d ≢ x * 16 + c
other_edge u d x c h k n e = n (omega arith) (omega arith)

-- a state of the trie is reached by one edge
pub edge_once : (w : Places) (next : ℕ → ℕ → ℕ) (x c y d : ℕ) → Edge w next x c → Edge w next y d → next x c ≡ next y d → 0 < next x c → (x ≡ y) × (c ≡ d)
edge_once w next x c y d a b e pos =
    let o = a.own pos in
    let f = a.from o.0 o.1 (sym o.2) in
    let g = b.from o.0 o.1 (sym e ∙ sym o.2) in
    (sym f.0 ∙ g.0, sym f.1 ∙ g.1)

-- one more place, with the state y after the state x by the letter c
record Grown (w w' : Places) (x c y : ℕ) : Type 0 where
  more : w'.count ≡ w.count + 1
  old : (i : ℕ) → i < w.count → (w'.state i ≡ w.state i) × (w'.before i ≡ w.before i) × (w'.letter i ≡ w.letter i)
  new : (i : ℕ) → i ≡ w.count → (w'.state i ≡ y) × (w'.before i ≡ x) × (w'.letter i ≡ c)

module _ (w w' : Places) (next : ℕ → ℕ → ℕ) (n : ℕ) (T : Trie w next n) (x c y : ℕ) (in_x : x < 1024) (in_c : c < 16) (pos : 0 < y) (in_y : y < 1024) (g : Grown w w' x c y) where
  -- an old place, or the new one
  place : (i : ℕ) → i < w'.count → (i < w.count) ⊎ (i ≡ w.count)
  place i l = let m = g.more in ⊎_elim inl (λ (h : w.count ≤ i). inr (omega arith)) (cases_lt i w.count)

  sound_more : Sound w'
  sound_more = record {
    state = λ i l. ⊎_elim
        (λ (h : i < w.count). let o = (g.old i h).0 in let s = T.sound.state i h in (omega (arith, s.0), omega (arith, s.1)))
        (λ (e : i ≡ w.count). let o = (g.new i e).0 in (omega arith, omega arith))
        (place i l);
    before = λ i l. ⊎_elim
        (λ (h : i < w.count). omega (arith, (g.old i h).1, T.sound.before i h))
        (λ (e : i ≡ w.count). omega (arith, (g.new i e).1))
        (place i l);
    letter = λ i l. ⊎_elim
        (λ (h : i < w.count). omega (arith, (g.old i h).2, T.sound.letter i h))
        (λ (e : i ≡ w.count). omega (arith, (g.new i e).2))
        (place i l);
  }

  -- the states that there are are numbered up to n
  old_most : (i : ℕ) → i < w.count → w.state i ≤ n
  old_most i h =
      let p = T.sound.before i h in
      let l = T.sound.letter i h in
      omega (arith, (T.edge (w.before i) (w.letter i) p l).arc i h refl refl, T.most (w.before i) (w.letter i) p l)

  last : w.count < w'.count
  last = let m = g.more in omega arith

  more_count : {i : ℕ} → i < w.count → i < w'.count
  more_count {i} h = let m = g.more in omega arith

  -- the state was there already
  grow_old : next x c ≡ y → Trie w' next n
  grow_old is = record {
    sound = sound_more;
    few = let f = T.few in let m = g.more in omega arith;
    edge = λ u d in_u in_d. let e = T.edge u d in_u in_d in record {
      arc = λ i l p q. ⊎_elim
          (λ (h : i < w.count). let o = g.old i h in e.arc i h (sym o.1 ∙ p) (sym o.2 ∙ q) ∙ sym o.0)
          (λ (z : i ≡ w.count).
          let o = g.new i z in
          ap (λ v. next v d) (sym p ∙ o.1) ∙ ap (λ v. next x v) (sym q ∙ o.2) ∙ is ∙ sym o.0)
          (place i l);
      from = λ i l p. ⊎_elim
          (λ (h : i < w.count). let o = g.old i h in let f = e.from i h (p ∙ o.0) in (o.1 ∙ f.0, o.2 ∙ f.1))
          (λ (z : i ≡ w.count).
          let o = g.new i z in
          let k = edge_once w next x c u d (T.edge x c in_x in_c) e (is ∙ sym o.0 ∙ sym p) (omega arith) in
          (o.1 ∙ k.0, o.2 ∙ k.1))
          (place i l);
      own = λ h. let o = e.own h in (o.0, more_count o.1, (g.old o.0 o.1).0 ∙ o.2);
    };
    most = T.most;
  }

  -- the state is made
  grow_new : next x c ≡ 0 → y ≡ n + 1 → (next' : ℕ → ℕ → ℕ) → next' x c ≡ y → ((u d : ℕ) → d < 16 → (u ≡ x → d ≡ c → ⊥) → next' u d ≡ next u d) → Trie w' next' (n + 1)
  grow_new is ey next' new old =
      let split : (u d : ℕ) → d < 16 → ((u ≡ x) × (d ≡ c) × (next' u d ≡ y)) ⊎ ((next' u d ≡ next u d) × (u ≡ x → d ≡ c → ⊥)) = λ u d l. ⊎_elim
      (λ (a : u ≡ x). ⊎_elim
      (λ (b : d ≡ c). inl (a, b, ap (λ v. next' v d) a ∙ ap (λ v. next' x v) b ∙ new))
      (λ (m : d ≡ c → ⊥). inr (old u d l (λ _. m), λ _. m))
      (cases_eq d c))
      (λ (m : u ≡ x → ⊥). inr (old u d l (λ a _. m a), λ a _. m a))
      (cases_eq u x) in
      record {
        sound = sound_more;
        few = let f = T.few in let m = g.more in omega arith;
        edge = λ u d in_u in_d. let e = T.edge u d in_u in_d in record {
          arc = λ i l p q. ⊎_elim
              (λ (h : i < w.count).
              let o = g.old i h in
              let a = e.arc i h (sym o.1 ∙ p) (sym o.2 ∙ q) in
              ⊎_elim
              (λ s. absurd (let z : next u d ≡ 0 = ap (λ v. next v d) s.0 ∙ ap (λ v. next x v) s.1 ∙ is in let no : ⊥ = omega (arith, (T.sound.state i h).0) in no))
              (λ s. s.0 ∙ a ∙ sym o.0)
              (split u d in_d))
              (λ (z : i ≡ w.count). let o = g.new i z in ap (λ v. next' v d) (sym p ∙ o.1) ∙ ap (λ v. next' x v) (sym q ∙ o.2) ∙ new ∙ sym o.0)
              (place i l);
          from = λ i l p. ⊎_elim
              (λ (h : i < w.count).
              let o = g.old i h in
              ⊎_elim
              (λ s. absurd (let no : ⊥ = omega (arith, old_most i h, s.2, o.0, p) in no))
              (λ s. let f = e.from i h (sym s.0 ∙ p ∙ o.0) in (o.1 ∙ f.0, o.2 ∙ f.1))
              (split u d in_d))
              (λ (z : i ≡ w.count).
              let o = g.new i z in
              ⊎_elim
              (λ s. (o.1 ∙ sym s.0, o.2 ∙ sym s.1))
              (λ s. absurd (let no : ⊥ = omega (arith, T.most u d in_u in_d, s.0, o.0, p) in no))
              (split u d in_d))
              (place i l);
          own = λ h. ⊎_elim
              (λ s. (w.count, last, (g.new w.count refl).0 ∙ sym s.2))
              (λ s. let o = e.own (omega (arith, s.0)) in (o.0, more_count o.1, (g.old o.0 o.1).0 ∙ o.2 ∙ sym s.0))
              (split u d in_d);
        };
        most = λ u d in_u in_d. ⊎_elim (λ s. omega (arith, s.2)) (λ s. omega (arith, s.0, T.most u d in_u in_d)) (split u d in_d);
      }

-- in memory
module _ (b : Book LetterCell) (next states : List ℕ) (p n x c e : ℕ) (P : Planted b next states p n) (in_p : p < length (all_cells b)) (few : length (all_cells b) ≤ 1023)
    (is_x : before b states p ≡ x) (is_c : at (letters (all_cells b)) p ≡ c) (in_c : c < 16) (is_e : e ≡ x * 16 + c) where
  -- a state that is written down at a place changes nothing before it
  before_kept : (v i : ℕ) → i ≤ p → before b (set states p v) i ≡ before b states i
  before_kept v i l = ⊎_elim
      (λ (z : p ≡ 0).
      let e : begins b i ≡ true = ap (begins b) (let q : i ≡ 0 = omega arith in q) ∙ first_begins b (omega arith) in
      ap (λ t. cond t 0 (at (set states p v) (i - 1))) e ∙ sym (ap (λ t. cond t 0 (at states (i - 1))) e))
      (λ (m : p ≡ 0 → ⊥). let ne : i - 1 ≢ p = λ e. omega arith in ap (λ k. cond (begins b i) 0 k) (get_or-set_other states p (i - 1) v 0 ne))
      (cases_eq p 0)

  grown : (v : ℕ) → Grown (places b states p) (places b (set states p v) (p + 1)) x c v
  grown v = record {
    more = refl;
    old = λ i h. let ne : i ≢ p = λ e. omega arith in (get_or-set_other states p i v 0 ne, before_kept v i (omega arith), refl);
    new = λ i e. (
      ap (at (set states p v)) e ∙ (let long = P.states_long in get_or-set_same states p v 0 (omega arith)),
      ap (before b (set states p v)) e ∙ before_kept v p (omega arith) ∙ is_x,
      ap (at (letters (all_cells b))) e ∙ is_c,
    );
  }

  -- the state before a place is one of the trie
  pub from_inside : x < 1024
  from_inside = ⊎_elim
      (λ (e : begins b p ≡ true). let z : x ≡ 0 = sym is_x ∙ ap (λ t. cond t 0 (at states (p - 1))) e in omega arith)
      (λ e.
      let z : at states (p - 1) ≡ x = sym (ap (λ t. cond t 0 (at states (p - 1))) e) ∙ is_x in
      let pos : 0 < p = ⊎_elim (λ (q : p ≡ 0). absurd (both_ways (begins b p) e (ap (begins b) q ∙ first_begins b (omega arith)))) (λ (m : p ≡ 0 → ⊥). omega arith) (cases_eq p 0) in
      omega (arith, (P.trie.sound.state (p - 1) (omega arith)).1))
      (cases_Bool (begins b p))

  pub edge_inside : e < length next
  edge_inside = let i = from_inside in let wide = P.next_long in omega arith

  pub plant_old : (y : ℕ) → get_or next e 0 ≡ y → 0 < y → Planted b next (set states p y) (p + 1) n
  plant_old y is pos =
      let is' : leads next x c ≡ y = ap (at next) (sym is_e) ∙ is in
      record {
        next_long = P.next_long;
        states_long = simp length-set P.states_long;
        trie = grow_old _ _ (leads next) n P.trie x c y from_inside in_c pos (omega (arith, P.trie.most x c from_inside in_c, P.trie.few)) (grown y) is';
      }

  pub plant_new : get_or next e 0 ≡ 0 → Planted b (set next e (n + 1)) (set states p (n + 1)) (p + 1) (n + 1)
  plant_new is = record {
    next_long = simp length-set P.next_long;
    states_long = simp length-set P.states_long;
    trie = grow_new _ _ (leads next) n P.trie x c (n + 1) from_inside in_c (omega arith) (omega (arith, P.trie.few)) (grown (n + 1)) (ap (at next) (sym is_e) ∙ is) refl
        (leads (set next e (n + 1)))
        (ap (at (set next e (n + 1))) (sym is_e) ∙ get_or-set_same next e (n + 1) 0 edge_inside)
        (λ u d l m. get_or-set_other next e _ (n + 1) 0 (λ q. other_edge u d x c l in_c m (q ∙ is_e)));
  }

pub planted_to : (b : Book LetterCell) (next states : List ℕ) (p q n : ℕ) → p ≡ q → Planted b next states p n → Planted b next states q n
planted_to b next states p q n e P = subst (λ (k : ℕ). Planted b next states k n) e P

-- no place yet, and no edge
pub plant_none : (b : Book LetterCell) (next states : List ℕ) → length next ≡ 16384 → length states ≡ 1024 → ((i : ℕ) → get_or next i 0 ≡ 0) → Planted b next states 0 0
plant_none b next states l₁ l₂ z = record {
  next_long = l₁;
  states_long = l₂;
  trie = record {
    sound = record { state = λ p h. none p h; before = λ p h. none p h; letter = λ p h. none p h };
    few = omega arith;
    edge = λ x c _ _. record { arc = λ p h _ _. none p h; from = λ p h _. none p h; own = λ h. absurd (let no : ⊥ = omega (arith, z (x * 16 + c)) in no) };
    most = λ x c _ _. omega (arith, z (x * 16 + c));
  };
}
