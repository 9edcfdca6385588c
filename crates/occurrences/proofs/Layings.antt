-- Laid forwards from its start, or backwards from its end: the same occurrence.
use Rattle.std.proofs.Common.{◌≡◌, ℕ, zero, suc, ◌+◌, ◌-◌, ◌<◌, ◌≤◌, Bool, true, false, ◌&&◌, leb, ◌⊎◌, List, [], ◌∷◌, ◌++◌, reverse, length, get_or, drop, sym, refl, ap, ◌∙◌, inl, inr, ⊎_elim, arith}
use mathlib.Core.List.{reverse-append}
use Rattle.std.proofs.lemmas.List.{drop_all, length-reverse, get_or-reverse, reverse-reverse}
use Rattle.std.proofs.lemmas.Bool.{cases_lt, le-leb, lt-leb, and_left, and_right}
use Rattle.finders.specs.Latest.{admit_all}
use Rattle.finders.proofs.Marks.{passes_at}
use Rattle.occurrences.specs.Occurring.{admits_tick, keyword_at, laid_from}

and_assoc : (a b c : Bool) → ((a && b) && c) ≡ (a && (b && c))
and_assoc true b c = refl
and_assoc false b c = refl

and_swap : (a b : Bool) → (a && b) ≡ (b && a)
and_swap true true = refl
and_swap true false = refl
and_swap false true = refl
and_swap false false = refl

cases_le : (p q : ℕ) → (p ≤ q) ⊎ (q < p)
cases_le p q = ⊎_elim (λ lt. inr lt) (λ le. inl le) (cases_lt q p)

-- what is left of a list begins with the element there
split : {S : Type 0} (ts : List S) (a : ℕ) → a < length ts → (x : S) × (drop a ts ≡ x ∷ drop (a + 1) ts) × (get_or ts a x ≡ x)
split [] a h = absurd (let z : ⊥ = omega arith in z)
split (t ∷ ts) zero h = (t, refl, refl)
split (t ∷ ts) (suc a) h =
    let r = split ts a (omega arith) in
    let z : suc a + 1 ≡ suc (a + 1) = omega arith in
    (r.0, r.1 ∙ ap (λ i. r.0 ∷ drop i (t ∷ ts)) (sym z), r.2)

module _ {C S : Type 0} (hears : C → S → Bool) (ts : List S) where
  abbrev pub n : ℕ
  n = length ts

  abbrev pub ticks : List S
  ticks = reverse ts

  keyword_push : (w : List C) (c : C) (t : ℕ) → keyword_at hears ticks (w ++ c ∷ []) t ≡ (keyword_at hears ticks w t && admits_tick hears ticks (t + length w) c)
  keyword_push [] c t = let z : t + 0 ≡ t = omega arith in and_swap (admits_tick hears ticks t c) true ∙ ap (λ x. admits_tick hears ticks x c) (sym z)
  keyword_push (x ∷ w) c t =
      let z : t + 1 + length w ≡ t + suc (length w) = omega arith in
      ap (λ b. admits_tick hears ticks t x && b) (keyword_push w c (t + 1) ∙ ap (λ y. keyword_at hears ticks w (t + 1) && admits_tick hears ticks y c) z)
      ∙ sym (and_assoc (admits_tick hears ticks t x) (keyword_at hears ticks w (t + 1)) _)

  -- the tick that came a ticks before the newest
  at_back : (a : ℕ) (c : C) (x : S) → a < n → admits_tick hears ticks (n - a) c ≡ hears c (get_or ts a x)
  at_back a c x h =
      let lt : length ts - a - 1 < length (reverse ts) = omega (arith, length-reverse ts) in
      let back : length ts - 1 - (length ts - a - 1) ≡ a = omega arith in
      passes_at (hears c) (reverse ts) (length ts - a - 1) x lt
      ∙ ap (hears c) (get_or-reverse ts (length ts - a - 1) x (omega arith) ∙ ap (λ i. get_or ts i x) back)

  -- one keyword: the cells, the last first, admit the ticks back from one that came a ticks before the newest
  back : List C → ℕ → Bool
  back r a = leb (length r) (n - a) && keyword_at hears ticks (reverse r) (n - a - length r + 1)

  step_back : (c : C) (r : List C) (a : ℕ) (x : S) → a < n → get_or ts a x ≡ x → (hears c x && back r (a + 1)) ≡ back (c ∷ r) a
  unfolding back
  step_back c r a x lt is =
      let m = length r in
      let t = length ts - a - suc m + 1 in
      let same : length ts - (a + 1) - m + 1 ≡ t = omega arith in
      let rest = ap (λ w. keyword_at hears ticks w t) (reverse-append (c ∷ []) r) ∙ keyword_push (reverse r) c t in
      ⊎_elim
      (λ le.
      let here : t + length (reverse r) ≡ length ts - a = omega (arith, length-reverse r) in
      ap (λ b. hears c x && (b && keyword_at hears ticks (reverse r) (length ts - (a + 1) - m + 1))) (le-leb m (length ts - (a + 1)) (omega arith))
      ∙ ap (λ y. hears c x && keyword_at hears ticks (reverse r) y) same
      ∙ and_swap (hears c x) (keyword_at hears ticks (reverse r) t)
      ∙ ap (λ b. keyword_at hears ticks (reverse r) t && b) (sym (ap (λ y. admits_tick hears ticks y c) here ∙ at_back a c x lt ∙ ap (hears c) is))
      ∙ sym rest
      ∙ ap (λ b. b && keyword_at hears ticks (reverse (c ∷ r)) t) (sym (le-leb (suc m) (length ts - a) le)))
      (λ gt.
      and_right (hears c x) _ (and_left _ _ (lt-leb m (length ts - (a + 1)) (omega arith)))
      ∙ sym (and_left _ _ (lt-leb (suc m) (length ts - a) (omega arith))))
      (cases_le (suc m) (length ts - a))

  keyword_back : (r : List C) (a : ℕ) → admit_all hears r (drop a ts) ≡ back r a
  unfolding back
  keyword_back [] a = sym (ap (λ b. b && true) (le-leb 0 (length ts - a) (omega arith)))
  keyword_back (c ∷ r) a =
      ⊎_elim
      (λ lt. let s = split ts a lt in ap (admit_all hears (c ∷ r)) s.1 ∙ ap (λ b. hears c s.0 && b) (keyword_back r (a + 1)) ∙ step_back c r a s.0 lt s.2)
      (λ le. ap (admit_all hears (c ∷ r)) (drop_all a ts le) ∙ sym (and_left _ _ (lt-leb (suc (length r)) (length ts - a) (omega arith))))
      (cases_lt a (length ts))

  -- keywords with the gap before each, the last keyword first, back from a tick
  abbrev pub laid_back : List (ℕ × List C) → ℕ → Bool
  laid_back [] a = true
  laid_back (k ∷ ks) a = admit_all hears (reverse k.1) (drop a ts) && laid_back ks (a + length k.1 + k.0)

  -- the same forwards, in their order
  abbrev pub laid_pairs : List (ℕ × List C) → ℕ → Bool
  laid_pairs [] t = true
  laid_pairs (k ∷ ks) t = keyword_at hears ticks k.1 (t + k.0) && laid_pairs ks (t + k.0 + length k.1)

  abbrev pub width : List (ℕ × List C) → ℕ
  width [] = 0
  width (k ∷ ks) = k.0 + length k.1 + width ks

  -- a first keyword has no gap before it, and no keyword is empty
  abbrev pub Good : List (ℕ × List C) → Type 0
  Good [] = Unit {0}
  Good (k ∷ ks) = ((k.0 ≡ 0) ⊎ (1 ≤ width ks)) × Good ks

  width_push : (qs : List (ℕ × List C)) (k : ℕ × List C) → width (qs ++ k ∷ []) ≡ width qs + (k.0 + length k.1)
  width_push [] k = omega arith
  width_push (q ∷ qs) k = omega (arith, width_push qs k)

  pairs_push : (qs : List (ℕ × List C)) (k : ℕ × List C) (t : ℕ) → laid_pairs (qs ++ k ∷ []) t ≡ (laid_pairs qs t && keyword_at hears ticks k.1 (t + width qs + k.0))
  pairs_push [] k t = let z : t + 0 + k.0 ≡ t + k.0 = omega arith in and_swap (keyword_at hears ticks k.1 (t + k.0)) true ∙ ap (keyword_at hears ticks k.1) (sym z)
  pairs_push (q ∷ qs) k t =
      let u = t + q.0 + length q.1 in
      let z : u + width qs + k.0 ≡ t + (q.0 + length q.1 + width qs) + k.0 = omega arith in
      ap (λ b. keyword_at hears ticks q.1 (t + q.0) && b) (pairs_push qs k u ∙ ap (λ y. laid_pairs qs u && keyword_at hears ticks k.1 y) z)
      ∙ sym (and_assoc (keyword_at hears ticks q.1 (t + q.0)) (laid_pairs qs u) _)

  pub width-reverse : (ks : List (ℕ × List C)) → width (reverse ks) ≡ width ks
  width-reverse [] = refl
  width-reverse (k ∷ ks) = ap width (reverse-append (k ∷ []) ks) ∙ width_push (reverse ks) k ∙ (let r = width-reverse ks in let z : width (reverse ks) + (k.0 + length k.1) ≡ k.0 + length k.1 + width ks = omega arith in z)

  swing : (a b c d : Bool) → a ≡ true → c ≡ true → ((a && b) && (c && d)) ≡ (d && b)
  swing a b c d p q = ap (λ x. (x && b) && (c && d)) p ∙ ap (λ x. b && (x && d)) q ∙ and_swap b d

  pub backwards : (ks : List (ℕ × List C)) (a : ℕ) → Good ks → laid_back ks a ≡ (leb (width ks) (n - a) && laid_pairs (reverse ks) (n - a - width ks + 1))
  unfolding back
  backwards [] a g = sym (ap (λ b. b && true) (le-leb 0 (length ts - a) (omega arith)))
  backwards (k ∷ ks) a g =
      let w = k.1 in
      let m = length w in
      let wide = width ks in
      let t = length ts - a - (k.0 + m + wide) + 1 in
      let one : admit_all hears (reverse w) (drop a ts) ≡ (leb m (length ts - a) && keyword_at hears ticks w (length ts - a - m + 1)) = keyword_back (reverse w) a
      ∙ (λ i. leb (length-reverse w i) (length ts - a) && keyword_at hears ticks (reverse-reverse w i) (length ts - a - length-reverse w i + 1)) in
      let rest = backwards ks (a + m + k.0) g.1 in
      let all = ap (λ qs. laid_pairs qs t) (reverse-append (k ∷ []) ks) ∙ pairs_push (reverse ks) k t in
      (λ i. one i && rest i)
      ∙ ⊎_elim
      (λ le.
      let same : length ts - (a + m + k.0) - wide + 1 ≡ t = omega arith in
      let here : t + width (reverse ks) + k.0 ≡ length ts - a - m + 1 = omega (arith, width-reverse ks) in
      swing _ _ _ _ (le-leb m (length ts - a) (omega arith)) (le-leb wide (length ts - (a + m + k.0)) (omega arith))
      ∙ (λ i. laid_pairs (reverse ks) (same i) && keyword_at hears ticks w (sym here i))
      ∙ sym all
      ∙ ap (λ b. b && laid_pairs (reverse (k ∷ ks)) t) (sym (le-leb (k.0 + m + wide) (length ts - a) le)))
      (λ gt.
      ⊎_elim
      (λ fits.
      let less : length ts - (a + m + k.0) < wide = ⊎_elim (λ z. omega (arith, z, gt, fits)) (λ some. omega (arith, some, gt, fits)) g.0 in
      and_right _ _ (and_left _ _ (lt-leb wide (length ts - (a + m + k.0)) less)))
      (λ no_room. and_left _ _ (and_left _ _ (lt-leb m (length ts - a) no_room)))
      (cases_le m (length ts - a))
      ∙ sym (and_left _ _ (lt-leb (k.0 + m + wide) (length ts - a) gt)))
      (cases_le (k.0 + m + wide) (length ts - a))

-- a line's keywords with the gap before each: none before the first
abbrev pub pairs : {C : Type 0} → List ℕ → List (List C) → List (ℕ × List C)
pairs gs [] = []
pairs [] (w ∷ ws) = (0, w) ∷ pairs [] ws
pairs (g ∷ gs) (w ∷ ws) = (g, w) ∷ pairs gs ws

module _ {C S : Type 0} (hears : C → S → Bool) (ts : List S) where
  -- keywords after a first one, each behind its gap
  later : (ws : List (List C)) (gs : List ℕ) (w : List C) (t : ℕ) → laid_from hears (ticks hears ts) (w ∷ ws) gs t ≡ (keyword_at hears (ticks hears ts) w t && laid_pairs hears ts (pairs gs ws) (t + length w))
  later [] [] w t = refl
  later [] (g ∷ gs) w t = refl
  later (v ∷ ws) [] w t =
      let z : t + length w ≡ t + length w + 0 = omega arith in
      ap (λ b. keyword_at hears (ticks hears ts) w t && b) (later ws [] v (t + length w) ∙ (λ i. keyword_at hears (ticks hears ts) v (z i) && laid_pairs hears ts (pairs [] ws) (z i + length v)))
  later (v ∷ ws) (g ∷ gs) w t = ap (λ b. keyword_at hears (ticks hears ts) w t && b) (later ws gs v (t + length w + g))

  pub in_turn : (ws : List (List C)) (gs : List ℕ) (w : List C) (t : ℕ) → laid_from hears (ticks hears ts) (w ∷ ws) gs t ≡ laid_pairs hears ts (pairs (0 ∷ gs) (w ∷ ws)) t
  in_turn ws gs w t =
      let z : t ≡ t + 0 = omega arith in
      later ws gs w t ∙ (λ i. keyword_at hears (ticks hears ts) w (z i) && laid_pairs hears ts (pairs gs ws) (z i + length w))
