-- Laws of the walk of fail links.
use Rattle.std.proofs.Common.{◌≡◌, ℕ, zero, suc, ◌+◌, ◌<◌, ◌≤◌, Bool, true, false, ◌||◌, eqb, ◌⊎◌, sym, refl, ap, ◌∙◌, inl, inr, ⊎_elim, arith}
use Rattle.std.proofs.lemmas.Bool.{cases_eq, cases_Bool, eq-eqb, ne_eqb, eqb-true, or_cases}
use Rattle.automaton.specs.Walk.{meets_within, meets, Links}

or_same : (a b : Bool) → b ≡ a → (a || b) ≡ a
or_same true b e = refl
or_same false b e = e

module _ (fail turn : ℕ → ℕ) (l : Links fail turn) where
  within_root : (n y : ℕ) → meets_within n fail 0 y ≡ eqb 0 y
  unfolding meets_within
  within_root zero y = refl
  within_root (suc n) y = or_same (eqb 0 y) _ (ap (λ x. meets_within n fail x y) l.root.1 ∙ within_root n y)

  -- links enough are as good as one more
  within_more : (n x y : ℕ) → 0 < turn x → turn x ≤ n + 1 → meets_within (suc n) fail x y ≡ meets_within n fail x y
  unfolding meets_within
  within_more zero x y on le =
      ⊎_elim
      (λ (z : x ≡ 0). or_same (eqb x y) _ (ap (λ v. eqb v y) (ap fail z ∙ l.root.1 ∙ sym z)))
      (λ (n : x ≡ 0 → ⊥). absurd (let b = l.back x (omega arith) on in let no : ⊥ = omega arith in no))
      (cases_eq x 0)
  within_more (suc n) x y on le =
      ⊎_elim
      (λ (z : x ≡ 0). ap (λ v. meets_within (suc (suc n)) fail v y) z ∙ within_root (suc (suc n)) y ∙ sym (ap (λ v. meets_within (suc n) fail v y) z ∙ within_root (suc n) y))
      (λ (m : x ≡ 0 → ⊥). let b = l.back x (omega arith) on in ap (λ v. eqb x y || v) (within_more n (fail x) y b.0 (omega arith)))
      (cases_eq x 0)

  within_step : (n x y : ℕ) → 0 < turn x → turn x ≤ n + 1 → meets_within n fail x y ≡ (eqb x y || meets_within n fail (fail x) y)
  unfolding meets_within
  within_step n x y on le = sym (within_more n x y on le)

  -- the root ends every walk
  within_end : (n x : ℕ) → 0 < turn x → turn x ≤ n + 1 → meets_within n fail x 0 ≡ true
  unfolding meets_within
  within_end zero x on le =
      ⊎_elim
      (λ (z : x ≡ 0). eq-eqb x 0 z)
      (λ (m : x ≡ 0 → ⊥). absurd (let b = l.back x (omega arith) on in let no : ⊥ = omega arith in no))
      (cases_eq x 0)
  within_end (suc n) x on le =
      ⊎_elim
      (λ (z : x ≡ 0). ap (λ b. b || meets_within n fail (fail x) 0) (eq-eqb x 0 z))
      (λ (m : x ≡ 0 → ⊥). let b = l.back x (omega arith) on in ap (λ v. v || meets_within n fail (fail x) 0) (ne_eqb x 0 m) ∙ within_end n (fail x) b.0 (omega arith))
      (cases_eq x 0)

  -- a link keeps to the states that have a turn
  on_link : (x : ℕ) → 0 < turn x → 0 < turn (fail x)
  on_link x on =
      ⊎_elim
      (λ (z : x ≡ 0). let e : turn (fail x) ≡ 1 = ap turn (ap fail z ∙ l.root.1) ∙ l.root.0 in omega arith)
      (λ (m : x ≡ 0 → ⊥). (l.back x (omega arith) on).0)
      (cases_eq x 0)

  -- links that agree on the states that have a turn have the same walks
  within_same : (fail' : ℕ → ℕ) → ((x : ℕ) → 0 < turn x → fail' x ≡ fail x) → (n x y : ℕ) → 0 < turn x → meets_within n fail' x y ≡ meets_within n fail x y
  unfolding meets_within
  within_same fail' same zero x y on = refl
  within_same fail' same (suc n) x y on = ap (λ v. eqb x y || meets_within n fail' v y) (same x on) ∙ ap (λ v. eqb x y || v) (within_same fail' same n (fail x) y (on_link x on))

  -- what is met on the way is the start or has an earlier turn
  within_earlier : (n x y : ℕ) → 0 < turn x → meets_within n fail x y ≡ true → (x ≡ y) ⊎ (turn y < turn x)
  unfolding meets_within
  within_earlier zero x y on h = inl (eqb-true x y h)
  within_earlier (suc n) x y on h =
      ⊎_elim
      (λ here. inl (eqb-true x y here))
      (λ later. ⊎_elim
      (λ (z : x ≡ 0). inl (z ∙ eqb-true 0 y (sym (within_root n y) ∙ sym (ap (λ v. meets_within n fail v y) (ap fail z ∙ l.root.1)) ∙ later)))
      (λ (m : x ≡ 0 → ⊥).
      let b = l.back x (omega arith) on in
      ⊎_elim (λ (e : fail x ≡ y). let t = ap turn e in inr (omega arith)) (λ lt. inr (omega arith)) (within_earlier n (fail x) y b.0 later))
      (cases_eq x 0))
      (or_cases (eqb x y) _ h)

  enough : (x : ℕ) → turn x ≤ 1024 + 1
  enough x = let f = l.few x in omega arith

  pub meets_root : (y : ℕ) → meets fail 0 y ≡ eqb 0 y
  unfolding meets
  meets_root y = within_root 1024 y

  -- one link
  pub meets_step : (x y : ℕ) → 0 < turn x → meets fail x y ≡ (eqb x y || meets fail (fail x) y)
  unfolding meets
  meets_step x y on = within_step 1024 x y on (enough x)

  pub meets_end : (x : ℕ) → 0 < turn x → meets fail x 0 ≡ true
  unfolding meets
  meets_end x on = within_end 1024 x on (enough x)

  pub meets_same : (fail' : ℕ → ℕ) → ((x : ℕ) → 0 < turn x → fail' x ≡ fail x) → (x y : ℕ) → 0 < turn x → meets fail' x y ≡ meets fail x y
  unfolding meets
  meets_same fail' same x y on = within_same fail' same 1024 x y on

  pub meets_earlier : (x y : ℕ) → 0 < turn x → meets fail x y ≡ true → (x ≡ y) ⊎ (turn y < turn x)
  unfolding meets
  meets_earlier x y on h = within_earlier 1024 x y on h

  -- a state of an earlier turn is met further on
  pub meets_on : (x y : ℕ) → 0 < turn y → turn y < turn x → (0 < turn (fail x)) × (turn (fail x) < turn x) × (meets fail x y ≡ meets fail (fail x) y)
  meets_on x y on lt =
      let pos : 0 < x = ⊎_elim (λ (z : x ≡ 0). absurd (let o = ap turn z in let no : ⊥ = omega (arith, l.root.0) in no)) (λ (n : x ≡ 0 → ⊥). omega arith) (cases_eq x 0) in
      let b = l.back x pos (omega arith) in
      (b.0, b.1, meets_step x y (omega arith) ∙ ap (λ t. t || meets fail (fail x) y) (ne_eqb x y (λ e. let o = ap turn e in omega arith)))

  -- no state of a later turn is met
  pub meets_here : (x y : ℕ) → 0 < turn x → turn x ≤ turn y → eqb x y ≡ meets fail x y
  meets_here x y on le =
      ⊎_elim
      (λ (e : x ≡ y). eq-eqb x y e ∙ sym (meets_step x y on ∙ ap (λ t. t || meets fail (fail x) y) (eq-eqb x y e)))
      (λ (n : x ≡ y → ⊥).
      ne_eqb x y n ∙ sym (⊎_elim
      (λ m. absurd (⊎_elim n (λ lt. let no : ⊥ = omega arith in no) (meets_earlier x y on m)))
      (λ m. m)
      (cases_Bool (meets fail x y))))
      (cases_eq x y)
