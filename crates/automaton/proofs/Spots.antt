-- The places of keywords: the k-th keyword's i-th cell lies i places past the cells of the keywords before it.
use Rattle.std.proofs.Common.{◌≡◌, ℕ, zero, suc, ◌+◌, ◌-◌, ◌<◌, ◌≤◌, Bool, cond, List, [], ◌∷◌, ◌++◌, map, reverse, length, get_or, take, drop, sym, refl, ap, ◌∙◌, ⊎_elim, arith}
use Rattle.std.specs.List.{flat_map}
use Rattle.std.proofs.lemmas.List.{drop_at, drop-drop, take-append-le}
use Rattle.std.proofs.lemmas.Bool.{cases_lt, lt-ltb, le-ltb}
use Rattle.book.specs.Cutting.{total}
use Rattle.finders.specs.Latest.{admit_all, runs_among}

-- where a keyword begins
abbrev pub start : {C : Type 0} → List (List C) → ℕ → ℕ
start ws k = total (take k (map length ws))

module _ {C : Type 0} where
  -- a run at a keyword's place
  pub run_at : {S : Type 0} (admits : C → S → Bool) (ws : List (List C)) (newest : List S) (k i : ℕ) → k < length ws → i < length (get_or ws k [])
      → runs_among admits ws newest (start ws k + i) ≡ admit_all admits (reverse (take (i + 1) (get_or ws k []))) newest
  run_at admits [] newest k i h l = absurd (let no : ⊥ = omega arith in no)
  run_at admits (w ∷ ws) newest zero i h l =
      let z : 0 + i ≡ i = omega arith in
      ap (runs_among admits (w ∷ ws) newest) z
      ∙ ap (λ t. cond t (admit_all admits (reverse (take (i + 1) w)) newest) (runs_among admits ws newest (i - length w))) (lt-ltb i (length w) l)
  run_at admits (w ∷ ws) newest (suc k) i h l =
      let p : ℕ = length w + start ws k + i in
      let back : length w + start ws k + i - length w ≡ start ws k + i = omega arith in
      ap (λ t. cond t (admit_all admits (reverse (take (p + 1) w)) newest) (runs_among admits ws newest (p - length w))) (le-ltb p (length w) (omega arith))
      ∙ ap (runs_among admits ws newest) back
      ∙ run_at admits ws newest k i (omega arith) l

  -- the first cells of a keyword
  pub cells_at : (ws : List (List C)) (k n : ℕ) → k < length ws → n ≤ length (get_or ws k []) → take n (drop (start ws k) (flat_map (λ w. w) ws)) ≡ take n (get_or ws k [])
  cells_at [] k n h l = absurd (let no : ⊥ = omega arith in no)
  cells_at (w ∷ ws) zero n h l = take-append-le n w (flat_map (λ w. w) ws) l
  cells_at (w ∷ ws) (suc k) n h l =
      ap (take n) (sym (drop-drop (start ws k) (length w) (w ++ flat_map (λ w. w) ws)) ∙ ap (drop (start ws k)) (drop_at w (flat_map (λ w. w) ws) (length w) refl))
      ∙ cells_at ws k n (omega arith) l

-- every place is a keyword's
pub place_of : (ns : List ℕ) (p : ℕ) → p < total ns → ((k : ℕ) × ((i : ℕ) × (k < length ns) × (i < get_or ns k 0) × (p ≡ total (take k ns) + i)))
place_of [] p h = absurd (let no : ⊥ = omega arith in no)
place_of (n ∷ ns) p h =
    ⊎_elim
    (λ (l : p < n). (0, (p, omega arith, l, omega arith)))
    (λ (l : n ≤ p).
    let r = place_of ns (p - n) (omega arith) in
    (suc r.0, (r.1.0, omega (arith, r.1.1), r.1.2, omega (arith, r.1.3))))
    (cases_lt p n)
