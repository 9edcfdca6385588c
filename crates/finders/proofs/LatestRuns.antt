-- One symbol more: the step of a finder is the step of the law over whole runs.
use Rattle.std.proofs.Common.{◌≡◌, ℕ, zero, suc, ◌+◌, ◌-◌, ◌<◌, ◌≤◌, Bool, true, false, cond, ◌&&◌, ◌||◌, eqb, ltb, List, [], ◌∷◌, ◌++◌, map, reverse, length, get_or, take, sym, refl, ap, ◌∙◌, ⊎_elim, arith}
use mathlib.Core.List.{reverse-append}
use Rattle.std.specs.List.{flat_map}
use Rattle.std.proofs.lemmas.List.{take_more}
use Rattle.std.proofs.lemmas.Bool.{cases_lt, cases_eq, lt-ltb, le-ltb, eq-eqb, ne_eqb, or_from, or_left}
use Rattle.book.specs.Book.{Book, all_keywords, all_cells, all_gaps, among}
use Rattle.book.specs.Rows.{keyword_rows_from, keyword_rows}
use Rattle.finders.specs.Latest.{admit_all, runs_among, run}
use Rattle.finders.specs.Runs.{passes, taken}
use Rattle.finders.proofs.Marks.{passes_at}

-- the first places of keywords from a place on, whatever the gaps
abbrev pub firsts : ℕ → List ℕ → List ℕ → List ℕ
firsts f gs ns = map (λ k. k.first) (keyword_rows_from f gs ns)

abbrev pub tail : List ℕ → List ℕ
tail [] = []
tail (g ∷ gs) = gs

firsts_more : (f : ℕ) (gs : List ℕ) (n : ℕ) (ns : List ℕ) → firsts f gs (n ∷ ns) ≡ f ∷ firsts (f + n) (tail gs) ns
firsts_more f [] n ns = refl
firsts_more f (g ∷ gs) n ns = refl

-- no keyword begins before the first
none_before : (f : ℕ) (gs ns : List ℕ) (p : ℕ) → p < f → among p (firsts f gs ns) ≡ false
none_before f gs [] p h = refl
none_before f gs (n ∷ ns) p h =
    ap (among p) (firsts_more f gs n ns) ∙ or_from _ _ (ne_eqb f p (λ e. omega arith)) (none_before (f + n) (tail gs) ns p (omega arith))

-- a position behind a list's front
passes_behind : {X : Type 0} (test : X → Bool) (xs ys : List X) (p : ℕ) → length xs ≤ p → passes test (xs ++ ys) p ≡ passes test ys (p - length xs)
passes_behind test [] ys p h = let z : p ≡ p - 0 = omega arith in ap (passes test ys) z
passes_behind test (x ∷ xs) ys zero h = absurd (let z : ⊥ = omega arith in z)
passes_behind test (x ∷ xs) ys (suc p) h = let z : p - length xs ≡ suc p - suc (length xs) = omega arith in passes_behind test xs ys p (omega arith) ∙ ap (passes test ys) z

passes_front : {X : Type 0} (test : X → Bool) (xs ys : List X) (p : ℕ) → p < length xs → passes test (xs ++ ys) p ≡ passes test xs p
passes_front test [] ys p h = absurd (let z : ⊥ = omega arith in z)
passes_front test (x ∷ xs) ys zero h = refl
passes_front test (x ∷ xs) ys (suc p) h = passes_front test xs ys p (omega arith)

module _ {C S : Type 0} (admits : C → S → Bool) (y : S) (ys : List S) where
  -- inside one keyword, the newest symbol is for the cell there and the others are for those before it
  newest : (w : List C) (p : ℕ) → p < length w → admit_all admits (reverse (take (p + 1) w)) (y ∷ ys) ≡ (passes (λ c. admits c y) w p && admit_all admits (reverse (take p w)) ys)
  newest [] p h = absurd (let z : ⊥ = omega arith in z)
  newest (c ∷ w) p h =
      let t = take_more (c ∷ w) p c h in
      let x = get_or (c ∷ w) p c in
      ap (λ cs. admit_all admits (reverse cs) (y ∷ ys)) t
      ∙ ap (λ cs. admit_all admits cs (y ∷ ys)) (reverse-append (take p (c ∷ w)) (x ∷ []))
      ∙ ap (λ b. b && admit_all admits (reverse (take p (c ∷ w))) ys) (sym (passes_at (λ c. admits c y) (c ∷ w) p c h))

  module _ (stood : ℕ → Bool) where
    abbrev pub stepped : ℕ → List ℕ → List (List C) → ℕ → Bool
    stepped f gs ws j = passes (λ c. admits c y) (flat_map (λ k. k) ws) j && (among (f + j) (firsts f gs (map length ws)) || (ltb 0 (f + j) && stood (f + j - 1)))

    -- a keyword that has no cell begins where the next one does
    skip : (ws : List (List C)) (gs : List ℕ) (f n j : ℕ) (r : Bool)
        → (passes (λ c. admits c y) (flat_map (λ k. k) ws) j && ((eqb f (f + n + j) || among (f + n + j) (firsts (f + n) gs (map length ws))) || r))
        ≡ (passes (λ c. admits c y) (flat_map (λ k. k) ws) j && (among (f + n + j) (firsts (f + n) gs (map length ws)) || r))
    skip [] gs f n j r = refl
    skip (v ∷ vs) gs f n j r =
        ⊎_elim
        (λ same.
        let here : among (f + n + j) (firsts (f + n) gs (map length (v ∷ vs))) ≡ true = ap (among (f + n + j)) (firsts_more (f + n) gs (length v) (map length vs)) ∙ or_left _ _ (eq-eqb (f + n) (f + n + j) (omega (arith, same))) in
        rw (here, eq-eqb f (f + n + j) same))
        (λ other. rw (ne_eqb f (f + n + j) other))
        (cases_eq f (f + n + j))

    -- whether a run may reach a position inside the first keyword
    reach : (w : List C) (ws : List (List C)) (gs : List ℕ) (f j : ℕ) → j < length w → ((j : ℕ) → stood (f + j) ≡ runs_among admits (w ∷ ws) ys j)
        → (among (f + j) (firsts f gs (map length (w ∷ ws))) || (ltb 0 (f + j) && stood (f + j - 1))) ≡ admit_all admits (reverse (take j w)) ys
    reach w ws gs f zero h e =
        let first = ap (among (f + 0)) (firsts_more f gs (length w) (map length ws)) ∙ or_left _ _ (eq-eqb f (f + 0) (omega arith)) in
        or_left _ _ first
    reach w ws gs f (suc i) h e =
        let off = ap (among (f + suc i)) (firsts_more f gs (length w) (map length ws)) ∙ or_from _ _ (ne_eqb f (f + suc i) (λ q. omega arith)) (none_before (f + length w) (tail gs) (map length ws) (f + suc i) (omega arith)) in
        let on = lt-ltb 0 (f + suc i) (omega arith) in
        let back : f + suc i - 1 ≡ f + i = omega arith in
        let inside = lt-ltb i (length w) (omega arith) in
        let more : i + 1 ≡ suc i = omega arith in
        ap (λ b. b || (ltb 0 (f + suc i) && stood (f + suc i - 1))) off
        ∙ ap (λ b. b && stood (f + suc i - 1)) on
        ∙ ap stood back ∙ e i
        ∙ ap (λ b. cond b (admit_all admits (reverse (take (i + 1) w)) ys) (runs_among admits ws ys (i - length w))) inside
        ∙ ap (λ k. admit_all admits (reverse (take k w)) ys) more

    pub step : (ws : List (List C)) (gs : List ℕ) (f : ℕ) → ((j : ℕ) → stood (f + j) ≡ runs_among admits ws ys j) → (j : ℕ) → stepped f gs ws j ≡ runs_among admits ws (y ∷ ys) j
    step [] gs f e j = refl
    step (w ∷ ws) gs f e j =
        ⊎_elim
        (λ lt.
        ap (λ b. b && (among (f + j) (firsts f gs (map length (w ∷ ws))) || (ltb 0 (f + j) && stood (f + j - 1)))) (passes_front (λ c. admits c y) w (flat_map (λ k. k) ws) j lt)
        ∙ ap (λ b. passes (λ c. admits c y) w j && b) (reach w ws gs f j lt e)
        ∙ sym (newest w j lt)
        ∙ sym (ap (λ b. cond b (admit_all admits (reverse (take (j + 1) w)) (y ∷ ys)) (runs_among admits ws (y ∷ ys) (j - length w))) (lt-ltb j (length w) lt)))
        (λ le.
        let n : ℕ = length w in
        let i : ℕ = j - n in
        let q : f + j ≡ f + n + i = omega arith in
        let rest = step ws (tail gs) (f + n) (λ k. let z : f + n + k ≡ f + (n + k) = omega arith in let d : n + k - n ≡ k = omega arith in ap stood z ∙ e (n + k) ∙ ap (λ b. cond b (admit_all admits (reverse (take (n + k + 1) w)) ys) (runs_among admits ws ys (n + k - n))) (le-ltb (n + k) n (omega arith)) ∙ ap (runs_among admits ws ys) d) i in
        ap (λ b. b && (among (f + j) (firsts f gs (map length (w ∷ ws))) || (ltb 0 (f + j) && stood (f + j - 1)))) (passes_behind (λ c. admits c y) w (flat_map (λ k. k) ws) j le)
        ∙ ap (λ k. passes (λ c. admits c y) (flat_map (λ k. k) ws) i && (among k (firsts f gs (map length (w ∷ ws))) || (ltb 0 k && stood (k - 1)))) q
        ∙ ap (λ fs. passes (λ c. admits c y) (flat_map (λ k. k) ws) i && (among (f + n + i) fs || (ltb 0 (f + n + i) && stood (f + n + i - 1)))) (firsts_more f gs n (map length ws))
        ∙ skip ws (tail gs) f n i (ltb 0 (f + n + i) && stood (f + n + i - 1))
        ∙ rest
        ∙ sym (ap (λ b. cond b (admit_all admits (reverse (take (j + 1) w)) (y ∷ ys)) (runs_among admits ws (y ∷ ys) (j - n))) (le-ltb j n le)))
        (cases_lt j (length w))

module _ {C S : Type 0} (admits : C → S → Bool) where
  -- one symbol more, the newest first
  pub taken_newest : (b : Book C) (stood : ℕ → Bool) (newest : List S) (y : S) → ((p : ℕ) → stood p ≡ runs_among admits (all_keywords b) newest p) → (p : ℕ) → taken b (λ c. admits c y) stood p ≡ runs_among admits (all_keywords b) (y ∷ newest) p
  taken_newest b stood newest y e p =
      let z : p ≡ 0 + p = omega arith in
      ap (λ q. passes (λ c. admits c y) (all_cells b) p && (among q (map (λ k. k.first) (keyword_rows b)) || (ltb 0 q && stood (q - 1)))) z
      ∙ step admits y newest stood (all_keywords b) (all_gaps b) 0 (λ j. let w : 0 + j ≡ j = omega arith in ap stood w ∙ e j) p

  -- and in the order in which they were taken
  pub taken_run : (b : Book C) (stood : ℕ → Bool) (symbols : List S) (y : S) → ((p : ℕ) → stood p ≡ run admits b symbols p) → (p : ℕ) → taken b (λ c. admits c y) stood p ≡ run admits b (symbols ++ y ∷ []) p
  taken_run b stood symbols y e p = taken_newest b stood (reverse symbols) y e p ∙ ap (λ ys. runs_among admits (all_keywords b) ys p) (sym (reverse-append symbols (y ∷ [])))

  never_empty : (w : List C) (p : ℕ) → p < length w → admit_all admits (reverse (take (p + 1) w)) [] ≡ false
  never_empty [] p h = absurd (let z : ⊥ = omega arith in z)
  never_empty (c ∷ w) p h =
      ap (λ cs. admit_all admits (reverse cs) []) (take_more (c ∷ w) p c h) ∙ ap (λ xs. admit_all admits xs []) (reverse-append (take p (c ∷ w)) (get_or (c ∷ w) p c ∷ []))

  -- before the first symbol there is no run
  pub no_run : (ws : List (List C)) (p : ℕ) → runs_among admits ws [] p ≡ false
  no_run [] p = refl
  no_run (w ∷ ws) p =
      let choose : Bool → Bool = λ b. cond b (admit_all admits (reverse (take (p + 1) w)) []) (runs_among admits ws [] (p - length w)) in
      ⊎_elim
      (λ lt. ap choose (lt-ltb p (length w) lt) ∙ never_empty w p lt)
      (λ le. ap choose (le-ltb p (length w) le) ∙ no_run ws (p - length w))
      (cases_lt p (length w))
