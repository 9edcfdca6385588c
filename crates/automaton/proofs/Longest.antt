-- The label of a state is the longest suffix of the letters that begins some keyword.
use Rattle.std.proofs.Common.{◌≡◌, ℕ, zero, suc, ◌+◌, ◌-◌, ◌<◌, ◌≤◌, true, cond, ◌||◌, eqb, ◌⊎◌, List, [], ◌∷◌, ◌++◌, map, reverse, length, get_or, take, drop, sym, refl, ap, ◌∙◌, subst, inl, inr, ⊎_elim, arith}
use Rattle.std.proofs.lemmas.List.{drop_all, get_or-drop, get_or-map, get_or-take, length-map, length-reverse, length-take, length-take-le, map_more, take-map}
use Rattle.std.proofs.lemmas.Bool.{cases_eq, eq-eqb, ne_eqb, both_ways}
use Rattle.book.specs.Book.{Book, all_keywords, all_cells}
use Rattle.book.specs.Proper.{AllFit}
use Rattle.book.specs.Rows.{keyword_rows}
use Rattle.book.proofs.NewRows.{total_more, total-take}
use Rattle.cells.specs.declared.letters.Letter.{Letter}
use Rattle.cells.specs.declared.letters.LetterCell.{LetterCell}
use Rattle.cells.specs.Letters.{letter_admits}
use Rattle.finders.specs.Latest.{admit_all, run}
use Rattle.finders.specs.Runs.{begins}
use Rattle.finders.proofs.LatestRuns.{taken_run, no_run}
use Rattle.automaton.specs.Labels.{word, spelt, keyword_words, Suffix, BeginsSome, Label}
use Rattle.automaton.specs.Linked.{Linked, stands_at}
use Rattle.automaton.specs.Memory.{at}
use Rattle.automaton.specs.Places.{letters, before}
use Rattle.automaton.specs.Walk.{meets}
use Rattle.automaton.proofs.Keywords.{lengths, place_begins, total-lengths}
use Rattle.automaton.proofs.Spots.{start, run_at, cells_at, place_of}
use Rattle.automaton.proofs.Stands.{root_turned, state_turned, none_stands, stands_inside, takes, same_letter}
use Rattle.automaton.proofs.Walks.{meets_step}
use Rattle.automaton.proofs.Words.{admits_length, suffix_from, suffix_admits}

-- some cell, for a position past the end
some_cell : LetterCell
some_cell = record { letter = record { byte = 65; ok = refl } }

-- the k-th keyword of a book
abbrev pub keyword : Book LetterCell → ℕ → List LetterCell
keyword b k = get_or (all_keywords b) k []

-- it has an i-th cell, at a place
pub record Spot (b : Book LetterCell) (k i : ℕ) : Type 0 where
  pub some : k < length (all_keywords b)
  pub inside : i < length (keyword b k)

abbrev pub place : Book LetterCell → ℕ → ℕ → ℕ
place b k i = start (all_keywords b) k + i

module _ (b : Book LetterCell) (k i : ℕ) (s : Spot b k i) where
  long : get_or (lengths b) k 0 ≡ length (keyword b k)
  long = get_or-map length (all_keywords b) k [] 0 s.some

  many : length (lengths b) ≡ length (all_keywords b)
  many = length-map (all_keywords b) length

  pub place_inside : place b k i < length (all_cells b)
  place_inside =
      omega (arith, s.inside, long, total_more (lengths b) k (omega (arith, s.some, many)), total-take (k + 1) (lengths b), total-lengths (all_keywords b))

  place_first : AllFit (keyword_rows b) → begins b (place b k i) ≡ eqb i 0
  place_first fit = place_begins b fit k i (omega (arith, s.some, many)) (omega (arith, s.inside, long))

  -- the letter there
  abbrev here : Letter
  here = (get_or (keyword b k) i some_cell).letter

  letter_here : at (letters (all_cells b)) (place b k i) ≡ here.byte - 65
  letter_here =
      let cut = cells_at (all_keywords b) k (i + 1) s.some (omega (arith, s.inside)) in
      let cell = sym (get_or-take (i + 1) (drop (start (all_keywords b) k) (all_cells b)) i some_cell (omega arith) ∙ get_or-drop (start (all_keywords b) k) (all_cells b) i some_cell)
      ∙ ap (λ cs. get_or cs i some_cell) cut ∙ get_or-take (i + 1) (keyword b k) i some_cell (omega arith) in
      get_or-map (λ c. c.letter.byte - 65) (all_cells b) (place b k i) some_cell 0 place_inside ∙ ap (λ c. c.letter.byte - 65) cell

  -- a run stands there just if the cells so far spell a suffix
  run_here : (taken : List Letter) → run letter_admits b taken (place b k i) ≡ admit_all letter_admits (reverse (take (i + 1) (keyword b k))) (reverse taken)
  run_here taken = run_at letter_admits (all_keywords b) (reverse taken) k i s.some s.inside

  pub run_suffix : (taken : List Letter) → run letter_admits b taken (place b k i) ≡ true → Suffix (spelt (take (i + 1) (keyword b k))) (word taken)
  run_suffix taken e = suffix_from (take (i + 1) (keyword b k)) taken (sym (run_here taken) ∙ e)

  pub suffix_run : (taken : List Letter) → Suffix (spelt (take (i + 1) (keyword b k))) (word taken) → run letter_admits b taken (place b k i) ≡ true
  suffix_run taken e = run_here taken ∙ suffix_admits (take (i + 1) (keyword b k)) taken e

  pub run_long : (taken : List Letter) → run letter_admits b taken (place b k i) ≡ true → i < length taken
  run_long taken e =
      let cs = take (i + 1) (keyword b k) in
      omega (arith, admits_length letter_admits (reverse cs) (reverse taken) (sym (run_here taken) ∙ e), length-reverse cs, length-reverse taken, length-take-le (i + 1) (keyword b k) (omega (arith, s.inside)))

  pub length_here : length (spelt (take (i + 1) (keyword b k))) ≡ i + 1
  length_here = length-map (take (i + 1) (keyword b k)) (λ c. c.letter.byte) ∙ length-take-le (i + 1) (keyword b k) (omega (arith, s.inside))

  pub begins_here : BeginsSome (keyword_words b) (spelt (take (i + 1) (keyword b k)))
  begins_here = inr (
    k,
    omega (arith, length-map (all_keywords b) spelt, s.some),
    ap (λ n. take n (get_or (keyword_words b) k [])) length_here
        ∙ ap (take (i + 1)) (get_or-map spelt (all_keywords b) k [] [] s.some)
        ∙ take-map (λ c. c.letter.byte) (i + 1) (keyword b k),
  )

-- a word that begins some keyword is empty or ends at a cell of it
begins_where : (b : Book LetterCell) (u : List ℕ) → BeginsSome (keyword_words b) u → (length u ≡ 0) ⊎ ((k : ℕ) × ((i : ℕ) × Spot b k i × (u ≡ spelt (take (i + 1) (keyword b k)))))
begins_where b u (inl e) = inl (ap length e)
begins_where b u (inr h) =
    ⊎_elim inl
    (λ (n : length u ≡ 0 → ⊥).
    let k : ℕ = h.0 in
    let some : k < length (all_keywords b) = omega (arith, h.1, length-map (all_keywords b) spelt) in
    let e : take (length u) (spelt (keyword b k)) ≡ u = ap (take (length u)) (sym (get_or-map spelt (all_keywords b) k [] [] some)) ∙ h.2 in
    let fits : length u ≤ length (keyword b k) = omega (arith, ap length e, length-take (length u) (spelt (keyword b k)), length-map (keyword b k) (λ c. c.letter.byte)) in
    let one : length u - 1 + 1 ≡ length u = omega arith in
    inr (k, (length u - 1, record { some = some; inside = omega arith }, sym e ∙ take-map (λ c. c.letter.byte) (length u) (keyword b k) ∙ ap (λ m. spelt (take m (keyword b k))) (sym one))))
    (cases_eq (length u) 0)

module _ (b : Book LetterCell) (next fail states turns : List ℕ) (L : Linked b next fail states turns) (fit : AllFit (keyword_rows b)) where
  -- a letter more
  step : (x p : ℕ) (us : List Letter) (y : Letter) → 0 < at turns x → p < length (all_cells b) → before b states p ≡ x → at (letters (all_cells b)) p ≡ y.byte - 65
      → ((q : ℕ) → stands_at b fail states x q ≡ run letter_admits b us q) → (q : ℕ) → stands_at b fail states (at states p) q ≡ run letter_admits b (us ++ y ∷ []) q
  step x p us y on l is_x is_y stood q =
      let low : y.byte - 65 < 16 = omega (arith, L.automaton.sound.letter p l, is_y) in
      let arc = (L.automaton.settled x (y.byte - 65) low on).arc p l is_x is_y in
      ap (λ z. stands_at b fail states z q) (sym arc)
      ∙ takes b next fail states turns L x (y.byte - 65) low on (λ c. letter_admits c y) (λ c. same_letter c.letter y) q
      ∙ taken_run letter_admits b (stands_at b fail states x) us y stood q

  -- the letters of a keyword so far
  abbrev so_far : ℕ → ℕ → List Letter
  so_far k n = map (λ c. c.letter) (take n (keyword b k))

  -- the letters of a keyword lead from the root to the states of its places
  leads_to : (k i : ℕ) → Spot b k i → (q : ℕ) → stands_at b fail states (at states (place b k i)) q ≡ run letter_admits b (so_far k (i + 1)) q
  leads_to k zero s q =
      step 0 (place b k 0) [] (get_or (keyword b k) 0 some_cell).letter (root_turned b next fail states turns L) (place_inside b k 0 s)
      (ap (λ t. cond t 0 (at states (place b k 0 - 1))) (place_first b k 0 s fit)) (letter_here b k 0 s)
      (λ q. none_stands b next fail states turns L q ∙ sym (no_run letter_admits (all_keywords b) q)) q
      ∙ ap (λ us. run letter_admits b us q) (sym (map_more (λ c. c.letter) (keyword b k) 0 some_cell s.inside))
  leads_to k (suc i) s q =
      let r : Spot b k i = record { some = s.some; inside = omega (arith, s.inside) } in
      let back : place b k (suc i) - 1 ≡ place b k i = omega arith in
      let one : i + 1 ≡ suc i = omega arith in
      step (at states (place b k i)) (place b k (suc i)) (so_far k (i + 1)) (get_or (keyword b k) (suc i) some_cell).letter
      (state_turned b next fail states turns L (place b k i) (place_inside b k i r)) (place_inside b k (suc i) s)
      (ap (λ t. cond t 0 (at states (place b k (suc i) - 1))) (place_first b k (suc i) s fit ∙ ne_eqb (suc i) 0 (λ z. omega arith)) ∙ ap (at states) back)
      (letter_here b k (suc i) s) (leads_to k i r) q
      ∙ ap (λ n. run letter_admits b (so_far k n ++ (get_or (keyword b k) (suc i) some_cell).letter ∷ []) q) one
      ∙ ap (λ us. run letter_admits b us q) (sym (map_more (λ c. c.letter) (keyword b k) (suc i) some_cell s.inside))

  -- in the state of a place no run stands further in a keyword
  no_further : (k i j m : ℕ) → Spot b k i → Spot b j m → stands_at b fail states (at states (place b k i)) (place b j m) ≡ true → m ≤ i
  no_further k i j m s r e =
      omega (
        arith,
        run_long b j m r (so_far k (i + 1)) (sym (leads_to k i s (place b j m)) ∙ e),
        length-map (take (i + 1) (keyword b k)) (λ c. c.letter),
        length-take-le (i + 1) (keyword b k) (omega (arith, s.inside)),
      )

  -- the cells that lead to a state are its label
  pub label_found : (x k i : ℕ) → Spot b k i → at states (place b k i) ≡ x → (taken : List Letter) → ((p : ℕ) → stands_at b fail states x p ≡ run letter_admits b taken p)
      → Label (keyword_words b) (word taken) (spelt (take (i + 1) (keyword b k)))
  label_found x k i s is taken stood =
      let inside = place_inside b k i s in
      let on = state_turned b next fail states turns L (place b k i) inside in
      let stands : stands_at b fail states x (place b k i) ≡ true =
      ap (λ z. stands_at b fail states z (place b k i)) (sym is) ∙ stands_inside b next fail states turns L (at states (place b k i)) (place b k i) inside
      ∙ meets_step (at fail) (at turns) L.automaton.links (at states (place b k i)) (at states (place b k i)) on
      ∙ ap (λ t. t || meets (at fail) (at fail (at states (place b k i))) (at states (place b k i))) (eq-eqb (at states (place b k i)) (at states (place b k i)) refl) in
      record {
        suffix = run_suffix b k i s taken (sym (stood (place b k i)) ∙ stands);
        begins = begins_here b k i s;
        longest = λ u suffix some. ⊎_elim
            (λ (z : length u ≡ 0). omega arith)
            (λ h.
            let j : ℕ = h.0 in
            let m : ℕ = h.1.0 in
            let r : Spot b j m = h.1.1 in
            let e : u ≡ spelt (take (m + 1) (keyword b j)) = h.1.2 in
            let runs = suffix_run b j m r taken (subst (λ (v : List ℕ). Suffix v (word taken)) e suffix) in
            let most = no_further k i j m s r (ap (λ z. stands_at b fail states z (place b j m)) is ∙ stood (place b j m) ∙ runs) in
            omega (arith, ap length e, length_here b j m r, length_here b k i s, most))
            (begins_where b u some);
      }

  -- the root's label is empty
  pub label_none : (x : ℕ) → x ≡ 0 → (taken : List Letter) → ((p : ℕ) → stands_at b fail states x p ≡ run letter_admits b taken p) → Label (keyword_words b) (word taken) []
  label_none x z taken stood = record {
    suffix = drop_all (length (word taken) - 0) (word taken) (omega arith);
    begins = inl refl;
    longest = λ u suffix some. ⊎_elim
        (λ (e : length u ≡ 0). omega arith)
        (λ h.
        let j : ℕ = h.0 in
        let m : ℕ = h.1.0 in
        let r : Spot b j m = h.1.1 in
        let runs = suffix_run b j m r taken (subst (λ (v : List ℕ). Suffix v (word taken)) h.1.2 suffix) in
        absurd (both_ways (run letter_admits b taken (place b j m)) (sym (stood (place b j m)) ∙ ap (λ y. stands_at b fail states y (place b j m)) z ∙ none_stands b next fail states turns L (place b j m)) runs))
        (begins_where b u some);
  }

  -- a state that no place has is the root
  pub no_place : (x : ℕ) → 0 < at turns x → ((k i : ℕ) → Spot b k i → at states (place b k i) ≡ x → ⊥) → x ≡ 0
  no_place x on none =
      ⊎_elim (λ z. z)
      (λ (n : x ≡ 0 → ⊥).
      let o = L.automaton.own x (omega arith) on in
      let r = place_of (lengths b) o.0 (omega (arith, o.1, total-lengths (all_keywords b))) in
      let k : ℕ = r.0 in
      let i : ℕ = r.1.0 in
      let some : k < length (all_keywords b) = omega (arith, r.1.1, length-map (all_keywords b) length) in
      let s : Spot b k i = record { some = some; inside = omega (arith, r.1.2, get_or-map length (all_keywords b) k [] 0 some) } in
      absurd (none k i s (ap (at states) (sym r.1.3) ∙ o.2)))
      (cases_eq x 0)

-- the first cells of a keyword, as they lie among all
pub slice_is : (b : Book LetterCell) (cells : List LetterCell) (f n k : ℕ) → cells ≡ all_cells b → f ≡ start (all_keywords b) k → k < length (all_keywords b) → n ≤ length (keyword b k)
    → take (f + n - f) (drop f cells) ≡ take n (keyword b k)
slice_is b cells f n k e at_k some fits =
    let m : f + n - f ≡ n = omega arith in
    ap (λ j. take j (drop f cells)) m ∙ ap (λ cs. take n (drop f cs)) e ∙ ap (λ j. take n (drop j (all_cells b))) at_k ∙ cells_at (all_keywords b) k n some fits
