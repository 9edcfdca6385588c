-- Where the keywords of a book lie.
use Rattle.std.proofs.Common.{◌≡◌, ℕ, zero, suc, ◌+◌, ◌<◌, ◌≤◌, Bool, true, false, ◌||◌, eqb, List, [], ◌∷◌, map, length, get_or, take, sym, refl, ap, ◌∙◌, subst, arith, length-append}
use Rattle.std.specs.List.{flat_map}
use Rattle.std.proofs.lemmas.List.{take_all}
use Rattle.std.proofs.lemmas.Bool.{ne_eqb, or_from}
use Rattle.std.proofs.lemmas.Bool.Decides.{nat_tests}
use Rattle.book.specs.declared.rows.KeywordRow.{KeywordRow}
use Rattle.book.specs.Book.{Book, all_keywords, all_cells, all_gaps, among}
use Rattle.book.specs.Cutting.{total}
use Rattle.book.specs.Proper.{AllFit}
use Rattle.book.specs.Rows.{keyword_rows_from, keyword_rows}
use Rattle.book.proofs.NewRows.{total_more, total-take}
use Rattle.cells.specs.declared.letters.LetterCell.{LetterCell}
use Rattle.finders.specs.Runs.{begins}
use Rattle.automaton.specs.Trie.{Lies}

head : List ℕ → ℕ
head [] = 0
head (g ∷ gs) = g

tail : List ℕ → List ℕ
tail [] = []
tail (g ∷ gs) = gs

rows_more : (f : ℕ) (gs : List ℕ) (n : ℕ) (ns : List ℕ) → keyword_rows_from f gs (n ∷ ns) ≡ record { gap = head gs; first = f; length = n } ∷ keyword_rows_from (f + n) (tail gs) ns
unfolding head tail
rows_more f [] n ns = refl
rows_more f (g ∷ gs) n ns = refl

rows_count : (f : ℕ) (gs ns : List ℕ) → length (keyword_rows_from f gs ns) ≡ length ns
rows_count f gs [] = refl
rows_count f gs (n ∷ ns) = ap length (rows_more f gs n ns) ∙ ap suc (rows_count (f + n) (tail gs) ns)

row_at : (f : ℕ) (gs ns : List ℕ) (k : ℕ) (d : KeywordRow) → k < length ns → ((get_or (keyword_rows_from f gs ns) k d).first ≡ f + total (take k ns)) × ((get_or (keyword_rows_from f gs ns) k d).length ≡ get_or ns k 0)
row_at f gs [] k d h = absurd (let no : ⊥ = omega arith in no)
row_at f gs (n ∷ ns) zero d h =
    let r = rows_more f gs n ns in
    (ap (λ rs. (get_or rs 0 d).first) r ∙ (let z : f ≡ f + 0 = omega arith in z), ap (λ rs. (get_or rs 0 d).length) r)
row_at f gs (n ∷ ns) (suc k) d h =
    let r = rows_more f gs n ns in
    let i = row_at (f + n) (tail gs) ns k d (omega arith) in
    let a : f + n + total (take k ns) ≡ f + (n + total (take k ns)) = omega arith in
    (ap (λ rs. (get_or rs (suc k) d).first) r ∙ i.0 ∙ a, ap (λ rs. (get_or rs (suc k) d).length) r ∙ i.1)

abbrev firsts : ℕ → List ℕ → List ℕ → List ℕ
firsts f gs ns = map (λ k. k.first) (keyword_rows_from f gs ns)

-- no keyword begins before the first
none_before : (f : ℕ) (gs ns : List ℕ) (p : ℕ) → p < f → among p (firsts f gs ns) ≡ false
none_before f gs [] p h = refl
none_before f gs (n ∷ ns) p h =
    ap (λ rs. among p (map (λ k. k.first) rs)) (rows_more f gs n ns) ∙ or_from _ _ (ne_eqb f p (λ e. omega arith)) (none_before (f + n) (tail gs) ns p (omega arith))

or_first : (a b : Bool) → b ≡ false → (a || b) ≡ a
or_first true b e = refl
or_first false b e = e

begins_in : (f : ℕ) (gs ns : List ℕ) (k i : ℕ) → ((j : ℕ) → j < length ns → 0 < get_or ns j 0) → k < length ns → i < get_or ns k 0 → among (f + total (take k ns) + i) (firsts f gs ns) ≡ eqb i 0
begins_in f gs [] k i some h l = absurd (let no : ⊥ = omega arith in no)
begins_in f gs (n ∷ ns) zero i some h l =
    ap (λ rs. among (f + 0 + i) (map (λ k. k.first) rs)) (rows_more f gs n ns)
    ∙ or_first (eqb f (f + 0 + i)) _ (none_before (f + n) (tail gs) ns (f + 0 + i) (omega arith))
    ∙ same
  where
    same : eqb f (f + 0 + i) ≡ eqb i 0
    same = grind (arith, nat_tests)
begins_in f gs (n ∷ ns) (suc k) i some h l =
    let pos = some 0 (omega arith) in
    let a : f + (n + total (take k ns)) + i ≡ f + n + total (take k ns) + i = omega arith in
    ap (λ rs. among (f + (n + total (take k ns)) + i) (map (λ k. k.first) rs)) (rows_more f gs n ns)
    ∙ ap (λ b. b || among (f + (n + total (take k ns)) + i) (firsts (f + n) (tail gs) ns)) (ne_eqb f (f + (n + total (take k ns)) + i) (λ e. omega arith))
    ∙ ap (λ p. among p (firsts (f + n) (tail gs) ns)) a
    ∙ begins_in (f + n) (tail gs) ns k i (λ j b. some (suc j) (omega arith)) (omega arith) l

pub total-lengths : {C : Type 0} (ws : List (List C)) → total (map length ws) ≡ length (flat_map (λ k. k) ws)
total-lengths [] = refl
total-lengths (w ∷ ws) = let r = total-lengths ws in let a = length-append w (flat_map (λ k. k) ws) in omega arith

module _ {C : Type 0} (b : Book C) where
  abbrev pub lengths : List ℕ
  lengths = map length (all_keywords b)

  pub row_count : length (keyword_rows b) ≡ length lengths
  row_count = rows_count 0 (all_gaps b) lengths

  -- a keyword's cells begin behind those of the keywords before it
  row_first : (k : ℕ) (d : KeywordRow) → k < length (keyword_rows b) → (get_or (keyword_rows b) k d).first ≡ total (take k lengths)
  row_first k d h = let r = (row_at 0 (all_gaps b) lengths k d (omega (arith, row_count))).0 in omega arith

  row_length : (k : ℕ) (d : KeywordRow) → k < length (keyword_rows b) → (get_or (keyword_rows b) k d).length ≡ get_or lengths k 0
  row_length k d h = (row_at 0 (all_gaps b) lengths k d (omega (arith, row_count))).1

  row_end : (k : ℕ) (d : KeywordRow) → k < length (keyword_rows b) → (get_or (keyword_rows b) k d).first + (get_or (keyword_rows b) k d).length ≡ total (take (k + 1) lengths)
  row_end k d h = omega (arith, row_first k d h, row_length k d h, total_more lengths k (omega (arith, row_count)))

  pub all_rows : (k : ℕ) → length (keyword_rows b) ≤ k → total (take k lengths) ≡ length (all_cells b)
  all_rows k h = ap total (take_all k lengths (omega (arith, row_count))) ∙ total-lengths (all_keywords b)

  -- the first place of a book is the first of a keyword
  pub first_begins : 0 < length (all_cells b) → begins b 0 ≡ true
  first_begins h = go (all_gaps b) (all_keywords b) h
    where
      go : (gs : List ℕ) (ws : List (List C)) → 0 < length (flat_map (λ k. k) ws) → among 0 (firsts 0 gs (map length ws)) ≡ true
      go gs [] l = absurd (let no : ⊥ = omega arith in no)
      go gs (w ∷ ws) l = ap (λ rs. among 0 (map (λ k. k.first) rs)) (rows_more 0 gs (length w) (map length ws))

  row_inside : (k : ℕ) (d : KeywordRow) → k < length (keyword_rows b) → (get_or (keyword_rows b) k d).first + (get_or (keyword_rows b) k d).length ≤ length (all_cells b)
  row_inside k d h = omega (arith, row_end k d h, total-take (k + 1) lengths, total-lengths (all_keywords b))

  some_length : AllFit (keyword_rows b) → (j : ℕ) → j < length lengths → 0 < get_or lengths j 0
  some_length fit j h =
      let d : KeywordRow = record { gap = 0; first = 0; length = 0 } in
      let l : j < length (keyword_rows b) = omega (arith, row_count) in
      omega (arith, row_length j d l, (fit j d l).some)

  -- of a keyword's places the first is one
  pub place_begins : AllFit (keyword_rows b) → (k i : ℕ) → k < length lengths → i < get_or lengths k 0 → begins b (total (take k lengths) + i) ≡ eqb i 0
  place_begins fit k i h l = ap (begins b) (let e : total (take k lengths) + i ≡ 0 + total (take k lengths) + i = omega arith in e) ∙ begins_in 0 (all_gaps b) lengths k i (some_length fit) h l

  row_begins : AllFit (keyword_rows b) → (k i : ℕ) (d : KeywordRow) → k < length (keyword_rows b) → i < (get_or (keyword_rows b) k d).length → begins b ((get_or (keyword_rows b) k d).first + i) ≡ eqb i 0
  row_begins fit k i d h l =
      ap (λ f. begins b (f + i)) (row_first k d h) ∙ place_begins fit k i (omega (arith, row_count)) (omega (arith, row_length k d h))

-- a row as a book tells it, its k-th
pub record Told (b : Book LetterCell) (row : KeywordRow) (k : ℕ) : Type 0 where
  pub lies : Lies b row
  pub first : row.first ≡ total (take k (lengths b))
  pub end : row.first + row.length ≡ total (take (k + 1) (lengths b))
  pub long : row.length ≡ get_or (lengths b) k 0
  pub count : k < length (lengths b)

pub told : (b : Book LetterCell) (rows : List KeywordRow) (k : ℕ) (d : KeywordRow) → rows ≡ keyword_rows b → AllFit rows → k < length rows → Told b (get_or rows k d) k
told b rows k d e fit h =
    let P : List KeywordRow → Type 0 = λ rs. AllFit rs → k < length rs → Told b (get_or rs k d) k in
    subst P (sym e)
    (λ f l. record {
      lies = record { inside = row_inside b k d l; room = (f k d l).inside; first = λ i j. row_begins b f k i d l j };
      first = row_first b k d l;
      end = row_end b k d l;
      long = row_length b k d l;
      count = omega (arith, row_count b);
    })
    fit h
