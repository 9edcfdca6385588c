-- Lines that are made of keywords one after another.
use Rattle.std.proofs.Common.{◌≡◌, ℕ, zero, suc, ◌+◌, ◌≤◌, true, List, [], ◌∷◌, ◌++◌, map, length, take, drop, sym, refl, ap, ◌∙◌, arith}
use Rattle.std.specs.List.{list_all, AllByRecursion}
use Rattle.std.proofs.lemmas.List.{length-take-le, length-drop, take-append-drop, take-append-le, drop-append-le, nil_from_length, take-map, drop-map}
use Rattle.std.proofs.lemmas.Bool.{and_parts, eqb-true, leb-true}
use Rattle.book.specs.declared.rows.LineRow.{LineRow}
use Rattle.book.specs.declared.rows.KeywordRow.{KeywordRow}
use Rattle.book.specs.Book.{all_keywords, all_gaps}
use Rattle.book.specs.Cutting.{total}
use Rattle.book.specs.Layout.{lines_laid, keywords_laid, opens, opened, line_ok}
use Rattle.book.specs.Rows.{line_rows_from, keyword_rows_from}
use Rattle.book.specs.Rules.{number_ok, points_ok, lag_ok, count_ok, length_ok, gap_ok}
use Rattle.book.specs.Proper.{ProperLine}
use Rattle.book.specs.Stored.{lines_from}
use Rattle.book.proofs.Cuts.{laid_parts}
use Rattle.book.proofs.Passes.{pass_take, pass_drop}

-- the keywords that the lines have in all
abbrev pub size : List LineRow → ℕ
size ls = total (map (λ l. l.keywords) ls)

pub rest : {X : Type 0} (n m : ℕ) (xs : List X) → n + m ≡ length xs → m ≡ length (drop n xs)
rest n m xs e = simp length-drop (omega arith)

opening : (n : ℕ) (ks : List KeywordRow) → opens (take n ks) ≡ true → 1 ≤ n → n ≤ length ks → 0 ∷ drop 1 (map (λ k. k.gap) (take n ks)) ≡ map (λ k. k.gap) (take n ks)
opening zero ks h some fits = absurd (let z : ⊥ = omega arith in z)
opening (suc n) [] h some fits = absurd (let z : ⊥ = omega arith in z)
opening (suc n) (k ∷ ks) h some fits = ap (λ g. g ∷ map (λ k. k.gap) (take n ks)) (sym (eqb-true k.gap 0 h))

-- the parts of a line's limits
limits : (l : LineRow) → line_ok l ≡ true → (number_ok l.number ≡ true) × (points_ok l.points ≡ true) × (lag_ok l.lag ≡ true) × (count_ok l.keywords ≡ true) × (1 ≤ l.keywords)
limits l h =
    let n = and_parts (number_ok l.number) _ h in
    let p = and_parts (points_ok l.points) _ n.1 in
    let t = and_parts (lag_ok l.lag) _ p.1 in
    (n.0, p.0, t.0, t.1, leb-true 1 l.keywords (and_parts _ _ t.1).0)

module _ {C : Type 0} where
  pub lines_push : (ls : List LineRow) (l : LineRow) (gs hs : List ℕ) (ks js : List (List C)) → size ls ≡ length gs → size ls ≡ length ks
      → lines_from (ls ++ l ∷ []) (gs ++ hs) (ks ++ js) ≡ lines_from ls gs ks ++ lines_from (l ∷ []) hs js
  lines_push [] l gs hs ks js e f =
      let a = nil_from_length gs (sym e) in
      let b = nil_from_length ks (sym f) in
      ap (λ xs. lines_from (l ∷ []) (xs ++ hs) (ks ++ js)) a ∙ ap (λ xs. lines_from (l ∷ []) hs (xs ++ js)) b
  lines_push (x ∷ ls) l gs hs ks js e f =
      let n : ℕ = x.keywords in
      let a = take-append-le n gs hs (omega arith) in
      let b = drop-append-le n gs hs (omega arith) in
      let c = take-append-le n ks js (omega arith) in
      let d = drop-append-le n ks js (omega arith) in
      let r = lines_push ls l (drop n gs) hs (drop n ks) js (rest n (size ls) gs e) (rest n (size ls) ks f) in
      cc

  pub keywords_again : (ls : List LineRow) (gs : List ℕ) (ks : List (List C)) → size ls ≡ length ks → all_keywords (lines_from ls gs ks) ≡ ks
  keywords_again [] gs ks e = sym (nil_from_length ks (sym e))
  keywords_again (l ∷ ls) gs ks e =
      ap (λ xs. take l.keywords ks ++ xs) (keywords_again ls (drop l.keywords gs) (drop l.keywords ks) (rest l.keywords (size ls) ks e)) ∙ take-append-drop l.keywords ks

  pub numbers_again : (ls : List LineRow) (gs : List ℕ) (ks : List (List C)) → map (λ l. l.number) (lines_from ls gs ks) ≡ map (λ l. l.number) ls
  numbers_again [] gs ks = refl
  numbers_again (l ∷ ls) gs ks = ap (λ ns. l.number ∷ ns) (numbers_again ls (drop l.keywords gs) (drop l.keywords ks))

  pub rows_again : (ls : List LineRow) (gs : List ℕ) (ks : List (List C)) (from to : ℕ) → lines_laid ls from to ≡ true → size ls ≡ length ks → line_rows_from from (lines_from ls gs ks) ≡ ls
  rows_again [] gs ks from to h e = refl
  rows_again (l ∷ ls) gs ks from to h e =
      let p = laid_parts (λ x. x.first) (λ x. x.keywords) l ls from to h in
      let n = length-take-le l.keywords ks (omega arith) in
      let s = ap (λ m. line_rows_from (from + m) (lines_from ls (drop l.keywords gs) (drop l.keywords ks))) n in
      let r = s ∙ rows_again ls (drop l.keywords gs) (drop l.keywords ks) (from + l.keywords) to p.1 (rest l.keywords (size ls) ks e) in
      λ i. record { number = l.number; points = l.points; lag = l.lag; first = sym p.0 i; keywords = n i } ∷ r i

  pub gaps_again : (ls : List LineRow) (rows : List KeywordRow) (ks : List (List C)) → size ls ≡ length rows → opened ls rows ≡ true → list_all line_ok ls ≡ true
      → all_gaps (lines_from ls (map (λ k. k.gap) rows) ks) ≡ map (λ k. k.gap) rows
  gaps_again [] rows ks e h p = ap (map (λ k. k.gap)) (sym (nil_from_length rows (sym e)))
  gaps_again (l ∷ ls) rows ks e h p =
      let n : ℕ = l.keywords in
      let o = and_parts (opens (take n rows)) _ h in
      let q = and_parts (line_ok l) _ p in
      let some = (limits l q.0).4 in
      let t = take-map (λ k. k.gap) n rows in
      let d = drop-map (λ k. k.gap) n rows in
      let a = ap (λ gs. 0 ∷ drop 1 gs) t ∙ opening n rows o.0 some (omega arith) ∙ sym t in
      let r = ap (λ gs. all_gaps (lines_from ls gs (drop n ks))) d ∙ gaps_again ls (drop n rows) (drop n ks) (rest n (size ls) rows e) o.1 q.1 ∙ sym d in
      ap (λ gs. gs ++ all_gaps (lines_from ls (drop n (map (λ k. k.gap) rows)) (drop n ks))) a
      ∙ ap (λ gs. take n (map (λ k. k.gap) rows) ++ gs) r ∙ take-append-drop n (map (λ k. k.gap) rows)

  pub all_proper : (ls : List LineRow) (gs : List ℕ) (ks : List (List C)) → size ls ≡ length gs → size ls ≡ length ks
      → list_all line_ok ls ≡ true → list_all gap_ok gs ≡ true → list_all (λ k. length_ok (length k)) ks ≡ true → AllByRecursion ProperLine (lines_from ls gs ks)
  all_proper [] gs ks e f p q r = tt
  all_proper (l ∷ ls) gs ks e f p q r =
      let n : ℕ = l.keywords in
      let o = and_parts (line_ok l) _ p in
      let within = limits l o.0 in
      let some = within.4 in
      let a = length-take-le n ks (omega arith) in
      let b = length-take-le n gs (omega arith) in
      let d = length-drop 1 (take n gs) in (
        record {
          number = within.0;
          points = within.1;
          lag = within.2;
          count = ap count_ok a ∙ within.3;
          between = omega arith;
          lengths = pass_take (λ k. length_ok (length k)) n ks r;
          gaps = pass_drop gap_ok 1 (take n gs) (pass_take gap_ok n gs q);
        },
        all_proper ls (drop n gs) (drop n ks) (rest n (size ls) gs e) (rest n (size ls) ks f) o.1 (pass_drop gap_ok n gs q) (pass_drop (λ k. length_ok (length k)) n ks r),
      )

pub keyword_rows_again : (ks : List KeywordRow) (from to : ℕ) → keywords_laid ks from to ≡ true → keyword_rows_from from (map (λ k. k.gap) ks) (map (λ k. k.length) ks) ≡ ks
keyword_rows_again [] from to h = refl
keyword_rows_again (k ∷ ks) from to h =
    let p = laid_parts (λ x. x.first) (λ x. x.length) k ks from to h in
    let r = keyword_rows_again ks (from + k.length) to p.1 in
    λ i. record { gap = k.gap; first = sym p.0 i; length = k.length } ∷ r i
