-- A line where it stands in its book.
use Rattle.std.proofs.Common.{◌≡◌, ℕ, zero, suc, ◌+◌, ◌-◌, ◌<◌, ◌≤◌, Bool, false, ◌&&◌, ◌||◌, eqb, leb, List, [], ◌∷◌, ◌++◌, map, reverse, length, get_or, take, sym, refl, ap, ◌∙◌, append_assoc, arith}
use mathlib.Core.List.{reverse-append}
use Rattle.std.specs.List.{flat_map, AllByRecursion}
use Rattle.std.proofs.lemmas.List.{length-append, get_or-append-add, get_or_append_left, get_or-map, length-map, take_more, take_all, reverse-reverse}
use Rattle.std.proofs.lemmas.Bool.{and_parts, leb-true, eq-eqb, ne_eqb, or_left, or_from}
use Rattle.book.specs.Book.{Line, Book, all_keywords, all_gaps}
use Rattle.book.specs.Cutting.{total}
use Rattle.book.specs.Proper.{ProperLine}
use Rattle.book.specs.Rows.{line_rows, line_rows_from, keyword_rows, keyword_rows_from}
use Rattle.book.specs.Rules.{length_ok}
use Rattle.book.proofs.Passes.{pass_at}
use Rattle.finders.specs.Latest.{admit_all}
use Rattle.lookback.specs.Prefixes.{opens, reach, prefix_ends}
use Rattle.occurrences.specs.Occurring.{laid_from, span, occurs}
use Rattle.occurrences.specs.Spotting.{spotted_among, pasts}
use Rattle.occurrences.proofs.Layings.{laid_pairs, width, pairs, backwards, in_turn, width-reverse}
use Rattle.occurrences.proofs.Prefixed.{Standing, upto, prefixes, good}

none : ⊥ → {X : Type 0} → X
none z = absurd z

pub joined-append : {X Y : Type 0} (f : X → List Y) (xs ys : List X) → flat_map f (xs ++ ys) ≡ flat_map f xs ++ flat_map f ys
joined-append f [] ys = refl
joined-append f (x ∷ xs) ys = ap (λ zs. f x ++ zs) (joined-append f xs ys) ∙ sym (append_assoc (f x) _ _)

-- the distance of a row is its gap and its length
reach_rows : (p : ℕ) (gs ns : List ℕ) (k : ℕ) → k < length ns → reach (keyword_rows_from p gs ns) k ≡ get_or gs k 0 + get_or ns k 0
reach_rows p gs [] k h = none (omega arith)
reach_rows p [] (n ∷ ns) zero h = refl
reach_rows p [] (n ∷ ns) (suc k) h = reach_rows (p + n) [] ns k (omega arith)
reach_rows p (g ∷ gs) (n ∷ ns) zero h = refl
reach_rows p (g ∷ gs) (n ∷ ns) (suc k) h = reach_rows (p + n) gs ns k (omega arith)

module _ {C : Type 0} where
  some_keyword : (l : Line C) → ProperLine l → 1 ≤ length l.keywords
  some_keyword l q = leb-true 1 _ (and_parts (leb 1 (length l.keywords)) _ q.count).0

  -- a number before the first keyword of some lines opens none of them
  none_before : (from : ℕ) (b : Book C) (k : ℕ) → k < from → opens (line_rows_from from b) k ≡ false
  none_before from [] k h = refl
  none_before from (l ∷ b) k h = or_from _ _ (ne_eqb from k (λ e. omega arith)) (none_before (from + length l.keywords) b k (omega arith))

  -- which keywords of a line open it
  opens_in : (b₁ : Book C) (l : Line C) (b₂ : Book C) (from i : ℕ) → AllByRecursion ProperLine b₁ → i < length l.keywords
      → opens (line_rows_from from (b₁ ++ l ∷ b₂)) (from + length (all_keywords b₁) + i) ≡ eqb i 0
  opens_in [] l b₂ from zero q h = or_left _ _ (eq-eqb from (from + 0 + 0) (omega arith))
  opens_in [] l b₂ from (suc i) q h = or_from _ _ (ne_eqb from (from + 0 + suc i) (λ e. omega arith)) (none_before (from + length l.keywords) b₂ (from + 0 + suc i) (omega arith)) ∙ sym (ne_eqb (suc i) 0 (λ e. omega arith))
  opens_in (x ∷ b₁) l b₂ from i q h =
      let some = some_keyword x q.0 in
      let n = length-append x.keywords (all_keywords b₁) in
      let z : from + length (all_keywords (x ∷ b₁)) + i ≡ from + length x.keywords + length (all_keywords b₁) + i = omega arith in
      ap (opens (line_rows_from from (x ∷ b₁ ++ l ∷ b₂))) z
      ∙ skip (ne_eqb from (from + length x.keywords + length (all_keywords b₁) + i) (λ e. omega arith))
      ∙ opens_in b₁ l b₂ (from + length x.keywords) i q.1 h
    where
      skip : {a b : Bool} → a ≡ false → (a || b) ≡ b
      skip {a} {b} e = ap (λ t. t || b) e

  pub gaps_even : (b : Book C) → AllByRecursion ProperLine b → length (all_gaps b) ≡ length (all_keywords b)
  gaps_even [] q = refl
  gaps_even (l ∷ b) q =
      let r = gaps_even b q.1 in
      let m = length-append l.gaps (all_gaps b) in
      let n = length-append l.keywords (all_keywords b) in
      omega (arith, q.0.between)

  module _ {S : Type 0} (hears : C → S → Bool) where
    spotted_behind : (xs ys : List (List C)) (us : List S) (i : ℕ) → spotted_among hears (xs ++ ys) us (length xs + i) ≡ spotted_among hears ys us i
    spotted_behind [] ys us i = let z : 0 + i ≡ i = omega arith in ap (spotted_among hears ys us) z
    spotted_behind (x ∷ xs) ys us i = let z : suc (length xs) + i ≡ suc (length xs + i) = omega arith in ap (spotted_among hears (x ∷ xs ++ ys) us) z ∙ spotted_behind xs ys us i

    spotted_front : (xs ys : List (List C)) (us : List S) (i : ℕ) (d : List C) → i < length xs → spotted_among hears (xs ++ ys) us i ≡ admit_all hears (reverse (get_or xs i d)) us
    spotted_front [] ys us i d h = none (omega arith)
    spotted_front (x ∷ xs) ys us zero d h = refl
    spotted_front (x ∷ xs) ys us (suc i) d h = spotted_front xs ys us i d (omega arith)

  pair_at : (gs : List ℕ) (ws : List (List C)) (i : ℕ) → i < length ws → get_or (pairs gs ws) i (0, []) ≡ (get_or gs i 0, get_or ws i [])
  pair_at gs [] i h = none (omega arith)
  pair_at [] (w ∷ ws) zero h = refl
  pair_at [] (w ∷ ws) (suc i) h = pair_at [] ws i (omega arith)
  pair_at (g ∷ gs) (w ∷ ws) zero h = refl
  pair_at (g ∷ gs) (w ∷ ws) (suc i) h = pair_at gs ws i (omega arith)

  length_pairs : (gs : List ℕ) (ws : List (List C)) → length (pairs gs ws) ≡ length ws
  length_pairs gs [] = refl
  length_pairs [] (w ∷ ws) = ap suc (length_pairs [] ws)
  length_pairs (g ∷ gs) (w ∷ ws) = ap suc (length_pairs gs ws)

  upto_is : (ps : List (ℕ × List C)) (i : ℕ) → i < length ps → upto (λ k. get_or ps k (0, [])) i ≡ reverse (take (i + 1) ps)
  upto_is [] i h = none (omega arith)
  upto_is (q ∷ ps) zero h = refl
  upto_is (q ∷ ps) (suc i) h =
      let z : i + 1 ≡ suc i = omega arith in
      let x = get_or (q ∷ ps) (suc i) (0, []) in
      ap (λ r. x ∷ r) (upto_is (q ∷ ps) i (omega arith) ∙ ap (λ k. reverse (take k (q ∷ ps))) z)
      ∙ sym (ap reverse (take_more (q ∷ ps) (suc i) (0, []) h) ∙ reverse-append (take (suc i) (q ∷ ps)) (x ∷ []))

module _ {C S : Type 0} (hears : C → S → Bool) (b₁ : Book C) (l : Line C) (b₂ : Book C) (q₁ : AllByRecursion ProperLine b₁) (q : ProperLine l) where
  b : Book C
  b = b₁ ++ l ∷ b₂

  f : ℕ
  f = length (all_keywords b₁)

  m : ℕ
  m = length l.keywords

  ps : List (ℕ × List C)
  ps = pairs (0 ∷ l.gaps) l.keywords

  p : ℕ → ℕ × List C
  p i = get_or ps i (0, [])

  p_is : (i : ℕ) → i < m → p i ≡ (get_or (0 ∷ l.gaps) i 0, get_or l.keywords i [])
  unfolding p ps m
  p_is i h = pair_at (0 ∷ l.gaps) l.keywords i h

  keywords_are : all_keywords b ≡ all_keywords b₁ ++ (l.keywords ++ all_keywords b₂)
  unfolding b
  keywords_are = joined-append (λ x. x.keywords) b₁ (l ∷ b₂)

  gap_at : (i : ℕ) → i < m → get_or (all_gaps b) (f + i) 0 ≡ get_or (0 ∷ l.gaps) i 0
  unfolding b f m
  gap_at i h =
      let e = gaps_even b₁ q₁ in
      ap (λ gs. get_or gs (length (all_keywords b₁) + i) 0) (joined-append (λ x. 0 ∷ x.gaps) b₁ (l ∷ b₂))
      ∙ ap (λ n. get_or (all_gaps b₁ ++ ((0 ∷ l.gaps) ++ all_gaps b₂)) (n + i) 0) (sym e)
      ∙ get_or-append-add (all_gaps b₁) ((0 ∷ l.gaps) ++ all_gaps b₂) i 0
      ∙ get_or_append_left (0 ∷ l.gaps) (all_gaps b₂) 0 i (omega (arith, q.between))

  word_at : (i : ℕ) → i < m → get_or (all_keywords b) (f + i) [] ≡ get_or l.keywords i []
  unfolding f m
  word_at i h = ap (λ ws. get_or ws (length (all_keywords b₁) + i) []) keywords_are ∙ get_or-append-add (all_keywords b₁) (l.keywords ++ all_keywords b₂) i [] ∙ get_or_append_left l.keywords (all_keywords b₂) [] i h

  in_book : (i : ℕ) → i < m → f + i < length (all_keywords b)
  unfolding f m
  in_book i h = let e = ap length keywords_are in let x = length-append (all_keywords b₁) (l.keywords ++ all_keywords b₂) in let y = length-append l.keywords (all_keywords b₂) in omega arith

  opening : (i : ℕ) → i < m → opens (line_rows b) (f + i) ≡ eqb i 0
  unfolding b f m
  opening i h = let z : length (all_keywords b₁) + i ≡ 0 + length (all_keywords b₁) + i = omega arith in ap (opens (line_rows (b₁ ++ l ∷ b₂))) z ∙ opens_in b₁ l b₂ 0 i q₁ h

  some_here : 0 < m
  unfolding m
  some_here = some_keyword l q

  word_some : (i : ℕ) → i < m → 1 ≤ length (get_or l.keywords i [])
  unfolding m
  word_some i h = leb-true 1 _ (and_parts (leb 1 (length (get_or l.keywords i []))) _ (pass_at (λ k. length_ok (length k)) l.keywords i [] h q.lengths)).0

  spotted_here : (i : ℕ) → i < m → (us : List S) → spotted_among hears (all_keywords b) us (f + i) ≡ admit_all hears (reverse (get_or l.keywords i [])) us
  unfolding f m
  spotted_here i h us =
      ap (λ ws. spotted_among hears ws us (length (all_keywords b₁) + i)) keywords_are
      ∙ spotted_behind hears (all_keywords b₁) (l.keywords ++ all_keywords b₂) us i
      ∙ spotted_front hears l.keywords (all_keywords b₂) us i [] h

  stands : Standing hears b (line_rows b) (keyword_rows b) f m p
  stands = record {
    first = let z : f ≡ f + 0 = omega arith in ap (opens (line_rows b)) z ∙ opening 0 some_here;
    others = λ i h. opening (suc i) h ∙ ne_eqb (suc i) 0 (λ e. omega arith);
    apart = λ i h. reach_rows 0 (all_gaps b) (map length (all_keywords b)) (f + suc i) (omega (arith, in_book (suc i) h, length-map (all_keywords b) length))
        ∙ (λ j. gap_at (suc i) h j + (get_or-map length (all_keywords b) (f + suc i) [] 0 (in_book (suc i) h) ∙ ap length (word_at (suc i) h)) j)
        ∙ sym (ap (λ x. x.0 + length x.1) (p_is (suc i) h));
    words = λ i h us. spotted_here i h us ∙ ap (λ x. admit_all hears (reverse x.1) us) (sym (p_is i h));
    some = λ i h. let w = word_some i h in let e = ap (λ x. length x.1) (p_is i h) in omega arith;
    no_gap = ap (λ x. x.0) (p_is 0 some_here);
  }

  module _ (ts : List S) where
    whole : upto p (m - 1) ≡ reverse ps
    unfolding p ps m
    whole =
        let some = some_keyword l q in
        let n = length_pairs (0 ∷ l.gaps) l.keywords in
        let z : length l.keywords - 1 + 1 ≡ length l.keywords = omega arith in
        upto_is (pairs (0 ∷ l.gaps) l.keywords) (length l.keywords - 1) (omega arith)
        ∙ ap (λ k. reverse (take k (pairs (0 ∷ l.gaps) l.keywords))) z
        ∙ ap reverse (take_all (length l.keywords) (pairs (0 ∷ l.gaps) l.keywords) (omega arith))

    wide : width hears ts ps ≡ span l
    unfolding ps
    wide = let z : 0 + total l.gaps ≡ total l.gaps = omega arith in pairs_wide l.keywords (0 ∷ l.gaps) (omega (arith, q.between)) ∙ ap (λ x. total (map length l.keywords) + x) z
      where
        pairs_wide : (ws : List (List C)) (gs : List ℕ) → length gs ≡ length ws → width hears ts (pairs gs ws) ≡ total (map length ws) + total gs
        pairs_wide [] [] e = refl
        pairs_wide [] (g ∷ gs) e = none (omega arith)
        pairs_wide (w ∷ ws) [] e = none (omega arith)
        pairs_wide (w ∷ ws) (g ∷ gs) e = let r = pairs_wide ws gs (omega arith) in omega arith

    laid_in_turn : (t : ℕ) → laid_pairs hears ts ps t ≡ laid_from hears (reverse ts) l.keywords l.gaps t
    unfolding ps
    laid_in_turn t = go l.keywords (some_keyword l q)
      where
        go : (ws : List (List C)) → 1 ≤ length ws → laid_pairs hears ts (pairs (0 ∷ l.gaps) ws) t ≡ laid_from hears (reverse ts) ws l.gaps t
        go [] h = none (omega arith)
        go (w ∷ ws) h = sym (in_turn hears ts ws l.gaps w t)

    -- the prefix up to a line's last keyword ends with the newest tick exactly when the line occurs ending there
    pub line_occurs : prefix_ends (line_rows (b₁ ++ l ∷ b₂)) (keyword_rows (b₁ ++ l ∷ b₂)) (pasts hears (b₁ ++ l ∷ b₂) ts) (length (all_keywords b₁) + (length l.keywords - 1)) ≡ occurs hears l (reverse ts) (length ts)
    unfolding b f m
    line_occurs =
        let some = some_keyword l q in
        let n = length ts in
        let z : n - 0 ≡ n = omega arith in
        let w = ap (width hears ts) whole ∙ width-reverse hears ts ps ∙ wide in
        prefixes hears b (line_rows b) (keyword_rows b) f m p stands ts (m - 1) 0 (omega arith)
        ∙ backwards hears ts (upto p (m - 1)) 0 (good hears b (line_rows b) (keyword_rows b) f m p stands ts (m - 1) (omega arith))
        ∙ (λ j. leb (w j) (z j) && laid_pairs hears ts ((ap reverse whole ∙ reverse-reverse ps) j) (z j - w j + 1))
        ∙ ap (λ x. leb (span l) n && x) (laid_in_turn (n - span l + 1))
