-- What a ledger's promises say of the book that it holds.
use Rattle.std.proofs.Common.{◌≡◌, ℕ, zero, suc, ◌+◌, ◌≤◌, true, eqb, leb, List, [], ◌∷◌, map, length, take, sym, ap, ◌∙◌, arith}
use Rattle.std.specs.List.{flat_map, list_all, list_any}
use Rattle.std.proofs.lemmas.List.{length-take-le, length-map}
use Rattle.std.proofs.lemmas.Bool.{and_parts, leb-true}
use Rattle.book.specs.declared.rows.LineRow.{LineRow}
use Rattle.book.specs.declared.rows.KeywordRow.{KeywordRow}
use Rattle.book.specs.declared.ledgers.Ledger.{Ledger}
use Rattle.book.specs.Book.{among, has_number, all_keywords, all_cells, all_gaps}
use Rattle.book.specs.Cutting.{total, cut}
use Rattle.book.specs.Layout.{distinct, keywords_laid, keyword_ok}
use Rattle.book.specs.Proper.{Proper, AllFit}
use Rattle.book.specs.Rows.{line_rows, keyword_rows, keyword_rows_from}
use Rattle.book.specs.Rules.{length_ok, gap_ok}
use Rattle.book.specs.Stored.{held}
use Rattle.book.specs.Tables.{items}
use Rattle.book.proofs.Amongs.{any_line}
use Rattle.book.proofs.Cuts.{laid_parts, laid_total, length_cut, lengths-cut, joined-cut}
use Rattle.book.proofs.Lines.{size, keywords_again, numbers_again, rows_again, gaps_again, all_proper, keyword_rows_again}
use Rattle.book.proofs.Passes.{pass_map, pass_weaker}

abbrev pub lengths_in : Ledger → List ℕ
lengths_in b = map (λ k. k.length) (items b.keywords)

abbrev pub gaps_in : Ledger → List ℕ
gaps_in b = map (λ k. k.gap) (items b.keywords)

pub size_is : (b : Ledger) → size (items b.lines) ≡ length (items b.keywords)
size_is b = let e = laid_total (λ (l : LineRow). l.first) (λ (l : LineRow). l.keywords) (items b.lines) 0 (length (items b.keywords)) b.joined in omega arith

pub total_is : (b : Ledger) → total (lengths_in b) ≡ b.cell_count
total_is b = let e = laid_total (λ (k : KeywordRow). k.first) (λ (k : KeywordRow). k.length) (items b.keywords) 0 b.cell_count b.laid in omega arith

-- keywords that lie one after another and are within their limits fit
all_fit : (ks : List KeywordRow) (from to : ℕ) → keywords_laid ks from to ≡ true → to ≤ 1023 → list_all keyword_ok ks ≡ true → AllFit ks
all_fit [] from to h m p k d l = absurd (let z : ⊥ = omega arith in z)
all_fit (x ∷ ks) from to h m p zero d l =
    let q = laid_parts (λ (y : KeywordRow). y.first) (λ (y : KeywordRow). y.length) x ks from to h in
    let t = laid_total (λ (y : KeywordRow). y.first) (λ (y : KeywordRow). y.length) ks (from + x.length) to q.1 in
    let o = (and_parts (keyword_ok x) _ p).0 in
    let long = and_parts (leb 1 x.length) _ (and_parts (length_ok x.length) _ o).0 in
    let gap = and_parts (leb 0 x.gap) _ (and_parts (length_ok x.length) _ o).1 in
    record {
      some = leb-true 1 x.length long.0;
      short = leb-true x.length 16 long.1;
      narrow = leb-true x.gap 112 gap.1;
      inside = omega arith;
    }
all_fit (x ∷ ks) from to h m p (suc k) d l =
    let q = laid_parts (λ (y : KeywordRow). y.first) (λ (y : KeywordRow). y.length) x ks from to h in
    all_fit ks (from + x.length) to q.1 m (and_parts (keyword_ok x) _ p).1 k d (omega arith)

module _ {C : Type 0} (b : Ledger) (memory : List C) where
  pub sized_gaps : size (items b.lines) ≡ length (gaps_in b)
  sized_gaps = size_is b ∙ sym (length-map (items b.keywords) (λ k. k.gap))

  pub sized_keywords : size (items b.lines) ≡ length (cut (lengths_in b) memory)
  sized_keywords = size_is b ∙ sym (length_cut (lengths_in b) memory ∙ length-map (items b.keywords) (λ k. k.length))

  pub held_keywords : all_keywords (held b memory) ≡ cut (lengths_in b) memory
  unfolding held
  held_keywords = keywords_again (items b.lines) (gaps_in b) (cut (lengths_in b) memory) sized_keywords

  pub held_keyword_count : length (all_keywords (held b memory)) ≡ length (items b.keywords)
  held_keyword_count = ap length held_keywords ∙ sym sized_keywords ∙ size_is b

  pub held_cells : all_cells (held b memory) ≡ take b.cell_count memory
  held_cells = ap (flat_map (λ k. k)) held_keywords ∙ joined-cut (lengths_in b) memory ∙ ap (λ n. take n memory) (total_is b)

  pub held_numbers : map (λ l. l.number) (held b memory) ≡ map (λ l. l.number) (items b.lines)
  unfolding held
  held_numbers = numbers_again (items b.lines) (gaps_in b) (cut (lengths_in b) memory)

  pub held_has_number : (n : ℕ) → has_number n (held b memory) ≡ list_any (λ l. eqb l.number n) (items b.lines)
  held_has_number n = ap (among n) held_numbers ∙ sym (any_line n (items b.lines))

  pub held_lines : line_rows (held b memory) ≡ items b.lines
  unfolding held
  held_lines = rows_again (items b.lines) (gaps_in b) (cut (lengths_in b) memory) 0 (length (items b.keywords)) b.joined sized_keywords

  held_gaps : all_gaps (held b memory) ≡ gaps_in b
  unfolding held
  held_gaps = gaps_again (items b.lines) (items b.keywords) (cut (lengths_in b) memory) (size_is b) b.openings b.proper

  module _ (room : b.cell_count ≤ length memory) where
    pub held_cell_count : length (all_cells (held b memory)) ≡ b.cell_count
    held_cell_count = ap length held_cells ∙ length-take-le b.cell_count memory room

    lengths_again : map length (cut (lengths_in b) memory) ≡ lengths_in b
    lengths_again = lengths-cut (lengths_in b) memory (omega (arith, total_is b))

    pub held_keyword_rows : keyword_rows (held b memory) ≡ items b.keywords
    held_keyword_rows =
        ap (λ gs. keyword_rows_from 0 gs (map length (all_keywords (held b memory)))) held_gaps
        ∙ ap (λ ks. keyword_rows_from 0 (gaps_in b) (map length ks)) held_keywords
        ∙ ap (keyword_rows_from 0 (gaps_in b)) lengths_again
        ∙ keyword_rows_again (items b.keywords) 0 b.cell_count b.laid

    pub held_proper : Proper (held b memory)
    unfolding held
    held_proper =
        let ks = items b.keywords in
        let gaps = pass_weaker keyword_ok (λ k. gap_ok k.gap) (λ k h. (and_parts (length_ok k.length) _ h).1) ks b.sized in
        let lengths = pass_weaker keyword_ok (λ k. length_ok k.length) (λ k h. (and_parts (length_ok k.length) _ h).0) ks b.sized in
        record {
          each =
              all_proper (items b.lines) (gaps_in b) (cut (lengths_in b) memory) sized_gaps sized_keywords b.proper
              (pass_map gap_ok (λ k. k.gap) ks ∙ gaps)
              (sym (pass_map length_ok length (cut (lengths_in b) memory)) ∙ ap (list_all length_ok) lengths_again ∙ pass_map length_ok (λ k. k.length) ks ∙ lengths);
          apart = ap distinct held_numbers ∙ b.apart;
          lines = let n = sym (length-map (held b memory) (λ l. l.number)) ∙ ap length held_numbers ∙ length-map (items b.lines) (λ l. l.number) in omega (arith, n, b.few.0);
          keywords = omega (arith, held_keyword_count, b.few.1);
          cells = omega (arith, held_cell_count, b.few.2);
        }

pub keywords_fit : (b : Ledger) → AllFit (items b.keywords)
keywords_fit b = all_fit (items b.keywords) 0 b.cell_count b.laid b.few.2 b.sized
