use Rattle.std.proofs.Common.{◌≡◌, ℕ, ◌-◌, List, length, take, drop, ℤ, Some, Ok, Err, Result, ap, ◌∙◌, w32, to_z, of_z, rules}
use Rattle.std.proofs.lemmas.List.{take_rest}
use Rattle.std.proofs.lemmas.Result.{MatchResult-weaker, err_from_is_err_and}
use Rattle.std.specs.Result.{MatchResult, result_err}
use Rattle.refusals.specs.declared.Refusal.{Refusal}
use Rattle.cells.specs.declared.letters.LetterCell.{LetterCell}
use Rattle.book.specs.Entering.{Request, enter_answer, entered, cells_after}
use Rattle.book.specs.Stored.{open_book, places}
use Rattle.page.specs.declared.drafts.Draft.{Draft}
use Rattle.page.specs.declared.faults.Flaw.{Flaw}
use Rattle.page.specs.Drafts.{draft_request}
use Rattle.page.specs.Told.{book_flaw}
use Rattle.page.proofs.entering.enter_draft.Goals as goal

-- the line as its parts are lent
abbrev pub lent : Draft → ℤ → List ℕ → List ℕ → List LetterCell → Request LetterCell
lent d p ls gs cs = record { number = d.number; points = p; lag = d.lag; lengths = ls; gaps = take (length gs - 1) (drop 1 gs); cells = cs }

alike : (n t : ℕ) (p q : ℤ) (ls ms gs hs : List ℕ) (cs ds : List LetterCell) → p ≡ q → ls ≡ ms → gs ≡ hs → cs ≡ ds
    → ◌≡◌ {A = Request LetterCell}
    (record { number = n; points = p; lag = t; lengths = ls; gaps = gs; cells = cs })
    (record { number = n; points = q; lag = t; lengths = ms; gaps = hs; cells = ds })
alike n t p q ls ms gs hs cs ds e f g h = cc

lent_is : (d : Draft) (p : ℤ) (ls gs : List ℕ) (cs : List LetterCell) → p ≡ d.points → ls ≡ d.lengths.items → gs ≡ d.gaps.items → cs ≡ d.cells.items
    → lent d p ls gs cs ≡ draft_request d
lent_is d p ls gs cs e f g h = alike _ _ _ _ _ _ _ _ _ _ e f (take_rest gs 1 ∙ ap (drop 1) g) h

-- the book's refusal is told with its column
told : (gaps : List ℕ) (r : Result (Unit {0}) Refusal) (s : Result (Unit {0}) Flaw) → MatchResult r (λ x. s ≡ Ok x) (λ e. (f : Flaw) × (s ≡ Err f) × (Some f ≡ book_flaw gaps (Err e)))
    → result_err s ≡ book_flaw gaps r
told gaps (Ok x) s h = ap result_err h
told gaps (Err r) s h = ap result_err h.1 ∙ h.2

pub returns : goal.returns
returns c =
    let d = c.args.draft.now in
    let b = c.args.book.now in
    let p : to_z w32 (of_z w32 d.points) ≡ d.points = search rules in
    let gs = c.deref.result.now in
    let e = lent_is d (to_z w32 (of_z w32 d.points)) c.as_slice.result.now gs c.as_slice-2.result.now p c.as_slice.ensures.value c.deref.ensures.0 c.as_slice-2.ensures.value in
    record {
      answer = told (take (length gs - 1) (drop 1 gs)) c.enter.result c.map_err.result
          (MatchResult-weaker c.enter.result c.map_err.ensures.cases (λ x p. p) (λ e p. let q = err_from_is_err_and c.map_err.result p in (q.0, q.1, search rules)))
          ∙ ap (λ gaps. book_flaw gaps c.enter.result) (take_rest gs 1 ∙ ap (drop 1) c.deref.ensures.0)
          ∙ ap (book_flaw (draft_request d).gaps) (c.enter.ensures.answer ∙ ap (enter_answer (open_book b) (places b)) e);
      book = c.enter.ensures.book ∙ ap (entered (open_book b) (places b)) e;
      memory = c.enter.ensures.memory ∙ ap (cells_after (open_book b) b.cells.now) e;
      lender = c.enter.ensures.lender;
    }
