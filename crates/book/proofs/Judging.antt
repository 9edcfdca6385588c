-- What a line keeps to that the rules let pass.
use Rattle.std.proofs.Common.{◌≡◌, ◌+◌, ◌≤◌, Bool, true, false, cond, leb, List, [], ◌∷◌, ◌++◌, length, is_ok, Ok, Err, sym, refl, ap, ◌∙◌, arith}
use Rattle.std.specs.List.{list_all, AllByRecursion}
use Rattle.std.proofs.lemmas.Bool.{and_parts, leb-true, eqb-true, not-true}
use Rattle.refusals.specs.declared.Refusal.{Refusal}
use Rattle.book.specs.declared.open.OpenBook.{OpenBook}
use Rattle.book.specs.Admitted.{Admitted}
use Rattle.book.specs.Book.{Book, among, all_keywords, all_cells}
use Rattle.book.specs.Cutting.{filled}
use Rattle.book.specs.Entering.{Request, rules, judged, enter_answer, entered, cells_after, line_of}
use Rattle.book.specs.Rules.{count_ok, length_ok}
use Rattle.book.specs.Stored.{open_book, places}
use Rattle.book.proofs.Holdings.{held_numbers, held_keyword_count, held_cell_count}

-- a rule that does not hold ends the matter
first_holds : (ok : Bool) (r : Refusal) (rs : List (Bool × Refusal)) → cond ok (judged rs) (Err r) ≡ Ok tt → (ok ≡ true) × (judged rs ≡ Ok tt)
first_holds true r rs e = (refl, e)
first_holds false r rs e = let z : true ≡ false = cc in (sym z, cc)

-- where no rule is broken, each holds
all_hold : (rs : List (Bool × Refusal)) → judged rs ≡ Ok tt → AllByRecursion (λ r. r.0 ≡ true) rs
all_hold [] e = tt
all_hold (r ∷ rs) e = let p = first_holds r.0 r.1 rs e in (p.0, all_hold rs p.1)

-- the book and the memory after a line that is taken
pub taken : {C : Type 0} (b : Book C) (m : List C) (q : Request C) → enter_answer b (length m) q ≡ Ok tt
    → (entered b (length m) q ≡ b ++ line_of q ∷ []) × (cells_after b m q ≡ filled m (length (all_cells b)) q.cells)
taken b m q e = (ap (λ a. cond (is_ok a) (b ++ line_of q ∷ []) b) e, ap (λ a. cond (is_ok a) (filled m (length (all_cells b)) q.cells) m) e)

-- what a line keeps to that an open book takes
module _ {C : Type 0} (b : OpenBook C) (q : Request C) (e : enter_answer (open_book b) (places b) q ≡ Ok tt) where
  pub admitted : Admitted b.ledger q × (b.ledger.cell_count + length q.cells ≤ places b)
  admitted =
      let p = all_hold (rules (open_book b) (places b) q) e in
      let counts = and_parts (count_ok (length q.lengths)) _ p.1.1.1.1.0 in
      let lengths = and_parts (list_all length_ok q.lengths) _ p.1.1.1.1.1.0 in
      let rooms = and_parts (leb (length (all_keywords (open_book b)) + length q.lengths) 512) _ p.1.1.1.1.1.1.1.0 in
      let k = leb-true _ _ rooms.0 in
      let n = leb-true _ _ rooms.1 in
      let ek = held_keyword_count b.ledger b.cells.now in
      let en = held_cell_count b.ledger b.cells.now b.room in (
        record {
          number = p.0;
          fresh = ap (among q.number) (sym (held_numbers b.ledger b.cells.now)) ∙ not-true _ p.1.0;
          points = p.1.1.0;
          lag = p.1.1.1.0;
          count = counts.0;
          between = eqb-true _ _ counts.1;
          lengths = lengths.0;
          cells = eqb-true _ _ lengths.1;
          gaps = p.1.1.1.1.1.1.0;
          keyword_room = omega arith;
          cell_room = omega arith;
        },
        omega arith,
      )
