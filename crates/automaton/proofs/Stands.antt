-- Where runs stand in the states of an automaton.
use Rattle.std.proofs.Common.{◌≡◌, ℕ, zero, suc, ◌+◌, ◌-◌, ◌<◌, ◌≤◌, Bool, true, false, cond, ◌&&◌, ◌||◌, eqb, ltb, leb, List, [], ◌∷◌, length, get_or, sym, refl, ap, ◌∙◌, subst, ⊎_elim, arith}
use Rattle.std.proofs.lemmas.List.{get_or_past}
use Rattle.std.proofs.lemmas.Bool.{cases_eq, cases_lt, cases_Bool, lt-ltb, le-ltb, ne_eqb, and_left, and_parts, both_ways, leb-true}
use Rattle.std.proofs.lemmas.Bool.Decides.{nat_tests}
use Rattle.book.specs.declared.rows.KeywordRow.{KeywordRow}
use Rattle.book.specs.Book.{Book, all_cells}
use Rattle.book.specs.Rows.{keyword_rows}
use Rattle.cells.specs.declared.letters.Letter.{Letter}
use Rattle.cells.specs.declared.letters.LetterCell.{LetterCell}
use Rattle.finders.specs.Runs.{passes, begins, taken, ends}
use Rattle.finders.proofs.Marks.{passes_past, ends_at, ends_past}
use Rattle.automaton.specs.Linked.{Linked, stands_at}
use Rattle.automaton.specs.Memory.{at, leads}
use Rattle.automaton.specs.Places.{letters, before}
use Rattle.automaton.specs.Walk.{meets}
use Rattle.automaton.proofs.Keywords.{first_begins}
use Rattle.automaton.proofs.Walks.{meets_root, meets_end}

-- what is not 0 lies within
pub within_turns : (turns : List ℕ) (x : ℕ) → 0 < at turns x → x < length turns
within_turns turns x h = ⊎_elim (λ l. l) (λ l. absurd (let no : ⊥ = omega (arith, get_or_past turns x 0 l) in no)) (cases_lt x (length turns))

-- two letters are the same just if their places in the alphabet are
pub same_letter : (l m : Letter) → eqb l.byte m.byte ≡ eqb (l.byte - 65) (m.byte - 65)
same_letter l m =
    let a = leb-true 65 l.byte (and_parts (leb 65 l.byte) _ l.ok).0 in
    let b = leb-true 65 m.byte (and_parts (leb 65 m.byte) _ m.ok).0 in
    grind (arith, nat_tests)

passes_letter : (cells : List LetterCell) (f : LetterCell → Bool) (c p : ℕ) → ((d : LetterCell) → f d ≡ eqb (d.letter.byte - 65) c) → p < length cells → passes f cells p ≡ eqb (at (letters cells) p) c
passes_letter [] f c p same h = absurd (let no : ⊥ = omega arith in no)
passes_letter (d ∷ cells) f c zero same h = same d
passes_letter (d ∷ cells) f c (suc p) same h = passes_letter cells f c p same (omega arith)

module _ (b : Book LetterCell) (next fail states turns : List ℕ) (L : Linked b next fail states turns) where
  pub root_turned : 0 < at turns 0
  root_turned = omega (arith, L.automaton.links.root.0)

  state_turned_by : (p : ℕ) → p < length (all_cells b) → 0 < at turns (before b states p) → 0 < at turns (at states p)
  state_turned_by p l on =
      let s = L.automaton.settled (before b states p) (at (letters (all_cells b)) p) (L.automaton.sound.letter p l) on in
      subst (λ (x : ℕ). 0 < at turns x) (s.arc p l refl refl) s.seen

  before_first : (p : ℕ) → begins b p ≡ true → 0 < at turns (before b states p)
  before_first p e = subst (λ (x : ℕ). 0 < at turns x) (sym (ap (λ t. cond t 0 (at states (p - 1))) e)) root_turned

  -- every place's state has a turn
  pub state_turned : (p : ℕ) → p < length (all_cells b) → 0 < at turns (at states p)
  state_turned zero l = state_turned_by 0 l (before_first 0 (first_begins b l))
  state_turned (suc p) l =
      let back : suc p - 1 ≡ p = omega arith in
      let earlier = state_turned p (omega arith) in
      state_turned_by (suc p) l
      (⊎_elim (before_first (suc p))
      (λ e. subst (λ (x : ℕ). 0 < at turns x) (sym (ap (λ t. cond t 0 (at states (suc p - 1))) e ∙ ap (at states) back)) earlier)
      (cases_Bool (begins b (suc p))))

  -- a run stood before a place just if the place is a first one, or a run stands one place earlier
  before_met : (x p : ℕ) → 0 < at turns x → p < length (all_cells b) → meets (at fail) x (before b states p) ≡ (begins b p || (ltb 0 p && stands_at b fail states x (p - 1)))
  before_met x p on l = ⊎_elim
      (λ (e : begins b p ≡ true).
      ap (λ t. meets (at fail) x (cond t 0 (at states (p - 1)))) e ∙ meets_end (at fail) (at turns) L.automaton.links x on
      ∙ sym (ap (λ t. t || (ltb 0 p && stands_at b fail states x (p - 1))) e))
      (λ (e : begins b p ≡ false).
      let pos : 0 < p = ⊎_elim (λ (z : p ≡ 0). absurd (both_ways (begins b p) e (ap (begins b) z ∙ first_begins b (omega arith)))) (λ (n : p ≡ 0 → ⊥). omega arith) (cases_eq p 0) in
      ap (λ t. meets (at fail) x (cond t 0 (at states (p - 1)))) e
      ∙ sym (ap (λ t. t || (ltb 0 p && stands_at b fail states x (p - 1))) e
      ∙ ap (λ t. t && stands_at b fail states x (p - 1)) (lt-ltb 0 p pos)
      ∙ ap (λ t. t && meets (at fail) x (at states (p - 1))) (lt-ltb (p - 1) (length (all_cells b)) (omega arith))))
      (cases_Bool (begins b p))

  pub takes : (x c : ℕ) → c < 16 → 0 < at turns x → (f : LetterCell → Bool) → ((d : LetterCell) → f d ≡ eqb (d.letter.byte - 65) c)
      → (p : ℕ) → stands_at b fail states (leads next x c) p ≡ taken b f (stands_at b fail states x) p
  takes x c in_c on f same p = ⊎_elim
      (λ (l : p < length (all_cells b)).
      ap (λ t. t && meets (at fail) (leads next x c) (at states p)) (lt-ltb p (length (all_cells b)) l)
      ∙ (L.automaton.settled x c in_c on).rule p l
      ∙ ap (λ t. eqb (at (letters (all_cells b)) p) c && t) (before_met x p on l)
      ∙ sym (ap (λ t. t && (begins b p || (ltb 0 p && stands_at b fail states x (p - 1)))) (passes_letter (all_cells b) f c p same l)))
      (λ (l : length (all_cells b) ≤ p).
      and_left _ _ (le-ltb p (length (all_cells b)) l) ∙ sym (and_left _ _ (passes_past f (all_cells b) p l)))
      (cases_lt p (length (all_cells b)))

  pub none_stands : (p : ℕ) → stands_at b fail states 0 p ≡ false
  none_stands p = ⊎_elim
      (λ (l : p < length (all_cells b)).
      let s = (L.automaton.sound.state p l).0 in
      ap (λ t. t && meets (at fail) 0 (at states p)) (lt-ltb p (length (all_cells b)) l) ∙ meets_root (at fail) (at turns) L.automaton.links (at states p) ∙ ne_eqb 0 (at states p) (λ e. omega arith))
      (λ (l : length (all_cells b) ≤ p). and_left _ _ (le-ltb p (length (all_cells b)) l))
      (cases_lt p (length (all_cells b)))

  pub stands_inside : (x p : ℕ) → p < length (all_cells b) → stands_at b fail states x p ≡ meets (at fail) x (at states p)
  stands_inside x p l = ap (λ t. t && meets (at fail) x (at states p)) (lt-ltb p (length (all_cells b)) l)

-- whether a keyword has ended, by the rows that were told
pub ends_told : (b : Book LetterCell) (rows : List KeywordRow) (k : ℕ) (d : KeywordRow) (stands : ℕ → Bool) → rows ≡ keyword_rows b → k < length rows → ends b stands k ≡ stands ((get_or rows k d).first + (get_or rows k d).length - 1)
ends_told b rows k d stands e h =
    let P : List KeywordRow → Type 0 = λ rs. k < length rs → ends b stands k ≡ stands ((get_or rs k d).first + (get_or rs k d).length - 1) in
    subst P (sym e) (ends_at stands (keyword_rows b) k d) h

pub ends_beyond : (b : Book LetterCell) (rows : List KeywordRow) (k : ℕ) (stands : ℕ → Bool) → rows ≡ keyword_rows b → length rows ≤ k → ends b stands k ≡ false
ends_beyond b rows k stands e h = ends_past stands (keyword_rows b) k (omega (arith, ap length e))
