-- A page cut into rows.
use Rattle.std.proofs.Common.{◌≡◌, ℕ, suc, ◌+◌, ◌-◌, ◌<◌, Bool, true, false, cond, not, eqb, List, [], ◌∷◌, length, take, drop, sym, refl, ap, ◌∙◌, one-add, arith}
use Rattle.std.proofs.lemmas.List.{length-drop}
use Rattle.std.proofs.lemmas.Bool.{eqb-false}
use Rattle.inputs.specs.Parts.{row_length}
use Rattle.page.specs.Rows.{rows_of, byte_before}

-- a byte that does not close a row
abbrev pub stays : ℕ → Bool
stays b = not (eqb b 10)

-- one byte more in front of a first row
byte_more : (b : ℕ) (bs : List ℕ) → rows_of bs ≡ take (row_length bs) bs ∷ rows_of (drop (row_length bs + 1) bs)
    → byte_before b (rows_of bs) ≡ take (1 + row_length bs) (b ∷ bs) ∷ rows_of (drop ((1 + row_length bs) + 1) (b ∷ bs))
byte_more b bs e =
    let n = row_length bs in
    let s : (1 + n) + 1 ≡ suc (n + 1) = omega arith in
    ap (byte_before b) e
    ∙ ap (λ k. take k (b ∷ bs) ∷ rows_of (drop (n + 1) bs)) (sym (one-add n))
    ∙ ap (λ k. take (1 + n) (b ∷ bs) ∷ rows_of (drop k (b ∷ bs))) (sym s)

closed_or_not : (b : ℕ) (bs : List ℕ) (t : Bool)
    → byte_before b (rows_of bs) ≡ take (1 + row_length bs) (b ∷ bs) ∷ rows_of (drop ((1 + row_length bs) + 1) (b ∷ bs))
    → cond t ([] ∷ rows_of bs) (byte_before b (rows_of bs))
    ≡ take (cond (not t) (1 + row_length bs) 0) (b ∷ bs) ∷ rows_of (drop (cond (not t) (1 + row_length bs) 0 + 1) (b ∷ bs))
closed_or_not b bs true e = refl
closed_or_not b bs false e = e

-- the first row, and those behind it
pub first_row : (bs : List ℕ) → 0 < length bs → rows_of bs ≡ take (row_length bs) bs ∷ rows_of (drop (row_length bs + 1) bs)
unfolding rows_of
first_row [] h = absurd (omega arith)
first_row (b ∷ []) h = closed_or_not b [] (eqb b 10) refl
first_row (b ∷ (c ∷ cs)) h = closed_or_not b (c ∷ cs) (eqb b 10) (byte_more b (c ∷ cs) (first_row (c ∷ cs) (omega arith)))

-- the same of a row that has been split off what is left, which leaves fewer bytes
pub split_off : (rest row behind : List ℕ) → false ≡ eqb (length rest) 0 → row ≡ take (row_length rest) rest → behind ≡ drop (row_length rest + 1) rest
    → (rows_of rest ≡ row ∷ rows_of behind) × (length behind < length rest)
split_off rest row behind h e f =
    let some = eqb-false (length rest) 0 (sym h) in
    let l : length behind ≡ length rest - (row_length rest + 1) = ap length f ∙ length-drop (row_length rest + 1) rest in (
      first_row rest (omega arith) ∙ ap (λ r. r ∷ rows_of (drop (row_length rest + 1) rest)) (sym e) ∙ ap (λ bs. row ∷ rows_of bs) (sym f),
      omega arith,
    )
