-- Cells that admit the latest letters spell a suffix of them.
use Rattle.std.proofs.Common.{◌≡◌, ℕ, suc, ◌-◌, ◌≤◌, Bool, true, eqb, List, [], ◌∷◌, ◌++◌, map, reverse, length, take, drop, sym, refl, ap, ◌∙◌, arith}
use mathlib.Core.List.{reverse-cons}
use Rattle.std.proofs.lemmas.List.{length-drop, length-map, length-reverse, map-append, reverse-append, reverse-reverse, take-append-drop, take_at}
use Rattle.std.proofs.lemmas.Bool.{and_parts, and_from, eq-eqb, eqb-true, false≢true}
use Rattle.cells.specs.declared.letters.Letter.{Letter}
use Rattle.cells.specs.declared.letters.LetterCell.{LetterCell}
use Rattle.cells.specs.Letters.{letter_admits}
use Rattle.finders.specs.Latest.{admit_all}
use Rattle.automaton.specs.Labels.{word, spelt, Suffix}

map-reverse : {X Y : Type 0} (f : X → Y) (xs : List X) → map f (reverse xs) ≡ reverse (map f xs)
map-reverse f [] = refl
map-reverse f (x ∷ xs) = ap (map f) (reverse-cons x xs) ∙ map-append f (reverse xs) (x ∷ []) ∙ ap (λ ys. ys ++ f x ∷ []) (map-reverse f xs) ∙ sym (reverse-cons (f x) (map f xs))

take-reverse : {X : Type 0} (n : ℕ) (xs : List X) → n ≤ length xs → take n (reverse xs) ≡ reverse (drop (length xs - n) xs)
take-reverse n xs h =
    let m : ℕ = length xs - n in
    ap (λ ys. take n (reverse ys)) (sym (take-append-drop m xs))
    ∙ ap (take n) (reverse-append (take m xs) (drop m xs))
    ∙ take_at (reverse (drop m xs)) (reverse (take m xs)) n (omega (arith, length-reverse (drop m xs), length-drop m xs))

admits_word : (cs : List LetterCell) (ys : List Letter) → admit_all letter_admits cs ys ≡ true → take (length cs) (word ys) ≡ spelt cs
admits_word [] ys e = refl
admits_word (c ∷ cs) [] e = absurd (false≢true e)
admits_word (c ∷ cs) (y ∷ ys) e =
    let p = and_parts (eqb c.letter.byte y.byte) _ e in
    let a = eqb-true c.letter.byte y.byte p.0 in
    let b = admits_word cs ys p.1 in
    cc

word_admits : (cs : List LetterCell) (ys : List Letter) → take (length cs) (word ys) ≡ spelt cs → admit_all letter_admits cs ys ≡ true
word_admits [] ys e = refl
word_admits (c ∷ cs) [] e = absurd (let l : 0 ≡ suc (length (spelt cs)) = ap length e in let no : ⊥ = omega arith in no)
word_admits (c ∷ cs) (y ∷ ys) e =
    let a : c.letter.byte ≡ y.byte = cc in
    let b : take (length cs) (word ys) ≡ spelt cs = cc in
    and_from _ _ (eq-eqb c.letter.byte y.byte a) (word_admits cs ys b)

pub admits_length : {C S : Type 0} (admits : C → S → Bool) (cs : List C) (ys : List S) → admit_all admits cs ys ≡ true → length cs ≤ length ys
admits_length admits [] ys e = omega arith
admits_length admits (c ∷ cs) [] e = absurd (false≢true e)
admits_length admits (c ∷ cs) (y ∷ ys) e = omega (arith, admits_length admits cs ys (and_parts (admits c y) _ e).1)

-- turned round, the fronts are suffixes
turned : (cs : List LetterCell) (letters : List Letter) → length cs ≤ length letters
    → take (length (reverse cs)) (word (reverse letters)) ≡ reverse (drop (length (word letters) - length (spelt cs)) (word letters))
turned cs letters h =
    let n = length-map cs (λ c. c.letter.byte) in
    let m = length-map letters (λ l. l.byte) in
    ap (λ k. take k (word (reverse letters))) (length-reverse cs ∙ sym n)
    ∙ ap (take (length (spelt cs))) (map-reverse (λ l. l.byte) letters)
    ∙ take-reverse (length (spelt cs)) (word letters) (omega arith)

pub suffix_from : (cs : List LetterCell) (letters : List Letter) → admit_all letter_admits (reverse cs) (reverse letters) ≡ true → Suffix (spelt cs) (word letters)
suffix_from cs letters e =
    let h = admits_length letter_admits (reverse cs) (reverse letters) e in
    let t = turned cs letters (omega (arith, length-reverse cs, length-reverse letters)) in
    let s = sym t ∙ admits_word (reverse cs) (reverse letters) e ∙ map-reverse (λ c. c.letter.byte) cs in
    sym (reverse-reverse _) ∙ ap reverse s ∙ reverse-reverse (spelt cs)

pub suffix_admits : (cs : List LetterCell) (letters : List Letter) → Suffix (spelt cs) (word letters) → admit_all letter_admits (reverse cs) (reverse letters) ≡ true
suffix_admits cs letters e =
    let n = length-map cs (λ c. c.letter.byte) in
    let m = length-map letters (λ l. l.byte) in
    let d = length-drop (length (word letters) - length (spelt cs)) (word letters) in
    let t = turned cs letters (omega (arith, ap length e)) in
    word_admits (reverse cs) (reverse letters) (t ∙ ap reverse e ∙ sym (map-reverse (λ c. c.letter.byte) cs))
