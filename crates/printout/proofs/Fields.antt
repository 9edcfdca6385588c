-- Lemmas on fields.
use Rattle.std.proofs.Common.{◌≡◌, ℕ, [], ◌∷◌, List, ◌+◌, ◌≤◌, ◌++◌, length, decimal, arith}
use Rattle.std.proofs.lemmas.List.{append-nil, append_assoc, length-append, length-replicate}
use Rattle.printout.specs.Fields.{right}
use Rattle.printout.specs.Rows.{number_fields}

-- A text that is no wider than its field fills the field.
pub length_right : (width : ℕ) (text : List ℕ) → length text ≤ width → length (right width text) ≡ width
unfolding right
length_right width text narrow = simp (length-append, length-replicate) (omega arith)

-- Three fields and a byte, in bytes.
pub length_fields : (a b c : List ℕ) (byte : ℕ) → length (a ++ b ++ c ++ byte ∷ []) ≡ length a + length b + length c + 1
length_fields a b c byte = simp (length-append) (omega arith)

-- What is written, and the fields of the numbers to come: at the end, and with one number more.
pub fields_done : (bytes numbers : List ℕ) → numbers ≡ [] → bytes ++ number_fields numbers ≡ bytes
unfolding number_fields
fields_done bytes numbers none = rw none (append-nil bytes)

pub fields_more : (bytes longer numbers left : List ℕ) (n : ℕ) → longer ≡ bytes ++ right 4 (decimal n) → numbers ≡ n ∷ left
    → longer ++ number_fields left ≡ bytes ++ number_fields numbers
unfolding number_fields
fields_more bytes longer numbers left n e more = rw (e, more) (append_assoc bytes (right 4 (decimal n)) (number_fields left))
