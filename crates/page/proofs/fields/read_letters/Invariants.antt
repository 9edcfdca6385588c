use Rattle.std.proofs.Common.{◌≡◌, ◌++◌, length, drop}
use Rattle.page.specs.Letters.{letters_of}
use Rattle.page.proofs.fields.read_letters.Given as goal

-- the cells so far, and those of the letters that are left
abbrev pub invariant-loop-byte : goal.invariant-loop-byte
invariant-loop-byte l = (length l.cells.items ≡ l.byte-index)
    × (l.cells.items ++ letters_of (drop l.byte-index l.field) ≡ letters_of l.field)
