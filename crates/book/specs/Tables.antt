-- What a table of rows holds.
use Rattle.std.specs.Prelude.{ℕ, List, take}
use Rattle.book.specs.declared.tables.Table.{Table}

-- the rows in use, in order
abbrev pub items : {T : Type 0} {N : ℕ} → Table T N → List T
items t = take t.len t.rows
