-- Fields of a printed row.
use Rattle.std.specs.Prelude.{ℕ, ◌-◌, List, ◌++◌, length, replicate}

-- a text right-justified in so many columns, behind blanks; one that is wider is printed whole
unfoldable pub right : ℕ → List ℕ → List ℕ
right width bytes = replicate (width - length bytes) 32 ++ bytes
