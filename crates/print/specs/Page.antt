-- A page: lines laid one after the other in a run of bytes. One that does not fit is not laid. Assumes nothing.
use Rattle.std.specs.Prelude.{ℕ, zero, suc, ◌+◌, ◌-◌, Bool, false, List, leb, length, get_or, set}
use Rattle.word.specs.Base.{pick}
use Rattle.print.specs.Line.{line_width}
use Rattle.print.specs.declared.line.Line.{Line}

-- the first n bytes stored one after the other from `at` on
unfoldable pub copy_of : List ℕ → ℕ → List ℕ → ℕ → List ℕ
copy_of page at bytes zero = page
copy_of page at bytes (suc n) = set (copy_of page at bytes n) (at + n) (get_or bytes n 0)

-- so many bytes of a line fit in a page of that size from `at` on
abbrev pub fits_of : ℕ → ℕ → ℕ → Bool
fits_of size at text = pick (leb text line_width) (pick (leb at size) (leb text (size - at)) false) false

abbrev pub laid_of : List ℕ → ℕ → Line → List ℕ
laid_of page at line = pick (fits_of (length page) at line.length) (copy_of page at line.bytes line.length) page

-- where the next line goes
abbrev pub after_of : ℕ → ℕ → Line → ℕ
after_of size at line = pick (fits_of size at line.length) (at + line.length) at
