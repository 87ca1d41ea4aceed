-- Lines laid on a page, and how much of a page is written. What reaches standard output no contract can say.
-- Assumes nothing.
use Rattle.std.specs.Prelude.{ℕ, ◌-◌, Bool, false, leb, ltb}
use Rattle.word.specs.Base.{pick}
use Rattle.print.specs.Text.{ascii}
use Rattle.print.specs.Line.{line_width, put_all}
use Rattle.print.specs.Page.{after_of}
use Rattle.print.specs.declared.line.Line.{Line}

-- any line fits from `at` on
abbrev pub has_room : ℕ → ℕ → Bool
has_room size at = pick (leb at size) (leb line_width (size - at)) false

-- the pages that lines are laid on
abbrev pub page_size : ℕ
page_size = 65536

-- a line and its end
abbrev pub ended_of : Line → Line
ended_of line = put_all line (ascii "\n")

-- of a page's first `at` bytes, those that it has
abbrev pub written_of : ℕ → ℕ → ℕ
written_of size at = pick (ltb at size) at size

-- a line and its end; nothing of a line that claims more bytes than it has
abbrev pub line_written : Line → ℕ
line_written line = after_of line_width 0 (ended_of line)
