-- A line of text: bytes put one after the other, and what does not fit left out. Assumes nothing.
use Rattle.std.specs.Prelude.{ℕ, ◌+◌, List, ltb, set, take, replicate, fold}
use Rattle.word.specs.Base.{pick}
use Rattle.print.specs.declared.line.Line.{Line}

abbrev pub line_width : ℕ
line_width = 256

abbrev pub blank_of : Line
blank_of = record { bytes = replicate line_width 0; length = 0 }

abbrev pub put_of : Line → ℕ → Line
put_of l b = pick (ltb l.length line_width) (record { bytes = set l.bytes l.length b; length = l.length + 1 }) l

unfoldable pub put_all : Line → List ℕ → Line
put_all l bs = fold put_of l bs

-- the bytes of a line that are text
abbrev pub shown : Line → List ℕ
shown l = take l.length l.bytes

-- a line of that text
abbrev pub line_of : List ℕ → Line
line_of xs = put_all blank_of xs
