-- Text as bytes: words in ASCII, numbers by their digits. Assumes nothing.
use Rattle.std.specs.Prelude.{ℕ, zero, suc, ◌+◌, ◌/◌, ◌%◌, List, [], ◌∷◌, ◌++◌, ltb, codes}
use Prim.Native.String.{String}
use Rattle.word.specs.Base.{pick}

-- the bytes of a text
abbrev pub ascii : String → List ℕ
ascii = codes

-- the digits of a number of at most so many places, the most significant first
unfoldable pub decimal_by : ℕ → ℕ → List ℕ
decimal_by zero n = []
decimal_by (suc places) n = pick (ltb n 10) ((48 + n) ∷ []) (decimal_by places (n / 10) ++ ((48 + n % 10) ∷ []))

-- a 64-bit number has at most 20
abbrev pub decimal : ℕ → List ℕ
decimal n = decimal_by 20 n
