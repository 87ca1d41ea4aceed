-- What was received of a file, by how its reading ended. Which bytes, no contract can say. Assumes nothing.
use Rattle.std.specs.Prelude.{ℕ, ◌<◌, ◌≤◌, List, ◌≡◌, length, take}
use Rattle.console.specs.declared.input.Reading.{Reading}
use Rattle.console.specs.declared.input.Reading.TheVariants.{Whole, Full, Unreadable}
use Rattle.console.specs.declared.input.Received.{Received}

-- the first n bytes are there
abbrev pub IsPrefixLen : ℕ → List ℕ → Type 0
IsPrefixLen n bytes = (n ≤ length bytes) × (n ≡ length (take n bytes))

-- how many bytes of those that the caller lends: whole, fewer; full, all; unreadable, none
abbrev pub ReadBy : Reading → ℕ → ℕ → Type 0
ReadBy Whole got size = got < size
ReadBy Full got size = got ≡ size
ReadBy Unreadable got size = got ≡ 0

abbrev pub unreadable_of : Received
unreadable_of = record { length = 0; reading = Unreadable }
