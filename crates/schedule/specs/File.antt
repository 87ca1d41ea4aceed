-- The schedule file's check, by document 01: its numbers, and the order of its refusals 10 to 14. Another version of
-- the file changes the numbers here and not the form.
-- Assumes nothing.
use Rattle.std.specs.Prelude.{ℕ, ◌+◌, ◌-◌, ◌*◌, ◌/◌, ◌%◌, Bool, false, List, Result, Ok, Err, leb, eqb, length, get_or}
use Rattle.word.specs.Base.{pick}
use Rattle.state.specs.Machine.{good_count}
use Rattle.schedule.specs.declared.file.FileRefusal.{FileRefusal}
use Rattle.schedule.specs.declared.file.FileRefusal.TheVariants.{TooShort, Version, Length, Threads, TooMany}
use Rattle.schedule.specs.declared.file.Head.{Head}

abbrev pub file_number : FileRefusal → ℕ
file_number TooShort = 10
file_number Version = 11
file_number Length = 12
file_number Threads = 13
file_number TooMany = 14

abbrev pub file_version : ℕ
file_version = 1

-- the version and the length's four bytes: the length counts what follows them
abbrev pub counted_from : ℕ
counted_from = 5

abbrev pub header_length : ℕ
header_length = 6

abbrev pub event_width : ℕ
event_width = 2

abbrev pub event_limit : ℕ
event_limit = 30000

abbrev pub big_endian : ℕ → ℕ → ℕ → ℕ → ℕ
big_endian a b c d = ((a * 256 + b) * 256 + c) * 256 + d

-- bytes 1..4
abbrev pub stated_length : List ℕ → ℕ
stated_length s = big_endian (get_or s 1 0) (get_or s 2 0) (get_or s 3 0) (get_or s 4 0)

-- the file's size less 5, and whole events after the thread count: odd
abbrev pub right_length : List ℕ → Bool
right_length s =
    pick (eqb (stated_length s) (length s - counted_from))
    (eqb (stated_length s % event_width) (header_length - counted_from)) false

abbrev pub threads_in : List ℕ → ℕ
threads_in s = get_or s counted_from 0

abbrev pub events_in : List ℕ → ℕ
events_in s = (length s - header_length) / event_width

abbrev pub unless : Bool → FileRefusal → Result Head FileRefusal → Result Head FileRefusal
unless good refusal later = pick good later (Err refusal)

abbrev pub head_of : List ℕ → Head
head_of s = record { threads = threads_in s; events = events_in s }

unfoldable pub checked_of : List ℕ → Result Head FileRefusal
checked_of s =
    unless (leb header_length (length s)) TooShort
    (unless (eqb (get_or s 0 0) file_version) Version
    (unless (right_length s) Length
    (unless (good_count (threads_in s)) Threads
    (unless (leb (events_in s) event_limit) TooMany (Ok (head_of s))))))
