-- What was decided, stored where it was looked at; and the token of the thread woken as one store that is always made:
-- with nobody to wake, a record is stored again as it is, so storing has no branch.
-- How a change is stored at given indices stands in Landed.antt; that the one store is its wake in StoreLaws.antt.
-- Assumes nothing.
use Rattle.std.specs.Prelude.{ℕ, Bool, false, ltb, Option, Some, None}
use Rattle.word.specs.Base.{pick}
use Rattle.word.specs.declared.number.ThreadNumber.{ThreadNumber}
use Rattle.state.specs.View.{Stepped}
use Rattle.state.specs.Machine.{thread_limit}
use Rattle.state.specs.declared.machine.Machine.{Machine}
use Rattle.state.specs.declared.machine.Outcome.{Outcome}
use Rattle.state.specs.declared.machine.Thread.{Thread}
use Rattle.lock.specs.Landed.{tokened_of, landed_of}
use Rattle.lock.specs.Look.{thread_index, touched_index}
use Rattle.lock.specs.declared.look.Look.{Look}

-- ── the token ──

abbrev pub sets_token : Option ThreadNumber → Bool
sets_token None = false
sets_token (Some t) = ltb t.0 thread_limit

-- the record that is stored
abbrev pub token_index : Option ThreadNumber → ℕ
token_index None = 0
token_index (Some t) = thread_index t

abbrev pub tokened_if : Thread → Bool → Thread
tokened_if t sets = pick sets (tokened_of t) t

-- ── the event ──

unfoldable pub landed_in : Machine → Look → Stepped → Outcome
landed_in m look s =
    landed_of m (thread_index look.me) (touched_index look.count look.me look.thread) s
