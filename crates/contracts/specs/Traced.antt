-- The contracts of crate traced: both public functions' results are determined, and wrong lines that their contracts
-- rule out. The trace's line of an event, then of a thread. Assumes nothing.
use Rattle.std.specs.Prelude.{ℕ, true, refl, [], ◌∷◌, None, Some}
use Rattle.word.specs.Flags.{word}
use Rattle.word.specs.Number.{node, thread}
use Rattle.word.specs.declared.number.ThreadNumber.{ThreadNumber}
use Rattle.state.specs.Answer.{accepted_with}
use Rattle.state.specs.declared.answer.Answer.TheVariants.{Done}
use Rattle.state.specs.declared.holding.Holding.TheVariants as Holds
use Rattle.state.specs.declared.machine.Machine.{Machine}
use Rattle.state.specs.declared.place.Place.TheVariants as At
use Rattle.state.specs.declared.place.Who.TheVariants.{Leaver}
use Rattle.listing.specs.ReaderCount.{reads_below}
use Rattle.schedule.specs.declared.cursor.Moved.{Moved}
use Rattle.standing.specs.Look.{among_below, met_from}
use Rattle.standing.specs.Stands.{held_below}
use Rattle.print.specs.Line.{put_all, line_of}
use Rattle.print.specs.Text.{ascii, decimal_by}
use Rattle.traced.specs.Event.{nodes_text}
use Rattle.traced.proofs.event.traced_line.Reads as traced_line
use Rattle.traced.proofs.thread.thread_line.Reads as thread_line
use Rattle.contracts.specs.Allowed.{Determined, ◌&◌, Allows, apart_by, determined}
use Rattle.contracts.specs.Examples.{machine_of, thread_of}
use Rattle.contracts.specs.Looks.{byte_at}

-- ── an event ──

pub traced_line_determined : (at : ℕ) (moved : Moved) → Determined (Allows traced_line.Post (at & moved & tt))
traced_line_determined at moved = determined

-- thread 0 was granted read
abbrev granted : Moved
granted =
    record {
      cursor = record { machine = machine_of 1 17 [] (thread_of At.Idle Holds.Read ∷ []); at = 3 };
      seen = Some (record { code = 16; thread = thread 0; reply = accepted_with Done None });
    }

pub traced_line_says_the_word's_count_in_a_node :
    Allows traced_line.Post (2 & granted & tt)
    (line_of (ascii "2 0 done - 17 | waiters - | readers 1 in node")) → ⊥
unfolding put_all decimal_by reads_below nodes_text
traced_line_says_the_word's_count_in_a_node = apart_by (byte_at 41) refl

pub traced_line_leaves_the_reader_out :
    Allows traced_line.Post (2 & granted & tt) (line_of (ascii "2 0 done - 17 | waiters - | readers -")) → ⊥
unfolding put_all decimal_by reads_below nodes_text
traced_line_leaves_the_reader_out = apart_by (λ l. l.length) refl

-- ── a thread ──

pub thread_line_determined : (m : Machine) (t : ThreadNumber) → Determined (Allows thread_line.Post (m & t & tt))
thread_line_determined m t = determined

-- thread 1 sleeps while thread 0 has its node set aside
abbrev aside : Machine
aside =
    machine_of 2 0 []
    (thread_of (At.SplitCas Leaver (word 54) (node 2)) Holds.Nothing ∷ thread_of (At.Park true) Holds.Nothing ∷ [])

pub thread_line_says_in_no_list :
    Allows thread_line.Post (aside & thread 1 & tt)
    (line_of (ascii "thread 1 asleep at Park, holds nothing, no token, in no list")) → ⊥
unfolding put_all decimal_by held_below among_below met_from
thread_line_says_in_no_list = apart_by (λ l. l.length) refl

pub thread_line_gives_it_a_token :
    Allows thread_line.Post (aside & thread 1 & tt)
    (line_of (ascii "thread 1 asleep at Park, holds nothing, token, set aside by 0")) → ⊥
unfolding put_all decimal_by held_below among_below met_from
thread_line_gives_it_a_token = apart_by (λ l. l.length) refl
