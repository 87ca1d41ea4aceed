-- The contracts of crate console: what its public functions answer is determined, and wrong answers that the contracts
-- rule out; each for every handle `rt`, of every type with the function's bounds. Input, output, then whole runs. Not
-- determined is what `receive` and `receive_named` read: by what the system answers. What reaches standard output no
-- contract can say. Assumes nothing.
use Rattle.std.specs.Prelude.{ℕ, true, refl, List, [], ◌∷◌, Ok}
use Rattle.std.specs.Borrow.{Bor, MutBor}
use Rattle.std.specs.declared.alloc.Allocator
use Rattle.std.specs.declared.alloc.Global.{Global}
use Rattle.std.specs.declared.clone.Clone
use Rattle.std.specs.declared.env.Env
use Rattle.std.specs.declared.fs.files.Files
use Rattle.std.specs.declared.fs.files.OpenFile
use Rattle.std.specs.declared.given.Alloc
use Rattle.std.specs.declared.given.AllocGlobal
use Rattle.std.specs.declared.io.Eprint
use Rattle.std.specs.declared.io.Print
use Rattle.std.specs.declared.io.stdio.Input
use Rattle.std.specs.declared.io.traits.BufRead
use Rattle.std.specs.declared.io.traits.Read
use Rattle.std.specs.declared.io.traits.Seek
use Rattle.std.specs.declared.io.traits.Write
use contract.Lifetimes.{Lfts}
use denote.Param.Laws.{Laws}
use denote.RattleType.{RattleType}
use mir.Syntax.{Dict}
use Rattle.std.proofs.Common.{arith}
use Rattle.state.specs.Access.{access_of}
use Rattle.state.specs.declared.holding.Holding.TheVariants as Holds
use Rattle.state.specs.declared.place.Place.TheVariants as At
use Rattle.lock.specs.Event.{event_of}
use Rattle.listing.specs.ReaderCount.{reads_below}
use Rattle.schedule.specs.File.{checked_of}
use Rattle.schedule.specs.Replay.{replay_of}
use Rattle.schedule.specs.Whole.{file_refused_of}
use Rattle.schedule.specs.declared.file.FileRefusal.TheVariants.{Length, TooMany}
use Rattle.print.specs.Line.{put_all, line_of, blank_of}
use Rattle.print.specs.Text.{ascii, decimal_by}
use Rattle.print.specs.Whole.{event_lines, bytes_of}
use Rattle.print.specs.declared.line.Line.{Line}
use Rattle.traced.specs.Event.{nodes_text}
use Rattle.traced.specs.Whole.{thread_lines}
use Rattle.console.specs.declared.input.Reading.{Reading}
use Rattle.console.specs.declared.input.Reading.TheVariants as Readings
use Rattle.console.specs.declared.input.Received.{Received}
use Rattle.console.specs.declared.runs.Printed.{Printed}
use Rattle.console.proofs.input.receive.Reads as receive
use Rattle.console.proofs.input.receive_named.Reads as receive_named
use Rattle.console.proofs.output.write_line.Reads as write_line
use Rattle.console.proofs.runs.replay.Reads as replay
use Rattle.console.proofs.runs.replay_received.Reads as replay_received
use Rattle.console.proofs.runs.too_long.Reads as too_long
use Rattle.console.proofs.runs.trace.Reads as trace
use Rattle.console.proofs.runs.trace_received.Reads as trace_received
use Rattle.contracts.specs.Allowed.{◌&◌, slice, lent, AllowsLent, Determined, determined}
use Rattle.contracts.specs.Allowed.{clash, apart_by, apart_in}
use Rattle.contracts.specs.Examples.{machine_of, thread_of}

-- ── input ──

abbrev received : ℕ → Reading → Received
received n reading = record { length = n; reading = reading }

-- what is lent for the bytes, and a name
abbrev two : MutBor (List ℕ)
two = lent (1 ∷ 0 ∷ [])

abbrev name : Bor (List ℕ)
name = slice (1 ∷ 0 ∷ [])

-- a handle of type R, its files, of type F, and its folders, of type D
module _
    (R F D : RattleType) (r_laws : Laws R) (f_laws : Laws F) (d_laws : Laws D)
    (files : Files.Ghosts R.Denot F.Denot D.Denot) (files_dict : Dict)
    (read : Read.Ghosts F.Denot) (read_dict : Dict)
    (write : Write.Ghosts F.Denot) (write_dict : Dict)
    (seek : Seek.Ghosts F.Denot) (seek_dict : Dict)
    (open_file : OpenFile.Ghosts F.Denot) (open_file_dict : Dict)
    (read_folder : Read.Ghosts D.Denot) (read_folder_dict : Dict)
    (eprint : Eprint.Ghosts R.Denot) (eprint_dict : Dict)
    (alloc_global : AllocGlobal.Ghosts R.Denot) (alloc_global_dict : Dict)
    (alloc : Alloc.Ghosts R.Denot Global) (alloc_dict : Dict)
    (allocator : Allocator.Ghosts Global) (allocator_dict : Dict)
    (clone : Clone.Ghosts Global) (clone_dict : Dict)
    (f_dict d_dict : Dict) (rt : Bor R.Denot) (κs : Lfts 6)
  where
    -- with the bytes as they were
    abbrev ReceivedNamed : Received → Type 0
    ReceivedNamed =
        AllowsLent
        (receive_named.Post R F D r_laws f_laws d_laws files files_dict read read_dict write write_dict seek seek_dict
        open_file open_file_dict read_folder read_folder_dict eprint eprint_dict alloc_global alloc_global_dict alloc
        alloc_dict allocator allocator_dict clone clone_dict f_dict d_dict)
        κs (rt & name & two & tt)

    pub receive_named_calls_a_full_slice_whole : ReceivedNamed (received 2 Readings.Whole) → ⊥
    receive_named_calls_a_full_slice_whole a = omega arith

    pub receive_named_keeps_bytes_of_an_unreadable_file : ReceivedNamed (received 1 Readings.Unreadable) → ⊥
    receive_named_keeps_bytes_of_an_unreadable_file a = omega arith

    -- and standard input, of type I
    module _
        (I : RattleType) (i_laws : Laws I)
        (env : Env.Ghosts R.Denot) (env_dict : Dict)
        (input : Input.Ghosts R.Denot I.Denot) (input_dict : Dict)
        (buf_read : BufRead.Ghosts I.Denot) (buf_read_dict : Dict)
        (read_input : Read.Ghosts I.Denot) (read_input_dict : Dict) (i_dict : Dict)
      where
        abbrev ReceivedBytes : Received → Type 0
        ReceivedBytes =
            AllowsLent
            (receive.Post R I F D r_laws i_laws f_laws d_laws env env_dict input input_dict buf_read buf_read_dict
            read_input read_input_dict files files_dict read read_dict write write_dict seek seek_dict open_file
            open_file_dict read_folder read_folder_dict eprint eprint_dict alloc_global alloc_global_dict alloc
            alloc_dict allocator allocator_dict clone clone_dict i_dict f_dict d_dict)
            κs (rt & two & tt)

        pub receive_more_than_there_is_room_for : ReceivedBytes (received 3 Readings.Full) → ⊥
        receive_more_than_there_is_room_for a = omega arith

        pub receive_calls_a_full_slice_whole : ReceivedBytes (received 2 Readings.Whole) → ⊥
        receive_calls_a_full_slice_whole a = omega arith

-- ── what is printed ──

-- one thread begins a write: `0 0 begun - 0`, `end 1`
abbrev file : List ℕ
file = 1 ∷ 0 ∷ 0 ∷ 0 ∷ 3 ∷ 1 ∷ 1 ∷ 0 ∷ []

-- so many events ran, and so many bytes were written
abbrev printed : ℕ → ℕ → Printed
printed run bytes =
    record {
      replayed =
          record {
            machine = machine_of 1 0 [] (thread_of (At.TryWriteOr true) Holds.Nothing ∷ []);
            run = run;
            stop = Ok tt;
          };
      bytes = bytes;
    }

-- the same begun twice: the second is refused
abbrev file_of_twice : List ℕ
file_of_twice = 1 ∷ 0 ∷ 0 ∷ 0 ∷ 5 ∷ 1 ∷ 1 ∷ 0 ∷ 1 ∷ 0 ∷ []

-- a handle of type R, that prints
module _
    (R : RattleType) (laws : Laws R)
    (print : Print.Ghosts R.Denot) (print_dict : Dict)
    (eprint : Eprint.Ghosts R.Denot) (eprint_dict : Dict)
    (alloc_global : AllocGlobal.Ghosts R.Denot) (alloc_global_dict : Dict)
    (alloc : Alloc.Ghosts R.Denot Global) (alloc_dict : Dict)
    (allocator : Allocator.Ghosts Global) (allocator_dict : Dict)
    (clone : Clone.Ghosts Global) (clone_dict : Dict) (rt : Bor R.Denot)
  where
    abbrev Wrote : Lfts 2 → Line → ℕ → Type 0
    Wrote κs line =
        AllowsLent
        (write_line.Post R laws print print_dict eprint eprint_dict alloc_global alloc_global_dict alloc alloc_dict
        allocator allocator_dict clone clone_dict)
        κs (rt & line & tt)

    abbrev Replayed : Lfts 3 → Bor (List ℕ) → Printed → Type 0
    Replayed κs s =
        AllowsLent
        (replay.Post R laws print print_dict eprint eprint_dict alloc_global alloc_global_dict alloc alloc_dict
        allocator allocator_dict clone clone_dict)
        κs (rt & s & tt)

    abbrev Traced : Lfts 3 → Bor (List ℕ) → Printed → Type 0
    Traced κs s =
        AllowsLent
        (trace.Post R laws print print_dict eprint eprint_dict alloc_global alloc_global_dict alloc alloc_dict
        allocator allocator_dict clone clone_dict)
        κs (rt & s & tt)

    abbrev TooLong : Lfts 2 → Printed → Type 0
    TooLong κs =
        AllowsLent
        (too_long.Post R laws print print_dict eprint eprint_dict alloc_global alloc_global_dict alloc alloc_dict
        allocator allocator_dict clone clone_dict)
        κs (rt & tt)

    abbrev ReplayReceived : Lfts 3 → Reading → Bor (List ℕ) → ℕ → Type 0
    ReplayReceived κs reading s =
        AllowsLent
        (replay_received.Post R laws print print_dict eprint eprint_dict alloc_global alloc_global_dict alloc alloc_dict
        allocator allocator_dict clone clone_dict)
        κs (rt & reading & s & tt)

    abbrev TraceReceived : Lfts 3 → Reading → Bor (List ℕ) → ℕ → Type 0
    TraceReceived κs reading s =
        AllowsLent
        (trace_received.Post R laws print print_dict eprint eprint_dict alloc_global alloc_global_dict alloc alloc_dict
        allocator allocator_dict clone clone_dict)
        κs (rt & reading & s & tt)

    -- ── output ──

    pub write_line_determined : (κs : Lfts 2) (line : Line) → Determined (Wrote κs line)
    write_line_determined κs line = determined

    pub write_line_without_its_end : (κs : Lfts 2) → Wrote κs (line_of (ascii "no")) 2 → ⊥
    unfolding put_all
    write_line_without_its_end κs e = clash (cc)

    pub write_line_leaves_an_empty_one_out : (κs : Lfts 2) → Wrote κs blank_of 0 → ⊥
    unfolding put_all
    write_line_leaves_an_empty_one_out κs e = clash (cc)

    -- ── whole runs ──

    pub replay_determined : (κs : Lfts 3) (s : Bor (List ℕ)) → Determined (Replayed κs s)
    replay_determined κs s = determined

    pub replay_prints_nothing : (κs : Lfts 3) → Replayed κs (slice file) (printed 1 0) → ⊥
    unfolding event_lines bytes_of decimal_by checked_of replay_of event_of access_of
    replay_prints_nothing κs = apart_by (λ p. p.bytes) refl

    pub replay_says_that_none_ran : (κs : Lfts 3) → Replayed κs (slice file) (printed 0 20) → ⊥
    unfolding event_lines bytes_of decimal_by checked_of replay_of event_of access_of
    replay_says_that_none_ran κs = apart_by (λ p. p.replayed.run) refl

    pub replay_leaves_the_last_line's_end_out :
        (κs : Lfts 3) → Replayed κs (slice file) (printed 1 19) → ⊥
    unfolding event_lines bytes_of decimal_by checked_of replay_of event_of access_of
    replay_leaves_the_last_line's_end_out κs = apart_by (λ p. p.bytes) refl

    pub replay_goes_on_after_a_refusal :
        (κs : Lfts 3) → Replayed κs (slice file_of_twice) (printed 1 24) → ⊥
    unfolding event_lines bytes_of decimal_by checked_of replay_of event_of access_of
    replay_goes_on_after_a_refusal κs = apart_in (λ p. p.replayed.stop) (λ e. clash (cc))

    pub trace_determined : (κs : Lfts 3) (s : Bor (List ℕ)) → Determined (Traced κs s)
    trace_determined κs s = determined

    pub trace_prints_the_replay : (κs : Lfts 3) → Traced κs (slice file) (printed 1 20) → ⊥
    unfolding event_lines thread_lines bytes_of decimal_by checked_of replay_of event_of access_of
        reads_below nodes_text
    trace_prints_the_replay κs = apart_by (λ p. p.bytes) refl

    pub trace_leaves_the_threads_out : (κs : Lfts 3) → Traced κs (slice file) (printed 1 44) → ⊥
    unfolding event_lines thread_lines bytes_of decimal_by checked_of replay_of event_of access_of
        reads_below nodes_text
    trace_leaves_the_threads_out κs = apart_by (λ p. p.bytes) refl

    pub too_long_determined : (κs : Lfts 2) → Determined (TooLong κs)
    too_long_determined κs = determined

    -- `refused 14`
    pub too_long_by_the_length :
        (κs : Lfts 2) → TooLong κs (record { replayed = file_refused_of Length; bytes = 11 }) → ⊥
    too_long_by_the_length κs = apart_in (λ p. p.replayed.stop) (λ e. clash (cc))

    pub too_long_prints_nothing :
        (κs : Lfts 2) → TooLong κs (record { replayed = file_refused_of TooMany; bytes = 0 }) → ⊥
    unfolding bytes_of decimal_by
    too_long_prints_nothing κs = apart_by (λ p. p.bytes) refl

    pub replay_received_determined : (κs : Lfts 3) (reading : Reading) (s : Bor (List ℕ))
        → Determined (ReplayReceived κs reading s)
    replay_received_determined κs reading s = determined

    pub replay_received_runs_a_file_that_is_too_long :
        (κs : Lfts 3) → ReplayReceived κs Readings.Full (slice file) 20 → ⊥
    unfolding bytes_of decimal_by
    replay_received_runs_a_file_that_is_too_long κs e = clash (cc)

    pub replay_received_runs_what_was_not_read :
        (κs : Lfts 3) → ReplayReceived κs Readings.Unreadable (slice file) 20 → ⊥
    replay_received_runs_what_was_not_read κs e = clash (cc)

    pub trace_received_determined : (κs : Lfts 3) (reading : Reading) (s : Bor (List ℕ))
        → Determined (TraceReceived κs reading s)
    trace_received_determined κs reading s = determined

    pub trace_received_prints_the_replay :
        (κs : Lfts 3) → TraceReceived κs Readings.Whole (slice file) 20 → ⊥
    unfolding event_lines thread_lines bytes_of decimal_by checked_of replay_of event_of access_of
        reads_below nodes_text
    trace_received_prints_the_replay κs e = clash (cc)

    pub trace_received_traces_a_file_that_is_too_long :
        (κs : Lfts 3) → TraceReceived κs Readings.Full (slice file) 92 → ⊥
    unfolding bytes_of decimal_by
    trace_received_traces_a_file_that_is_too_long κs e = clash (cc)
