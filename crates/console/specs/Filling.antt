-- How a page is filled: one line laid, and what the loop that lays a replay's lines keeps.
-- In order: a line laid; what is kept; one move more, by whether the replay goes on.
-- Not here: what a page is in the end (Pages.antt, `Fills`); the law of one move (Moves.antt).
-- Assumes nothing.
use Rattle.std.specs.Prelude.{ℕ, ◌+◌, ◌-◌, ◌<◌, ◌≤◌, true, false, List, ◌++◌, ◌≡◌, refl, is_some, leb, length, take}
use Rattle.std.proofs.lemmas.Bool.{false≢true}
use Rattle.std.proofs.Common.{append_assoc, sym, ap, subst, ◌∙◌, arith, leb-true, le-leb}
use Rattle.std.proofs.Math.Decide.{dec_lt}
use Rattle.word.specs.Cases.{pick_first}
use Rattle.schedule.specs.Cursor.{moved_of}
use Rattle.schedule.specs.declared.cursor.Cursor.{Cursor}
use Rattle.schedule.specs.declared.cursor.Moved.{Moved}
use Rattle.print.specs.Text.{ascii}
use Rattle.print.specs.Line.{line_width, line_of}
use Rattle.print.specs.Page.{laid_of, after_of}
use Rattle.print.specs.PageLaws.{laid_length, laid_after, laid_shows}
use Rattle.print.specs.declared.line.Line.{Line}
use Rattle.console.specs.Output.{has_room, ended_of}
use Rattle.std.specs.ControlFlow.{break_value}
use Rattle.std.specs.declared.ops.ControlFlow.TheVariants.{Continue, Break}
use Rattle.console.specs.Pages.{move_text, going_of, to_print, to_run, print_by, run_by, Going, Further, Fills}
use Rattle.console.specs.declared.pages.Lines.{Lines}
use Rattle.console.specs.Moves.{Moves, moves, move_short}

-- ── a line laid ──

-- the text and its end stand after what was there
pub record Lays (page : List ℕ) (at : ℕ) (text later : List ℕ) (next : ℕ) : Type 0 where
  pub after : next ≡ at + (length text + 1)
  pub size : length later ≡ length page
  pub within : next ≤ length later
  pub shows : take next later ≡ take at page ++ (text ++ ascii "\n")

module _ {page : List ℕ} {at : ℕ} {text later : List ℕ} {next : ℕ} {line : Line} where
  pub lays :
      at + line_width ≤ length page
      → length text < line_width
      → line ≡ line_of text
      → next ≡ after_of (length page) at (ended_of line)
      → later ≡ laid_of page at (ended_of line)
      → Lays page at text later next
  lays room short e p q = record { after = after; size = size; within = omega (arith, after, size); shows = shows }
    where
      size : length later ≡ length page
      size = ap length q ∙ laid_length page at (ended_of line)

      after : next ≡ at + (length text + 1)
      after = p ∙ ap (λ (l : Line). after_of (length page) at (ended_of l)) e ∙ laid_after page at text room short

      laid : later ≡ laid_of page at (ended_of (line_of text))
      laid = q ∙ ap (λ (l : Line). laid_of page at (ended_of l)) e

      shows : take next later ≡ take at page ++ (text ++ ascii "\n")
      shows =
          ap (λ (n : ℕ). take n later) after
          ∙ ap (take (at + (length text + 1))) laid
          ∙ laid_shows page at text room short

pub has_room_lem : (size at : ℕ) → has_room size at ≡ true → at + line_width ≤ size
has_room_lem size at e =
    let both = pick_first (leb at size) (leb line_width (size - at)) false true false≢true e in
    omega (arith, leb-true at size both.0, leb-true line_width (size - at) both.1)

-- where there is none on a page that a line fits, something is laid
pub no_room : (size at : ℕ) → has_room size at ≡ false → line_width ≤ size → 0 < at
no_room size at e h = by (dec_lt 0 at)
  where
    by : Dec (0 < at) → 0 < at
    by (yes some) = some
    by (no none) =
        let start = le-leb at size (omega arith) in
        let rest = le-leb line_width (size - at) (omega arith) in
        absurd (false≢true (sym e ∙ simp (start, rest)))

-- ── what the loop keeps ──

pub record Filling (which : Lines) (from : Cursor) (s page : List ℕ) (c : Cursor) (at : ℕ) : Type 0 where
  pub within : at ≤ length page
  pub bytes : take at page ++ to_print which c s ≡ to_print which from s
  pub replay : to_run c s ≡ to_run from s
  pub ahead : from.at ≤ c.at
  pub further : 0 < at → Further (Continue tt) from c s

continues : (g : Going) → is_some (break_value g) ≡ false → g ≡ Continue tt
continues (Continue on) goes = refl
continues (Break stop) goes = absurd (false≢true (sym goes))

-- one move more: the line of it is laid where there is room
module _
    {which : Lines} {from : Cursor} {s page : List ℕ} {c : Cursor} {at : ℕ}
    {moved : Moved} {line : Line} {later : List ℕ} {next : ℕ}
    (kept : Filling which from s page c at)
    (room : has_room (length page) at ≡ true)
    (m : moved ≡ moved_of c s)
    (e : line ≡ line_of (move_text which c.at moved))
    (p : next ≡ after_of (length page) at (ended_of line))
    (q : later ≡ laid_of page at (ended_of line))
  where
    abbrev text : List ℕ
    text = move_text which c.at moved

    laid : Lays page at text later next
    laid = lays (has_room_lem (length page) at room) (move_short which c.at moved) e p q

    move : Moves which c s moved
    move = moves c s which m

    -- less of the page is free
    pub fills_up : length later - next < length page - at
    fills_up = omega (arith, laid.after, laid.size, laid.within)

    abbrev Left : Going → Type 0
    Left g = take next later ++ print_by which g moved.cursor s ≡ to_print which from s

    abbrev Runs : Going → Type 0
    Runs g = run_by g moved.cursor s ≡ to_run from s

    left : Left (going_of moved.seen)
    left =
        let rest = print_by which (going_of moved.seen) moved.cursor s in
        ap (λ (l : List ℕ). l ++ rest) laid.shows
        ∙ append_assoc (take at page) (text ++ ascii "\n") rest
        ∙ ap (λ (l : List ℕ). take at page ++ l) (sym move.prints)
        ∙ kept.bytes

    runs : Runs (going_of moved.seen)
    runs = sym move.runs ∙ kept.replay

    none_further : (g : Going) → is_some (break_value g) ≡ true → Further g from moved.cursor s
    none_further (Continue on) over = absurd (false≢true over)
    none_further (Break stop) over = tt

    module _ {going : Going} (g : going ≡ going_of moved.seen) where
      -- the replay goes on
      pub goes_on_lem : is_some (break_value going) ≡ false → Filling which from s later moved.cursor next
      goes_on_lem on =
          let way = sym g ∙ continues going on in
          let further = subst (λ (x : Going). Further x c moved.cursor s) way move.further in
          record {
            within = laid.within;
            bytes = subst Left way left;
            replay = subst Runs way runs;
            ahead = omega (arith, kept.ahead, further.0);
            further = λ _. (omega (arith, kept.ahead, further.0), further.1);
          }

      -- it is over
      pub is_over :
          is_some (break_value going) ≡ true
          → Fills which from s later (record { cursor = moved.cursor; at = next; going = going })
      is_over over =
          record {
            within = laid.within;
            bytes = subst Left (sym g) left;
            replay = subst Runs (sym g) runs;
            further = none_further going over;
          }
