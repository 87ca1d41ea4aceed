-- The contracts of crate print: each public function's result is determined, and of the one that lays a line the page
-- at exit too; and wrong answers that its contract rules out. Lines, the page, document 01's lines. Assumes nothing.
use Rattle.std.specs.Prelude.{ℕ, ◌≡◌, refl, List, [], ◌∷◌, get_or, Err, Option, Some, None}
use Rattle.std.specs.Borrow.{Bor, MutBor}
use contract.Lifetimes.{Lfts}
use Rattle.word.specs.Flags.{word}
use Rattle.word.specs.Number.{thread}
use Rattle.word.specs.declared.flags.Word.{Word}
use Rattle.word.specs.declared.number.ThreadNumber.{ThreadNumber}
use Rattle.state.specs.declared.answer.Answer.{Answer}
use Rattle.state.specs.declared.answer.Answer.TheVariants.{Begun, Went}
use Rattle.state.specs.declared.answer.Refusal.TheVariants.{InsideCall}
use Rattle.schedule.specs.Replay.{after}
use Rattle.schedule.specs.declared.cursor.Moved.{Moved}
use Rattle.print.specs.Line.{blank_of, put_all, line_of}
use Rattle.print.specs.Page.{copy_of}
use Rattle.print.specs.Text.{ascii, decimal_by}
use Rattle.print.specs.declared.line.Line.{Line}
use Rattle.print.proofs.line.Line.blank.Reads as blank_line
use Rattle.print.proofs.line.Line.byte.Reads as put_byte
use Rattle.print.proofs.line.Line.decimal.Reads as put_decimal
use Rattle.print.proofs.line.Line.text.Reads as put_text
use Rattle.print.proofs.page.lay.Reads as lay
use Rattle.print.proofs.replayed.end_line.Reads as end_line
use Rattle.print.proofs.replayed.event_line.Reads as event_line
use Rattle.print.proofs.replayed.refused_line.Reads as refused_line
use Rattle.print.proofs.replayed.step_line.Reads as step_line
use Rattle.contracts.specs.Allowed.{Determined, ◌&◌, Allows, AllowsLent, apart_by, clash, determined, lent, slice}
use Rattle.contracts.specs.Examples.{machine_of}
use Rattle.contracts.specs.Looks.{byte_at}

-- ── lines ──

pub blank_determined : Determined (Allows blank_line.Post tt)
blank_determined = determined

pub blank_shows_its_zeros : Allows blank_line.Post tt (record { bytes = blank_of.bytes; length = 256 }) → ⊥
blank_shows_its_zeros = apart_by (λ l. l.length) refl

pub blank_shows_a_space : Allows blank_line.Post tt (line_of (ascii " ")) → ⊥
unfolding put_all
blank_shows_a_space = apart_by (λ l. l.length) refl

pub byte_determined : (l : Line) (b : ℕ) → Determined (Allows put_byte.Post (l & b & tt))
byte_determined l b = determined

pub byte_puts_nothing : Allows put_byte.Post (blank_of & 65 & tt) blank_of → ⊥
byte_puts_nothing = apart_by (λ l. l.length) refl

pub byte_stores_nothing : Allows put_byte.Post (blank_of & 65 & tt) (record { bytes = blank_of.bytes; length = 1 }) → ⊥
byte_stores_nothing = apart_by (byte_at 0) refl

pub text_determined : (κs : Lfts 1) (l : Line) (s : Bor (List ℕ))
    → Determined (AllowsLent put_text.Post κs (l & s & tt))
text_determined κs l s = determined

pub text_backwards :
    (κs : Lfts 1) → AllowsLent put_text.Post κs (blank_of & slice (ascii "no") & tt) (line_of (ascii "on")) → ⊥
unfolding put_all
text_backwards κs = apart_by (byte_at 0) refl

pub text_leaves_the_last_out :
    (κs : Lfts 1) → AllowsLent put_text.Post κs (blank_of & slice (ascii "no") & tt) (line_of (ascii "n")) → ⊥
unfolding put_all
text_leaves_the_last_out κs = apart_by (λ l. l.length) refl

pub decimal_determined : (l : Line) (n : ℕ) → Determined (Allows put_decimal.Post (l & n & tt))
decimal_determined l n = determined

pub decimal_backwards : Allows put_decimal.Post (blank_of & 10 & tt) (line_of (ascii "01")) → ⊥
unfolding put_all decimal_by
decimal_backwards = apart_by (byte_at 0) refl

pub decimal_of_zero_is_empty : Allows put_decimal.Post (blank_of & 0 & tt) blank_of → ⊥
unfolding put_all decimal_by
decimal_of_zero_is_empty = apart_by (λ l. l.length) refl

-- ── the page ──

pub lay_determined : (κs : Lfts 1) (page p q : MutBor (List ℕ)) (at r s : ℕ) (line : Line)
    → lay.Post κs (page & at & line & tt) r (p & at & line & tt)
    → lay.Post κs (page & at & line & tt) s (q & at & line & tt)
    → (r ≡ s) × (p.now ≡ q.now)
lay_determined κs page p q at r s line a b = (determined r s a.0 b.0, determined p.now q.now a.1 b.1)

-- a page of two bytes, laid at its second
abbrev laid : Lfts 1 → List ℕ → List ℕ → ℕ → Type 0
laid κs text after r =
    lay.Post κs (lent (0 ∷ 0 ∷ []) & 1 & line_of text & tt) r (lent after & 1 & line_of text & tt)

pub lay_past_the_page : (κs : Lfts 1) → laid κs (ascii "no") (0 ∷ 110 ∷ []) 3 → ⊥
unfolding put_all
lay_past_the_page κs a = clash (cc a.0)

pub lay_at_the_start : (κs : Lfts 1) → laid κs (ascii "n") (110 ∷ 0 ∷ []) 2 → ⊥
unfolding put_all copy_of
lay_at_the_start κs a = apart_by (λ page. get_or page 0 0) refl a.1

pub lay_stays_where_it_was : (κs : Lfts 1) → laid κs (ascii "n") (0 ∷ 110 ∷ []) 1 → ⊥
unfolding put_all
lay_stays_where_it_was κs a = clash (cc a.0)

-- ── document 01's lines ──

pub event_line_determined : (at : ℕ) (t : ThreadNumber) (answer : Answer) (woken : Option ThreadNumber) (w : Word)
    → Determined (Allows event_line.Post (at & t & answer & woken & w & tt))
event_line_determined at t answer woken w = determined

pub event_line_leaves_the_woken_out :
    Allows event_line.Post (0 & thread 0 & Went & Some (thread 1) & word 18 & tt)
    (line_of (ascii "0 0 went - 18")) → ⊥
unfolding put_all decimal_by
event_line_leaves_the_woken_out = apart_by (byte_at 9) refl

pub event_line_says_the_woken_node :
    Allows event_line.Post (0 & thread 0 & Went & Some (thread 1) & word 18 & tt)
    (line_of (ascii "0 0 went 2 18")) → ⊥
unfolding put_all decimal_by
event_line_says_the_woken_node = apart_by (byte_at 9) refl

pub event_line_counts_from_one :
    Allows event_line.Post (0 & thread 0 & Begun & None & word 0 & tt) (line_of (ascii "1 0 begun - 0")) → ⊥
unfolding put_all decimal_by
event_line_counts_from_one = apart_by (byte_at 0) refl

pub end_line_determined : (run : ℕ) → Determined (Allows end_line.Post (run & tt))
end_line_determined run = determined

pub end_line_says_refused : Allows end_line.Post (3 & tt) (line_of (ascii "refused 3")) → ⊥
unfolding put_all decimal_by
end_line_says_refused = apart_by (byte_at 0) refl

pub end_line_one_more : Allows end_line.Post (3 & tt) (line_of (ascii "end 4")) → ⊥
unfolding put_all decimal_by
end_line_one_more = apart_by (byte_at 4) refl

pub refused_line_determined : (number : ℕ) → Determined (Allows refused_line.Post (number & tt))
refused_line_determined number = determined

pub refused_line_says_end : Allows refused_line.Post (3 & tt) (line_of (ascii "end 3")) → ⊥
unfolding put_all decimal_by
refused_line_says_end = apart_by (byte_at 0) refl

pub refused_line_without_its_number : Allows refused_line.Post (3 & tt) (line_of (ascii "refused")) → ⊥
unfolding put_all decimal_by
refused_line_without_its_number = apart_by (λ l. l.length) refl

pub step_line_determined : (at : ℕ) (moved : Moved) → Determined (Allows step_line.Post (at & moved & tt))
step_line_determined at moved = determined

-- thread 0's second begin is refused
abbrev refused : Moved
refused =
    record {
      cursor = record { machine = machine_of 1 0 [] []; at = 1 };
      seen = Some (record { code = 1; thread = thread 0; reply = Err InsideCall });
    }

pub step_line_prints_a_refusal_as_the_end : Allows step_line.Post (1 & refused & tt) (line_of (ascii "end 1")) → ⊥
unfolding put_all decimal_by
step_line_prints_a_refusal_as_the_end = apart_by (byte_at 0) refl

pub step_line_prints_the_event_number : Allows step_line.Post (1 & refused & tt) (line_of (ascii "refused 1")) → ⊥
unfolding put_all decimal_by
step_line_prints_the_event_number = apart_by (byte_at 8) refl
