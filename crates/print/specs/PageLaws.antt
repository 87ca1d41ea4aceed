-- Laws of a page.
-- In order: a copy is std's; it keeps the page's length, and puts the bytes where they go; what fits has room; a line
-- laid keeps the page's length; a text and its end, laid where any line fits, stand there whole.
-- Not here: that every line fits (Shown.antt, and the trace's in crate traced).
-- Assumes nothing.
use Rattle.std.specs.Prelude.{ℕ, zero, suc, ◌+◌, ◌-◌, ◌≤◌, ◌<◌, true, false, ◌≡◌, refl, List, ◌++◌, leb, length, take}
use Rattle.std.specs.Prelude.{get_or, set}
use Rattle.std.proofs.lemmas.Bool.{false≢true}
use Rattle.std.proofs.Common.{sym, ap, ◌∙◌, arith, leb-true, le-leb, length-set, length-append}
use Rattle.std.proofs.Math.Seq.{paste, paste-zero, paste-suc}
use Rattle.std.proofs.lemmas.List.Edits.{take-paste}
use Rattle.word.specs.Base.{pick}
use Rattle.word.specs.Cases.{pick_yes, pick_both, pick_first}
use Rattle.print.specs.Text.{ascii}
use Rattle.print.specs.Line.{line_width, blank_of, put_all, shown, line_of}
use Rattle.print.specs.Laws.{put_both}
use Rattle.print.specs.Shown.{line_shows, line_holds}
use Rattle.print.specs.Page.{copy_of, fits_of, laid_of, after_of}
use Rattle.print.specs.declared.line.Line.{Line}

pub copy_none : (page : List ℕ) (at : ℕ) (bytes : List ℕ) → page ≡ copy_of page at bytes 0
unfolding copy_of
copy_none page at bytes = refl

pub copy_more :
    (page : List ℕ) (at : ℕ) (bytes : List ℕ) (n : ℕ)
    → set (copy_of page at bytes n) (at + n) (get_or bytes n 0) ≡ copy_of page at bytes (n + 1)
unfolding copy_of
copy_more page at bytes n =
    let e : suc n ≡ n + 1 = omega arith in
    ap (copy_of page at bytes) e

-- a copy that fits, as std says it
pub copy_pastes :
    (page : List ℕ) (at : ℕ) (bytes : List ℕ) (n : ℕ) → at + n ≤ length page → n ≤ length bytes
    → paste page at bytes n ≡ copy_of page at bytes n
unfolding copy_of
copy_pastes page at bytes zero h k = sym (paste-zero page at bytes)
copy_pastes page at bytes (suc n) h k =
    sym (paste-suc page at bytes n 0 (omega arith) (omega arith))
    ∙ ap (λ (p : List ℕ). set p (at + n) (get_or bytes n 0)) (copy_pastes page at bytes n (omega arith) (omega arith))

pub copy_length : (page : List ℕ) (at : ℕ) (bytes : List ℕ) (n : ℕ) → length (copy_of page at bytes n) ≡ length page
unfolding copy_of
copy_length page at bytes zero = refl
copy_length page at bytes (suc n) =
    length-set (copy_of page at bytes n) (at + n) (get_or bytes n 0) ∙ copy_length page at bytes n

pub copy_shows :
    (page : List ℕ) (at : ℕ) (bytes : List ℕ) (n : ℕ) → at + n ≤ length page → n ≤ length bytes
    → take (at + n) (copy_of page at bytes n) ≡ take at page ++ take n bytes
copy_shows page at bytes n h k =
    ap (λ (p : List ℕ). take (at + n) p) (sym (copy_pastes page at bytes n h k))
    ∙ take-paste page at bytes n (omega arith) k

pub fits_room : (size at text : ℕ) → fits_of size at text ≡ true → (text ≤ line_width) × (at + text ≤ size)
fits_room size at text e =
    let inside = pick (leb at size) (leb text (size - at)) false in
    let narrow = pick_first (leb text line_width) inside false true false≢true e in
    let start = pick_first (leb at size) (leb text (size - at)) false true false≢true narrow.1 in
    let low = leb-true at size start.0 in
    let room = leb-true text (size - at) start.1 in
    (leb-true text line_width narrow.0, omega (arith, low, room))

pub laid_length : (page : List ℕ) (at : ℕ) (l : Line) → length (laid_of page at l) ≡ length page
laid_length page at l =
    pick_both (λ (p : List ℕ). length p ≡ length page)
    (fits_of (length page) at l.length)
    (copy_of page at l.bytes l.length)
    page
    (λ _. copy_length page at l.bytes l.length)
    (λ _. refl)

-- a text and its end, where any line fits
module _
    (page : List ℕ) (at : ℕ) (xs : List ℕ)
    (room : at + line_width ≤ length page)
    (short : length xs < line_width)
  where
    abbrev ended : Line
    ended = put_all (line_of xs) (ascii "\n")

    text : ended ≡ line_of (xs ++ ascii "\n")
    text = put_both blank_of xs (ascii "\n")

    size : length (xs ++ ascii "\n") ≡ length xs + 1
    size = length-append xs (ascii "\n")

    abbrev whole : Line
    whole = line_of (xs ++ ascii "\n")

    holds : (whole.length ≡ length xs + 1) × (length whole.bytes ≡ line_width)
    holds = let h = line_holds (xs ++ ascii "\n") (omega (arith, size)) in (h.0 ∙ size, h.1)

    pub ended_length : ended.length ≡ length xs + 1
    ended_length = ap (λ (l : Line). l.length) text ∙ holds.0

    fits : fits_of (length page) at ended.length ≡ true
    fits =
        let narrow = le-leb ended.length line_width (omega (arith, ended_length)) in
        let start = le-leb at (length page) (omega arith) in
        let rest = le-leb ended.length (length page - at) (omega (arith, ended_length)) in
        simp (narrow, start, rest)

    pub laid_after : after_of (length page) at ended ≡ at + (length xs + 1)
    laid_after = sym (pick_yes _ _ _ _ fits refl) ∙ ap (λ (n : ℕ). at + n) ended_length

    pub laid_shows : take (at + (length xs + 1)) (laid_of page at ended) ≡ take at page ++ (xs ++ ascii "\n")
    laid_shows =
        let wide : length ended.bytes ≡ line_width = ap (λ (l : Line). length l.bytes) text ∙ holds.1 in
        let all = ap shown text ∙ line_shows (xs ++ ascii "\n") (omega (arith, size)) in
        let fill : at + ended.length ≤ length page = omega (arith, ended_length) in
        let held : ended.length ≤ length ended.bytes = omega (arith, ended_length, wide) in
        let copied = copy_shows page at ended.bytes ended.length fill held in
        ap (λ (n : ℕ). take (at + n) (laid_of page at ended)) (sym ended_length)
        ∙ ap (λ (p : List ℕ). take (at + ended.length) p) (sym (pick_yes _ _ _ _ fits refl))
        ∙ copied
        ∙ ap (λ (l : List ℕ). take at page ++ l) all
