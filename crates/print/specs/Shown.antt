-- What a line shows: the text that it is made of, where that fits; that a number's digits are its own; and that
-- document 01's lines fit, with their ends. Assumes nothing.
use Rattle.std.specs.Prelude.{ℕ, zero, suc, ◌+◌, ◌-◌, ◌*◌, ◌/◌, ◌%◌, ◌^◌, ◌≤◌, ◌<◌, ◌≡◌, refl, List, [], ◌∷◌, ◌++◌}
use Rattle.std.specs.Prelude.{length, take, set, Option, Some, None, Result, Ok, Err}
use Rattle.std.proofs.Common.{sym, ap, ◌∙◌, append-nil, pow-suc, arith, lt-ltb, length-set, length-append, take-suc-set}
use Rattle.std.proofs.Math.Decide.{dec_lt}
use Rattle.std.proofs.Math.Nat.{pow-zero}
use Rattle.std.proofs.Math.Seq.{append_snoc}
use Rattle.word.specs.Cases.{pick_yes}
use Rattle.word.specs.declared.flags.Word.{Word}
use Rattle.word.specs.declared.number.ThreadNumber.{ThreadNumber}
use Rattle.state.specs.Answer.{answer_word, refusal_number}
use Rattle.state.specs.declared.answer.Answer.{Answer}
use Rattle.state.specs.declared.answer.Answer.TheVariants.{Begun, Went, Done, Yes, No}
use Rattle.schedule.specs.File.{file_number}
use Rattle.schedule.specs.declared.whole.FileStop.{FileStop}
use Rattle.schedule.specs.declared.whole.FileStop.TheVariants as Stop
use Rattle.print.specs.Text.{ascii, decimal_by, decimal}
use Rattle.print.specs.Line.{line_width, blank_of, put_of, put_all, shown, line_of}
use Rattle.print.specs.Laws.{digits_none, digits_one, digits_more}
use Rattle.print.specs.Replayed.{woken_text, event_text, refused_text}
use Rattle.print.specs.Whole.{stop_text}
use Rattle.print.specs.declared.line.Line.{Line}

-- ── a line's text ──

put_fits :
    (l : Line) (b : ℕ) → l.length < line_width
    → put_of l b ≡ record { bytes = set l.bytes l.length b; length = l.length + 1 }
put_fits l b h = sym (pick_yes _ _ _ _ (lt-ltb l.length line_width h) refl)

-- one byte more
shown_byte :
    (l : Line) (b : ℕ) → length l.bytes ≡ line_width → l.length < line_width
    → shown (put_of l b) ≡ shown l ++ (b ∷ [])
shown_byte l b w h =
    let e : l.length + 1 ≡ suc l.length = omega arith in
    ap shown (put_fits l b h)
    ∙ ap (λ (k : ℕ). take k (set l.bytes l.length b)) e
    ∙ take-suc-set l.bytes l.length b (omega (arith, w, h))

-- a byte more, in as many as before
put_wide :
    (l : Line) (b : ℕ) → length l.bytes ≡ line_width → l.length < line_width
    → length (put_of l b).bytes ≡ line_width
put_wide l b w h = ap (λ (k : Line). length k.bytes) (put_fits l b h) ∙ length-set l.bytes l.length b ∙ w

pub shown_text :
    (xs : List ℕ) (l : Line) → length l.bytes ≡ line_width → l.length + length xs ≤ line_width
    → shown (put_all l xs) ≡ shown l ++ xs
unfolding put_all
shown_text [] l w h = sym (append-nil (shown l))
shown_text (x ∷ xs) l w h =
    let room : l.length < line_width = omega (arith, h) in
    let next = put_fits l x room in
    let wide = put_wide l x w (omega (arith, h)) in
    let long : (put_of l x).length ≡ l.length + 1 = ap (λ (k : Line). k.length) next in
    shown_text xs (put_of l x) wide (omega (arith, h, long))
    ∙ ap (λ (s : List ℕ). s ++ xs) (shown_byte l x w room)
    ∙ append_snoc (shown l) x xs

-- a line of a text shows that text
pub line_shows : (xs : List ℕ) → length xs ≤ line_width → shown (line_of xs) ≡ xs
line_shows xs h = shown_text xs _ refl (omega (arith, h))

-- so many bytes more, in as many as before
put_holds :
    (xs : List ℕ) (l : Line) → length l.bytes ≡ line_width → l.length + length xs ≤ line_width
    → ((put_all l xs).length ≡ l.length + length xs) × (length (put_all l xs).bytes ≡ line_width)
unfolding put_all
put_holds [] l w h = (omega arith, w)
put_holds (x ∷ xs) l w h =
    let next = put_fits l x (omega (arith, h)) in
    let wide = put_wide l x w (omega (arith, h)) in
    let long : (put_of l x).length ≡ l.length + 1 = ap (λ (k : Line). k.length) next in
    let rest = put_holds xs (put_of l x) wide (omega (arith, h, long)) in
    (omega (arith, rest.0, long), rest.1)

-- a line of a text has its length, in bytes of a line
pub line_holds :
    (xs : List ℕ) → length xs ≤ line_width
    → ((line_of xs).length ≡ length xs) × (length (line_of xs).bytes ≡ line_width)
line_holds xs h =
    let held = put_holds xs blank_of refl (omega (arith, h)) in
    (omega (arith, held.0), held.1)

-- ── a number's digits ──

abbrev pub value_from : ℕ → List ℕ → ℕ
value_from so_far [] = so_far
value_from so_far (d ∷ ds) = value_from (10 * so_far + (d - 48)) ds

value_end : (xs : List ℕ) (so_far d : ℕ) → value_from so_far (xs ++ (d ∷ [])) ≡ 10 * value_from so_far xs + (d - 48)
value_end [] so_far d = refl
value_end (x ∷ xs) so_far d = value_end xs (10 * so_far + (x - 48)) d

-- the digits of a number below 10 to their places are the number's
pub digits_value : (places n : ℕ) → n < 10 ^ places → value_from 0 (decimal_by places n) ≡ n
digits_value zero n h =
    let none : n ≡ 0 = omega (arith, h, pow-zero 10) in
    ap (value_from 0) (sym (digits_none 0 n refl)) ∙ sym none
digits_value (suc places) n h = by (dec_lt n 10) (digits_value places (n / 10))
  where
    by :
        Dec (n < 10) → (n / 10 < 10 ^ places → value_from 0 (decimal_by places (n / 10)) ≡ n / 10)
        → value_from 0 (decimal_by (suc places) n) ≡ n
    by (yes few) rest =
        let last : 10 * 0 + (48 + n - 48) ≡ n = omega arith in
        ap (value_from 0) (sym (digits_one (suc places) n (omega arith) few)) ∙ last
    by (no many) rest =
        let less : suc places - 1 ≡ places = omega arith in
        let below : n / 10 < 10 ^ places = omega (arith, h, pow-suc 10 places) in
        let front = ap (λ (p : ℕ). value_from 0 (decimal_by p (n / 10))) less ∙ rest below in
        let whole : 10 * (n / 10) + (48 + n % 10 - 48) ≡ n = omega arith in
        ap (value_from 0) (sym (digits_more (suc places) n (omega arith) (omega (arith, many))))
        ∙ value_end (decimal_by (suc places - 1) (n / 10)) 0 (48 + n % 10)
        ∙ ap (λ (v : ℕ). 10 * v + (48 + n % 10 - 48)) front
        ∙ whole

-- so are those of every 64-bit number
pub decimal_value : (n : ℕ) → n < 2 ^ 64 → value_from 0 (decimal n) ≡ n
decimal_value n h = digits_value 20 n (omega (arith, h))

-- ── document 01's line fits ──

pub digits_few : (places n : ℕ) → length (decimal_by places n) ≤ places
digits_few zero n = omega (arith, ap length (sym (digits_none 0 n refl)))
digits_few (suc places) n = by (dec_lt n 10) (digits_few places (n / 10))
  where
    by : Dec (n < 10) → length (decimal_by places (n / 10)) ≤ places → length (decimal_by (suc places) n) ≤ suc places
    by (yes few) rest = omega (arith, ap length (sym (digits_one (suc places) n (omega arith) few)))
    by (no many) rest =
        let e : suc places - 1 ≡ places = omega arith in
        let front : length (decimal_by (suc places - 1) (n / 10)) ≤ places = rw e rest in
        let both = length-append (decimal_by (suc places - 1) (n / 10)) ((48 + n % 10) ∷ []) in
        omega (arith, ap length (sym (digits_more (suc places) n (omega arith) (omega (arith, many)))), front, both)

answer_short : (a : Answer) → length (answer_word a) ≤ 5
answer_short Begun = omega arith
answer_short Went = omega arith
answer_short Done = omega arith
answer_short Yes = omega arith
answer_short No = omega arith

woken_short : (w : Option ThreadNumber) → length (woken_text w) ≤ 20
woken_short None = omega arith
woken_short (Some t) = digits_few 20 t.0

-- a digit is one
pub digit_one : (n : ℕ) → n < 10 → length (decimal n) ≡ 1
digit_one n h = ap length (sym (digits_one 20 n (omega arith) h))

-- a text, a space and a text
spaced : (xs ys : List ℕ) (a b : ℕ) → length xs ≤ a → length ys ≤ b → length (xs ++ ascii " " ++ ys) ≤ a + 1 + b
spaced xs ys a b h k = omega (arith, h, k, length-append (xs ++ ascii " ") ys, length-append xs (ascii " "))

module _ (at : ℕ) (thread : ThreadNumber) (answer : Answer) (woken : Option ThreadNumber) (word : Word) where
  pub event_text_short : length (event_text at thread answer woken word) ≤ 89
  event_text_short =
      let threaded = decimal at ++ ascii " " ++ decimal thread.0 in
      let answered = threaded ++ ascii " " ++ answer_word answer in
      let woke = answered ++ ascii " " ++ woken_text woken in
      let a = spaced (decimal at) (decimal thread.0) 20 20 (digits_few 20 at) (digits_few 20 thread.0) in
      let b = spaced threaded (answer_word answer) 41 5 a (answer_short answer) in
      let c = spaced answered (woken_text woken) 47 20 b (woken_short woken) in
      spaced woke (decimal word.0) 68 20 c (digits_few 20 word.0)

  pub event_text_fits : length (event_text at thread answer woken word) ≤ line_width
  event_text_fits = omega (arith, event_text_short)

pub refused_text_short : (number : ℕ) → length (refused_text number) ≤ 28
refused_text_short number = omega (arith, digits_few 20 number, length-append (ascii "refused ") (decimal number))

pub stop_text_short : (run : ℕ) (stop : Result (Unit {0}) FileStop) → length (stop_text run stop) ≤ 28
stop_text_short run (Ok ran) = omega (arith, digits_few 20 run, length-append (ascii "end ") (decimal run))
stop_text_short run (Err (Stop.Refused refusal)) = refused_text_short (refusal_number refusal)
stop_text_short run (Err (Stop.File refusal)) = refused_text_short (file_number refusal)
