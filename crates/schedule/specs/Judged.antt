-- The file's check in words: each refusal exactly on its condition, where those before it do not hold.
-- Assumes nothing.
use Rattle.std.specs.Prelude.{ℕ, ◌+◌, ◌-◌, ◌*◌, ◌%◌, ◌<◌, ◌≤◌, true, false, List, Result, Ok, Err, ◌≡◌}
use Rattle.std.specs.Prelude.{T, leb, eqb, length, get_or}
use Rattle.std.proofs.Common.{sym, subst, ◌∙◌, arith, leb-true, leb-false, eqb-true, eq-eqb}
use Rattle.std.proofs.lemmas.Bool.{eqb-false}
use Rattle.word.specs.Cases.{pick_both, pick_first}
use Rattle.state.specs.Machine.{good_count}
use Rattle.schedule.specs.File.{file_version, counted_from, header_length, event_width, event_limit, stated_length}
use Rattle.schedule.specs.File.{right_length, threads_in, events_in, unless, head_of, checked_of}
use Rattle.schedule.specs.declared.file.FileRefusal.{FileRefusal}
use Rattle.schedule.specs.declared.file.FileRefusal.TheVariants.{TooShort, Version, Length, Threads, TooMany}
use Rattle.schedule.specs.declared.file.Head.{Head}

not_both : false ≡ true → ⊥
not_both e = subst T (sym e) tt

module _ (s : List ℕ) where
  -- the size less 5, and odd
  abbrev pub Odd : Type 0
  Odd = (stated_length s ≡ length s - counted_from) × (stated_length s % event_width ≡ 1)

  -- what holds once a check is passed, with those before it
  pub record Versioned : Type 0 where
    pub sized : header_length ≤ length s
    pub version : get_or s 0 0 ≡ file_version

  pub record Measured : Type 0 where
    pub versioned : Versioned
    pub odd : Odd
    pub whole : length s ≡ header_length + event_width * events_in s

  pub record Peopled : Type 0 where
    pub measured : Measured
    pub threads : good_count (threads_in s) ≡ true

  pub data Judged : Result Head FileRefusal → Type 0 where
    too_short : length s < header_length → Judged (Err TooShort)
    version : header_length ≤ length s → (get_or s 0 0 ≡ file_version → ⊥) → Judged (Err Version)
    length_wrong : Versioned → (Odd → ⊥) → Judged (Err Length)
    threads_wrong : Measured → good_count (threads_in s) ≡ false → Judged (Err Threads)
    too_many : Peopled → event_limit < events_in s → Judged (Err TooMany)
    accepted : Peopled → events_in s ≤ event_limit → Judged (Ok (head_of s))

  by_count : Peopled → Judged (unless (leb (events_in s) event_limit) TooMany (Ok (head_of s)))
  by_count p =
      pick_both Judged
      (leb (events_in s) event_limit)
      (Ok (head_of s))
      (Err TooMany)
      (λ e. accepted p (leb-true (events_in s) event_limit e))
      (λ e. too_many p (leb-false (events_in s) event_limit e))

  abbrev counted : Result Head FileRefusal
  counted = unless (leb (events_in s) event_limit) TooMany (Ok (head_of s))

  by_threads : Measured → Judged (unless (good_count (threads_in s)) Threads counted)
  by_threads p =
      pick_both Judged
      (good_count (threads_in s))
      counted
      (Err Threads)
      (λ e. by_count (record { measured = p; threads = e }))
      (λ e. threads_wrong p e)

  abbrev peopled : Result Head FileRefusal
  peopled = unless (good_count (threads_in s)) Threads counted

  odd_true : right_length s ≡ true → Odd
  odd_true e =
      let p =
      pick_first (eqb (stated_length s) (length s - counted_from))
      (eqb (stated_length s % event_width) (header_length - counted_from)) false true not_both e in
      (eqb-true (stated_length s) (length s - counted_from) p.0, eqb-true (stated_length s % event_width) 1 p.1)

  odd_false : right_length s ≡ false → Odd → ⊥
  odd_false e o =
      not_both (sym e
      ∙ simp (
        eq-eqb (stated_length s) (length s - counted_from) o.0,
        eq-eqb (stated_length s % event_width) 1 o.1,
      ))

  by_length : Versioned → Judged (unless (right_length s) Length peopled)
  by_length p =
      pick_both Judged
      (right_length s)
      peopled
      (Err Length)
      (λ e. by_threads (record {
        versioned = p;
        odd = odd_true e;
        whole = let o = odd_true e in let h = p.sized in omega arith;
      }))
      (λ e. length_wrong p (odd_false e))

  by_version : header_length ≤ length s
      → Judged (unless (eqb (get_or s 0 0) file_version) Version (unless (right_length s) Length peopled))
  by_version h =
      pick_both Judged
      (eqb (get_or s 0 0) file_version)
      (unless (right_length s) Length peopled)
      (Err Version)
      (λ e. by_length (record { sized = h; version = eqb-true (get_or s 0 0) file_version e }))
      (λ e. version h (eqb-false (get_or s 0 0) file_version e))

  pub judged : Judged (checked_of s)
  unfolding checked_of
  judged =
      pick_both Judged
      (leb header_length (length s))
      (unless (eqb (get_or s 0 0) file_version) Version (unless (right_length s) Length peopled))
      (Err TooShort)
      (λ e. by_version (leb-true header_length (length s) e))
      (λ e. too_short (leb-false header_length (length s) e))
