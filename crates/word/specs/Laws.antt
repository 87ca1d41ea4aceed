-- What setting and clearing a flag does to a word, for every flag, and what the rules do to it.
--     flag, apart              a flag of the word, and two that are not one
--     flag_least, flag_room    a word with a flag is at least the flag; one without has room for it
--     set_has, clear_has       a flag that was set is set, one that was cleared is clear
--     set_keeps, clear_keeps   every other flag stays, as
--                              `set_keeps LOCKED QUEUED refl w : queued (set_locked w) ≡ queued w`
--     set_node, clear_node     and so does the number
--     read_lock_.., write_lock_.., read_unlock_.., registered_.., taken_..    what the rule of that name does
-- Assumes nothing.
use Rattle.std.specs.Prelude.{ℕ, zero, suc, ◌+◌, ◌-◌, ◌*◌, ◌/◌, ◌%◌, ◌^◌, ◌≤◌, ◌<◌, Bool, true, false, ◌&&◌, ◌||◌, ◌⊎◌}
use Rattle.std.specs.Prelude.{◌≡◌, refl, ltb, leb, eqb, Some, None}
use Rattle.std.proofs.Math.Bool.{and-eq-true_iff}
use Rattle.std.proofs.Common.{inl, inr, ⊎_elim, sym, ap, mul_assoc, arith, eqb-true, eq-eqb, ne_eqb, leb-false}
use Rattle.std.proofs.Common.{ltb-false}
use Rattle.std.proofs.Math.Nat.{mul-div_cancel', dvd_of_mod-eq-zero}
use Rattle.std.proofs.lemmas.Bool.{eqb-false}
use Rattle.word.specs.Base.{pick}
use Rattle.word.specs.Bits.{at_least, room, on, off, But, added, taken_off, higher, lower}
use Rattle.word.specs.Cases.{pick_no, pick_both, pick_first, pick_second}
use Rattle.word.specs.Number.{node, node_of}
use Rattle.word.specs.Flags.{word, LOCKED, QUEUED, QUEUE_LOCKED, DOWNGRADED, SINGLE, has}
use Rattle.word.specs.Flags.{set_flag, clear_flag, to_node, locked, queued, queue_locked}
use Rattle.word.specs.Flags.{downgraded, set_locked, clear_locked, clear_downgraded}
use Rattle.word.specs.Rules.{read_lock_of, write_lock_of, read_unlock_of, registered_of, taken_of, fewer}
use Rattle.word.specs.declared.number.ThreadNumber.{ThreadNumber}
use Rattle.word.specs.declared.flags.Word.{Word}
use Rattle.word.specs.declared.rules.ReadUnlocked.{ReadUnlocked}
use Rattle.word.specs.declared.rules.ReadUnlocked.TheVariants.{To as UnlockTo, Contended}
use Rattle.word.specs.declared.rules.ReadUnlocked.TheVariants.{Refused as UnlockRefused}

-- does d divide n
abbrev divides : ℕ → ℕ → Bool
divides d n = eqb (n % d) 0

divided : (d n : ℕ) → divides d n ≡ true → d * (n / d) ≡ n
divided d n t = mul-div_cancel' d (dvd_of_mod-eq-zero d (eqb-true (n % d) 0 t))

-- the flags are the numbers whose double divides 16: 1, 2, 4 and 8
abbrev pub flag : ℕ → Bool
flag f = divides (f * 2) SINGLE

-- of two flags the double of one divides the other
abbrev pub apart : ℕ → ℕ → Bool
apart f g = flag f && (flag g && (divides (f * 2) g || divides (g * 2) f))

some : (f : ℕ) → flag f ≡ true → 0 < f
some zero t = cc
some (suc f) t = omega arith

-- a word with the flag is at least the flag
pub flag_least : (f : ℕ) → flag f ≡ true → (w : Word) → has f w ≡ true → f ≤ w.0
flag_least f t w h = at_least f w.0 (some f t) (eqb-true (w.0 / f % 2) 1 h)

-- a word without the flag has room for it
pub flag_room : (f : ℕ) → flag f ≡ true → (w : Word) → has f w ≡ false → w.0 < 2 ^ 64 → w.0 + f < 2 ^ 64
flag_room f t w h b =
    let top : f * 2 * (SINGLE / (f * 2) * 2 ^ 60) ≡ 2 ^ 64 = rw (← mul_assoc, divided (f * 2) SINGLE t) in
    rw top at (room f w.0 (some f t) (SINGLE / (f * 2) * 2 ^ 60) (eqb-false (w.0 / f % 2) 1 h) (rw top b))

module _ (P : Word → Type 0) (f : ℕ) (w : Word) where
  -- a word with a flag set: as it was, or the flag added
  set_cases : (w.0 / f % 2 ≡ 1 → P w) → ((w.0 / f % 2 ≡ 1 → ⊥) → P (word (w.0 + f))) → P (set_flag f w)
  set_cases set clear =
      pick_both P (has f w) w (word (w.0 + f)) (λ h. set (eqb-true _ 1 h)) (λ h. clear (eqb-false _ 1 h))

  -- a word with a flag cleared: the flag taken off, or as it was
  clear_cases : (w.0 / f % 2 ≡ 1 → P (word (w.0 - f))) → ((w.0 / f % 2 ≡ 1 → ⊥) → P w) → P (clear_flag f w)
  clear_cases set clear =
      pick_both P (has f w) (word (w.0 - f)) w (λ h. set (eqb-true _ 1 h)) (λ h. clear (eqb-false _ 1 h))

module _ (f : ℕ) (t : flag f ≡ true) (w : Word) where
  -- a flag that was set is set
  pub set_has : has f (set_flag f w) ≡ true
  set_has = set_cases (λ x. has f x ≡ true) f w (eq-eqb _ 1) (λ clear. eq-eqb _ 1 (on f w.0 (some f t) clear))

  -- a flag that was cleared is clear
  pub clear_has : has f (clear_flag f w) ≡ false
  clear_has = clear_cases (λ x. has f x ≡ false) f w (λ set. ne_eqb _ 1 (off f w.0 (some f t) set)) (ne_eqb _ 1)

  -- setting a flag, and clearing it, changes nothing but the flag
  set_but : But f (set_flag f w).0 w.0
  set_but =
      set_cases (λ x. But f x.0 w.0) f w (λ _. record { above = refl; below = refl }) (added f w.0 (some f t))

  clear_but : But f (clear_flag f w).0 w.0
  clear_but =
      clear_cases (λ x. But f x.0 w.0) f w (taken_off f w.0 (some f t))
      (λ _. record { above = refl; below = refl })

  -- clearing a flag that is set makes the word less
  clear_less : has f w ≡ true → (clear_flag f w).0 < w.0
  clear_less h =
      clear_cases (λ x. x.0 < w.0) f w
      (λ _. omega (arith, some f t, flag_least f t w h))
      (λ clear. absurd (clear (eqb-true _ 1 h)))

either : (a b : Bool) → (a || b) ≡ true → (a ≡ true) ⊎ (b ≡ true)
either true b e = inl refl
either false b e = inr e

-- what is equal but for a flag has the same other flags
but_keeps : (f g : ℕ) → apart f g ≡ true → (x w : Word) → But f x.0 w.0 → has g x ≡ has g w
but_keeps f g t x w but =
    let flags = (and-eq-true_iff (flag f) (flag g && (divides (f * 2) g || divides (g * 2) f))).0 t in
    let second = (and-eq-true_iff (flag g) (divides (f * 2) g || divides (g * 2) f)).0 flags.1 in
    ap (λ (r : ℕ). eqb r 1)
    (⊎_elim
    (λ (above : divides (f * 2) g ≡ true). ap (λ (q : ℕ). q % 2)
    (higher f g (g / (f * 2)) x.0 w.0 (divided (f * 2) g above) but))
    (λ (below : divides (g * 2) f ≡ true). lower f g (f / (g * 2)) x.0 w.0 (divided (g * 2) f below)
    (some g second.0) but)
    (either (divides (f * 2) g) (divides (g * 2) f) second.1))

-- and the same number
but_node : (f : ℕ) → flag f ≡ true → (x w : Word) → But f x.0 w.0 → to_node x ≡ to_node w
but_node f t x w but = ap node (higher f SINGLE (SINGLE / (f * 2)) x.0 w.0 (divided (f * 2) SINGLE t) but)

module _ (f g : ℕ) (t : apart f g ≡ true) (w : Word) where
  own : flag f ≡ true
  own = ((and-eq-true_iff (flag f) (flag g && (divides (f * 2) g || divides (g * 2) f))).0 t).0

  pub set_keeps : has g (set_flag f w) ≡ has g w
  set_keeps = but_keeps f g t (set_flag f w) w (set_but f own w)

  pub clear_keeps : has g (clear_flag f w) ≡ has g w
  clear_keeps = but_keeps f g t (clear_flag f w) w (clear_but f own w)

module _ (f : ℕ) (t : flag f ≡ true) (w : Word) where
  pub set_node : to_node (set_flag f w) ≡ to_node w
  set_node = but_node f t (set_flag f w) w (set_but f t w)

  pub clear_node : to_node (clear_flag f w) ≡ to_node w
  clear_node = but_node f t (clear_flag f w) w (clear_but f t w)

module _ (f : ℕ) (w : Word) where
  -- setting a flag adds at most the flag, and clearing it adds nothing
  set_up : w.0 ≤ (set_flag f w).0
  set_up = set_cases (λ x. w.0 ≤ x.0) f w (λ _. omega arith) (λ _. omega arith)

  set_most : (set_flag f w).0 ≤ w.0 + f
  set_most = set_cases (λ x. x.0 ≤ w.0 + f) f w (λ _. omega arith) (λ _. omega arith)

  clear_down : (clear_flag f w).0 ≤ w.0
  clear_down = clear_cases (λ x. x.0 ≤ w.0) f w (λ _. omega arith) (λ _. omega arith)

fewer_less : (w : Word) → SINGLE + LOCKED ≤ w.0 → (fewer w).0 < w.0
fewer_less w b =
    let less : Word = word (w.0 - (SINGLE + LOCKED)) in
    pick_both (λ (x : Word). x.0 < w.0) (eqb less.0 0) (word 0) (set_locked less)
    (λ none. omega arith)
    (λ more. omega (arith, set_most LOCKED less))

-- where read_lock does not refuse, and what it makes of the word
pub record ReadGranted (w x : Word) : Type 0 where
  pub unqueued : queued w ≡ false
  pub unwritten : w.0 ≡ LOCKED → ⊥
  pub fits : w.0 + SINGLE < 2 ^ 64
  pub to : x ≡ set_locked (word (w.0 + SINGLE))

module _ (w x : Word) where
  refusal : None ≡ Some x → ⊥
  refusal e = cc

  unlock_refusal : UnlockRefused ≡ UnlockTo x → ⊥
  unlock_refusal e = cc

  contention : Contended ≡ UnlockTo x → ⊥
  contention e = cc

  pub read_lock_granted : read_lock_of w ≡ Some x → ReadGranted w x
  read_lock_granted e =
      let q = pick_second (queued w) _ _ _ refusal e in
      let l = pick_second (eqb w.0 LOCKED) _ _ _ refusal q.1 in
      let m = pick_second (leb (2 ^ 64) (w.0 + SINGLE)) _ _ _ refusal l.1 in
      record {
        unqueued = q.0;
        unwritten = eqb-false w.0 LOCKED l.0;
        fits = leb-false (2 ^ 64) (w.0 + SINGLE) m.0;
        to = cc m.1;
      }

  -- a granted read makes the word greater
  pub read_lock_more : read_lock_of w ≡ Some x → w.0 < x.0
  read_lock_more e = rw (read_lock_granted e).to (omega (arith, set_up LOCKED (word (w.0 + SINGLE))))

  -- a granted write adds LOCKED, which was clear
  pub write_lock_granted : write_lock_of w ≡ Some x → (locked w ≡ false) × (x ≡ word (w.0 + LOCKED))
  write_lock_granted e =
      let l = pick_second (locked w) _ _ _ refusal e in
      (l.0, cc (l.1, pick_no (locked w) (word (w.0 + LOCKED)) w _ l.0 refl))

  -- a retracted downgrade, and a reader that leaves the word, make it less
  retracted_less : pick (downgraded w) (UnlockTo (clear_locked (clear_downgraded w))) Contended ≡ UnlockTo x → x.0 < w.0
  retracted_less e =
      let d = pick_first (downgraded w) _ _ _ contention e in
      let is : x ≡ clear_locked (clear_downgraded w) = cc d.1 in
      rw is (omega (arith, clear_down LOCKED (clear_downgraded w), clear_less DOWNGRADED refl w d.0))

  left_less : pick (ltb w.0 (SINGLE + LOCKED)) UnlockRefused (UnlockTo (fewer w)) ≡ UnlockTo x → x.0 < w.0
  left_less e =
      let b = pick_second (ltb w.0 (SINGLE + LOCKED)) _ _ _ unlock_refusal e in
      let is : x ≡ fewer w = cc b.1 in
      rw is (fewer_less w (ltb-false w.0 (SINGLE + LOCKED) b.0))

  pub read_unlock_less : read_unlock_of w ≡ UnlockTo x → x.0 < w.0
  read_unlock_less e =
      pick_both (λ (r : ReadUnlocked). r ≡ UnlockTo x → x.0 < w.0) (queued w) _ _
      (λ _. retracted_less) (λ _. left_less) e

-- a flag that is kept or left out, as a multiple
bit : Bool → ℕ
bit b = pick b 1 0

bit_most : (b : Bool) → bit b ≤ 1
unfolding bit
bit_most true = omega arith
bit_most false = omega arith

bit_test : (b : Bool) (n : ℕ) → n ≡ bit b → eqb n 1 ≡ b
unfolding bit
bit_test true n e = eq-eqb n 1 e
bit_test false n e = ne_eqb n 1 (λ one. omega arith)

bit_times : (b : Bool) (f : ℕ) → pick b f 0 ≡ f * bit b
unfolding bit
bit_times true f = omega arith
bit_times false f = omega arith

-- the word that registers a node: the node, QUEUED, and each flag from where document 01 takes it
module _ (w : Word) (me : ThreadNumber) where
  sum : (registered_of w me).0
      ≡ (me.0 + 1) * SINGLE
      + (QUEUED + DOWNGRADED * bit (downgraded w) + LOCKED * bit (locked w) + QUEUE_LOCKED * bit (queued w))
  sum = simp (bit_times (downgraded w) DOWNGRADED, bit_times (locked w) LOCKED, bit_times (queued w) QUEUE_LOCKED)

  most : (bit (downgraded w) ≤ 1) × (bit (locked w) ≤ 1) × (bit (queued w) ≤ 1)
  most = (bit_most (downgraded w), bit_most (locked w), bit_most (queued w))

  pub registered_node : to_node (registered_of w me) ≡ node_of me
  registered_node = ap node (omega (arith, sum, most))

  pub registered_queued : queued (registered_of w me) ≡ true
  registered_queued = eq-eqb ((registered_of w me).0 / QUEUED % 2) 1 (omega (arith, sum, most))

  pub registered_locked : locked (registered_of w me) ≡ locked w
  registered_locked = bit_test (locked w) ((registered_of w me).0 / LOCKED % 2) (omega (arith, sum, most))

  pub registered_downgraded : downgraded (registered_of w me) ≡ downgraded w
  registered_downgraded = bit_test (downgraded w) ((registered_of w me).0 / DOWNGRADED % 2) (omega (arith, sum, most))

  pub registered_queue_locked : queue_locked (registered_of w me) ≡ queued w
  registered_queue_locked = bit_test (queued w) ((registered_of w me).0 / QUEUE_LOCKED % 2) (omega (arith, sum, most))

-- a queue taken whole leaves neither QUEUED nor, unless it was downgraded, LOCKED
pub taken_queued : (w : Word) → queued (taken_of w) ≡ false
taken_queued w = pick_both (λ x. queued x ≡ false) (downgraded w) _ _ (λ _. refl) (λ _. refl)

pub taken_locked : (w : Word) → locked (taken_of w) ≡ downgraded w
taken_locked w = pick_both (λ x. locked x ≡ downgraded w) (downgraded w) _ _ (λ h. sym h) (λ h. sym h)
