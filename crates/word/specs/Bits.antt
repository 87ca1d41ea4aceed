-- One flag of a number, for any flag f: testing it, adding it, taking it off, and what a change of it leaves as it was.
--     at_least, room      what a number with the flag has, and one without has room for
--     But f n m           n and m are equal but for the flag f
--     added, taken_off    adding the flag, and taking it off, changes nothing but the flag
--     on, off             the flag after it
--     higher, lower       what is equal but for a flag has the same part above it, and the same flags below it
-- Assumes nothing.
use Rattle.std.specs.Prelude.{ℕ, ◌+◌, ◌-◌, ◌*◌, ◌/◌, ◌%◌, ◌≤◌, ◌<◌, ◌≡◌}
use Rattle.std.proofs.Common.{sym, ap, ◌∙◌, one-mul, mul_assoc, mul_comm, div-lt_iff_lt-mul, le-div_iff_mul-le, arith}
use Rattle.std.proofs.Math.Nat.{add-div_right, add-mod_right, div-eq-sub-div, mod-eq-sub-mod, mod-add-div}
use Rattle.std.proofs.Math.Nat.{div-div-eq-div-mul, add-mul-div_left}

pub record But (f n m : ℕ) : Type 0 where
  pub above : n / f / 2 ≡ m / f / 2
  pub below : n % f ≡ m % f

module _ (f n : ℕ) (some : 0 < f) where
  -- a number with the flag is at least the flag
  pub at_least : n / f % 2 ≡ 1 → f ≤ n
  at_least odd = rw one-mul at ((le-div_iff_mul-le {k = f} {x = 1} {y = n} some).0 (omega arith))

  -- below an even multiple of the flag, a number without the flag has room for it
  pub room : (k : ℕ) → (n / f % 2 ≡ 1 → ⊥) → n < f * 2 * k → n + f < f * 2 * k
  room k even h =
      let q : n / f < 2 * k = (div-lt_iff_lt-mul some).1 (rw (mul_assoc, mul_comm f) at h) in
      let e : (n + f) / f ≡ n / f + 1 = add-div_right n some in
      rw (mul_assoc, mul_comm f) ((div-lt_iff_lt-mul some).0 (omega arith))

  pub on : (n / f % 2 ≡ 1 → ⊥) → (n + f) / f % 2 ≡ 1
  on even = omega (arith, add-div_right n some)

  pub off : n / f % 2 ≡ 1 → (n - f) / f % 2 ≡ 1 → ⊥
  off odd again = omega (arith, div-eq-sub-div some (at_least odd))

  pub added : (n / f % 2 ≡ 1 → ⊥) → But f (n + f) n
  added even = record { above = omega (arith, add-div_right n some); below = add-mod_right n f }

  pub taken_off : n / f % 2 ≡ 1 → But f (n - f) n
  taken_off odd =
      record {
        above = omega (arith, div-eq-sub-div some (at_least odd));
        below = sym (mod-eq-sub-mod (at_least odd));
      }

-- the part above a flag
pub higher : (f g k n m : ℕ) → f * 2 * k ≡ g → But f n m → n / g ≡ m / g
higher f g k n m is but = rw (← is) (simp (← div-div-eq-div-mul, but.above))

-- a flag g below f is one of the remainder
low : (f g k n : ℕ) → g * 2 * k ≡ f → 0 < g → n / g % 2 ≡ n % f / g % 2
low f g k n is some =
    let whole : n % f + g * (2 * (k * (n / f))) ≡ n = simp (← mul_assoc, is) (mod-add-div n f) in
    let parts : n / g ≡ n % f / g + 2 * (k * (n / f)) =
    rw whole at (add-mul-div_left (n % f) (2 * (k * (n / f))) some) in
    omega arith

pub lower : (f g k n m : ℕ) → g * 2 * k ≡ f → 0 < g → But f n m → n / g % 2 ≡ m / g % 2
lower f g k n m is some but = low f g k n is some ∙ ap (λ (r : ℕ). r / g % 2) but.below ∙ sym (low f g k m is some)
