-- Who owns the queue, on a machine that has the invariant: with QUEUE_LOCKED set exactly one thread, else none; and
-- what is set aside is set aside by it. The statement: Statements.antt.
-- Assumes nothing.
use Rattle.std.specs.Prelude.{ℕ, ◌≤◌, Bool, true, false, ◌⊎◌, ◌≢◌, ◌≡◌, refl}
use mathlib.Core.List.Memᴰ
use Rattle.std.proofs.Common.{inl, inr, sym, ap, ◌∙◌, arith}
use Rattle.word.specs.Flags.{queue_locked}
use Rattle.word.specs.declared.number.NodeNumber.{NodeNumber}
use Rattle.state.specs.Machine.{thread_at}
use Rattle.state.specs.declared.machine.Machine.{Machine}
use Rattle.standing.specs.Part.{part_of}
use Rattle.standing.specs.Rouses.{owns_of}
use Rattle.standing.specs.declared.part.Part.{Part}
use Rattle.standing.specs.declared.part.Part.TheVariants.{Apart, Contending, Waiting, Owning, SettingAside}
use Rattle.standing.specs.declared.part.Part.TheVariants.{Walking, Reading, Completing, Releasing}
use Rattle.queue.specs.Sums.{sum_some}
use Rattle.queue.specs.Tests.{never}
use Rattle.queue.specs.Updates.{eq?}
use Rattle.invariant.specs.Table.{about, weight}
use Rattle.invariant.proofs.Exclusion.{inside, one_owner, unowned}
use Rattle.invariant.proofs.Events.{Sound}
use Rattle.safety.specs.Lists.{aside_by}
use Rattle.safety.specs.Parts.{same_part}
use Rattle.safety.specs.Statements.{In, OwnsQueue, OneOwner, Owned}

-- who has set anything aside owns the queue
aside_owns : (m : Machine) (k : NodeNumber) (part : Part) → In k (aside_by m part) → owns_of part ≡ true
aside_owns m k Apart i = absurd (Memᴰ.not-nil i)
aside_owns m k Contending i = absurd (Memᴰ.not-nil i)
aside_owns m k Waiting i = absurd (Memᴰ.not-nil i)
aside_owns m k (Owning _) i = refl
aside_owns m k (SettingAside _ _) i = refl
aside_owns m k (Walking _) i = absurd (Memᴰ.not-nil i)
aside_owns m k (Reading _ _) i = absurd (Memᴰ.not-nil i)
aside_owns m k (Completing _ _ _) i = absurd (Memᴰ.not-nil i)
aside_owns m k Releasing i = absurd (Memᴰ.not-nil i)

weighs : (b : Bool) → 1 ≤ weight b → b ≡ true
weighs true l = refl
weighs false l = absurd (omega (arith, l))

module _ (m : Machine) (ok : Sound m) where
  abbrev owner : ℕ → Bool
  owner t = (about (thread_at m t).place).owner

  owning : (t : ℕ) → OwnsQueue m t → owner t ≡ true
  owning t e = (same_part (thread_at m t).place).owner ∙ e

  one : (t : ℕ) → OwnsQueue m t → OneOwner m t
  one t e = record {
    below = inside ok.inv t (λ a. a.owner) refl (owning t e);
    owns = e;
    only = λ u f. by u f (eq? u t);
  }
    where
      by : (u : ℕ) → OwnsQueue m u → (u ≡ t) ⊎ (u ≢ t) → u ≡ t
      by u f (inl i) = i
      by u f (inr ne) =
          absurd (one_owner ok.inv u t (owning u f) (owning t e) ne)

  some_owner : queue_locked m.word ≡ true → (t : ℕ) × OneOwner m t
  some_owner e =
      let x = sum_some m.count (λ t. weight (owner t)) (omega (arith, ok.inv.owners, ap weight e)) in
      (x.0, one x.0 (sym (same_part (thread_at m x.0).place).owner ∙ weighs (owner x.0) x.1))

  pub owned : Owned m
  owned = record {
    locked = some_owner;
    unlocked = λ e t f. never (unowned ok.inv e t) (owning t f);
    setting_aside = λ k t i. one t (aside_owns m k (part_of (thread_at m t).place) i);
  }
