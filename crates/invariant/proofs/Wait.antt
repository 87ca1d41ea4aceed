-- A registered thread waits: load completed, park. Each place's rule keeps the invariant.
-- Assumes nothing.
use Rattle.std.specs.Prelude.{suc, Bool, true, false, ◌≡◌, refl}
use Rattle.std.proofs.Common.{inl, inr, ap}
use Rattle.word.specs.Cases.{pick_both}
use Rattle.state.specs.declared.machine.Thread.{Thread}
use Rattle.state.specs.declared.place.Place.{Place}
use Rattle.state.specs.declared.place.Place.TheVariants.{ContendLoad, CompletedLoad, Park}
use Rattle.acquire.specs.Wait.{completed_load_of, park_of}
use Rattle.queue.specs.Tests.{never}
use Rattle.queue.specs.Roles.{none}
use Rattle.queue.specs.Invariant as Q
use Rattle.queue.proofs.Steps as QueueSteps
use Rattle.invariant.specs.Table.{waiting, about, about_at, links_of, wait_of, Free}
use Rattle.invariant.specs.Invariant.{queue_of, Inv}
use Rattle.invariant.specs.Frames.{waits_as, stay, viewed, viewed_still}
use Rattle.invariant.specs.Kept.{Kept, placed, Goes, Setting, mine, gone_to, kept_stood, moved_to}

module _ (st : Setting) where
  open st use {n, s, g, i, me, tin}

  module _ (asleep : Bool) (told : about_at s me.0 ≡ waiting asleep) where
    nothing : Free (mine st).holding
    nothing = rw told at (i.holding me.0)

    -- its role is none, before and after
    down : Q.Inv g (Q.turned (queue_of s) me.0 none)
    down = QueueSteps.turn g (queue_of s) i.queue me.0 none (rw told at (i.queue.know me.0)) (never refl)

    abbrev waits_at : Place → Bool → Thread
    waits_at q token = record { place = q; token = token; holding = (mine st).holding }

    -- it waits on, with a token or without
    waits_on : (q : Place) (token asleep' : Bool) → about q ≡ waiting asleep'
        → (asleep' ≡ true → (s.nd (suc me.0)).completed ≡ true → token ≡ true)
        → Inv n (moved_to st s.word (waits_at q token)) g
    waits_on q token asleep' on called = stay n s g me.0 (waits_at q token) s.nd i (record {
      queue = viewed_still s me.0 (waits_at q token) s.word (rw (on, told)) (rw on down);
      inside = tin;
      holding = refl;
      completed = λ u ne. refl;
      next = λ r. refl;
      owner = rw (on, told);
      leaving = rw (on, told);
      may = rw on nothing;
      needs = rw on (never refl);
      plain = rw on (never refl);
      calm = λ r. rw on (never refl);
      fits = rw on;
      clear = rw on (never refl);
      token = rw on called;
      contending = rw told (never refl);
      called = λ e d. inl (rw on, d);
    })

    -- completed: it starts again
    starts_again : (writer : Bool) → (s.nd (suc me.0)).completed ≡ true
        → Inv n (gone_to st (ContendLoad writer 0) s.nd) g
    starts_again writer done = stay n s g me.0 x s.nd i (record {
      queue =
          viewed s me.0 x s.nd s.word (links_of s.nd) (wait_of s.th s.nd) refl
          (waits_as s me.0 x s.nd (wait_of s.th s.nd) refl (rw (told, done)) (λ u ne. refl)) down;
      inside = tin;
      holding = refl;
      completed = λ u ne. refl;
      next = λ r. refl;
      owner = rw told;
      leaving = rw told;
      may = nothing;
      needs = never refl;
      plain = never refl;
      calm = λ r. never refl;
      fits = refl;
      clear = never refl;
      token = never refl;
      contending = λ e. refl;
      called = λ e d. inr refl;
    })
      where
        x : Thread
        x = placed (mine st) (ContendLoad writer 0)

  pub kept_completed_load : (writer : Bool) → (mine st).place ≡ CompletedLoad writer
      → Goes st (suc me.0) (λ v. completed_load_of v writer)
  kept_completed_load writer here = pick_both (Kept st (suc me.0)) (s.nd (suc me.0)).completed _ _
      (λ e. kept_stood st (suc me.0) here refl _ _ refl (starts_again false (ap about here) writer e))
      (λ e. kept_stood st (suc me.0) here refl _ _ refl
      (waits_on false (ap about here) (Park writer) _ true refl (λ _ d. never e d)))

  pub kept_park : (writer : Bool) → (mine st).place ≡ Park writer → Goes st (suc me.0) (λ v. park_of v writer)
  kept_park writer here = pick_both (Kept st (suc me.0)) st.fails _ _
      (λ e. kept_stood st (suc me.0) here refl _ _ refl
      (waits_on true (ap about here) (CompletedLoad writer) _ false refl (never refl)))
      (λ e. kept_stood st (suc me.0) here refl _ _ refl
      (waits_on true (ap about here) (CompletedLoad writer) _ false refl (never refl)))
