-- Tokens from outside: the invariant survives any change of tokens that leaves one to whoever is asleep and completed.
-- So a token may be set anywhere, and cleared wherever its thread is not asleep. A completion's own: Wake.antt.
-- Assumes nothing.
use Rattle.std.specs.Prelude.{ℕ, zero, suc, Bool, true, ◌≡◌, refl}
use Rattle.std.proofs.Common.{sym, subst}
use Rattle.std.proofs.Math.Path.{fun_ext}
use Rattle.state.specs.declared.machine.Thread.{Thread}
use Rattle.queue.specs.Tickets.{Ghost}
use Rattle.queue.specs.Invariant as Q
use Rattle.invariant.specs.Table.{Lock, about_at, links_of, wait_of, role_of}
use Rattle.invariant.specs.Invariant.{Responsible, contends, called, wakes, Inv}

-- the same record with token b
abbrev pub tokened : Thread → Bool → Thread
tokened x b = record { place = x.place; token = b; holding = x.holding }

abbrev retokened : Lock → (ℕ → Bool) → Lock
retokened s b = record { word = s.word; th = λ t. tokened (s.th t) (b t); nd = s.nd }

-- the same nodes wait
waits_same : (s : Lock) (b : ℕ → Bool) → wait_of s.th s.nd ≡ wait_of (retokened s b).th s.nd
waits_same s b = fun_ext λ k. at k
  where
    at : (k : ℕ) → wait_of s.th s.nd k ≡ wait_of (retokened s b).th s.nd k
    at zero = refl
    at (suc t) = refl

-- the same threads see to the queue
responsible_same : (s : Lock) (g : Ghost) (b : ℕ → Bool) (t : ℕ) → Responsible s g t → Responsible (retokened s b) g t
responsible_same s g b t (contends e) = contends e
responsible_same s g b t (called e d) = called e d
responsible_same s g b t (wakes l) = wakes l

inv_retokened : (n : ℕ) (s : Lock) (g : Ghost) (b : ℕ → Bool) → Inv n s g
    → ((t : ℕ) → (about_at s t).asleep ≡ true → (s.nd (suc t)).completed ≡ true → b t ≡ true)
    → Inv n (retokened s b) g
inv_retokened n s g b i kept = record {
  queue =
      subst (λ w. Q.Inv g (record { links = links_of s.nd; wait = w; role = role_of s.th })) (waits_same s b)
      i.queue;
  newest = i.newest;
  nobody = i.nobody;
  handed = i.handed;
  bare = i.bare;
  owners = i.owners;
  holding = i.holding;
  outside = i.outside;
  unheld = i.unheld;
  count = i.count;
  needs = i.needs;
  plain = i.plain;
  counted = λ r. i.counted (record { some = r.some; queue = r.queue; plain = r.plain });
  calm = λ r. i.calm (record { some = r.some; queue = r.queue; plain = r.plain });
  clear = i.clear;
  fits = i.fits;
  token = kept;
  seen_to = λ q l o.
      let x : (t : ℕ) × Responsible s g t = i.seen_to q l o in (x.0, responsible_same s g b x.0 x.1);
}

-- the threads th differ from those of s in their tokens alone
pub inv_tokens : (n : ℕ) (s : Lock) (g : Ghost) (th : ℕ → Thread) → Inv n s g
    → ((t : ℕ) → th t ≡ tokened (s.th t) (th t).token)
    → ((t : ℕ) → (about_at s t).asleep ≡ true → (s.nd (suc t)).completed ≡ true → (th t).token ≡ true)
    → Inv n (record { word = s.word; th = th; nd = s.nd }) g
inv_tokens n s g th i alone kept =
    subst (λ (x : ℕ → Thread). Inv n (record { word = s.word; th = x; nd = s.nd }) g)
    (sym (fun_ext alone))
    (inv_retokened n s g (λ t. (th t).token) i kept)
