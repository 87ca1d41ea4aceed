-- What a word becomes, in document 01's order: write_lock, read_lock, registering, taking a queue whole, read_unlock.
-- Assumes nothing.
use Rattle.std.specs.Prelude.{◌+◌, ◌-◌, ◌*◌, ◌^◌, leb, ltb, eqb, Option, Some, None}
use Rattle.word.specs.Base.{pick}
use Rattle.word.specs.Number.{node_of}
use Rattle.word.specs.Flags.{word, LOCKED, QUEUED, QUEUE_LOCKED, DOWNGRADED, SINGLE, locked}
use Rattle.word.specs.Flags.{queued, downgraded, set_locked, clear_locked, clear_downgraded}
use Rattle.word.specs.declared.number.ThreadNumber.{ThreadNumber}
use Rattle.word.specs.declared.flags.Word.{Word}
use Rattle.word.specs.declared.rules.ReadUnlocked.{ReadUnlocked}
use Rattle.word.specs.declared.rules.ReadUnlocked.TheVariants.{To as UnlockTo, Contended}
use Rattle.word.specs.declared.rules.ReadUnlocked.TheVariants.{Refused as UnlockRefused}

-- refuses if LOCKED is set, else sets it
abbrev pub write_lock_of : Word → Option Word
write_lock_of w = pick (locked w) None (Some (set_locked w))

-- refuses if QUEUED is set, if the word is exactly 1, or if adding 16 overflows; else adds 16 and sets LOCKED
abbrev pub read_lock_of : Word → Option Word
read_lock_of w =
    pick (queued w)
    None
    (pick (eqb w.0 LOCKED)
    None
    (pick (leb (2 ^ 64) (w.0 + SINGLE)) None (Some (set_locked (word (w.0 + SINGLE))))))

-- own node, QUEUED, old DOWNGRADED and LOCKED; on a queued word QUEUE_LOCKED too
abbrev pub registered_of : Word → ThreadNumber → Word
registered_of w me =
    word
    ((node_of me).0 * SINGLE +
    (QUEUED + pick (downgraded w) DOWNGRADED 0 + pick (locked w) LOCKED 0 + pick (queued w) QUEUE_LOCKED 0))

-- 17 (DOWNGRADED) or 0
abbrev pub taken_of : Word → Word
taken_of w = pick (downgraded w) (word (SINGLE + LOCKED)) (word 0)

-- one reader fewer: the word − 17, with LOCKED set again if that isn't 0
abbrev pub fewer : Word → Word
fewer w = pick (eqb (w.0 - (SINGLE + LOCKED)) 0) (word 0) (set_locked (word (w.0 - (SINGLE + LOCKED))))

-- QUEUED clear: one reader fewer, a word below 17 being refused; QUEUED and DOWNGRADED: DOWNGRADED and LOCKED cleared;
-- else the count stands in the oldest waiter
abbrev pub read_unlock_of : Word → ReadUnlocked
read_unlock_of w =
    pick (queued w)
    (pick (downgraded w) (UnlockTo (clear_locked (clear_downgraded w))) Contended)
    (pick (ltb w.0 (SINGLE + LOCKED)) UnlockRefused (UnlockTo (fewer w)))
