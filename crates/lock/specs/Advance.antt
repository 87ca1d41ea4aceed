-- One step at a place, by the rule of that place.
-- Assumes nothing.
use Rattle.std.specs.Prelude.{Err}
use Rattle.state.specs.View.{Stepped}
use Rattle.state.specs.declared.answer.Refusal.TheVariants.{NotInCall}
use Rattle.state.specs.declared.place.Place.{Place}
use Rattle.state.specs.declared.place.Place.TheVariants as At
use Rattle.state.specs.declared.view.View.{View}
use Rattle.walk.specs.FindTail.{walk_tail_of, walk_next_of, walk_prev_of}
use Rattle.walk.specs.CompleteAll.{wake_prev_of, wake_store_of}
use Rattle.acquire.specs.TryRead.{try_read_load_of, try_read_cas_of}
use Rattle.acquire.specs.TryWrite.{try_write_or_of}
use Rattle.acquire.specs.LockContended.{contend_load_of, contend_cas_of, register_cas_of}
use Rattle.acquire.specs.Wait.{completed_load_of, park_of}
use Rattle.unlock.specs.AfterWalk.{walk_head_of}
use Rattle.unlock.specs.UnlockQueue.{queue_cas_of, split_prev_of, split_store_of, split_cas_of, split_restore_of}
use Rattle.unlock.specs.UnlockQueue.{take_cas_of}
use Rattle.release.specs.ReadUnlock.{read_unlock_load_of, read_unlock_cas_of, subtract_of}
use Rattle.release.specs.WriteUnlock.{write_unlock_cas_of}
use Rattle.release.specs.UnlockContended.{release_cas_of}
use Rattle.release.specs.Downgrade.{downgrade_cas_of, downgrade_slow_cas_of}

unfoldable pub advance_of : View → Place → Stepped
advance_of v At.Idle = Err NotInCall
advance_of v (At.TryReadLoad blocking) = try_read_load_of v blocking
advance_of v (At.TryReadCas blocking seen) = try_read_cas_of v blocking seen
advance_of v (At.TryWriteOr blocking) = try_write_or_of v blocking
advance_of v (At.ContendLoad writer reloads) = contend_load_of v writer reloads
advance_of v (At.ContendCas writer reloads seen) = contend_cas_of v writer reloads seen
advance_of v (At.RegisterCas writer reloads seen) = register_cas_of v writer reloads seen
advance_of v (At.CompletedLoad writer) = completed_load_of v writer
advance_of v (At.Park writer) = park_of v writer
advance_of v (At.WalkTail walk seen current) = walk_tail_of v walk seen current
advance_of v (At.WalkNext walk seen current) = walk_next_of v walk seen current
advance_of v (At.WalkPrev walk seen current next) = walk_prev_of v walk seen current next
advance_of v (At.WalkHead walk seen tail) = walk_head_of v walk seen tail
advance_of v (At.QueueCas who seen) = queue_cas_of v who seen
advance_of v (At.SplitPrev who seen tail) = split_prev_of v who seen tail
advance_of v (At.SplitStore who seen tail prev) = split_store_of v who seen tail prev
advance_of v (At.SplitCas who seen tail) = split_cas_of v who seen tail
advance_of v (At.SplitRestore who seen tail reported) = split_restore_of v who seen tail reported
advance_of v (At.TakeCas who seen tail) = take_cas_of v who seen tail
advance_of v (At.WakePrev who current) = wake_prev_of v who current
advance_of v (At.WakeStore who current prev) = wake_store_of v who current prev
advance_of v At.ReadUnlockLoad = read_unlock_load_of v
advance_of v (At.ReadUnlockCas seen) = read_unlock_cas_of v seen
advance_of v (At.Subtract seen tail) = subtract_of v seen tail
advance_of v At.WriteUnlockCas = write_unlock_cas_of v
advance_of v (At.ReleaseCas seen) = release_cas_of v seen
advance_of v At.DowngradeCas = downgrade_cas_of v
advance_of v (At.DowngradeSlowCas seen) = downgrade_slow_cas_of v seen
