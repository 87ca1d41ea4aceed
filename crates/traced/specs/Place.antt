-- A place by the name it has in docs/PLACES.md; asleep means at park. Assumes nothing.
use Rattle.std.specs.Prelude.{ℕ, List}
use Rattle.state.specs.declared.place.Place.{Place}
use Rattle.state.specs.declared.place.Place.TheVariants as At
use Rattle.print.specs.Text.{ascii}

abbrev pub place_text : Place → List ℕ
place_text At.Idle = ascii "idle"
place_text (At.TryReadLoad _) = ascii "at TryReadLoad"
place_text (At.TryReadCas _ _) = ascii "at TryReadCas"
place_text (At.TryWriteOr _) = ascii "at TryWriteOr"
place_text (At.ContendLoad _ _) = ascii "at ContendLoad"
place_text (At.ContendCas _ _ _) = ascii "at ContendCas"
place_text (At.RegisterCas _ _ _) = ascii "at RegisterCas"
place_text (At.CompletedLoad _) = ascii "at CompletedLoad"
place_text (At.Park _) = ascii "asleep at Park"
place_text (At.WalkTail _ _ _) = ascii "at WalkTail"
place_text (At.WalkNext _ _ _) = ascii "at WalkNext"
place_text (At.WalkPrev _ _ _ _) = ascii "at WalkPrev"
place_text (At.WalkHead _ _ _) = ascii "at WalkHead"
place_text (At.QueueCas _ _) = ascii "at QueueCas"
place_text (At.SplitPrev _ _ _) = ascii "at SplitPrev"
place_text (At.SplitStore _ _ _ _) = ascii "at SplitStore"
place_text (At.SplitCas _ _ _) = ascii "at SplitCas"
place_text (At.SplitRestore _ _ _ _) = ascii "at SplitRestore"
place_text (At.TakeCas _ _ _) = ascii "at TakeCas"
place_text (At.WakePrev _ _) = ascii "at WakePrev"
place_text (At.WakeStore _ _ _) = ascii "at WakeStore"
place_text At.ReadUnlockLoad = ascii "at ReadUnlockLoad"
place_text (At.ReadUnlockCas _) = ascii "at ReadUnlockCas"
place_text (At.Subtract _ _) = ascii "at Subtract"
place_text At.WriteUnlockCas = ascii "at WriteUnlockCas"
place_text (At.ReleaseCas _) = ascii "at ReleaseCas"
place_text At.DowngradeCas = ascii "at DowngradeCas"
place_text (At.DowngradeSlowCas _) = ascii "at DowngradeSlowCas"

-- the longest name's length
abbrev pub name_width : ℕ
name_width = 19
