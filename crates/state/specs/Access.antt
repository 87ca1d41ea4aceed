-- The one shared access that each place makes, in queue.rs's order: what kind, and where.
-- Assumes nothing.
use Rattle.word.specs.Number.{node_of}
use Rattle.word.specs.Flags.{to_node}
use Rattle.word.specs.declared.number.NodeNumber.{NodeNumber}
use Rattle.word.specs.declared.number.ThreadNumber.{ThreadNumber}
use Rattle.state.specs.declared.access.Kind.{Kind}
use Rattle.state.specs.declared.access.Kind.TheVariants.{Nothing, Load, Store, WeakCompare}
use Rattle.state.specs.declared.access.Kind.TheVariants.{StrongCompare, FetchOr, Subtract as Subtracting}
use Rattle.state.specs.declared.access.Kind.TheVariants.{Complete, Park as Parking}
use Rattle.state.specs.declared.access.Location.{Location}
use Rattle.state.specs.declared.access.Location.TheVariants.{Nowhere, Word as TheWord, Next}
use Rattle.state.specs.declared.access.Location.TheVariants.{Prev, Tail, Completed, Token}
use Rattle.state.specs.declared.access.Access.{Access}
use Rattle.state.specs.declared.place.Place.{Place}
use Rattle.state.specs.declared.place.Place.TheVariants as At

abbrev pub access : Kind → Location → Access
access k l = record { kind = k; location = l }

abbrev pub at_word_of : Kind → Access
at_word_of k = access k TheWord

abbrev pub load_of : Location → Access
load_of l = access Load l

abbrev pub store_of : Location → Access
store_of l = access Store l

unfoldable pub access_of : ThreadNumber → Place → Access
access_of me At.Idle = access Nothing Nowhere
access_of me (At.TryReadLoad blocking) = at_word_of Load
access_of me (At.TryReadCas blocking seen) = at_word_of WeakCompare
access_of me (At.TryWriteOr blocking) = at_word_of FetchOr
access_of me (At.ContendLoad writer reloads) = at_word_of Load
access_of me (At.ContendCas writer reloads seen) = at_word_of WeakCompare
access_of me (At.RegisterCas writer reloads seen) = at_word_of WeakCompare
access_of me (At.CompletedLoad writer) = load_of (Completed (node_of me))
access_of me (At.Park writer) = access Parking (Token me)
access_of me (At.WalkTail walk seen current) = load_of (Tail current)
access_of me (At.WalkNext walk seen current) = load_of (Next current)
access_of me (At.WalkPrev walk seen current next) = store_of (Prev next)
access_of me (At.WalkHead walk seen tail) = store_of (Tail (to_node seen))
access_of me (At.QueueCas who seen) = at_word_of WeakCompare
access_of me (At.SplitPrev who seen tail) = load_of (Prev tail)
access_of me (At.SplitStore who seen tail prev) = store_of (Tail (to_node seen))
access_of me (At.SplitCas who seen tail) = at_word_of WeakCompare
access_of me (At.SplitRestore who seen tail reported) = store_of (Tail (to_node seen))
access_of me (At.TakeCas who seen tail) = at_word_of WeakCompare
access_of me (At.WakePrev who current) = load_of (Prev current)
access_of me (At.WakeStore who current prev) = access Complete (Completed current)
access_of me At.ReadUnlockLoad = at_word_of Load
access_of me (At.ReadUnlockCas seen) = at_word_of WeakCompare
access_of me (At.Subtract seen tail) = access Subtracting (Next tail)
access_of me At.WriteUnlockCas = at_word_of StrongCompare
access_of me (At.ReleaseCas seen) = at_word_of WeakCompare
access_of me At.DowngradeCas = at_word_of StrongCompare
access_of me (At.DowngradeSlowCas seen) = at_word_of WeakCompare

-- the node that an access lies in; at the word or the token, the thread's own
abbrev pub touched_at : Location → ThreadNumber → NodeNumber
touched_at (Next n) me = n
touched_at (Prev n) me = n
touched_at (Tail n) me = n
touched_at (Completed n) me = n
touched_at Nowhere me = node_of me
touched_at TheWord me = node_of me
touched_at (Token t) me = node_of me

abbrev pub touched_of : Access → ThreadNumber → NodeNumber
touched_of a me = touched_at a.location me
