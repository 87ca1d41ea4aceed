-- `schedule::replay::replay`: the events run, and then the replay of the rest, are the replay of all. Assumes nothing.
use Rattle.std.proofs.Common.{◌*◌, ◌≡◌, drop}
use Rattle.schedule.specs.File.{event_width}
use Rattle.schedule.specs.Replay.{after, replay_of}
use Rattle.schedule.proofs.replay.replay.Given as goal

abbrev pub invariant-loop-run : goal.invariant-loop-run
invariant-loop-run l = after l.run (replay_of l.machine (drop (event_width * l.run) l.s)) ≡ replay_of l.fn.first l.s
