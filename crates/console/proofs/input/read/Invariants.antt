-- `console::input::read`: what was read lies in the bytes; the measure is how many of them are free. Assumes nothing.
use Rattle.std.proofs.Common.{length, ◌-◌, ◌≡◌, ◌≤◌}
use Rattle.console.proofs.input.read.Given as goal

abbrev pub invariant-loop-length : goal.invariant-loop-length
invariant-loop-length g l = (l.length ≤ length l.bytes) × (length l.bytes ≡ length l.fn.bytes)

abbrev pub decreases-loop-length : goal.decreases-loop-length
decreases-loop-length g l = length l.bytes - l.length
