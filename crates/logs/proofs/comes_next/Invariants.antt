use Prim.Native.Nat.{◌+◌, ◌≤◌}
use mathlib.Core.Path.{◌≡◌}
use mathlib.Core.Bool.{◌&&◌}
use lib.ListN.{length, drop}
use Rattle.transition.specs.Logs.{at_front}
use Rattle.logs.proofs.comes_next.Given as goal

-- The bytes compared so far are the same, and what is left of them comes next: that is the question from the start.
abbrev pub invariant-loop-i : goal.invariant-loop-i
invariant-loop-i l =
    (l.i ≤ l.k) × (l.k ≡ length l.bytes) × (l.at + l.k ≤ length l.part) × (at_front l.bytes (drop l.at l.part) ≡ (l.same && at_front (drop l.i l.bytes) (drop (l.at + l.i) l.part)))
