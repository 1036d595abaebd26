use Prim.Native.Nat.{◌≤◌}
use mathlib.Core.Path.{◌≡◌}
use lib.ListN.{length}
use Rattle.simulation.specs.Numbering.{bump}
use Rattle.numbering.proofs.Kept.{mapped}
use Rattle.numbering.proofs.bump.Given as goal

-- After i turns the first i numbers have been bumped.
abbrev pub invariant-loop-i : goal.invariant-loop-i
invariant-loop-i l = (l.i ≤ l.n) × (length l.list ≡ length l.initial.list) × (l.list ≡ mapped (bump l.c) l.i l.initial.list)
