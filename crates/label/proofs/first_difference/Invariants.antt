use Prim.Native.Nat.{ℕ, ◌*◌, ◌<◌}
use mathlib.Core.Path.{◌≡◌}
use Rattle.label.specs.Rows.{digit}
use Rattle.label.proofs.first_difference.Given as goal

abbrev pub invariant-loop-w : goal.invariant-loop-w
invariant-loop-w l = (q : ℕ) → q < 8 * l.w → q < l.m → digit l.a q ≡ digit l.b q
