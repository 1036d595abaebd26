use Prim.Native.Nat.{ℕ, ◌≤◌, ◌<◌}
use mathlib.Core.Path.{◌≡◌}
use mathlib.Core.Bool.{true}
use lib.ListN.{get_or}
use Rattle.unbounded.specs.Numbers.{stands_by}
use Rattle.unbounded.proofs.numbers.position.Given as goal

-- Station k stands before all from place q on.
abbrev pub invariant-loop-q : goal.invariant-loop-q
invariant-loop-q l = (p : ℕ) → l.q ≤ p → p < l.m → stands_by l.numbers l.k (get_or l.order p 0) ≡ true
