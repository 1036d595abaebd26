use Prim.Native.Nat.{ℕ, ◌+◌, ◌<◌}
use mathlib.Core.Path.{◌≡◌}
use Rattle.rows.proofs.ChoiceLaws.{upto}
use Rattle.rows.proofs.choice.level.Given as goal

abbrev pub invariant-loop-p : goal.invariant-loop-p
invariant-loop-p l = (l.few ≡ upto l.exact l.p) × ((q : ℕ) → q < l.p → q < upto l.exact (q + 1))
