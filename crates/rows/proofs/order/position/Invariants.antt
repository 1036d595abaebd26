use Prim.Native.Nat.{ℕ, ◌-◌, ◌≤◌, ◌<◌}
use mathlib.Core.Path.{◌≡◌}
use mathlib.Core.Bool.{true}
use lib.ListN.{length, get_or}
use Rattle.rows.specs.Held.{stands_in}
use Rattle.rows.proofs.order.position.Given as goal

abbrev pub invariant-loop-low : goal.invariant-loop-low
invariant-loop-low l =
    (l.low ≤ l.high) × (l.high ≤ length l.order) × ((p : ℕ) → p < l.low → stands_in l.n l.rows (get_or l.order p 0) l.k ≡ true)
    × ((p : ℕ) → l.high ≤ p → p < length l.order → stands_in l.n l.rows l.k (get_or l.order p 0) ≡ true)

abbrev pub decreases-loop-low : goal.decreases-loop-low
decreases-loop-low l = l.high - l.low
