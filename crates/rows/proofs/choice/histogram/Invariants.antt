use Prim.Native.Nat.{ℕ, ◌<◌}
use mathlib.Core.Path.{◌≡◌}
use mathlib.Core.Bool.{not, ◌&&◌}
use lib.ListN.{length, get_or}
use lib.Dec.{eqb}
use Rattle.basics.specs.Tests.{count}
use Rattle.rows.proofs.choice.histogram.Given as goal

abbrev pub invariant-loop-j : goal.invariant-loop-j
invariant-loop-j l = (length l.r ≡ 32) × ((q : ℕ) → q < 32 → get_or l.r q 0 ≡ count l.j (λ i. not (eqb i l.k) && eqb (get_or l.shared i 0) q))
