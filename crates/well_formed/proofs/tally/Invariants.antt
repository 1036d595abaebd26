use Rattle.std.proofs.Common.{◌≡◌, ℕ, ◌<◌, eqb, length, get_or}
use Rattle.basics.specs.Tests.{count}
use Rattle.well_formed.proofs.tally.Given as goal

abbrev pub invariant-loop-station : goal.invariant-loop-station
invariant-loop-station l = (length l.r ≡ 33) × ((i : ℕ) → i < 33 → get_or l.r i 0 ≡ count l.station-index (λ q. eqb (get_or l.stations q 0) i))
