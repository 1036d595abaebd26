-- What a table in arrays answers, whatever it holds: 0 and from 1 to n stations, or 13 and none (02, Card 5); and that the stations counted stand last.
use Prim.Native.Nat.{ℕ, ◌-◌}
use native.Mathlib.Omega.{arith}
use mathlib.Core.Path.{◌≡◌}
use mathlib.Core.Bool.{true, false}
use lib.ListN.{drop}
use Rattle.basics.specs.Tests.{newest, ordered, passing}
use Rattle.label.specs.Labels.{agrees}
use Rattle.label.proofs.Holders.{holders_last}
use Rattle.simulation.specs.Calls.{original}
use Rattle.simulation.specs.Machine.{digits, stands}
use Rattle.transition.specs.Questions.{top_holders, Tells}
use Rattle.transition.proofs.Questions.{Told, told}
use Rattle.arrays.specs.Arrays.{Arrays, state_of}
use Rattle.arrays.specs.WellFormed.{well_formed}
use Rattle.arrays.specs.Form.{lent}
use Rattle.arrays.proofs.Passed.{passed, stands_total}

pub lent_told : (a : Arrays) {refusal stations : ℕ} → Tells lent a refusal stations → Told a.count refusal stations
lent_told a = told lent a (λ e. (omega (arith, (passed a e).low), stands_total a e))

-- on a well-formed table those that hold the top label are the last in the order of all stations: whoever keeps that order finds them at its end
pub top_last : (a : Arrays) → well_formed a ≡ true → let n = a.count in let l = (state_of a).labels in let order = ordered n (stands (digits original n) l) in
    passing (λ i. agrees (n - 1) (l false i) (l false (newest n (stands (digits original n) l)))) order ≡ drop (n - top_holders original n l) order
unfolding top_holders
top_last a e = holders_last a.count (a.count - 1) ((state_of a).labels false) (stands_total a e) (omega (arith, (passed a e).low))
