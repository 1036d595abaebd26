-- What a declared table answers, whatever it holds: 0 and from 1 to n stations, or 13 and none (02, Card 5).
use Prim.Native.Nat.{ℕ}
use native.Mathlib.Omega.{arith}
use Rattle.transition.specs.Questions.{Tells}
use Rattle.transition.proofs.Questions.{Told, told}
use Rattle.arrays.proofs.Passed.{passed, stands_total}
use Rattle.table.specs.Tables.{taken_apart, declared}
use Rattle.table.specs.declared.Table.{Table}

pub declared_told : (t : Table) {refusal stations : ℕ} → Tells declared t refusal stations → Told t.count refusal stations
unfolding taken_apart
declared_told t = told declared t (λ e. (omega (arith, (passed (taken_apart t) e).low), stands_total (taken_apart t) e))
