-- Demand 3 of the exported functions: of every sequence of calls of tickets_step and tickets_step_panel on a table that tickets_fresh made.
use Prim.Native.Nat.{ℕ}
use native.Mathlib.Omega.{arith}
use mathlib.Core.Path.{◌≡◌, refl, subst, ◌∙◌}
use mathlib.Core.Bool.{Bool, true, false}
use mathlib.Core.List as Lists
use Rattle.basics.specs.Tests.{within}
use Rattle.basics.proofs.Facts.{within_true}
use Rattle.transition.specs.Sequences.{Made, Sequence, SequenceDemand}
use Rattle.transition.proofs.Written.{original_sized}
use Rattle.transition.proofs.Sequences.{sequence_demand}
use Rattle.arrays.specs.Arrays.{Arrays}
use Rattle.arrays.specs.Form.{lent}
use Rattle.arrays.proofs.States.{lent_lawful}
use Rattle.exports.specs.Clauses.{Starts}

-- tickets_fresh for n where the arrays a stood returned 0 and left a'; then came the calls xs
pub exported_demand : (n : ℕ) (a a' : Arrays) → Starts n a a' 0 → (xs : Lists.List (Made Arrays)) → Sequence lent a' xs → SequenceDemand lent n xs
exported_demand n a a' f xs q =
    let e = made (within 2 32 n) refl in
    let b = within_true 2 32 n e in
    sequence_demand lent lent_lawful n (original_sized n b.0 b.1) xs (subst (λ (y : Arrays). Sequence lent y xs) (f.table ∙ rw e refl) q)
  where
    made : (v : Bool) → within 2 32 n ≡ v → within 2 32 n ≡ true
    made true e = e
    made false e = absurd (let z : ◌≡◌ {A = ℕ} 0 1 = f.refusal ∙ rw e refl in omega arith)
