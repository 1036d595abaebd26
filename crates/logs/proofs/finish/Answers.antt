-- Three tests; what they are of numbers and of bytes is taken from the goal.
use mathlib.Core.Path.{◌≡◌, refl}
use mathlib.Core.Bool.{Bool, ◌&&◌}
use lib.Dec.{eqb}
use Rattle.logs.specs.Clauses.{Finishes}
use Rattle.logs.specs.declared.Progress.{Progress}
use Rattle.logs.proofs.Checks.{finished}
use Rattle.logs.proofs.finish.Goals as goal

module _ {P : Type 0} (check : P → Progress) (a b : P → Bool) where
  abbrev NumbersUsed : (((c : P) → Finishes (check c) (((check c).right && a c) && b c)) → Type 0) → Type 0
  NumbersUsed _ = (c : P) → a c ≡ eqb (check c).used (check c).count

  abbrev BytesShown : (((c : P) → Finishes (check c) (((check c).right && a c) && b c)) → Type 0) → Type 0
  BytesShown _ = (c : P) → b c ≡ eqb (check c).shown (check c).written

numbers_used : NumbersUsed _ _ _ (λ (n : goal.returns). Bool)
numbers_used c = refl

bytes_shown : BytesShown _ _ _ (λ (n : goal.returns). Bool)
bytes_shown c = refl

pub returns : goal.returns
returns c = finished _ (numbers_used c) (bytes_shown c)
