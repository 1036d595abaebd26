-- The lengths that the types of the arrays fix.
use Rattle.std.specs.Prelude.{ℕ, ◌<◌, ◌≡◌, [], length, get_or}
use mathlib.Core.List as Lists
use Rattle.arrays.specs.Arrays.{Arrays}

-- a list of so many lists of that length
pub record Sized {A : Type 0} (k w : ℕ) (xs : Lists.List (Lists.List A)) : Type 0 where
  pub long : length xs ≡ k
  pub each : (i : ℕ) → i < k → length (get_or xs i []) ≡ w

pub record Shaped (a : Arrays) : Type 0 where
  pub labels : Sized 2 32 a.labels
  pub label : (f : ℕ) → f < 2 → Sized 32 31 (get_or a.labels f [])
  pub jobs : Sized 2 32 a.jobs
  pub control : Sized 2 32 a.control
  pub results : Sized 32 2 a.results
  pub result : (i : ℕ) → i < 32 → Sized 2 32 (get_or a.results i [])
