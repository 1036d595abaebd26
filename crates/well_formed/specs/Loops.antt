-- What the loops test.
use Rattle.std.specs.Prelude.{ℕ, ◌+◌, ◌-◌, Bool, cond, ◌&&◌, ◌||◌, List, [], nat_eq, nat_lt, slice_index}
use Rattle.basics.specs.Tests.{within, every, tabulate}
use Rattle.label.specs.Rows.{digit, row_fits}
use Rattle.arrays.specs.Arrays.{Rows, Planes, cell}
use Rattle.arrays.specs.WellFormed.{control_fits, control_fresh}

-- the greatest digits at 32 places, and 1 at 32 more
abbrev pub tops : List ℕ
tops = tabulate 64 0 (λ p. cond (nat_lt p 32) 5 1)

-- the digit at position p is from 1 to the greatest there, in a label of m digits
abbrev pub fits_at : ℕ → List ℕ → ℕ → Bool
fits_at m label p = within 1 (cond (nat_lt p m) 5 1) (digit label p)

-- each of the 16 digits from position h on is, in two labels
abbrev pub half_fits : ℕ → List ℕ → List ℕ → ℕ → Bool
half_fits m x y h = every 16 (λ p. fits_at m x (h + p) && fits_at m y (h + p))

-- both labels at place i fit
abbrev pub both_fit : ℕ → Planes → ℕ → Bool
both_fit m labels i = row_fits 31 m (cell labels 0 i []) && row_fits 31 m (cell labels 1 i [])

-- the control bytes at place i fit, and past n stations they are fresh
abbrev pub control_at : ℕ → Rows → ℕ → Bool
control_at n control i = let p = cell control 0 i 0 in let o = cell control 1 i 0 in control_fits p o && (nat_lt i n || control_fresh p o)

-- a row has nothing from place n on
abbrev pub none_from : ℕ → List ℕ → Bool
none_from n row = every (32 - n) (λ p. nat_eq (slice_index row (n + p)) 0)
