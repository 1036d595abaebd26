-- The order of stations by whole numbers, as arrays hold them (01, "The growing-number table"; 02, Card 7).
use Rattle.std.specs.Prelude.{ℕ, ◌-◌, ◌<◌, ◌≡◌, ◌≢◌, Bool, cond, ◌++◌, get_or, replicate, eqb}
use mathlib.Core.List as Lists
use Rattle.basics.specs.Tests.{ordered}
use Rattle.simulation.specs.Machine.{Labelling, put, copy, number_before, LabelStep, stay, snap, update}

-- station i stands before station j, by the numbers in a row
abbrev pub stands_by : Lists.List ℕ → ℕ → ℕ → Bool
stands_by numbers i j = number_before (get_or numbers i 0) i (get_or numbers j 0) j

-- the n stations, oldest first, and 0s past them
abbrev pub order_by : ℕ → Lists.List ℕ → Lists.List ℕ
order_by n numbers = ordered n (stands_by numbers) ++ replicate (32 - n) 0

-- `order` lists the n stations, oldest first, and 0s past them, as they stood before station k got the number that it has in the row
pub record NumberedBefore (n : ℕ) (numbers : Lists.List ℕ) (k : ℕ) (order : Lists.List ℕ) : Type 0 where
  pub old : Lists.List ℕ
  pub others : (i : ℕ) → i < n → i ≢ k → get_or old i 0 ≡ get_or numbers i 0
  pub listed : order ≡ order_by n old

-- what a step makes of current and pending numbers, where a snap for a label by station z leaves them, and one by another makes v its pending number. If z is
-- the newest, that is the step of the machine (proofs/NumberLaws.antt: `newest_step`).
abbrev pub stepped_by : ℕ → ℕ → Labelling ℕ → LabelStep → Labelling ℕ
stepped_by z v N stay = N
stepped_by z v N (snap k) = cond (eqb k z) N (put N k v)
stepped_by z v N (update k) = copy N k
