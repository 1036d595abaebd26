-- Logs (02, Card 7: the old books): calls, numbers for their snaps for a label, and report bytes; when a log is right, and a test that goes through it call by
-- call.
use Rattle.std.specs.Prelude.{ℕ, ◌≡◌, Bool, true, false, ◌&&◌, cond, [], ◌∷◌, ◌++◌, map, length, get_or, drop, eqb, ltb, leb}
use mathlib.Core.List as Lists
use Rattle.basics.specs.Tests.{newest}
use Rattle.simulation.specs.Calls.{Call, Report, bytes_of, Board, judge}
use Rattle.simulation.specs.Machine.{Labelling, stands, LabelStep, stay, snap, update, label_step, State, step, snaps_of}
use Rattle.simulation.specs.Machine as Machine
use Rattle.simulation.specs.Numbered.{numbered, Fits}
use Rattle.transition.specs.Numbers.{with_numbers}

-- the bytes of reports, one after the other; a refused call adds none
unfoldable pub lists : Lists.List Report → Lists.List ℕ
lists [] = []
lists (r ∷ rs) = bytes_of r ++ lists rs

-- A log of calls on n stations is right (02, Card 7): its numbers fit the unbounded table that is fed with them, none above 2^32 - 1 and one for each accepted
-- snap for a label; and its report is all that this table writes.
pub record Right (B : Board) (n : ℕ) (calls : Lists.List Call) (ns bytes : Lists.List ℕ) : Type 0 where
  pub fits : Fits B n 4294967295 (Machine.fresh 0) ns calls
  pub report : bytes ≡ lists (map (λ a. a.report) (with_numbers B n ns calls))

-- THE TEST (02, Card 7)

-- the first of the numbers left does for what a call asks of the labels
unfoldable pub fits_next : ℕ → Labelling ℕ → LabelStep → Lists.List ℕ → Bool
fits_next n l stay ns = true
fits_next n l (snap k) [] = false
fits_next n l (snap k) (v ∷ ns) = let z = newest n (stands (numbered v) l) in cond (eqb k z) (eqb v 0) (ltb (l false z) v && leb v 4294967295)
fits_next n l (update k) ns = true

-- the second list begins with the first
unfoldable pub at_front : Lists.List ℕ → Lists.List ℕ → Bool
at_front [] m = true
at_front (x ∷ l) [] = false
at_front (x ∷ l) (y ∷ m) = eqb x y && at_front l m

-- from a state on: each call finds its number and what it writes at the front of what is left of the two lists, and in the end nothing is left
unfoldable pub right : Board → ℕ → State ℕ → Lists.List ℕ → Lists.List ℕ → Lists.List Call → Bool
right B n s ns report [] = eqb (length ns) 0 && eqb (length report) 0
right B n s ns report (c ∷ cs) =
    let a = step B n (numbered (get_or ns 0 0)) s c in
    let bytes = bytes_of a.report in
    fits_next n s.labels (label_step (judge B n s.rest c)) ns
    && (at_front bytes report && right B n a.state (drop (snaps_of B n s c) ns) (drop (length bytes) report) cs)
