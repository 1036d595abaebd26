-- Numbers beside a table of labels (02, Card 6): those of the stations in two planes, current and pending, and those given so far at the front of a list.
use Rattle.std.specs.Prelude.{ℕ, ◌+◌, ◌-◌, ◌≤◌, ◌<◌, ◌≡◌, Bool, true, false, cond, List, ◌++◌, map, get_or, take, drop, replicate, eqb}
use Rattle.rows.specs.Held.{held}
use Rattle.simulation.specs.Calls.{Call, judge, original}
use Rattle.simulation.specs.Machine.{Labelling, copy, digits, LabelStep, stay, snap, update, label_step, label_snap}
use Rattle.simulation.specs.Numbering as Numbering
use Rattle.simulation.specs.Numbering.{slot_of, Renumbering, beside_only, placed, renumber}
use Rattle.transition.specs.Forms.{step_of}
use Rattle.arrays.specs.Arrays.{Rows, Arrays, rest_of, state_of}
use Rattle.arrays.specs.Planes.{beside}
use Rattle.arrays.specs.Form.{lent}
use Rattle.numbering.specs.declared.Slot.{Slot}
use Rattle.numbering.specs.declared.Slot.TheVariants.{Shared, After}

-- a declared slot as the machine's
abbrev pub slot_for : Slot → Numbering.Slot
slot_for (Shared v) = Numbering.Slot.shared v
slot_for (After c) = Numbering.Slot.after c

-- the slot of the label of station k of n, where the rows hold the pending labels of all of them, u their numbers
abbrev pub slot_in : ℕ → Rows → (ℕ → ℕ) → ℕ → ℕ → Numbering.Slot
slot_in n rows u top k = slot_of (n - 1) (held rows) u top k (held rows k)

-- what a step of the labels makes of the numbers N, where z is the newest of n stations, and the rows hold the pending labels after the step
abbrev pub renumber_in : ℕ → Rows → ℕ → Labelling ℕ → LabelStep → Renumbering
renumber_in n rows z N stay = beside_only N
renumber_in n rows z N (snap k) = cond (eqb k z) (beside_only N) (placed N k (slot_in n rows (N true) (N false z) k))
renumber_in n rows z N (update k) = beside_only (copy N k)

-- the numbers kept have gone through a renumbering: those of the stations, and `count` given so far, the front of `list`, behind which ℓ more are given
pub record Renumbered (e : Renumbering) (ℓ count : ℕ) (list : List ℕ) (numbers' : Rows) (count' : ℕ) (list' : List ℕ) : Type 0 where
  pub beside : beside numbers' ≡ e.beside
  pub counted : count' ≡ count + ℓ
  pub given : list' ≡ (map e.shift (take count list) ++ replicate ℓ e.number) ++ drop (count + ℓ) list

-- no number kept is above the count of those given
pub record Counted (count : ℕ) (numbers : Rows) (list : List ℕ) : Type 0 where
  pub beside : (x : Bool) (i : ℕ) → beside numbers x i ≤ count
  pub given : (i : ℕ) → i < count → get_or list i 0 ≤ count

-- the step call c on the table a, with the numbers beside it: the table left, and what the call makes of the numbers
pub record NumbersCall (a : Arrays) (c : Call) (numbers : Rows) (count : ℕ) (list : List ℕ) (a' : Arrays) (numbers' : Rows) (count' : ℕ) (list' : List ℕ)
    : Type 0 where
  pub table : a' ≡ (step_of lent a c).table
  pub renumbered : let n = a.count in let w = label_step (judge original n (rest_of a) c) in
      Renumbered (renumber n (digits original n) (slot_of (n - 1)) (state_of a).labels (beside numbers) w) (label_snap w) count list numbers' count' list'
  pub counted : Counted count' numbers' list'
