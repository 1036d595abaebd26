-- How numbers are found beside the bounded machine, in one pass over the calls: the number of a new label goes to its slot among those in use, and whatever
-- stands above the slot, numbers given earlier too, moves up. That they fit, and that none is left out, is proved, so this page only tells which of the
-- numbers that do are chosen; demand 3 follows from them and does not name them.
use Rattle.std.specs.Prelude.{ℕ, zero, suc, max, ◌-◌, Bool, true, false, not, ◌&&◌, cond, [], ◌∷◌, ◌++◌, map, replicate, eqb, leb}
use mathlib.Core.List as Lists
use Rattle.basics.specs.Tests.{newest, first_from}
use Rattle.label.specs.Labels as Labels
use Rattle.label.specs.Labels.{other_agrees, label_below}
use Rattle.simulation.specs.Calls.{Board, Call, judge}
use Rattle.simulation.specs.Machine.{Labelling, put, copy, Rules, digits, stands, LabelStep, stay, snap, update, label_step}
use Rattle.simulation.specs.Machine.{State, fresh_label, fresh, step, snaps_of}

abbrev pub through : {A B : Type 0} → (A → B) → Labelling A → Labelling B
through f l x i = f (l x i)

-- room after c: the numbers above it go up by one
unfoldable pub bump : ℕ → ℕ → ℕ
bump c x = cond (leb x c) x (suc x)

-- where the number of a new label goes among those in use: it is one of them, or it comes right after c
pub data Slot : Type 0 where
  shared after : ℕ → Slot

abbrev pub number : Slot → ℕ
number (Slot.shared v) = v
number (Slot.after c) = suc c

abbrev pub shift : Slot → ℕ → ℕ
shift (Slot.shared v) x = x
shift (Slot.after c) x = bump c x

-- the highest of `base` and of the u i, over the i < k that pass
unfoldable pub highest : ℕ → (ℕ → Bool) → (ℕ → ℕ) → ℕ → ℕ
highest zero f u base = base
highest (suc k) f u base = cond (f k) (max (u k) (highest k f u base)) (highest k f u base)

-- the slot of the new label of process k, by the pending labels w of all m + 1 processes, their numbers u and the top number: shared with another process
-- that has this very label; else after the top number and the numbers of all other processes whose pending labels are below
unfoldable pub slot_of : ℕ → (ℕ → Labels.Label) → (ℕ → ℕ) → ℕ → ℕ → Labels.Label → Slot
slot_of m w u top k new =
    let i = first_from (suc m) 0 (other_agrees w new k m) in
    cond (leb i m) (Slot.shared (u i)) (Slot.after (highest (suc m) (λ i. not (eqb i k) && label_below m (w i) new) u top))

-- what a call does to numbers: to any in use, to those that stand beside the labels, and which one it gives to a snap for a label
pub record Renumbering : Type 0 where
  pub shift : ℕ → ℕ
  pub beside : Labelling ℕ
  pub number : ℕ

abbrev pub beside_only : Labelling ℕ → Renumbering
beside_only N = record { shift = λ x. x; beside = N; number = 0 }

abbrev pub placed : Labelling ℕ → ℕ → Slot → Renumbering
placed N k p = record { shift = shift p; beside = put (through (shift p) N) k (number p); number = number p }

-- over any rules, with a way to find slots
module _ {A : Type 0} (n : ℕ) (r : Rules A) (at : (ℕ → A) → (ℕ → ℕ) → ℕ → ℕ → A → Slot) where
  unfoldable pub renumber : Labelling A → Labelling ℕ → LabelStep → Renumbering
  renumber l N stay = beside_only N
  renumber l N (snap k) =
      let z = newest n (stands r l) in
      cond (eqb k z) (beside_only N) (placed N k (at (l true) (N true) (N false z) k (r.new (l false) z k)))
  renumber l N (update k) = beside_only (copy N k)

  -- one pass: the numbers given so far, moved up, and then those that these calls are given
  unfoldable pub renumbered : Board → State A → Labelling ℕ → Lists.List ℕ → Lists.List Call → Lists.List ℕ
  renumbered B s N given [] = given
  renumbered B s N given (c ∷ cs) =
      let e = renumber s.labels N (label_step (judge B n s.rest c)) in
      renumbered B (step B n r s c).state e.beside (map e.shift given ++ replicate (snaps_of B n s c) e.number) cs

-- THE NUMBERS of a sequence of calls on n processes of a board, from the fresh state
abbrev pub numbers_of : Board → ℕ → Lists.List Call → Lists.List ℕ
numbers_of B n cs = renumbered n (digits B n) (slot_of (n - 1)) B (fresh (fresh_label B)) (λ x i. 0) [] cs
