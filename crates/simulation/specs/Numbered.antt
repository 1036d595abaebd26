-- Numbers in place of advances (02, Card 6): the unbounded machine is fed with numbers, and which ones fit a sequence of calls.
use Rattle.std.specs.Prelude.{ℕ, ◌-◌, ◌≤◌, ◌<◌, ◌≡◌, Bool, true, false, cond, length, get_or, drop, eqb}
use mathlib.Core.List as Lists
use mathlib.Core.List.{[], ◌∷◌, ◌++◌, map, Memᴰ}
use Rattle.basics.specs.Tests.{newest, All}
use Rattle.simulation.specs.Calls.{Board, Call, judge}
use Rattle.simulation.specs.Machine.{Labelling, Rules, number_before, stands, LabelStep, stay, snap, update, label_step, State, step, snaps_of}

-- UCTSS where a snap is given its number itself: it becomes pending, unless the process is the newest
abbrev pub numbered : ℕ → Rules ℕ
numbered v = record { before = number_before; new = λ t z k. v }

-- a snap for a label, seen by the unbounded machine: whether the newest process takes it, the top number, and the number given
pub record LabelSnap : Type 0 where
  pub by_newest : Bool
  pub top : ℕ
  pub number : ℕ

unfoldable pub met : ℕ → Labelling ℕ → LabelStep → ℕ → Lists.List LabelSnap
met n l stay v = []
met n l (snap k) v = let z = newest n (stands (numbered v) l) in record { by_newest = eqb k z; top = l false z; number = v } ∷ []
met n l (update k) v = []

-- all of a sequence of calls
unfoldable pub label_snaps : Board → ℕ → State ℕ → Lists.List ℕ → Lists.List Call → Lists.List LabelSnap
label_snaps B n s ns [] = []
label_snaps B n s ns (c ∷ cs) =
    let v = get_or ns 0 0 in
    met n s.labels (label_step (judge B n s.rest c)) v ++ label_snaps B n (step B n (numbered v) s c).state (drop (snaps_of B n s c) ns) cs

-- the newest process is given 0; any other a number above the top number, and no higher than `most`
pub record Fit (most : ℕ) (x : LabelSnap) : Type 0 where
  pub newest : x.by_newest ≡ true → x.number ≡ 0
  pub other : x.by_newest ≡ false → (x.top < x.number) × (x.number ≤ most)

-- the calls get one number for each snap for a label that is accepted, and each number fits
pub record Fits (B : Board) (n most : ℕ) (s : State ℕ) (ns : Lists.List ℕ) (cs : Lists.List Call) : Type 0 where
  pub one : length ns ≡ length (label_snaps B n s ns cs)
  pub each : All (Fit most) (label_snaps B n s ns cs)

-- the numbers from 1 to the highest all occur, in any order and any number of times
pub record Gapless (ns : Lists.List ℕ) : Type 0 where
  pub most : ℕ
  pub upto : All (λ v. v ≤ most) ns
  pub each : (v : ℕ) → 1 ≤ v → v ≤ most → Memᴰ v ns

-- the advances that come to these numbers; the one of the newest process is not used
abbrev pub advance : LabelSnap → ℕ
advance x = cond x.by_newest 1 (x.number - x.top)

abbrev pub advances : Board → ℕ → State ℕ → Lists.List ℕ → Lists.List Call → Lists.List ℕ
advances B n s ns cs = map advance (label_snaps B n s ns cs)

-- of each snap for a label that a machine accepts, whether the newest process takes it
unfoldable pub newest_snap : {A : Type 0} → ℕ → Rules A → Labelling A → LabelStep → Lists.List Bool
newest_snap n r l stay = []
newest_snap n r l (snap k) = eqb k (newest n (stands r l)) ∷ []
newest_snap n r l (update k) = []

unfoldable pub newest_snaps : {A : Type 0} → Board → ℕ → Rules A → State A → Lists.List Call → Lists.List Bool
newest_snaps B n r s [] = []
newest_snaps B n r s (c ∷ cs) = newest_snap n r s.labels (label_step (judge B n s.rest c)) ++ newest_snaps B n r (step B n r s c).state cs

-- which numbers are 0
abbrev pub zeros : Lists.List ℕ → Lists.List Bool
zeros ns = map (λ v. eqb v 0) ns
