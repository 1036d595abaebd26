-- The bounded labels owe what the sequence theorem asks, for every number of processes: the paper's invariant (sections 5 to 7) is the relation. So the
-- theorem holds of every board that fills them with 1.
use Prim.Native.Nat.{ℕ, suc, ◌-◌, ◌≤◌, ◌<◌}
use native.Mathlib.Omega.{arith}
use native.Mathlib.Decide.{ℕ_discrete}
use mathlib.Core.Path.{◌≡◌, refl, sym, subst, ◌∙◌}
use mathlib.Core.Logic.{◌≢◌, by_cases}
use mathlib.Core.Bool.{Bool, true, false, ◌||◌, cond}
use mathlib.Core.List as Lists
use lib.Dec.{eqb}
use Rattle.basics.specs.Tests.{newest}
use Rattle.label.specs.Labels.{Label, label_before, level, new_label}
use Rattle.basics.proofs.Facts.{Same, newest_same}
use Rattle.label.proofs.Order.{before_same, next_label_behind}
use Rattle.label.proofs.Choice.{Choice, level_spec}
use Rattle.simulation.specs.Calls.{Board, original, Call}
use Rattle.simulation.specs.Machine.{Labelling, put, copy, digits, State, step, fresh_label}
use Rattle.simulation.specs.Numbering.{slot_of, placed, numbers_of}
use Rattle.simulation.proofs.Labellings.{by_put}
use Rattle.simulation.proofs.Sync.{number_same, sync_before, by_number, newest_unique, newest_is}
use Rattle.simulation.proofs.Numbers.{Sits}
use Rattle.simulation.proofs.Invariant as Invariant
use Rattle.simulation.proofs.Invariant.{Inv}
use Rattle.simulation.proofs.Snap.{snap_step}
use Rattle.simulation.proofs.Update.{update_keeps}
use Rattle.simulation.proofs.Judged.{Inside, inside}
use Rattle.simulation.proofs.Simulable.{Simulable}
use Rattle.simulation.proofs.Follow.{step_keeps, Found, finds, Simulates, simulates}

-- past its m digits a new label is filled
pub new_behind : (m fill : ℕ) (t : ℕ → Label) (z k : ℕ) → z ≤ m → k ≤ m → k ≢ z → (p : ℕ) → m ≤ p → new_label m fill t z k p ≡ fill
unfolding new_label
new_behind m fill t z k lz lk d p h = next_label_behind fill (t z) (omega (arith, choice.inside))
  where
    choice : Choice m t (t z) k (level m t (t z) k)
    choice = level_spec m t (t z) k z lk lz (λ e. d (sym e)) refl

-- labels and the numbers N beside them, under the invariant; past m digits each label is 1
pub record Ready (m : ℕ) (l : Labelling Label) (N : Labelling ℕ) : Type 0 where
  pub z : ℕ
  pub top : Label
  pub inv : Inv m l N z top
  pub behind : (x : Bool) (i p : ℕ) → m ≤ p → l x i p ≡ 1

-- "stands before" by labels of m digits
abbrev pub by_label : ℕ → (ℕ → Label) → ℕ → ℕ → Bool
by_label m t i j = label_before m (t i) i (t j) j

-- n processes, and labels of m = n - 1 digits
module _ (n m : ℕ) (size : n ≡ suc m) where
  module _ (l : Labelling Label) (N : Labelling ℕ) (r : Ready m l N) where
    -- numbers give the same order
    pub same_order : Same n (by_label m (l false)) (by_number (N false))
    same_order i j li lj = by_cases (ℕ_discrete i j)
        (λ e. rw e (before_same m (l false j) j j ∙ sym (number_same (N false j) j j)))
        (λ d. sync_before i j (r.inv.sync false false i j (omega arith) (omega arith) d))

    pub newest_labels : newest n (by_label m (l false)) ≡ r.z
    newest_labels = newest_same n _ _ same_order ∙ newest_unique (rw (← size) at (newest_is m (N false))) r.inv.newest

  updates : (l : Labelling Label) (N : Labelling ℕ) → Ready m l N → (k : ℕ) → k < n → Ready m (copy l k) (copy N k)
  updates l N r k lk =
      let u = update_keeps r.inv k (omega arith) in
      record { z = u.0; top = u.1; inv = u.2; behind = λ x i p h. r.behind (x || eqb i k) i p h }

  -- a new label: its slot, and the invariant afterwards
  snaps : (l : Labelling Label) (N : Labelling ℕ) → Ready m l N → (k z : ℕ) → k < n → newest n (by_label m (l false)) ≡ z → k ≢ z
      → let new = new_label m 1 (l false) z k in
      let p = slot_of m (l true) (N true) (N false z) k new in
      Sits n N (N false z) p × Ready m (put l k new) (placed N k p).beside
  snaps l N r k z lk e d = (
    rw size t.0,
    record {
      z = z;
      top = l false z;
      inv = t.1;
      behind = λ x i p h. by_put (λ b. cond b new (l x i) p ≡ 1) x k i (λ _. new_behind m 1 (l false) z k inv.newest.station (omega arith) d p h)
          (r.behind x i p h);
    },
  )
    where
      new : Label
      new = new_label m 1 (l false) z k

      inv : Inv m l N z r.top
      inv = subst (λ y. Inv m l N y r.top) (sym (newest_labels l N r) ∙ e) r.inv

      t : let p = slot_of m (l true) (N true) (N false z) k new in Sits (suc m) N (N false z) p × Inv m (put l k new) (placed N k p).beside z (l false z)
      t = snap_step inv k (omega arith) d

pub fresh_ready : (m : ℕ) → Ready m (λ x i p. 1) (λ x i. 0)
fresh_ready m = record { z = m; top = λ p. 1; inv = Invariant.fresh m; behind = λ x i p h. refl }

-- THE BOARDS whose labels are so: those that are filled with 1
pub data Proper : Board → Type 0 where
  stepwise : (per known : ℕ) (apart : Bool) → 1 ≤ per → Proper (record { per_station = per; fill = 1; scan_apart = apart; known = known })

pub original_proper : Proper original
original_proper = stepwise 1 7 false (omega arith)

pub proper_some : {B : Board} → Proper B → 1 ≤ B.per_station
proper_some (stepwise per known apart h) = h

-- so their labels are simulable
pub bounded : {B : Board} → Proper B → (n : ℕ) → 1 ≤ n → Simulable n (digits B n) (fresh_label B) (Inside n)
bounded (stepwise per known apart h) n some = let size : n ≡ suc (n - 1) = omega arith in record {
  slot = slot_of (n - 1);
  R = Ready (n - 1);
  start = fresh_ready (n - 1);
  order = same_order n (n - 1) size;
  snaps = snaps n (n - 1) size;
  updates = updates n (n - 1) size;
}

-- the invariant after a call
pub ready_step : {B : Board} → Proper B → (n : ℕ) → 1 ≤ n → (s : State Label) (N : Labelling ℕ) (c : Call) → Ready (n - 1) s.labels N
    → (N' : Labelling ℕ) × Ready (n - 1) (step B n (digits B n) s c).state.labels N'
unfolding bounded
ready_step {B} (stepwise per known apart h) n some s N c r = step_keeps (bounded (stepwise per known apart h) n some) B (inside B n) s N c r

-- every sequence of calls has its numbers, and its advances
pub numbering : {B : Board} → Proper B → (n : ℕ) → 1 ≤ n → (cs : Lists.List Call) → Found B n (digits B n) (fresh_label B) cs (numbers_of B n cs)
unfolding bounded
numbering {B} (stepwise per known apart h) n some cs = finds (bounded (stepwise per known apart h) n some) B (inside B n) cs

pub simulation : {B : Board} → Proper B → (n : ℕ) → 1 ≤ n → (cs : Lists.List Call) → Simulates B n (digits B n) (fresh_label B) cs
simulation p n some cs = simulates (numbering p n some cs)
