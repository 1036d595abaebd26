-- The step lines of a file, run with the numbers beside the table: one call, and the loop over the lines.
use Prim.Native.Nat.{ℕ, ◌+◌, ◌-◌, ◌≤◌, ◌<◌}
use native.Mathlib.Omega.{arith}
use mathlib.Core.Path.{◌≡◌, refl, sym, ap, ap₂, subst, ◌∙◌}
use mathlib.Core.Bool.{Bool, true, false, cond}
use mathlib.Core.List as Lists
use mathlib.Core.List.{[], ◌∷◌, ◌++◌, map}
use lib.ListN.{length, get_or, take, drop, replicate, length-append, length-map, length-replicate, length-drop, take-append-drop}
use lib.Seq.{take_at, drop_at, drop-drop, length-take-le}
use lib.Dec.{eqb}
use borrow.Author.Tests.{eqb-true, eq-eqb}
use Rattle.label.specs.Labels as Labels
use Rattle.label.specs.Valid.{Valid}
use Rattle.rows.specs.Held.{held}
use Rattle.simulation.specs.Calls.{Call, Buffer, judge, original}
use Rattle.simulation.specs.Machine.{Labelling, digits, LabelStep, snap, label_step, label_snap, relabelled, State, step, snaps_of}
use Rattle.simulation.specs.Numbering.{slot_of, Renumbering, renumber, renumbered, numbers_of}
use Rattle.simulation.proofs.Judged.{Inside, inside, snaps_by_3}
use Rattle.transition.specs.Forms.{over, fresh_table, step_of}
use Rattle.simulation.proofs.Simulation.{original_proper}
use Rattle.transition.proofs.Written.{original_sized}
use Rattle.transition.proofs.Reached.{reached_fresh}
use Rattle.transition.proofs.Theorem.{reached_held}
use Rattle.moves.specs.Moves.{move_of, call_of, place_of}
use Rattle.moves.proofs.MoveLaws.{step_any, place_below}
use Rattle.moves.specs.declared.Move.TheVariants.{SnapLabel}
use Rattle.arrays.specs.Planes as Planes
use Rattle.arrays.specs.Arrays.{Rows, Arrays, rest_of, state_of}
use Rattle.arrays.specs.Form.{lent}
use Rattle.arrays.proofs.Passed.{label_digits, newest_station}
use Rattle.arrays.proofs.States.{lent_lawful}
use Rattle.moves.specs.declared.Request.{Request}
use Rattle.schedule.specs.Numbers.{snap_calls}
use Rattle.schedule.proofs.Places.{calls_from, StepAt, calls_step}
use Rattle.schedule.proofs.Surveys.{one, one_few, snap_calls_lem}
use Rattle.file.specs.Clauses.{Runnable, Turns}
use Rattle.file.proofs.LineLaws.{run_passes, next_state}
use Rattle.std.specs.Prelude.{Ok, Err}
use Rattle.moves.specs.declared.Refusal.{Refusal}
use Rattle.numbering.proofs.Kept.{none_given}
use Rattle.file.specs.declared.Turn.{Turn}
use Rattle.numbering.specs.Clauses.{renumber_in, Renumbered, Counted, NumbersCall}
use Rattle.numbering.proofs.Renumbering.{Snapped, snapped_after, renumber_is, counted_kept}

-- A CALL, served on a table that calls leave of the fresh one
module _ {a : Arrays} {order : Lists.List ℕ} (f : Runnable a order) {c : Call} {a' : Arrays} {order' : Lists.List ℕ} (f' : Runnable a' order')
    {t : Turn} (g : Turns a c a' (Ok t)) where
  abbrev n : ℕ
  n = a.count

  -- the rows of the pending labels that it leaves
  abbrev pending : Rows
  pending = get_or a'.labels 1 []

  abbrev asked : LabelStep
  asked = label_step (judge original n (rest_of a) c)

  same_step : label_step (move_of t.handed.place 0 t.action) ≡ asked
  same_step = step_any t.handed.place c.job t.action ∙ ap label_step g.action

  pub call_place : t.handed.place < n
  call_place = omega (arith, g.hands.handed.place ∙ ap (λ b. cond b (place_of n c.station) 0) (run_passes f), place_below n c.station f.low)

  pub call_newest : t.newest < n
  call_newest = omega (arith, g.newest, newest_station a (run_passes f))

  pub call_valid : a'.count ≡ n → (i : ℕ) → i < n → Valid (n - 1) (held pending i)
  call_valid e i l p h = label_digits a' (run_passes f') true i p (omega arith) (omega arith)

  -- a snap for a label is of step 3
  pub call_three : t.action ≡ SnapLabel → c.code ≡ 3
  call_three e = go (eqb c.code 3) refl
    where
      snap_here : label_snap asked ≡ 1
      snap_here = ap label_snap (sym same_step) ∙ ap (λ m. label_snap (label_step (move_of t.handed.place 0 m))) e

      go : (b : Bool) → eqb c.code 3 ≡ b → c.code ≡ 3
      go true q = eqb-true c.code 3 q
      go false q = absurd (omega (arith, snap_here, snaps_by_3 original n (rest_of a) c, ap one q))

  -- the rows of pending labels are those after the snap
  snapped : (k : ℕ) → asked ≡ snap k → Snapped n (state_of a).labels pending t.newest k
  unfolding step
  snapped k e = snapped_after n (state_of a).labels pending t.newest k (subst (Inside n) e (inside original n (rest_of a) c)) g.newest
      (λ i l. ap (λ (s : State Labels.Label). s.labels true i) (ap state_of g.hands.table ∙ next_state f c)
      ∙ ap (λ w. relabelled n (digits original n) (state_of a).labels w true i) e)

  room_here : (count : ℕ) (list : Lists.List ℕ) → count ≤ length list → (c.code ≡ 3 → count < length list) → count + label_snap asked ≤ length list
  room_here count list low room = go (eqb c.code 3) refl
    where
      go : (b : Bool) → eqb c.code 3 ≡ b → count + label_snap asked ≤ length list
      go true q = omega (arith, room (eqb-true c.code 3 q), snaps_by_3 original n (rest_of a) c, ap one q)
      go false q = omega (arith, snaps_by_3 original n (rest_of a) c, ap one q)

  -- what the code makes of the numbers is what the call makes of them
  pub call_numbered : {numbers : Rows} {count : ℕ} {list : Lists.List ℕ} → count ≤ length list → (c.code ≡ 3 → count < length list)
      → Counted count numbers list → {numbers' : Rows} {count' : ℕ} {list' : Lists.List ℕ} → let w = label_step (move_of t.handed.place 0 t.action) in
      Renumbered (renumber_in n pending t.newest (Planes.beside numbers) w) (label_snap w) count list numbers' count' list'
      → NumbersCall a c numbers count list a' numbers' count' list'
  call_numbered {numbers} {count} {list} low room k {numbers'} {count'} {list'} r = record {
    table = g.hands.table;
    renumbered = subst (λ e. Renumbered e (label_snap asked) count list numbers' count' list')
        (sym (renumber_is n (state_of a).labels pending t.newest N asked (omega (arith, f.low)) snapped)) r';
    counted = counted_kept k n pending t.newest asked r' (room_here count list low room);
  }
    where
      N : Labelling ℕ
      N = Planes.beside numbers

      r' : Renumbered (renumber_in n pending t.newest N asked) (label_snap asked) count list numbers' count' list'
      r' = subst (λ w. Renumbered (renumber_in n pending t.newest N w) (label_snap w) count list numbers' count' list') same_step r

-- a call that is refused leaves the numbers
pub call_refused : {a : Arrays} {order : Lists.List ℕ} → Runnable a order → {c : Call} {a' : Arrays} {r : Refusal} → Turns a c a' (Err r)
    → {numbers : Rows} {count : ℕ} {list : Lists.List ℕ} → Counted count numbers list → NumbersCall a c numbers count list a' numbers count list
unfolding renumber
call_refused {a} f {c} g {numbers} {count} {list} k = record {
  table = g.hands.table;
  renumbered = subst (λ w. Renumbered (renumber a.count (digits original a.count) (slot_of (a.count - 1)) (state_of a).labels (Planes.beside numbers) w) (label_snap w)
      count list numbers count list) (ap label_step g.action) (none_given refl);
  counted = k;
}

-- THE LOOP: the numbers of all lines are those that the lines left make of the ones given so far
pub record Sofar (n : ℕ) (rest list₀ : Lists.List ℕ) (a : Arrays) (numbers : Rows) (count lines at : ℕ) (list : Lists.List ℕ) : Type 0 where
  pub within : at ≤ length rest
  pub few : (count < lines) × (lines ≤ 1000001)
  pub counted : Counted count numbers list
  pub room : count + snap_calls (calls_from lines rest at) ≤ length list
  pub same : length list ≡ length list₀
  pub kept : drop count list ≡ drop count list₀
  pub found : numbers_of original n (calls_from 1 rest 0)
      ≡ renumbered n (digits original n) (slot_of (n - 1)) original (state_of a) (Planes.beside numbers) (take count list) (calls_from lines rest at)

-- at first all numbers are 0
pub sofar_start : (n : ℕ) → 2 ≤ n → n ≤ 32 → (rest list : Lists.List ℕ) → snap_calls (calls_from 1 rest 0) ≤ length list → {a : Arrays} → a ≡ fresh_table lent n
    → {numbers : Rows} → Planes.beside numbers ≡ (λ x i. 0) → Sofar n rest list a numbers 0 1 0 list
sofar_start n low high rest list room {a} e {numbers} z = record {
  within = omega arith;
  few = (omega arith, omega arith);
  counted = record { beside = λ x i. omega (arith, ap (λ N. N x i) z); given = λ i h. absurd (omega (arith, h)) };
  room = omega (arith, room);
  same = refl;
  kept = refl;
  found = sym (ap₂ (λ s N. renumbered n (digits original n) (slot_of (n - 1)) original s N [] (calls_from 1 rest 0))
      (ap state_of e ∙ reached_held lent lent_lawful n (original_sized n low high) (reached_fresh original n (omega arith) original_proper)) z);
}

module _ {n : ℕ} {rest list₀ : Lists.List ℕ} {a : Arrays} {numbers : Rows} {count lines at : ℕ} {list : Lists.List ℕ}
    (f : Sofar n rest list₀ a numbers count lines at list) where
  -- no line is left
  pub sofar_end : calls_from lines rest at ≡ [] → let ns = numbers_of original n (calls_from 1 rest 0) in (count ≡ length ns) × (list ≡ over ns list₀)
  unfolding renumbered
  sofar_end e = (
    omega (arith, ap length found, long),
    sym (take-append-drop count list) ∙ (λ i. sym found i ++ f.kept i)
        ∙ ap (λ k. numbers_of original n (calls_from 1 rest 0) ++ drop k list₀) (sym (ap length found ∙ long)),
  )
    where
      found : numbers_of original n (calls_from 1 rest 0) ≡ take count list
      found = f.found ∙ ap (renumbered n (digits original n) (slot_of (n - 1)) original (state_of a) (Planes.beside numbers) (take count list)) e

      long : length (take count list) ≡ count
      long = length-take-le count list (omega (arith, f.room))

  -- a step
  module _ {q : Request} (e : StepAt lines rest at q) where
    abbrev call : Call
    call = call_of q (Buffer 928)

    abbrev next : Lists.List Call
    next = calls_from (lines + 1) rest (at + 18)

    here : calls_from lines rest at ≡ call ∷ next
    here = (calls_step lines rest at f.within e).0

    counts : snap_calls (calls_from lines rest at) ≡ one (eqb q.code 3) + snap_calls next
    counts = ap snap_calls here ∙ snap_calls_lem call next

    pub step_room : (count ≤ length list) × (q.code ≡ 3 → count < length list) × (count ≤ 1000000)
    step_room = (omega (arith, f.room), (λ c. omega (arith, f.room, counts, ap one (eq-eqb q.code 3 c))), omega (arith, f.few))

    pub sofar_more : a.count ≡ n → {a' : Arrays} {numbers' : Rows} {count' : ℕ} {list' : Lists.List ℕ}
        → NumbersCall a call numbers count list a' numbers' count' list'
        → state_of (step_of lent a call).table ≡ (step original n (digits original n) (state_of a) call).state
        → Sofar n rest list₀ a' numbers' count' (lines + 1) (at + 18) list'
    unfolding renumbered snaps_of
    sofar_more same_count {a'} {numbers'} {count'} {list'} g t = record {
      within = e.within;
      few = (omega (arith, r.counted, f.few.0, once, one_few (eqb q.code 3)), omega (arith, e.few));
      counted = g.counted;
      room = omega (arith, r.counted, f.room, counts, once, same);
      same = same ∙ f.same;
      kept = dropped ∙ sym (drop-drop ℓ count list) ∙ ap (drop ℓ) f.kept ∙ drop-drop ℓ count list₀ ∙ ap (λ k. drop k list₀) (sym r.counted);
      found = f.found ∙ ap (renumbered n (digits original n) (slot_of (n - 1)) original (state_of a) (Planes.beside numbers) (take count list)) here
          ∙ (λ i. renumbered n (digits original n) (slot_of (n - 1)) original (sym (ap state_of g.table ∙ t) i) (sym r.beside i) (sym taken i) next);
    }
      where
        w : LabelStep
        w = label_step (judge original n (rest_of a) call)

        ℓ : ℕ
        ℓ = label_snap w

        E : Renumbering
        E = renumber n (digits original n) (slot_of (n - 1)) (state_of a).labels (Planes.beside numbers) w

        r : Renumbered E ℓ count list numbers' count' list'
        r = subst (λ k. let v = label_step (judge original k (rest_of a) call) in
            Renumbered (renumber k (digits original k) (slot_of (k - 1)) (state_of a).labels (Planes.beside numbers) v) (label_snap v) count list
            numbers' count' list') same_count
            g.renumbered

        once : ℓ ≤ one (eqb q.code 3)
        once = snaps_by_3 original n (rest_of a) call

        fits : count + ℓ ≤ length list
        fits = omega (arith, f.room, counts, once)

        front : Lists.List ℕ
        front = map E.shift (take count list) ++ replicate ℓ E.number

        long : length front ≡ count'
        long = length-append (map E.shift (take count list)) (replicate ℓ E.number)
            ∙ ap₂ ◌+◌ (length-map (take count list) E.shift ∙ length-take-le count list (omega (arith, fits))) (length-replicate ℓ E.number)
            ∙ sym r.counted

        taken : take count' list' ≡ front
        taken = ap (take count') r.given ∙ take_at front (drop (count + ℓ) list) count' long

        dropped : drop count' list' ≡ drop (count + ℓ) list
        dropped = ap (drop count') r.given ∙ drop_at front (drop (count + ℓ) list) count' long

        same : length list' ≡ length list
        same = omega (arith, ap length r.given ∙ length-append front (drop (count + ℓ) list), length-drop (count + ℓ) list, long, r.counted, fits)
