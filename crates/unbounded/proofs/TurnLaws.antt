-- A turn of the unbounded table: what a move is given of the log's numbers; and a call, judged and carried out by the engine on what is not numbers, and by
-- them on the numbers, is the machine's step.
use Prim.Native.Nat.{ℕ, ◌+◌, ◌-◌, ◌≤◌, ◌<◌}
use native.Mathlib.Nat.{zero-add}
use native.Mathlib.Omega.{arith}
use mathlib.Core.Path.{◌≡◌, refl, sym, ap, ap₂, subst, ◌∙◌}
use mathlib.Core.Logic.{◌≢◌}
use mathlib.Core.Bool.{Bool, true, false, ◌&&◌, cond}
use mathlib.Core.List as Lists
use mathlib.Core.List.{[], ◌++◌}
use lib.ListN.{length, get_or, take, drop, replicate, drop_of_length-le}
use lib.Seq.{drop-cons}
use lib.Dec.{eqb, ltb, leb}
use mir.Val.{bool_byte}
use Rattle.std.specs.Prelude.{Option, Some, None, is_some, Result, Ok, Err, IfOk}
use borrow.Author.Tests.{eqb-true, leb-true}
use Rattle.basics.specs.Tests.{newest, ordered, All}
use Rattle.basics.proofs.Facts.{and_both, all_at, all_weaken, length_tabulate, get_d_tabulate, ordered_length}
use Rattle.rows.proofs.OrderLaws.{listed_below, order_front, order_long}
use Rattle.simulation.specs.Calls.{Call, Buffer, Entry, Rest, judge, report_lines, original}
use Rattle.simulation.specs.Machine.{Labelling, number_before, stands, snap, label_step, label_snap, relabelled, scan_of, Outcome, carry_out}
use Rattle.simulation.specs.Machine.{fresh_rest, fresh, step, snaps_of}
use Rattle.simulation.specs.Numbered.{numbered}
use Rattle.simulation.proofs.Touched.{results_all}
use Rattle.transition.specs.Logs.{fits_next}
use Rattle.transition.proofs.Written.{original_sized, WritableRest, rest_step}
use Rattle.transition.proofs.Reached.{scan_sound, rest_fresh}
use Rattle.moves.specs.Moves.{move_of, call_of, place_of}
use Rattle.moves.proofs.MoveLaws.{by_move, step_any}
use Rattle.moves.specs.declared.Move.{Move}
use Rattle.moves.specs.declared.Move.TheVariants.{SnapLabel, Update}
use Rattle.moves.specs.declared.Refusal.{Refusal}
use Rattle.arrays.specs.Arrays.{Rows, Planes, cell, entries_in, Holds}
use Rattle.arrays.specs.Planes.{beside}
use Rattle.arrays.proofs.Results.{entries_listed}
use Rattle.arrays.proofs.States.{number_kept, held_phases, rest_held}
use Rattle.arrays.proofs.Planes.{none_beside}
use Rattle.engine.specs.Clauses.{action_of, hands_out, handed_by, PreparedRest, rest_after, CarriesRest, Judges, Named}
use Rattle.engine.proofs.Carried.{refused}
use Rattle.engine.proofs.Served.{task_inside, judged_few, rest_ready, rest_judged}
use Rattle.engine.specs.declared.Handed.{Handed}
use Rattle.moves.specs.declared.Request.{Request}
use Rattle.engine.specs.declared.Task.{Task}
use Rattle.unbounded.specs.Numbers.{order_by, NumberedBefore, stepped_by}
use Rattle.unbounded.specs.Tables.{Table, table, restᵘ, stateᵘ, Runnableᵘ, taken, GivenTo, Handsᵘ, Servedᵘ, Turnsᵘ}
use Rattle.unbounded.proofs.NumberLaws.{newest_step, order_first, order_newest, order_stays, order_before}

-- WHAT A MOVE IS GIVEN

-- the test of a number v for a snap by station k, where z is the newest
abbrev test : ℕ → ℕ → Lists.List ℕ → ℕ → Bool
test k z current v = cond (eqb k z) (eqb v 0) (ltb (get_or current z 0) v && leb v 4294967295)

pub test_low : (k z : ℕ) (current : Lists.List ℕ) (v : ℕ) → test k z current v ≡ true → v ≤ 4294967295
test_low k z current v = go (eqb k z)
  where
    go : (b : Bool) → cond b (eqb v 0) (ltb (get_or current z 0) v && leb v 4294967295) ≡ true → v ≤ 4294967295
    go true e = omega (arith, eqb-true v 0 e)
    go false e = leb-true v 4294967295 (and_both (ltb (get_or current z 0) v) (leb v 4294967295) e).1

module _ (m : Move) (k z : ℕ) (current log : Lists.List ℕ) (used : ℕ) where
  -- a snap for a label
  module _ (e : m ≡ SnapLabel) where
    snap_fits : used < length log → (n job : ℕ) (N : Labelling ℕ) → N false ≡ (λ i. get_or current i 0) → z ≡ newest n (stands (numbered 0) N)
        → test k z current (get_or log used 0) ≡ fits_next n N (label_step (move_of k job m)) (drop used log)
    unfolding fits_next
    snap_fits h n job N same q = rw (e, drop-cons log used 0 h)
        (ap₂ (λ y (u : ℕ → ℕ). cond (eqb k y) (eqb (get_or log used 0) 0) (ltb (u y) (get_or log used 0) && leb (get_or log used 0) 4294967295)) q (sym same))

    pub number_given : used < length log → {v w : ℕ} → v ≡ get_or log used 0 → w ≡ v → true ≡ test k z current v
        → GivenTo m k z current log used (Some (Some w))
    number_given h a b d = record {
      passes = λ n job N same q. d ∙ ap (test k z current) a ∙ snap_fits h n job N same q;
      next = λ _. ap Some (b ∙ a ∙ sym (ap (λ (l : Lists.List ℕ). get_or l 0 0) (drop-cons log used 0 h)));
      counted = λ job. rw e refl;
      inside = omega (arith, h);
    }

    pub number_unfit : used < length log → {v : ℕ} → v ≡ get_or log used 0 → false ≡ test k z current v → GivenTo m k z current log used None
    number_unfit h a d =
        record { passes = λ n job N same q. d ∙ ap (test k z current) a ∙ snap_fits h n job N same q; next = tt; counted = tt; inside = tt }

    pub none_left : length log ≤ used → GivenTo m k z current log used None
    unfolding fits_next
    none_left h =
        record { passes = λ n job N same q. rw (e, drop_of_length-le log {i = used} h) refl; next = tt; counted = tt; inside = tt }

  -- any other move
  pub none_taken : m ≢ SnapLabel → used ≤ length log → GivenTo m k z current log used (Some None)
  unfolding fits_next
  none_taken d low = record {
    passes = λ n job N same q. by_move (λ x. x ≢ SnapLabel → true ≡ fits_next n N (label_step (move_of k job x)) (drop used log))
        (λ d. refl) (λ d. absurd (d refl)) (λ d. refl) (λ d. refl) (λ d. refl) (λ d. refl) (λ d. refl) (λ d. refl) m d;
    next = λ e. absurd (d e);
    counted = λ job. by_move (λ x. x ≢ SnapLabel → 0 ≡ label_snap (label_step (move_of k job x)))
        (λ d. refl) (λ d. absurd (d refl)) (λ d. refl) (λ d. refl) (λ d. refl) (λ d. refl) (λ d. refl) (λ d. refl) m d;
    inside = omega (arith, low);
  }

-- the number matters to a snap for a label alone
number_unused : (n u v : ℕ) (N : Labelling ℕ) (k job : ℕ) (m : Move) → (m ≡ SnapLabel → u ≡ v)
    → relabelled n (numbered u) N (label_step (move_of k job m)) ≡ relabelled n (numbered v) N (label_step (move_of k job m))
unfolding relabelled
number_unused n u v N k job = by_move
    (λ m. (m ≡ SnapLabel → u ≡ v) → relabelled n (numbered u) N (label_step (move_of k job m)) ≡ relabelled n (numbered v) N (label_step (move_of k job m)))
    (λ f. refl) (λ f. ap (λ w. relabelled n (numbered w) N (snap k)) (f refl)) (λ f. refl) (λ f. refl) (λ f. refl) (λ f. refl) (λ f. refl) (λ f. refl)

-- A TURN

-- a number taken, as the code counts it
pub taken_byte : (u : Option ℕ) {b : Bool} → b ≡ is_some u → bool_byte b ≡ taken u
taken_byte None e = rw e refl
taken_byte (Some v) e = rw e refl

-- a result of stations up to n names them in its rows
rows_named : (n : ℕ) (rows : Rows) → n ≤ 32 → (k : ℕ) → All (λ (e : Entry). e.station ≤ n) (entries_in k rows) → Named k rows
rows_named n rows high k a p h =
    omega (arith, high, subst (λ (e : Entry). e.station ≤ n) at (all_at _ (entries_in k rows) none a p (rw length_tabulate h)))
  where
    none : Entry
    none = record { station = 0; job = 0 }

    at : get_or (entries_in k rows) p none ≡ record { station = cell rows 0 p 0; job = cell rows 1 p 0 }
    at = get_d_tabulate k 0 p _ none h ∙ ap (λ (i : ℕ). record { station = cell rows 0 i 0; job = cell rows 1 i 0 }) (zero-add p)

module _ {t : Table} {order : Lists.List ℕ} (f : Runnableᵘ t order) where
  abbrev n : ℕ
  n = t.count

  abbrev current : Lists.List ℕ
  current = get_or t.numbers 0 []

  abbrev in_order : ℕ → ℕ → Bool
  in_order = stands (numbered 0) (beside t.numbers)

  writable : WritableRest original n (restᵘ t)
  writable = record {
    listed = λ i. entries_listed n (get_or t.results i []);
    phase = λ i. number_kept (cell t.control 0 i 0);
    past = λ i h. (f.past i h).0;
    unused = λ i h. (f.past i (omega arith)).1;
  }

  known : (i : ℕ) → i < n → cell t.control 0 i 0 ≤ 4
  known i _ = held_phases n f.high (restᵘ t) writable f.holds i

  front : take n order ≡ ordered n in_order
  front = order_front 32 in_order n order f.is_order

  -- what a scan stores names stations
  abbrev Names : Lists.List Entry → Type 0
  Names l = All (λ (e : Entry). e.station ≤ n) l

  scan_names : Names (scan_of (restᵘ t).process (ordered n in_order))
  scan_names = all_weaken (λ e h. h.1) (scan_of (restᵘ t).process (ordered n in_order))
      (scan_sound original n (omega (arith, f.low)) (restᵘ t).process in_order).each

  pub turn_newest : get_or order (n - 1) 0 ≡ newest n in_order
  turn_newest = order_newest n 0 t.numbers order f.is_order (omega (arith, f.low))

  pub turn_low : get_or order (n - 1) 0 < 32
  turn_low = omega (arith, listed_below in_order n order front (n - 1) (omega (arith, f.low)), f.high)

  abbrev newest_there : ℕ
  newest_there = get_or order (n - 1) 0

  module _ {q : Request} {x : Result Task Refusal} (j : Judges n t.control t.results q (Buffer 928) newest_there x) where
    abbrev c : Call
    c = call_of q (Buffer 928)

    pub turn_prepared : PreparedRest n t.jobs t.control t.results x order
    turn_prepared = rest_ready n f.low t.jobs t.control t.results known q (Buffer 928) newest_there x j order f.holds f.high
        (omega (arith, order_long 32 in_order n order f.is_order f.high, f.high), λ p h. omega (arith, listed_below in_order n order front p h, f.high))
        (rows_named n (get_or t.results (place_of n q.station) []) f.high _ (f.named (place_of n q.station)))

    judged : action_of x ≡ judge original n (restᵘ t) c
    judged = rest_judged n f.low t.jobs t.control t.results known q (Buffer 928) newest_there j

    fits_judged : {b : Bool} (log : Lists.List ℕ) → b ≡ fits_next n (beside t.numbers) (label_step (action_of x)) log
        → b ≡ fits_next n (beside t.numbers) (label_step (judge original n (restᵘ t) c)) log
    fits_judged log e = e ∙ ap (λ w. fits_next n (beside t.numbers) (label_step w) log) judged

    -- the rest is carried out, and the numbers are, where v is given
    module _ {j' c' : Rows} {r' : Planes} {h : Result Handed Refusal} (k : CarriesRest (rest_after n t.jobs t.control t.results x order) x j' c' r' h)
        (numbers' : Rows) (v : ℕ) (l : beside numbers' ≡ stepped_by newest_there v (beside t.numbers) (label_step (action_of x))) where
      abbrev left : Table
      left = table n numbers' j' c' r'

      renumbered : beside numbers' ≡ relabelled n (numbered v) (beside t.numbers) (label_step (action_of x))
      renumbered = l ∙ newest_step n newest_there v (beside t.numbers) (label_step (action_of x)) turn_newest

      -- what the machine comes to
      outcome : rest_after n t.jobs t.control t.results x order ≡ carry_out original (ordered n in_order) (restᵘ t) (judge original n (restᵘ t) c)
      outcome = ap₂ (λ l w. carry_out original l (restᵘ t) w) front judged

      abbrev after : Outcome
      after = carry_out original (ordered n in_order) (restᵘ t) (judge original n (restᵘ t) c)

      held : Holds after.rest j' c' r'
      held = subst (λ (y : Outcome). Holds y.rest j' c' r') outcome k.holds

      after_writable : WritableRest original n after.rest
      after_writable = rest_step original n (original_sized n f.low f.high) (restᵘ t) writable c (ordered n in_order) (ordered_length in_order n)

      rest_left : restᵘ left ≡ after.rest
      rest_left = rest_held n f.high after.rest after_writable held

      hands_it : (y : Result Task Refusal) → Judges n t.control t.results q (Buffer 928) newest_there y → (g : Result Handed Refusal) → g ≡ handed_by y
          → IfOk g (λ u. Named u.entries (get_or r' u.place [])) → IfOk g (Handsᵘ t c left)
      hands_it (Ok y) i (Ok u) e named =
          let p : u.place ≡ y.place = cc in
          let d : u.entries ≡ hands_out y.shown y.action = cc in
          record {
            place = p ∙ i.task.place;
            inside = omega (arith, p, task_inside n f.low t.jobs t.control t.results known q (Buffer 928) newest_there i, f.high);
            few = omega (arith, d, judged_few n f.low t.jobs t.control t.results known q (Buffer 928) newest_there i f.high);
            named = named;
          }
      hands_it (Err y) i (Ok u) e named = absurd (cc)
      hands_it y i (Err u) e named = tt

      pub turn_served : {log : Lists.List ℕ} {used used' : ℕ}
          → relabelled n (numbered v) (beside t.numbers) (label_step (action_of x))
          ≡ relabelled n (numbered (get_or (drop used log) 0 0)) (beside t.numbers) (label_step (action_of x))
          → used' ≡ used + label_snap (label_step (action_of x)) → used' ≤ length log
          → Servedᵘ t c log used left (record { used = used'; handed = h })
      unfolding step snaps_of
      turn_served {log} {used} {used'} same counted enough =
          let labels : beside numbers' ≡ relabelled n (numbered (get_or (drop used log) 0 0)) (beside t.numbers) (label_step (judge original n (restᵘ t) c))
          = renumbered ∙ same ∙ ap (λ w. relabelled n (numbered (get_or (drop used log) 0 0)) (beside t.numbers) (label_step w)) judged in
          record {
            state = λ y. record { labels = labels y; rest = rest_left y };
            counted = counted ∙ ap (λ w. used + label_snap (label_step w)) judged;
            enough = enough;
            number = k.number ∙ ap (λ (y : Outcome). y.refusal) outcome;
            handed = hands_it x j h k.told k.named;
            report = ap (report_lines c.line 1) (sym (ap (λ (y : Outcome). y.handed) outcome) ∙ k.handed);
          }

      pub turn_runnable : {order' : Lists.List ℕ} → order' ≡ order_by n (get_or numbers' 0 []) → Runnableᵘ left order'
      turn_runnable o = record {
        low = f.low;
        high = f.high;
        holds = subst (λ y. Holds y j' c' r') (sym rest_left) held;
        past = λ i u. (
          ap (λ (o : Rest). o.process i) rest_left ∙ after_writable.past i u,
          ap (λ (o : Rest). o.result i) rest_left ∙ after_writable.unused i (omega arith),
        );
        named = λ i. subst (λ (o : Rest). Names (o.result i)) (sym rest_left)
            (results_all original (ordered n in_order) (restᵘ t) Names scan_names f.named (judge original n (restᵘ t) c) i);
        is_order = o;
      }

  -- a refused call
  pub turn_refused : {q : Request} {r : Refusal} → Judges n t.control t.results q (Buffer 928) newest_there (Err r) → {log : Lists.List ℕ} {used : ℕ}
      → used ≤ length log → Turnsᵘ t order (call_of q (Buffer 928)) log used t order (Some (record { used = used; handed = Err r }))
  unfolding fits_next relabelled
  turn_refused j {log} {used} low = record {
    fits = fits_judged j (drop used log) refl;
    served = turn_served j (refused (turn_prepared j)) t.numbers 0 refl {used' = used} refl (omega arith) low;
    kept = tt;
  }

  -- a task, and what it is given
  module _ {q : Request} {x : Task} (j : Judges n t.control t.results q (Buffer 928) newest_there (Ok x)) where
    pub turn_place : x.place < n
    turn_place = task_inside n f.low t.jobs t.control t.results known q (Buffer 928) newest_there j

    fits_given : {b : Bool} (log : Lists.List ℕ) (used : ℕ)
        → ((n' job : ℕ) (N : Labelling ℕ) → N false ≡ (λ i. get_or current i 0) → newest_there ≡ newest n' (stands (numbered 0) N)
        → b ≡ fits_next n' N (label_step (move_of x.place job x.action)) (drop used log))
        → b ≡ fits_next n (beside t.numbers) (label_step (judge original n (restᵘ t) (call_of q (Buffer 928)))) (drop used log)
    fits_given log used g = fits_judged j (drop used log) (g n x.job (beside t.numbers) refl turn_newest)

    -- its number does not fit
    pub turn_unfit : {log : Lists.List ℕ} {used : ℕ} → GivenTo x.action x.place newest_there current log used None
        → Turnsᵘ t order (call_of q (Buffer 928)) log used t order None
    turn_unfit {log} {used} g = record { fits = fits_given log used g.passes; served = tt; kept = record { table = refl; listed = refl } }

    -- its number fits
    module _ {log : Lists.List ℕ} {used : ℕ} {u : Option ℕ} (g : GivenTo x.action x.place newest_there current log used (Some u)) {j' c' : Rows} {r' : Planes}
        {h : Result Handed Refusal} (k : CarriesRest (rest_after n t.jobs t.control t.results (Ok x) order) (Ok x) j' c' r' h) (numbers' : Rows) (v : ℕ)
        (l : beside numbers' ≡ stepped_by newest_there v (beside t.numbers) (label_step (move_of x.place 0 x.action))) where
      stepped : beside numbers' ≡ stepped_by newest_there v (beside t.numbers) (label_step (action_of (Ok x)))
      stepped = l ∙ ap (stepped_by newest_there v (beside t.numbers)) (step_any x.place x.job x.action)

      pub turn_before : NumberedBefore n (get_or numbers' 0 []) x.place order
      turn_before = order_before n v x.place x.job x.action t.numbers numbers' (renumbered j k numbers' v stepped) f.is_order

      pub turn_kept : x.action ≢ Update → order ≡ order_by n (get_or numbers' 0 [])
      turn_kept d = f.is_order ∙ order_stays n v x.place x.job x.action t.numbers numbers' (renumbered j k numbers' v stepped) d

      pub turn_done : {order' : Lists.List ℕ} {used' : ℕ} → (u ≡ Some (get_or (drop used log) 0 0) → v ≡ get_or (drop used log) 0 0) → used' ≡ used + taken u
          → Turnsᵘ t order (call_of q (Buffer 928)) log used (table n numbers' j' c' r') order' (Some (record { used = used'; handed = h }))
      turn_done e d = record {
        fits = fits_given log used g.passes;
        served = turn_served j k numbers' v stepped
            (number_unused n v (get_or (drop used log) 0 0) (beside t.numbers) x.place x.job x.action (λ y. e (g.next y)))
            (d ∙ ap (λ y. used + y) (g.counted x.job)) (omega (arith, g.inside));
        kept = tt;
      }

      pub turn_ready : {order' : Lists.List ℕ} → order' ≡ order_by n (get_or numbers' 0 []) → Runnableᵘ (table n numbers' j' c' r') order'
      turn_ready = turn_runnable j k numbers' v stepped

-- the fresh table
module _ (n : ℕ) (low : 2 ≤ n) (high : n ≤ 32) {j c : Rows} {r : Planes} (h : Holds fresh_rest j c r) where
  abbrev fresh_table : Table
  fresh_table = table n (replicate 2 (replicate 32 0)) j c r

  rest_first : restᵘ fresh_table ≡ fresh_rest
  rest_first = rest_held n high fresh_rest (rest_fresh original n (omega (arith, low))) h

  pub fresh_state : stateᵘ fresh_table ≡ fresh 0
  fresh_state = λ y. record { labels = none_beside y; rest = rest_first y }

  pub fresh_runnable : {order : Lists.List ℕ} → order ≡ ordered n (λ i j. number_before 0 i 0 j) ++ replicate (32 - n) 0 → Runnableᵘ fresh_table order
  fresh_runnable o = record {
    low = low;
    high = high;
    holds = subst (λ y. Holds y j c r) (sym rest_first) h;
    past = λ i _. (ap (λ (o : Rest). o.process i) rest_first, ap (λ (o : Rest). o.result i) rest_first);
    named = λ i. subst (λ (o : Rest). All (λ (e : Entry). e.station ≤ n) (o.result i)) (sym rest_first) tt;
    is_order = o ∙ order_first n;
  }
