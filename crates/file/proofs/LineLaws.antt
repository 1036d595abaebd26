-- A step line, served on a table that calls leave of the fresh one: carrying out its task is the step call, the table left is such a table again, and its
-- labels in order are told from those before.
use Prim.Native.Nat.{ℕ, ◌-◌, ◌*◌, ◌≤◌, ◌<◌}
use Rattle.std.specs.Prelude.{Result, Ok, Err}
use native.Mathlib.Omega.{arith}
use mathlib.Core.Path.{◌≡◌, refl, sym, ap, subst, ◌∙◌}
use mathlib.Core.Logic.{◌≢◌}
use mathlib.Core.Bool.{true, false}
use mathlib.Core.List as Lists
use mathlib.Core.List.{[], ◌∷◌, ◌++◌}
use lib.ListN.{length, get_or, replicate}
use borrow.Author.Tests.{eq-eqb, ne_eqb}
use Rattle.basics.specs.Tests.{newest, ordered}
use Rattle.label.specs.Labels as Labels
use Rattle.label.specs.Labels.{label_before}
use Rattle.rows.specs.Held.{stands_in, Orderly, OrderedBefore}
use Rattle.rows.proofs.OrderLaws.{order_front, orderly_total, last_newest}
use Rattle.simulation.specs.Calls as Calls
use Rattle.simulation.specs.Calls.{Buffer, Call, report_lines, bytes_of, written, original}
use Rattle.simulation.specs.Machine.{digits, Labelling, label_step, relabelled, State, step}
use Rattle.simulation.proofs.Touched.{touched, labels_kept}
use Rattle.transition.specs.Forms.{Form, TableAnswer, over, fresh_table, step_of, after}
use Rattle.transition.proofs.Written.{Sized, original_sized}
use Rattle.transition.proofs.Theorem.{reached_held, reached_written, reached_next}
use Rattle.transition.proofs.Theorem.{ReachedTable, table_fresh, table_count, table_passes, table_step, table_after}
use Rattle.moves.specs.Moves.{refusal_number, move_of, call_of}
use Rattle.moves.proofs.MoveLaws.{by_move, positive, place_below}
use Rattle.moves.specs.declared.Refusal.{Refusal}
use Rattle.moves.specs.declared.Move.{Move}
use Rattle.moves.specs.declared.Move.TheVariants.{Update}
use Rattle.arrays.specs.Arrays.{Arrays, entries_in, state_of}
use Rattle.arrays.specs.WellFormed.{well_formed}
use Rattle.arrays.specs.Form.{lent}
use Rattle.arrays.proofs.States.{lent_lawful}
use Rattle.engine.specs.Scans.{order_of}
use Rattle.engine.specs.Clauses.{action_of, handed_by, Prepared, Carries, Judges, Hands}
use Rattle.engine.proofs.Reports.{result_length}
use Rattle.engine.proofs.Served.{orderly, all_ready, judged, served, bytes_fit}
use Rattle.engine.specs.declared.Handed.{Handed}
use Rattle.moves.specs.declared.Request.{Request}
use Rattle.engine.specs.declared.Task.{Task}
use Rattle.schedule.specs.Files.{printed}
use Rattle.file.specs.Clauses.{Runnable, Turns, Prints}
use Rattle.file.specs.declared.Turn.{Turn}

-- one call more
after_more : (F : Form) (cs : Lists.List Call) (c : Call) (t : F.Table) → after F t (cs ++ (c ∷ [])) ≡ (step_of F (after F t cs) c).table
unfolding after
after_more F [] c t = refl
after_more F (d ∷ cs) c t = after_more F cs c (step_of F t d).table

-- the order of n stations by their labels
abbrev order_by : ℕ → (ℕ → Labels.Label) → Lists.List ℕ
order_by n l = ordered n (λ i j. label_before (n - 1) (l i) i (l j) j) ++ replicate (32 - n) 0

-- what a move does not touch
untouched : (k job i : ℕ) → i ≢ k → (m : Move) → touched (move_of k job m) i ≡ false
untouched k job i d = let e = ne_eqb i k d in by_move (λ m. touched (move_of k job m) i ≡ false) e e e e e e e e

labels_same : (n k job : ℕ) (l : Labelling Labels.Label) (m : Move) → m ≢ Update → relabelled n (digits original n) l (label_step (move_of k job m)) false ≡ l false
unfolding relabelled
labels_same n k job l = by_move (λ m. m ≢ Update → relabelled n (digits original n) l (label_step (move_of k job m)) false ≡ l false)
    (λ d. refl) (λ d. refl) (λ d. refl) (λ d. absurd (d refl)) (λ d. refl) (λ d. refl) (λ d. refl) (λ d. refl)

-- what hands something out is a task
pub task_given : {h : Handed} {x : Result Task Refusal} {r : Refusal} → Ok h ≡ handed_by x → x ≡ Err r → ⊥
task_given {h} {x} {r} e w = let q : Ok h ≡ Err r = e ∙ ap handed_by w in cc

module _ {a : Arrays} {order : Lists.List ℕ} (f : Runnable a order) where
  abbrev n : ℕ
  n = a.count

  size : Sized original n
  size = original_sized n f.low f.high

  pub run_reached : ReachedTable lent n a
  run_reached = subst (ReachedTable lent n) (sym f.reached)
      (table_after lent lent_lawful n size f.calls (fresh_table lent n) (table_fresh lent lent_lawful n size))

  pub run_passes : well_formed a ≡ true
  run_passes = table_passes lent lent_lawful n size a run_reached

  -- the table holds a reached state, and a step call leaves the one that the machine does
  held : state_of a ≡ run_reached.state
  held = ap state_of run_reached.holds ∙ reached_held lent lent_lawful n size run_reached.reached

  pub next_state : (c : Call) → state_of (step_of lent a c).table ≡ (step original n (digits original n) (state_of a) c).state
  next_state c =
      let r = run_reached in
      ap (λ t. state_of (step_of lent t c).table) r.holds
      ∙ ap (λ (u : TableAnswer Arrays). state_of u.table) (reached_written lent lent_lawful n size r.reached c)
      ∙ reached_held lent lent_lawful n size (reached_next lent lent_lawful n size r.reached c)
      ∙ ap (λ (s : State Labels.Label). (step original n (digits original n) s c).state) (sym held)

  pub count_after : (c : Call) → (step_of lent a c).table.count ≡ n
  count_after c = table_count lent lent_lawful n size _ (table_step lent lent_lawful n size a run_reached c)

  pub run_orderly : Orderly n (get_or a.labels 0 [])
  run_orderly = orderly a run_passes

  -- the order lists the newest station last
  pub run_newest : get_or order (n - 1) 0 ≡ newest n (stands_in n (get_or a.labels 0 []))
  run_newest = last_newest n _ order (orderly_total n _ run_orderly) (omega (arith, f.low)) (order_front 32 _ n order f.is_order)

  module _ {q : Request} {x : Result Task Refusal} (j : Judges n a.control a.results q (Buffer 928) (get_or order (n - 1) 0) x) where
    abbrev c : Call
    c = call_of q (Buffer 928)

    pub line_ready : Prepared a x order
    line_ready = all_ready a run_passes q (Buffer 928) _ x j order run_newest f.is_order

    module _ {a' : Arrays} {r : Result Handed Refusal} (g : Carries a x a' r) where
      hands : Hands a c a' r
      hands = served a run_passes q (Buffer 928) _ j refl refl g

      line_reached : ReachedTable lent n a'
      line_reached = subst (ReachedTable lent n) (sym hands.table) (table_step lent lent_lawful n size a run_reached c)

      same_count : a'.count ≡ n
      same_count = table_count lent lent_lawful n size a' line_reached

      -- the labels left are those that the machine leaves
      line_labels : (state_of a').labels false ≡ relabelled n (digits original n) (state_of a).labels (label_step (action_of x)) false
      unfolding step
      line_labels = ap (λ (s : State Labels.Label). s.labels false) (ap state_of hands.table ∙ next_state c)
          ∙ ap (λ w. relabelled n (digits original n) (state_of a).labels (label_step w) false) (sym (judged a run_passes q (Buffer 928) _ j))

      pub line_orderly : Orderly a'.count (get_or a'.labels 0 [])
      line_orderly = orderly a' (table_passes lent lent_lawful n size a' line_reached)

      pub line_runnable : {order' : Lists.List ℕ} → order' ≡ order_of a'.count (get_or a'.labels 0 []) → Runnable a' order'
      line_runnable e = record {
        low = omega (arith, same_count, f.low);
        high = omega (arith, same_count, f.high);
        calls = f.calls ++ (c ∷ []);
        reached = hands.table ∙ ap (λ t. (step_of lent t c).table) f.reached ∙ sym (after_more lent f.calls c (fresh_table lent n))
            ∙ ap (λ k. after lent (fresh_table lent k) (f.calls ++ (c ∷ []))) (sym same_count);
        is_order = e;
      }

  -- a call that is refused
  module _ {q : Request} {x : Result Task Refusal} (j : Judges n a.control a.results q (Buffer 928) (get_or order (n - 1) 0) x) {a' : Arrays} {r : Refusal}
      (g : Carries a x a' (Err r)) where
    pub refused_turned : Turns a (call_of q (Buffer 928)) a' (Err r)
    refused_turned = record { hands = served a run_passes q (Buffer 928) _ j refl refl g; action = go x g.told ∙ judged a run_passes q (Buffer 928) _ j; newest = tt }
      where
        go : (y : Result Task Refusal) → Err r ≡ handed_by y → Calls.Move.refused (refusal_number r) ≡ action_of y
        go (Ok t) e = cc
        go (Err u) e = let same : r ≡ u = cc in ap (λ v. Calls.Move.refused (refusal_number v)) same

    pub refused_runnable : Runnable a' order
    refused_runnable = subst (λ b. Runnable b order) (sym g.kept) f

  -- a call that is accepted
  module _ {q : Request} {x : Task} (j : Judges n a.control a.results q (Buffer 928) (get_or order (n - 1) 0) (Ok x)) where
    pub line_place : x.place < n
    line_place = omega (arith, j.task.place, place_below n q.station f.low)

    module _ {a' : Arrays} {h : Handed} (g : Carries a (Ok x) a' (Ok h)) where
      pub line_before : OrderedBefore a'.count (get_or a'.labels 0 []) x.place order
      line_before = rw (same_count j g) (record {
        old = get_or a.labels 0 [];
        orderly = run_orderly;
        others = λ i _ d. sym (ap (λ l. l i) (line_labels j g)
            ∙ labels_kept n (digits original n) (state_of a).labels (action_of (Ok x)) i (untouched x.place x.job i d x.action) false);
        listed = f.is_order;
      })

      pub line_kept : x.action ≢ Update → order ≡ order_of a'.count (get_or a'.labels 0 [])
      line_kept d = rw (same_count j g)
          (f.is_order ∙ ap (order_by n) (sym (line_labels j g ∙ labels_same n x.place x.job (state_of a).labels x.action d)))

      pub line_turned : Turns a (call_of q (Buffer 928)) a' (Ok (record { action = x.action; newest = get_or order (n - 1) 0; handed = h }))
      line_turned = record {
        hands = served a run_passes q (Buffer 928) _ j refl refl g;
        action = (λ i. move_of (place i) (sym j.task.job i) x.action) ∙ judged a run_passes q (Buffer 928) _ j;
        newest = run_newest;
      }
        where
          place : h.place ≡ x.place
          place = let e = g.told in cc

  -- A TURN: what it hands out
  module _ {c : Call} {a' : Arrays} {t : Turn} (g : Turns a c a' (Ok t)) where
    -- there is room for the report lines of the entries handed out
    pub turn_fits : c.room ≡ Buffer 928 → (t.handed.entries ≤ 32) × (t.handed.entries * 29 ≤ 928)
    turn_fits e = (g.hands.handed.few, bytes_fit g.hands 928 e)

    -- the line prints their report
    pub turn_prints : c.room ≡ Buffer 928 → {w : ℕ} {buffer buffer' : Lists.List ℕ} → w ≡ t.handed.entries * 29
        → buffer' ≡ over (report_lines c.line 1 (entries_in t.handed.entries (get_or a'.results t.handed.place []))) buffer → Prints a c buffer a' w buffer'
    turn_prints room {w} {buffer} {buffer'} e b = record {
      table = g.hands.table;
      count = rw (eq-eqb _ 0 (sym g.hands.number)) (omega (arith, e, long, ap length told));
      report = rw (eq-eqb _ 0 (sym g.hands.number)) (b ∙ ap (λ l. over l buffer) (sym told));
    }
      where
        lines : Lists.List ℕ
        lines = report_lines c.line 1 (entries_in t.handed.entries (get_or a'.results t.handed.place []))

        told : bytes_of (step_of lent a c).report ≡ lines
        told = ap bytes_of g.hands.report ∙ ap (λ r. bytes_of (written c.line r (entries_in t.handed.entries (get_or a'.results t.handed.place [])))) room

        long : length lines ≡ t.handed.entries * 29
        long = result_length c.line t.handed.entries (get_or a'.results t.handed.place [])

  -- a refused one prints its refusal
  module _ {c : Call} {a' : Arrays} {r : Refusal} (g : Turns a c a' (Err r)) where
    pub refused_prints : {w : ℕ} {buffer buffer' : Lists.List ℕ} → let told = printed c.line (refusal_number r) [] in
        w ≡ length told → buffer' ≡ over told buffer → Prints a c buffer a' w buffer'
    refused_prints {w} {buffer} {buffer'} e b = record {
      table = g.hands.table;
      count = e ∙ ap length short;
      report = b ∙ ap (λ l. over l buffer) short;
    }
      where
        short : printed c.line (refusal_number r) [] ≡ printed c.line (step_of lent a c).refusal (bytes_of (step_of lent a c).report)
        short = ap (λ (v : ℕ). printed c.line v []) g.hands.number ∙ rw (ne_eqb _ 0 (λ v. positive r (g.hands.number ∙ v))) refl

-- the fresh table is one
module _ (n : ℕ) (low : 2 ≤ n) (high : n ≤ 32) {a : Arrays} (e : a ≡ fresh_table lent n) where
  fresh_count : a.count ≡ n
  fresh_count = ap (λ (t : Arrays). t.count) e ∙ lent_lawful.counted n _

  pub fresh_orderly : Orderly a.count (get_or a.labels 0 [])
  fresh_orderly = orderly a (ap well_formed e ∙ table_passes lent lent_lawful n (original_sized n low high) (fresh_table lent n) (table_fresh lent lent_lawful n (original_sized n low high)))

  pub fresh_runnable : {order : Lists.List ℕ} → order ≡ order_of a.count (get_or a.labels 0 []) → Runnable a order
  unfolding after
  fresh_runnable o = record {
    low = omega (arith, fresh_count, low);
    high = omega (arith, fresh_count, high);
    calls = [];
    reached = e ∙ ap (fresh_table lent) (sym fresh_count);
    is_order = o;
  }
