-- A task that has been judged and carried out is the step call that was made; and what it asks for, a well-formed table has.
use Prim.Native.Nat.{ℕ, ◌-◌, ◌*◌, ◌≤◌, ◌<◌}
use native.Mathlib.Nat.{div-one}
use native.Mathlib.Omega.{arith}
use mathlib.Core.Path.{◌≡◌, refl, sym, ap, subst, ◌∙◌}
use mathlib.Core.Bool.{Bool, true, false, not, cond}
use mathlib.Core.List as Lists
use mathlib.Core.List.{[], map}
use lib.ListN.{length, get_or, replicate, length-append, length-map}
use lib.Dec.{eqb}
use Rattle.std.specs.Prelude.{Result, Ok, Err, IfOk}
use borrow.Author.Tests.{leb-true, le-leb}
use Rattle.basics.specs.Tests.{within, newest, ordered}
use Rattle.basics.proofs.Facts.{last, ordered_length, length_tabulate}
use Rattle.label.specs.Labels.{holders}
use Rattle.rows.specs.Held.{held, stands_in, Orderly}
use Rattle.rows.proofs.OrderLaws.{listed_below, order_front}
use Rattle.simulation.specs.Calls as Calls
use Rattle.simulation.specs.Calls.{Room, Call, place, standing, Entry, holds, judge_in, judge, PanelRecord, report_lines, panel_records, Report, size, written, original}
use Rattle.simulation.specs.Machine.{digits, labels_after, answer, step}
use Rattle.simulation.proofs.Judged.{single_alone, Verdict, turned, begins, begins_scan, scans, updates, snaps, ends, service, judge_unknown_station, scan_ends, verdict}
use Rattle.simulation.proofs.Reports.{records_length}
use Rattle.transition.specs.Forms.{Form, TableAnswer, over, onto, answered, step_of}
use Rattle.transition.specs.Questions.{top_holders, Tells}
use Rattle.transition.specs.Sequences.{Steps}
use Rattle.transition.proofs.Theorem.{step_written, step_ill_formed}
use Rattle.transition.proofs.Sequences.{none_written}
use Rattle.moves.specs.Moves.{refusal_number, move_of, called, directly, call_of, place_of, standing_for}
use Rattle.moves.proofs.MoveLaws.{by_move, begun_job, place_below}
use Rattle.arrays.specs.Arrays.{Rows, Planes, Arrays, cell, phase_number, phase_for, out_for, entries_in, shown_in, rest_in, rest_of, state_of, Holds}
use Rattle.arrays.specs.WellFormed.{well_formed}
use Rattle.arrays.specs.Form.{lent}
use Rattle.arrays.proofs.Passed.{passed, label_digits}
use Rattle.arrays.proofs.States.{number_back}
use Rattle.engine.specs.Scans.{order_of}
use Rattle.engine.specs.Clauses.{action_of, Fitting, Prepared, PreparedRest, hands_out, due, due_at, standing_at, handed_by, outcome_of, Named, Carries, Judges, HandsOut, Hands}
use Rattle.engine.specs.Clauses.{row_of, record_of}
use Rattle.engine.proofs.Reports.{result_length, records_read}
use Rattle.moves.specs.declared.Move.{Move}
use Rattle.moves.specs.declared.Move.TheVariants.{BeginLabel, SnapLabel, SnapScan, EndScan}
use Rattle.moves.specs.declared.Refusal.{Refusal}
use Rattle.moves.specs.declared.Request.{Request}
use Rattle.engine.specs.declared.Task.{Task}
use Rattle.engine.specs.declared.Handed.{Handed}

-- the labels of a well-formed table are in order
pub orderly : (a : Arrays) → well_formed a ≡ true → Orderly a.count (get_or a.labels 0 [])
orderly a e = let p = passed a e in record { low = p.low; high = p.high; valid = λ i l q h. label_digits a e false i q l h; free = p.free }

-- a call is judged by the entries that are due as by all that its process has: where none are due, none are asked for
due_same : (n k : ℕ) (out : Bool) (b : ℕ) (c : Call) → b ≤ 4
    → judge_in original n (standing_for (phase_for b) out (due b k)) c ≡ judge_in original n (standing_for (phase_for b) out k) c
unfolding judge_in
due_same n k out b c h = ap (λ x. judge_in original n (standing_for (phase_for b) out (due x k)) c) (sym (number_back b h)) ∙ go (phase_for b)
  where
    go : (ph : Calls.Phase) → judge_in original n (standing_for ph out (due (phase_number ph) k)) c ≡ judge_in original n (standing_for ph out k) c
    go Calls.Idle = refl
    go (Calls.Snap o) = refl
    go Calls.Update = refl
    go (Calls.End Calls.Label) = refl
    go (Calls.End Calls.Scan) = refl

pub shown_few : (n : ℕ) (stations : Lists.List ℕ) → n ≤ 32 → shown_in n stations ≤ 32
shown_few n stations h = omega (arith, (last n (λ p. not (eqb (get_or stations p 0) 0))).upto)

due_few : (b n : ℕ) (stations : Lists.List ℕ) → n ≤ 32 → due b (shown_in n stations) ≤ 32
due_few b n stations h = go (eqb b 4)
  where
    go : (t : Bool) → cond t (shown_in n stations) 0 ≤ 32
    go true = shown_few n stations h
    go false = omega arith

-- there is room for the entries that a judged move hands out, where the result shows k
abbrev Roomy : ℕ → Room → Calls.Move → Type 0
Roomy k room (Calls.Move.refused x) = Unit {0}
Roomy k room (Calls.Move.begins i job o) = Unit {0}
Roomy k room (Calls.Move.updates i) = Unit {0}
Roomy k room (Calls.Move.snaps i o) = Unit {0}
Roomy k room (Calls.Move.ends i Calls.Label) = Unit {0}
Roomy k room (Calls.Move.ends i Calls.Scan) = holds room k ≡ true
Roomy k room (Calls.Move.sets_out i b) = Unit {0}

roomy : {n : ℕ} {t : Calls.Standing} {c : Call} {w : Calls.Move} → Verdict original n t c w → Roomy t.shown c.room w
roomy (turned x f) = tt
roomy (begins own f) = tt
roomy (begins_scan own f e) = tt
roomy (scans own f e) = tt
roomy (updates own q) = tt
roomy (snaps own o q t) = tt
roomy (ends own Calls.Label q f) = tt
roomy (ends own Calls.Scan q f) = f
roomy (service own b q) = tt

holds_none : (room : Room) → holds room 0 ≡ true
holds_none (Calls.Buffer b) = le-leb 0 b (omega arith)
holds_none (Calls.Panel r) = le-leb 0 r (omega arith)

room_shown : (k i job : ℕ) (room : Room) (m : Move) → Roomy k room (move_of i job m) → holds room (hands_out k m) ≡ true
room_shown k i job room = by_move (λ m. Roomy k room (move_of i job m) → holds room (hands_out k m) ≡ true)
    (λ h. holds_none room) (λ h. holds_none room) (λ h. holds_none room) (λ h. holds_none room) (λ h. holds_none room) (λ h. h)
    (λ h. holds_none room) (λ h. holds_none room)

handed_few : (k : ℕ) → k ≤ 32 → (m : Move) → hands_out k m ≤ 32
handed_few k h = by_move (λ m. hands_out k m ≤ 32) (omega arith) (omega arith) (omega arith) (omega arith) (omega arith) h
    (omega arith) (omega arith)

-- A CALL AS IT IS JUDGED, by what is not labels, where the phases of n stations are known
module _ (n : ℕ) (low : 2 ≤ n) (jobs control : Rows) (results : Planes) (known : (i : ℕ) → i < n → cell control 0 i 0 ≤ 4) (q : Request) (room : Room)
    (top : ℕ) where
  abbrev call : Call
  call = call_of q room

  -- the place of its station, whether that is out of service, its phase, and the entries of the result there
  abbrev k : ℕ
  k = place_of n q.station

  abbrev out : Bool
  out = out_for (cell control 1 k 0)

  abbrev number : ℕ
  number = cell control 0 k 0

  abbrev ph : Calls.Phase
  ph = phase_for number

  abbrev shown_here : ℕ
  shown_here = shown_in n (cell results k 0 [])

  abbrev own : Calls.Standing
  own = standing_at n control results k

  pub place_inside : k < n
  place_inside = place_below n q.station low

  phase_low : number ≤ 4
  phase_low = known k place_inside

  -- a task that is not refused
  module _ {x : Task} (j : Judges n control results q room top (Ok x)) where
    pub task_inside : x.place < n
    task_inside = omega (arith, j.task.place, place_inside)

    action_is : move_of x.place q.job x.action ≡ judge_in original n own call
    action_is = ap (λ v. move_of x.place v x.action) (sym j.task.job) ∙ j.action

    pub judged_few : n ≤ 32 → hands_out x.shown x.action ≤ 32
    judged_few high = handed_few x.shown (omega (arith, j.task.shown, due_few number n (cell results k 0 []) high)) x.action

    shown_all : x.action ≡ EndScan → x.shown ≡ shown_here
    shown_all e = j.task.shown ∙ ap (λ b. due b shown_here) (sym (number_back number phase_low)
        ∙ ap phase_number (scan_ends (verdict original n own call) (sym action_is ∙ ap (move_of x.place q.job) e)))

    pub shown_at : x.action ≡ EndScan → x.shown ≡ shown_in n (cell results x.place 0 [])
    shown_at e = shown_all e ∙ ap (λ i. shown_in n (cell results i 0 [])) (sym j.task.place)

    pub job_low : x.action ≡ BeginLabel → x.job ≤ 4294967295
    job_low e = subst (λ v. v ≤ 4294967295) (sym j.task.job) (begun_job n own call x.place x.action action_is e)

    -- there is room for what it hands out
    pub has_room : holds room (hands_out x.shown x.action) ≡ true
    has_room = subst (λ v. holds room (hands_out v x.action) ≡ true) (sym j.task.shown)
        (room_shown (due_at n control results k) x.place q.job room x.action
        (subst (Roomy (due_at n control results k) room) (sym action_is) (roomy (verdict original n own call))))

  -- what carrying out asks for of what is not labels
  pub rest_ready : (x : Result Task Refusal) → Judges n control results q room top x → (order : Lists.List ℕ)
      → Holds (rest_in n jobs control results) jobs control results → n ≤ 32 → (n ≤ length order) × ((p : ℕ) → p < n → get_or order p 0 < 32)
      → Named shown_here (get_or results k []) → PreparedRest n jobs control results x order
  rest_ready (Ok x) j order h high listed named = record {
    holds = h;
    high = high;
    task = record {
      inside = task_inside j;
      job_fits = job_low j;
      listed = λ e. listed;
      is_shown = shown_at j;
      named = λ e. subst (λ i. Named x.shown (get_or results i [])) (sym j.task.place)
          (subst (λ v. Named v (get_or results k [])) (sym (shown_all j e)) named);
    };
  }
  rest_ready (Err f) j order h high listed named = record { holds = h; high = high; task = tt }

  -- the move is the one that the machine judges
  pub rest_judged : {x : Result Task Refusal} → Judges n control results q room top x → action_of x ≡ judge original n (rest_in n jobs control results) call
  rest_judged j = j.action ∙ go (within 1 n q.station) refl
    where
      o : Calls.Rest
      o = rest_in n jobs control results

      at : ℕ → Calls.Move
      at i = judge_in original n (standing_for (o.process i).phase (o.process i).out (length (o.result i))) call

      -- its station is itself, and has no other
      alone : (i : ℕ) → standing_for (o.process i).phase (o.process i).out (length (o.result i)) ≡ standing original n o i
      alone i y = record {
        phase = (o.process i).phase;
        out = (o.process i).out;
        shown = length (o.result (sym (div-one i) y));
        alone = sym (single_alone original n o i refl) y;
      }

      go : (b : Bool) → within 1 n q.station ≡ b → judge_in original n own call ≡ judge original n o call
      go true e = due_same n shown_here out number call phase_low
          ∙ ap (λ v. judge_in original n (standing_for ph out v) call) (sym (length_tabulate shown_here 0 _)) ∙ ap at (rw e refl)
          ∙ ap (λ t. judge_in original n t call) (alone (place call))
      go false e = let s = judge_unknown_station original n call e in s.1 _ ∙ sym (s.1 _)

-- on a well-formed table
module _ (a : Arrays) (ok : well_formed a ≡ true) (q : Request) (room : Room) (top : ℕ) where
  abbrev c : Call
  c = call_of q room

  abbrev n : ℕ
  n = a.count

  known : (i : ℕ) → i < n → cell a.control 0 i 0 ≤ 4
  known i l = ((passed a ok).each i l).phase

  -- what carrying out asks for of a task, given the newest station and the scan order where they are needed
  pub ready : {x z : Task} → Judges n a.control a.results q room top (Ok x) → (order : Lists.List ℕ) → z.action ≡ x.action → z.place ≡ x.place → z.job ≡ x.job
      → z.shown ≡ x.shown → (z.action ≡ SnapLabel → z.newest ≡ newest n (stands_in n (get_or a.labels 0 [])))
      → (z.action ≡ SnapScan → order ≡ order_of n (get_or a.labels 0 [])) → Prepared a (Ok z) order
  ready j order m k v d w o = record {
    passed = ok;
    high = (passed a ok).high;
    task = record {
      inside = omega (arith, k, task_inside n (passed a ok).low a.jobs a.control a.results known q room top j);
      job_fits = λ e. omega (arith, v, job_low n (passed a ok).low a.jobs a.control a.results known q room top j (sym m ∙ e));
      is_newest = w;
      is_order = o;
      is_shown = λ e. d ∙ shown_at n (passed a ok).low a.jobs a.control a.results known q room top j (sym m ∙ e)
          ∙ ap (λ i. shown_in n (cell a.results i 0 [])) (sym k);
    };
  }

  -- and of a judged call, where they are known before it is judged
  pub all_ready : (x : Result Task Refusal) → Judges n a.control a.results q room top x → (order : Lists.List ℕ)
      → top ≡ newest n (stands_in n (get_or a.labels 0 [])) → order ≡ order_of n (get_or a.labels 0 []) → Prepared a x order
  all_ready (Ok x) j order w o = ready j order refl refl refl refl (λ _. j.task.newest ∙ w) (λ _. o)
  all_ready (Err f) j order w o = record { passed = ok; high = (passed a ok).high; task = tt }

  pub judged : {x : Result Task Refusal} → Judges n a.control a.results q room top x → action_of x ≡ judge original n (rest_of a) c
  judged j = rest_judged n (passed a ok).low a.jobs a.control a.results known q room top j

  -- what a judged call hands out
  hands_it : (a' : Arrays) (x : Result Task Refusal) → Judges n a.control a.results q room top x → (r : Result Handed Refusal) → r ≡ handed_by x
      → IfOk r (λ h. Named h.entries (get_or a'.results h.place [])) → IfOk r (HandsOut a c a')
  hands_it a' (Ok x) j (Ok h) e named =
      let p : h.place ≡ x.place = cc in
      let d : h.entries ≡ hands_out x.shown x.action = cc in
      record {
        place = p ∙ j.task.place ∙ rw ok refl;
        inside = omega (arith, p, task_inside n (passed a ok).low a.jobs a.control a.results known q room top j, (passed a ok).high);
        few = omega (arith, d, judged_few n (passed a ok).low a.jobs a.control a.results known q room top j (passed a ok).high);
        named = named;
        room = ap (holds room) d ∙ has_room n (passed a ok).low a.jobs a.control a.results known q room top j;
      }
  hands_it a' (Err f) j (Ok h) e named = absurd (cc)
  hands_it a' x j (Err f) e named = tt

  -- so carrying it out is the step call, whatever newest station it is given
  pub served : {x z : Result Task Refusal} → Judges n a.control a.results q room top x → action_of z ≡ action_of x → handed_by z ≡ handed_by x
      → {a' : Arrays} {r : Result Handed Refusal} → Carries a z a' r → Hands a c a' r
  unfolding step
  served {x} {z} j u v {a'} {r} f =
      let p = f.performed in
      let w : action_of z ≡ judge original n (rest_of a) c = u ∙ judged j in
      let s : answered lent n (answer c (labels_after n (digits original n) (state_of a) (action_of z)) (outcome_of a (action_of z))) ≡ step_of lent a c
      = (λ y. answered lent n (answer c (labels_after n (digits original n) (state_of a) (w y)) (outcome_of a (w y)))) ∙ sym (step_written lent a c ok) in
      record {
        table = p.table ∙ ap (λ (u : TableAnswer Arrays). u.table) s;
        number = p.number ∙ ap (λ (u : TableAnswer Arrays). u.refusal) s;
        report = sym (ap (λ (u : TableAnswer Arrays). u.report) s) ∙ ap (written q.line room) p.handed;
        handed = hands_it a' x j r (f.told ∙ v) f.named;
        kept = f.kept;
      }

-- 13: nothing changes
pub ill_formed : (a : Arrays) (c : Call) (f : Refusal) → well_formed a ≡ false → refusal_number f ≡ 13 → Hands a c a (Err f)
ill_formed a c f e d =
    let s = step_ill_formed lent a c e in
    record {
      table = sym (ap (λ (u : TableAnswer Arrays). u.table) s);
      number = d ∙ sym (ap (λ (u : TableAnswer Arrays). u.refusal) s);
      report = ap (λ (u : TableAnswer Arrays). u.report) s;
      handed = tt;
      kept = refl;
    }

-- WHAT IS WRITTEN

-- of an accepted call
module _ {a a' : Arrays} {c : Call} {h : Handed} (made : Hands a c a' (Ok h)) where
  abbrev entries : Lists.List Entry
  entries = entries_in h.entries (get_or a'.results h.place [])

  -- to a buffer
  pub bytes_fit : (b : ℕ) → c.room ≡ Calls.Buffer b → h.entries * 29 ≤ b
  bytes_fit b e = leb-true (h.entries * 29) b (ap (λ x. holds x h.entries) (sym e) ∙ made.handed.room)

  pub steps_bytes : {buffer buffer' : Lists.List ℕ} {k : ℕ} → c.room ≡ Calls.Buffer (length buffer) → k ≡ h.entries * 29
      → buffer' ≡ over (report_lines c.line 1 entries) buffer → Steps lent a c (Calls.Bytes buffer) a' 0 k (Calls.Bytes buffer')
  steps_bytes {buffer} e w f =
      let s : (step_of lent a c).report ≡ Calls.Bytes (report_lines c.line 1 entries) = made.report ∙ ap (λ x. written c.line x entries) e in
      record {
        table = made.table;
        number = made.number;
        count = w ∙ sym (result_length c.line h.entries (get_or a'.results h.place [])) ∙ sym (ap size s);
        report = ap Calls.Bytes f ∙ sym (ap (λ x. onto x (Calls.Bytes buffer)) s);
        kept = λ d. absurd (d refl);
      }

  -- to a panel
  steps_records : {panel panel' : Lists.List PanelRecord} → c.room ≡ Calls.Panel (length panel) → panel' ≡ over (panel_records 1 entries) panel
      → Steps lent a c (Calls.Records panel) a' 0 h.entries (Calls.Records panel')
  steps_records {panel} e f =
      let s : (step_of lent a c).report ≡ Calls.Records (panel_records 1 entries) = made.report ∙ ap (λ x. written c.line x entries) e in
      record {
        table = made.table;
        number = made.number;
        count = sym (records_length 1 entries ∙ length_tabulate h.entries 0 _) ∙ sym (ap size s);
        report = ap Calls.Records f ∙ sym (ap (λ x. onto x (Calls.Records panel)) s);
        kept = λ d. absurd (d refl);
      }

  -- whose records are rows of three numbers
  pub steps_rows : (panel panel' : Rows) → c.room ≡ Calls.Panel (length panel) → panel' ≡ over (map row_of (panel_records 1 entries)) panel
      → Steps lent a c (Calls.Records (map record_of panel)) a' 0 h.entries (Calls.Records (map record_of panel'))
  steps_rows panel panel' e f =
      steps_records (e ∙ ap Calls.Panel (sym (length-map panel record_of))) (ap (map record_of) f ∙ records_read (panel_records 1 entries) panel)

-- of a refused one
pub steps_refused : {a a' : Arrays} {c : Call} {f : Refusal} → Hands a c a' (Err f) → (given : Report) → Steps lent a c given a' (refusal_number f) 0 given
steps_refused {c = c} made given =
    let z = none_written c.line c.room given in
    record {
      table = made.table;
      number = made.number;
      count = sym z.0 ∙ sym (ap size made.report);
      report = sym z.1 ∙ sym (ap (λ x. onto x given) made.report);
      kept = λ _. (made.kept, refl, refl);
    }

-- A DIRECT CALL, on tables of any form
pub steps_directly : (F : Form) {t t' : F.Table} {r r' : Report} {number k : ℕ} (code station job : ℕ) (room : Room) (q : Request)
    → q ≡ directly code station job → Steps F t (call_of q room) r t' number k r' → Steps F t (called 0 code station job room) r t' number k r'
steps_directly F {t} {t'} {r} {r'} {number} {k} code station job room q e s = subst (λ (x : Request). Steps F t (call_of x room) r t' number k r') e s

-- the order that a scan is given is long enough, and has stations in it
pub order_long : {a : Arrays} {order : Lists.List ℕ} {x : Task} → Fitting a order x → x.action ≡ SnapScan → a.count ≤ length order
order_long {a} s e = let b = stands_in a.count (get_or a.labels 0 []) in
    omega (arith, ap length (s.is_order e), length-append (ordered a.count b) (replicate (32 - a.count) 0), ordered_length b a.count)

pub order_inside : {a : Arrays} {order : Lists.List ℕ} {x : Task} → a.count ≤ 32 → Fitting a order x → x.action ≡ SnapScan
    → (p : ℕ) → p < a.count → get_or order p 0 < 32
order_inside {a} {order} high s e p h = omega (
  arith,
  high,
  listed_below _ _ _ (order_front 32 (stands_in a.count (get_or a.labels 0 [])) a.count order (s.is_order e)) p h,
)

-- WHO SHARES THE TOP (02, Card 5): what is told of a table that is not well-formed, and of one that is, by its newest station and those that have its label
pub tells_ill_formed : (a : Arrays) → well_formed a ≡ false → Tells lent a 13 0
tells_ill_formed a e = record { number = rw e refl; count = rw e refl }

pub tells_well_formed : (a : Arrays) → well_formed a ≡ true → let n = a.count in let rows = get_or a.labels 0 [] in
    (z k : ℕ) → z ≡ newest n (stands_in n rows) → k ≡ holders n (n - 1) (held rows) z → Tells lent a 0 k
unfolding top_holders
tells_well_formed a e z k p q = record { number = rw e refl; count = rw e (q ∙ ap (holders a.count (a.count - 1) (held (get_or a.labels 0 []))) p) }
