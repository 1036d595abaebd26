-- Each move, carried out on the arrays: what they become is what the machine makes of the state that they hold, written down. The labels and the rest are
-- carried out apart, as the machine does.
use Prim.Native.Nat.{ℕ, ◌-◌, ◌<◌}
use native.Mathlib.Omega.{arith}
use mathlib.Core.Path.{◌≡◌, refl, sym, ap, ap₂, subst, ◌∙◌}
use mathlib.Core.Logic.{◌≢◌}
use mathlib.Core.Bool.{Bool, true, false, cond}
use mathlib.Core.List as Lists
use mathlib.Core.List.{[], ◌∷◌}
use Rattle.std.specs.Prelude.{Result, Ok, Err, IfErr}
use lib.ListN.{get_or, take, set, replicate}
use lib.Seq.{take_at}
use borrow.Author.Tests.{ne_eqb}
use Rattle.basics.specs.Tests.{newest, ordered, tabulate}
use Rattle.basics.proofs.Facts.{by_here, tabulate_same, get_d_tabulate, set_tabulate, ordered_length}
use native.Mathlib.Nat.{div-one, zero-add}
use Rattle.label.specs.Labels as Labels
use Rattle.label.specs.Labels.{new_label}
use Rattle.label.specs.Rows.{row}
use Rattle.rows.specs.Held.{pending_in}
use Rattle.simulation.specs.Calls as Calls
use Rattle.simulation.specs.Calls.{station_of, Label, Scan, Idle, Update, End, Process, Rest, original}
use Rattle.simulation.specs.Machine.{Labelling, digits, stands, pending_after, LabelStep, stay, snap, update, label_step, relabelled, in_phase, begun, updated}
use Rattle.simulation.specs.Machine.{set_out, changed, stored, scan_of, Outcome, carry_out}
use Rattle.simulation.proofs.Labellings.{here_yes}
use Rattle.simulation.proofs.Scans.{scan_alike}
use Rattle.moves.specs.Moves.{move_of}
use Rattle.moves.proofs.MoveLaws.{by_move}
use Rattle.moves.specs.declared.Move.{Move}
use Rattle.moves.specs.declared.Move.TheVariants as Moves
use Rattle.moves.specs.declared.Move.TheVariants.{BeginLabel, SnapLabel, SnapScan, EndLabel, EndScan, LeaveService, ReturnToService}
use Rattle.moves.specs.declared.Refusal.{Refusal}
use Rattle.arrays.specs.Arrays.{Rows, Planes, Arrays, arrays, cell, planes, phase_number, out_number, result_rows, entries_in, rest_in, rest_of, labels_in}
use Rattle.arrays.specs.Arrays.{jobs_of, control_of, results_of, labels_of, arrays_of, Holds}
use Rattle.arrays.specs.WellFormed.{well_formed}
use Rattle.arrays.specs.Sizes.{Shaped}
use Rattle.arrays.proofs.Passed.{passed}
use Rattle.arrays.proofs.Results.{station_most}
use Rattle.arrays.proofs.States.{labels_back, passed_holds, written_held}
use Rattle.engine.specs.Scans.{found, scan_rows}
use Rattle.engine.proofs.Scanned.{put}
use Rattle.engine.proofs.Served.{orderly, order_long, order_inside}
use Rattle.engine.specs.Clauses.{Prepared, PreparedRest, PreparedLabels, hands_out, Named, rest_after, CarriesRest, Carries}
use Rattle.engine.specs.declared.Handed.{Handed}
use Rattle.engine.specs.declared.Task.{Task}

-- a store in one of two planes
module _ {A : Type 0} (f g : Bool → ℕ → A) (k : ℕ) (v : A) (h : k < 32) where
  put_current : v ≡ g false k → ((i : ℕ) → i ≢ k → f false i ≡ g false i) → ((i : ℕ) → f true i ≡ g true i) → put (planes f) 0 k v ≡ planes g
  put_current e other same = ap₂ (λ p q. p ∷ q ∷ []) (set_tabulate 32 k v _ _ h e (λ i _ d. other i d)) (tabulate_same 32 0 _ _ (λ i _. same i))

  put_pending : v ≡ g true k → ((i : ℕ) → i ≢ k → f true i ≡ g true i) → ((i : ℕ) → f false i ≡ g false i) → put (planes f) 1 k v ≡ planes g
  put_pending e other same = ap₂ (λ p q. p ∷ q ∷ []) (tabulate_same 32 0 _ _ (λ i _. same i)) (set_tabulate 32 k v _ _ h e (λ i _ d. other i d))

-- what the machine makes of the record of a process: its own place, and any other
at_own : (o : Rest) (k : ℕ) (f : Process → Process) → (changed o k f).process k ≡ f (o.process k)
at_own o k f = rw (here_yes k) refl

at_other : (o : Rest) (k : ℕ) (f : Process → Process) (i : ℕ) → i ≢ k → (changed o k f).process i ≡ o.process i
at_other o k f i d = rw (ne_eqb i k d) refl

-- what a change of one record leaves of all of them
at_all : {A : Type 0} (v : Process → A) (o : Rest) (k : ℕ) (f : Process → Process) → ((p : Process) → v (f p) ≡ v p)
    → (i : ℕ) → v (o.process i) ≡ v ((changed o k f).process i)
at_all v o k f e i = by_here (λ b. v (o.process i) ≡ v (cond b (f (o.process i)) (o.process i))) k i (λ _. sym (e (o.process i))) (λ _. refl)

-- LABELS

module _ {n : ℕ} {l : Planes} {m : Move} {k z : ℕ} (s : PreparedLabels n l m k z) where
  abbrev labels : Labelling Labels.Label
  labels = labels_in l

  abbrev rows : Rows
  rows = get_or l 0 []

  abbrev labels_for : LabelStep → Planes
  labels_for w = labels_of (relabelled n (digits original n) labels w)

  low : k < 32
  low = omega (arith, s.inside, s.orderly.high)

  pending_own : row 31 (labels true k) ≡ cell l 1 k []
  pending_own = sym (ap (λ (p : Planes). cell p 1 k []) s.exact ∙ get_d_tabulate 32 0 k (λ i. row 31 (labels true i)) [] low
      ∙ ap (λ i. row 31 (labels true i)) (zero-add k))

  pending_row : pending_in n rows k (cell l 1 k []) ≡ row 31 (pending_after n (digits original n) labels k)
  unfolding pending_in pending_after
  pending_row = by_here (λ b. cond b (cell l 1 k []) (row 31 new) ≡ row 31 (cond b (labels true k) new)) top k
      (λ _. sym pending_own)
      (λ _. refl)
    where
      top : ℕ
      top = newest n (stands (digits original n) labels)

      new : Labels.Label
      new = new_label (n - 1) 1 (labels false) top k

  pub labels_stay : (w : LabelStep) → w ≡ stay → l ≡ labels_for w
  unfolding relabelled
  labels_stay w e = s.exact ∙ ap labels_for (sym e)

  pub labels_snap : {p : Lists.List ℕ} → p ≡ pending_in n rows k (cell l 1 k []) → put l 1 k p ≡ labels_for (snap k)
  unfolding relabelled
  labels_snap q = ap₂ (λ x p. put x 1 k p) s.exact (q ∙ pending_row)
      ∙ put_pending (λ y i. row 31 (labels y i)) (λ y i. row 31 (relabelled n (digits original n) labels (snap k) y i)) k _ low
      (rw (here_yes k) refl) (λ i d. rw (ne_eqb i k d) refl) (λ i. refl)

  pub labels_update : put l 0 k (cell l 1 k []) ≡ labels_for (update k)
  unfolding relabelled
  labels_update = ap₂ (λ x p. put x 0 k p) s.exact (sym pending_own)
      ∙ put_current (λ y i. row 31 (labels y i)) (λ y i. row 31 (relabelled n (digits original n) labels (update k) y i)) k _ low
      (rw (here_yes k) refl) (λ i d. rw (ne_eqb i k d) refl) (λ i. refl)

-- THE REST

module _ {n : ℕ} {jobs control : Rows} {results : Planes} {x : Task} {order : Lists.List ℕ} (s : PreparedRest n jobs control results (Ok x) order) where
  abbrev o : Rest
  o = rest_in n jobs control results

  abbrev k : ℕ
  k = x.place

  place_low : k < 32
  place_low = omega (arith, s.task.inside, s.high)

  -- JOBS, after a change of the record of k

  abbrev jobs_in : (Process → Process) → Bool → ℕ → ℕ
  jobs_in f = jobs_of (changed o k f)

  jobs_stay : (f : Process → Process) → ((p : Process) → (f p).job ≡ p.job) → ((p : Process) → (f p).pending_job ≡ p.pending_job)
      → jobs ≡ planes (jobs_in f)
  jobs_stay f e d = s.holds.jobs ∙ ap₂ (λ x y. x ∷ y ∷ [])
      (tabulate_same 32 0 _ _ (λ i _. at_all (λ (q : Process). q.job) o k f e i))
      (tabulate_same 32 0 _ _ (λ i _. at_all (λ (q : Process). q.pending_job) o k f d i))

  jobs_begun : put jobs 1 k x.job ≡ planes (jobs_in (begun x.job))
  jobs_begun = ap (λ p. put p 1 k x.job) s.holds.jobs
      ∙ put_pending (jobs_of o) (jobs_in (begun x.job)) k x.job place_low
      (sym (ap (λ (p : Process). p.pending_job) (at_own o k (begun x.job))))
      (λ i d. sym (ap (λ (p : Process). p.pending_job) (at_other o k (begun x.job) i d)))
      (at_all (λ (p : Process). p.job) o k (begun x.job) (λ p. refl))

  jobs_updated : put jobs 0 k (cell jobs 1 k 0) ≡ planes (jobs_in updated)
  jobs_updated = ap (λ p. put p 0 k (cell jobs 1 k 0)) s.holds.jobs
      ∙ put_current (jobs_of o) (jobs_in updated) k _ place_low
      (sym (ap (λ (p : Process). p.job) (at_own o k updated)))
      (λ i d. sym (ap (λ (p : Process). p.job) (at_other o k updated i d)))
      (at_all (λ (p : Process). p.pending_job) o k updated (λ p. refl))

  -- CONTROL, after a change of the record of k

  abbrev control_in : (Process → Process) → Bool → ℕ → ℕ
  control_in f = control_of (changed o k f)

  -- one that leads to the phase with this number
  phase_put : (f : Process → Process) (v : ℕ) → ((p : Process) → (f p).out ≡ p.out) → v ≡ phase_number (f (o.process k)).phase
      → put control 0 k v ≡ planes (control_in f)
  phase_put f v same e = ap (λ c. put c 0 k v) s.holds.control
      ∙ put_current (control_of o) (control_in f) k v place_low
      (e ∙ sym (ap (λ (p : Process). phase_number p.phase) (at_own o k f)))
      (λ i d. sym (ap (λ (p : Process). phase_number p.phase) (at_other o k f i d)))
      (at_all (λ (p : Process). out_number p.out) o k f (λ p. ap out_number (same p)))

  -- one of service
  service_put : (b : Bool) (v : ℕ) → v ≡ out_number b → put control 1 k v ≡ planes (control_in (set_out b))
  service_put b v e = ap (λ c. put c 1 k v) s.holds.control
      ∙ put_pending (control_of o) (control_in (set_out b)) k v place_low
      (e ∙ sym (ap (λ (p : Process). out_number p.out) (at_own o k (set_out b))))
      (λ i d. sym (ap (λ (p : Process). out_number p.out) (at_other o k (set_out b) i d)))
      (at_all (λ (p : Process). phase_number p.phase) o k (set_out b) (λ p. refl))

  -- RESULTS

  -- the rows of what a scan stores
  abbrev here : ℕ → Process
  here = found (get_or jobs 0 []) (get_or control 1 [])

  abbrev scan : Lists.List Calls.Entry
  scan = scan_of o.process (take n order)

  results_scanned : {q : Rows} → q ≡ scan_rows n order here → set results k q ≡ results_of (stored (changed o k (in_phase (End Scan))) (station_of original k) scan)
  results_scanned e = ap₂ (λ r q. set r k q) s.holds.results (e ∙ ap result_rows (scan_alike here o.process (λ i. refl) (λ i. refl) (take n order)))
      ∙ set_tabulate 32 k _ (λ i. result_rows (o.result i)) _ place_low (rw (here_yes k) refl) (λ i _ d. rw (ne_eqb i k d) refl)
      ∙ ap (λ g. results_of (stored (changed o k (in_phase (End Scan))) g scan)) (sym (div-one k))

  -- THE MOVES

  -- a task is carried out if its move is
  abbrev After : Move → Outcome
  After m = carry_out original (take n order) o (move_of k x.job m)

  carried : {m : Move} {j c : Rows} {r : Planes} {e : ℕ} → x.action ≡ m → Holds (After m).rest j c r → 0 ≡ (After m).refusal → e ≡ hands_out x.shown m
      → (After m).handed ≡ entries_in e (get_or r k []) → Named e (get_or r k [])
      → CarriesRest (rest_after n jobs control results (Ok x) order) (Ok x) j c r (Ok (record { place = k; entries = e }))
  carried {m} {j} {c} {r} a f g d u v =
      let t : After m ≡ rest_after n jobs control results (Ok x) order = ap After (sym a) in
      record {
        holds = subst (λ (y : Outcome). Holds y.rest j c r) t f;
        number = g ∙ ap (λ (y : Outcome). y.refusal) t;
        told = ap (λ i. Ok (record { place = k; entries = i })) (d ∙ ap (hands_out x.shown) (sym a));
        handed = sym (ap (λ (y : Outcome). y.handed) t) ∙ u;
        named = v;
      }

  -- the move m is served, these arrays are left, and nothing is handed out
  abbrev Accepts : Move → Rows → Rows → Planes → Type 0
  Accepts m j c r = x.action ≡ m → CarriesRest (rest_after n jobs control results (Ok x) order) (Ok x) j c r (Ok (record { place = k; entries = 0 }))

  quiet : {m : Move} {j c : Rows} {r : Planes} → 0 ≡ (After m).refusal → (After m).handed ≡ [] → 0 ≡ hands_out x.shown m → Holds (After m).rest j c r
      → Accepts m j c r
  unfolding tabulate
  quiet a u b f e = carried e f a b u (λ p l. absurd (omega arith))

  pub begins_label : Accepts BeginLabel (put jobs 1 k x.job) (put control 0 k 1) results
  unfolding carry_out
  begins_label = quiet refl refl refl (record { jobs = jobs_begun; control = phase_put (begun x.job) 1 (λ p. refl) refl; results = s.holds.results })

  -- the record of k gets another phase alone
  rephased : (ph : Calls.Phase) → Holds (changed o k (in_phase ph)) jobs (put control 0 k (phase_number ph)) results
  rephased ph = let f = in_phase ph in
      record { jobs = jobs_stay f (λ p. refl) (λ p. refl); control = phase_put f (phase_number ph) (λ p. refl) refl; results = s.holds.results }

  pub snaps_label : Accepts SnapLabel jobs (put control 0 k 2) results
  unfolding carry_out
  snaps_label = quiet refl refl refl (rephased Update)

  pub snaps_scan : {q : Rows} → q ≡ scan_rows n order here → Accepts SnapScan jobs (put control 0 k 4) (set results k q)
  unfolding carry_out
  snaps_scan q = let f = rephased (End Scan) in quiet refl refl refl (record { jobs = f.jobs; control = f.control; results = results_scanned q })

  pub updates : Accepts Moves.Update (put jobs 0 k (cell jobs 1 k 0)) (put control 0 k 3) results
  unfolding carry_out
  updates = quiet refl refl refl (record { jobs = jobs_updated; control = phase_put updated 3 (λ p. refl) refl; results = s.holds.results })

  pub ends_label : Accepts EndLabel jobs (put control 0 k 0) results
  unfolding carry_out
  ends_label = quiet refl refl refl (rephased Idle)

  -- leaving service, and returning to it
  serviced : (b : Bool) → Holds (changed o k (set_out b)) jobs (put control 1 k (out_number b)) results
  serviced b = record { jobs = jobs_stay (set_out b) (λ p. refl) (λ p. refl); control = service_put b (out_number b) refl; results = s.holds.results }

  pub leaves_service : Accepts LeaveService jobs (put control 1 k 1) results
  unfolding carry_out
  leaves_service = quiet refl refl refl (serviced true)

  pub returns_to_service : Accepts ReturnToService jobs (put control 1 k 0) results
  unfolding carry_out
  returns_to_service = quiet refl refl refl (serviced false)

  pub ends_scan : x.action ≡ EndScan
      → CarriesRest (rest_after n jobs control results (Ok x) order) (Ok x) jobs (put control 0 k 0) results (Ok (record { place = k; entries = x.shown }))
  unfolding carry_out
  ends_scan e = carried e (rephased Idle) refl refl
      (ap o.result (div-one k) ∙ ap (λ j. entries_in j (get_or results k [])) (sym (s.task.is_shown e))) (s.task.named e)

-- a refused call is passed on
pub refused : {n : ℕ} {jobs control : Rows} {results : Planes} {f : Refusal} {order : Lists.List ℕ} → PreparedRest n jobs control results (Err f) order
    → CarriesRest (rest_after n jobs control results (Err f) order) (Err f) jobs control results (Err f)
unfolding carry_out
refused s = record { holds = s.holds; number = refl; told = refl; handed = refl; named = tt }

-- BOTH, on a well-formed table

-- what is accepted is not refused
none_refused : {A : Type 0} (P : Refusal → Type 0) (r : Result A Refusal) {h : A} → r ≡ Ok h → IfErr r P
none_refused P (Ok x) e = tt
none_refused P (Err f) e = absurd (cc)

-- a move that is no snap for a scan asks for no order
order_unused : (order order' : Lists.List ℕ) (o : Rest) (k job : ℕ) (m : Move) → (m ≡ SnapScan → order ≡ order')
    → carry_out original order o (move_of k job m) ≡ carry_out original order' o (move_of k job m)
unfolding carry_out
order_unused order order' o k job = by_move (λ m. (m ≡ SnapScan → order ≡ order') → carry_out original order o (move_of k job m) ≡ carry_out original order' o (move_of k job m))
    (λ f. refl) (λ f. refl) (λ f. ap (λ l. carry_out original l o (move_of k job SnapScan)) (f refl)) (λ f. refl) (λ f. refl) (λ f. refl) (λ f. refl)
    (λ f. refl)

module _ {a : Arrays} {x : Task} {order : Lists.List ℕ} (s : Prepared a (Ok x) order) (g : Shaped a) where
  abbrev count : ℕ
  count = a.count

  pub labels_prepared : PreparedLabels count a.labels x.action x.place x.newest
  labels_prepared = record {
    exact = sym (labels_back a g s.passed);
    orderly = orderly a s.passed;
    inside = s.task.inside;
    is_newest = s.task.is_newest;
  }

  pub rest_prepared : PreparedRest count a.jobs a.control a.results (Ok x) order
  rest_prepared = record {
    holds = passed_holds a g s.passed;
    high = s.high;
    task = record {
      inside = s.task.inside;
      job_fits = s.task.job_fits;
      listed = λ e. (order_long s.task e, order_inside s.high s.task e);
      is_shown = s.task.is_shown;
      named = λ e p h. omega (
        arith,
        station_most count (get_or a.results x.place []) ((passed a s.passed).each x.place s.task.inside).result p (omega (arith, s.task.is_shown e)),
        s.high,
      );
    };
  }

  -- the order that a scan is given is that of the labels
  same_order : x.action ≡ SnapScan → take count order ≡ ordered count (stands (digits original count) (labels_in a.labels))
  same_order e = let b = stands (digits original count) (labels_in a.labels) in
      ap (take count) (s.task.is_order e) ∙ take_at (ordered count b) (replicate (32 - count) 0) count (ordered_length b count)

  pub carries : {l : Planes} {j c : Rows} {r : Planes} {h : Result Handed Refusal}
      → ((job : ℕ) → l ≡ labels_of (relabelled count (digits original count) (labels_in a.labels) (label_step (move_of x.place job x.action))))
      → CarriesRest (rest_after count a.jobs a.control a.results (Ok x) order) (Ok x) j c r h → Carries a (Ok x) (arrays count l j c r) h
  unfolding arrays_of
  carries {l} {j} {c} {r} {h} labelled f =
      let t = order_unused (take count order) (ordered count (stands (digits original count) (labels_in a.labels))) (rest_of a) x.place x.job x.action same_order in
      let held = subst (λ (y : Outcome). Holds y.rest j c r) t f.holds in record {
        performed = record {
          table = λ y. arrays count (labelled x.job y) (held.jobs y) (held.control y) (held.results y);
          number = f.number ∙ ap (λ (y : Outcome). y.refusal) t;
          handed = sym (ap (λ (y : Outcome). y.handed) t) ∙ f.handed;
        };
        told = f.told;
        named = f.named;
        kept = none_refused _ h f.told;
      }

-- a refused call, on a well-formed table
pub carries_none : {a : Arrays} {f : Refusal} → well_formed a ≡ true → Shaped a → Carries a (Err f) a (Err f)
unfolding carry_out relabelled
carries_none {a} e g =
    record { performed = record { table = sym (written_held a g e); number = refl; handed = refl }; told = refl; named = tt; kept = refl }
