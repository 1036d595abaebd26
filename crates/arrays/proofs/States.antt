-- Writing a state down in arrays and reading it are inverse: on well-formed arrays, and on the states that a table can hold. So the arrays are a lawful form.
use Prim.Native.Nat.{ℕ, ◌+◌, ◌-◌, ◌≤◌, ◌<◌}
use native.Mathlib.Nat.{zero-add}
use native.Mathlib.Omega.{arith}
use native.Mathlib.Decide.{dec_lt}
use mathlib.Core.Path.{◌≡◌, refl, sym, ap, ap₂, ◌∙◌, fun_ext}
use mathlib.Core.Logic.{by_cases}
use mathlib.Core.Bool.{Bool, true, false, not, ◌||◌, cond}
use mathlib.Core.List as Lists
use mathlib.Core.List.{[], ◌∷◌}
use lib.ListN.{length, get_or, get_or-eq_default}
use lib.Dec.{eqb}
use borrow.Author.Tests.{eqb-true, eq-eqb, le-leb}
use Rattle.basics.specs.Tests.{every, tabulate}
use Rattle.basics.proofs.Facts.{tf, both, within_of, every_all, every_at, last, length_tabulate, get_d_tabulate, get_d_all, tabulate_is, two_lists}
use Rattle.label.specs.Labels as Labels
use Rattle.label.specs.Rows.{digit, row, row_fits, no_ring}
use Rattle.label.proofs.RowLaws.{digit_row, row_digit, label_fits, fits_behind}
use Rattle.simulation.specs.Calls.{original, has_phase, Call, Phase, Idle, Snap, Update, End, Label, Scan, Process, Rest}
use Rattle.simulation.specs.Machine.{digits, fresh_rest, State, step}
use Rattle.simulation.proofs.Simulation.{original_proper}
use Rattle.transition.specs.Forms.{TableAnswer, step_of}
use Rattle.transition.proofs.Written.{original_sized, WritableRest, Writable, writable_step}
use Rattle.transition.proofs.Reached.{Idles}
use Rattle.transition.proofs.Fits.{Fitting, reached_fitting}
use Rattle.transition.proofs.Theorem.{Lawful, step_written}
use Rattle.arrays.specs.Arrays.{Rows, Arrays, arrays, cell, plane, planes, phase_number, phase_for, out_number, out_for, result_rows, shown_in, result_of}
use Rattle.arrays.specs.Arrays.{Planes, rows_at, label_row, rest_in, rest_of, state_of, jobs_of, control_of, results_of, labels_of, arrays_of, Holds}
use Rattle.arrays.specs.WellFormed.{control_fits, station_fits, place_fresh, well_formed}
use Rattle.arrays.specs.Form.{lent}
use Rattle.arrays.specs.Sizes.{Shaped}
use Rattle.arrays.proofs.Passed.{passed, newest_station}
use Rattle.arrays.proofs.Results.{result_back, Blank, rows_back, entries_listed, fits_blank, fresh_cells, empty_fresh, none_held, sound_fits}

-- PHASES

pub phase_back : (p : Phase) → has_phase original p ≡ true → phase_for (phase_number p) ≡ p
phase_back Idle k = refl
phase_back (Snap Label) k = refl
phase_back (Snap Scan) k = absurd (tf k refl)
phase_back Update k = refl
phase_back (End Label) k = refl
phase_back (End Scan) k = refl

pub phase_low : (p : Phase) → phase_number p ≤ 4
phase_low Idle = omega arith
phase_low (Snap o) = omega arith
phase_low Update = omega arith
phase_low (End Label) = omega arith
phase_low (End Scan) = omega arith

pub number_back : (b : ℕ) → b ≤ 4 → phase_number (phase_for b) ≡ b
number_back b h = eqb-true _ b (every_at 5 (λ k. eqb (phase_number (phase_for k)) k) all b (omega arith))
  where
    all : every 5 (λ k. eqb (phase_number (phase_for k)) k) ≡ true
    all = unfold every in refl

-- every number stands for a phase that a table keeps
pub number_kept : (b : ℕ) → has_phase original (phase_for b) ≡ true
number_kept b = either (eqb b 0) Idle _ refl (either (eqb b 1) (Snap Label) _ refl (either (eqb b 2) Update _ refl (either (eqb b 3) (End Label) (End Scan) refl refl)))
  where
    either : (t : Bool) (p q : Phase) → has_phase original p ≡ true → has_phase original q ≡ true → has_phase original (cond t p q) ≡ true
    either true p q h k = h
    either false p q h k = k

-- SERVICE

pub out_back : (x : Bool) → out_for (out_number x) ≡ x
out_back true = refl
out_back false = refl

pub out_low : (x : Bool) → out_number x ≤ 1
out_low true = omega arith
out_low false = omega arith

pub out_number_lem : (b : ℕ) → b ≤ 1 → out_number (out_for b) ≡ b
out_number_lem b h = eqb-true _ b (every_at 2 (λ k. eqb (out_number (out_for k)) k) all b (omega arith))
  where
    all : every 2 (λ k. eqb (out_number (out_for k)) k) ≡ true
    all = unfold every in refl

-- WHAT IS NOT LABELS and can be written down is what its arrays hold
module _ (n : ℕ) (high : n ≤ 32) (o : Rest) (w : WritableRest original n o) where
  -- what stands in the arrays at every place, past the last too
  job_at : (x : Bool) (i : ℕ) → cell (planes (jobs_of o)) (plane x) i 0 ≡ jobs_of o x i
  job_at false i = get_d_all 32 i (jobs_of o false) 0 (λ l. sym (ap (λ (p : Process). p.job) (w.past i (omega arith))))
  job_at true i = get_d_all 32 i (jobs_of o true) 0 (λ l. sym (ap (λ (p : Process). p.pending_job) (w.past i (omega arith))))

  phase_at : (i : ℕ) → cell (planes (control_of o)) 0 i 0 ≡ phase_number (o.process i).phase
  phase_at i = get_d_all 32 i (λ j. phase_number (o.process j).phase) 0
      (λ l. sym (ap (λ (p : Process). phase_number p.phase) (w.past i (omega arith))))

  out_at : (i : ℕ) → cell (planes (control_of o)) 1 i 0 ≡ out_number (o.process i).out
  out_at i = get_d_all 32 i (λ j. out_number (o.process j).out) 0
      (λ l. sym (ap (λ (p : Process). out_number p.out) (w.past i (omega arith))))

  rows_at_lem : (i : ℕ) → i < 32 → get_or (results_of o) i [] ≡ result_rows (o.result i)
  rows_at_lem i l = get_d_tabulate 32 0 i (λ j. result_rows (o.result j)) [] l ∙ ap (λ j. result_rows (o.result j)) (zero-add i)

  result_at : (i : ℕ) → result_of n (get_or (results_of o) i []) ≡ o.result i
  result_at i = by_cases (dec_lt i 32)
      (λ l. ap (result_of n) (rows_at_lem i l) ∙ result_back n (o.result i) high (w.listed i))
      (λ l. ap (result_of n) (get_or-eq_default (results_of o) [] (rw length_tabulate (omega arith)))
      ∙ none_held n [] (λ p _. refl) ∙ sym (w.unused i (omega arith)))

  rest_back : rest_in n (planes (jobs_of o)) (planes (control_of o)) (results_of o) ≡ o
  rest_back = λ y. record {
    process = λ i. record {
      job = job_at false i y;
      pending_job = job_at true i y;
      phase =
          (ap phase_for (phase_at i) ∙ phase_back (o.process i).phase (w.phase i)) y;
      out = (ap out_for (out_at i) ∙ out_back (o.process i).out) y;
    };
    result = λ i. result_at i y;
  }

  pub held_phases : {jobs control : Rows} {results : Planes} → Holds o jobs control results → (i : ℕ) → cell control 0 i 0 ≤ 4
  held_phases h i = omega (arith, ap (λ (c : Rows). cell c 0 i 0) h.control, phase_at i, phase_low (o.process i).phase)

  pub rest_held : {jobs control : Rows} {results : Planes} → Holds o jobs control results → rest_in n jobs control results ≡ o
  rest_held h = (λ y. rest_in n (h.jobs y) (h.control y) (h.results y)) ∙ rest_back

-- A STATE THAT CAN BE WRITTEN DOWN is the state that its arrays hold
module _ (n : ℕ) (high : n ≤ 32) (s : State Labels.Label) (w : Writable original n s) where
  label_at : (x : Bool) (i : ℕ) → digit (label_row (arrays_of n s) x i) ≡ s.labels x i
  unfolding arrays_of
  label_at x i = by_cases (dec_lt i 32)
      (λ l. ap digit (here x l) ∙ digit_row 31 (s.labels x i) (w.behind x i))
      (λ l. ap digit (there x (omega arith)) ∙ sym (w.blank x i (omega arith)))
    where
      here : (x : Bool) → i < 32 → label_row (arrays_of n s) x i ≡ row 31 (s.labels x i)
      here false l = get_d_tabulate 32 0 i (λ j. row 31 (s.labels false j)) [] l ∙ ap (λ j. row 31 (s.labels false j)) (zero-add i)
      here true l = get_d_tabulate 32 0 i (λ j. row 31 (s.labels true j)) [] l ∙ ap (λ j. row 31 (s.labels true j)) (zero-add i)

      there : (x : Bool) → 32 ≤ i → label_row (arrays_of n s) x i ≡ []
      there false l = get_or-eq_default (tabulate 32 0 (λ j. row 31 (s.labels false j))) [] (rw length_tabulate l)
      there true l = get_or-eq_default (tabulate 32 0 (λ j. row 31 (s.labels true j))) [] (rw length_tabulate l)

  pub held_written : state_of (arrays_of n s) ≡ s
  unfolding arrays_of
  held_written = λ y. record { labels = λ x i. label_at x i y; rest = rest_back n high s.rest w.rest y }

-- and well-formed if that state passes
module _ (n : ℕ) (low : 2 ≤ n) (high : n ≤ 32) (s : State Labels.Label) (f : Fitting original n s) where
  w : Writable original n s
  w = f.writable

  rows_fit : (x : Bool) (i : ℕ) → i < n → row_fits 31 (n - 1) (label_row (arrays_of n s) x i) ≡ true
  rows_fit x i l = label_fits 31 (n - 1) _ (s.labels x i) (label_at n high s w x i) (f.digits x i) (f.behind x i)

  rows_fresh : (x : Bool) (i : ℕ) → n ≤ i → row_fits 31 0 (label_row (arrays_of n s) x i) ≡ true
  rows_fresh x i l = label_fits 31 0 _ (λ p. 1) (label_at n high s w x i ∙ w.blank x i l) (λ p. (omega arith, omega arith)) (λ p _. refl)

  control_fits_lem : (p : Process) → Idles p → control_fits (phase_number p.phase) (out_number p.out) ≡ true
  control_fits_lem p h = both (both (le-leb _ 4 (phase_low p.phase)) (le-leb _ 1 (out_low p.out))) (idle p.out h)
    where
      idle : (x : Bool) → (x ≡ true → p.phase ≡ Idle) → eqb (out_number x) 0 || eqb (phase_number p.phase) 0 ≡ true
      idle true f = rw (f refl) refl
      idle false f = refl

  pub fitting_passes : well_formed (arrays_of n s) ≡ true
  unfolding well_formed station_fits place_fresh arrays_of
  fitting_passes = both (both (both (within_of 2 32 n low high)
      (every_all n _ (λ i l. both (both (both (rows_fit false i l) (rows_fit true i l))
      (rw (rows_at_lem n high o v i (omega arith)) (sound_fits n (o.result i) high (v.listed i) (f.sound i))))
      (rw (phase_at n high o v i, out_at n high o v i) (control_fits_lem (o.process i) (f.idles i))))))
      (every_all (32 - n) _ (λ i l. fresh (n + i) (omega arith) (omega arith))))
      (ap (λ (u : State Labels.Label). no_ring (n - 1) (u.labels false)) (held_written n high s w) ∙ f.free)
    where
      o : Rest
      o = s.rest

      v : WritableRest original n o
      v = w.rest

      fresh : (i : ℕ) → n ≤ i → i < 32 → place_fresh (arrays_of n s) i ≡ true
      fresh i h l = let u = v.past i h in both (both (both (both (both (rows_fresh false i h) (rows_fresh true i h))
          (eq-eqb (cell (arrays_of n s).jobs 0 i 0) 0 (job_at n high o v false i ∙ ap (λ (p : Process). p.job) u)))
          (eq-eqb (cell (arrays_of n s).jobs 1 i 0) 0 (job_at n high o v true i ∙ ap (λ (p : Process). p.pending_job) u)))
          (rw (rows_at_lem n high o v i l, v.unused i (omega arith)) empty_fresh))
          (both (eq-eqb (cell (arrays_of n s).control 0 i 0) 0 (phase_at n high o v i ∙ ap (λ (p : Process). phase_number p.phase) u))
          (eq-eqb (cell (arrays_of n s).control 1 i 0) 0 (out_at n high o v i ∙ ap (λ (p : Process). out_number p.out) u)))

pub lent_lawful : Lawful lent
unfolding arrays_of
lent_lawful = record {
  proper = original_proper;
  counted = λ n s. refl;
  held = λ n z s r. held_written n z.high s r.writable;
  passes = λ n z s r. fitting_passes n z.low z.high s (reached_fitting original_proper n z s r);
}

-- WELL-FORMED ARRAYS are those of the state that they hold
module _ (a : Arrays) (g : Shaped a) (e : well_formed a ≡ true) where
  high : a.count ≤ 32
  high = (passed a e).high

  blank_at : (i : ℕ) → i < 32 → Blank (shown_in a.count (get_or (rows_at a i) 0 [])) (rows_at a i)
  blank_at i l = by_cases (dec_lt i a.count)
      (λ u. fits_blank a.count (rows_at a i) ((passed a e).each i u).result)
      (λ u p _ v. fresh_cells (rows_at a i) ((passed a e).rest i (omega arith) l).result p v)

  phase_known : (i : ℕ) → i < 32 → cell a.control 0 i 0 ≤ 4
  phase_known i l = by_cases (dec_lt i a.count) (λ u. ((passed a e).each i u).phase) (λ u. omega (arith, ((passed a e).rest i (omega arith) l).phase))

  out_known : (i : ℕ) → i < 32 → cell a.control 1 i 0 ≤ 1
  out_known i l = by_cases (dec_lt i a.count) (λ u. ((passed a e).each i u).out) (λ u. omega (arith, ((passed a e).rest i (omega arith) l).out))

  pub labels_back : labels_of (state_of a).labels ≡ a.labels
  labels_back = ap₂ (λ b c. b ∷ c ∷ []) (each 0 (omega arith)) (each 1 (omega arith)) ∙ two_lists a.labels [] g.labels.long
    where
      each : (f : ℕ) → f < 2 → tabulate 32 0 (λ i. row 31 (digit (cell a.labels f i []))) ≡ get_or a.labels f []
      each f h = tabulate_is 32 (get_or a.labels f []) [] _ (g.labels.each f h) (λ i l. row_digit 31 _ ((g.label f h).each i l))

  jobs_back : planes (jobs_of (rest_of a)) ≡ a.jobs
  jobs_back = ap₂ (λ b c. b ∷ c ∷ [])
      (tabulate_is 32 (get_or a.jobs 0 []) 0 _ (g.jobs.each 0 (omega arith)) (λ i l. refl))
      (tabulate_is 32 (get_or a.jobs 1 []) 0 _ (g.jobs.each 1 (omega arith)) (λ i l. refl))
      ∙ two_lists a.jobs [] g.jobs.long

  control_back : planes (control_of (rest_of a)) ≡ a.control
  control_back = ap₂ (λ b c. b ∷ c ∷ [])
      (tabulate_is 32 (get_or a.control 0 []) 0 _ (g.control.each 0 (omega arith)) (λ i l. number_back _ (phase_known i l)))
      (tabulate_is 32 (get_or a.control 1 []) 0 _ (g.control.each 1 (omega arith)) (λ i l. out_number_lem _ (out_known i l)))
      ∙ two_lists a.control [] g.control.long

  results_back : results_of (rest_of a) ≡ a.results
  results_back = tabulate_is 32 a.results [] _ g.results.long (λ i l.
      rows_back _ (rows_at a i) (omega (arith, high, (last a.count (λ p. not (eqb (cell (rows_at a i) 0 p 0) 0))).upto)) (g.result i l) (blank_at i l))

  pub passed_holds : Holds (rest_of a) a.jobs a.control a.results
  passed_holds = record { jobs = sym jobs_back; control = sym control_back; results = sym results_back }

  pub written_held : arrays_of a.count (state_of a) ≡ a
  unfolding arrays_of
  written_held = λ y. arrays a.count (labels_back y) (jobs_back y) (control_back y) (results_back y)

  -- and that state can be written down
  pub held_writable : Writable original a.count (state_of a)
  held_writable = record {
    behind = λ x i p h. by_cases (dec_lt i 32)
        (λ l. get_or-eq_default (label_row a x i) 1 (omega (arith, label_long x i l)))
        (λ l. ap (λ (r : Lists.List ℕ). digit r p) (label_none x i (omega arith)));
    blank = λ x i h. by_cases (dec_lt i 32)
        (λ l. fun_ext (λ p. fits_behind 31 0 (label_row a x i) (label_long x i l) (((passed a e).rest i h l).label x) p (omega arith)))
        (λ l. ap digit (label_none x i (omega arith)));
    rest = record {
      listed = λ i. entries_listed a.count (rows_at a i);
      phase = λ i. number_kept (cell a.control 0 i 0);
      past = λ i h. by_cases (dec_lt i 32) (λ l. (unused i h l).0) (λ l. (missing i (omega arith)).0);
      unused = λ i h. by_cases (dec_lt i 32) (λ l. (unused i (omega arith) l).1) (λ l. (missing i (omega arith)).1);
    };
  }
    where
      label_long : (x : Bool) (i : ℕ) → i < 32 → length (label_row a x i) ≡ 31
      label_long false i l = (g.label 0 (omega arith)).each i l
      label_long true i l = (g.label 1 (omega arith)).each i l

      label_none : (x : Bool) (i : ℕ) → 32 ≤ i → label_row a x i ≡ []
      label_none false i l = get_or-eq_default (get_or a.labels 0 []) [] (omega (arith, g.labels.each 0 (omega arith)))
      label_none true i l = get_or-eq_default (get_or a.labels 1 []) [] (omega (arith, g.labels.each 1 (omega arith)))

      unused : (i : ℕ) → a.count ≤ i → i < 32 → ((rest_of a).process i ≡ fresh_rest.process i) × ((rest_of a).result i ≡ fresh_rest.result i)
      unused i h l = let f = (passed a e).rest i h l in (
        (λ y. record { job = f.job y; pending_job = f.pending_job y; phase = phase_for (f.phase y); out = out_for (f.out y) }),
        none_held a.count (rows_at a i) (λ p u. (fresh_cells (rows_at a i) f.result p (omega (arith, high))).0),
      )

      none : (xs : Rows) (f i : ℕ) → length (get_or xs f []) ≡ 32 → 32 ≤ i → cell xs f i 0 ≡ 0
      none xs f i h l = get_or-eq_default (get_or xs f []) 0 (omega arith)

      missing : (i : ℕ) → 32 ≤ i → ((rest_of a).process i ≡ fresh_rest.process i) × ((rest_of a).result i ≡ fresh_rest.result i)
      missing i l = (
        (λ y. record {
          job = none a.jobs 0 i (g.jobs.each 0 (omega arith)) l y;
          pending_job = none a.jobs 1 i (g.jobs.each 1 (omega arith)) l y;
          phase = phase_for (none a.control 0 i (g.control.each 0 (omega arith)) l y);
          out = out_for (none a.control 1 i (g.control.each 1 (omega arith)) l y);
        }),
        ap (result_of a.count) (get_or-eq_default a.results [] (omega (arith, g.results.long))) ∙ none_held a.count [] (λ p _. refl),
      )

  -- so a step leaves arrays that hold the state which the machine leaves, from any well-formed table, reached or not
  pub step_held : (c : Call) → let n = a.count in state_of (step_of lent a c).table ≡ (step original n (digits original n) (state_of a) c).state
  step_held c = ap (λ (x : TableAnswer Arrays). state_of x.table) (step_written lent a c e)
      ∙ held_written a.count high _ (writable_step original a.count (original_sized a.count (passed a e).low high) (state_of a) held_writable c (newest_station a e))
