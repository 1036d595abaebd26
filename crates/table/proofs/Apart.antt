-- Taking a table apart and putting it together are inverse: on tables whose arrays have the lengths of their types, and on arrays of these lengths with
-- numbers of phases. So the struct is a lawful form, since the arrays are one.
use Prim.Native.Nat.{ℕ, zero, suc, ◌≤◌, ◌<◌}
use native.Mathlib.Nat.{zero-add}
use native.Mathlib.Omega.{arith}
use mathlib.Core.Path.{◌≡◌, refl, sym, ap, ap₂, subst, ◌∙◌}
use mathlib.Core.Bool.{Bool, true, false, cond}
use mathlib.Core.List as Lists
use mathlib.Core.List.{[], ◌∷◌}
use lib.ListN.{length, get_or}
use borrow.Author.Tests.{lt-ltb}
use Rattle.basics.specs.Tests.{tabulate}
use Rattle.basics.proofs.Facts.{length_tabulate, get_d_tabulate, tabulate_same, tabulate_is, two_lists}
use Rattle.basics.proofs.Filled.{filled}
use Rattle.label.specs.Labels as Labels
use Rattle.label.specs.Rows.{row}
use Rattle.simulation.specs.Calls as Calls
use Rattle.simulation.specs.Machine.{State}
use Rattle.transition.proofs.Theorem.{Lawful}
use Rattle.moves.specs.Moves.{operation_of, phase_of}
use Rattle.moves.specs.declared.Operation.{Operation}
use Rattle.moves.specs.declared.Operation.TheVariants.{Label, Scan}
use Rattle.moves.specs.declared.Phase.{Phase}
use Rattle.moves.specs.declared.Phase.TheVariants.{Idle, Snap, Update, End}
use Rattle.arrays.specs.Arrays.{Rows, Arrays, arrays, cell, planes, phase_number, phase_for, out_number, out_for, jobs_of, control_of, state_of, arrays_of}
use Rattle.arrays.specs.WellFormed.{well_formed}
use Rattle.arrays.specs.Sizes.{Sized, Shaped}
use Rattle.arrays.proofs.States.{phase_back, phase_low, number_back, out_back, out_low, out_number_lem, lent_lawful, written_held}
use Rattle.table.specs.Tables.{declared_operation, declared_phase, declared_entry, blank, rows_of, entries_of, at, taken_apart, declared_station, put_together, declared}
use Rattle.table.specs.declared.Entry.{Entry}
use Rattle.table.specs.declared.Station.{Station}
use Rattle.table.specs.declared.Table.{Table}

-- LISTS OF 32

pub element : {A : Type 0} (f : ℕ → A) (d : A) (i : ℕ) → i < 32 → get_or (tabulate 32 0 f) i d ≡ f i
element f d i h = get_d_tabulate 32 0 i f d h ∙ ap f (zero-add i)

-- an array that a loop filled to its end
pub filled_end : {A : Type 0} (f : ℕ → A) (z : A) (k : ℕ) → k ≡ 32 → filled 32 k f z ≡ tabulate 32 0 f
filled_end f z k e = tabulate_same 32 0 _ _ (λ i l. rw (lt-ltb i k (omega arith)) refl)

planes_sized : {A : Type 0} (f g : ℕ → A) → Sized 2 32 (tabulate 32 0 f ∷ tabulate 32 0 g ∷ [])
planes_sized f g = record { long = refl; each = each }
  where
    each : (i : ℕ) → i < 2 → length (get_or (tabulate 32 0 f ∷ tabulate 32 0 g ∷ []) i []) ≡ 32
    each zero h = length_tabulate 32 0 f
    each (suc zero) h = length_tabulate 32 0 g
    each (suc (suc i)) h = absurd (omega arith)

-- arrays that are made place by place have the lengths of their types
module _ (n : ℕ) (l : Bool → ℕ → Lists.List ℕ) (j c : Bool → ℕ → ℕ) (r : ℕ → Bool → ℕ → ℕ)
    (wide : (x : Bool) (i : ℕ) → i < 32 → length (l x i) ≡ 31) where
  made_shaped : Shaped (arrays n (planes l) (planes j) (planes c) (tabulate 32 0 (λ i. planes (r i))))
  made_shaped = record {
    labels = planes_sized _ _;
    label = each;
    jobs = planes_sized _ _;
    control = planes_sized _ _;
    results = record { long = length_tabulate 32 0 _; each = λ i h. ap length (element (λ k. planes (r k)) [] i h) };
    result = λ i h. subst (Sized 2 32) (sym (element (λ k. planes (r k)) [] i h)) (planes_sized _ _);
  }
    where
      rows : (x : Bool) → Sized 32 31 (tabulate 32 0 (l x))
      rows x = record { long = length_tabulate 32 0 (l x); each = λ i h. ap length (element (l x) [] i h) ∙ wide x i h }

      each : (f : ℕ) → f < 2 → Sized 32 31 (get_or (planes l) f [])
      each zero h = rows false
      each (suc zero) h = rows true
      each (suc (suc i)) h = absurd (omega arith)

-- PHASES

operation_back : (o : Operation) → declared_operation (operation_of o) ≡ o
operation_back Label = refl
operation_back Scan = refl

pub declared_back : (p : Phase) → declared_phase (phase_of p) ≡ p
declared_back Idle = refl
declared_back Snap = refl
declared_back Update = refl
declared_back (End o) = ap End (operation_back o)

declared_kept : (p : Phase) → Calls.has_phase Calls.original (phase_of p) ≡ true
declared_kept Idle = refl
declared_kept Snap = refl
declared_kept Update = refl
declared_kept (End Label) = refl
declared_kept (End Scan) = refl

declared_number : (p : Calls.Phase) → phase_number (phase_of (declared_phase p)) ≡ phase_number p
declared_number Calls.Idle = refl
declared_number (Calls.Snap o) = refl
declared_number Calls.Update = refl
declared_number (Calls.End Calls.Label) = refl
declared_number (Calls.End Calls.Scan) = refl

-- SCAN RESULTS

rows_back : (rows : Rows) → Sized 2 32 rows → rows_of (entries_of rows) ≡ rows
rows_back rows z = ap₂ (λ a b. a ∷ b ∷ [])
    (tabulate_is 32 (get_or rows 0 []) 0 _ (z.each 0 (omega arith)) (λ p u. ap (λ (e : Entry). e.station) (element f blank p u)))
    (tabulate_is 32 (get_or rows 1 []) 0 _ (z.each 1 (omega arith)) (λ p u. ap (λ (e : Entry). e.job) (element f blank p u)))
    ∙ two_lists rows [] z.long
  where
    f : ℕ → Entry
    f p = declared_entry (cell rows 0 p 0) (cell rows 1 p 0)

entries_back : (l : Lists.List Entry) → length l ≡ 32 → entries_of (rows_of l) ≡ l
entries_back l e = tabulate_is 32 l blank _ e (λ p u. ap₂ declared_entry (element (λ k. (get_or l k blank).station) 0 p u) (element (λ k. (get_or l k blank).job) 0 p u))

-- ARRAYS, PUT TOGETHER

module _ (a : Arrays) (g : Shaped a) (known : (i : ℕ) → i < 32 → (cell a.control 0 i 0 ≤ 4) × (cell a.control 1 i 0 ≤ 1)) where
  put_at : (i : ℕ) → i < 32 → at (put_together a) i ≡ declared_station a i
  unfolding put_together
  put_at i h = element (declared_station a) _ i h

  -- a plane of what f takes of each record
  plane_back : {A : Type 0} (xs : Lists.List (Lists.List A)) (k : ℕ) (d : A) (f : Station → A) → length (get_or xs k []) ≡ 32
      → ((i : ℕ) → i < 32 → f (declared_station a i) ≡ cell xs k i d) → tabulate 32 0 (λ i. f (at (put_together a) i)) ≡ get_or xs k []
  plane_back xs k d f e h = tabulate_is 32 (get_or xs k []) d _ e (λ i l. ap f (put_at i l) ∙ h i l)

  pub apart_together : taken_apart (put_together a) ≡ a
  unfolding taken_apart put_together
  apart_together = λ y. arrays a.count (labels y) (jobs y) (control y) (results y)
    where
      labels : (taken_apart (put_together a)).labels ≡ a.labels
      labels = ap₂ (λ b c. b ∷ c ∷ [])
          (plane_back a.labels 0 [] (λ s. s.label) (g.labels.each 0 (omega arith)) (λ i l. refl))
          (plane_back a.labels 1 [] (λ s. s.pending_label) (g.labels.each 1 (omega arith)) (λ i l. refl))
          ∙ two_lists a.labels [] g.labels.long

      jobs : (taken_apart (put_together a)).jobs ≡ a.jobs
      jobs = ap₂ (λ b c. b ∷ c ∷ [])
          (plane_back a.jobs 0 0 (λ s. s.job) (g.jobs.each 0 (omega arith)) (λ i l. refl))
          (plane_back a.jobs 1 0 (λ s. s.pending_job) (g.jobs.each 1 (omega arith)) (λ i l. refl))
          ∙ two_lists a.jobs [] g.jobs.long

      control : (taken_apart (put_together a)).control ≡ a.control
      control = ap₂ (λ b c. b ∷ c ∷ [])
          (plane_back a.control 0 0 (λ s. phase_number (phase_of s.phase)) (g.control.each 0 (omega arith))
          (λ i l. declared_number (phase_for (cell a.control 0 i 0)) ∙ number_back _ (known i l).0))
          (plane_back a.control 1 0 (λ s. out_number s.out_of_service) (g.control.each 1 (omega arith)) (λ i l. out_number_lem _ (known i l).1))
          ∙ two_lists a.control [] g.control.long

      results : (taken_apart (put_together a)).results ≡ a.results
      results = tabulate_is 32 a.results [] _ g.results.long
          (λ i l. ap (λ (s : Station). rows_of s.scan_result) (put_at i l) ∙ rows_back (get_or a.results i []) (g.result i l))

-- in particular those of a state
module _ (n : ℕ) (s : State Labels.Label) where
  written_shaped : Shaped (arrays_of n s)
  unfolding arrays_of row
  written_shaped = made_shaped n (λ x i. row 31 (s.labels x i)) (jobs_of s.rest) (control_of s.rest)
      (λ i y q. let e = get_or (s.rest.result i) q (Calls.entry 0 0) in cond y e.job e.station) (λ x i h. length_tabulate 31 0 _)

  written_known : (i : ℕ) → i < 32 → (cell (arrays_of n s).control 0 i 0 ≤ 4) × (cell (arrays_of n s).control 1 i 0 ≤ 1)
  unfolding arrays_of
  written_known i l = (
    rw (element (λ j. phase_number (s.rest.process j).phase) 0 i l) (phase_low (s.rest.process i).phase),
    rw (element (λ j. out_number (s.rest.process j).out) 0 i l) (out_low (s.rest.process i).out),
  )

  pub written_apart : taken_apart (put_together (arrays_of n s)) ≡ arrays_of n s
  written_apart = apart_together (arrays_of n s) written_shaped written_known

pub declared_lawful : Lawful declared
unfolding put_together arrays_of
declared_lawful = record {
  proper = lent_lawful.proper;
  counted = λ n s. refl;
  held = λ n z s r. ap state_of (written_apart n s) ∙ lent_lawful.held n z s r;
  passes = λ n z s r. ap well_formed (written_apart n s) ∙ lent_lawful.passes n z s r;
}

-- A TABLE, TAKEN APART

-- what the types of a record and of a table fix
pub record Long (s : Station) : Type 0 where
  pub label : length s.label ≡ 31
  pub pending : length s.pending_label ≡ 31
  pub result : length s.scan_result ≡ 32

pub record Whole (t : Table) : Type 0 where
  pub places : length t.stations ≡ 32
  pub each : (i : ℕ) → i < 32 → Long (at t i)

module _ (t : Table) (w : Whole t) where
  -- the record at a place is the one that the arrays have there
  pub station_apart : (i : ℕ) → i < 32 → declared_station (taken_apart t) i ≡ at t i
  unfolding taken_apart
  station_apart i h y = record {
    label = element (λ k. (at t k).label) [] i h y;
    job = element (λ k. (at t k).job) 0 i h y;
    pending_label = element (λ k. (at t k).pending_label) [] i h y;
    pending_job = element (λ k. (at t k).pending_job) 0 i h y;
    scan_result = (ap entries_of (element (λ k. rows_of (at t k).scan_result) [] i h) ∙ entries_back (at t i).scan_result (w.each i h).result) y;
    phase = (ap (λ b. declared_phase (phase_for b)) (element (λ k. phase_number (phase_of (at t k).phase)) 0 i h)
        ∙ ap declared_phase (phase_back (phase_of (at t i).phase) (declared_kept (at t i).phase)) ∙ declared_back (at t i).phase) y;
    out_of_service = (ap out_for (element (λ k. out_number (at t k).out_of_service) 0 i h) ∙ out_back (at t i).out_of_service) y;
  }

  pub together_apart : put_together (taken_apart t) ≡ t
  unfolding put_together taken_apart
  together_apart = ap (λ (l : Lists.List Station). record { count = t.count; stations = l })
      (tabulate_is 32 t.stations _ (declared_station (taken_apart t)) w.places station_apart)

  pub apart_shaped : Shaped (taken_apart t)
  unfolding taken_apart
  apart_shaped = made_shaped t.count (λ x i. cond x (at t i).pending_label (at t i).label) (λ x i. cond x (at t i).pending_job (at t i).job)
      (λ x i. cond x (out_number (at t i).out_of_service) (phase_number (phase_of (at t i).phase)))
      (λ i y q. let e = get_or (at t i).scan_result q blank in cond y e.job e.station) wide
    where
      wide : (x : Bool) (i : ℕ) → i < 32 → length (cond x (at t i).pending_label (at t i).label) ≡ 31
      wide false i h = (w.each i h).label
      wide true i h = (w.each i h).pending

  -- so a well-formed table is that of the state that it holds
  pub declared_written : well_formed (taken_apart t) ≡ true → put_together (arrays_of t.count (state_of (taken_apart t))) ≡ t
  unfolding taken_apart
  declared_written e = ap put_together (written_held (taken_apart t) apart_shaped e) ∙ together_apart
