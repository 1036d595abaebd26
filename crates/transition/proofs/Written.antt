-- States that a table of n stations can hold, whatever its form; a step leads from one to another.
use Prim.Native.Nat.{ℕ, suc, ◌-◌, ◌*◌, ◌%◌, ◌≤◌, ◌<◌}
use native.Mathlib.Nat.{div-lt_iff_lt-mul, div-add-mod, mul_comm}
use native.Mathlib.Omega.{arith}
use mathlib.Core.Path.{◌≡◌, refl, ◌∙◌}
use mathlib.Core.Bool.{Bool, true, false, ◌||◌, cond}
use mathlib.Core.List as Lists
use mathlib.Core.List.{map}
use lib.ListN.{length, get_or, length-map}
use lib.Dec.{eqb}
use borrow.Author.Tests.{eqb-true}
use Rattle.basics.specs.Tests.{within, newest, ordered, passing, All}
use Rattle.basics.proofs.Facts.{and_both, within_true, by_here, all_at, each_all, all_map, ordered_length}
use Rattle.basics.proofs.Passing.{passing_length}
use Rattle.label.specs.Labels as Labels
use Rattle.label.specs.Labels.{new_label}
use Rattle.simulation.specs.Calls.{Call, place, Label, Scan, Entry, entry, Process, Rest, Move, judge, Board, original, station_of, has_phase, sized}
use Rattle.simulation.specs.Machine.{digits, stands, pending_after, label_step, relabelled, shows, scan_of, carry_out, fresh_rest, State, step, fresh_label}
use Rattle.simulation.proofs.Labellings.{by_put}
use Rattle.simulation.proofs.Judged.{own_place, VerdictIn, turned, begins, begins_scan, scans, updates, snaps, ends, service, verdict_in}
use Rattle.simulation.proofs.Touched.{labels_kept, process_kept, result_kept, results_all, touched_own, untouched}
use Rattle.simulation.proofs.Simulation.{new_behind}

-- THE SIZES of tables: n processes, those of 2 to 32 stations
pub record Sized (B : Board) (n : ℕ) : Type 0 where
  pub some : 1 ≤ B.per_station
  pub low : 2 * B.per_station ≤ n
  pub high : n ≤ 32 * B.per_station
  pub whole : station_of B n * B.per_station ≡ n

module _ {B : Board} {n : ℕ} (z : Sized B n) where
  pub sized_some : 1 ≤ n
  sized_some = omega (arith, z.low, z.some)

  -- processes are those of the stations
  pub station_inside : (k : ℕ) → k < n → station_of B k < station_of B n
  station_inside k l = (div-lt_iff_lt-mul {k = B.per_station} {x = k} {y = station_of B n} z.some).1 (omega (arith, z.whole))

-- as it is tested
pub sized_of : {B : Board} {n : ℕ} → 1 ≤ B.per_station → sized B n ≡ true → Sized B n
sized_of {B} {n} some e =
    let b = and_both (within (2 * B.per_station) (32 * B.per_station) n) _ e in
    let w = within_true (2 * B.per_station) (32 * B.per_station) n b.0 in
    record { some = some; low = w.0; high = w.1; whole = omega (arith, div-add-mod n B.per_station, eqb-true (n % B.per_station) 0 b.1, mul_comm B.per_station (station_of B n)) }

-- of the original board
pub original_sized : (n : ℕ) → 2 ≤ n → n ≤ 32 → Sized original n
original_sized n low high = record { some = omega arith; low = omega arith; high = omega arith; whole = omega arith }

-- a result has at most n entries, and the last of them is that of a station
abbrev pub Listed : ℕ → Lists.List Entry → Type 0
Listed n l = (length l ≤ n) × ((p : ℕ) → length l ≡ suc p → 1 ≤ (get_or l p (entry 0 0)).station)

-- what is not labels: results are lists of at most n processes, phases are the board's, and past n everything is fresh
pub record WritableRest (B : Board) (n : ℕ) (o : Rest) : Type 0 where
  pub listed : (g : ℕ) → Listed n (o.result g)
  pub phase : (i : ℕ) → has_phase B (o.process i).phase ≡ true
  pub past : (i : ℕ) → n ≤ i → o.process i ≡ fresh_rest.process i
  pub unused : (g : ℕ) → station_of B n ≤ g → o.result g ≡ fresh_rest.result g

-- and labels are filled past the digits of all processes, and past n
pub record Writable (B : Board) (n : ℕ) (s : State Labels.Label) : Type 0 where
  pub behind : (x : Bool) (i p : ℕ) → 32 * B.per_station - 1 ≤ p → s.labels x i p ≡ B.fill
  pub blank : (x : Bool) (i : ℕ) → n ≤ i → s.labels x i ≡ fresh_label B
  pub rest : WritableRest B n s.rest

-- what a scan of n processes stores is such a list
scan_listed : {n : ℕ} (process : ℕ → Process) (order : Lists.List ℕ) → length order ≡ n → Listed n (scan_of process order)
unfolding scan_of
scan_listed process order e = (
  omega (arith, length-map shown entry_for, passing_length (λ i. shows (process i)) order),
  λ p h. all_at (λ x. 1 ≤ x.station) (map entry_for shown) (entry 0 0) named p (omega arith),
)
  where
    shown : Lists.List ℕ
    shown = passing (λ i. shows (process i)) order

    entry_for : ℕ → Entry
    entry_for i = entry (suc i) (process i).job

    named : All (λ x. 1 ≤ x.station) (map entry_for shown)
    named = all_map (λ i. Unit {0}) (λ (x : Entry). 1 ≤ x.station) entry_for (λ i _. omega arith) shown (each_all _ shown 0 (λ p _. tt))

-- THE REST after a step, whatever the labels: it can be written down if the one before it can, and all n processes are in the order
module _ (B : Board) (n : ℕ) (z : Sized B n) (o : Rest) (w : WritableRest B n o) (c : Call) where
  -- a process gets a phase that the board has
  phases_kept : {m : Move} → VerdictIn B n o c m → (order : Lists.List ℕ) (i : ℕ) → has_phase B ((carry_out B order o m).rest.process i).phase ≡ true
  unfolding carry_out
  phases_kept v order i = go v
    where
      at : (b : Bool) (p : Process) → has_phase B p.phase ≡ true → has_phase B (cond b p (o.process i)).phase ≡ true
      at true p h = h
      at false p h = w.phase i

      go : {m : Move} → VerdictIn B n o c m → has_phase B ((carry_out B order o m).rest.process i).phase ≡ true
      go (turned y f) = w.phase i
      go (begins own f) = at (eqb i (place c)) _ refl
      go (begins_scan own f e) = at (eqb i (place c)) _ e
      go (scans own f e) = at (eqb i (place c)) _ refl
      go (updates own e) = at (eqb i (place c)) _ refl
      go (snaps own Label e t) = at (eqb i (place c)) _ refl
      go (snaps own Scan e t) = at (eqb i (place c)) _ refl
      go (ends own Label e f) = at (eqb i (place c)) _ refl
      go (ends own Scan e f) = at (eqb i (place c)) _ refl
      go (service own b e) = at (eqb i (place c)) _ (w.phase i)

  pub rest_step : (order : Lists.List ℕ) → length order ≡ n → WritableRest B n (carry_out B order o (judge B n o c)).rest
  rest_step order e = let v = verdict_in B n o c in record {
    listed = results_all B order o (Listed n) (scan_listed o.process order e) w.listed (judge B n o c);
    phase = phases_kept v order;
    past = λ i l. process_kept B order o (judge B n o c) i (untouched v i (λ h. absurd (omega arith))) ∙ w.past i l;
    unused = λ g l. result_kept B order o (judge B n o c) g (λ k t q. omega (arith, station_inside z k (touched_own v k t).1)) ∙ w.unused g l;
  }

-- the state after a step can be written down if the one before it can, and has a newest process
module _ (B : Board) (n : ℕ) (z : Sized B n) (s : State Labels.Label) (w : Writable B n s) (c : Call)
    (lead : newest n (stands (digits B n) s.labels) < n) where
  -- a new label leaves the top label within its n - 1 digits
  pending_behind : (k p : ℕ) → k < n → 32 * B.per_station - 1 ≤ p → pending_after n (digits B n) s.labels k p ≡ B.fill
  unfolding pending_after
  pending_behind k p lk h = by_here (λ b. cond b (s.labels true k) (new_label (n - 1) B.fill (s.labels false) y k) p ≡ B.fill) y k
      (λ _. w.behind true k p h)
      (λ d. new_behind (n - 1) B.fill (s.labels false) y k (omega arith) (omega arith) d p (omega (arith, z.high)))
    where
      y : ℕ
      y = newest n (stands (digits B n) s.labels)

  labels_behind : {m : Move} → VerdictIn B n s.rest c m → (x : Bool) (i p : ℕ) → 32 * B.per_station - 1 ≤ p
      → relabelled n (digits B n) s.labels (label_step m) x i p ≡ B.fill
  unfolding relabelled
  labels_behind (turned y f) x i p h = w.behind x i p h
  labels_behind (begins own f) x i p h = w.behind x i p h
  labels_behind (begins_scan own f e) x i p h = w.behind x i p h
  labels_behind (scans own f e) x i p h = w.behind x i p h
  labels_behind (updates own e) x i p h = w.behind (x || eqb i (place c)) i p h
  labels_behind (snaps own Label e t) x i p h =
      by_put (λ b. cond b (pending_after n (digits B n) s.labels (place c)) (s.labels x i) p ≡ B.fill) x (place c) i
      (λ _. pending_behind (place c) p (own_place own) h) (w.behind x i p h)
  labels_behind (snaps own Scan e t) x i p h = w.behind x i p h
  labels_behind (ends own o e f) x i p h = w.behind x i p h
  labels_behind (service own b e) x i p h = w.behind x i p h

  pub writable_step : Writable B n (step B n (digits B n) s c).state
  unfolding step
  writable_step = let v = verdict_in B n s.rest c in record {
    behind = labels_behind v;
    blank = λ x i l. labels_kept n (digits B n) s.labels (judge B n s.rest c) i (untouched v i (λ h. absurd (omega arith))) x ∙ w.blank x i l;
    rest = rest_step B n z s.rest w.rest c (ordered n (stands (digits B n) s.labels)) (ordered_length (stands (digits B n) s.labels) n);
  }
