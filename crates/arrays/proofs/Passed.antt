-- What the test of 13 tells of the arrays that pass it: in parts; and that "stands before" is an order of the stations.
use Prim.Native.Nat.{ℕ, ◌+◌, ◌-◌, ◌≤◌, ◌<◌}
use native.Mathlib.Omega.{arith}
use mathlib.Core.Path.{◌≡◌}
use mathlib.Core.Logic.{◌≢◌}
use mathlib.Core.Bool.{Bool, true, false, ◌&&◌, ◌||◌}
use lib.Dec.{eqb, leb}
use borrow.Author.Tests.{eqb-true, leb-true}
use Rattle.basics.specs.Tests.{within, every, newest, ordered}
use Rattle.basics.proofs.Facts.{and_both, within_true, every_at}
use Rattle.label.specs.Rows.{digit, row_fits, no_ring}
use Rattle.label.proofs.RowLaws.{fits_digit, ringless}
use Rattle.label.proofs.Total.{Total, total, newest_inside, newest_last, newest_only, Sorted, ordered_sorted}
use Rattle.simulation.specs.Calls.{original}
use Rattle.simulation.specs.Machine.{digits, stands}
use Rattle.arrays.specs.Arrays.{Arrays, cell, label_row, rows_at, state_of}
use Rattle.arrays.specs.WellFormed.{result_fits, result_fresh, control_fits, control_fresh, station_fits, place_fresh, well_formed}

-- one of the n stations
pub record Fits (a : Arrays) (i : ℕ) : Type 0 where
  pub label : (x : Bool) → row_fits 31 (a.count - 1) (label_row a x i) ≡ true
  pub phase : cell a.control 0 i 0 ≤ 4
  pub out : cell a.control 1 i 0 ≤ 1
  pub result : result_fits a.count (rows_at a i) ≡ true

-- a place past them
pub record Fresh (a : Arrays) (i : ℕ) : Type 0 where
  pub label : (x : Bool) → row_fits 31 0 (label_row a x i) ≡ true
  pub job : cell a.jobs 0 i 0 ≡ 0
  pub pending_job : cell a.jobs 1 i 0 ≡ 0
  pub phase : cell a.control 0 i 0 ≡ 0
  pub out : cell a.control 1 i 0 ≡ 0
  pub result : result_fresh (rows_at a i) ≡ true

pub record Passed (a : Arrays) : Type 0 where
  pub low : 2 ≤ a.count
  pub high : a.count ≤ 32
  pub each : (i : ℕ) → i < a.count → Fits a i
  pub rest : (i : ℕ) → a.count ≤ i → i < 32 → Fresh a i
  pub free : no_ring (a.count - 1) (λ i. digit (label_row a false i)) ≡ true

either : (P : Bool → Type 0) → P false → P true → (x : Bool) → P x
either P f t false = f
either P f t true = t

fits : (a : Arrays) (i : ℕ) → station_fits a i ≡ true → Fits a i
unfolding station_fits
fits a i e =
    let p = cell a.control 0 i 0 in
    let o = cell a.control 1 i 0 in
    let control = and_both _ (control_fits p o) e in
    let result = and_both _ (result_fits a.count (rows_at a i)) control.0 in
    let label = and_both (row_fits 31 (a.count - 1) (label_row a false i)) (row_fits 31 (a.count - 1) (label_row a true i)) result.0 in
    let known = and_both (leb p 4) (leb o 1) (and_both (leb p 4 && leb o 1) (eqb o 0 || eqb p 0) control.1).0 in
    record {
      label = either (λ x. row_fits 31 (a.count - 1) (label_row a x i) ≡ true) label.0 label.1;
      phase = leb-true p 4 known.0;
      out = leb-true o 1 known.1;
      result = result.1;
    }

fresh : (a : Arrays) (i : ℕ) → place_fresh a i ≡ true → Fresh a i
unfolding place_fresh
fresh a i e =
    let p = cell a.control 0 i 0 in
    let o = cell a.control 1 i 0 in
    let control = and_both _ (control_fresh p o) e in
    let result = and_both _ (result_fresh (rows_at a i)) control.0 in
    let pending = and_both _ (eqb (cell a.jobs 1 i 0) 0) result.0 in
    let job = and_both _ (eqb (cell a.jobs 0 i 0) 0) pending.0 in
    let label = and_both (row_fits 31 0 (label_row a false i)) (row_fits 31 0 (label_row a true i)) job.0 in
    let idle = and_both (eqb p 0) (eqb o 0) control.1 in
    record {
      label = either (λ x. row_fits 31 0 (label_row a x i) ≡ true) label.0 label.1;
      job = eqb-true _ 0 job.1;
      pending_job = eqb-true _ 0 pending.1;
      phase = eqb-true _ 0 idle.0;
      out = eqb-true _ 0 idle.1;
      result = result.1;
    }

pub passed : (a : Arrays) → well_formed a ≡ true → Passed a
unfolding well_formed
passed a e =
    let n = a.count in
    let ring = and_both _ (no_ring (n - 1) (λ i. digit (label_row a false i))) e in
    let rest = and_both _ (every (32 - n) (λ i. place_fresh a (n + i))) ring.0 in
    let each = and_both (within 2 32 n) (every n (station_fits a)) rest.0 in
    let size = within_true 2 32 n each.0 in
    record {
      low = size.0;
      high = size.1;
      each = λ i l. fits a i (every_at n _ each.1 i l);
      rest = λ i h l. let q : n + (i - n) ≡ i = omega arith in fresh a i (rw q at (every_at (32 - n) _ rest.1 (i - n) (omega arith)));
      free = ring.1;
    }

module _ (a : Arrays) (e : well_formed a ≡ true) where
  pub label_digits : (x : Bool) (i p : ℕ) → i < a.count → p < a.count - 1 → (1 ≤ digit (label_row a x i) p) × (digit (label_row a x i) p ≤ 5)
  label_digits x i p li lp = fits_digit 31 (a.count - 1) (label_row a x i) (((passed a e).each i li).label x) p lp

  pub stands_total : Total a.count (stands (digits original a.count) (state_of a).labels)
  stands_total = total (ringless (a.count - 1) (λ i. digit (label_row a false i)) (passed a e).free
      (λ i p li lp. label_digits false i p (omega (arith, (passed a e).low)) lp))
      a.count (omega (arith, (passed a e).low))

  pub newest_station : newest a.count (stands (digits original a.count) (state_of a).labels) < a.count
  newest_station = newest_inside a.count (stands (digits original a.count) (state_of a).labels) stands_total (omega (arith, (passed a e).low))

  -- the newest: all others stand before it, and it alone stands before none
  pub newest_after_all : let n = a.count in let b = stands (digits original n) (state_of a).labels in (j : ℕ) → j < n → j ≢ newest n b → b j (newest n b) ≡ true
  newest_after_all = newest_last a.count (stands (digits original a.count) (state_of a).labels) stands_total (omega (arith, (passed a e).low))

  pub newest_alone : let n = a.count in let b = stands (digits original n) (state_of a).labels in (i : ℕ) → i < n → ((j : ℕ) → j < n → b i j ≡ false) → i ≡ newest n b
  newest_alone = newest_only a.count (stands (digits original a.count) (state_of a).labels) stands_total

  -- the scan order: each station before all later ones
  pub scan_sorted : let b = stands (digits original a.count) (state_of a).labels in Sorted b (ordered a.count b)
  scan_sorted = let n = a.count in ordered_sorted n (stands (digits original n) (state_of a).labels) stands_total n (omega arith)
