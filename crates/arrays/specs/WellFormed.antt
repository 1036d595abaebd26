-- Well-formed tables (01, refusal 13: one that is not is spoiled; 02, Cards 2 and 4). Of the n stations neither jobs nor pending jobs are judged, nor which
-- phase a station in service is in.
use Rattle.std.specs.Prelude.{ℕ, suc, ◌+◌, ◌-◌, Bool, true, false, ◌&&◌, ◌||◌, [], get_or, eqb, leb}
use Rattle.basics.specs.Tests.{within, every, count}
use Rattle.label.specs.Rows.{digit, row_fits, no_ring}
use Rattle.simulation.specs.Machine.{has_job}
use Rattle.arrays.specs.Arrays.{Rows, Arrays, cell, shown_in, label_row, rows_at}

-- an entry of a result fits: one of n stations, with a job
abbrev pub entry_fits : ℕ → ℕ → ℕ → Bool
entry_fits n station job = within 1 n station && has_job job

-- a result fits (02, Card 2): up to its last station, among the first n places, each entry does, and no station stands twice; past n there is no station, and
-- past the last station no job
unfoldable pub result_fits : ℕ → Rows → Bool
result_fits n rows = let k = shown_in n (get_or rows 0 []) in
    every k (λ p. entry_fits n (cell rows 0 p 0) (cell rows 1 p 0))
    && every n (λ i. leb (count k (λ p. eqb (cell rows 0 p 0) (suc i))) 1)
    && every (32 - n) (λ p. eqb (cell rows 0 (n + p) 0) 0)
    && every (32 - k) (λ p. eqb (cell rows 1 (k + p) 0) 0)

-- a result is that of a fresh station: empty
unfoldable pub result_fresh : Rows → Bool
result_fresh rows = every 32 (λ p. eqb (cell rows 0 p 0) 0 && eqb (cell rows 1 p 0) 0)

-- the control bytes of a station fit: a phase, and in service or out of it; a station out of service is idle (02, Card 4). And they are those of a fresh one:
-- idle, in service
abbrev pub control_fits : ℕ → ℕ → Bool
control_fits phase out = leb phase 4 && leb out 1 && (eqb out 0 || eqb phase 0)

abbrev pub control_fresh : ℕ → ℕ → Bool
control_fresh phase out = eqb phase 0 && eqb out 0

module _ (a : Arrays) where
  -- both labels, the result and the control bytes of one of the n stations
  unfoldable pub station_fits : ℕ → Bool
  station_fits i =
      row_fits 31 (a.count - 1) (label_row a false i) && row_fits 31 (a.count - 1) (label_row a true i)
      && result_fits a.count (rows_at a i) && control_fits (cell a.control 0 i 0) (cell a.control 1 i 0)

  -- a place past n has its fresh contents
  unfoldable pub place_fresh : ℕ → Bool
  place_fresh i =
      row_fits 31 0 (label_row a false i) && row_fits 31 0 (label_row a true i) && eqb (cell a.jobs 0 i 0) 0 && eqb (cell a.jobs 1 i 0) 0
      && result_fresh (rows_at a i) && control_fresh (cell a.control 0 i 0) (cell a.control 1 i 0)

  unfoldable pub well_formed : Bool
  well_formed = let n = a.count in
      within 2 32 n && every n station_fits && every (32 - n) (λ i. place_fresh (n + i)) && no_ring (n - 1) (λ i. digit (label_row a false i))
