-- Results in rows: a result and the rows that it is written down in are inverse, and what 13 tells of rows, and of results.
use Prim.Native.Nat.{ℕ, suc, ◌+◌, ◌-◌, ◌≤◌, ◌<◌}
use native.Mathlib.Nat.{zero-add}
use native.Mathlib.Omega.{arith}
use native.Mathlib.Decide.{ℕ_discrete, dec_lt}
use mathlib.Core.Path.{◌≡◌, refl, sym, ap, ap₂, ◌∙◌}
use mathlib.Core.Logic.{◌≢◌, by_cases}
use mathlib.Core.Bool.{Bool, true, false, not, ◌&&◌}
use mathlib.Core.List as Lists
use mathlib.Core.List.{[], ◌∷◌}
use lib.ListN.{length, get_or, get_or-eq_default}
use lib.Dec.{eqb, leb}
use borrow.Author.Tests.{eqb-true, eq-eqb, ne_eqb, le-leb}
use Rattle.basics.specs.Tests.{within, every, count, tabulate}
use Rattle.basics.proofs.Facts.{both, and_both, tf, within_true, within_of, every_all, every_at, Last, last, last_is, all_at, length_tabulate, get_d_tabulate}
use Rattle.basics.proofs.Facts.{get_d_all, tabulate_is, two_lists}
use Rattle.basics.proofs.Counts.{count_same}
use Rattle.basics.proofs.Passing.{places_passing}
use Rattle.simulation.specs.Calls.{Entry, entry}
use Rattle.transition.proofs.Written.{Listed}
use Rattle.transition.proofs.Reached.{Sound}
use Rattle.arrays.specs.Arrays.{Rows, cell, result_rows, entries_in, shown_in, result_of}
use Rattle.arrays.specs.WellFormed.{entry_fits, result_fits, result_fresh}
use Rattle.arrays.specs.Sizes.{Sized}

-- a place of the rows of a result
module _ (l : Lists.List Entry) (p : ℕ) where
  past_entry : length l ≤ 32 → 32 ≤ p → entry 0 0 ≡ get_or l p (entry 0 0)
  past_entry u h = sym (get_or-eq_default l (entry 0 0) (omega arith))

  station_cell : length l ≤ 32 → cell (result_rows l) 0 p 0 ≡ (get_or l p (entry 0 0)).station
  station_cell u = get_d_all 32 p (λ q. (get_or l q (entry 0 0)).station) 0 (λ h. ap (λ e. e.station) (past_entry u h))

  job_cell : length l ≤ 32 → cell (result_rows l) 1 p 0 ≡ (get_or l p (entry 0 0)).job
  job_cell u = get_d_all 32 p (λ q. (get_or l q (entry 0 0)).job) 0 (λ h. ap (λ e. e.job) (past_entry u h))

-- they show all its entries
shown_rows : (n : ℕ) (l : Lists.List Entry) → n ≤ 32 → Listed n l → shown_in n (get_or (result_rows l) 0 []) ≡ length l
shown_rows n l h e = sym (last_is n _ (length l) (record {
  upto = e.0;
  found = λ p q. rw (ne_eqb (cell (result_rows l) 0 p 0) 0 (λ z. omega (arith, z, station_cell l p (omega (arith, e.0)), e.1 p q))) refl;
  later = λ p u _. ap (λ x. not (eqb x 0)) (station_cell l p (omega (arith, e.0))) ∙ ap (λ (x : Entry). not (eqb x.station 0))
      (get_or-eq_default l (entry 0 0) u);
}))

pub result_back : (n : ℕ) (l : Lists.List Entry) → n ≤ 32 → Listed n l → result_of n (result_rows l) ≡ l
result_back n l h e = ap (λ k. entries_in k (result_rows l)) (shown_rows n l h e)
    ∙ tabulate_is (length l) l (entry 0 0) _ refl (λ p u. ap₂ entry (station_cell l p (omega (arith, e.0))) (job_cell l p (omega (arith, e.0))))

-- an entry in rows
abbrev entry_at : Rows → ℕ → Entry
entry_at rows p = entry (cell rows 0 p 0) (cell rows 1 p 0)

-- rows with nothing from place k on
abbrev pub Blank : ℕ → Rows → Type 0
Blank k rows = (p : ℕ) → k ≤ p → p < 32 → (cell rows 0 p 0 ≡ 0) × (cell rows 1 p 0 ≡ 0)

pub rows_back : (k : ℕ) (rows : Rows) → k ≤ 32 → Sized 2 32 rows → Blank k rows → result_rows (entries_in k rows) ≡ rows
rows_back k rows h z blank = ap₂ (λ a b. a ∷ b ∷ [])
    (tabulate_is 32 (get_or rows 0 []) 0 _ (z.each 0 (omega arith)) (λ p u. at (λ e. e.station) p u (λ l. sym (blank p l u).0)))
    (tabulate_is 32 (get_or rows 1 []) 0 _ (z.each 1 (omega arith)) (λ p u. at (λ e. e.job) p u (λ l. sym (blank p l u).1)))
    ∙ two_lists rows [] z.long
  where
    at : (f : Entry → ℕ) (p : ℕ) → p < 32 → (k ≤ p → f (entry 0 0) ≡ f (entry_at rows p)) → f (get_or (entries_in k rows) p (entry 0 0)) ≡ f (entry_at rows p)
    at f p u e = by_cases (dec_lt p k)
        (λ l. ap f (get_d_tabulate k 0 p (entry_at rows) (entry 0 0) l ∙ ap (entry_at rows) (zero-add p)))
        (λ l. ap f (get_or-eq_default (entries_in k rows) (entry 0 0) (rw (length_tabulate k 0 (entry_at rows)) (omega arith))) ∙ e (omega arith))

-- the result that rows hold
pub entries_listed : (n : ℕ) (rows : Rows) → Listed n (result_of n rows)
entries_listed n rows = (
  omega (arith, length_tabulate k 0 (entry_at rows), L.upto),
  λ p e.
      let l : k ≡ suc p = sym (length_tabulate k 0 (entry_at rows)) ∙ e in
      rw (get_d_tabulate k 0 p (entry_at rows) (entry 0 0) (omega arith), zero-add p) (some p (L.found p l)),
)
  where
    k : ℕ
    k = shown_in n (get_or rows 0 [])

    L : Last n (λ p. not (eqb (cell rows 0 p 0) 0)) k
    L = last n (λ p. not (eqb (cell rows 0 p 0) 0))

    some : (p : ℕ) → not (eqb (cell rows 0 p 0) 0) ≡ true → 1 ≤ cell rows 0 p 0
    some p e = by_cases (ℕ_discrete (cell rows 0 p 0) 0) (λ z. absurd (tf e (rw (eq-eqb _ 0 z) refl))) (λ d. omega arith)

-- a row with nothing from place k on
zeros_from : (f : ℕ → ℕ) (k : ℕ) → every (32 - k) (λ p. eqb (f (k + p)) 0) ≡ true → (p : ℕ) → k ≤ p → p < 32 → f p ≡ 0
zeros_from f k e p h l = let q : k + (p - k) ≡ p = omega arith in eqb-true _ 0 (rw q at (every_at (32 - k) _ e (p - k) (omega arith)))

-- what 13 tells of rows that pass it
module _ (n : ℕ) (rows : Rows) (fits : result_fits n rows ≡ true) where
  abbrev shown : ℕ
  shown = shown_in n (get_or rows 0 [])

  abbrev entries_fit : Bool
  entries_fit = every shown (λ p. entry_fits n (cell rows 0 p 0) (cell rows 1 p 0))

  abbrev none_twice : Bool
  none_twice = every n (λ i. leb (count shown (λ p. eqb (cell rows 0 p 0) (suc i))) 1)

  abbrev none_past : Bool
  none_past = every (32 - n) (λ p. eqb (cell rows 0 (n + p) 0) 0)

  abbrev no_job : Bool
  no_job = every (32 - shown) (λ p. eqb (cell rows 1 (shown + p) 0) 0)

  parts : ((entries_fit && none_twice && none_past) ≡ true) × (no_job ≡ true)
  unfolding result_fits
  parts = and_both (entries_fit && none_twice && none_past) no_job fits

  -- the stations that they show are among the n
  pub station_most : (p : ℕ) → p < shown → cell rows 0 p 0 ≤ n
  station_most p l =
      let e = (and_both entries_fit none_twice (and_both (entries_fit && none_twice) none_past parts.0).0).0 in
      (within_true 1 n _ (and_both (within 1 n (cell rows 0 p 0)) (not (eqb (cell rows 1 p 0) 0)) (every_at shown _ e p l)).0).1

  -- past these there is nothing
  no_station : (p : ℕ) → shown ≤ p → p < 32 → cell rows 0 p 0 ≡ 0
  no_station p h l = by_cases (dec_lt p n)
      (λ u. none (cell rows 0 p 0) ((last n (λ q. not (eqb (cell rows 0 q 0) 0))).later p h u))
      (λ u. zeros_from (λ q. cell rows 0 q 0) n (and_both (entries_fit && none_twice) none_past parts.0).1 p (omega arith) l)
    where
      none : (x : ℕ) → not (eqb x 0) ≡ false → x ≡ 0
      none x e = by_cases (ℕ_discrete x 0) (λ z. z) (λ d. absurd (tf (rw (ne_eqb x 0 d) refl) e))

  pub fits_blank : Blank shown rows
  fits_blank p h l = (no_station p h l, zeros_from (λ q. cell rows 1 q 0) shown parts.1 p h l)

pub fresh_cells : (rows : Rows) → result_fresh rows ≡ true → (p : ℕ) → p < 32 → (cell rows 0 p 0 ≡ 0) × (cell rows 1 p 0 ≡ 0)
unfolding result_fresh
fresh_cells rows e p u =
    let b = and_both (eqb (cell rows 0 p 0) 0) (eqb (cell rows 1 p 0) 0) (every_at 32 _ e p u) in
    (eqb-true _ 0 b.0, eqb-true _ 0 b.1)

pub empty_fresh : result_fresh (result_rows []) ≡ true
unfolding result_fresh every tabulate
empty_fresh = refl

-- rows without a station hold the empty result
pub none_held : (n : ℕ) (rows : Rows) → ((p : ℕ) → p < n → cell rows 0 p 0 ≡ 0) → result_of n rows ≡ []
unfolding tabulate
none_held n rows e = ap (λ k. entries_in k rows)
    (sym (last_is n (λ p. not (eqb (cell rows 0 p 0) 0)) 0
    (record { upto = omega arith; found = λ p q. absurd (omega arith); later = λ p _ u. rw (e p u) refl })))

-- the rows of a sound result pass 13
module _ (n : ℕ) (l : Lists.List Entry) (high : n ≤ 32) (e : Listed n l) (s : Sound n l) where
  abbrev at : ℕ → Entry
  at p = get_or l p (entry 0 0)

  small : length l ≤ 32
  small = omega (arith, e.0)

  named : (p : ℕ) → p < length l → (1 ≤ (at p).station) × ((at p).station ≤ n) × ((at p).job ≢ 0)
  named = all_at (λ x. (1 ≤ x.station) × (x.station ≤ n) × (x.job ≢ 0)) l (entry 0 0) s.each

  behind : (p : ℕ) → length l ≤ p → at p ≡ entry 0 0
  behind p u = get_or-eq_default l (entry 0 0) u

  fits_at : (p : ℕ) → p < length l → entry_fits n (at p).station (at p).job ≡ true
  fits_at p u = let h = named p u in both (within_of 1 n _ h.0 h.1) (rw (ne_eqb (at p).job 0 h.2) refl)

  pub sound_fits : result_fits n (result_rows l) ≡ true
  unfolding result_fits
  sound_fits = rw (shown_rows n l high e) (both (both (both
      (every_all (length l) _ (λ p u. rw (station_cell l p small, job_cell l p small) (fits_at p u)))
      (every_all n _ (λ i u. le-leb (count (length l) (λ p. eqb (cell (result_rows l) 0 p 0) (suc i))) 1 (omega (
        arith,
        count_same (length l) (λ p. eqb (cell (result_rows l) 0 p 0) (suc i)) (λ p. eqb (at p).station (suc i))
            (λ p _. ap (λ (k : ℕ). eqb k (suc i)) (station_cell l p small)),
        places_passing (λ (x : Entry). eqb x.station (suc i)) (entry 0 0) (ne_eqb 0 (suc i) (λ z. omega arith)) l (length l),
        s.once i u,
      )))))
      (every_all (32 - n) _ (λ p _. eq-eqb _ 0 (station_cell l (n + p) small ∙ ap (λ (x : Entry). x.station) (behind (n + p) (omega (arith, e.0)))))))
      (every_all (32 - length l) _ (λ p _. eq-eqb _ 0 (job_cell l (length l + p) small ∙ ap (λ (x : Entry). x.job) (behind (length l + p) (omega arith))))))
