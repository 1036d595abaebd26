-- The result of a scan, station by station: its rows with one entry more, and the stations that come to be in it.
use Prim.Native.Nat.{ℕ, suc, ◌+◌, ◌<◌}
use native.Mathlib.Numerals.{add-one}
use native.Mathlib.Omega.{arith}
use native.Mathlib.Decide.{dec_lt}
use mathlib.Core.Path.{◌≡◌, refl, sym, ap, ap₂, ◌∙◌}
use mathlib.Core.Logic.{◌≢◌, by_cases}
use mathlib.Core.Bool.{Bool, true, false, ◌&&◌}
use mathlib.Core.List as Lists
use mathlib.Core.List.{[], ◌∷◌, ◌++◌, map, map-append, append-nil}
use lib.ListN.{length, get_or, take, set, replicate, length-append, get_or-append, get_or-eq_default}
use lib.Seq.{take-suc, get_or_at}
use borrow.Author.Tests.{eq-eqb, ne_eqb}
use Rattle.std.proofs.lemmas.List.{take-take}
use Rattle.basics.specs.Tests.{passing, tabulate}
use Rattle.basics.proofs.Facts.{replicate_tabulate, set_tabulate}
use Rattle.basics.proofs.Passing.{passing_yes, passing_no, passing_append}
use Rattle.simulation.specs.Calls.{Entry, entry, Process}
use Rattle.simulation.specs.Machine.{has_job, shows, scan_of}
use Rattle.arrays.specs.Arrays.{Rows, result_rows}
use Rattle.engine.specs.Scans.{found, scanned, scan_rows}

-- a row of the result l: its stations, or its jobs
abbrev row_for : (Entry → ℕ) → Lists.List Entry → Lists.List ℕ
row_for f l = tabulate 32 0 (λ p. f (get_or l p (entry 0 0)))

row_none : (f : Entry → ℕ) → f (entry 0 0) ≡ 0 → replicate 32 0 ≡ row_for f []
row_none f e = replicate_tabulate 32 0 0 _ (λ p _. e)

-- one entry more
row_more : (f : Entry → ℕ) (l : Lists.List Entry) (e : Entry) (k : ℕ) → k ≡ length l → k < 32 → set (row_for f l) k (f e) ≡ row_for f (l ++ e ∷ [])
row_more f l e k q h = set_tabulate 32 k (f e) _ _ h (ap f (sym at_end)) (λ p _ d. ap f (sym (elsewhere p d)))
  where
    at_end : get_or (l ++ e ∷ []) k (entry 0 0) ≡ e
    at_end = get_or_at l e [] (entry 0 0) k (sym q)

    elsewhere : (p : ℕ) → p ≢ k → get_or (l ++ e ∷ []) p (entry 0 0) ≡ get_or l p (entry 0 0)
    elsewhere p d = by_cases (dec_lt p k)
        (λ u. get_or-append l (e ∷ []) (entry 0 0) p (omega arith))
        (λ u. get_or-eq_default (l ++ e ∷ []) (entry 0 0) (omega (arith, length-append l (e ∷ [])))
        ∙ sym (get_or-eq_default l (entry 0 0) (omega arith)))

-- what the code asks of a process
module _ (jobs service : Lists.List ℕ) (i : ℕ) where
  pub found_yes : get_or jobs i 0 ≢ 0 → get_or service i 0 ≡ 0 → shows (found jobs service i) ≡ true
  found_yes d e = rw (ne_eqb _ 0 d, eq-eqb _ 0 e) refl

  pub found_idle : get_or jobs i 0 ≡ 0 → shows (found jobs service i) ≡ false
  found_idle e = rw (eq-eqb _ 0 e) refl

  pub found_out : get_or service i 0 ≢ 0 → shows (found jobs service i) ≡ false
  found_out d = rw (ne_eqb _ 0 d) (go (has_job (get_or jobs i 0)))
    where
      go : (b : Bool) → (b && false) ≡ false
      go true = refl
      go false = refl

-- the next station of the order
module _ (order : Lists.List ℕ) (process : ℕ → Process) (p : ℕ) (h : p < length order) where
  abbrev i : ℕ
  i = get_or order p 0

  abbrev shown : ℕ → Bool
  shown j = shows (process j)

  abbrev entry_for : ℕ → Entry
  entry_for j = entry (suc j) (process j).job

  one_more : scanned (p + 1) order process ≡ scanned p order process ++ map entry_for (passing shown (i ∷ []))
  unfolding scan_of
  one_more = ap (λ l. map entry_for (passing shown l)) (ap (λ k. take k order) (add-one p) ∙ take-suc order p 0 h)
      ∙ ap (map entry_for) (passing_append shown (take p order) (i ∷ []))
      ∙ map-append entry_for (passing shown (take p order)) (passing shown (i ∷ []))

  with_this : shown i ≡ true → scanned (p + 1) order process ≡ scanned p order process ++ entry_for i ∷ []
  unfolding passing
  with_this e = one_more ∙ ap (λ l. scanned p order process ++ map entry_for l) (passing_yes shown i [] e)

  without_this : shown i ≡ false → scanned (p + 1) order process ≡ scanned p order process
  unfolding passing
  without_this e = one_more ∙ ap (λ l. scanned p order process ++ map entry_for l) (passing_no shown i [] e) ∙ append-nil _

-- rows with the k entries of a scan of the first p stations of the order
pub record Filled (order : Lists.List ℕ) (process : ℕ → Process) (p k : ℕ) (rows : Rows) : Type 0 where
  pub count : k ≡ length (scanned p order process)
  pub held : rows ≡ scan_rows p order process

-- row or plane f with v at place k
abbrev pub put : {A : Type 0} → Lists.List (Lists.List A) → ℕ → ℕ → A → Lists.List (Lists.List A)
put xs f k v = set xs f (set (get_or xs f []) k v)

module _ (order : Lists.List ℕ) (process : ℕ → Process) where
  pub none_yet : Filled order process 0 0 (replicate 2 (replicate 32 0))
  unfolding scan_of passing
  none_yet = record { count = refl; held = ap₂ (λ a b. a ∷ b ∷ []) (row_none (λ e. e.station) refl) (row_none (λ e. e.job) refl) }

  -- the next station is shown, or struck out
  module _ (p k : ℕ) {rows : Rows} (f : Filled order process p k rows) (h : p < length order) where
    pub shown_next : {k' : ℕ} {rows' : Rows} → k < 32 → shows (process (get_or order p 0)) ≡ true
        → rows' ≡ put (put rows 0 k (get_or order p 0 + 1)) 1 k (process (get_or order p 0)).job → k' ≡ k + 1 → Filled order process (p + 1) k' rows'
    shown_next u d er ek =
        let w = with_this order process p h d in
        let l = scanned p order process in
        let e = entry (suc (get_or order p 0)) (process (get_or order p 0)).job in
        record {
          count = omega (arith, f.count, ap length w, length-append l (e ∷ []));
          held = er ∙ ap₂ (λ r v. put (put r 0 k v) 1 k e.job) f.held (add-one _) ∙ ap₂ (λ a b. a ∷ b ∷ [])
              (row_more (λ x. x.station) l e k f.count u) (row_more (λ x. x.job) l e k f.count u)
              ∙ ap result_rows (sym w);
        }

    pub struck_next : {k' : ℕ} {rows' : Rows} → shows (process (get_or order p 0)) ≡ false → rows' ≡ rows → k' ≡ k → Filled order process (p + 1) k' rows'
    struck_next z er ek =
        let w = sym (without_this order process p h z) in
        record { count = ek ∙ f.count ∙ ap length w; held = er ∙ f.held ∙ ap result_rows w }

-- the scan of all n stations
pub all_scanned : (n : ℕ) {p k : ℕ} (order : Lists.List ℕ) {process : ℕ → Process} {rows : Rows} → Filled (take n order) process p k rows → p ≡ n
    → rows ≡ scan_rows n order process
all_scanned n order {process} f e =
    f.held ∙ ap (λ l. result_rows (scan_of process l)) (ap (λ m. take m (take n order)) e ∙ take-take n n order (omega arith))
