-- What the tests of single rows say of the table that the arrays hold.
use Rattle.std.proofs.Common.{◌≡◌, ℕ, suc, ◌+◌, ◌-◌, ◌%◌, ◌^◌, ◌<◌, ◌≤◌, Bool, true, false, cond, not, ◌&&◌, eqb, ltb, leb, List, [], get_or, sym, refl, ap, ◌∙◌, ap₂, mod-eq_of_lt, zero-add, add-one, arith, ltb-true, le-ltb, lt-ltb, eq-eqb, eqb-true}
use native.Mathlib.Decide.{dec_lt}
use mathlib.Core.Logic.{by_cases}
use Rattle.basics.specs.Tests.{within, every, count}
use Rattle.basics.proofs.Facts.{and_both, both, last, left_no, within_true, within_of, every_all, every_at, every_same, get_d_tabulate}
use Rattle.basics.proofs.Loops.{same_test, every_and}
use Rattle.label.specs.Rows.{digit, row_fits, no_ring}
use Rattle.well_formed.specs.Loops.{tops, fits_at, half_fits, both_fit, control_at, none_from}
use Rattle.arrays.specs.Arrays.{Arrays, Planes, Rows, cell, shown_in, label_row}
use Rattle.arrays.specs.WellFormed.{entry_fits, result_fits, result_fresh, control_fits, control_fresh, station_fits, place_fresh, well_formed}

-- LABELS

-- a digit d from 1 to t, by s, which is d less 1, and the greatest byte for 0
pub from_one : (d t s : ℕ) → s < 256 → t < 256 → (s + 1) % 2 ^ 8 ≡ d → ltb s t ≡ within 1 t d
from_one d t s b u e = same_test _ _
    (λ h. let l = ltb-true s t h in let q : s + 1 ≡ d = sym (mod-eq_of_lt (omega arith)) ∙ e in within_of 1 t d (omega arith) (omega arith))
    (λ h. let w = within_true 1 t d h in by_cases (dec_lt s 255)
    (λ l. let q : s + 1 ≡ d = sym (mod-eq_of_lt (omega arith)) ∙ e in lt-ltb s t (omega arith))
    (λ l. let z : s ≡ 255 = omega arith in let q : 0 ≡ d = rw z at e in absurd (omega arith)))

-- the greatest digits, read from place 32 - m on
pub top_at : {t : List ℕ} (m p : ℕ) → t ≡ tops → m ≤ 32 → p < 32 → get_or t (32 - m + p) 0 ≡ cond (ltb p m) 5 1
top_at m p e h l = ap (λ t. get_or t (32 - m + p) 0) e ∙ get_d_tabulate 64 0 (32 - m + p) (λ p. cond (ltb p 32) 5 1) 0 (omega arith) ∙ by_cases (dec_lt p m)
    (λ u. rw (lt-ltb (0 + (32 - m + p)) 32 (omega arith), lt-ltb p m u) refl)
    (λ u. rw (le-ltb (0 + (32 - m + p)) 32 (omega arith), le-ltb p m (omega arith)) refl)

-- all of k numbers: those below a, and those from b on
parts : (f : ℕ → Bool) (a b k : ℕ) → b ≤ a → a ≤ k → every k f ≡ (every a f && every (k - b) (λ p. f (b + p)))
parts f a b k l h = same_test _ _
    (λ e. both (every_all a f (λ p u. every_at k f e p (omega arith))) (every_all (k - b) _ (λ p u. every_at k f e (b + p) (omega arith))))
    (λ e. let t = and_both (every a f) (every (k - b) (λ p. f (b + p))) e in every_all k f (λ p u. by_cases (dec_lt p a)
    (λ v. every_at a f t.0 p v)
    (λ v. let q : p ≡ b + (p - b) = omega arith in ap f q ∙ every_at (k - b) _ t.1 (p - b) (omega arith))))

row_fits_lem : (m : ℕ) (l : List ℕ) → m ≤ 31 → every 31 (fits_at m l) ≡ row_fits 31 m l
unfolding row_fits
row_fits_lem m l h = parts (fits_at m l) m m 31 (omega arith) h
    ∙ ap₂ ◌&&◌ (every_same m _ _ (λ p u. rw (lt-ltb p m u) refl)) (every_same (31 - m) _ _ (λ p u. rw (le-ltb (m + p) m (omega arith)) (one (digit l (m + p)))))
  where
    one : (x : ℕ) → within 1 1 x ≡ eqb x 1
    one x = same_test _ _ (λ e. let w = within_true 1 1 x e in eq-eqb x 1 (omega arith))
        (λ e. let d = eqb-true x 1 e in within_of 1 1 x (omega arith) (omega arith))

-- two labels fit if both halves do
both_fit_lem : (m : ℕ) (x y : List ℕ) → m ≤ 31 → (half_fits m x y 0 && half_fits m x y 15) ≡ (row_fits 31 m x && row_fits 31 m y)
both_fit_lem m x y h = ap (λ b. b && half_fits m x y 15) (every_same 16 _ fit (λ p _. ap fit (zero-add p)))
    ∙ sym (parts fit 16 15 31 (omega arith) (omega arith)) ∙ every_and 31 _ _ ∙ ap₂ ◌&&◌ (row_fits_lem m x h) (row_fits_lem m y h)
  where
    fit : ℕ → Bool
    fit p = fits_at m x p && fits_at m y p

pub all_fit : (m : ℕ) (labels : Planes) (from k : ℕ) {r s : Bool} → m ≤ 31
    → r ≡ every k (λ i. half_fits m (cell labels 0 (from + i) []) (cell labels 1 (from + i) []) 0)
    → s ≡ every k (λ i. half_fits m (cell labels 0 (from + i) []) (cell labels 1 (from + i) []) 15)
    → (r && s) ≡ every k (λ i. both_fit m labels (from + i))
all_fit m labels from k h e f = rw (e, f, ← every_and) (every_same k _ _ (λ i u. both_fit_lem m _ _ h))

-- RESULTS

-- a result by its rows, which show k entries: one of them does not fit, or all do and the rest is told apart
module _ (n : ℕ) (rows : Rows) (k : ℕ) (shown : k ≡ shown_in n (get_or rows 0 [])) where
  abbrev entry_at : ℕ → Bool
  entry_at p = entry_fits n (cell rows 0 p 0) (cell rows 1 p 0)

  pub shown_most : k ≤ n
  shown_most = omega (arith, shown, (last n (λ p. not (eqb (cell rows 0 p 0) 0))).upto)

  pub result_wrong : every k entry_at ≡ false → false ≡ result_fits n rows
  unfolding result_fits
  result_wrong e = sym (left_no _ (left_no _ (left_no _ (ap (λ j. every j entry_at) (sym shown) ∙ e))))

  pub station_small : every k entry_at ≡ true → n ≤ 32 → (p : ℕ) → p < k → cell rows 0 p 0 ≤ 32
  station_small e h p l =
      let w = (and_both (within 1 n (cell rows 0 p 0)) (not (eqb (cell rows 1 p 0) 0)) (every_at k entry_at e p l)).0 in
      omega (arith, (within_true 1 n (cell rows 0 p 0) w).1)

  pub result_rows : (counts : List ℕ) → n ≤ 32 → every k entry_at ≡ true → ((i : ℕ) → i < 33 → get_or counts i 0 ≡ count k (λ p. eqb (cell rows 0 p 0) i))
      → (every n (λ i. leb (get_or counts (i + 1) 0) 1) && none_from n (get_or rows 0 []) && none_from k (get_or rows 1 [])) ≡ result_fits n rows
  unfolding result_fits
  result_rows counts h e c = rw (sym shown, e) (ap (λ b. b && none_from n (get_or rows 0 []) && none_from k (get_or rows 1 []))
      (every_same n _ _ (λ i l. rw (add-one i) (ap (λ x. leb x 1) (c (suc i) (omega arith))))))

pub fresh_result : (rows : Rows) → (none_from 0 (get_or rows 0 []) && none_from 0 (get_or rows 1 [])) ≡ result_fresh rows
unfolding result_fresh
fresh_result rows = sym (every_and 32 _ _) ∙ every_same 32 _ _ (λ p l. rw (zero-add p) refl)

-- CONTROL: the places of n stations, and those past them

control_parts : (n : ℕ) (control : Rows) → n ≤ 32 → every 32 (control_at n control)
    ≡ (every n (λ i. control_fits (cell control 0 i 0) (cell control 1 i 0))
    && every (32 - n) (λ i. control_fresh (cell control 0 (n + i) 0) (cell control 1 (n + i) 0)))
control_parts n control h = parts (control_at n control) n n 32 (omega arith) h ∙ ap₂ ◌&&◌
    (every_same n _ _ (λ i l. rw (lt-ltb i n l) (and_true (control_fits (cell control 0 i 0) (cell control 1 i 0)))))
    (every_same (32 - n) _ _ (λ i l. rw (le-ltb (n + i) n (omega arith)) (zeros (cell control 0 (n + i) 0) (cell control 1 (n + i) 0))))
  where
    and_true : (b : Bool) → (b && true) ≡ b
    and_true true = refl
    and_true false = refl

    zeros : (x y : ℕ) → (control_fits x y && control_fresh x y) ≡ control_fresh x y
    zeros x y = same_test _ _
        (λ e. (and_both (control_fits x y) (control_fresh x y) e).1)
        (λ e. let q = and_both (eqb x 0) (eqb y 0) e in rw (eqb-true x 0 q.0, eqb-true y 0 q.1) refl)

-- THE WHOLE

module _ (a : Arrays) where
  abbrev n : ℕ
  n = a.count

  abbrev fits : ℕ → Bool
  fits i = control_fits (cell a.control 0 i 0) (cell a.control 1 i 0)

  abbrev fresh : ℕ → Bool
  fresh i = control_fresh (cell a.control 0 i 0) (cell a.control 1 i 0)

  pub wrong_count : within 2 32 n ≡ false → false ≡ well_formed a
  unfolding well_formed
  wrong_count e = sym (left_no _ (left_no _ (left_no _ e)))

  -- the stations pass, the places past them do, the control bytes of both do, and what is left is the test for rings
  pub all_tests : (s p : Bool) {c r : Bool} → 2 ≤ n → n ≤ 32 → (s && every n fits) ≡ every n (station_fits a)
      → (p && every (32 - n) (λ i. fresh (n + i))) ≡ every (32 - n) (λ i. place_fresh a (n + i)) → c ≡ every 32 (control_at n a.control)
      → r ≡ no_ring (n - 1) (λ i. digit (label_row a false i)) → (s && p && c && r) ≡ well_formed a
  unfolding well_formed
  all_tests s p {c} {r} low high e f g h = ap (λ x. s && p && x && r) (g ∙ control_parts n a.control high)
      ∙ swapped s p (every n fits) (every (32 - n) (λ i. fresh (n + i))) r ∙ rw (e, f, h, within_of 2 32 n low high) refl
    where
      swapped : (s p x y r : Bool) → (s && p && (x && y) && r) ≡ ((s && x) && (p && y) && r)
      swapped false p x y r = refl
      swapped true true x y r = refl
      swapped true false true y r = refl
      swapped true false false y r = refl

  pub stations : {l r : Bool} → l ≡ every n (λ i. both_fit (n - 1) a.labels (0 + i)) → r ≡ every n (λ i. result_fits n (get_or a.results i []))
      → (l && r && every n fits) ≡ every n (station_fits a)
  unfolding station_fits
  stations e g = rw (e, g, ← every_and, ← every_and) (every_same n _ _ (λ i l. rw (zero-add i) refl))

  pub places : {l j k r : Bool} → l ≡ every (32 - n) (λ i. both_fit 0 a.labels (n + i)) → j ≡ none_from n (get_or a.jobs 0 [])
      → k ≡ none_from n (get_or a.jobs 1 []) → r ≡ every (32 - n) (λ i. result_fresh (get_or a.results (n + i) []))
      → (l && j && k && r && every (32 - n) (λ i. fresh (n + i))) ≡ every (32 - n) (λ i. place_fresh a (n + i))
  unfolding place_fresh
  places e f g h = rw (e, f, g, h, ← every_and, ← every_and, ← every_and, ← every_and) refl
