-- Laws of the choice of a new label: counts taken in one pass, the search for the level, and what both read of the labels.
use Prim.Native.Nat.{ℕ, zero, suc, ◌+◌, ◌-◌, ◌≤◌, ◌<◌}
use native.Mathlib.Decide.{dec_lt}
use native.Mathlib.Numerals.{add-one}
use native.Mathlib.Omega.{arith}
use mathlib.Core.Path.{◌≡◌, refl, sym, ap, ap₂, ◌∙◌}
use mathlib.Core.Logic.{◌≢◌, by_cases}
use mathlib.Core.Bool.{Bool, true, false, not, ◌&&◌, cond}
use mathlib.Core.List.{List}
use lib.ListN.{length, get_or, take}
use lib.Seq.{length-take-le, get_or-take}
use lib.Dec.{eqb, leb, ltb}
use borrow.Author.Tests.{eq-eqb, ne_eqb, le-leb, lt-leb, lt-ltb, le-ltb}
use Rattle.basics.specs.Tests.{count, first_from, newest}
use Rattle.label.specs.Labels.{Label, agrees, first_difference, others, level, new_label}
use Rattle.label.specs.Rows.{row}
use Rattle.rows.specs.Held.{held, stands_in, pending_in}
use Rattle.basics.proofs.Facts.{right_no, first_is, first_from_same, count_bound, length_tabulate}
use Rattle.label.proofs.Digits.{Tri, lt, eq, gt, compare}
use Rattle.label.proofs.Order.{agrees_upto, difference_first}
use Rattle.label.proofs.Choice.{level_spec}
use Rattle.basics.proofs.Filled.{filled, filled_in}
use Rattle.basics.proofs.Counts.{count_same, count_sum, count_others, count_none}

-- THE LEVEL

less_or_same : (b : Bool) (x p : ℕ) → cond (b && ltb x p) 1 0 + cond (b && eqb x p) 1 0 ≡ cond (b && ltb x (p + 1)) 1 0
less_or_same false x p = refl
less_or_same true x p = go (compare x p)
  where
    go : Tri (x < p) (x ≡ p) (p < x) → cond (ltb x p) 1 0 + cond (eqb x p) 1 0 ≡ cond (ltb x (p + 1)) 1 0
    go (lt l) = rw (lt-ltb x p l, ne_eqb x p (λ e. omega arith), lt-ltb x (p + 1) (omega arith)) refl
    go (eq e) = rw (le-ltb x p (omega arith), eq-eqb x p e, lt-ltb x (p + 1) (omega arith)) refl
    go (gt l) = rw (le-ltb x p (omega arith), ne_eqb x p (λ e. omega arith), le-ltb x (p + 1) (omega arith)) refl

more_or_less : (b : Bool) (x p : ℕ) → cond (b && leb (suc p) x) 1 0 + cond (b && ltb x (p + 1)) 1 0 ≡ cond b 1 0
more_or_less false x p = refl
more_or_less true x p = by_cases (dec_lt p x)
    (λ l. rw (le-leb (suc p) x l, le-ltb x (p + 1) (omega arith)) refl)
    (λ l. rw (lt-leb (suc p) x (omega arith), lt-ltb x (p + 1) (omega arith)) refl)

-- the sum of the first p elements
unfoldable pub upto : List ℕ → ℕ → ℕ
upto l zero = 0
upto l (suc p) = upto l p + get_or l p 0

pub upto_none : (l : List ℕ) → 0 ≡ upto l 0
unfolding upto
upto_none l = refl

pub upto_more : (l : List ℕ) (p : ℕ) → upto l p + get_or l p 0 ≡ upto l (p + 1)
unfolding upto
upto_more l p = sym (ap (upto l) (add-one p))

-- of the n stations, where station j shares s j digits
module _ (n k : ℕ) (s : ℕ → ℕ) where
  -- how many others share fewer than p digits
  unfoldable fewer : ℕ → ℕ
  fewer p = count n (λ j. not (eqb j k) && ltb (s j) p)

  fewer_none : 0 ≡ fewer 0
  unfolding fewer
  fewer_none = sym (count_none n _ (λ j l. right_no (not (eqb j k)) (le-ltb (s j) 0 (omega arith))))

  fewer_more : (p : ℕ) → fewer p + count n (λ j. not (eqb j k) && eqb (s j) p) ≡ fewer (p + 1)
  unfolding fewer
  fewer_more p = count_sum n _ _ _ (λ j l. less_or_same (not (eqb j k)) (s j) p)

  -- the test of the level, told by how many share at most p digits
  abbrev pub enough : ℕ → Bool
  enough p = leb (n - 1 - p) (count n (λ j. not (eqb j k) && leb (suc p) (s j)))

  parts : (p : ℕ) → k < n → count n (λ j. not (eqb j k) && leb (suc p) (s j)) + fewer (p + 1) + 1 ≡ n
  unfolding fewer
  parts p l = ap (λ (c : ℕ). c + 1) (count_sum n _ _ _ (λ j l. more_or_less (not (eqb j k)) (s j) p)) ∙ count_others n k l

  enough_yes : (p : ℕ) → k < n → fewer (p + 1) ≤ p → enough p ≡ true
  enough_yes p l h = le-leb (n - 1 - p) (count n (λ j. not (eqb j k) && leb (suc p) (s j))) (omega (arith, parts p l))

  enough_no : (p : ℕ) → k < n → p < fewer (p + 1) → enough p ≡ false
  enough_no p l h = lt-leb (n - 1 - p) (count n (λ j. not (eqb j k) && leb (suc p) (s j))) (omega (arith, parts p l))

  -- the same from the list of those that share exactly q digits, for each q
  module _ (w : ℕ) (r : List ℕ) (e : (q : ℕ) → q < w → get_or r q 0 ≡ count n (λ j. not (eqb j k) && eqb (s j) q)) (l : k < n) where
    upto_fewer : (p : ℕ) → p ≤ w → upto r p ≡ fewer p
    unfolding upto
    upto_fewer zero h = fewer_none
    upto_fewer (suc p) h = ap₂ (λ (a b : ℕ). a + b) (upto_fewer p (omega arith)) (e p (omega arith)) ∙ fewer_more p ∙ ap fewer (add-one p)

    pub upto_small : (p : ℕ) → p ≤ w → upto r p ≤ n
    unfolding fewer
    upto_small p h = rw (upto_fewer p h) (count_bound n _)

    -- the level: the first position that is not below the number of those that share at most as many digits
    pub level_is : (p : ℕ) → p ≤ n - 1 → n ≤ w → ((q : ℕ) → q < p → q < upto r (q + 1)) → (p < n - 1 → upto r (p + 1) ≤ p) → p ≡ first_from (n - 1) 0 enough
    level_is p h f early found = first_is (n - 1) enough p h
        (λ q b. enough_no q l (rw (upto_fewer (q + 1) (omega arith)) at (early q b)))
        (λ b. enough_yes p l (rw (upto_fewer (p + 1) (omega arith)) at (found b)))

-- THE LABELS

-- the level, by how many digits each of the n stations shares with the label `top`
pub level_shared : (n : ℕ) (t : ℕ → Label) (top : Label) (s : ℕ → ℕ) (k : ℕ) → 1 ≤ n → ((j : ℕ) → j < n → s j ≡ first_difference (n - 1) (t j) top)
    → first_from (n - 1) 0 (enough n k s) ≡ level (n - 1) t top k
unfolding level others
level_shared n t top s k h e = first_from_same (n - 1) 0 _ _ (λ p l. ap (leb (n - 1 - p))
    (count_same n _ _ (λ j i. ap (λ (b : Bool). not (eqb j k) && b) (ap (leb (suc p)) (e j i) ∙ sym (agrees_upto (n - 1) (t j) top (suc p) (omega arith))))
    ∙ ap (λ (x : ℕ). count x (λ j. not (eqb j k) && agrees (suc p) (t j) top)) (omega arith)))

-- the same with the label of station z, the shared digits kept in a list of w numbers
module _ (w n : ℕ) (t : ℕ → Label) (z k : ℕ) (xs : List ℕ) (e : xs ≡ filled w n (λ j. first_difference (n - 1) (t j) (t z)) 0) (h : n ≤ w) where
  long : length (take n xs) ≡ n
  long = length-take-le n xs (rw (e, length_tabulate w 0 (λ j. cond (ltb j n) (first_difference (n - 1) (t j) (t z)) 0)) h)

  shared_at : (j : ℕ) → j < n → get_or (take n xs) j 0 ≡ first_difference (n - 1) (t j) (t z)
  shared_at j l = get_or-take n xs j 0 l ∙ ap (λ (r : List ℕ). get_or r j 0) e ∙ filled_in w _ 0 0 n j l h

  pub shared_small : (j : ℕ) → j < length (take n xs) → get_or (take n xs) j 0 < w
  shared_small j l = let i : j < n = omega (arith, long) in omega (arith, shared_at j i, (difference_first (n - 1) (t j) (t z)).upto)

  module _ (p : ℕ) (q : p ≡ first_from (length (take n xs) - 1) 0 (enough (length (take n xs)) k (λ j. get_or (take n xs) j 0))) (l : k < n) where
    pub level_found : p ≡ level (n - 1) t (t z) k
    level_found = (rw long at q) ∙ level_shared n t (t z) (λ j. get_or (take n xs) j 0) k (omega arith) shared_at

    pub level_inside : z < n → z ≢ k → p < n - 1
    level_inside lz d = rw level_found (level_spec (n - 1) t (t z) k z (omega arith) (omega arith) d refl).inside

-- the pending label, by whether station k is the newest, z
module _ (n : ℕ) (rows : List (List ℕ)) (k : ℕ) (own : List ℕ) (z : ℕ) (e : z ≡ newest n (stands_in n rows)) where
  pub pending_kept : k ≡ z → own ≡ pending_in n rows k own
  unfolding pending_in
  pending_kept d = rw (eq-eqb k (newest n (stands_in n rows)) (d ∙ e)) refl

  pub pending_new : k ≢ z → row 31 (new_label (n - 1) 1 (held rows) z k) ≡ pending_in n rows k own
  unfolding pending_in
  pending_new d = rw (← e, ne_eqb k z d) refl
