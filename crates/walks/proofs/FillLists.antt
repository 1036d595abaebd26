-- A list whose front a loop has filled, f i at each place i < n; and the first elements of a list, which others replace.
use Prim.Native.Nat.{ℕ, zero, suc, ◌≤◌, ◌<◌, min}
use native.Mathlib.Nat.{zero-add, not-suc-le-zero, le_of_suc-le-suc, zero-min, min-zero, suc-min-suc}
use native.Mathlib.Omega.{arith}
use mathlib.Core.Path.{◌≡◌, refl, sym, ap, subst, ◌∙◌}
use mathlib.Core.List.{List, [], ◌∷◌, ◌++◌}
use lib.ListN.{length, set, take, drop}
use borrow.Table.Elements.{same_len}
use Rattle.basics.specs.Tests.{tabulate}
use Rattle.basics.proofs.Filled.{front_more}

module _ {A : Type 0} where
  abbrev pub filled : (ℕ → A) → ℕ → List A → List A
  filled f n ys = tabulate n 0 f ++ drop n ys

  length_front : (f : ℕ → A) (n h : ℕ) (ys : List A) → n ≤ length ys → length (tabulate n h f ++ drop n ys) ≡ length ys
  unfolding tabulate
  length_front f zero h ys l = refl
  length_front f (suc n) h [] l = absurd (not-suc-le-zero l)
  length_front f (suc n) h (y ∷ ys) l = ap suc (length_front f n (suc h) ys (le_of_suc-le-suc l))

  pub length_filled : (f : ℕ → A) (n : ℕ) (ys : List A) → n ≤ length ys → length (filled f n ys) ≡ length ys
  length_filled f n ys l = length_front f n 0 ys l

  pub filled_more : (f : ℕ → A) (n : ℕ) (ys : List A) → n < length ys → set (filled f n ys) n (f n) ≡ filled f (suc n) ys
  filled_more f n ys l = front_more n 0 f ys (f n) l (ap f (sym (zero-add n)))

  pub filled_none : (f : ℕ → A) (ys : List A) → ys ≡ filled f 0 ys
  unfolding tabulate
  filled_none f ys = refl

  -- ---- the first k elements, and the others
  take_front : (k : ℕ) (ys zs : List A) → length zs ≡ length (take k ys) → take k (zs ++ drop k ys) ≡ zs
  take_front zero ys [] e = refl
  take_front zero ys (z ∷ zs) e = absurd (omega (arith, e))
  take_front (suc k) [] [] e = refl
  take_front (suc k) [] (z ∷ zs) e = absurd (omega (arith, e))
  take_front (suc k) (y ∷ ys) [] e = absurd (omega (arith, e))
  take_front (suc k) (y ∷ ys) (z ∷ zs) e = ap (λ (l : List A). z ∷ l) (take_front k ys zs (omega (arith, e)))

  drop_front : (k : ℕ) (ys zs : List A) → length zs ≡ length (take k ys) → drop k (zs ++ drop k ys) ≡ drop k ys
  drop_front zero ys [] e = refl
  drop_front zero ys (z ∷ zs) e = absurd (omega (arith, e))
  drop_front (suc k) [] [] e = refl
  drop_front (suc k) [] (z ∷ zs) e = absurd (omega (arith, e))
  drop_front (suc k) (y ∷ ys) [] e = absurd (omega (arith, e))
  drop_front (suc k) (y ∷ ys) (z ∷ zs) e = drop_front k ys zs (omega (arith, e))

  -- more than there are counts as all
  take_min : (i : ℕ) (l : List A) → take (min i (length l)) l ≡ take i l
  take_min zero l = ap (λ (k : ℕ). take k l) (zero-min (length l))
  take_min (suc i) [] = ap (λ (k : ℕ). take k []) (min-zero (suc i))
  take_min (suc i) (x ∷ l) = ap (λ (k : ℕ). take k (x ∷ l)) (suc-min-suc i (length l)) ∙ ap (λ (r : List A). x ∷ r) (take_min i l)

  drop_min : (i : ℕ) (l : List A) → drop (min i (length l)) l ≡ drop i l
  drop_min zero l = ap (λ (k : ℕ). drop k l) (zero-min (length l))
  drop_min (suc i) [] = ap (λ (k : ℕ). drop k []) (min-zero (suc i))
  drop_min (suc i) (x ∷ l) = ap (λ (k : ℕ). drop k (x ∷ l)) (suc-min-suc i (length l)) ∙ drop_min i l

  -- n are lent, which are k of w; what is said of those is said of the first n before and after, and the others stay
  module _ (n k w : ℕ) (e : k ≡ min n w) (ys zs : List A) (long : length ys ≡ w) (same : length zs ≡ length (take k ys)) where
    took : (l : List A) → length l ≡ w → take k l ≡ take n l
    took l h = ap (λ (j : ℕ). take j l) (e ∙ ap (min n) (sym h)) ∙ take_min n l

    dropped : (l : List A) → length l ≡ w → drop k l ≡ drop n l
    dropped l h = ap (λ (j : ℕ). drop j l) (e ∙ ap (min n) (sym h)) ∙ drop_min n l

    whole : length (zs ++ drop k ys) ≡ w
    whole = same_len k ys zs same ∙ long

    pub lent_said : (P : List A → List A → Type 0) → P (take k ys) zs → P (take n ys) (take n (zs ++ drop k ys))
    lent_said P p = subst (λ (l : List A). P l (take n (zs ++ drop k ys))) (took ys long)
        (subst (P (take k ys)) (sym (take_front k ys zs same) ∙ took (zs ++ drop k ys) whole) p)

    pub others_stay : drop n (zs ++ drop k ys) ≡ drop n ys
    others_stay = sym (dropped (zs ++ drop k ys) whole) ∙ drop_front k ys zs same ∙ dropped ys long
