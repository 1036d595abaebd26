-- The search for rings, position by position: a 3 closes one if labels that agree with it so far have a 4 and a 5 there.
use Prim.Native.Nat.{ℕ, zero, suc, ◌+◌, ◌-◌, ◌≤◌, ◌<◌}
use native.Mathlib.Nat.{zero-add}
use native.Mathlib.Numerals.{add-one}
use native.Mathlib.Omega.{arith}
use mathlib.Core.Path.{◌≡◌, refl, sym, ap, ◌∙◌}
use mathlib.Core.Bool.{Bool, true, false, not, ◌&&◌, ◌||◌}
use mathlib.Core.List.{List, [], ◌∷◌}
use lib.ListN.{length, get_or, take}
use lib.Seq.{take_all, length-take-le, get_or-take}
use Rattle.std.specs.List.{list_any, list_all, range_with_len}
use Rattle.std.proofs.lemmas.List.Folds.{list_any_more}
use lib.Dec.{eqb}
use borrow.Author.Tests.{eqb-true, eq-eqb, ne_eqb, not-true, not-false}
use Rattle.basics.specs.Tests.{every}
use Rattle.label.specs.Labels.{Label, agrees}
use Rattle.label.specs.Rows.{digit, no_ring}
use Rattle.rows.specs.Held.{held, some, has_digit, has_all, parts_with, closes_ring, no_ring_at}
use Rattle.basics.proofs.Facts.{tf, is_false, is_true, same_test, and_both, both, every_all, every_at, every_no, every_same}
use Rattle.basics.proofs.Chains.{all_range}
use Rattle.label.proofs.Order.{Agree, agrees_true, agree_agrees}
use Rattle.label.proofs.RowLaws.{ring, ring_true, ring_of}

some_here : (n : ℕ) (f : ℕ → Bool) (j : ℕ) → j < n → f j ≡ true → some n f ≡ true
some_here n f j l e = ap not (every_no n _ j l (ap not e))

some_none : (n : ℕ) (f : ℕ → Bool) → ((j : ℕ) → j < n → f j ≡ false) → some n f ≡ false
some_none n f h = ap not (every_all n _ (λ j l. ap not (h j l)))

some_next : (k : ℕ) (f : ℕ → Bool) → f k ≡ false → some (k + 1) f ≡ some k f
unfolding every
some_next k f e = rw (add-one k, e) (ap not (right_true (every k (λ j. not (f j)))))
  where
    right_true : (b : Bool) → (b && true) ≡ b
    right_true true = refl
    right_true false = refl

some_has : (n : ℕ) (f : ℕ → Bool) → some n f ≡ true → (j : ℕ) × (j < n) × (f j ≡ true)
some_has zero f e = absurd (tf e (some_none 0 f (λ j l. absurd (omega arith))))
some_has (suc n) f e = go (f n) refl (some_has n f)
  where
    go : (x : Bool) → f n ≡ x → (some n f ≡ true → (j : ℕ) × (j < n) × (f j ≡ true)) → (j : ℕ) × (j < suc n) × (f j ≡ true)
    go true q ih = (n, omega arith, q)
    go false q ih = let r = ih (sym (some_next n f q) ∙ ap (λ k. some k f) (add-one n) ∙ e) in (r.0, omega arith, r.2)

-- a chain over a list asks what a test of the places does
module _ {A : Type 0} (f : A → Bool) (l : List A) (d : A) where
  any_upto : (k : ℕ) → k ≤ length l → list_any f (take k l) ≡ some k (λ j. f (get_or l j d))
  unfolding every
  any_upto zero h = refl
  any_upto (suc k) h =
      rw (← add-one k) (list_any_more f l k d (omega arith)) ∙ ap (λ b. b || f (get_or l k d)) (any_upto k (omega arith)) ∙ turned (every k (λ j. not (f (get_or l j d)))) (f (get_or l k d))
    where
      turned : (a b : Bool) → (not a || b) ≡ not (a && not b)
      turned true true = refl
      turned true false = refl
      turned false b = refl

  any_places : list_any f l ≡ some (length l) (λ j. f (get_or l j d))
  any_places = ap (list_any f) (sym (take_all (length l) l (omega arith))) ∙ any_upto (length l) (omega arith)

some_same : (n : ℕ) (f g : ℕ → Bool) → ((j : ℕ) → j < n → f j ≡ g j) → some n f ≡ some n g
some_same n f g h = ap not (every_same n _ _ (λ j l. ap not (h j l)))

-- an element that is above both x and y is read as itself, whether x or y stands for what is past the list's end
read_else : (l : List ℕ) (p x y d : ℕ) → x < d → y < d → eqb (get_or l p x) d ≡ eqb (get_or l p y) d
read_else [] p x y d h k = ne_eqb x d (λ e. omega arith) ∙ sym (ne_eqb y d (λ e. omega arith))
read_else (a ∷ l) zero x y d h k = refl
read_else (a ∷ l) (suc p) x y d h k = read_else l p x y d h k

-- so it is with a digit above 1
module _ (rows : List (List ℕ)) (p d : ℕ) (h : 1 < d) where
  pub has_any : list_any (λ row. eqb (get_or row p 0) d) rows ≡ has_digit (length rows) (held rows) p d
  has_any = any_places _ rows [] ∙ some_same (length rows) _ _ (λ j l. read_else (get_or rows j []) p 0 1 d (omega arith) h)

  pub parts_any : (a : Label) → list_any (λ row. eqb (get_or row p 0) d && agrees p a (digit row)) rows ≡ parts_with (length rows) (held rows) a p d
  parts_any a = any_places _ rows [] ∙ some_same (length rows) _ _ (λ j l. ap (λ b. b && agrees p a (held rows j)) (read_else (get_or rows j []) p 0 1 d (omega arith) h))

module _ (n : ℕ) (t : ℕ → Label) (p i : ℕ) where
  abbrev parting : ℕ → ℕ → Bool
  parting d j = eqb (t j p) d && agrees p (t i) (t j)

  parts_has : (d : ℕ) → parts_with n t (t i) p d ≡ true → (j : ℕ) × (j < n) × Agree p (t i) (t j) × (t j p ≡ d)
  parts_has d e =
      let r = some_has n (parting d) e in
      let b = and_both (eqb (t r.0 p) d) (agrees p (t i) (t r.0)) r.2 in
      (r.0, r.1, agrees_true p (t i) (t r.0) b.1, eqb-true (t r.0 p) d b.0)

  parts_of : (d j : ℕ) → j < n → Agree p (t i) (t j) → t j p ≡ d → parts_with n t (t i) p d ≡ true
  parts_of d j l s e = some_here n (parting d) j l (both (eq-eqb (t j p) d e) (agree_agrees p (t i) (t j) s))

  ring_parts : (j k : ℕ) → j < n → k < n → ring t i p j k ≡ true → no_ring_at n t p i ≡ false
  ring_parts j k lj lk e =
      let r = ring_true t i p j k e in
      ap not (both (both (eq-eqb _ 3 r.2) (parts_of 4 j lj r.0 r.3)) (parts_of 5 k lk (λ x l. r.0 x l ∙ r.1 x l) r.4))

  parts_ring : no_ring_at n t p i ≡ false → (j : ℕ) × (k : ℕ) × (j < n) × (k < n) × (ring t i p j k ≡ true)
  parts_ring e =
      let e₁ = and_both _ (parts_with n t (t i) p 5) (not-false _ e) in
      let e₂ = and_both (eqb (t i p) 3) (parts_with n t (t i) p 4) e₁.0 in
      let u = parts_has 4 e₂.1 in
      let v = parts_has 5 e₁.1 in
      (u.0, v.0, u.1, v.1, ring_of t i p u.0 v.0 u.2 (λ x l. sym (u.2 x l) ∙ v.2 x l) (eqb-true (t i p) 3 e₂.0) u.3 v.3)

  -- whether some ring has its 3 there
  ring_there : no_ring_at n t p i ≡ every n (λ j. every n (λ k. not (ring t i p j k)))
  ring_there = same_test _ _
      (λ e. every_all n _ (λ j lj. every_all n _ (λ k lk. ap not (is_false (λ h. tf e (ring_parts j k lj lk h))))))
      (λ e. is_true (λ h. let r = parts_ring h in tf r.4 (not-true _ (every_at n _ (every_at n _ e r.0 r.2) r.1 r.3))))

  -- a ring has all its digits
  pub digits_there : i < n → has_all n t p ≡ false → no_ring_at n t p i ≡ true
  digits_there l e = is_true (λ h.
      let r = parts_ring h in
      let q = ring_true t i p r.0 r.1 r.4 in
      tf (both (both (stands i 3 l q.2) (stands r.0 4 r.2 q.3)) (stands r.1 5 r.3 q.4)) e)
    where
      stands : (j d : ℕ) → j < n → t j p ≡ d → has_digit n t p d ≡ true
      stands j d k s = some_here n (λ j. eqb (t j p) d) j k (eq-eqb (t j p) d s)

-- no ring: none at any position
no_ring_each : (n : ℕ) (t : ℕ → Label) → 1 ≤ n → no_ring (n - 1) t ≡ every (n - 1) (λ p. every n (no_ring_at n t p))
unfolding no_ring
no_ring_each n t h =
    ap (λ (w : ℕ). every (n - 1) (λ p. every w (λ i. every w (λ j. every w (λ k. not (ring t i p j k)))))) {x = suc (n - 1)} {y = n} (omega arith)
    ∙ every_same (n - 1) _ _ (λ p _. every_same n _ _ (λ i _. sym (ring_there n t p i)))

pub none_closes : (rows : List (List ℕ)) (p : ℕ) → not (list_any (λ row. closes_ring (length rows) (held rows) p (digit row)) rows)
    ≡ every (length rows) (no_ring_at (length rows) (held rows) p)
none_closes rows p = ap not (any_places _ rows []) ∙ twice _
  where
    twice : (b : Bool) → not (not b) ≡ b
    twice true = refl
    twice false = refl

-- only the labels of the n stations are asked
no_ring_same : (m : ℕ) (t u : ℕ → Label) → ((i : ℕ) → i ≤ m → t i ≡ u i) → no_ring m t ≡ no_ring m u
unfolding no_ring
no_ring_same m t u h = every_same m _ _ (λ p _. every_same (suc m) _ _ (λ i li. every_same (suc m) _ _ (λ j lj. every_same (suc m) _ _ (λ k lk.
    rw (h i (omega arith), h j (omega arith), h k (omega arith)) refl))))

pub all_positions : (rows : List (List ℕ)) (n : ℕ) → 1 ≤ n → n ≤ length rows
    → list_all (λ p. every (length (take n rows)) (no_ring_at (length (take n rows)) (held (take n rows)) p)) (range_with_len 0 (n - 1)) ≡ no_ring (n - 1) (held rows)
all_positions rows n h k =
    let long : length (take n rows) ≡ n = length-take-le n rows k in
    rw long (all_range _ 0 (n - 1) ∙ every_same (n - 1) _ _ (λ p l. ap (λ q. every n (no_ring_at n (held (take n rows)) q)) (zero-add p))
    ∙ sym (no_ring_each n (held (take n rows)) h))
    ∙ no_ring_same (n - 1) _ _ (λ i l. ap digit (get_or-take n rows i [] (omega arith)))
