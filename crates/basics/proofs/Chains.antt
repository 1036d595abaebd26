-- What chains of iterators answer, and arrays that are made: `all` over a slice and over a range, and `from_fn`.
use Rattle.std.proofs.Common.{◌≡◌, ℕ, zero, suc, ◌+◌, ◌<◌, Bool, true, false, ◌&&◌, List, [], ◌∷◌, ◌≤◌, length, get_or, take, drop, length-drop, refl, sym, ap, ap₂, ◌∙◌, arith}
use Rattle.std.proofs.lemmas.List.{get_or-take, get_or-drop, length-take-le}
use Rattle.std.specs.List.{list_all, range_with_len}
use Rattle.std.specs.Array.{IsFromFnResult, IsFromFnResultFrom}
use denote.Param.Members.{Mut, Called}
use native.Mathlib.Decide.{dec_lt}
use mathlib.Core.Logic.{by_cases}
use Rattle.basics.specs.Tests.{every, tabulate}
use Rattle.basics.proofs.Facts.{every_same, tabulate_is}

every_front : (n : ℕ) (f : ℕ → Bool) → every (suc n) f ≡ (f 0 && every n (λ i. f (suc i)))
unfolding every
every_front zero f = alone (f 0)
  where
    alone : (b : Bool) → (true && b) ≡ (b && true)
    alone true = refl
    alone false = refl
every_front (suc n) f = ap (λ b. b && f (suc n)) (every_front n f) ∙ grouped (f 0) _ (f (suc n))
  where
    grouped : (a b c : Bool) → (a && b && c) ≡ (a && (b && c))
    grouped true b c = refl
    grouped false b c = refl

pub all_slice : {A : Type 0} (test : A → Bool) (xs : List A) (d : A) → list_all test xs ≡ every (length xs) (λ i. test (get_or xs i d))
unfolding every
all_slice test [] d = refl
all_slice test (x ∷ xs) d = ap (λ b. test x && b) (all_slice test xs d) ∙ rw (every_front (length xs) (λ i. test (get_or (x ∷ xs) i d))) refl

pub all_range : (test : ℕ → Bool) (a n : ℕ) → list_all test (range_with_len a n) ≡ every n (λ i. test (a + i))
unfolding every
all_range test a zero = refl
all_range test a (suc n) =
    let first : a ≡ a + 0 = omega arith in
    let next : (i : ℕ) → a + 1 + i ≡ a + suc i = λ i. omega arith in
    ap₂ ◌&&◌ (ap test first) (all_range test (a + 1) n ∙ every_same n _ _ (λ i _. ap test (next i))) ∙ sym (every_front n (λ i. test (a + i)))

-- over the first n elements, and over k of them from place n on
pub all_front : {A : Type 0} (test : A → Bool) (n : ℕ) (xs : List A) (d : A) → n ≤ length xs → list_all test (take n xs) ≡ every n (λ i. test (get_or xs i d))
all_front test n xs d h = all_slice test (take n xs) d ∙ rw (length-take-le n xs h) (every_same n _ _ (λ i l. ap test (get_or-take n xs i d l)))

pub all_part : {A : Type 0} (test : A → Bool) (n k : ℕ) (xs : List A) (d : A) → n + k ≤ length xs
    → list_all test (take k (drop n xs)) ≡ every k (λ i. test (get_or xs (n + i) d))
all_part test n k xs d h =
    all_front test k (drop n xs) d (omega (arith, length-drop n xs)) ∙ every_same k _ _ (λ i l. ap test (get_or-drop n xs i d))

-- an array that `from_fn` makes, of a closure that it leaves as it was
module _ {F B : Type 0} (g : Mut F (ℕ × Unit {0}) B) (f : F) (h : ℕ → B)
    (calls : (j : ℕ) (y : B) (q : F) → Called g f (j, tt) y q → (q ≡ f) × (y ≡ h j)) (ys : List B) where
  each_made : (p : F) (i k : ℕ) → p ≡ f → IsFromFnResultFrom g p ys i k → (j : ℕ) → i ≤ j → j < i + k → (d : B) → get_or ys j d ≡ h j
  each_made p i zero e r j u l d = absurd (omega arith)
  each_made p i (suc k) e r j u l d =
      let c = calls i r.1 r.0 (rw e at r.3) in
      by_cases (dec_lt i j)
      (λ m. each_made r.0 (i + 1) k c.0 r.4 j (omega arith) (omega arith) d)
      (λ m. let q : j ≡ i = omega arith in rw q (r.2.1 d ∙ c.1))

pub made_each : {F B : Type 0} {g : Mut F (ℕ × Unit {0}) B} {f : F} {n : ℕ} {ys : List B} (h : ℕ → B) → IsFromFnResult g f ys n
    → ((j : ℕ) (y : B) (q : F) → Called g f (j, tt) y q → (q ≡ f) × (y ≡ h j)) → ys ≡ tabulate n 0 h
made_each {g = g} {f = f} {n = n} {ys = ys} h r calls =
    sym (tabulate_is n ys (h 0) h r.long (λ i l. sym (each_made g f h calls ys f 0 n refl r.each i (omega arith) (omega arith) (h 0))))
