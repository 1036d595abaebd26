-- Two planes of numbers as a labelling: a number put at a place, and one copied from plane to plane.
use Prim.Native.Nat.{ℕ, zero, suc, ◌<◌}
use native.Mathlib.Omega.{arith}
use mathlib.Core.Path.{◌≡◌, refl, sym, ap, subst, ◌∙◌, fun_ext}
use mathlib.Core.Bool.{Bool, true, false, cond}
use mathlib.Core.List.{List, [], ◌∷◌}
use lib.ListN.{length, get_or, set, replicate}
use lib.Seq.{get_or-set_same, get_or-set_other}
use lib.Dec.{eqb}
use Rattle.basics.proofs.Facts.{by_here, two_lists}
use Rattle.simulation.specs.Machine.{Labelling, put, copy}
use Rattle.arrays.specs.Arrays.{Rows}
use Rattle.arrays.specs.Sizes.{Sized}
use Rattle.arrays.specs.Planes.{beside}

pub alike : {N M : Labelling ℕ} → ((i : ℕ) → N false i ≡ M false i) → ((i : ℕ) → N true i ≡ M true i) → N ≡ M
alike {N} {M} p q = fun_ext (λ x. fun_ext (λ i. go x i))
  where
    go : (x : Bool) (i : ℕ) → N x i ≡ M x i
    go false i = p i
    go true i = q i

-- there are two of them
pub by_planes : (P : Rows → Type 0) → ((a b : List ℕ) → length a ≡ 32 → length b ≡ 32 → P (a ∷ b ∷ []))
    → (numbers : Rows) → Sized 2 32 numbers → P numbers
by_planes P f numbers g = subst P (two_lists numbers [] g.long) (f _ _ (g.each 0 (omega arith)) (g.each 1 (omega arith)))

get_d_set : (l : List ℕ) (k i v : ℕ) → k < length l → get_or (set l k v) i 0 ≡ cond (eqb i k) v (get_or l i 0)
get_d_set l k i v h = by_here (λ b. get_or (set l k v) i 0 ≡ cond b v (get_or l i 0)) k i
    (λ e. rw e (get_or-set_same l k v 0 h))
    (λ d. get_or-set_other l k i v 0 d)

module _ (numbers : Rows) (g : Sized 2 32 numbers) (k : ℕ) (h : k < 32) where
  pub planes_put : (v : ℕ) → beside (set numbers 1 (set (get_or numbers 1 []) k v)) ≡ put (beside numbers) k v
  planes_put v = by_planes (λ xs. beside (set xs 1 (set (get_or xs 1 []) k v)) ≡ put (beside xs) k v)
      (λ a b u w. alike (λ i. refl) (λ i. get_d_set b k i v (omega arith))) numbers g

  pub planes_copied : beside (set numbers 0 (set (get_or numbers 0 []) k (get_or (get_or numbers 1 []) k 0))) ≡ copy (beside numbers) k
  planes_copied = by_planes (λ xs. beside (set xs 0 (set (get_or xs 0 []) k (get_or (get_or xs 1 []) k 0))) ≡ copy (beside xs) k)
      (λ a b u w. alike
      (λ i. get_d_set a k i (get_or b k 0) (omega arith) ∙ by_here (λ x. cond x (get_or b k 0) (get_or a i 0) ≡ beside (a ∷ b ∷ []) x i) k i
      (λ e. ap (λ j. get_or b j 0) (sym e)) (λ _. refl))
      (λ i. refl)) numbers g

-- planes of 0s
pub get_d_none : (k i : ℕ) → get_or {A = ℕ} (replicate k 0) i 0 ≡ 0
get_d_none zero i = refl
get_d_none (suc k) zero = refl
get_d_none (suc k) (suc i) = get_d_none k i

pub none_beside : beside (replicate 2 (replicate 32 0)) ≡ (λ x i. 0)
none_beside = fun_ext (λ x. fun_ext (λ i. go x i))
  where
    go : (x : Bool) (i : ℕ) → beside (replicate 2 (replicate 32 0)) x i ≡ 0
    go false i = get_d_none 32 i
    go true i = get_d_none 32 i
