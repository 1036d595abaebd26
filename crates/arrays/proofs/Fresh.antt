-- The fresh table in arrays: what the code writes is the fresh state, written down.
use Prim.Native.Nat.{ℕ}
use mathlib.Core.Path.{◌≡◌, refl, sym, ap, ◌∙◌}
use mathlib.Core.List as Lists
use mathlib.Core.List.{[], ◌∷◌}
use lib.ListN.{replicate, length-replicate}
use Rattle.basics.specs.Tests.{tabulate}
use Rattle.basics.proofs.Facts.{replicate_tabulate}
use Rattle.label.specs.Rows.{row}
use Rattle.label.proofs.RowLaws.{row_digit, fresh_row}
use Rattle.simulation.specs.Machine.{fresh_rest}
use Rattle.transition.specs.Forms.{fresh_table}
use Rattle.arrays.specs.Arrays.{Rows, Planes, arrays, result_rows, arrays_of, Holds}
use Rattle.arrays.specs.Form.{lent}

ones : row 31 (λ p. 1) ≡ replicate 31 1
ones = ap (row 31) (sym (fresh_row 31)) ∙ row_digit 31 (replicate 31 1) (length-replicate {A = ℕ} 31 1)

-- equal elements, one for each place
same : {A : Type 0} (x : A) → replicate 32 x ≡ tabulate 32 0 (λ i. x)
same x = replicate_tabulate 32 0 x _ (λ p _. refl)

none : replicate {A = ℕ} 32 0 ≡ tabulate 32 0 (λ i. 0)
none = same {A = ℕ} 0

pub fresh_holds : Holds fresh_rest (replicate 2 (replicate 32 0)) (replicate 2 (replicate 32 0)) (replicate 32 (replicate 2 (replicate 32 0)))
fresh_holds =
    let two = ap (λ (x : Lists.List ℕ). x ∷ x ∷ []) none in
    record { jobs = two; control = two; results = ap (replicate 32) two ∙ same (result_rows []) }

pub fresh_arrays : (n : ℕ) {j c : Rows} {r : Planes} → Holds fresh_rest j c r → arrays n (replicate 2 (replicate 32 (replicate 31 1))) j c r ≡ fresh_table lent n
unfolding arrays_of
fresh_arrays n h = let l = ap (replicate 32) (sym ones) ∙ same (row 31 (λ p. 1)) in λ x. arrays n (l x ∷ l x ∷ []) (h.jobs x) (h.control x) (h.results x)
