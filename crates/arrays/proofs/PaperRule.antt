-- Where the paper's rule for a new label and 01's part: on a table that no calls reach (01, "The new label").
use Prim.Native.Nat.{ℕ}
use mathlib.Core.Path.{◌≡◌, refl}
use mathlib.Core.Bool.{true}
use mathlib.Core.List as Lists
use mathlib.Core.List.{[], ◌∷◌}
use lib.ListN.{replicate}
use Rattle.basics.specs.Tests.{every, count, first_from, last_of, newest, tabulate}
use Rattle.label.specs.Labels.{below, next, agrees, first_difference, label_below, label_before, next_label, others, level, new_label}
use Rattle.label.specs.Rows.{row, row_fits, no_ring}
use Rattle.simulation.specs.Calls.{original}
use Rattle.simulation.specs.Machine.{digits, pending_after}
use Rattle.simulation.specs.PaperRule.{every_choice, totally_ordered, tot, paper_pending}
use Rattle.arrays.specs.Arrays.{Arrays, arrays, result_rows, state_of}
use Rattle.arrays.specs.WellFormed.{result_fits, result_fresh, station_fits, place_fresh, well_formed}

-- labels of three stations with these first digits, and 1s past them
plane : ℕ → ℕ → ℕ → Lists.List (Lists.List ℕ)
plane a b c = (a ∷ replicate 30 1) ∷ (b ∷ replicate 30 1) ∷ (c ∷ replicate 30 1) ∷ replicate 29 (replicate 31 1)

-- the labels 3.1 and 4.1 close a ring with the pending label 5.1 of the third station
pub unreached : Arrays
unreached = arrays 3 (plane 3 4 1 ∷ plane 3 4 5 ∷ []) (replicate 2 (replicate 32 0)) (replicate 2 (replicate 32 0))
    (replicate 32 (result_rows []))

-- by the paper's rule the first station's snap makes no new label, and 3.1 stays pending; by 01's it makes 4.2
pub rules_part : (well_formed unreached ≡ true)
    × (row 2 (paper_pending 3 (digits original 3) (state_of unreached).labels 0) ≡ 3 ∷ 1 ∷ [])
    × (row 2 (pending_after 3 (digits original 3) (state_of unreached).labels 0) ≡ 4 ∷ 2 ∷ [])
unfolding unreached plane well_formed station_fits place_fresh result_fits result_fresh paper_pending tot every_choice totally_ordered pending_after row
    row_fits no_ring below next agrees first_difference label_below label_before next_label others level new_label every count first_from last_of newest tabulate
rules_part = (refl, refl, refl)
