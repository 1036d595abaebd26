-- The numbers found beside the labels do for every sequence of calls, on tables of every lawful form (02, Card 6).
use Prim.Native.Nat.{ℕ}
use mathlib.Core.Path.{◌≡◌, refl, sym, ap₂, subst, ◌∙◌}
use mathlib.Core.Bool.{Bool}
use mathlib.Core.List as Lists
use mathlib.Core.List.{[], ◌∷◌, ◌++◌}
use Rattle.label.specs.Labels as Labels
use Rattle.simulation.specs.Calls.{Call, judge}
use Rattle.simulation.specs.Machine.{digits, label_step, State, fresh, step, fresh_label}
use Rattle.simulation.specs.Numbered as Numbered
use Rattle.simulation.specs.Numbered.{Fits, newest_snap}
use Rattle.simulation.specs.Numbering.{numbers_of}
use Rattle.simulation.proofs.Advances.{run_advances}
use Rattle.simulation.proofs.Follow as Follow
use Rattle.simulation.proofs.Simulation.{numbering}
use Rattle.transition.specs.Forms.{Form}
use Rattle.transition.specs.Numbers.{table_newest_snaps, Numbers}
use Rattle.transition.proofs.Written.{Sized, sized_some}
use Rattle.transition.proofs.Reached.{Reached, reached_fresh}
use Rattle.transition.proofs.Theorem.{Lawful, reached_held, reached_passes, reached_written, reached_next, Runs, runs}

module _ (F : Form) (L : Lawful F) (n : ℕ) (z : Sized F.board n) where
  -- whether snaps are the newest's is told alike by the table of a reached state and by the machine
  newest_written : (cs : Lists.List Call) (s : State Labels.Label) → Reached F.board n s
      → table_newest_snaps F (F.written n s) cs ≡ Numbered.newest_snaps F.board n (digits F.board n) s cs
  unfolding table_newest_snaps Numbered.newest_snaps
  newest_written [] s r = refl
  newest_written (c ∷ cs) s r = rw (reached_passes F L n z r, reached_written F L n z r c)
      (ap₂ ◌++◌ here (newest_written cs (step F.board n (digits F.board n) s c).state (reached_next F L n z r c)))
    where
      asked : ℕ → State Labels.Label → Lists.List Bool
      asked k u = newest_snap k (digits F.board k) u.labels (label_step (judge F.board k u.rest c))

      here : asked (F.count (F.written n s)) (F.state (F.written n s)) ≡ asked n s
      here = ap₂ asked (L.counted n s) (reached_held F L n z r)

  -- what does for the machines does for the tables
  pub numbers_do_lem : {calls : Lists.List Call} {ns : Lists.List ℕ} → Follow.Numbers F.board n (digits F.board n) (fresh_label F.board) calls ns → Numbers F n calls ns
  numbers_do_lem {calls} {ns} N = record {
    each = N.each ∙ sym R.count;
    newest = N.newest ∙ sym (newest_written calls (fresh (fresh_label F.board)) start);
    fits = subst (λ k. Fits F.board n k (fresh 0) ns calls) (sym R.count) N.fits;
    same = R.same ∙ N.same;
    grown = sym (run_advances F.board n _ calls (fresh 0) ns N.fits.each).0;
    gapless = N.gapless;
  }
    where
      start : Reached F.board n (fresh (fresh_label F.board))
      start = reached_fresh F.board n (sized_some z) L.proper

      R : Runs F n (fresh (fresh_label F.board)) calls
      R = runs F L n z calls (fresh (fresh_label F.board)) start

  -- THE NUMBERS of a sequence of calls, for every number of processes of 2 to 32 stations
  pub numbers : (calls : Lists.List Call) → Numbers F n calls (numbers_of F.board n calls)
  numbers calls = numbers_do_lem (numbering L.proper n (sized_some z) calls).0
