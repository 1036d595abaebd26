use mathlib.Core.Path.{◌≡◌}
use lib.ListN.{replicate}
use Rattle.basics.proofs.Filled.{filled}
use Rattle.moves.specs.Moves.{phase_of}
use Rattle.arrays.specs.Arrays.{phase_number, out_number}
use Rattle.table.specs.Tables.{rows_of, at}
use Rattle.table.proofs.take_apart.Given as goal

abbrev pub invariant-loop-i : goal.invariant-loop-i
invariant-loop-i l =
    (l.current ≡ filled 32 l.i (λ k. (at l.t k).label) (replicate 31 0)) × (l.pending ≡ filled 32 l.i (λ k. (at l.t k).pending_label) (replicate 31 0))
    × (l.current_jobs ≡ filled 32 l.i (λ k. (at l.t k).job) 0) × (l.pending_jobs ≡ filled 32 l.i (λ k. (at l.t k).pending_job) 0)
    × (l.phases ≡ filled 32 l.i (λ k. phase_number (phase_of (at l.t k).phase)) 0)
    × (l.services ≡ filled 32 l.i (λ k. out_number (at l.t k).out_of_service) 0)
    × (l.rows ≡ filled 32 l.i (λ k. rows_of (at l.t k).scan_result) (replicate 2 (replicate 32 0)))
