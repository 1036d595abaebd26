-- The numbers for a schedule file, on tables of every lawful form (02, Card 6).
use Prim.Native.Nat.{ℕ, ◌+◌}
use mathlib.Core.Path.{◌≡◌, refl, sym, ap, ◌∙◌}
use mathlib.Core.List as Lists
use mathlib.Core.List.{[], ◌∷◌, ◌++◌, map, append-nil}
use lib.ListN.{take}
use borrow.Author.Tests.{eq-eqb}
use Rattle.std.specs.Prelude.{Some, None, Result, Ok, Err}
use Rattle.simulation.specs.Machine as Machine
use Rattle.simulation.specs.Calls.{original, Call}
use Rattle.simulation.proofs.Simulation.{proper_some}
use Rattle.simulation.specs.Numbering.{numbers_of}
use Rattle.transition.specs.Forms.{Form, fresh_table}
use Rattle.transition.specs.Numbers.{with_numbers, Numbers}
use Rattle.transition.proofs.Theorem.{Lawful}
use Rattle.transition.proofs.Numbers.{numbers}
use Rattle.moves.specs.Moves.{final_number}
use Rattle.moves.proofs.MoveLaws.{positive}
use Rattle.moves.specs.declared.Refusal.{Refusal}
use Rattle.schedule.specs.Tables.{Tables, tables}
use Rattle.schedule.specs.Lines.{next_line, header_read, line_call}
use Rattle.schedule.specs.Sessions.{Session, session, Served, ended, step_line}
use Rattle.schedule.specs.Files.{step_lines, run_lines, file_refusal}
use Rattle.schedule.specs.Demand.{ending, end_then, file_calls, printed_calls, end_printed, FileDemand}
use Rattle.schedule.specs.Numbers.{final_after, final_of, FileNumbers}
use Rattle.schedule.proofs.SessionLaws.{header_stations, Lead, lead, Live, fresh_live, live_final, live_serve, next_live}
use Rattle.schedule.proofs.Runs.{final_run, file_refused, file_served}
use Rattle.schedule.proofs.FileTheorem.{file_demand}
use Rattle.schedule.specs.declared.Line.{Line}

module _ {T : Tables} {n : ℕ} (K : Lead T n) where
  -- the run of the lines ends with the refusal that reading them tells
  run_ending : (ls : Lists.List (Lists.List ℕ)) (s : Session T.Table) → Live K s
      → (run_lines T s ls).refusal ≡ final_number (ending s.lines ls)
  unfolding run_lines ending
  run_ending [] s v = ap final_number v.going
  run_ending (l ∷ ls) s v =
      rw (live_final K s v, live_serve K s v l) (go (next_line s.lines l) (run_ending ls))
    where
      go : (w : Result Line Refusal) → ((s' : Session T.Table) → Live K s' → (run_lines T s' ls).refusal ≡ final_number (ending s'.lines ls))
          → (run_lines T (step_line T s w).session ls).refusal ≡ final_number (end_then w (ending (s.lines + 1) ls))
      go (Err r) ih = ap (λ (o : Served T.Table). o.refusal) (final_run T (ended s (Some r)) ls (positive r))
      go (Ok q) ih =
          ih _ (next_live K s v (line_call T.board s.lines q) (s.lines + 1))

-- THE FINAL REFUSAL that reading tells is the one that the run of the file meets, on the original board
pub final_met : (F : Form) → Lawful F → F.board ≡ original → (bs : Lists.List ℕ) → final_number (final_of bs) ≡ file_refusal (tables F) bs
final_met F L same bs = ap (λ B. final_number (final_after (header_read B (take 18 bs)) (step_lines bs))) (sym same) ∙ go (header_read F.board (take 18 bs)) refl
  where
    go : (h : Result ℕ Refusal) → header_read F.board (take 18 bs) ≡ h → final_number (final_after h (step_lines bs)) ≡ file_refusal (tables F) bs
    go (Err r) e = sym (ap (λ (o : Served F.Table). o.refusal) (file_refused (tables F) bs r e))
    go (Ok n) e =
        let K = lead F L n (header_stations F.board (take 18 bs) (proper_some L.proper) n e) in
        sym (ap (λ (o : Served F.Table). o.refusal) (file_served (tables F) bs n e)
        ∙ run_ending K (step_lines bs) (session 1 None (fresh_table F n)) (fresh_live K 1))

-- THE NUMBERS OF A FILE, for every list of bytes whose header is accepted and all of whose lines are steps
pub file_numbers_lem : (F : Form) → Lawful F → (bs : Lists.List ℕ) (n : ℕ) → header_read F.board (take 18 bs) ≡ Ok n
    → final_number (ending 1 (step_lines bs)) ≡ 0 → FileNumbers F bs n (numbers_of F.board n (file_calls F.board bs))
file_numbers_lem F L bs n e z = record {
  numbers = N;
  report = D.report ∙ ap (λ x. printed_calls cs x ++ end_printed F.board 1 (step_lines bs)) (sym D.demand.same ∙ N.same)
      ∙ ap (λ x. shown ++ x) none ∙ append-nil shown;
}
  where
    cs : Lists.List Call
    cs = file_calls F.board bs

    ns : Lists.List ℕ
    ns = numbers_of F.board n cs

    shown : Lists.List ℕ
    shown = printed_calls cs (map (Machine.seen F.board n) (with_numbers F.board n ns cs))

    D : FileDemand F bs n
    D = file_demand F L bs n e

    N : Numbers F n cs ns
    N = numbers F L n (header_stations F.board (take 18 bs) (proper_some L.proper) n e) cs

    none : end_printed F.board 1 (step_lines bs) ≡ []
    none = rw (eq-eqb _ 0 z) refl
