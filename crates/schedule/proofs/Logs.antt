-- The numbers for a file and what its steps write are a right log; and its report without refusals is what they write (02, Card 7).
use Prim.Native.Nat.{ℕ, ◌+◌, ◌*◌, ◌≤◌, ◌<◌}
use native.Mathlib.Omega.{arith}
use mathlib.Core.Path.{◌≡◌, refl, sym, ap, ap₂, subst, ◌∙◌}
use mathlib.Core.Logic.{◌≢◌}
use mathlib.Core.Bool.{Bool, true, false, cond}
use mathlib.Core.List as Lists
use mathlib.Core.List.{[], ◌∷◌, ◌++◌, map, append-nil}
use lib.ListN.{length, take}
use lib.Dec.{eqb}
use borrow.Author.Tests.{eq-eqb, eqb-false}
use Rattle.std.proofs.lemmas.Bool.Decides.{nat_tests}
use Rattle.std.specs.Prelude.{None, Result, Ok, Err}
use Rattle.simulation.specs.Calls.{Board, original, Call, Entry, Room, Buffer, Panel, report_lines, bytes_of, written}
use Rattle.simulation.proofs.Simulation.{proper_some}
use Rattle.simulation.proofs.Judged.{direct}
use Rattle.transition.specs.Forms.{Form, TableAnswer, fresh_table, step_of}
use Rattle.transition.specs.Demand.{run_table, seen_in}
use Rattle.transition.specs.Logs.{lists, Right}
use Rattle.transition.proofs.Written.{Sized}
use Rattle.transition.proofs.Theorem.{Lawful, ReachedTable, table_fresh, table_count, table_refusals, table_step, step_report, step_kept, reached_held}
use Rattle.transition.proofs.Logs.{numbers_few, report_half, logged}
use Rattle.moves.specs.Moves.{final_number}
use Rattle.moves.specs.declared.Refusal.{Refusal}
use Rattle.schedule.specs.Tables.{tables}
use Rattle.schedule.specs.Lines.{next_line, header_read}
use Rattle.schedule.specs.Files.{step_lines, refusal_line, printed, file_report}
use Rattle.schedule.specs.Demand.{call_then, step_calls, ending, file_calls, printed_calls, end_printed, FileDemand}
use Rattle.schedule.specs.Numbers.{final_of, reading_refusal, FileNumbers}
use Rattle.schedule.specs.Scans.{scan_lines}
use Rattle.schedule.specs.Logs.{file_lists, RightLog}
use Rattle.schedule.proofs.SessionLaws.{next_within, header_stations}
use Rattle.schedule.proofs.FileTheorem.{lines_roomy, file_demand}
use Rattle.schedule.proofs.Scans.{Strikes, strikes_none, strikes_append, strikes_all, strikes_line, strikes_lines}
use Rattle.schedule.proofs.Surveys.{surveyed_none}
use Rattle.schedule.specs.declared.Line.{Line}

-- RIGHT LOGS

-- lines past the 1,000,000th step are no steps
calls_few : (B : Board) (gs : Lists.List (Lists.List ℕ)) (lines : ℕ) → lines ≤ 1000001 → lines + length (step_calls B lines gs) ≤ 1000001
unfolding step_calls
calls_few B [] lines h = omega arith
calls_few B (g ∷ gs) lines h = go (next_line lines g) refl (calls_few B gs (lines + 1))
  where
    go : (w : Result Line Refusal) → next_line lines g ≡ w → (lines + 1 ≤ 1000001 → lines + 1 + length (step_calls B (lines + 1) gs) ≤ 1000001)
        → lines + length (call_then B lines w (step_calls B (lines + 1) gs)) ≤ 1000001
    go (Err r) e ih = omega arith
    go (Ok q) e ih = omega (arith, ih (omega (arith, next_within lines g q e)))

pub file_log : {F : Form} {bs : Lists.List ℕ} {n : ℕ} {ns : Lists.List ℕ} → FileNumbers F bs n ns → Right F.board n (file_calls F.board bs) ns (file_lists F n bs)
file_log {F} {bs} N = logged N.numbers (omega (arith, calls_few F.board (step_lines bs) 1 (omega arith)))

-- on the original board: the numbers of every lawful form (02, Card 6) make a right log
pub right_log : {F : Form} {bs : Lists.List ℕ} {n : ℕ} {ns : Lists.List ℕ} → F.board ≡ original → header_read original (take 18 bs) ≡ Ok n → FileNumbers F bs n ns
    → RightLog bs ns (file_lists F n bs)
right_log {F} {bs} {n} {ns} b e N =
    record { stations = n; header = e; log = subst (λ B. Right B n (file_calls B bs) ns (file_lists F n bs)) b (file_log N) }

-- HOW LONG a right log is: of no more numbers than steps, and of a report of half of the room for their lines
pub log_short : {bs ns bytes : Lists.List ℕ} → RightLog bs ns bytes → (length ns ≤ length (file_calls original bs)) × (length bytes ≤ 464 * length (file_calls original bs))
log_short {bs} R = (numbers_few R.log, omega (arith, report_half 928 (lines_roomy original 1 (step_lines bs)) R.log))

-- of a file that is not refused: 4,096 numbers at most, and 2,048 scan results of 32 report lines
pub log_bounds : {bs ns bytes : Lists.List ℕ} → RightLog bs ns bytes → final_number (reading_refusal bs) ≡ 0 → (length ns ≤ 4096) × (length bytes ≤ 1900544)
unfolding reading_refusal
log_bounds {bs} R z =
    let few = (surveyed_none (final_of bs) (length (file_calls original bs)) None z).2 in
    let short = log_short R in
    (omega (arith, few, short.0), omega (arith, few, short.1))

-- A REPORT WITHOUT ITS REFUSALS

strikes_written : (line : ℕ) (room : Room) (l : Lists.List Entry) → let b = bytes_of (written line room l) in Strikes b b
strikes_written line (Buffer b) l = strikes_lines line 1 l
strikes_written line (Panel r) l = strikes_none

nothing_written : (line : ℕ) (room : Room) → bytes_of (written line room []) ≡ []
unfolding report_lines
nothing_written line (Buffer b) = refl
nothing_written line (Panel r) = refl

-- the numbers of refusals fit the column
known_small : (x : ℕ) → direct x ≡ true → x < 1000
known_small x h = grind (arith, nat_tests)

module _ (F : Form) (L : Lawful F) (n : ℕ) (z : Sized F.board n) where
  -- of what a call prints, the lines of scans are what it writes
  strikes_call : (t : F.Table) → ReachedTable F n t → (c : Call) → let a = step_of F t c in
      Strikes (printed c.line a.refusal (bytes_of a.report)) (bytes_of a.report)
  strikes_call t r c = go (eqb x 0) refl
    where
      x : ℕ
      x = (step_of F t c).refusal

      bytes : Lists.List ℕ
      bytes = bytes_of (step_of F t c).report

      same : F.written (F.count t) (F.state t) ≡ t
      same = ap₂ F.written (table_count F L n z t r) (ap F.state r.holds ∙ reached_held F L n z r.reached) ∙ sym r.holds

      none : x ≢ 0 → bytes ≡ []
      none d = ap (λ (a : TableAnswer F.Table). bytes_of a.report) (step_kept F t (λ _. same) c d) ∙ nothing_written c.line c.room

      go : (b : Bool) → eqb x 0 ≡ b → Strikes (cond b bytes (refusal_line c.line x)) bytes
      go true e = let w = step_report F t c in rw w.1 (strikes_written c.line c.room w.0)
      go false e =
          let s = strikes_line c.line x 0 0 0 (known_small x (table_refusals F L n z t r c).2.known) in
          rw (none (eqb-false x 0 e)) (rw e at s)

  strikes_calls : (cs : Lists.List Call) (t : F.Table) → ReachedTable F n t
      → Strikes (printed_calls cs (map (seen_in F) (run_table (step_of F) t cs))) (lists (map (λ a. a.report) (run_table (step_of F) t cs)))
  unfolding printed_calls run_table lists
  strikes_calls [] t r = strikes_none
  strikes_calls (c ∷ cs) t r = strikes_append (strikes_call t r c) (strikes_calls cs (step_of F t c).table (table_step F L n z t r c))

-- THE REPORT OF A FILE all of whose lines are steps, without the lines of refusals
pub lists_struck : (F : Form) → Lawful F → (bs : Lists.List ℕ) (n : ℕ) → header_read F.board (take 18 bs) ≡ Ok n
    → final_number (ending 1 (step_lines bs)) ≡ 0 → scan_lines (file_report (tables F) bs) ≡ file_lists F n bs
lists_struck F L bs n e z = ap scan_lines report ∙ strikes_all (strikes_calls F L n size cs (fresh_table F n) (table_fresh F L n size))
  where
    size : Sized F.board n
    size = header_stations F.board (take 18 bs) (proper_some L.proper) n e

    cs : Lists.List Call
    cs = file_calls F.board bs

    D : FileDemand F bs n
    D = file_demand F L bs n e

    shown : Lists.List ℕ
    shown = printed_calls cs (map (seen_in F) (run_table (step_of F) (fresh_table F n) cs))

    none : end_printed F.board 1 (step_lines bs) ≡ []
    none = rw (eq-eqb _ 0 z) refl

    report : file_report (tables F) bs ≡ shown
    report = D.report ∙ ap (λ x. printed_calls cs x ++ end_printed F.board 1 (step_lines bs)) (sym D.demand.same)
        ∙ ap (λ x. shown ++ x) none ∙ append-nil shown
