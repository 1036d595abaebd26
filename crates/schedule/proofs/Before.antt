-- CARD 1: a schedule whose every step 2 is directly followed by the step 3 of its station has the scans that it had before. By lines, on tables that are states:
-- between two lines both boards are in one state, but for a line of code 2 and the line after it.
use Prim.Native.Nat.{ℕ, ◌+◌}
use native.Mathlib.Omega.{arith}
use mathlib.Core.Path.{◌≡◌, refl, sym, ap, ◌∙◌}
use mathlib.Core.Logic.{◌⊎◌, inl, inr}
use mathlib.Core.Bool.{Bool, true, false, cond}
use mathlib.Core.List as Lists
use mathlib.Core.List.{[], ◌∷◌, ◌++◌, append-nil}
use lib.ListN.{take}
use lib.Dec.{eqb, ltb}
use Rattle.std.proofs.lemmas.Bool.Decides.{nat_tests}
use Rattle.std.specs.Prelude.{Some, None, Result, Ok, Err}
use Rattle.columns.proofs.ColumnLaws.{length_report_line}
use Rattle.label.specs.Labels as Labels
use Rattle.simulation.specs.Calls.{Board, original, apart, Call, report_lines, bytes_of}
use Rattle.simulation.specs.Machine as Machine
use Rattle.simulation.specs.Machine.{digits, State, fresh, step, fresh_label}
use Rattle.simulation.proofs.Reports.{lines_length}
use Rattle.simulation.proofs.Scans.{SnapOf, Scans, same_or_scans}
use Rattle.simulation.proofs.Simulation.{original_proper}
use Rattle.transition.specs.Forms.{Form, TableAnswer}
use Rattle.transition.specs.WellFormed.{Stated, stated}
use Rattle.transition.proofs.Theorem.{Lawful, step_written}
use Rattle.moves.specs.Moves.{refusal_number}
use Rattle.moves.proofs.MoveLaws.{positive}
use Rattle.moves.specs.declared.Refusal.{Refusal}
use Rattle.moves.specs.declared.Refusal.TheVariants.{TooManyLines}
use Rattle.schedule.specs.Tables.{Tables, tables}
use Rattle.schedule.specs.Lines.{a_step, line_read, next_line, header_said, header_read, line_call}
use Rattle.schedule.specs.Sessions.{Session, session, Served, ended, step_line}
use Rattle.schedule.specs.Files.{step_lines, refusal_line, printed, run_lines, file_report}
use Rattle.schedule.specs.Scans.{scan_lines}
use Rattle.schedule.specs.Before.{as_states, Followed, ScansAsBefore}
use Rattle.schedule.proofs.SessionLaws.{serve_next}
use Rattle.schedule.proofs.Runs.{final_run, run_on, file_refused, file_served}
use Rattle.schedule.proofs.Scans.{Strikes, strikes_whole, strikes_line, scans_behind}
use Rattle.schedule.proofs.FileTheorem.{same_report}
use Rattle.schedule.specs.declared.Line.{Line}

-- document 01's board (true) and the original one: whether scans are apart
abbrev board_of : Bool → Board
board_of x = record { per_station = 1; fill = 1; scan_apart = x; known = 7 }

-- WHAT A LINE PRINTS

-- what its answer prints: whole report lines
abbrev shown : Call → Machine.Answer Labels.Label → Lists.List ℕ
shown c a = printed c.line a.refusal (bytes_of a.report)

-- a line that is a step when it follows others is one by itself
read_step : (lines : ℕ) (l : Lists.List ℕ) (q : Line) → next_line lines l ≡ Ok q → line_read l ≡ Ok q
read_step lines l q e = grind (arith, nat_tests)

module _ (n : ℕ) where
  abbrev answered : Bool → State Labels.Label → Call → Machine.Answer Labels.Label
  answered y s c = step (board_of y) n (digits original n) s c

  shown_whole : (y : Bool) (s : State Labels.Label) (lines : ℕ) (q : Line) → let c = line_call original lines q in
      let x = shown c (answered y s c) in Strikes x (scan_lines x)
  unfolding step
  shown_whole y s lines q = go (eqb a.refusal 0)
    where
      a : Machine.Answer Labels.Label
      a = answered y s (line_call original lines q)

      go : (b : Bool) → let x = cond b (bytes_of a.report) (refusal_line (lines + 1) a.refusal) in Strikes x (scan_lines x)
      go true = strikes_whole _ _ (lines_length (lines + 1) 1 _)
      go false = strikes_whole _ 1 (length_report_line (lines + 1) a.refusal 0 0 0)

  -- THE RUN OF LINES on a board of states, from the state s on

  abbrev report_from : Bool → ℕ → State Labels.Label → Lists.List (Lists.List ℕ) → Lists.List ℕ
  report_from y lines s ls = (run_lines (tables (as_states (board_of y))) (session lines None (stated n s)) ls).bytes

  module _ (y : Bool) (lines : ℕ) (s : State Labels.Label) (l : Lists.List ℕ) (ls : Lists.List (Lists.List ℕ)) where
    abbrev F : Form
    F = as_states (board_of y)

    abbrev start : Session Stated
    start = session lines None (stated n s)

    line_read_lem : (w : Result Line Refusal) → next_line lines l ≡ w → let o = step_line (tables F) start w in
        report_from y lines s (l ∷ ls) ≡ printed (lines + 1) o.refusal o.bytes ++ (run_lines (tables F) o.session ls).bytes
    line_read_lem w e = ap (λ (o : Served Stated). o.bytes) (run_on (tables F) start l ls refl)
        ∙ ap (λ (o : Served Stated). printed (lines + 1) o.refusal o.bytes ++ (run_lines (tables F) o.session ls).bytes)
        (serve_next (tables F) start l refl refl w e)

    line_refused : (r : Refusal) → next_line lines l ≡ Err r → report_from y lines s (l ∷ ls) ≡ printed (lines + 1) (refusal_number r) []
    line_refused r e = line_read_lem (Err r) e
        ∙ ap (λ (o : Served Stated). printed (lines + 1) (refusal_number r) [] ++ o.bytes) (final_run (tables F) (ended start (Some r)) ls (positive r))
        ∙ append-nil (printed (lines + 1) (refusal_number r) [])

    line_step : (q : Line) → next_line lines l ≡ Ok q → let c = line_call original lines q in
        (a : Machine.Answer Labels.Label) → answered y s c ≡ a → report_from y lines s (l ∷ ls) ≡ shown c a ++ report_from y (lines + 1) a.state ls
    line_step q e a h =
        let c = line_call original lines q in
        line_read_lem (Ok q) e
        ∙ ap (λ (u : TableAnswer Stated). printed (lines + 1) u.refusal (bytes_of u.report)
        ++ (run_lines (tables F) (session (lines + 1) None u.table) ls).bytes) (step_written F (stated n s) c refl)
        ∙ ap (λ (a : Machine.Answer Labels.Label). shown c a ++ report_from y (lines + 1) a.state ls) h

  -- BOTH BOARDS have the same scans of some lines, the original one from the state s and document 01's from s'
  abbrev Agree : ℕ → State Labels.Label → State Labels.Label → Lists.List (Lists.List ℕ) → Type 0
  Agree lines s s' ls = scan_lines (report_from false lines s ls) ≡ scan_lines (report_from true lines s' ls)

  module _ (lines : ℕ) (l : Lists.List ℕ) (ls : Lists.List (Lists.List ℕ)) where
    agree_refused : (s s' : State Labels.Label) (r : Refusal) → next_line lines l ≡ Err r → Agree lines s s' (l ∷ ls)
    agree_refused s s' r e = ap scan_lines (line_refused false lines s l ls r e ∙ sym (line_refused true lines s' l ls r e))

    -- a call that both boards answer alike
    agree_same : (s : State Labels.Label) (q : Line) → next_line lines l ≡ Ok q → let c = line_call original lines q in
        answered true s c ≡ answered false s c → ((s' : State Labels.Label) → Agree (lines + 1) s' s' ls) → Agree lines s s (l ∷ ls)
    agree_same s q e h same =
        ap scan_lines (line_step false lines s l ls q e a refl)
        ∙ scans_behind (report_from false (lines + 1) a.state ls) whole
        ∙ ap (λ y. scan_lines (shown c a) ++ y) (same a.state)
        ∙ sym (scans_behind (report_from true (lines + 1) a.state ls) whole)
        ∙ sym (ap scan_lines (line_step true lines s l ls q e a h))
      where
        c : Call
        c = line_call original lines q

        a : Machine.Answer Labels.Label
        a = answered false s c

        whole : Strikes (shown c a) (scan_lines (shown c a))
        whole = shown_whole false s lines q

    -- the begin of a scan prints nothing
    agree_begin : (s : State Labels.Label) (q : Line) → next_line lines l ≡ Ok q
        → (x : Scans n (digits original n) s (line_call original lines q)) → Agree (lines + 1) x.scanned x.begun ls → Agree lines s s (l ∷ ls)
    unfolding report_lines
    agree_begin s q e x rest =
        ap scan_lines (line_step false lines s l ls q e _ x.scans) ∙ rest
        ∙ sym (ap scan_lines (line_step true lines s l ls q e _ x.begins))

    -- the line after it is refused by 4 where the scan is done, and prints nothing where its snap is due; past the last line allowed both refuse it by 12
    agree_snap : (s : State Labels.Label) (c : Call) (x : Scans n (digits original n) s c) → line_read l ≡ Ok (a_step c.station 3 0)
        → Agree (lines + 1) x.scanned x.scanned ls → Agree lines x.scanned x.begun (l ∷ ls)
    unfolding report_lines
    agree_snap s c x e rest = go (ltb 1000000 lines) refl
      where
        d : Call
        d = line_call original lines (a_step c.station 3 0)

        snap : SnapOf c d
        snap = record { code = refl; station = refl; job = refl }

        report : Lists.List ℕ
        report = report_from false (lines + 1) x.scanned ls

        go : (b : Bool) → ltb 1000000 lines ≡ b → Agree lines x.scanned x.begun (l ∷ ls)
        go true b = agree_refused x.scanned x.begun TooManyLines (rw b refl)
        go false b =
            let next : next_line lines l ≡ Ok (a_step c.station 3 0) = rw b e in
            ap scan_lines (line_step false lines x.scanned l ls (a_step c.station 3 0) next _ (x.turned d snap))
            ∙ scans_behind report (strikes_line (lines + 1) 4 0 0 0 (omega arith))
            ∙ rest
            ∙ sym (ap scan_lines (line_step true lines x.begun l ls (a_step c.station 3 0) next _ (x.snaps d snap)))

    -- any line, where the lines after it agree from one state, and from the two that the begin of a scan leaves
    agree_line : (s : State Labels.Label) → ((s' : State Labels.Label) → Agree (lines + 1) s' s' ls)
        → ((c : Call) → line_read l ≡ Ok (a_step c.station 2 c.job) → (x : Scans n (digits original n) s c) → Agree (lines + 1) x.scanned x.begun ls)
        → Agree lines s s (l ∷ ls)
    agree_line s same begun = go (next_line lines l) refl
      where
        step_line_lem : (q : Line) → next_line lines l ≡ Ok q → let c = line_call original lines q in
            (answered true s c ≡ answered false s c) ⊎ Scans n (digits original n) s c → Agree lines s s (l ∷ ls)
        step_line_lem q e (inl h) = agree_same s q e h same
        step_line_lem q e (inr x) =
            let read : line_read l ≡ Ok (a_step q.station 2 q.job) = read_step lines l q e ∙ ap (λ k. Ok (a_step q.station k q.job)) x.code in
            agree_begin s q e x (begun (line_call original lines q) read x)

        go : (w : Result Line Refusal) → next_line lines l ≡ w → Agree lines s s (l ∷ ls)
        go (Err r) e = agree_refused s s r e
        go (Ok q) e = step_line_lem q e (same_or_scans n (digits original n) s (line_call original lines q))

  -- ALL LINES, by one or by two
  agree : (ls : Lists.List (Lists.List ℕ)) → Followed ls → (lines : ℕ) (s : State Labels.Label) → Agree lines s s ls
  unfolding run_lines
  agree [] f lines s = refl
  agree (l ∷ []) f lines s = agree_line lines l [] s (agree [] tt (lines + 1)) (λ c e x. absurd (f.0 c.station c.job e))
  agree (l ∷ (m ∷ ms)) f lines s = agree_line lines l (m ∷ ms) s (agree (m ∷ ms) f.1 (lines + 1))
      (λ c e x. agree_snap (lines + 1) m ms s c x (f.0 c.station c.job e) (agree ms f.1.1 (lines + 1 + 1) x.scanned))

pub as_states_lawful : Lawful (as_states original)
as_states_lawful = record { proper = original_proper; counted = λ n s. refl; held = λ n z s r. refl; passes = λ n z s r. refl }

-- CARD 1, for every list of bytes and every lawful form of the original board
pub scans_as_before : (F : Form) → Lawful F → F.board ≡ original → (bs : Lists.List ℕ) → ScansAsBefore F bs
scans_as_before F L same bs f = ap scan_lines (same_report F (as_states original) L as_states_lawful same bs) ∙ go (header_read original (take 18 bs)) refl
  where
    scans : Served Stated → Lists.List ℕ
    scans o = scan_lines o.bytes

    now : Tables
    now = tables (as_states original)

    before : Tables
    before = tables (as_states apart)

    said : (w : Result Line Refusal) → header_said apart w ≡ header_said original w
    said (Err r) = refl
    said (Ok q) = refl

    also : {h : Result ℕ Refusal} → header_read original (take 18 bs) ≡ h → header_read apart (take 18 bs) ≡ h
    also e = unfold header_read in said (line_read (take 18 bs)) ∙ unfold header_read in e

    go : (h : Result ℕ Refusal) → header_read original (take 18 bs) ≡ h → scan_lines (file_report now bs) ≡ scan_lines (file_report before bs)
    go (Err r) e = ap scans (file_refused now bs r e) ∙ sym (ap scans (file_refused before bs r (also e)))
    go (Ok n) e = ap scans (file_served now bs n e) ∙ agree n (step_lines bs) f 1 (fresh (fresh_label original))
        ∙ sym (ap scans (file_served before bs n (also e)))
