-- Schedule files: on any tables a file prints what its calls print; so demand 3 holds of files on tables of every lawful form.
use Prim.Native.Nat.{ℕ, ◌+◌, ◌*◌, ◌≤◌}
use native.Mathlib.Omega.{arith}
use mathlib.Core.Path.{◌≡◌, refl, sym, ap, ap₂, ◌∙◌}
use mathlib.Core.Logic.{◌≢◌}
use mathlib.Core.Bool.{true}
use mathlib.Core.List as Lists
use mathlib.Core.List.{[], ◌∷◌, ◌++◌, map, append-nil, append_assoc}
use lib.ListN.{length, take}
use borrow.Author.Tests.{le-leb}
use Rattle.std.specs.Prelude.{Some, None, Result, Ok, Err}
use Rattle.basics.specs.Tests.{All}
use Rattle.basics.proofs.Facts.{tf}
use Rattle.simulation.specs.Calls.{Board, Call, Buffer, holds, Report, bytes_of}
use Rattle.simulation.specs.Machine.{Seen}
use Rattle.simulation.proofs.Simulation.{proper_some}
use Rattle.transition.specs.Forms.{Form, TableAnswer, fresh_table, step_of}
use Rattle.transition.specs.Demand.{run_table, seen_in, Demand3}
use Rattle.transition.proofs.Written.{Sized}
use Rattle.transition.proofs.Theorem.{Lawful, demand, ReachedTable, table_fresh, table_refusals, table_step, same_seen}
use Rattle.moves.specs.Moves.{refusal_number, final_number}
use Rattle.moves.proofs.MoveLaws.{positive}
use Rattle.moves.specs.declared.Refusal.{Refusal}
use Rattle.schedule.specs.Tables.{Tables, tables}
use Rattle.schedule.specs.Lines.{next_line, header_read, line_room, line_call}
use Rattle.schedule.specs.Sessions.{Session, session, Served, ended, step_line}
use Rattle.schedule.specs.Files.{step_lines, refusal_line, printed, run_lines, file_report}
use Rattle.schedule.specs.Demand.{call_then, step_calls, end_then, ending, file_calls, printed_calls, end_printed, FileDemand}
use Rattle.schedule.proofs.SessionLaws.{header_stations, Lead, lead, Live, fresh_live, live_final, live_serve, next_live}
use Rattle.schedule.proofs.Runs.{final_run, file_refused, file_served}
use Rattle.schedule.specs.declared.Line.{Line}

-- THE RUN OF THE LINES on any tables: what they print is what their calls print, one after the other, and then the refusal that ended the reading; whatever
-- else is seen of an answer beside its refusal and its report
module _ {T : Tables} {n : ℕ} (K : Lead T n) (look : TableAnswer T.Table → Seen)
    (number : (a : TableAnswer T.Table) → (look a).refusal ≡ a.refusal) (report : (a : TableAnswer T.Table) → (look a).report ≡ a.report) where
  abbrev Played : Session T.Table → Lists.List (Lists.List ℕ) → Type 0
  Played s ls =
      let cs = step_calls T.board s.lines ls in
      (run_lines T s ls).bytes ≡ printed_calls cs (map look (run_table T.step s.table cs)) ++ end_printed T.board s.lines ls

  pub played : (ls : Lists.List (Lists.List ℕ)) (s : Session T.Table) → Live K s → Played s ls
  unfolding run_lines step_calls ending printed_calls run_table
  played [] s v = refl
  played (l ∷ ls) s v =
      rw (live_final K s v, live_serve K s v l) (go (next_line s.lines l) (played ls))
    where
      cs : Lists.List Call
      cs = step_calls T.board (s.lines + 1) ls

      -- what is printed if the line is w
      shows : Result Line Refusal → Lists.List ℕ
      shows w = let o = step_line T s w in printed (s.lines + 1) o.refusal o.bytes ++ (run_lines T o.session ls).bytes

      calls : Result Line Refusal → Lists.List Call
      calls w = call_then T.board s.lines w cs

      end : Result Line Refusal → Lists.List ℕ
      end w = printed (s.lines + length (calls w) + 1) (final_number (end_then w (ending (s.lines + 1) ls))) []

      go : (w : Result Line Refusal) → ((s' : Session T.Table) → Live K s' → Played s' ls)
          → shows w ≡ printed_calls (calls w) (map look (run_table T.step s.table (calls w))) ++ end w
      go (Err r) ih =
          let line : s.lines + 1 ≡ s.lines + 0 + 1 = omega arith in
          rw (final_run T (ended s (Some r)) ls (positive r))
          (append-nil (printed (s.lines + 1) (refusal_number r) []) ∙ ap (λ i. printed i (refusal_number r) []) line)
      go (Ok q) ih =
          let c = line_call T.board s.lines q in
          let a = T.step s.table c in
          let here = printed (s.lines + 1) (look a).refusal (bytes_of (look a).report) in
          let others = printed_calls cs (map look (run_table T.step a.table cs)) in
          let line : s.lines + 1 + length cs + 1 ≡ s.lines + length (c ∷ cs) + 1 = omega arith in
          ap₂ (λ b o. b ++ o) (ap₂ (λ (x : ℕ) (y : Report). printed (s.lines + 1) x (bytes_of y)) (sym (number a)) (sym (report a)))
          (ih (session (s.lines + 1) s.refusal a.table) (next_live K s v c (s.lines + 1)))
          ∙ sym (append_assoc here others (end_printed T.board (s.lines + 1) ls))
          ∙ ap (λ i. (here ++ others) ++ printed i (final_number (ending (s.lines + 1) ls)) []) line

  -- A FILE whose header is accepted
  pub file_played : (bs : Lists.List ℕ) → header_read T.board (take 18 bs) ≡ Ok n
      → file_report T bs ≡ printed_calls (file_calls T.board bs) (map look (run_table T.step (T.fresh n) (file_calls T.board bs))) ++ end_printed T.board 1 (step_lines bs)
  file_played bs e = ap (λ (o : Served T.Table). o.bytes) (file_served T bs n e)
      ∙ played (step_lines bs) (session 1 None (T.fresh n)) (fresh_live K 1)

-- ROOM: a step line has that for all processes of 32 stations

pub lines_roomy : (B : Board) (lines : ℕ) (ls : Lists.List (Lists.List ℕ)) → All (λ c. c.room ≡ Buffer (line_room B)) (step_calls B lines ls)
unfolding step_calls
lines_roomy B lines [] = tt
lines_roomy B lines (l ∷ ls) = go (next_line lines l) (lines_roomy B (lines + 1) ls)
  where
    cs : Lists.List Call
    cs = step_calls B (lines + 1) ls

    go : (w : Result Line Refusal) → All (λ c. c.room ≡ Buffer (line_room B)) cs → All (λ c. c.room ≡ Buffer (line_room B)) (call_then B lines w cs)
    go (Err r) h = tt
    go (Ok q) h = (refl, h)

module _ (F : Form) (L : Lawful F) (n : ℕ) (z : Sized F.board n) where
  -- so none is refused by 7
  pub never_short : (cs : Lists.List Call) → All (λ c. c.room ≡ Buffer (line_room F.board)) cs → (t : F.Table) → ReachedTable F n t
      → All (λ a. a.refusal ≢ 7) (run_table (step_of F) t cs)
  unfolding run_table
  never_short [] h t r = tt
  never_short (c ∷ cs) h t r =
      let f = table_refusals F L n z t r c in
      (λ e. tf (enough f.0.shown f.1) (f.2.short e), never_short cs h.1 (step_of F t c).table (table_step F L n z t r c))
    where
      enough : (k : ℕ) → k ≤ n → holds c.room k ≡ true
      enough k l = ap (λ r. holds r k) h.0 ∙ le-leb (k * 29) (line_room F.board) (omega (arith, z.high))

  -- what is printed, as it is seen
  file_seen : (bs : Lists.List ℕ) → header_read F.board (take 18 bs) ≡ Ok n → let cs = file_calls F.board bs in
      file_report (tables F) bs ≡ printed_calls cs (map (seen_in F) (run_table (step_of F) (fresh_table F n) cs)) ++ end_printed F.board 1 (step_lines bs)
  file_seen = file_played (lead F L n z) (seen_in F) (λ a. refl) (λ a. refl)

-- DEMAND 3 OF A FILE, for every list of bytes whose header is accepted
pub file_demand : (F : Form) → Lawful F → (bs : Lists.List ℕ) (n : ℕ) → header_read F.board (take 18 bs) ≡ Ok n → FileDemand F bs n
file_demand F L bs n e = record {
  demand = d;
  report = file_seen F L n z bs e ∙ ap (λ x. printed_calls cs x ++ end_printed F.board 1 (step_lines bs)) d.same;
  never7 = never_short F L n z cs (lines_roomy F.board 1 (step_lines bs)) (fresh_table F n) (table_fresh F L n z);
}
  where
    z : Sized F.board n
    z = header_stations F.board (take 18 bs) (proper_some L.proper) n e

    cs : Lists.List Call
    cs = file_calls F.board bs

    d : Demand3 F n cs
    d = demand F L n z cs

-- THE REPORT OF A FILE is the same in every lawful form of a board
pub same_report : (F G : Form) → Lawful F → Lawful G → F.board ≡ G.board → (bs : Lists.List ℕ) → file_report (tables F) bs ≡ file_report (tables G) bs
same_report F G L M same bs = go (header_read F.board (take 18 bs)) refl
  where
    also : {h : Result ℕ Refusal} → header_read F.board (take 18 bs) ≡ h → header_read G.board (take 18 bs) ≡ h
    also e = ap (λ B. header_read B (take 18 bs)) (sym same) ∙ e

    go : (h : Result ℕ Refusal) → header_read F.board (take 18 bs) ≡ h → file_report (tables F) bs ≡ file_report (tables G) bs
    go (Err r) e = refused F e ∙ sym (refused G (also e))
      where
        refused : (F : Form) → header_read F.board (take 18 bs) ≡ Err r → file_report (tables F) bs ≡ refusal_line 1 (refusal_number r)
        refused F e = ap (λ (o : Served F.Table). o.bytes) (file_refused (tables F) bs r e)
    go (Ok n) e = file_seen F L n z bs e ∙ ap (shown F.board) (same_seen F G L M same n z (file_calls F.board bs))
        ∙ ap (λ B. shown B (map (seen_in G) (run_table (step_of G) (fresh_table G n) (file_calls B bs)))) same
        ∙ sym (file_seen G M n (header_stations G.board (take 18 bs) (proper_some M.proper) n (also e)) bs (also e))
      where
        z : Sized F.board n
        z = header_stations F.board (take 18 bs) (proper_some L.proper) n e

        shown : Board → Lists.List Seen → Lists.List ℕ
        shown B x = printed_calls (file_calls B bs) x ++ end_printed B 1 (step_lines bs)
