-- Reading sessions: on any tables the step lines are calls, one after the other; so demand 3 holds of sessions on tables of every lawful form.
use Prim.Native.Nat.{ℕ, ◌+◌}
use native.Mathlib.Omega.{arith}
use mathlib.Core.Path.{◌≡◌, refl, sym, ap, ap₂, subst, ◌∙◌}
use mathlib.Core.Logic.{◌≢◌}
use mathlib.Core.List as Lists
use mathlib.Core.List.{[], ◌∷◌, map, map-map}
use lib.ListN.{length, take, drop, take-append-drop}
use Rattle.std.specs.Prelude.{Option, Some, None, Result, Ok, Err}
use Rattle.basics.specs.Tests.{All}
use Rattle.basics.proofs.Facts.{all_append, all_weaken}
use Rattle.simulation.specs.Calls.{Call, Bytes, bytes_of, size}
use Rattle.simulation.specs.Machine as Machine
use Rattle.simulation.proofs.Simulation.{proper_some}
use Rattle.transition.specs.Forms.{Form, over, fresh_table}
use Rattle.transition.specs.Demand.{run_table, seen_in, unbounded, Demand3}
use Rattle.transition.proofs.Written.{Sized}
use Rattle.transition.proofs.Theorem.{Lawful, table_fresh, demand}
use Rattle.transition.proofs.Sequences.{bytes_read, bytes_counted, rest_kept, same_counts}
use Rattle.moves.specs.Moves.{final_number}
use Rattle.moves.proofs.MoveLaws.{positive}
use Rattle.moves.specs.declared.Refusal.{Refusal}
use Rattle.schedule.specs.Tables.{Tables, tables}
use Rattle.schedule.specs.Lines.{next_line, header_read, line_room, line_call}
use Rattle.schedule.specs.Sessions.{Session, session, Served, unmoved, ended, opened_by, header_of, step_line, serve_of, Serves}
use Rattle.schedule.specs.Demand.{call_then, step_calls, end_then, ending, ServedLine, ServedBy}
use Rattle.schedule.specs.Demand.{session_calls, session_ending, steps, later, replied, left, Stays, SessionDemand}
use Rattle.schedule.proofs.SessionLaws.{next_long, serves_as, serve_final, header_stations, Lead, lead, Live, fresh_live, live_serve, next_live}
use Rattle.schedule.proofs.FileTheorem.{never_short, lines_roomy}
use Rattle.schedule.specs.declared.Line.{Line}

module _ (T : Tables) where
  -- what came back for the line x is the outcome o
  abbrev Gave : ServedLine T.Table → Served T.Table → Type 0
  Gave x o = Serves o x.session x.refusal x.written x.buffer x.buffer'

  -- the lines that follow x are served by the session that is specified
  go_on : {o : Served T.Table} (x : ServedLine T.Table) (xs : Lists.List (ServedLine T.Table)) → Gave x o → ServedBy T x.session xs
      → ServedBy T o.session xs
  go_on x xs g q = subst (λ (y : Session T.Table). ServedBy T y xs) g.session q

  -- A FINAL REFUSAL

  standing_stays : (z : Session T.Table) (x : ServedLine T.Table) → Gave x (unmoved z) → Stays z x
  standing_stays z x s = record { session = s.session; number = s.number; count = s.count; report = s.report }

  -- every call on a session that has one, be it of the header or of a line, meets it
  pub final_stays : (z : Session T.Table) → final_number z.refusal ≢ 0 → (xs : Lists.List (ServedLine T.Table)) → ServedBy T z xs → All (Stays z) xs
  final_stays z f [] q = tt
  final_stays z f (x ∷ xs) q =
      let s : Gave x (unmoved z) = serves_as (sym (serve_final T z x.line f)) q.0 in
      (standing_stays z x s, final_stays z f xs (go_on x xs s q.1))

  -- every buffer keeps what was not written
  lines_kept : (s : Session T.Table) (xs : Lists.List (ServedLine T.Table)) → ServedBy T s xs
      → All (λ x. x.buffer' ≡ over (take x.written x.buffer') x.buffer) xs
  lines_kept s [] q = tt
  lines_kept s (x ∷ xs) q =
      (rest_kept (serve_of T s x.line).bytes x.buffer q.0.count q.0.report, lines_kept x.session xs q.1)

-- THE STEP LINES are the calls, and behind them every call meets the final refusal r

pub record Reads (T : Tables) (s : Session T.Table) (xs : Lists.List (ServedLine T.Table)) (calls : Lists.List Call) (r : Option Refusal) : Type 0 where
  pub answers : map replied (take (length calls) xs) ≡ run_table T.step s.table calls
  pub counts : map (λ x. x.written) (take (length calls) xs) ≡ map (λ x. size (replied x).report) (take (length calls) xs)
  pub final : All (Stays (ended (left s (take (length calls) xs)) r)) (drop (length calls) xs)

module _ {T : Tables} {n : ℕ} (K : Lead T n) where
  -- as the lines after `lines` others are read
  abbrev pub ReadsOn : Session T.Table → Lists.List (ServedLine T.Table) → Type 0
  ReadsOn s xs = Reads T s xs (step_calls T.board s.lines (map (λ x. x.line) xs)) (ending s.lines (map (λ x. x.line) xs))

  pub reads : (xs : Lists.List (ServedLine T.Table)) (s : Session T.Table) → Live K s → ServedBy T s xs → ReadsOn s xs
  unfolding step_calls ending run_table
  reads [] s v q = record { answers = refl; counts = refl; final = tt }
  reads (x ∷ xs) s v q = go (next_line s.lines x.line) here (reads xs)
    where
      here : Gave T x (step_line T s (next_line s.lines x.line))
      here = serves_as (sym (live_serve K s v x.line)) q.0

      calls : Lists.List Call
      calls = step_calls T.board (s.lines + 1) (map (λ x. x.line) xs)

      end : Option Refusal
      end = ending (s.lines + 1) (map (λ x. x.line) xs)

      go : (w : Result Line Refusal) → Gave T x (step_line T s w) → ((s' : Session T.Table) → Live K s' → ServedBy T s' xs → ReadsOn s' xs)
          → Reads T s (x ∷ xs) (call_then T.board s.lines w calls) (end_then w end)
      go (Err r) y ih = record {
        answers = refl;
        counts = refl;
        final = (standing_stays T (ended s (Some r)) x y, final_stays T (ended s (Some r)) (positive r) xs (go_on T x xs y q.1));
      }
      go (Ok w) y ih =
          let c = line_call T.board s.lines w in
          let a = T.step s.table c in
          let i = ih (session (s.lines + 1) s.refusal a.table) (next_live K s v c (s.lines + 1)) (go_on T x xs y q.1) in
          let read = ap Bytes (bytes_read (bytes_of a.report) x.buffer y.count y.report) ∙ sym (K.bytes s.table c (line_room T.board) refl) in
          let told : replied x ≡ a = λ e. record { table = (y.session e).table; refusal = y.number e; report = read e } in
          let l = length calls in
          record {
            answers = ap₂ ◌∷◌ told i.answers;
            counts = ap₂ ◌∷◌ (bytes_counted (bytes_of a.report) x.buffer y.count y.report) i.counts;
            final = subst (λ (z : Session T.Table). All (Stays (ended (left z (take l xs)) end)) (drop l xs)) (sym y.session) i.final;
          }

-- what holds of all images holds of all elements through the map
all_mapped : {A B : Type 0} (Q : B → Type 0) (f : A → B) (l : Lists.List A) → All Q (map f l) → All (λ x. Q (f x)) l
all_mapped Q f [] h = tt
all_mapped Q f (x ∷ l) h = (h.0, all_mapped Q f l h.1)

-- no final refusal of a line is 7
ending_long : (lines : ℕ) (ls : Lists.List (Lists.List ℕ)) → final_number (ending lines ls) ≢ 7
unfolding ending
ending_long lines [] = omega arith
ending_long lines (l ∷ ls) = go (next_line lines l) refl (ending_long (lines + 1) ls)
  where
    go : (w : Result Line Refusal) → next_line lines l ≡ w → final_number (ending (lines + 1) ls) ≢ 7 → final_number (end_then w (ending (lines + 1) ls)) ≢ 7
    go (Err r) e ih = next_long lines l r e
    go (Ok q) e ih = ih

module _ (F : Form) (L : Lawful F) where
  -- DEMAND 3 OF A SESSION whose header is accepted
  pub session_demand : (header : Lists.List ℕ) (n : ℕ) → header_read F.board header ≡ Ok n → (xs : Lists.List (ServedLine F.Table))
      → ServedBy (tables F) (header_of (tables F) header) xs → SessionDemand F n xs
  session_demand header n e xs q = record {
    demand = d;
    same = same;
    counted = r.counts ∙ same_counts F.board n (λ x. seen_in F (replied x)) (steps F.board xs) (unbounded F.board n d.advances (session_calls F.board xs)) same;
    kept = lines_kept (tables F) (header_of (tables F) header) xs q;
    never7 = subst (All Roomy) (take-append-drop (length (session_calls F.board xs)) xs) (all_append Roomy (steps F.board xs) (later F.board xs) short
        (all_weaken (λ x y k. ending_long 1 (map (λ x. x.line) xs) (sym y.number ∙ k)) (later F.board xs) r.final));
    final = r.final;
  }
    where
      z : Sized F.board n
      z = header_stations F.board header (proper_some L.proper) n e

      d : Demand3 F n (session_calls F.board xs)
      d = demand F L n z (session_calls F.board xs)

      start : Session F.Table
      start = session 1 None (fresh_table F n)

      r : Reads (tables F) start xs (session_calls F.board xs) (session_ending xs)
      r = reads (lead F L n z) xs start (fresh_live (lead F L n z) 1) (subst (λ h. ServedBy (tables F) (opened_by (tables F) h) xs) e q)

      -- no step line is refused by 7
      Roomy : ServedLine F.Table → Type 0
      Roomy x = x.refusal ≢ 7

      short : All Roomy (steps F.board xs)
      short = all_mapped (λ a. a.refusal ≢ 7) replied (steps F.board xs) (subst (All (λ a. a.refusal ≢ 7)) (sym r.answers)
          (never_short F L n z (session_calls F.board xs) (lines_roomy F.board 1 (map (λ x. x.line) xs)) (fresh_table F n) (table_fresh F L n z)))

      same : map (λ x. seen_in F (replied x)) (steps F.board xs) ≡ map (Machine.seen F.board n) (unbounded F.board n d.advances (session_calls F.board xs))
      same = sym (map-map (seen_in F) replied (steps F.board xs)) ∙ ap (map (seen_in F)) r.answers ∙ d.same
