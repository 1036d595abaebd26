-- Demand 3 of reading sessions and of schedule files, stated for tables of any form of any board (01, "What demand 3 compares", "When a step is turned
-- down"): the step lines before any final refusal are a sequence of step calls.
use Rattle.std.specs.Prelude.{ℕ, ◌+◌, ◌≡◌, ◌≢◌, [], ◌∷◌, ◌++◌, map, length, take, drop, Option, Some, None, Result, Ok, Err}
use mathlib.Core.List as Lists
use Rattle.basics.specs.Tests.{All}
use Rattle.simulation.specs.Calls.{Board, Call, Bytes, bytes_of, size}
use Rattle.simulation.specs.Machine as Machine
use Rattle.simulation.specs.Machine.{Seen}
use Rattle.transition.specs.Forms.{Form, TableAnswer, over, fresh_table, step_of}
use Rattle.transition.specs.Demand.{run_table, seen_in, unbounded, Demand3}
use Rattle.moves.specs.Moves.{final_number}
use Rattle.moves.specs.declared.Refusal.{Refusal}
use Rattle.schedule.specs.Tables.{Tables, tables}
use Rattle.schedule.specs.Lines.{next_line, line_call}
use Rattle.schedule.specs.Sessions.{Session, session, ended, serve_of, Serves}
use Rattle.schedule.specs.Files.{step_lines, printed, file_report}
use Rattle.schedule.specs.declared.Line.{Line}

-- THE STEP LINES

-- the lines that follow `lines` others, up to a final refusal, as step calls on a board, with their line numbers
abbrev pub call_then : Board → ℕ → Result Line Refusal → Lists.List Call → Lists.List Call
call_then B lines (Err r) rest = []
call_then B lines (Ok l) rest = line_call B lines l ∷ rest

unfoldable pub step_calls : Board → ℕ → Lists.List (Lists.List ℕ) → Lists.List Call
step_calls B lines [] = []
step_calls B lines (l ∷ ls) = call_then B lines (next_line lines l) (step_calls B (lines + 1) ls)

-- the final refusal, if there is one
abbrev pub end_then : Result Line Refusal → Option Refusal → Option Refusal
end_then (Err r) rest = Some r
end_then (Ok l) rest = rest

unfoldable pub ending : ℕ → Lists.List (Lists.List ℕ) → Option Refusal
ending lines [] = None
ending lines (l ∷ ls) = end_then (next_line lines l) (ending (lines + 1) ls)

-- SESSIONS: every sequence of calls that serve lines, from the session that a header opened. From a final refusal on nothing changes.

-- a call with its line and its report buffer, and what came back: the session, the refusal number, the count of bytes and the buffer
pub record ServedLine (T : Type 0) : Type 0 where
  pub line : Lists.List ℕ
  pub buffer : Lists.List ℕ
  pub session : Session T
  pub refusal : ℕ
  pub written : ℕ
  pub buffer' : Lists.List ℕ

-- each call is made on the session that the one before it left, and keeps its contract
abbrev pub ServedBy : (T : Tables) → Session T.Table → Lists.List (ServedLine T.Table) → Type 0
ServedBy T s [] = Unit {0}
ServedBy T s (x ∷ xs) =
    Serves (serve_of T s x.line) x.session x.refusal x.written x.buffer x.buffer' × ServedBy T x.session xs

module _ {T : Type 0} where
  -- the lines as step calls, and the final refusal
  abbrev pub session_calls : Board → Lists.List (ServedLine T) → Lists.List Call
  session_calls B xs = step_calls B 1 (map (λ x. x.line) xs)

  abbrev pub session_ending : Lists.List (ServedLine T) → Option Refusal
  session_ending xs = ending 1 (map (λ x. x.line) xs)

  -- those that are step calls, and those from the final refusal on
  abbrev pub steps : Board → Lists.List (ServedLine T) → Lists.List (ServedLine T)
  steps B xs = take (length (session_calls B xs)) xs

  abbrev pub later : Board → Lists.List (ServedLine T) → Lists.List (ServedLine T)
  later B xs = drop (length (session_calls B xs)) xs

  -- what the caller sees of a step line: the table, the refusal number, and the bytes that are counted
  abbrev pub replied : ServedLine T → TableAnswer T
  replied x = record { table = x.session.table; refusal = x.refusal; report = Bytes (take x.written x.buffer') }

  -- the session that the calls leave
  abbrev pub left : Session T → Lists.List (ServedLine T) → Session T
  left s [] = s
  left s (x ∷ xs) = left x.session xs

-- a call that meets the final refusal of the session z: its number, no bytes, and z and the buffer as they were
pub record Stays {T : Type 0} (z : Session T) (x : ServedLine T) : Type 0 where
  pub session : x.session ≡ z
  pub number : x.refusal ≡ final_number z.refusal
  pub count : x.written ≡ 0
  pub report : x.buffer' ≡ x.buffer

-- for calls on the session of an accepted header of n processes: with the advances of demand 3 for the step lines the unbounded table shows what the caller
-- sees of them, and their counts are of the bytes that it writes; every buffer keeps what was not written; no line is refused by 7 (01, "The schedule file
-- and the report"); and all other calls meet the final refusal
pub record SessionDemand (F : Form) (n : ℕ) (xs : Lists.List (ServedLine F.Table)) : Type 0 where
  pub demand : Demand3 F n (session_calls F.board xs)
  pub same : map (λ x. seen_in F (replied x)) (steps F.board xs)
      ≡ map (Machine.seen F.board n) (unbounded F.board n demand.advances (session_calls F.board xs))
  pub counted : map (λ x. x.written) (steps F.board xs)
      ≡ map (λ a. size a.report) (unbounded F.board n demand.advances (session_calls F.board xs))
  pub kept : All (λ x. x.buffer' ≡ over (take x.written x.buffer') x.buffer) xs
  pub never7 : All (λ x. x.refusal ≢ 7) xs
  pub final : All (Stays (ended (left (session 1 None (fresh_table F n)) (steps F.board xs)) (session_ending xs))) (later F.board xs)

-- FILES: the report is what the unbounded table prints for the step lines, and then the line of the final refusal, if there is one

abbrev pub file_calls : Board → Lists.List ℕ → Lists.List Call
file_calls B bs = step_calls B 1 (step_lines bs)

-- what calls print, given what is seen of their answers
unfoldable pub printed_calls : Lists.List Call → Lists.List Seen → Lists.List ℕ
printed_calls [] ss = []
printed_calls (c ∷ cs) [] = []
printed_calls (c ∷ cs) (s ∷ ss) = printed c.line s.refusal (bytes_of s.report) ++ printed_calls cs ss

-- what the final refusal prints, with the number of the line behind `lines` others and the step lines
abbrev pub end_printed : Board → ℕ → Lists.List (Lists.List ℕ) → Lists.List ℕ
end_printed B lines ls = printed (lines + length (step_calls B lines ls) + 1) (final_number (ending lines ls)) []

-- for a file with an accepted header of n processes; no line of it is refused by 7 (01, "The schedule file and the report")
pub record FileDemand (F : Form) (bs : Lists.List ℕ) (n : ℕ) : Type 0 where
  pub demand : Demand3 F n (file_calls F.board bs)
  pub report : file_report (tables F) bs
      ≡ printed_calls (file_calls F.board bs) (map (Machine.seen F.board n) (unbounded F.board n demand.advances (file_calls F.board bs)))
      ++ end_printed F.board 1 (step_lines bs)
  pub never7 : All (λ a. a.refusal ≢ 7) (run_table (step_of F) (fresh_table F n) (file_calls F.board bs))
