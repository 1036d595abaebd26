-- A file that is served part by part: what one call makes of the part that it is lent, and every sequence of calls (01, "The schedule file and the report").
use Rattle.std.specs.Prelude.{ℕ, suc, ◌+◌, ◌*◌, ◌/◌, ◌≤◌, ◌<◌, min, ◌≡◌, ◌≢◌, ◌⊎◌, Bool, true, false, ◌&&◌, cond, [], ◌∷◌, ◌++◌, length, take, drop, eqb, ltb}
use mathlib.Core.List as Lists
use Rattle.simulation.specs.Calls.{original}
use Rattle.transition.specs.Forms.{over, fresh_table}
use Rattle.moves.specs.Moves.{final_number}
use Rattle.std.specs.Prelude.{Option, Some, None, Result, Ok, Err}
use Rattle.arrays.specs.Arrays.{Arrays}
use Rattle.arrays.specs.Form.{lent}
use Rattle.schedule.specs.Tables.{tables}
use Rattle.schedule.specs.Lines.{header_read}
use Rattle.schedule.specs.Sessions.{Session, session, Served, unmoved, header_of}
use Rattle.schedule.specs.Files.{cut, pieces, header_printed, behind, run_lines}
use Rattle.file.specs.Clauses.{Runnable}
use Rattle.file.specs.declared.Run.{Run}
use Rattle.file.specs.declared.Fed.{Fed}
use Rattle.file.specs.declared.Progress.{Progress}
use Rattle.file.specs.declared.Opening.{Opening}
use Rattle.moves.specs.declared.Refusal.{Refusal}

-- WHAT IS STILL TO COME

-- a run with its table, as a session
abbrev pub run_session : Run → Arrays → Session Arrays
run_session run a = session run.lines run.refusal a

-- it has no line yet, and no refusal: its header is still to come
abbrev pub awaits : Session Arrays → Bool
awaits s = eqb (final_number s.refusal) 0 && eqb s.lines 0

-- the lines that it is given next: the first of them is the header where that is still to come
abbrev pub run_from : Session Arrays → Lists.List (Lists.List ℕ) → Served Arrays
run_from s [] = unmoved s
run_from s (l ∷ ls) = cond (awaits s) (let h = header_of (tables lent) l in behind (header_printed h) (run_lines (tables lent) h ls)) (run_lines (tables lent) s (l ∷ ls))

-- how many lines can be served of a part: whole ones; of the last part also what is left behind them, and the header even of no bytes
abbrev pub ready_in : Bool → Bool → Lists.List ℕ → ℕ
ready_in header false part = length part / 18
ready_in header true part = cond header (suc (pieces (drop 18 part))) (pieces part)

abbrev pub ready : Session Arrays → Bool → Lists.List ℕ → ℕ
ready s last part = ready_in (awaits s) last part

-- the run of all bytes that are still to come
abbrev pub ahead : Session Arrays → Lists.List ℕ → Served Arrays
ahead s rest = run_from s (cut (ready s true rest) rest)

-- ONE PART

-- a run that is served: its table is one that step calls leave of a fresh one, that of 2 stations before the header; its lines are counted up to the last
-- that a file can have
pub record Underway (run : Run) (a : Arrays) (order : Lists.List ℕ) : Type 0 where
  pub runnable : Runnable a order
  pub few : final_number run.refusal ≡ 0 → run.lines ≤ 1000001
  pub fresh : awaits (run_session run a) ≡ true → a ≡ fresh_table lent 2

-- a part, lent to the run: the whole outcome (proved unique: FeedLaws, `feeds_one`). The lines served leave the run and print the bytes. Before each of them
-- none was refused for good and there was room for 928 bytes. `more` tells that another could be served, for which there is no room.
pub record Feeds (run : Run) (a : Arrays) (last : Bool) (part : Lists.List ℕ) (r : Fed) (a' : Arrays) (buffer buffer' : Lists.List ℕ) : Type 0 where
  pub served : ℕ
  pub most : served ≤ ready (run_session run a) last part
  pub read : r.read ≡ min (18 * served) (length part)
  pub bytes : Lists.List ℕ
  pub runs : run_from (run_session run a) (cut served part)
      ≡ record { session = run_session r.run a'; refusal = final_number r.run.refusal; bytes = bytes }
  pub written : r.written ≡ length bytes
  pub report : buffer' ≡ over bytes buffer
  pub goes : (k : ℕ) → k < served → let o = run_from (run_session run a) (cut k part) in (o.refusal ≡ 0) × (length o.bytes + 928 ≤ length buffer)
  pub more : r.more ≡ (eqb (final_number r.run.refusal) 0 && ltb served (ready (run_session run a) last part))
  pub stops : r.more ≡ true → length buffer < r.written + 928
  pub short : r.written ≤ 928 * served
  pub counted : final_number r.run.refusal ≡ 0 → r.run.lines ≡ run.lines + served

-- EVERY SEQUENCE OF PARTS

-- a call: the part that it is lent, what comes behind that in the file, whether the part is said to be the last, and what came of it
pub record Feeding : Type 0 where
  pub part : Lists.List ℕ
  pub behind : Lists.List ℕ
  pub last : Bool
  pub fed : Fed
  pub table : Arrays
  pub buffer : Lists.List ℕ
  pub buffer' : Lists.List ℕ

-- calls one after the other, where these bytes are still to come: each keeps its contract, and is lent a part that starts with what the one before it left
-- unread; only what nothing comes behind may be called the last part
abbrev pub FedBy : Run → Arrays → Lists.List ℕ → Lists.List Feeding → Type 0
FedBy run a rest [] = Unit {0}
FedBy run a rest (x ∷ xs) =
    (rest ≡ x.part ++ x.behind) × (x.last ≡ true → x.behind ≡ []) × Feeds run a x.last x.part x.fed x.table x.buffer x.buffer'
    × FedBy x.fed.run x.table (drop x.fed.read x.part ++ x.behind) xs

-- the last call ended the run: it was lent the last part and has nothing more to serve, or a line was refused for good
abbrev pub Ends : Lists.List Feeding → Run → Type 0
Ends [] run = ⊥
Ends (x ∷ []) run = (x.fed.run ≡ run) × (x.fed.more ≡ false) × ((x.last ≡ true) ⊎ (final_number x.fed.run.refusal ≢ 0))
Ends (x ∷ (y ∷ xs)) run = Ends (y ∷ xs) run

-- all that was written, put together
abbrev pub output : Lists.List Feeding → Lists.List ℕ
output [] = []
output (x ∷ xs) = take x.fed.written x.buffer' ++ output xs

-- FOR THE CODE OF ONE PART

-- what is told of a part whose lines were served from one place up to another
abbrev pub fed_of : ℕ → Progress → ℕ → Fed
fed_of at r end = record {
  run = record { lines = r.lines; refusal = r.refusal };
  read = at + r.read;
  written = r.written;
  more = eqb (final_number r.refusal) 0 && ltb (at + r.read) end;
}

-- lines behind `lines` others are served next, from a place of the part on and on the table a': all of the part, or those behind its header
pub record Opened (run : Run) (a : Arrays) (part : Lists.List ℕ) (lines at : ℕ) (a' : Arrays) : Type 0 where
  pub going : final_number run.refusal ≡ 0
  pub header : ℕ
  pub waits : ((header ≡ 0) × (awaits (run_session run a) ≡ false)) ⊎ ((header ≡ 1) × (awaits (run_session run a) ≡ true))
  pub place : at ≡ 18 * header
  pub within : at ≤ length part
  pub counted : lines ≡ run.lines + header
  pub few : (lines ≢ 0) × (lines ≤ 1000001)
  pub runs : (k : ℕ) → run_from (run_session run a) (cut (header + k) part) ≡ run_lines (tables lent) (session lines None a') (cut k (drop at part))

-- how a part starts: with nothing that can be served, with a header that is refused, or with lines
abbrev pub Opens : Run → Arrays → Bool → Lists.List ℕ → Arrays → Lists.List ℕ → Result (Option Opening) Refusal → Type 0
Opens run a last part left order (Ok None) =
    (left ≡ a) × Underway run a order × ((eqb (final_number run.refusal) 0 && ltb 0 (ready (run_session run a) last part)) ≡ false)
Opens run a last part left order (Err x) =
    (left ≡ a) × Underway run a order × (awaits (run_session run a) ≡ true) × (0 < ready (run_session run a) last part)
    × (header_read original (take 18 part) ≡ Err x)
Opens run a last part left order (Ok (Some o)) = Opened run a part o.lines o.at left × Runnable left order
