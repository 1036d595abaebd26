-- A line of a schedule file (01, "The schedule file and the report"; refusals 1 and 8 to 12 of "When a step is turned down").
use Rattle.std.specs.Prelude.{ℕ, ◌+◌, ◌*◌, not, ◌&&◌, cond, List, length, get_or, take, drop, eqb, ltb, Option, Some, None, Result, Ok, Err}
use Rattle.columns.specs.Reading.{column_read}
use Rattle.simulation.specs.Calls.{Board, sized, Call, Buffer}
use Rattle.moves.specs.Moves.{called}
use Rattle.moves.specs.declared.Refusal.{Refusal}
use Rattle.moves.specs.declared.Refusal.TheVariants.{StationCount, IncompleteLine, MalformedColumn, UnknownStep, JobOutOfRange, TooManyLines}
use Rattle.moves.specs.declared.Request.{Request}
use Rattle.schedule.specs.declared.Line.{Line}

-- a step line from its parts
abbrev pub a_step : ℕ → ℕ → ℕ → Line
a_step station code job = record { station = station; code = code; job = job }

-- the three columns, read from left to right: the first bad one ends the reading
abbrev pub step_read : Option ℕ → Option ℕ → Option ℕ → Result Line Refusal
step_read None code job = Err MalformedColumn
step_read (Some s) None job = Err MalformedColumn
step_read (Some s) (Some k) None = Err MalformedColumn
step_read (Some s) (Some k) (Some j) = Ok (a_step s k j)

-- 18 bytes, the last of them 10: station in 3, code in 3, job in 11
unfoldable pub line_read : List ℕ → Result Line Refusal
line_read l = cond (eqb (length l) 18 && eqb (get_or l 17 0) 10)
    (step_read (column_read (take 3 l)) (column_read (take 3 (drop 3 l))) (column_read (take 11 (drop 6 l))))
    (Err IncompleteLine)

-- the line that follows `lines` others, the header among them: past 1,000,000 step lines each is one too many
abbrev pub next_line : ℕ → List ℕ → Result Line Refusal
next_line lines l = cond (ltb 1000000 lines) (Err TooManyLines) (line_read l)

-- the room of a line: for the longest scan result of a board, 29 bytes for each process of 32 stations
abbrev pub line_room : Board → ℕ
line_room B = 928 * B.per_station

-- the call of a step line that follows `lines` others: its report lines bear its line number, and with that room none is refused by 7
abbrev pub line_call : Board → ℕ → Line → Call
line_call B lines l = called (lines + 1) l.code l.station l.job (Buffer (line_room B))

-- what stands at the front of the bytes behind `lines` others: their end, a step call, or the refusal that ends the reading
abbrev pub say_next : ℕ → Result Line Refusal → Result (Option Request) Refusal
say_next lines (Err r) = Err r
say_next lines (Ok l) = Ok (Some (record { code = l.code; station = l.station; job = l.job; line = lines + 1 }))

unfoldable pub next_call : ℕ → List ℕ → Result (Option Request) Refusal
next_call lines bs = cond (eqb (length bs) 0) (Ok None) (say_next lines (next_line lines (take 18 bs)))

-- the header of a board is n, code 0, job 0; its refusals come in the order 8, 9, 10, 1, 11
abbrev pub header_said : Board → Result Line Refusal → Result ℕ Refusal
header_said B (Err r) = Err r
header_said B (Ok l) =
    cond (not (eqb l.code 0)) (Err UnknownStep)
    (cond (not (sized B l.station)) (Err StationCount)
    (cond (not (eqb l.job 0)) (Err JobOutOfRange)
    (Ok l.station)))

unfoldable pub header_read : Board → List ℕ → Result ℕ Refusal
header_read B l = header_said B (line_read l)
