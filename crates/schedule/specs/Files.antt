-- The run of a schedule file on any tables, and its report (01, "The schedule file and the report").
use Rattle.std.specs.Prelude.{ℕ, zero, suc, ◌+◌, ◌/◌, cond, [], ◌∷◌, ◌++◌, length, take, drop, eqb}
use mathlib.Core.List as Lists
use Rattle.columns.specs.Columns.{report_line}
use Rattle.moves.specs.Moves.{final_number}
use Rattle.schedule.specs.Tables.{Tables}
use Rattle.schedule.specs.Sessions.{Session, is_final, Served, unmoved, header_of, serve_of}

-- the input is cut every 18 bytes; the last piece may be short
unfoldable pub cut : ℕ → Lists.List ℕ → Lists.List (Lists.List ℕ)
cut zero bs = []
cut (suc k) bs = take 18 bs ∷ cut k (drop 18 bs)

abbrev pub pieces : Lists.List ℕ → ℕ
pieces bs = (length bs + 17) / 18

abbrev pub lines_of : Lists.List ℕ → Lists.List (Lists.List ℕ)
lines_of bs = cut (pieces bs) bs

-- the lines of a file after its header
abbrev pub step_lines : Lists.List ℕ → Lists.List (Lists.List ℕ)
step_lines bs = lines_of (drop 18 bs)

-- what a line prints: its report lines, or one line with its refusal
abbrev pub refusal_line : ℕ → ℕ → Lists.List ℕ
refusal_line number refusal = report_line number refusal 0 0 0

abbrev pub printed : ℕ → ℕ → Lists.List ℕ → Lists.List ℕ
printed number refusal bytes = cond (eqb refusal 0) bytes (refusal_line number refusal)

-- the header prints nothing if it is accepted
abbrev pub header_printed : {T : Type 0} → Session T → Lists.List ℕ
header_printed s = printed 1 (final_number s.refusal) []

-- an outcome with these bytes printed before it
abbrev pub behind : {T : Type 0} → Lists.List ℕ → Served T → Served T
behind bytes o = record { session = o.session; refusal = o.refusal; bytes = bytes ++ o.bytes }

module _ (T : Tables) where
  -- the lines one after the other, up to a final refusal, with its number and all that they print
  unfoldable pub run_lines : Session T.Table → Lists.List (Lists.List ℕ) → Served T.Table
  run_lines s [] = unmoved s
  run_lines s (l ∷ ls) =
      cond (is_final s) (unmoved s)
      (let o = serve_of T s l in behind (printed (s.lines + 1) o.refusal o.bytes) (run_lines o.session ls))

  -- the header, then the lines after it
  unfoldable pub file_run : Lists.List ℕ → Served T.Table
  file_run bs = let s = header_of T (take 18 bs) in behind (header_printed s) (run_lines s (step_lines bs))

  -- the bytes of the report, and the number of the file's final refusal, 0 if there is none
  abbrev pub file_report : Lists.List ℕ → Lists.List ℕ
  file_report bs = (file_run bs).bytes

  abbrev pub file_refusal : Lists.List ℕ → ℕ
  file_refusal bs = (file_run bs).refusal
