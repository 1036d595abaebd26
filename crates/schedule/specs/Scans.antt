-- The lines of a report that are of scans; all others tell of a refusal (01, "The schedule file and the report"; 02, Cards 1 and 7).
use Rattle.std.specs.Prelude.{ℕ, zero, suc, ◌/◌, Bool, false, cond, [], ◌++◌, length, take, drop, eqb, Option, Some, None}
use mathlib.Core.List as Lists
use Rattle.columns.specs.Reading.{column_read}

-- of the lines of 29 bytes, those whose refusal column reads as 0. The column has 3 bytes, behind 8 of the line number.
abbrev pub is_zero : Option ℕ → Bool
is_zero None = false
is_zero (Some v) = eqb v 0

unfoldable pub of_scan : Lists.List ℕ → Bool
of_scan line = is_zero (column_read (take 3 (drop 8 line)))

-- the first so many lines, and all
unfoldable pub lines_of_scans : ℕ → Lists.List ℕ → Lists.List ℕ
lines_of_scans zero bs = []
lines_of_scans (suc k) bs = let line = take 29 bs in cond (of_scan line) line [] ++ lines_of_scans k (drop 29 bs)

abbrev pub scan_lines : Lists.List ℕ → Lists.List ℕ
scan_lines bs = lines_of_scans (length bs / 29) bs
