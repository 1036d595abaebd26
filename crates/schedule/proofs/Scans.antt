-- The lines of a report that are of scans, found part by part.
use Prim.Native.Nat.{ℕ, zero, suc, ◌+◌, ◌*◌, ◌/◌, ◌≤◌, ◌<◌}
use native.Mathlib.Nat.{zero-add}
use native.Mathlib.Omega.{arith}
use mathlib.Core.Path.{◌≡◌, refl, sym, ap, ap₂, ◌∙◌}
use mathlib.Core.Bool.{cond}
use mathlib.Core.List as Lists
use mathlib.Core.List.{[], ◌∷◌, ◌++◌, append_assoc, append-nil}
use lib.ListN.{length, take, drop, length-append, length-drop}
use lib.Seq.{take_all, take-append-le, drop-append-le}
use lib.Dec.{eqb}
use Rattle.std.specs.Prelude.{Some}
use Rattle.columns.specs.Columns.{column, line_head, line_tail, report_line}
use Rattle.columns.specs.Reading.{column_read}
use Rattle.columns.proofs.ColumnLaws.{length_report_line, column_iff}
use Rattle.simulation.specs.Calls.{Entry, report_lines}
use Rattle.schedule.specs.Scans.{of_scan, lines_of_scans, scan_lines}

-- the bytes are whole report lines, and these are the ones of scans
pub record Strikes (bytes kept : Lists.List ℕ) : Type 0 where
  pub lines : ℕ
  pub long : length bytes ≡ lines * 29
  pub kept_are : lines_of_scans lines bytes ≡ kept

pub strikes_none : Strikes [] []
unfolding lines_of_scans
strikes_none = record { lines = 0; long = refl; kept_are = refl }

scans_append : (k j : ℕ) (a b : Lists.List ℕ) → length a ≡ k * 29 → lines_of_scans (k + j) (a ++ b) ≡ lines_of_scans k a ++ lines_of_scans j b
unfolding lines_of_scans
scans_append zero j [] b h = ap (λ i. lines_of_scans i b) (zero-add j)
scans_append zero j (x ∷ a) b h = absurd (omega arith)
scans_append (suc k) j a b h =
    let n : suc k + j ≡ suc (k + j) = omega arith in
    let long : 29 ≤ length a = omega arith in
    let left : length (drop 29 a) ≡ k * 29 = rw length-drop (omega arith) in
    let first = cond (of_scan (take 29 a)) (take 29 a) [] in
    rw (n, take-append-le 29 a b long, drop-append-le 29 a b long)
    (ap (λ l. first ++ l) (scans_append k j (drop 29 a) b left) ∙ sym (append_assoc first (lines_of_scans k (drop 29 a)) (lines_of_scans j b)))

pub strikes_append : {a b k l : Lists.List ℕ} → Strikes a k → Strikes b l → Strikes (a ++ b) (k ++ l)
strikes_append {a} {b} A B = record {
  lines = A.lines + B.lines;
  long = omega (arith, length-append a b, A.long, B.long);
  kept_are = scans_append A.lines B.lines a b A.long ∙ ap₂ ◌++◌ A.kept_are B.kept_are;
}

pub strikes_all : {bytes kept : Lists.List ℕ} → Strikes bytes kept → scan_lines bytes ≡ kept
strikes_all {bytes} S = let e : length bytes / 29 ≡ S.lines = omega (arith, S.long) in ap (λ k. lines_of_scans k bytes) e ∙ S.kept_are

-- any bytes that are whole lines
pub strikes_whole : (bytes : Lists.List ℕ) (lines : ℕ) → length bytes ≡ lines * 29 → Strikes bytes (scan_lines bytes)
strikes_whole bytes lines h =
    let e : lines ≡ length bytes / 29 = omega (arith, h) in
    record { lines = lines; long = h; kept_are = ap (λ k. lines_of_scans k bytes) e }

-- whole lines, and any bytes behind them
pub scans_behind : {a k : Lists.List ℕ} (b : Lists.List ℕ) → Strikes a k → scan_lines (a ++ b) ≡ k ++ scan_lines b
scans_behind {a} b A =
    let e : length (a ++ b) / 29 ≡ A.lines + length b / 29 = omega (arith, length-append a b, A.long) in
    ap (λ i. lines_of_scans i (a ++ b)) e ∙ scans_append A.lines (length b / 29) a b A.long ∙ ap (λ l. l ++ scan_lines b) A.kept_are

-- one line: its refusal column is read back
module _ (line refusal place station job : ℕ) (small : refusal < 1000) where
  abbrev whole : Lists.List ℕ
  whole = report_line line refusal place station job

  refusal_read : column_read (take 3 (drop 8 whole)) ≡ Some refusal
  unfolding report_line line_head line_tail
  refusal_read = (column_iff (column 3 refusal) refusal (omega arith)).1 (refl, small)

  pub strikes_line : Strikes whole (cond (eqb refusal 0) whole [])
  unfolding lines_of_scans of_scan
  strikes_line = record {
    lines = 1;
    long = length_report_line line refusal place station job;
    kept_are = rw (take_all 29 whole (omega (arith, length_report_line line refusal place station job)), refusal_read) (append-nil _);
  }

pub strikes_lines : (line from : ℕ) (l : Lists.List Entry) → Strikes (report_lines line from l) (report_lines line from l)
unfolding report_lines
strikes_lines line from [] = strikes_none
strikes_lines line from (e ∷ l) = strikes_append (strikes_line line 0 from e.station e.job (omega arith)) (strikes_lines line (suc from) l)
