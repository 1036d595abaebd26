-- The report lines and the panel records of a scan result: how many they are, and one more at their end.
use Prim.Native.Nat.{ℕ, zero, suc, ◌+◌, ◌-◌, ◌*◌, ◌≤◌, ◌<◌}
use native.Mathlib.Nat.{zero-add}
use native.Mathlib.Numerals.{add-one}
use native.Mathlib.Omega.{arith}
use mathlib.Core.Path.{◌≡◌, sym, ap, ap₂, ◌∙◌}
use mathlib.Core.List as Lists
use mathlib.Core.List.{[], ◌∷◌, ◌++◌, map, map-map, map-id, map-append, append_assoc, append-nil}
use lib.ListN.{length, set, take, drop, length-map}
use lib.Seq.{take_at, drop_at, drop-drop}
use borrow.Rule.Slice.PartMut.{put_mid}
use Rattle.basics.specs.Tests.{tabulate}
use Rattle.basics.proofs.Facts.{map_drop, length_tabulate, map_tabulate}
use Rattle.basics.proofs.Filled.{front_more, put_behind}
use Rattle.columns.specs.Columns.{line_head, line_tail, report_line}
use Rattle.columns.proofs.ColumnLaws.{length_report_line}
use Rattle.columns.proofs.Stores.{length_head}
use Rattle.simulation.specs.Calls.{Entry, entry, PanelRecord, report_lines, panel_records}
use Rattle.simulation.proofs.Reports.{lines_length, records_tabulate}
use Rattle.transition.specs.Forms.{over}
use Rattle.arrays.specs.Arrays.{Rows, cell, entries_in}
use Rattle.engine.specs.Clauses.{row_of, record_of}

-- the report line of an entry
abbrev line_at : ℕ → ℕ → Entry → Lists.List ℕ
line_at line place e = report_line line 0 place e.station e.job

-- the lines of n entries
pub result_length : (line n : ℕ) (rows : Rows) → length (report_lines line 1 (entries_in n rows)) ≡ n * 29
result_length line n rows = lines_length line 1 (entries_in n rows) ∙ ap (λ (k : ℕ). k * 29) (length_tabulate n 0 _)

-- the last of the lines apart
lines_last : (line from k h : ℕ) (f : ℕ → Entry)
    → report_lines line from (tabulate (suc k) h f) ≡ report_lines line from (tabulate k h f) ++ line_at line (from + k) (f (h + k))
unfolding report_lines tabulate
lines_last line from zero h f =
    let a : from ≡ from + 0 = omega arith in
    let b : h ≡ h + 0 = omega arith in
    append-nil (line_at line from (f h)) ∙ ap₂ (λ (p q : ℕ). line_at line p (f q)) a b
lines_last line from (suc k) h f =
    let a : suc from + k ≡ from + suc k = omega arith in
    let b : suc h + k ≡ h + suc k = omega arith in
    let first = line_at line from (f h) in
    let middle = report_lines line (suc from) (tabulate k (suc h) f) in
    ap (λ (l : Lists.List ℕ). first ++ l)
    (lines_last line (suc from) k (suc h) f ∙ ap₂ (λ (p q : ℕ). middle ++ line_at line p (f q)) a b)
    ∙ sym (append_assoc first middle (line_at line (from + suc k) (f (h + suc k))))

-- the line of entry k, made with the head that all of them have, put behind the k lines before it
pub one_line_more : (line : ℕ) (rows : Rows) (k : ℕ) (head out buffer x : Lists.List ℕ) → head ≡ line_head line 0
    → out ≡ over (report_lines line 1 (entries_in k rows)) buffer → x ≡ head ++ line_tail (k + 1) (cell rows 0 k 0) (cell rows 1 k 0)
    → put_mid (k * 29) (k * 29 + 29 - k * 29) out x ≡ over (report_lines line 1 (entries_in (k + 1) rows)) buffer
unfolding report_line
one_line_more line rows k head out buffer x d o e =
    let f : ℕ → Entry = λ p. entry (cell rows 0 p 0) (cell rows 1 p 0) in
    let lines = report_lines line 1 (entries_in k rows) in
    let g : x ≡ line_at line (k + 1) (f k) = e ∙ ap (λ (y : Lists.List ℕ). y ++ line_tail (k + 1) (f k).station (f k).job) d in
    let p : 1 + k ≡ k + 1 = omega arith in
    let more : report_lines line 1 (entries_in (k + 1) rows) ≡ lines ++ x = rw (add-one k, lines_last line 1 k 0 f, p, zero-add k, g) in
    let a : k * 29 ≡ length lines = sym (result_length line k rows) in
    let b : k * 29 + 29 - k * 29 ≡ length x = omega (arith, ap length g, length_report_line line 0 (k + 1) (f k).station (f k).job) in
    rw (o, b, a, more) (put_behind lines x buffer)

-- the head at the front of the buffer, before there is a line
pub head_first : (line : ℕ) (head buffer : Lists.List ℕ) → head ≡ line_head line 0 → take 11 (put_mid 0 11 buffer head) ≡ line_head line 0
head_first line head buffer e = take_at head (drop 11 buffer) 11 (ap length e ∙ length_head line 0) ∙ e

-- and as the head of the first line
pub head_stands : (line k : ℕ) (rows : Rows) (buffer : Lists.List ℕ)
    → take 11 (over (report_lines line 1 (entries_in (k + 1) rows)) buffer) ≡ line_head line 0
unfolding report_line report_lines tabulate
head_stands line k rows buffer =
    let f : ℕ → Entry = λ p. entry (cell rows 0 p 0) (cell rows 1 p 0) in
    let head = line_head line 0 in
    let rest = line_tail 1 (f 0).station (f 0).job in
    let others = report_lines line 2 (tabulate k 1 f) in
    let past = drop (length (line_at line 1 (f 0) ++ others)) buffer in
    rw (add-one k)
    (ap (take 11) (append_assoc (head ++ rest) others past ∙ append_assoc head rest (others ++ past))
    ∙ take_at head (rest ++ (others ++ past)) 11 (length_head line 0))

-- lines written over a head leave nothing of it
pub head_covered : (lines head buffer : Lists.List ℕ) → length head ≡ 11 → 11 ≤ length lines → over lines (put_mid 0 11 buffer head) ≡ over lines buffer
head_covered lines head buffer e h =
    let n = length lines - 11 in
    let l : length lines ≡ 11 + n = omega arith in
    let covered : drop (length lines) (head ++ drop 11 buffer) ≡ drop (length lines) buffer =
    ap (λ (i : ℕ). drop i (head ++ drop 11 buffer)) l ∙ sym (drop-drop n 11 (head ++ drop 11 buffer))
    ∙ ap (drop n) (drop_at head (drop 11 buffer) 11 e) ∙ drop-drop n 11 buffer ∙ ap (λ (i : ℕ). drop i buffer) (sym l)
    in
    ap (λ (r : Lists.List ℕ). lines ++ r) covered

-- PANELS

-- the record of entry p, as three numbers
abbrev record_row : Rows → ℕ → Lists.List ℕ
record_row rows p = suc p ∷ cell rows 0 p 0 ∷ cell rows 1 p 0 ∷ []

record_rows : (k : ℕ) (rows : Rows) → map row_of (panel_records 1 (entries_in k rows)) ≡ tabulate k 0 (record_row rows)
record_rows k rows = ap (map row_of) (records_tabulate k 0 _) ∙ map_tabulate row_of k 0 _

-- the first k records of a panel are written
rows_over : (k : ℕ) (rows panel : Rows) → over (map row_of (panel_records 1 (entries_in k rows))) panel ≡ tabulate k 0 (record_row rows) ++ drop k panel
rows_over k rows panel = ap (λ l. over l panel) (record_rows k rows) ∙ ap (λ j. tabulate k 0 (record_row rows) ++ drop j panel) (length_tabulate k 0 _)

-- and the next one
pub one_record_more : (k : ℕ) (rows panel panel' : Rows) → k < length panel → panel' ≡ over (map row_of (panel_records 1 (entries_in k rows))) panel
    → set panel' k ((k + 1) ∷ cell rows 0 k 0 ∷ cell rows 1 k 0 ∷ []) ≡ over (map row_of (panel_records 1 (entries_in (k + 1) rows))) panel
one_record_more k rows panel panel' h e =
    ap₂ (λ (l : Rows) (i : ℕ). set l k (i ∷ cell rows 0 k 0 ∷ cell rows 1 k 0 ∷ [])) (e ∙ rows_over k rows panel) (add-one k)
    ∙ front_more k 0 (record_row rows) panel (record_row rows k) h (ap (record_row rows) (sym (zero-add k)))
    ∙ sym (ap (λ j. over (map row_of (panel_records 1 (entries_in j rows))) panel) (add-one k) ∙ rows_over (suc k) rows panel)

-- and read as records
pub records_read : (l : Lists.List PanelRecord) (panel : Rows) → map record_of (over (map row_of l) panel) ≡ over l (map record_of panel)
records_read l panel = map-append record_of (map row_of l) (drop (length (map row_of l)) panel)
    ∙ ap₂ ◌++◌ (map-map record_of row_of l ∙ map-id l)
    (map_drop record_of (length (map row_of l)) panel ∙ ap (λ k. drop k (map record_of panel)) (length-map l row_of))
