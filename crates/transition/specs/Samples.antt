-- Samples P1 to P12 (01, "Shop samples"), samples of Cards 4 to 7 (02), and of what calls are answered (01, "When a step is turned down"; 02, Cards 1, 2 and
-- 4): one statement for all rows.
use Rattle.std.specs.Prelude.{ℕ, suc, ◌-◌, ◌≡◌, true, false, cond, [], ◌∷◌, ◌++◌, map, length, eqb}
use Prim.Native.Char.{code}
use Prim.Native.String as Text
use Prim.Native.String.{String}
use mathlib.Core.List as Lists
use Rattle.basics.specs.Tests.{ordered, tabulate, All}
use Rattle.label.specs.Labels as Labels
use Rattle.label.specs.Labels.{below, label_below}
use Rattle.label.specs.Rows.{digit}
use Rattle.simulation.specs.Calls.{Room, Buffer, Panel, Call, Entry, entry, PanelRecord, report_lines, Report, Bytes, Records, original}
use Rattle.simulation.specs.Machine.{digits, stands, State}
use Rattle.simulation.specs.Numbering.{numbers_of}
use Rattle.transition.specs.Forms.{Form, fresh_table, step_of, after}
use Rattle.transition.specs.Questions.{Tells}
use Rattle.transition.specs.Numbers.{Numbers}
use Rattle.transition.specs.Logs.{Right}

-- a direct call of station s; and one that lends nothing, where a label operation begins with the job 7
unfoldable pub call_with : ℕ → ℕ → ℕ → Room → Call
call_with s code job room = record { line = 0; code = code; station = s; job = job; room = room }

unfoldable pub call : ℕ → ℕ → Call
call s code = call_with s code (cond (eqb code 1) 7 0) (Buffer 0)

-- station s takes a label with this job
unfoldable pub takes_job : ℕ → ℕ → Lists.List Call
takes_job s job = call_with s 1 job (Buffer 0) ∷ call s 3 ∷ call s 4 ∷ call s 5 ∷ []

-- each of these stations in turn takes a label: begin, snap, update, end (01: marks)
unfoldable pub labelled : Lists.List ℕ → Lists.List Call
labelled [] = []
labelled (s ∷ l) = call s 1 ∷ call s 3 ∷ call s 4 ∷ call s 5 ∷ labelled l

-- of a state of n stations: their labels, and the stations, oldest first
unfoldable pub shown : ℕ → State Labels.Label → Lists.List (Lists.List ℕ)
shown n s = tabulate n 0 (λ i. tabulate (n - 1) 0 (s.labels false i))

unfoldable pub order : ℕ → State Labels.Label → Lists.List ℕ
order n s = map suc (ordered n (stands (digits original n) s.labels))

-- the stations that the scan result of station k shows
unfoldable pub shown_by : ℕ → State Labels.Label → Lists.List ℕ
shown_by k s = map (λ (e : Entry). e.station) (s.rest.result (k - 1))

-- a row: two digits, or two labels, of which the first is below the second; or n, the calls on the fresh table of n, and the labels and the order they lead
-- to; or n, the calls, a station, and the stations that its scan result then shows; or n, the calls, and how many stations then hold the top label; or n, the
-- calls, and numbers that do for them, or those that are found; or a log that is right, or one that is not: n, the calls, the numbers, and the stations that
-- its report shows; or n, the calls, further calls, each of them made on the table that the first ones leave, and the refusal number that each gets, 0 if it is
-- accepted; or n, the calls, one call more, its refusal number and what it writes
pub data Sample : Type 0 where
  digits_below : ℕ → ℕ → Sample
  labels_below : Lists.List ℕ → Lists.List ℕ → Sample
  reaches : ℕ → Lists.List Call → Lists.List (Lists.List ℕ) → Lists.List ℕ → Sample
  scan_shows : ℕ → Lists.List Call → ℕ → Lists.List ℕ → Sample
  top_held : ℕ → Lists.List Call → ℕ → Sample
  numbers_do numbers_found : ℕ → Lists.List Call → Lists.List ℕ → Sample
  log_right log_wrong : ℕ → Lists.List Call → Lists.List ℕ → Lists.List ℕ → Sample
  answers : ℕ → Lists.List Call → Lists.List Call → Lists.List ℕ → Sample
  replies : ℕ → Lists.List Call → Call → ℕ → Report → Sample

-- the report of one scan, ended by a call with the line number 1, that shows these stations, all with the job 7
unfoldable pub scan_bytes : Lists.List ℕ → Lists.List ℕ
scan_bytes l = report_lines 1 1 (map (λ s. entry s 7) l)

abbrev pub SampleHolds : Form → Sample → Type 0
SampleHolds F (digits_below d e) = below d e ≡ true
SampleHolds F (labels_below a b) = label_below (length a) (digit a) (digit b) ≡ true
SampleHolds F (reaches n cs l o) = let s = F.state (after F (fresh_table F n) cs) in (shown n s ≡ l) × (order n s ≡ o)
SampleHolds F (scan_shows n cs k l) = shown_by k (F.state (after F (fresh_table F n) cs)) ≡ l
SampleHolds F (top_held n cs k) = Tells F (after F (fresh_table F n) cs) 0 k
SampleHolds F (numbers_do n cs ns) = Numbers F n cs ns
SampleHolds F (numbers_found n cs ns) = numbers_of original n cs ≡ ns
SampleHolds F (log_right n cs ns l) = Right original n cs ns (scan_bytes l)
SampleHolds F (log_wrong n cs ns l) = Right original n cs ns (scan_bytes l) → ⊥
SampleHolds F (answers n cs xs ks) = map (λ c. (step_of F (after F (fresh_table F n) cs) c).refusal) xs ≡ ks
SampleHolds F (replies n cs c k r) = let a = step_of F (after F (fresh_table F n) cs) c in (a.refusal ≡ k) × (a.report ≡ r)

-- lists of one, two and three
unfoldable pub one : {A : Type 0} → A → Lists.List A
one a = a ∷ []

unfoldable pub two : {A : Type 0} → A → A → Lists.List A
two a b = a ∷ b ∷ []

unfoldable pub three : {A : Type 0} → A → A → A → Lists.List A
three a b c = a ∷ b ∷ c ∷ []

-- 1 and 2 snap, then both update
unfoldable pub together : Lists.List Call
together = call 1 1 ∷ call 2 1 ∷ call 1 3 ∷ call 2 3 ∷ call 1 4 ∷ call 2 4 ∷ []

-- 1 and 2 snap, 1 updates and ends, then 3, 1, 3, 1 take labels
unfoldable pub stalled : Lists.List Call
stalled = call 1 1 ∷ call 2 1 ∷ call 1 3 ∷ call 2 3 ∷ call 1 4 ∷ call 1 5 ∷ labelled (3 ∷ 1 ∷ 3 ∷ 1 ∷ [])

-- P1 to P12
abbrev pub samples : Lists.List Sample
samples =
    digits_below 5 3
    ∷ labels_below (three 4 5 2) (three 4 3 1)
    ∷ reaches 2 (labelled (one 1)) (two (one 2) (one 1)) (two 2 1)
    ∷ reaches 2 (labelled (1 ∷ 2 ∷ 1 ∷ 2 ∷ 1 ∷ [])) (two (one 3) (one 5)) (two 2 1)
    ∷ reaches 3 (labelled (one 3)) (three (two 1 1) (two 1 1) (two 1 1)) (three 1 2 3)
    ∷ reaches 3 (labelled (three 1 2 3)) (three (two 2 1) (two 2 2) (two 3 1)) (three 1 2 3)
    ∷ reaches 3 (labelled (three 1 2 3 ++ three 1 2 3)) (three (two 3 2) (two 4 1) (two 4 2)) (three 1 2 3)
    ∷ reaches 3 (labelled (three 1 2 3 ++ three 1 2 3 ++ three 1 2 3)) (three (two 5 1) (two 5 2) (two 3 1)) (three 1 2 3)
    ∷ reaches 3 together (three (two 2 1) (two 2 1) (two 1 1)) (three 3 1 2)
    ∷ reaches 3 stalled (three (two 2 5) (two 1 1) (two 2 4)) (three 2 3 1)
    ∷ reaches 3 (stalled ++ one (call 2 4)) (three (two 2 5) (two 2 1) (two 2 4)) (three 2 3 1)
    ∷ reaches 3 (stalled ++ two (call 2 4) (call 2 5) ++ labelled (one 2)) (three (two 2 5) (two 3 1) (two 2 4)) (three 3 1 2)
    ∷ []

-- HABITS THAT MISLEAD (01). Of the labels 2.1, 2.2 and 1.1 station 1 makes 2.3, as its own label does not count. P8 tells that 5 is not the highest digit, P9
-- that a label is chosen at the snap, P5 that the newest gets no other; and the last two of `report_samples` that a scan shows what its snap finds.
abbrev pub habit_samples : Lists.List Sample
habit_samples = reaches 3 (labelled (three 1 2 1)) (three (two 2 3) (two 2 2) (two 1 1)) (three 3 2 1) ∷ []

-- OUT OF SERVICE (02, Card 4). A station takes a label and leaves service, another takes a label, and the first returns: the second has seen its label.
unfoldable pub absent : Lists.List Call
absent = labelled (one 1) ++ one (call 1 6) ++ labelled (one 2) ++ one (call 1 7)

-- the label of a station out of service counts as the newest's, and among those that agree with the newest's; a scan leaves the station out, unless it snapped
-- before the station left
abbrev pub service_samples : Lists.List Sample
service_samples =
    reaches 2 absent (two (one 2) (one 3)) (two 1 2)
    ∷ reaches 3 (labelled (two 1 2) ++ one (call 1 6) ++ labelled (one 3)) (three (two 2 1) (two 2 2) (two 3 1)) (three 1 2 3)
    ∷ scan_shows 2 (absent ++ one (call 2 2)) 2 (two 1 2)
    ∷ scan_shows 2 (labelled (two 1 2) ++ two (call 1 6) (call 2 2)) 2 (one 2)
    ∷ scan_shows 2 (labelled (two 1 2) ++ two (call 2 2) (call 1 6)) 2 (two 1 2)
    ∷ []

-- WHO SHARES THE TOP (02, Card 5): all stations of a fresh table; the two of P9, also when one of them, the newest or the other, is out of service; and one
-- alone
abbrev pub top_samples : Lists.List Sample
top_samples =
    top_held 3 [] 3
    ∷ top_held 3 together 2
    ∷ top_held 3 (together ++ two (call 1 5) (call 1 6)) 2
    ∷ top_held 3 (together ++ two (call 2 5) (call 2 6)) 2
    ∷ top_held 3 (labelled (three 1 2 3)) 1
    ∷ []

-- NUMBERS (02, Card 6). 2 and 3 take labels; 1 snaps, and then 2, whose label is to stand before that of 1; both update, and 3 scans: the number of a snap
-- depends on a later one.
unfoldable pub overtaken : Lists.List Call
overtaken = labelled (two 2 3) ++ two (call 1 1) (call 1 3) ++ two (call 2 1) (call 2 3) ++ three (call 1 4) (call 2 4) (call 3 2)

-- and of stations whose labels are equal, which may share a number or not: more than one list does
abbrev pub number_samples : Lists.List Sample
number_samples =
    numbers_found 3 overtaken (1 ∷ 2 ∷ 4 ∷ 3 ∷ [])
    ∷ numbers_found 2 (labelled (three 1 1 2)) (three 1 0 2)
    ∷ numbers_found 3 (together ++ one (call 3 2)) (two 1 1)
    ∷ numbers_do 3 (together ++ one (call 3 2)) (two 1 1)
    ∷ numbers_do 3 (together ++ one (call 3 2)) (two 1 2)
    ∷ []

-- LOGS (02, Card 7), judged by the unbounded table with their own numbers: the same calls, and the scan ends. Where 1 and 2 share a number, the scan shows 1
-- before 2, as the table of labels does not.
unfoldable pub scan_ended : Lists.List Call
scan_ended = overtaken ++ one (record { line = 1; code = 5; station = 3; job = 0; room = Buffer 928 })

-- no log has too few or too many numbers, one that is the top number or above 2^32 - 1, 0 for a station that is not the newest, or another for one that is
abbrev pub log_samples : Lists.List Sample
log_samples =
    log_right 3 scan_ended (1 ∷ 2 ∷ 4 ∷ 3 ∷ []) (three 3 2 1)
    ∷ log_right 3 scan_ended (1 ∷ 2 ∷ 3 ∷ 3 ∷ []) (three 3 1 2)
    ∷ log_right 3 scan_ended (1 ∷ 2 ∷ 4294967295 ∷ 7 ∷ []) (three 3 2 1)
    ∷ log_right 2 (labelled (three 1 1 2)) (three 1 0 2) []
    ∷ log_wrong 3 scan_ended (1 ∷ 2 ∷ 3 ∷ 3 ∷ []) (three 3 2 1)
    ∷ log_wrong 3 scan_ended (1 ∷ 2 ∷ 3 ∷ 3 ∷ []) (two 3 1)
    ∷ log_wrong 3 scan_ended (three 1 2 3) (three 3 1 2)
    ∷ log_wrong 3 scan_ended (1 ∷ 2 ∷ 3 ∷ 3 ∷ 4 ∷ []) (three 3 1 2)
    ∷ log_wrong 3 scan_ended (1 ∷ 2 ∷ 3 ∷ 2 ∷ []) (three 3 2 1)
    ∷ log_wrong 3 scan_ended (1 ∷ 2 ∷ 4294967296 ∷ 3 ∷ []) (three 3 2 1)
    ∷ log_wrong 3 scan_ended (1 ∷ 2 ∷ 3 ∷ 0 ∷ []) (three 3 2 1)
    ∷ log_wrong 2 (labelled (three 1 1 2)) (three 1 2 3) []
    ∷ []

-- REFUSALS (01, "When a step is turned down"; 02, Card 4). Nine calls of station s, with the codes 0 to 8 and no room: with jobs that fit, and all with the same
-- job.
unfoldable pub codes : ℕ → Lists.List Call
codes s = tabulate 9 0 (call s)

unfoldable pub codes_with : ℕ → ℕ → Lists.List Call
codes_with s job = tabulate 9 0 (λ code. call_with s code job (Buffer 0))

-- the numbers that they get
unfoldable pub nine : ℕ → ℕ → ℕ → ℕ → ℕ → ℕ → ℕ → ℕ → ℕ → Lists.List ℕ
nine a b c d e f g h i = a ∷ b ∷ c ∷ d ∷ e ∷ f ∷ g ∷ h ∷ i ∷ []

-- In each phase: idle; due to snap, to update, to end a label; due to end a scan that shows nobody, and one that shows a station, where 7 comes last; out of
-- service. Then a station that is not there, before its job (2, 11), and the last one that is; a job that does not fit, before the phase (11, then 3 to 6), the
-- service (11, then 14 or 15) and the room (11, then 7); the jobs of a begin; and the room that two stations need.
abbrev pub refusal_samples : Lists.List Sample
refusal_samples =
    answers 2 [] (codes 1) (nine 10 0 0 4 5 6 0 15 10)
    ∷ answers 2 (one (call 1 1)) (codes 1) (nine 10 3 3 0 5 6 3 15 10)
    ∷ answers 2 (two (call 1 1) (call 1 3)) (codes 1) (nine 10 3 3 4 0 6 3 15 10)
    ∷ answers 2 (three (call 1 1) (call 1 3) (call 1 4)) (codes 1) (nine 10 3 3 4 5 0 3 15 10)
    ∷ answers 2 (one (call 1 2)) (codes 1) (nine 10 3 3 4 5 0 3 15 10)
    ∷ answers 2 (labelled (one 2) ++ one (call 1 2)) (codes 1) (nine 10 3 3 4 5 7 3 15 10)
    ∷ answers 2 (one (call 1 6)) (codes 1) (nine 10 14 14 4 5 6 14 0 10)
    ∷ answers 2 [] (codes 0) (nine 10 2 2 2 2 2 2 2 10)
    ∷ answers 2 [] (codes_with 3 0) (nine 10 2 2 2 2 2 2 2 10)
    ∷ answers 2 [] (codes_with 3 1) (nine 10 2 2 2 2 2 2 2 10)
    ∷ answers 3 [] (codes 3) (nine 10 0 0 4 5 6 0 15 10)
    ∷ answers 2 [] (codes_with 1 0) (nine 10 11 0 4 5 6 0 15 10)
    ∷ answers 2 [] (codes_with 1 1) (nine 10 0 11 11 11 11 11 11 10)
    ∷ answers 2 (one (call 1 1)) (codes_with 1 0) (nine 10 11 3 0 5 6 3 15 10)
    ∷ answers 2 (one (call 1 6)) (codes_with 1 0) (nine 10 11 14 4 5 6 14 0 10)
    ∷ answers 2 (one (call 1 6)) (codes_with 1 1) (nine 10 14 11 11 11 11 11 11 10)
    ∷ answers 2 (labelled (one 2) ++ one (call 1 2)) (codes_with 1 1) (nine 10 3 11 11 11 11 11 11 10)
    ∷ answers 2 [] (map (λ job. call_with 1 1 job (Buffer 0)) (0 ∷ 1 ∷ 4294967295 ∷ 4294967296 ∷ [])) (11 ∷ 0 ∷ 0 ∷ 11 ∷ [])
    ∷ answers 2 (labelled (two 1 2) ++ one (call 1 2)) (map (call_with 1 5 0) (Buffer 57 ∷ Buffer 58 ∷ Panel 1 ∷ Panel 2 ∷ [])) (7 ∷ 0 ∷ 7 ∷ 0 ∷ [])
    ∷ []

-- WHAT IS WRITTEN (01, "The schedule file and the report"; 02, Cards 1 and 2). A text of ASCII characters as bytes; and a record of a panel.
unfoldable pub ascii : String → Lists.List ℕ
ascii Text.[] = []
ascii (Text.◌∷◌ c s) = code c ∷ ascii s

abbrev pub panel_record : ℕ → ℕ → ℕ → PanelRecord
panel_record place station job = record { place = place; station = station; job = job }

-- 3, which is the newest, takes a label with the job 5, 1 one with the highest job, and 2 scans: 2 has no job, 3 stands before 1
unfoldable pub two_of_three : Lists.List Call
two_of_three = takes_job 3 5 ++ takes_job 1 4294967295 ++ one (call 2 2)

-- The report of that scan, in bytes and in records, with just enough room and with more. Without room nothing is written, and neither is it by a begin. A scan
-- shows the jobs that its snap finds, and nobody who gets one later.
abbrev pub report_samples : Lists.List Sample
report_samples =
    replies 3 two_of_three (call_with 2 5 0 (Buffer 58)) 0 (Bytes (
    (32 ∷ 32 ∷ 32 ∷ 32 ∷ 32 ∷ 32 ∷ 32 ∷ 48 ∷ 32 ∷ 32 ∷ 48 ∷ 32 ∷ 32 ∷ 49 ∷ 32 ∷ 32 ∷ 51 ∷ 32 ∷ 32 ∷ 32 ∷ 32 ∷ 32 ∷ 32 ∷ 32 ∷ 32 ∷ 32 ∷ 32 ∷ 53 ∷ 10 ∷ [])
    ++ (32 ∷ 32 ∷ 32 ∷ 32 ∷ 32 ∷ 32 ∷ 32 ∷ 48 ∷ 32 ∷ 32 ∷ 48 ∷ 32 ∷ 32 ∷ 50 ∷ 32 ∷ 32 ∷ 49 ∷ 32 ∷ 52 ∷ 50 ∷ 57 ∷ 52 ∷ 57 ∷ 54 ∷ 55 ∷ 50 ∷ 57 ∷ 53 ∷ 10 ∷ [])))
    ∷ replies 3 two_of_three (call_with 2 5 0 (Buffer 928)) 0 (Bytes (ascii "       0  0  1  3          5\n       0  0  2  1 4294967295\n"))
    ∷ replies 3 two_of_three (call_with 2 5 0 (Panel 2)) 0 (Records (two (panel_record 1 3 5) (panel_record 2 1 4294967295)))
    ∷ replies 3 two_of_three (call_with 2 5 0 (Buffer 57)) 7 (Bytes [])
    ∷ replies 3 two_of_three (call_with 2 5 0 (Panel 1)) 7 (Records [])
    ∷ replies 3 two_of_three (call_with 1 2 0 (Buffer 928)) 0 (Bytes [])
    ∷ replies 2 (takes_job 1 70 ++ one (call 2 2) ++ takes_job 1 71) (call_with 2 5 0 (Panel 32)) 0 (Records (one (panel_record 1 1 70)))
    ∷ replies 2 (one (call 2 2) ++ takes_job 1 70) (call_with 2 5 0 (Panel 32)) 0 (Records [])
    ∷ []

-- THEY ALL HOLD of the tables of a form
abbrev pub SamplesHold : Form → Type 0
SamplesHold F = All (All (SampleHolds F))
    (samples ∷ habit_samples ∷ service_samples ∷ top_samples ∷ number_samples ∷ log_samples ∷ refusal_samples ∷ report_samples ∷ [])
