-- Files and their reports, byte for byte (01, "The schedule file and the report"): document 01's listing as Cards 1 and 2 of document 02 leave it, and files with
-- each refusal that a file can meet but for 12.
use Rattle.std.specs.Prelude.{ℕ, ◌≡◌, [], ◌∷◌, ◌++◌}
use Prim.Native.String.{String}
use mathlib.Core.List as Lists
use Rattle.basics.specs.Tests.{All}
use Rattle.transition.specs.Forms.{Form}
use Rattle.transition.specs.Samples.{ascii}
use Rattle.schedule.specs.Tables.{tables}
use Rattle.schedule.specs.Files.{file_report}

-- the lines of a file, and those of its report
pub record FileSample : Type 0 where
  pub file : Lists.List String
  pub report : Lists.List String

abbrev pub prints : Lists.List String → Lists.List String → FileSample
prints file report = record { file = file; report = report }

-- texts as bytes, one after the other
unfoldable pub texts : Lists.List String → Lists.List ℕ
texts [] = []
texts (s ∷ l) = ascii s ++ texts l

abbrev pub FilePrints : Form → FileSample → Type 0
FilePrints F x = file_report (tables F) (texts x.file) ≡ texts x.report

-- 01's listing: its line 7 is refused by 4 (02, Card 1), and its line 8 shows station 1 alone (02, Card 2)
abbrev pub listing : FileSample
listing = prints
    ("  2  0          0\n"
    ∷ "  1  1         70\n"
    ∷ "  1  3          0\n"
    ∷ "  1  4          0\n"
    ∷ "  1  5          0\n"
    ∷ "  2  2          0\n"
    ∷ "  2  3          0\n"
    ∷ "  2  5          0\n"
    ∷ "  3  3          0\n"
    ∷ [])
    ("       7  4  0  0          0\n"
    ∷ "       8  0  1  1         70\n"
    ∷ "       9  2  0  0          0\n"
    ∷ [])

-- steps that are refused, by numbers far out of range too, among steps that are accepted; a bad column, which is final; and a line that is not read
abbrev pub refusals : FileSample
refusals = prints
    (" 32  0          0\n"
    ∷ " 32  8          0\n"
    ∷ "257  1          7\n"
    ∷ " 33257          7\n"
    ∷ "  1  1          0\n"
    ∷ "  1  1 4294967296\n"
    ∷ "  1  3          0\n"
    ∷ "  1  4          0\n"
    ∷ "  1  5          0\n"
    ∷ " 32  1 4294967295\n"
    ∷ " 32  1          7\n"
    ∷ "  1  7          0\n"
    ∷ "  1  6          0\n"
    ∷ "  1  2          0\n"
    ∷ " 01  1          7\n"
    ∷ "  1  7          0\n"
    ∷ [])
    ("       2 10  0  0          0\n"
    ∷ "       3  2  0  0          0\n"
    ∷ "       4 10  0  0          0\n"
    ∷ "       5 11  0  0          0\n"
    ∷ "       6 11  0  0          0\n"
    ∷ "       7  4  0  0          0\n"
    ∷ "       8  5  0  0          0\n"
    ∷ "       9  6  0  0          0\n"
    ∷ "      11  3  0  0          0\n"
    ∷ "      12 15  0  0          0\n"
    ∷ "      14 14  0  0          0\n"
    ∷ "      15  9  0  0          0\n"
    ∷ [])

-- an incomplete line ends a file too: one that is short, and one whose last byte is not 10, even where a column is bad; in a column 10 is a bad byte
abbrev pub incomplete : Lists.List FileSample
incomplete =
    prints [] ("       1  8  0  0          0\n" ∷ [])
    ∷ prints ("  2  0          0\n" ∷ "  1  1          7" ∷ []) ("       2  8  0  0          0\n" ∷ [])
    ∷ prints ("  2  0          0\n" ∷ "  1  x          7 " ∷ "  1  3          0\n" ∷ []) ("       2  8  0  0          0\n" ∷ [])
    ∷ prints ("  2  0          0\n" ∷ "  1\n 1          7\n" ∷ []) ("       2  9  0  0          0\n" ∷ [])
    ∷ []

-- headers, whose refusals are all final: 9, then 10, then 1, then 11
abbrev pub headers : Lists.List FileSample
headers =
    prints ("  1  0          0\n" ∷ "  1  1          7\n" ∷ []) ("       1  1  0  0          0\n" ∷ [])
    ∷ prints (" 33  0          7\n" ∷ []) ("       1  1  0  0          0\n" ∷ [])
    ∷ prints (" 33  1          7\n" ∷ []) ("       1 10  0  0          0\n" ∷ [])
    ∷ prints (" 33  1           \n" ∷ []) ("       1  9  0  0          0\n" ∷ [])
    ∷ prints ("  2  0          7\n" ∷ []) ("       1 11  0  0          0\n" ∷ [])
    ∷ prints ("  2  0          0\n" ∷ []) []
    ∷ []

-- THEY ALL HOLD of the tables of a form
abbrev pub FileSamplesHold : Form → Type 0
FileSamplesHold F = All (FilePrints F) (listing ∷ refusals ∷ incomplete ++ headers)
