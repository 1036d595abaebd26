-- Numbers on lines of their own: the form in which the programs print them and read them back (02, Cards 6 and 7, leave it open).
use Rattle.std.specs.Prelude.{ℕ, zero, suc, ◌*◌, ◌≤◌, ◌<◌, ◌^◌, ◌≡◌, Bool, cond, List, [], ◌∷◌, ◌++◌, length, get_or, take, drop, eqb, Option, Some, None}
use Rattle.columns.specs.Columns.{column}
use Rattle.columns.specs.Reading.{column_read}

-- a number as it is printed, at the right edge of 11 columns on a line of its own; and several
unfoldable pub number_line : ℕ → List ℕ
number_line v = column 11 v ++ (10 ∷ [])

unfoldable pub number_lines : List ℕ → List ℕ
number_lines [] = []
number_lines (v ∷ ns) = number_line v ++ number_lines ns

-- bytes that are printed for a number, or for several, each of which fits its 11 columns; of a larger one only the last digits are printed
pub record NumberLine (bs : List ℕ) (v : ℕ) : Type 0 where
  pub line : bs ≡ number_line v
  pub fits : v < 10 ^ 11

pub record NumberLines (bs ns : List ℕ) : Type 0 where
  pub lines : bs ≡ number_lines ns
  pub fit : (i : ℕ) → get_or ns i 0 < 10 ^ 11

-- READING THEM BACK: the number on the line at the front of some bytes; `None` where they do not begin with the line of a number
-- (proofs/Reading.antt: `line_iff`)
unfoldable pub number_read : List ℕ → Option ℕ
number_read bs = cond (eqb (get_or bs 11 0) 10) (column_read (take 11 bs)) None

-- the numbers of the lines at the front of some bytes, up to the first that is the line of no number, and no more than k
unfoldable pub lines_read : ℕ → List ℕ → List ℕ
lines_read zero bs = []
lines_read (suc k) bs = elim (number_read bs) [ Some v ↦ v ∷ lines_read k (drop 12 bs) | None ↦ [] ]

-- what is handed back for bytes and a lent list: as many numbers are read as it has room for, and stand at its front. The bytes are whole if the lines of these
-- numbers are all of them (proofs/Reading.antt: `read_whole`, `read_back`).
pub record NumbersRead (bs list : List ℕ) (all : Bool) (count : ℕ) (list' : List ℕ) : Type 0 where
  pub counted : count ≡ length (lines_read (length list) bs)
  pub room : count ≤ length list
  pub left : list' ≡ lines_read (length list) bs ++ drop (length (lines_read (length list) bs)) list
  pub whole : all ≡ eqb (count * 12) (length bs)
