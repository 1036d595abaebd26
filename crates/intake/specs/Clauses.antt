-- A schedule that is only read, part by part, and what is known of one that was read (02, Cards 6 and 7).
use Rattle.std.specs.Prelude.{ℕ, ◌+◌, ◌-◌, ◌*◌, ◌≤◌, ◌<◌, ◌≡◌, ◌⊎◌, [], ◌++◌, length, take, Option, Some, None, Result, Ok, Err}
use mathlib.Core.List as Lists
use Rattle.moves.specs.declared.Refusal.{Refusal}
use Rattle.schedule.specs.Files.{pieces, lines_of}
use Rattle.schedule.specs.Demand.{step_calls, ending}
use Rattle.schedule.specs.Numbers.{surveyed, reading_refusal}
use Rattle.intake.specs.declared.Unread.{Unread}
use Rattle.intake.specs.declared.Unread.TheVariants.{Failed, Refused}
use Rattle.simulation.specs.Calls.{original}

-- how far a file is read, of which no line is run: its header is still to come; so many lines are read, the header among them, and none is refused; or it is
-- refused, whatever follows
abbrev pub Reading : Type 0
Reading = Result (Option ℕ) Refusal

-- WHAT READING TELLS of a file that is read so far, if these bytes are all that is still to come of it; from the start on, that is what Card 7 tells of a file.
-- Behind `lines` lines, the header among them, it is their final refusal, or 16.
abbrev pub ahead_read : Reading → Lists.List ℕ → Option Refusal
ahead_read (Ok None) bs = reading_refusal bs
ahead_read (Ok (Some lines)) bs = surveyed (ending lines (lines_of bs)) (lines - 1 + length (step_calls original lines (lines_of bs))) None
ahead_read (Err r) bs = Some r

-- no more lines are counted than a file can have
abbrev pub Within : Reading → Type 0
Within (Ok None) = Unit {0}
Within (Ok (Some lines)) = (1 ≤ lines) × (lines ≤ 1000001)
Within (Err r) = Unit {0}

-- how many may still be
abbrev pub lines_left : Reading → ℕ
lines_left (Ok None) = 1000002
lines_left (Ok (Some lines)) = 1000002 - lines
lines_left (Err r) = 0

-- a part of whole lines, or all that is left
abbrev pub Cut : Lists.List ℕ → Lists.List ℕ → Type 0
Cut part more = ((k : ℕ) × (length part ≡ 18 * k)) ⊎ (more ≡ [])

-- a part is read: whatever comes after it, what is told of the file is the same as before
pub record ReadsPart (reading : Reading) (part : Lists.List ℕ) (reading' : Reading) : Type 0 where
  pub same : (more : Lists.List ℕ) → Cut part more → ahead_read reading (part ++ more) ≡ ahead_read reading' more
  pub within : Within reading'
  pub fewer : lines_left reading' ≤ lines_left reading - pieces part

-- A SCHEDULE FROM A READER, told by the bytes that stand in the buffer then, and by those that the reader gave.

-- r is what is told of a file of a header and 4,097 lines or more, the last bytes of which stand at the front of the buffer; unless these end the file, nothing
-- that follows them changes it
pub record TooLong (part : Lists.List ℕ) (r : Refusal) : Type 0 where
  pub before : Lists.List ℕ
  pub count : ℕ
  pub inside : count ≤ length part
  pub long : 73764 ≤ length before + count
  pub refusal : Some r ≡ reading_refusal (before ++ take count part)
  pub ends : (count < length part) ⊎ ((more : Lists.List ℕ) → reading_refusal ((before ++ take count part) ++ more) ≡ Some r)

-- nothing is known where a read failed; all of a file that leaves room in the buffer is at its front
abbrev pub Taken : Lists.List ℕ → Result ℕ Unread → Type 0
Taken part (Ok count) = count < length part
Taken part (Err Failed) = Unit {0}
Taken part (Err (Refused r)) = TooLong part r

-- what is told of a file of these bytes; all of one that leaves room in the buffer stands at its front
abbrev pub Tells : Lists.List ℕ → Lists.List ℕ → Result ℕ Unread → Type 0
Tells bs part (Ok count) = bs ≡ take count part
Tells bs part (Err Failed) = Unit {0}
Tells bs part (Err (Refused r)) = Some r ≡ reading_refusal bs
