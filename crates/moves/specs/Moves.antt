-- What a step call amounts to: the declared phases, room, refusals and moves as the machine has them, a call from its parts and the place of its station.
use Rattle.std.specs.Prelude.{◌≡◌, ℕ, ◌-◌, ◌<◌, ◌⊎◌, Bool, true, false, cond, Option, Some, None, Result, Ok, Err, MatchResult}
use Rattle.basics.specs.Tests.{within}
use Rattle.simulation.specs.Calls as Calls
use Rattle.simulation.specs.Calls.{Call}
use Rattle.moves.specs.declared.Operation.{Operation}
use Rattle.moves.specs.declared.Operation.TheVariants.{Label, Scan}
use Rattle.moves.specs.declared.Phase.{Phase}
use Rattle.moves.specs.declared.Phase.TheVariants.{Idle, Snap, Update, End}
use Rattle.moves.specs.declared.standing.Standing.{Standing}
use Rattle.moves.specs.declared.Room.{Room}
use Rattle.moves.specs.declared.Room.TheVariants.{Buffer, Panel}
use Rattle.moves.specs.declared.Refusal.{Refusal}
use Rattle.moves.specs.declared.Refusal.TheVariants.{StationCount, UnknownStation, Busy, NoSnapDue, NoUpdateDue, NothingToEnd}
use Rattle.moves.specs.declared.Refusal.TheVariants.{NoRoom, IncompleteLine, MalformedColumn, UnknownStep, JobOutOfRange, TooManyLines}
use Rattle.moves.specs.declared.Refusal.TheVariants.{IllFormedTable, OutOfService, InService, TooManySteps, ListTooShort}
use Rattle.moves.specs.declared.Request.{Request}
use Rattle.moves.specs.declared.Step.{Step}
use Rattle.moves.specs.declared.Step.TheVariants as Steps
use Rattle.moves.specs.declared.Move.{Move}
use Rattle.moves.specs.declared.Move.TheVariants as Moves
use Rattle.moves.specs.declared.Move.TheVariants.{BeginLabel, SnapLabel, SnapScan, EndLabel, EndScan, LeaveService, ReturnToService}

-- the declared operations and phases as the machine's
abbrev pub operation_of : Operation → Calls.Operation
operation_of Label = Calls.Label
operation_of Scan = Calls.Scan

abbrev pub phase_of : Phase → Calls.Phase
phase_of Idle = Calls.Idle
phase_of Snap = Calls.Snap Calls.Label
phase_of Update = Calls.Update
phase_of (End o) = Calls.End (operation_of o)

-- what a call is judged by, where a station has one process; and as it is declared
abbrev pub standing_for : Calls.Phase → Bool → ℕ → Calls.Standing
standing_for ph out shown = record { phase = ph; out = out; shown = shown; alone = true }

abbrev pub standing_of : Standing → Calls.Standing
standing_of own = standing_for (phase_of own.phase) own.out own.shown

-- and what is lent
abbrev pub room_of : Room → Calls.Room
room_of (Buffer b) = Calls.Buffer b
room_of (Panel r) = Calls.Panel r

-- 01, "When a step is turned down", and 02, Cards 4 and 6: the number of each refusal
abbrev pub refusal_number : Refusal → ℕ
refusal_number StationCount = 1
refusal_number UnknownStation = 2
refusal_number Busy = 3
refusal_number NoSnapDue = 4
refusal_number NoUpdateDue = 5
refusal_number NothingToEnd = 6
refusal_number NoRoom = 7
refusal_number IncompleteLine = 8
refusal_number MalformedColumn = 9
refusal_number UnknownStep = 10
refusal_number JobOutOfRange = 11
refusal_number TooManyLines = 12
refusal_number IllFormedTable = 13
refusal_number OutOfService = 14
refusal_number InService = 15
refusal_number TooManySteps = 16
refusal_number ListTooShort = 17

-- what ends a reading, if anything does: 0 if nothing
abbrev pub final_number : Option Refusal → ℕ
final_number None = 0
final_number (Some r) = refusal_number r

-- what an answer tells: the refusal, 0 where there is none; and how many records or bytes it counts, none where it is refused
abbrev pub told_number : {A : Type 0} → Result A Refusal → ℕ
told_number (Ok x) = 0
told_number (Err r) = refusal_number r

abbrev pub told_count : Result ℕ Refusal → ℕ
told_count (Ok n) = n
told_count (Err r) = 0

-- 01, "The steps", and 02, Card 4: the code of each step; and what a code is read as
abbrev pub step_code : Step → ℕ
step_code Steps.BeginLabel = 1
step_code Steps.Scan = 2
step_code Steps.Snap = 3
step_code Steps.Update = 4
step_code Steps.End = 5
step_code Steps.LeaveService = 6
step_code Steps.ReturnToService = 7

abbrev pub Decodes : ℕ → Result Step Refusal → Type 0
Decodes code r = MatchResult r (λ step. step_code step ≡ code) (λ e. (e ≡ UnknownStep) × ((code < 1) ⊎ (7 < code)))

-- a declared move as the action of process k, where a begin has this job
abbrev pub move_of : ℕ → ℕ → Move → Calls.Move
move_of k job BeginLabel = Calls.Move.begins k job Calls.Label
move_of k job SnapLabel = Calls.Move.snaps k Calls.Label
move_of k job SnapScan = Calls.Move.snaps k Calls.Scan
move_of k job Moves.Update = Calls.Move.updates k
move_of k job EndLabel = Calls.Move.ends k Calls.Label
move_of k job EndScan = Calls.Move.ends k Calls.Scan
move_of k job LeaveService = Calls.Move.sets_out k true
move_of k job ReturnToService = Calls.Move.sets_out k false

-- and what a call is judged to be
abbrev pub judged_of : ℕ → ℕ → Result Move Refusal → Calls.Move
judged_of k job (Err r) = Calls.Move.refused (refusal_number r)
judged_of k job (Ok m) = move_of k job m

-- a call from its parts
abbrev pub called : ℕ → ℕ → ℕ → ℕ → Calls.Room → Call
called line code station job room = record { line = line; code = code; station = station; job = job; room = room }

-- a request as a call with what is lent for its report
abbrev pub call_of : Request → Calls.Room → Call
call_of q room = called q.line q.code q.station q.job room

-- the request of a direct call: its report lines bear the number 0 (01, "The schedule file and the report")
abbrev pub directly : ℕ → ℕ → ℕ → Request
directly code station job = record { code = code; station = station; job = job; line = 0 }

-- the place of a station of n, from 0; 0 if there is no such station
abbrev pub place_of : ℕ → ℕ → ℕ
place_of n station = cond (within 1 n station) (station - 1) 0
