-- Refusal 13 as it is asked of a state (01, "When a step is turned down"; 02, Cards 2 and 4), whatever the form of its tables. What a form keeps beside its
-- state, as the places past n, is the form's own. It is all that 13 asks where a station has one process.
use Rattle.std.specs.Prelude.{ℕ, suc, ◌+◌, ◌-◌, ◌*◌, Bool, true, false, not, ◌&&◌, ◌||◌, length, get_or, eqb, leb}
use mathlib.Core.List as Lists
use Rattle.basics.specs.Tests.{within, every, passing}
use Rattle.label.specs.Labels as Labels
use Rattle.label.specs.Rows.{no_ring}
use Rattle.simulation.specs.Calls.{Board, station_of, sized, idle, has_phase, Entry, entry, Process}
use Rattle.simulation.specs.Machine.{has_job, State}
use Rattle.transition.specs.Forms.{Form}

module _ (B : Board) (n : ℕ) where
  -- a label: n - 1 digits from the board's fill digit to 5, and then that digit
  unfoldable pub label_fits : Labels.Label → Bool
  label_fits a = every (n - 1) (λ p. within B.fill 5 (a p)) && every (32 * B.per_station - n) (λ p. eqb (a (n - 1 + p)) B.fill)

  -- a process: in a phase of the board, and idle if it is out of service
  abbrev pub process_fits : Process → Bool
  process_fits p = has_phase B p.phase && (not p.out || idle p.phase)

  -- a result: at most n entries, each of one of the n processes with a job, and none of them twice
  unfoldable pub list_fits : Lists.List Entry → Bool
  list_fits l = leb (length l) n
      && every (length l) (λ p. let e = get_or l p (entry 0 0) in within 1 n e.station && has_job e.job)
      && every n (λ i. leb (length (passing (λ e. eqb e.station (suc i)) l)) 1)

  -- the state of n processes: both labels of each, and no ring among the current ones
  unfoldable pub state_fits : State Labels.Label → Bool
  state_fits s = sized B n
      && every n (λ i. label_fits (s.labels false i) && label_fits (s.labels true i) && process_fits (s.rest.process i))
      && every (station_of B n) (λ g. list_fits (s.rest.result g))
      && no_ring (n - 1) (s.labels false)

-- TABLES THAT ARE STATES, with their number of processes: the form of a board in which nothing is written down
pub record Stated : Type 0 where
  pub count : ℕ
  pub state : State Labels.Label

abbrev pub stated : ℕ → State Labels.Label → Stated
stated n s = record { count = n; state = s }

abbrev pub states : Board → Form
states B = record {
  board = B;
  Table = Stated;
  count = λ t. t.count;
  state = λ t. t.state;
  written = stated;
  well_formed = λ t. state_fits B t.count t.state;
}
