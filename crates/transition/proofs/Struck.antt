-- What a scan stores (02, Cards 2 and 4): on every table reached from a fresh one, document 01's result with the stations struck out that have no job or are
-- out of service.
use Prim.Native.Nat.{ℕ}
use mathlib.Core.Path.{◌≡◌, sym, ap, ◌∙◌}
use mathlib.Core.Bool.{false}
use mathlib.Core.List as Lists
use Rattle.basics.specs.Tests.{ordered}
use Rattle.label.specs.Labels as Labels
use Rattle.simulation.specs.Calls.{Call, place, Entry, Board, station_of}
use Rattle.simulation.specs.Machine.{digits, stands, everyone, struck, State, step}
use Rattle.simulation.proofs.Struck.{scan_stores}
use Rattle.transition.specs.Forms.{Form, TableAnswer, fresh_table, answered, step_of, after}
use Rattle.transition.proofs.Written.{Sized}
use Rattle.transition.proofs.Theorem.{Lawful, reached_held, reached_written, reached_next, ReachedTable, table_fresh, table_after}

-- document 01's result of a scan in a state of n processes: all of them, in their order
abbrev pub whole_scan : Board → ℕ → State Labels.Label → Lists.List Entry
whole_scan B n s = everyone s.rest.process (ordered n (stands (digits B n) s.labels))

-- FROM A FRESH TABLE, by any sequence of step calls: what an accepted step 2 stores
pub scan_law : (F : Form) → Lawful F → F.board.scan_apart ≡ false → (n : ℕ) → Sized F.board n → (calls : Lists.List Call) (c : Call)
    → let t = after F (fresh_table F n) calls in c.code ≡ 2 → (step_of F t c).refusal ≡ 0
    → (F.state (step_of F t c).table).rest.result (station_of F.board (place c)) ≡ struck (F.state t).rest.process (whole_scan F.board n (F.state t))
scan_law F L joined n z calls c two ok =
    ap (λ (s : State Labels.Label). s.rest.result (station_of F.board (place c))) (ap (λ (a : TableAnswer F.Table). F.state a.table) answer
    ∙ reached_held F L n z (reached_next F L n z r.reached c))
    ∙ scan_stores F.board n (digits F.board n) r.state c joined two (sym (ap (λ (a : TableAnswer F.Table). a.refusal) answer) ∙ ok)
    ∙ ap (λ (s : State Labels.Label). struck s.rest.process (whole_scan F.board n s)) (sym held)
  where
    t : F.Table
    t = after F (fresh_table F n) calls

    r : ReachedTable F n t
    r = table_after F L n z calls (fresh_table F n) (table_fresh F L n z)

    held : F.state t ≡ r.state
    held = ap F.state r.holds ∙ reached_held F L n z r.reached

    answer : step_of F t c ≡ answered F n (step F.board n (digits F.board n) r.state c)
    answer = ap (λ u. step_of F u c) r.holds ∙ reached_written F L n z r.reached c
