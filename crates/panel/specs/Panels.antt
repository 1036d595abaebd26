-- A panel: records that are lent to a step call in place of a report buffer (02, Card 1).
use Rattle.std.specs.Prelude.{ℕ, ◌+◌, List, ◌++◌, map, length, get_or, drop, Result}
use Rattle.basics.specs.Tests.{tabulate}
use Rattle.simulation.specs.Calls.{Panel, PanelRecord, Report, Records}
use Rattle.transition.specs.Sequences.{Steps}
use Rattle.moves.specs.Moves.{told_number, told_count, called}
use Rattle.moves.specs.declared.Refusal.{Refusal}
use Rattle.table.specs.Tables.{blank, declared}
use Rattle.table.specs.declared.Entry.{Entry}
use Rattle.table.specs.declared.Table.{Table}
use Rattle.panel.specs.declared.Record.{Record}

-- the record of entry i of a result; places count from 1
abbrev pub record_at : List Entry → ℕ → Record
record_at es i = record { place = i + 1; station = (get_or es i blank).station; job = (get_or es i blank).job }

-- a panel with the first n records filled from a result
abbrev pub filled : List Entry → ℕ → List Record → List Record
filled es n ys = tabulate n 0 (record_at es) ++ drop n ys

-- declared records as the machine's
abbrev pub declared_record : Record → PanelRecord
declared_record r = record { place = r.place; station = r.station; job = r.job }

abbrev pub panel_of : List Record → Report
panel_of ys = Records (map declared_record ys)

-- a direct step call with the panel ys: the table, the reply and the panel that it leaves
abbrev pub Shows : Table → ℕ → ℕ → ℕ → List Record → Table → Result ℕ Refusal → List Record → Type 0
Shows t code station job ys t' reply zs =
    Steps declared t (called 0 code station job (Panel (length ys))) (panel_of ys) t' (told_number reply) (told_count reply) (panel_of zs)
