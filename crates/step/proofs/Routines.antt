-- Demand 3 of the step routines: every sequence of calls from a fresh table, each made on the table that the one before it handed back. By value or lent,
-- by name or by code, with a report buffer or with a panel (crates lent_table and panel), the calls keep the one contract `Steps declared`, so one theorem is
-- about every sequence of them, of whatever kinds.
use Prim.Native.Nat.{ℕ, ◌≤◌}
use mathlib.Core.List as Lists
use Rattle.transition.specs.Forms.{fresh_table}
use Rattle.transition.specs.Sequences.{Made, Sequence, SequenceDemand}
use Rattle.transition.proofs.Written.{original_sized}
use Rattle.transition.proofs.Sequences.{sequence_demand}
use Rattle.table.specs.Tables.{declared}
use Rattle.table.proofs.Apart.{declared_lawful}
use Rattle.table.specs.declared.Table.{Table}

pub routines_demand : (n : ℕ) → 2 ≤ n → n ≤ 32 → (xs : Lists.List (Made Table)) → Sequence declared (fresh_table declared n) xs → SequenceDemand declared n xs
routines_demand n low high = sequence_demand declared declared_lawful n (original_sized n low high)
