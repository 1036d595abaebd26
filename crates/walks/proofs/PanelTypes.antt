-- The structs of a board's calls with a panel of records, and of them the table with the reply as the walks of lent calls ask for it (`both`).
--     reply       the refusal, and the count of records written, which stands `away` bytes behind
--     unfilled    what a call hands out before the panel is filled: its outcome, and the entries
--     recorded    a record of a panel
--     shown       what an owner has in the end: the table, the reply, and its records
use mathlib.Core.Path.{◌≡◌}
use Prim.Native.Nat.{ℕ}
use mathlib.Core.List.{[], ◌∷◌}
use mathlib.Core.Option.{some}
use mir.Syntax.{w64, ty_int}
use prog.Memory.{field_of}
use Rattle.walks.proofs.Plain.{Both}
use Rattle.walks.proofs.Structs.{Data, Part, Holds, held, part, array_of, usize, ty, plainly, both_of}

pub record Board : Type 2 where
  pub table : Data
  pub refusal : Part
  pub reply : Holds (refusal ∷ usize ∷ [])
  pub away : ℕ
  pub written_at : field_of (ty (held reply)) 1 ≡ some (ty_int w64, away)
  pub outcome : Holds (part table ∷ part (held reply) ∷ [])
  pub width : ℕ
  pub entry : Data
  pub unfilled : Holds (part (held outcome) ∷ array_of entry width ∷ [])
  pub recorded : Data
  pub shown : Holds (part table ∷ part (held reply) ∷ array_of recorded width ∷ [])

abbrev pub both : (Z : Board) → Both (plainly Z.table) (plainly (held Z.reply))
both Z = both_of Z.table (held Z.reply) Z.outcome
