use native.Mathlib.Omega.{arith}
use Rattle.numbering.proofs.Renumbering.{slot_low}
use Rattle.numbering.proofs.number_snap.Goals as goal

pub place_number-requires-clause-s_bound : goal.place_number-requires-clause-s_bound
place_number-requires-clause-s_bound c =
    let a = c.args in omega (arith, slot_low c.requires.counted.beside a.n a.rows.now a.z a.k c.slot_of-s.ensures)
