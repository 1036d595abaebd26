use Prim.Native.Nat.{◌+◌}
use mathlib.Core.Path.{◌≡◌}
use lib.ListN.{set}
use Rattle.simulation.specs.Numbering.{bump}
use Rattle.numbering.proofs.Kept.{mapped, shared_given, after_given}
use Rattle.numbering.proofs.place_number.Goals as goal
use Rattle.numbering.proofs.place_number.Goals.{After-bump, After-put_number-in-After}

-- what was given earlier makes room
moved : (x : goal.After-bump) → x.bump.new.list ≡ mapped (bump x.in-After.c) x.args.count x.args.given.now
moved x = x.bump.ensures

-- the number comes right after c
next : (y : goal.After-put_number-in-After) → let x = y in
    y.put_number-in-After.new.given ≡ set x.bump.new.list x.args.count (x.in-After.c + 1)
next y = y.put_number-in-After.ensures.given_after

pub returns-in-Shared : goal.returns-in-Shared
returns-in-Shared c =
    shared_given c.requires.k_bound.1 _ _ c.in-Shared.is c.put_number.ensures.numbers_after c.put_number.ensures.given_after

pub returns-in-After : goal.returns-in-After
returns-in-After c =
    after_given c.requires.k_bound.1 _ _ c.in-After.is c.bump_planes.ensures c.put_number-in-After.ensures.numbers_after
    (moved (goal.at.returns-in-After c).After-bump) (next (goal.at.returns-in-After c).After-put_number-in-After)
