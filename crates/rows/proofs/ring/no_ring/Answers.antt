use Rattle.std.proofs.Common.{◌-◌, ◌∙◌, refl, length, take, arith, rules, tests}
use Rattle.std.proofs.lemmas.Iterator.{YieldsList-from_range}
use Rattle.std.proofs.lemmas.Iterator.Search.{all_from_yields_List}
use Rattle.basics.specs.Tests.{every}
use Rattle.rows.specs.Held.{held, no_ring_at}
use Rattle.rows.proofs.Rings.{all_positions}
use Rattle.rows.proofs.ring.no_ring.Goals as goal

pub returns : goal.returns
returns c =
    let rows = c.args.rows.now in
    let n = c.args.n in
    all_from_yields_List (λ p. every (length (take n rows)) (no_ring_at (length (take n rows)) (held (take n rows)) p)) _ _ c.all.result c.all.ensures.ran (YieldsList-from_range 0 (n - 1) (n - 1) refl (omega arith)) (λ x b q k. search (rules, tests))
    ∙ all_positions rows n (omega arith) (omega arith)
