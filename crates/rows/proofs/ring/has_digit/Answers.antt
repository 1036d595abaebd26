use Rattle.std.proofs.Common.{◌∙◌, get_or, eqb, rules, tests}
use Rattle.std.proofs.lemmas.Iterator.{YieldsList-from_slice}
use Rattle.std.proofs.lemmas.Iterator.Search.{any_from_yields_List}
use Rattle.rows.proofs.Rings.{has_any}
use Rattle.rows.proofs.ring.has_digit.Goals as goal

pub returns : goal.returns
returns c =
    let a = c.args in
    any_from_yields_List (λ row. eqb (get_or row a.p 0) a.d) _ _ c.any.result c.any.ensures.ran (YieldsList-from_slice a.rows.now cc) (λ x b q k. search (rules, tests))
    ∙ has_any a.rows.now a.p a.d c.requires.0
