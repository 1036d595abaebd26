use Rattle.std.proofs.Common.{◌∙◌, ◌&&◌, get_or, eqb, rules, tests}
use Rattle.std.proofs.lemmas.Iterator.{YieldsList-from_slice}
use Rattle.std.proofs.lemmas.Iterator.Search.{any_from_yields_List}
use Rattle.label.specs.Labels.{agrees}
use Rattle.label.specs.Rows.{digit}
use Rattle.rows.proofs.Rings.{parts_any}
use Rattle.rows.proofs.ring.parts_with.Goals as goal

pub returns : goal.returns
returns c =
    let a = c.args in
    any_from_yields_List (λ row. eqb (get_or row a.p 0) a.d && agrees a.p (digit a.a) (digit row)) _ _ c.any.result c.any.ensures.ran (YieldsList-from_slice a.rows.now cc) (λ x b q k. search (rules, tests))
    ∙ parts_any a.rows.now a.p a.d c.requires.0 (digit a.a)
