use Rattle.std.proofs.Common.{◌∙◌, ap, sym, not, length, rules, tests}
use Rattle.std.proofs.lemmas.Iterator.{YieldsList-from_slice}
use Rattle.std.proofs.lemmas.Iterator.Search.{any_from_yields_List}
use Rattle.basics.proofs.Facts.{every_all}
use Rattle.label.specs.Rows.{digit}
use Rattle.rows.specs.Held.{held, closes_ring}
use Rattle.rows.proofs.Rings.{digits_there, none_closes}
use Rattle.rows.proofs.ring.no_ring_at.Goals as goal

pub returns-then-not-has_all : goal.returns-then-not-has_all
returns-then-not-has_all c =
    let rows = c.args.rows.now in
    sym (every_all _ _ (λ i l. digits_there (length rows) (held rows) c.args.p i l (sym c.has_all.ensures ∙ c.if-not-has_all.true)))

pub returns : goal.returns
returns c =
    let rows = c.args.rows.now in
    ap not (any_from_yields_List (λ row. closes_ring (length rows) (held rows) c.args.p (digit row)) _ _ c.any.result c.any.ensures.ran (YieldsList-from_slice rows cc) (λ x b q k. search (rules, tests)))
    ∙ none_closes rows c.args.p
