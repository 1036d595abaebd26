use Rattle.std.proofs.Common.{◌&&◌, ◌-◌, List, ℕ, [], take, drop, get_or, ◌∙◌, rules, tests, arith}
use Rattle.std.proofs.lemmas.Iterator.{YieldsList-from_slice}
use Rattle.std.proofs.lemmas.Iterator.Search.{all_from_yields_List}
use Rattle.basics.proofs.Facts.{every_same}
use Rattle.basics.proofs.Chains.{all_part}
use Rattle.well_formed.specs.Loops.{none_from}
use Rattle.well_formed.proofs.WellFormedLaws.{fresh_result}
use Rattle.well_formed.proofs.rest_is_fresh.Goals as goal

pub returns : goal.returns
returns c =
    let a = c.args in
    all_from_yields_List (λ (rows : List (List ℕ)). none_from 0 (get_or rows 0 []) && none_from 0 (get_or rows 1 [])) _ _ _ c.all.ensures.ran
    (YieldsList-from_slice (take (32 - a.n) (drop a.n a.results.now)) cc) (λ x b q k. search (rules, tests))
    ∙ all_part _ a.n (32 - a.n) a.results.now [] (omega arith)
    ∙ every_same _ _ _ (λ i l. fresh_result _)
