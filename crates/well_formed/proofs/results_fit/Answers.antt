use Rattle.std.proofs.Common.{[], take, ◌∙◌, rules, tests, arith}
use Rattle.std.proofs.lemmas.Iterator.{YieldsList-from_slice}
use Rattle.std.proofs.lemmas.Iterator.Search.{all_from_yields_List}
use Rattle.basics.proofs.Chains.{all_front}
use Rattle.arrays.specs.WellFormed.{result_fits}
use Rattle.well_formed.proofs.results_fit.Goals as goal

pub returns : goal.returns
returns c =
    let a = c.args in
    all_from_yields_List (result_fits a.n) _ _ _ c.all.ensures.ran (YieldsList-from_slice (take a.n a.results.now) cc) (λ x b q k. search (rules, tests))
    ∙ all_front _ a.n a.results.now [] (omega arith)
