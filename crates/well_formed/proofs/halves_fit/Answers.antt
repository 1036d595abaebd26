use Rattle.std.proofs.Common.{◌+◌, [], ◌∙◌, rules, tests}
use Rattle.std.proofs.lemmas.Iterator.{YieldsList-from_range}
use Rattle.std.proofs.lemmas.Iterator.Search.{all_from_yields_List}
use Rattle.basics.proofs.Chains.{all_range}
use Rattle.arrays.specs.Arrays.{cell}
use Rattle.well_formed.specs.Loops.{half_fits}
use Rattle.well_formed.proofs.halves_fit.Goals as goal

pub returns : goal.returns
returns c =
    let a = c.args in
    all_from_yields_List (λ i. half_fits a.m (cell a.labels.now 0 i []) (cell a.labels.now 1 i []) a.h) _ _ _ c.all.ensures.ran
    (YieldsList-from_range a.from (a.from + a.k) a.k (search rules) (search rules)) (λ x b q k. search (rules, tests))
    ∙ all_range _ a.from a.k
