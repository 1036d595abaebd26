use Rattle.std.proofs.Common.{ℕ, List, [], ◌∷◌, get_or, ap₂, rules, tests}
use Rattle.basics.proofs.Chains.{made_each}
use Rattle.table.specs.Tables.{blank}
use Rattle.table.proofs.rows_of.Goals as goal

pub returns : goal.returns
returns c =
    let res = c.args.res in
    ap₂ (λ (x y : List ℕ). x ∷ y ∷ [])
    (made_each (λ p. (get_or res p blank).station) c.from_fn.ensures.items (λ j y q k. search (rules, tests)))
    (made_each (λ p. (get_or res p blank).job) c.from_fn-2.ensures.items (λ j y q k. search (rules, tests)))
