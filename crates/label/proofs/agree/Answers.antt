use Rattle.std.proofs.Common.{◌≡◌, ◌∙◌, ◌*◌, ◌/◌, ◌-◌, refl, sym, ap, arith, rules, tests}
use native.Mathlib.Nat.{zero-add}
use Rattle.std.proofs.lemmas.Iterator.{YieldsList-from_range}
use Rattle.std.proofs.lemmas.Iterator.Search.{all_from_yields_List}
use Rattle.basics.specs.Tests.{every}
use Rattle.basics.proofs.Facts.{every_same, left_no}
use Rattle.basics.proofs.Loops.{and_yes}
use Rattle.basics.proofs.Chains.{all_range}
use Rattle.label.proofs.Words.{same_word, same_digit, words_agree, row_bytes}
use Rattle.label.proofs.agree.Goals as goal
use Rattle.label.proofs.agree.Goals.{After-all}

whole : (c : goal.After-all) → c.all.result ≡ every (c.args.h / 8) (same_word c.args.a c.args.b)
whole c =
    all_from_yields_List (same_word c.args.a c.args.b) _ _ c.all.result c.all.ensures.ran (YieldsList-from_range 0 (c.args.h / 8) (c.args.h / 8) refl (omega arith)) (λ x b q k. search (rules, tests))
    ∙ all_range (same_word c.args.a c.args.b) 0 (c.args.h / 8) ∙ every_same (c.args.h / 8) _ _ (λ i _. ap (same_word c.args.a c.args.b) (zero-add i))

pub returns-then-all : goal.returns-then-all
returns-then-all c =
    let start = c in
    let a = c.args.a in
    let b = c.args.b in
    let h = c.args.h in
    and_yes (sym (whole (goal.at.returns-then-all c).After-all) ∙ c.if-all.true)
    (all_from_yields_List (same_digit a b) _ _ c.all-then-all.result c.all-then-all.ensures.ran (YieldsList-from_range (h / 8 * 8) h (h - h / 8 * 8) refl refl) (λ x r q k. search (rules, tests))
    ∙ all_range (same_digit a b) (h / 8 * 8) (h - h / 8 * 8))
    ∙ words_agree a b (row_bytes a _ start.well_formed.0.1.1) (row_bytes b _ start.well_formed.1.0.1.1) h (omega arith) (omega arith)

pub returns-else-all : goal.returns-else-all
returns-else-all c =
    let start = c in
    let a = c.args.a in
    let b = c.args.b in
    let h = c.args.h in
    c.if-all.false ∙ sym (left_no _ (sym (whole (goal.at.returns-else-all c).After-all) ∙ c.if-all.false))
    ∙ words_agree a b (row_bytes a _ start.well_formed.0.1.1) (row_bytes b _ start.well_formed.1.0.1.1) h (omega arith) (omega arith)
