use Rattle.std.proofs.Common.{◌≡◌, ◌≢◌, ◌+◌, ◌-◌, ◌∙◌, ap, drop, Some, arith, rules, tests}
use lib.Seq.{paste}
use Rattle.std.specs.Option.{is_some}
use Rattle.std.proofs.lemmas.Iterator.{YieldsList-from_slice, IsFirst-from_position}
use Rattle.rows.specs.Held.{taken_out, place_among}
use Rattle.rows.proofs.OrderLaws.{found_place, removed_moves}
use Rattle.rows.proofs.order.take_out.Goals as goal
use Rattle.rows.proofs.order.take_out.Goals.{After-position}

found : (c : goal.After-position) → c.position.result ≡ Some (place_among c.args.n c.args.order.now c.args.k)
found c = found_place c.args.n c.args.k c.args.order.now c.requires.1 c.position.result
    (IsFirst-from_position _ _ c.position.result (λ i. i ≡ c.args.k) (λ i. i ≢ c.args.k) c.position.ensures.ran (YieldsList-from_slice _ (cc)) (λ x q k. search (rules, tests)) (λ x q k. search (rules, tests)))
    c.requires.0

pub unwrap-q-requires : goal.unwrap-q-requires
unwrap-q-requires c = ap is_some (found c)

pub returns : goal.returns
returns c =
    let f = found (goal.at.returns c).After-position in
    let q : c.unwrap-q.result ≡ place_among c.args.n c.args.order.now c.args.k = cc in
    let e : c.args.n - (c.unwrap-q.result + 1) ≡ c.args.n - 1 - c.unwrap-q.result = omega arith in
    let l = c.args.order.now in
    c.copy_within.ensures.after ∙ ap (paste l c.unwrap-q.result (drop (c.unwrap-q.result + 1) l)) e ∙ removed_moves l (c.args.n - 1) c.unwrap-q.result (omega arith) (omega arith)
    ∙ ap (λ p. taken_out (c.args.n - 1) p l) q
