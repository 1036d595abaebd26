use Prim.Native.Nat.{◌*◌, ◌+◌, ◌/◌, min}
use native.Mathlib.Omega.{arith}
use mathlib.Core.Path.{◌≡◌, ◌∙◌, sym, ap₂}
use lib.Bits.{bit_xor}
use lib.Count.{count_trailing_zeros}
use Rattle.label.specs.Rows.{digit}
use Rattle.label.proofs.Order.{difference_none}
use Rattle.label.proofs.Words.{Search, search_on, search_found, row_bytes}
use Rattle.label.proofs.first_difference.Goals as goal
use Rattle.label.proofs.first_difference.Goals.{After-word-in-loop-w}

-- what is known of the words that are compared
searching : (j : goal.After-word-in-loop-w) → Search 8 31 j.args.m (8 * j.loop-w.w) j.min-start.result (digit j.args.a) (digit j.args.b)
searching j =
    let start = j in
    record {
      bytes = (row_bytes start.args.a _ start.well_formed.0.1.1, row_bytes start.args.b _ start.well_formed.1.0.1.1);
      same = j.loop-w.invariant;
      more = (omega arith, start.requires);
      inside = omega arith;
      upto = omega arith;
      reach = λ q k h. omega arith;
    }

pub returns-then-x-ne0 : goal.returns-then-x-ne0
returns-then-x-ne0 c =
    let d = c in
    let e : c.min.result ≡ min c.args.m (c.min-start.result + count_trailing_zeros 64 (bit_xor c.word.result c.word-in-loop-w.result) / 8) = omega arith in
    e ∙ search_found (searching (goal.at.returns-then-x-ne0 c).After-word-in-loop-w) (ap₂ bit_xor d.word.ensures d.word-in-loop-w.ensures) c.if-x-ne0.true

pub loop-w-preserved : goal.loop-w-preserved
loop-w-preserved c =
    let d = c in
    λ q l. search_on (searching (goal.at.loop-w-preserved c).After-word-in-loop-w) (ap₂ bit_xor d.word.ensures d.word-in-loop-w.ensures) c.if-x-ne0.false q (omega arith)

pub returns : goal.returns
returns c = sym (difference_none _ _ _ (λ q l. c.loop-w.invariant q (omega arith) l))
