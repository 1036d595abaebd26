-- What the contract of a step call says, and demand 3 of every sequence of calls that keep it, as a caller makes them: whatever the form of the table.
use Rattle.std.specs.Prelude.{ℕ, ◌≡◌, ◌≢◌, [], ◌∷◌, map, take}
use mathlib.Core.List as Lists
use Rattle.basics.specs.Tests.{All}
use Rattle.simulation.specs.Calls.{Call, Report, Bytes, Records, capacity, size}
use Rattle.simulation.specs.Machine as Machine
use Rattle.transition.specs.Forms.{Form, TableAnswer, onto, step_of}
use Rattle.transition.specs.Demand.{seen_in, unbounded, Demand3}

-- the call c on the table t with what is lent for its report: the table left, the refusal number, the count of bytes or records, and what is left of what was
-- lent, all of it from `step_of`. A refused call leaves the table, writes nothing and leaves what was lent (01, "When a step is turned down").
pub record Steps (F : Form) (t : F.Table) (c : Call) (lent : Report) (t' : F.Table) (refusal written : ℕ) (lent' : Report) : Type 0 where
  pub table : t' ≡ (step_of F t c).table
  pub number : refusal ≡ (step_of F t c).refusal
  pub count : written ≡ size (step_of F t c).report
  pub report : lent' ≡ onto (step_of F t c).report lent
  pub kept : refusal ≢ 0 → (t' ≡ t) × (written ≡ 0) × (lent' ≡ lent)

-- a call with what it is lent, bytes or records; and what came back: the table, the refusal number, the count, and what was lent
pub record Made (T : Type 0) : Type 0 where
  pub line : ℕ
  pub code : ℕ
  pub station : ℕ
  pub job : ℕ
  pub lent : Report
  pub table : T
  pub refusal : ℕ
  pub written : ℕ
  pub lent' : Report

abbrev pub call_made : {T : Type 0} → Made T → Call
call_made x = record { line = x.line; code = x.code; station = x.station; job = x.job; room = capacity x.lent }

-- the first k bytes or records
abbrev pub first_of : ℕ → Report → Report
first_of k (Bytes l) = Bytes (take k l)
first_of k (Records l) = Records (take k l)

-- what the caller sees of it: the table, the refusal number, and the bytes or records that are counted
abbrev pub told : {T : Type 0} → Made T → TableAnswer T
told x = record { table = x.table; refusal = x.refusal; report = first_of x.written x.lent' }

module _ (F : Form) where
  -- each call is made on the table that the one before it left, and keeps its contract
  abbrev pub Sequence : F.Table → Lists.List (Made F.Table) → Type 0
  Sequence t [] = Unit {0}
  Sequence t (x ∷ xs) = Steps F t (call_made x) x.lent x.table x.refusal x.written x.lent' × Sequence x.table xs

-- with the advances of demand 3 the unbounded table shows what the caller sees; each count is of the bytes or records that this table writes; and whatever is
-- lent keeps what was not written
pub record SequenceDemand (F : Form) (n : ℕ) (xs : Lists.List (Made F.Table)) : Type 0 where
  pub demand : Demand3 F n (map call_made xs)
  pub same : map (λ x. seen_in F (told x)) xs ≡ map (Machine.seen F.board n) (unbounded F.board n demand.advances (map call_made xs))
  pub counted : map (λ x. x.written) xs ≡ map (λ a. size a.report) (unbounded F.board n demand.advances (map call_made xs))
  pub kept : All (λ x. x.lent' ≡ onto (told x).report x.lent) xs
