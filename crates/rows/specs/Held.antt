-- The labels of n stations, held in an array of rows; contracts of the searches cite this.
use Rattle.std.specs.Prelude.{ℕ, ◌+◌, ◌-◌, ◌≤◌, ◌<◌, ◌≡◌, ◌≢◌, Bool, true, false, not, ◌&&◌, cond, List, [], ◌++◌, get_or, take, drop, replicate, eqb}
use Rattle.basics.specs.Tests.{every, first_from, newest, ordered}
use Rattle.label.specs.Labels.{Label, agrees, label_before, new_label, holders}
use Rattle.label.specs.Rows.{digit, row, no_ring}
use Rattle.label.specs.Valid.{Valid}

-- the label in a row, and which of the n stations stands before which
abbrev pub held : List (List ℕ) → ℕ → Label
held rows i = digit (get_or rows i [])

abbrev pub stands_in : ℕ → List (List ℕ) → ℕ → ℕ → Bool
stands_in n rows i j = label_before (n - 1) (held rows i) i (held rows j) j

-- what the searches ask of the rows, so that "stands before" is a total order of the n stations
pub record Orderly (n : ℕ) (rows : List (List ℕ)) : Type 0 where
  pub low : 2 ≤ n
  pub high : n ≤ 32
  pub valid : (i : ℕ) → i < n → Valid (n - 1) (held rows i)
  pub free : no_ring (n - 1) (held rows) ≡ true

-- `order` lists the n stations, oldest first, and 0s past them, as they stood before station k got the label that it has in the rows
pub record OrderedBefore (n : ℕ) (rows : List (List ℕ)) (k : ℕ) (order : List ℕ) : Type 0 where
  pub old : List (List ℕ)
  pub orderly : Orderly n old
  pub others : (i : ℕ) → i < n → i ≢ k → held old i ≡ held rows i
  pub listed : order ≡ ordered n (stands_in n old) ++ replicate (32 - n) 0

-- the first of n places of a list that holds k; n if none does
abbrev pub place_among : ℕ → List ℕ → ℕ → ℕ
place_among n l k = first_from n 0 (λ p. eqb (get_or l p 0) k)

-- a list without the one at place q; and an array from which it is taken out: those behind it move up as far as place m, which keeps what it holds
abbrev pub left_out : {A : Type 0} → ℕ → List A → List A
left_out q l = take q l ++ drop (q + 1) l

abbrev pub taken_out : {A : Type 0} → ℕ → ℕ → List A → List A
taken_out m q l = take m (left_out q l) ++ drop m l

-- of the first k of n stations z is the newest, and c of them have its label
pub record Leads (n : ℕ) (rows : List (List ℕ)) (k z c : ℕ) : Type 0 where
  pub inside : z < k
  pub last : (i : ℕ) → i < k → stands_in n rows z i ≡ false
  pub counted : c ≡ holders k (n - 1) (held rows) z

-- the pending label that a snap for a label leaves at place k, where `own` stands: the newest station keeps its own
unfoldable pub pending_in : ℕ → List (List ℕ) → ℕ → List ℕ → List ℕ
pending_in n rows k own = let z = newest n (stands_in n rows) in cond (eqb k z) own (row 31 (new_label (n - 1) 1 (held rows) z k))

-- some number below n passes
abbrev pub some : ℕ → (ℕ → Bool) → Bool
some n f = not (every n (λ j. not (f j)))

-- one of n labels has the digit d at position p; for each digit of a ring one has it
abbrev pub has_digit : ℕ → (ℕ → Label) → ℕ → ℕ → Bool
has_digit n t p d = some n (λ j. eqb (t j p) d)

abbrev pub has_all : ℕ → (ℕ → Label) → ℕ → Bool
has_all n t p = has_digit n t p 3 && has_digit n t p 4 && has_digit n t p 5

-- one of n labels agrees with the label a before position p and has the digit d there
abbrev pub parts_with : ℕ → (ℕ → Label) → Label → ℕ → ℕ → Bool
parts_with n t a p d = some n (λ j. eqb (t j p) d && agrees p a (t j))

-- the label a has a 3 at position p, with which a 4 and a 5 close a ring
abbrev pub closes_ring : ℕ → (ℕ → Label) → ℕ → Label → Bool
closes_ring n t p a = eqb (a p) 3 && parts_with n t a p 4 && parts_with n t a p 5

-- label i does not
abbrev pub no_ring_at : ℕ → (ℕ → Label) → ℕ → ℕ → Bool
no_ring_at n t p i = not (closes_ring n t p (t i))
