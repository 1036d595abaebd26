-- Laws of the order by numbers, and of what a move does to them.
use Prim.Native.Nat.{ℕ, ◌+◌, ◌-◌, ◌≤◌, ◌<◌}
use native.Mathlib.Omega.{arith}
use mathlib.Core.Path.{◌≡◌, refl, sym, ap, ap₂, ◌∙◌, fun_ext}
use mathlib.Core.Logic.{◌≢◌, ◌⊎◌, inl, inr}
use mathlib.Core.Bool.{Bool, true, false, cond, ◌&&◌, ◌||◌}
use mathlib.Core.List.{List, [], ◌++◌, append_assoc}
use lib.ListN.{length, get_or, set, take, drop, replicate, drop_of_length-le}
use lib.Seq.{get_or-take, take_all, length-take-le}
use native.Mathlib.Numerals.{add-one}
use Rattle.std.proofs.lemmas.List.{set_split}
use lib.Dec.{eqb, ltb}
use borrow.Author.Tests.{ltb-true, lt-ltb, le-ltb, ne_eqb}
use Rattle.std.specs.Prelude.{Some}
use Rattle.std.specs.Ordering.{is_some_and, is_lt, partial_ordering_then}
use Rattle.std.specs.declared.cmp.Ordering.TheVariants.{Less, Equal, Greater}
use Rattle.basics.specs.Tests.{newest, inserted, ordered}
use Rattle.basics.proofs.Facts.{tf, by_here, ordered_length}
use Rattle.label.proofs.Digits.{Tri, lt, eq, gt, compare}
use Rattle.label.proofs.Total.{Total}
use Rattle.rows.proofs.OrderLaws.{put_in, inserted_at, listed_below, order_in, order_front, order_turns, Displaced, last_newest}
use Rattle.simulation.specs.Machine.{Labelling, number_before, stands, put, pending_after, LabelStep, stay, snap, update, label_step, relabelled}
use Rattle.simulation.specs.Numbered.{numbered}
use Rattle.simulation.proofs.Sync.{number_less, number_more, number_same}
use Rattle.moves.specs.Moves.{move_of}
use Rattle.moves.specs.declared.Move.{Move}
use Rattle.moves.specs.declared.Move.TheVariants.{Update}
use Rattle.moves.proofs.MoveLaws.{by_move}
use Rattle.arrays.specs.Arrays.{Rows}
use Rattle.arrays.specs.Planes.{beside}
use Rattle.arrays.proofs.Planes.{alike, get_d_none}
use Rattle.unbounded.specs.Numbers.{stands_by, order_by, NumberedBefore, stepped_by}

-- STANDS BEFORE

number_equal : (u i v j : ℕ) → u ≡ v → ltb i j ≡ number_before u i v j
number_equal u i v j e = rw e (sym (number_same v i j))

-- the order of pairs
abbrev pair_lt : Bool → Bool → Bool → Bool → Bool
pair_lt a b c d =
    is_some_and is_lt (partial_ordering_then (Some (cond a Less (cond b Equal Greater))) (Some (cond c Less (cond d Equal Greater))))

pub pair_before : (u i v j : ℕ) → pair_lt (ltb u v) (eqb u v) (ltb i j) (eqb i j) ≡ number_before u i v j
unfolding number_before
pair_before u i v j = go (ltb u v) (eqb u v) (ltb i j) (eqb i j)
  where
    go : (a b c d : Bool) → pair_lt a b c d ≡ (a || (b && c))
    go true b c d = refl
    go false true true d = refl
    go false true false true = refl
    go false true false false = refl
    go false false c d = refl

-- what a passed test says
number_true : (u i v j : ℕ) → number_before u i v j ≡ true → (u < v) ⊎ ((u ≡ v) × (i < j))
number_true u i v j e = go (compare u v)
  where
    go : Tri (u < v) (u ≡ v) (v < u) → (u < v) ⊎ ((u ≡ v) × (i < j))
    go (lt h) = inl h
    go (eq h) = inr (h, ltb-true i j (number_equal u i v j h ∙ e))
    go (gt h) = absurd (tf e (number_more u i v j h))

number_of : (u i v j : ℕ) → (u < v) ⊎ ((u ≡ v) × (i < j)) → number_before u i v j ≡ true
number_of u i v j (inl h) = number_less u i v j h
number_of u i v j (inr h) = sym (number_equal u i v j h.0) ∙ lt-ltb i j h.1

-- a total order of the stations, whatever their numbers
pub number_total : (n : ℕ) (u : ℕ → ℕ) → Total n (λ i j. number_before (u i) i (u j) j)
number_total n u = record {
  irrefl = λ i l. number_same (u i) i i ∙ le-ltb i i (omega arith);
  trans = λ i j k li lj lk x y. number_of (u i) i (u k) k (joined i j k (number_true (u i) i (u j) j x) (number_true (u j) j (u k) k y));
  connex = λ i j li lj d. sides i j d (compare (u i) (u j)) (compare i j);
}
  where
    joined : (i j k : ℕ) → (u i < u j) ⊎ ((u i ≡ u j) × (i < j)) → (u j < u k) ⊎ ((u j ≡ u k) × (j < k)) → (u i < u k) ⊎ ((u i ≡ u k) × (i < k))
    joined i j k (inl x) (inl y) = inl (omega arith)
    joined i j k (inl x) (inr y) = inl (omega (arith, y.0))
    joined i j k (inr x) (inl y) = inl (omega (arith, x.0))
    joined i j k (inr x) (inr y) = inr (x.0 ∙ y.0, omega (arith, x.1, y.1))

    sides : (i j : ℕ) → i ≢ j → Tri (u i < u j) (u i ≡ u j) (u j < u i) → Tri (i < j) (i ≡ j) (j < i)
        → (number_before (u i) i (u j) j ≡ true) ⊎ (number_before (u j) j (u i) i ≡ true)
    sides i j d (lt h) o = inl (number_of (u i) i (u j) j (inl h))
    sides i j d (gt h) o = inr (number_of (u j) j (u i) i (inl h))
    sides i j d (eq h) (lt l) = inl (number_of (u i) i (u j) j (inr (h, l)))
    sides i j d (eq h) (eq l) = absurd (d l)
    sides i j d (eq h) (gt l) = inr (number_of (u j) j (u i) i (inr (sym h, l)))

pub row_total : (n : ℕ) (numbers : List ℕ) → Total n (stands_by numbers)
row_total n numbers = number_total n (λ i. get_or numbers i 0)

-- THE ORDER KEPT

-- all numbers 0: one station more goes behind the others
abbrev pub level : ℕ → ℕ → Bool
level i j = number_before 0 i 0 j

level_next : (k : ℕ) (l : List ℕ) → take k l ≡ ordered k level → inserted level k (take k l) ≡ put_in k k (take k l)
level_next k l e =
    let long : length (take k l) ≡ k = ap length e ∙ ordered_length level k in
    inserted_at level k (take k l) k (omega (arith, long))
    (λ p u. rw (get_or-take k l p 0 u) (number_same 0 k (get_or l p 0) ∙ le-ltb k (get_or l p 0) (omega (arith, listed_below level k l e p u))))
    (λ u. absurd (omega (arith, long)))

-- an element stored behind k others
set_last : (r : List ℕ) (k : ℕ) → k < length r → set r k k ≡ put_in k k (take k r) ++ drop (k + 1) r
set_last r k h = rw (
  set_split r k k h,
  take_all k (take k r) (omega (arith, length-take-le k r (omega arith))),
  drop_of_length-le (take k r) {i = k} (omega (arith, length-take-le k r (omega arith))),
  append_assoc,
  add-one,
) refl

pub level_turns : (w k : ℕ) (r : List ℕ) → r ≡ order_in w level k → k < w → k < length r → set r k k ≡ order_in w level (k + 1)
level_turns w k r e h long = order_turns w level k r e k (set r k k) (set_last r k long)
    (level_next k r (order_front w level k r e)) h

-- station k put elsewhere by another number
pub renumbered : {n k : ℕ} {numbers l : List ℕ} → k < n → n ≤ 32 → NumberedBefore n numbers k l → Displaced 32 n k (stands_by numbers) l
renumbered {n} {k} {numbers} lk high was = record {
  before = stands_by was.old;
  then = row_total n was.old;
  now = row_total n numbers;
  alike = λ i j li lj di dj. ap₂ (λ a b. number_before a i b j) (was.others i li di) (was.others j lj dj);
  inside = lk;
  high = high;
  listed = was.listed;
}

-- the order of fresh numbers
pub order_first : (n : ℕ) → ordered n level ++ replicate (32 - n) 0 ≡ order_by n (replicate 32 0)
order_first n = ap (λ b. ordered n b ++ replicate (32 - n) 0)
    (fun_ext (λ i. fun_ext (λ j. ap₂ (λ u v. number_before u i v j) (sym (get_d_none 32 i)) (sym (get_d_none 32 j)))))

-- its last station is the newest
pub order_newest : (n v : ℕ) (numbers : Rows) (order : List ℕ) → order ≡ order_by n (get_or numbers 0 []) → 1 ≤ n
    → get_or order (n - 1) 0 ≡ newest n (stands (numbered v) (beside numbers))
order_newest n v numbers order e h = last_newest n (stands_by (get_or numbers 0 [])) order (row_total n (get_or numbers 0 [])) h
    (order_front 32 (stands_by (get_or numbers 0 [])) n order e)

-- A MOVE

-- where z is the newest, the step is the machine's
pub newest_step : (n z v : ℕ) (N : Labelling ℕ) (w : LabelStep) → z ≡ newest n (stands (numbered v) N) → stepped_by z v N w ≡ relabelled n (numbered v) N w
unfolding relabelled pending_after
newest_step n z v N stay e = refl
newest_step n z v N (update k) e = refl
newest_step n z v N (snap k) e = by_here (λ b. cond b N (put N k v) ≡ put N k (cond b (N true k) v)) z k
    (λ _. sym (alike (λ i. refl) (λ i. by_here (λ b. cond b (N true k) (N true i) ≡ N true i) k i (λ f. ap (N true) (sym f)) (λ _. refl))))
    (λ _. refl) ∙ ap (λ y. put N k (cond (eqb k y) (N true k) v)) e

module _ (n v : ℕ) (N : Labelling ℕ) (k : ℕ) where
  -- only an update changes a current number, that of its station
  module _ (job : ℕ) (m : Move) {N' : Labelling ℕ} (e : N' ≡ relabelled n (numbered v) N (label_step (move_of k job m))) (i : ℕ) where
    abbrev Stays : Move → Type 0
    Stays m = relabelled n (numbered v) N (label_step (move_of k job m)) false i ≡ N false i

    pub current_stays : m ≢ Update → N' false i ≡ N false i
    unfolding relabelled
    current_stays d = ap (λ M. M false i) e
        ∙ by_move (λ m. m ≢ Update → Stays m) (λ d. refl) (λ d. refl) (λ d. refl) (λ d. absurd (d refl)) (λ d. refl) (λ d. refl) (λ d. refl)
        (λ d. refl) m d

    pub current_others : i ≢ k → N' false i ≡ N false i
    unfolding relabelled
    current_others d = ap (λ M. M false i) e
        ∙ by_move Stays refl refl refl (rw (ne_eqb i k d) refl) refl refl refl refl m

-- an order kept through a move: it is still the one by the current plane, or, after an update, was so before the station got its number
module _ (n v k job : ℕ) (m : Move) (numbers numbers' : Rows)
    (e : beside numbers' ≡ relabelled n (numbered v) (beside numbers) (label_step (move_of k job m))) where
  pub order_stays : m ≢ Update → order_by n (get_or numbers 0 []) ≡ order_by n (get_or numbers' 0 [])
  order_stays d = ap (λ u. ordered n (λ i j. number_before (u i) i (u j) j) ++ replicate (32 - n) 0)
      (fun_ext (λ i. sym (current_stays n v (beside numbers) k job m e i d)))

  pub order_before : {order : List ℕ} → order ≡ order_by n (get_or numbers 0 []) → NumberedBefore n (get_or numbers' 0 []) k order
  order_before l = record { old = get_or numbers 0 []; others = λ i h d. sym (current_others n v (beside numbers) k job m e i d); listed = l }
