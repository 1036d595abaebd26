-- Laws of the search for the scan order.
use Prim.Native.Nat.{ℕ, zero, suc, ◌+◌, ◌-◌, ◌≤◌, ◌<◌}
use native.Mathlib.Omega.{arith}
use native.Mathlib.Numerals.{add-one}
use native.Mathlib.Decide.{ℕ_discrete, dec_lt}
use mathlib.Core.Path.{◌≡◌, refl, sym, ap, ap₂, ◌∙◌}
use mathlib.Core.Logic.{◌≢◌, by_cases}
use mathlib.Core.Bool.{Bool, true, false}
use mathlib.Core.List.{List, [], ◌∷◌, ◌++◌, append_assoc}
use lib.ListN.{length, length-append, length-replicate, get_or, set, take, drop, replicate, length-drop}
use lib.Seq.{paste, paste-zero, take-append-add, set_at, take_at, drop_at, drop-drop, take-append-le, drop-append-le, drop-append-add, length-take-le, get_or-take}
use lib.Dec.{eqb}
use Rattle.std.specs.List.{AllWithin, HoldsAt}
use Rattle.std.specs.Option.{MatchOption}
use Rattle.std.proofs.Common.{Option, Some, None}
use Rattle.std.proofs.lemmas.List.{take-take, drop-take, take_more}
use borrow.Author.Tests.{eqb-true, eqb-false, eq-eqb, ne_eqb}
use Rattle.basics.specs.Tests.{inserted, newest, ordered, All}
use Rattle.label.specs.Labels.{label_before}
use Rattle.basics.proofs.Facts.{First, first, first_is, all_at, each_all, ordered_all, ordered_each, inserted_length, ordered_length}
use Rattle.basics.proofs.Passing.{without, without_all}
use Rattle.label.proofs.RowLaws.{ringless}
use Rattle.label.proofs.Total.{Total, total, newest_only, one_way, other_way, Sorted, ordered_sorted, without_sorted, without_at, without_alike, put_back}
use Rattle.rows.specs.Held.{held, stands_in, Orderly, OrderedBefore, left_out, taken_out, place_among}

-- LISTS

pub sorted_at : (b : ℕ → ℕ → Bool) (l : List ℕ) → Sorted b l → (p q : ℕ) → p < q → q < length l → b (get_or l p 0) (get_or l q 0) ≡ true
sorted_at b [] s p q h k = absurd (omega arith)
sorted_at b (i ∷ l) s p zero h k = absurd (omega arith)
sorted_at b (i ∷ l) s zero (suc q) h k = all_at (λ j. b i j ≡ true) l 0 s.0 q (omega arith)
sorted_at b (i ∷ l) s (suc p) (suc q) h k = sorted_at b l s.1 p q (omega arith) (omega arith)

-- l with x put in at place q
abbrev pub put_in : {A : Type 0} → ℕ → A → List A → List A
put_in q x l = take q l ++ x ∷ drop q l

-- a station is put ahead of the first that it stands before: at place q, if it stands before the one there and before none that is earlier
pub inserted_at : (b : ℕ → ℕ → Bool) (i : ℕ) (l : List ℕ) (q : ℕ) → q ≤ length l → ((p : ℕ) → p < q → b i (get_or l p 0) ≡ false)
    → (q < length l → b i (get_or l q 0) ≡ true) → inserted b i l ≡ put_in q i l
unfolding inserted
inserted_at b i [] zero h early found = refl
inserted_at b i [] (suc q) h early found = absurd (omega arith)
inserted_at b i (j ∷ l) zero h early found = rw (found (omega arith), inserted) refl
inserted_at b i (j ∷ l) (suc q) h early found =
    rw (early 0 (omega arith), inserted) (ap (λ (r : List ℕ). j ∷ r) (inserted_at b i l q (omega arith) (λ p k. early (suc p) (omega arith))
    (λ k. found (omega arith))))

-- x put in at place q among the first k, where those behind it move on by one place
pub inserted_moves : {A : Type 0} (l : List A) (k q : ℕ) (x : A) → q ≤ k → k < length l
    → set (paste l (q + 1) (drop q l) (k - q)) q x ≡ take q (take k l) ++ x ∷ drop q (take k l) ++ drop (k + 1) l
inserted_moves {A} l k q x h u =
    let e : q + (k - q) ≡ k = omega arith in
    let f : q + 1 + (k - q) ≡ k + 1 = omega arith in
    let front : take q (take k l) ≡ take q l = take-take q k l h in
    let moved : drop q (take k l) ≡ take (k - q) (drop q l) = ap (λ (i : ℕ). drop q (take i l)) (sym e) ∙ drop-take q (k - q) l in
    let whole : paste l (q + 1) (drop q l) (k - q) ≡ take q l ++ get_or l q x ∷ (take (k - q) (drop q l) ++ drop (k + 1) l)
    = rw (take_more l q x (omega arith), f) (simp append_assoc) in
    rw (whole, set_at (take q l) (get_or l q x) (take (k - q) (drop q l) ++ drop (k + 1) l) x q (length-take-le q l (omega arith)), front, moved) (simp append_assoc)

-- behind all of them
pub put_last : {A : Type 0} (l : List A) (k : ℕ) (x : A) → k < length l → set l k x ≡ put_in k x (take k l) ++ drop (k + 1) l
put_last {A} l k x u =
    let z : k - k ≡ 0 = omega arith in
    ap (λ (r : List A). set r k x) (paste-zero l (k + 1) (drop k l) ∙ sym (ap (paste l (k + 1) (drop k l)) z)) ∙ inserted_moves l k k x (omega arith) u

-- those behind place q move up as far as place m
pub removed_moves : {A : Type 0} (l : List A) (m q : ℕ) → q ≤ m → m < length l → paste l q (drop (q + 1) l) (m - q) ≡ taken_out m q l
removed_moves l m q h u =
    let e : q + (m - q) ≡ m = omega arith in
    let f : length (take q l) + (m - q) ≡ m = omega (arith, length-take-le q l (omega arith)) in
    rw e (ap (λ s. s ++ drop m l) (sym (take-append-add (take q l) (drop (q + 1) l) (m - q)) ∙ ap (λ i. take i (left_out q l)) f))

-- what a search for station k finds, which is listed
pub found_place : (n k : ℕ) (l : List ℕ) → n ≤ length l → (r : Option ℕ)
    → MatchOption r (AllWithin (λ i. i ≢ k) (take n l) 0 (length (take n l)))
    (λ q. (q < length (take n l)) × HoldsAt (λ i. i ≡ k) (take n l) q × AllWithin (λ i. i ≢ k) (take n l) 0 q)
    → place_among n l k < n → r ≡ Some (place_among n l k)
found_place n k l h None m u =
    let s = first n 0 (λ p. eqb (get_or l p 0) k) in
    absurd (m (place_among n l k) 0 (omega arith) (omega (arith, length-take-le n l h))
    (get_or-take n l (place_among n l k) 0 u ∙ eqb-true _ k (s.found (omega arith))))
found_place n k l h (Some q) m u =
    let long = length-take-le n l h in
    ap Some (first_is n (λ p. eqb (get_or l p 0) k) q (omega (arith, m.0))
    (λ p v. ne_eqb _ k (λ e. m.2 p 0 (omega arith) v (get_or-take n l p 0 (omega (arith, m.0)) ∙ e)))
    (λ v. eq-eqb _ k (sym (get_or-take n l q 0 v) ∙ m.1 0)))

module _ {A : Type 0} where
  left_out_front : (l rest : List A) (q : ℕ) → q < length l → left_out q (l ++ rest) ≡ left_out q l ++ rest
  left_out_front l rest q h = rw (take-append-le q l rest (omega arith), drop-append-le (q + 1) l rest (omega arith), append_assoc) refl

-- the stations s in the first m places of an array
module _ (m : ℕ) (l s : List ℕ) (e : take m l ≡ s) (long : length s ≡ m) where
  front_all : (P : ℕ → Type 0) → All P s → (p : ℕ) → p < m → P (get_or l p 0)
  front_all P a p h = rw (← get_or-take m l p 0 h, e) (all_at P s 0 a p (omega arith))

  front_sorted : (b : ℕ → ℕ → Bool) → Sorted b s → (p q : ℕ) → p < q → q < m → b (get_or l p 0) (get_or l q 0) ≡ true
  front_sorted b a p q h u = rw (← get_or-take m l p 0 (omega arith), ← get_or-take m l q 0 u, e) (sorted_at b s a p q h (omega arith))

-- each of the first k stations in order, at the front of an array, is one of them
pub listed_below : (b : ℕ → ℕ → Bool) (k : ℕ) (l : List ℕ) → take k l ≡ ordered k b → (p : ℕ) → p < k → get_or l p 0 < k
listed_below b k l e = front_all k l (ordered k b) e (ordered_length b k) (λ i. i < k) (ordered_all (λ i. i < k) b k (λ i u. u))

-- A TOTAL ORDER

pub orderly_total : (n : ℕ) (rows : List (List ℕ)) → Orderly n rows → Total n (stands_in n rows)
orderly_total n rows o = total (ringless (n - 1) (held rows) o.free (λ i p li lp. o.valid i (omega (arith, o.low)) p lp)) n (omega (arith, o.low))

-- one of the n stations, other than k
abbrev pub Other : ℕ → ℕ → ℕ → Type 0
Other n k i = (i < n) × (i ≢ k)

-- the place of station k among the others in the first m places of an array
module _ {n : ℕ} {b : ℕ → ℕ → Bool} (o : Total n b) (k : ℕ) (lk : k < n) (m : ℕ) (l : List ℕ)
    (others : (p : ℕ) → p < m → Other n k (get_or l p 0)) where
  pub put_in_lem : m ≤ length l → (q : ℕ) → q ≤ m → ((p : ℕ) → p < q → b (get_or l p 0) k ≡ true) → ((p : ℕ) → q ≤ p → p < m → b k (get_or l p 0) ≡ true)
      → inserted b k (take m l) ≡ put_in q k (take m l)
  put_in_lem long q h early late = inserted_at b k (take m l) q (omega (arith, length-take-le m l long))
      (λ p u. rw (get_or-take m l p 0 (omega arith)) (one_way o (get_or l p 0) k (others p (omega arith)).0 lk (early p u)))
      (λ u. let v : q < m = omega (arith, length-take-le m l long) in rw (get_or-take m l q 0 v) (late q (omega arith) v))

  -- they stand there oldest first: where one stands before station k, so do all earlier; where it does not, station k stands before it and all later
  module _ (sorted : (p q : ℕ) → p < q → q < m → b (get_or l p 0) (get_or l q 0) ≡ true) where
    pub before_front : (p : ℕ) {x : Bool} → p < m → x ≡ b (get_or l p 0) k → x ≡ true → (q : ℕ) → q < p + 1 → b (get_or l q 0) k ≡ true
    before_front p h w x q v = let u = sym w ∙ x in by_cases (ℕ_discrete q p) (λ f. rw f u)
        (λ f. o.trans (get_or l q 0) (get_or l p 0) k (others q (omega arith)).0 (others p h).0 lk (sorted q p (omega arith) h) u)

    pub before_back : (p : ℕ) {x : Bool} → p < m → x ≡ b (get_or l p 0) k → x ≡ false → (q : ℕ) → p ≤ q → q < m → b k (get_or l q 0) ≡ true
    before_back p h u x q v w =
        let f = others p h in
        let here = other_way o (get_or l p 0) k f.0 lk f.1 (sym u ∙ x) in
        by_cases (ℕ_discrete p q) (λ g. rw (← g) here)
        (λ g. o.trans k (get_or l p 0) (get_or l q 0) lk f.0 (others q w).0 here (sorted p q (omega arith) w))

-- AN ARRAY OF w PLACES

pub replicate_more : {A : Type 0} (w k : ℕ) (z : A) → k < w → replicate (w - k) z ≡ z ∷ replicate (w - (k + 1)) z
replicate_more w k z h = let e : w - k ≡ suc (w - (k + 1)) = omega arith in rw e refl

-- the first k stations in order, and 0s
abbrev pub order_in : ℕ → (ℕ → ℕ → Bool) → ℕ → List ℕ
order_in w b k = ordered k b ++ replicate (w - k) 0

module _ (w : ℕ) (b : ℕ → ℕ → Bool) (k : ℕ) (l : List ℕ) (e : l ≡ order_in w b k) where
  pub order_front : take k l ≡ ordered k b
  order_front = rw e (take_at (ordered k b) (replicate (w - k) 0) k (ordered_length b k))

  pub order_long : k ≤ w → length l ≡ w
  order_long h = rw (e, length-append, ordered_length, length-replicate) (omega arith)

  -- what is listed is other than station k, and stands there oldest first
  pub front_others : (n : ℕ) → k < n → All (Other n k) (take k l)
  front_others n h = rw order_front (ordered_all (Other n k) b k (λ i u. (omega arith, λ f. omega arith)))

  pub front_in_order : {n : ℕ} → Total n b → k < n → (p q : ℕ) → p < q → q < length (take k l) → b (get_or (take k l) p 0) (get_or (take k l) q 0) ≡ true
  front_in_order {n} o h = rw order_front (sorted_at b (ordered k b) (ordered_sorted n b o k (omega arith)))

  order_rest : k < w → drop (k + 1) l ≡ replicate (w - (k + 1)) 0
  order_rest h = rw (e, replicate_more {A = ℕ} w k 0 h) (ap (λ (i : ℕ). drop (i + 1) (ordered k b ++ 0 ∷ replicate (w - (k + 1)) 0)) (sym (ordered_length b k))
      ∙ drop-append-add (ordered k b) (0 ∷ replicate (w - (k + 1)) 0) 1)

  pub order_turns : (q : ℕ) (r : List ℕ) → r ≡ put_in q k (take k l) ++ drop (k + 1) l → inserted b k (take k l) ≡ put_in q k (take k l) → k < w
      → r ≡ order_in w b (k + 1)
  unfolding ordered
  order_turns q r f g h = f ∙ rw (← g, order_front, order_rest h, add-one k, ordered) refl

-- ONE STATION PUT ELSEWHERE: an array of w places lists n stations as they stood before station k alone came to stand elsewhere

pub record Displaced (w n k : ℕ) (b : ℕ → ℕ → Bool) (l : List ℕ) : Type 0 where
  pub before : ℕ → ℕ → Bool
  pub then : Total n before
  pub now : Total n b
  pub alike : (i j : ℕ) → i < n → j < n → i ≢ k → j ≢ k → before i j ≡ b i j
  pub inside : k < n
  pub high : n ≤ w
  pub listed : l ≡ order_in w before n

-- by another label in the rows
pub relabelled : {n k : ℕ} {rows : List (List ℕ)} {l : List ℕ} → Orderly n rows → k < n → OrderedBefore n rows k l → Displaced 32 n k (stands_in n rows) l
relabelled {n} {k} {rows} valid lk was = record {
  before = stands_in n was.old;
  then = orderly_total n was.old was.orderly;
  now = orderly_total n rows valid;
  alike = λ i j li lj di dj. ap₂ (λ a b. label_before (n - 1) a i b j) (was.others i li di) (was.others j lj dj);
  inside = lk;
  high = valid.high;
  listed = was.listed;
}

module _ {w n k : ℕ} {b : ℕ → ℕ → Bool} {l : List ℕ} (d : Displaced w n k b l) where
  abbrev m : ℕ
  m = n - 1

  abbrev old : List ℕ
  old = ordered n d.before

  -- the others stand in the old order as in the new one, which is theirs with k put in
  abbrev others : List ℕ
  others = without k (ordered n b)

  abbrev zeros : List ℕ
  zeros = replicate (w - n) 0

  old_long : length old ≡ n
  old_long = ordered_length d.before n

  pub listed_long : length l ≡ w
  listed_long = order_long w d.before n l d.listed d.high

  read : (p : ℕ) → p < n → get_or l p 0 ≡ get_or old p 0
  read p h = rw (← get_or-take n l p 0 h, order_front w d.before n l d.listed) refl

  -- its place there
  abbrev p : ℕ
  p = place_among n l k

  place : First n 0 (λ q. eqb (get_or l q 0) k) p
  place = first n 0 (λ q. eqb (get_or l q 0) k)

  pub place_found : p < n
  place_found = by_cases (dec_lt p n) (λ h. h)
      (λ h. absurd (ordered_each (λ j. j ≢ k) d.before n (each_all (λ j. j ≢ k) old 0
      (λ q u. rw (← read q (omega (arith, old_long))) (eqb-false _ k (place.earlier q (omega arith) (omega (arith, old_long)))))) k d.inside refl))

  left_out_lem : left_out p l ≡ others ++ zeros
  left_out_lem =
      let h : p < length old = omega (arith, place_found, old_long) in
      let here = sym (read p place_found) ∙ eqb-true _ k (place.found (omega (arith, place_found))) in
      let out : without k old ≡ left_out p old
      = rw (add-one p) (without_at d.then k d.inside old (ordered_sorted n d.before d.then n (omega arith)) p 0 h here) in
      ap (left_out p) d.listed ∙ left_out_front old zeros p h
      ∙ ap (λ r. r ++ zeros) (sym out ∙ without_alike n d.before b d.then d.now k d.alike n (omega arith))

  back : inserted b k others ≡ ordered n b
  back = put_back d.now k d.inside (ordered n b) (ordered_all (λ j. j < n) b n (λ j u. u)) (ordered_sorted n b d.now n (omega arith))
      (λ a. ordered_each (λ j. j ≢ k) b n a k d.inside refl)

  others_long : length others ≡ m
  others_long = omega (arith, inserted_length b k others, ap length back, ordered_length b n)

  -- k taken out: r lists the others in the first n - 1 places
  module _ (r : List ℕ) (e : r ≡ taken_out m p l) where
    moved_up : r ≡ others ++ drop m l
    moved_up = e ∙ ap (λ t. t ++ drop m l) (ap (take m) left_out_lem ∙ take_at others zeros m others_long)

    pub others_room : m < length r
    others_room = rw moved_up (omega (arith, length-append others (drop m l), others_long, length-drop m l, listed_long, d.inside, d.high))

    others_front : take m r ≡ others
    others_front = ap (take m) moved_up ∙ take_at others (drop m l) m others_long

    rest : drop (m + 1) r ≡ zeros
    rest =
        let f : m + 1 ≡ n = omega (arith, d.inside) in
        ap (drop (m + 1)) moved_up ∙ ap (λ i. drop (i + 1) (others ++ drop m l)) (sym others_long) ∙ drop-append-add others (drop m l) 1
        ∙ drop-drop 1 m l ∙ ap (λ i. drop i l) f ∙ ap (drop n) d.listed ∙ drop_at old zeros n old_long

    pub others_listed : (q : ℕ) → q < m → Other n k (get_or r q 0)
    others_listed = front_all m r others others_front others_long (Other n k)
        (without_all (λ j. j < n) (Other n k) k (λ j u v. (u, v)) (ordered n b) (ordered_all (λ j. j < n) b n (λ j u. u)))

    pub others_sorted : (q q' : ℕ) → q < q' → q' < m → b (get_or r q 0) (get_or r q' 0) ≡ true
    others_sorted = front_sorted m r others others_front others_long b
        (without_sorted b k (ordered n b) (ordered_sorted n b d.now n (omega arith)))

    pub others_all : All (Other n k) (take m r)
    others_all = rw others_front (without_all (λ j. j < n) (Other n k) k (λ j u v. (u, v)) (ordered n b) (ordered_all (λ j. j < n) b n (λ j u. u)))

    pub others_in_order : (p q : ℕ) → p < q → q < length (take m r) → b (get_or (take m r) p 0) (get_or (take m r) q 0) ≡ true
    others_in_order = rw others_front (sorted_at b others (without_sorted b k (ordered n b) (ordered_sorted n b d.now n (omega arith))))

    -- and put in at place q, where it stands now
    pub put_where : (q : ℕ) (r' : List ℕ) → inserted b k (take m r) ≡ put_in q k (take m r) → r' ≡ put_in q k (take m r) ++ drop (m + 1) r → r' ≡ order_in w b n
    put_where q r' e f = f ∙ rw (← e, rest, others_front, back) refl

    pub put_again : (q : ℕ) (r' : List ℕ) → q ≤ m → ((p : ℕ) → p < q → b (get_or r p 0) k ≡ true)
        → ((p : ℕ) → q ≤ p → p < m → b k (get_or r p 0) ≡ true) → r' ≡ put_in q k (take m r) ++ drop (m + 1) r → r' ≡ order_in w b n
    put_again q r' h early late = put_where q r' (put_in_lem d.now k d.inside m r others_listed (omega (arith, others_room)) q h early late)

-- THE NEWEST

-- the station listed last is the newest
pub last_newest : (n : ℕ) (b : ℕ → ℕ → Bool) (l : List ℕ) → Total n b → 1 ≤ n → take n l ≡ ordered n b → get_or l (n - 1) 0 ≡ newest n b
last_newest n b l o h e =
    let list = ordered n b in
    let long = ordered_length b n in
    let z = get_or list (n - 1) 0 in
    let low : (p : ℕ) → p < n → get_or list p 0 < n = λ p u. all_at (λ i. i < n) list 0 (ordered_all (λ i. i < n) b n (λ i v. v)) p (omega arith) in
    let none : (p : ℕ) → p < length list → b z (get_or list p 0) ≡ false = λ p u. by_cases (ℕ_discrete p (n - 1))
    (λ q. rw q (o.irrefl z (low (n - 1) (omega arith))))
    (λ d. one_way o (get_or list p 0) z (low p (omega arith)) (low (n - 1) (omega arith))
    (sorted_at b list (ordered_sorted n b o n (omega arith)) p (n - 1) (omega arith) (omega arith))) in
    sym (get_or-take n l (n - 1) 0 (omega arith)) ∙ ap (λ (x : List ℕ). get_or x (n - 1) 0) e
    ∙ newest_only n b o z (low (n - 1) (omega arith)) (ordered_each (λ j. b z j ≡ false) b n (each_all _ list 0 none))
