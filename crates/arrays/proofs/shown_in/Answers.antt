use Rattle.std.proofs.Common.{◌≡◌, ◌≢◌, ℕ, ◌+◌, ◌<◌, List, get_or, take, refl, arith, rules, ne_eqb, eq-eqb}
use Rattle.std.proofs.iter.runs.Made.{chains}
use Rattle.std.proofs.lemmas.List.{get_or-take}
use Rattle.basics.proofs.Facts.{last_is}
use Rattle.arrays.specs.Arrays.{shown_in}
use Rattle.arrays.proofs.shown_in.Goals as goal

-- the last of the first n places that has a station, and none that has
shown_at : (n i : ℕ) (xs : List ℕ) → i < n → get_or (take n xs) i 0 ≢ 0 → ((p : ℕ) → i < p → p < n → get_or (take n xs) p 0 ≡ 0) → i + 1 ≡ shown_in n xs
shown_at n i xs l here later = last_is n _ (i + 1) (record {
  upto = omega arith;
  found = λ p e. let q : p ≡ i = omega arith in rw (q, ne_eqb (get_or xs i 0) 0 (rw (get_or-take n xs i 0 l) at here)) refl;
  later = λ p u h. rw (eq-eqb (get_or xs p 0) 0 (rw (get_or-take n xs p 0 h) at (later p (omega arith) h))) refl;
})

none_shown : (n : ℕ) (xs : List ℕ) → ((p : ℕ) → p < n → get_or (take n xs) p 0 ≡ 0) → 0 ≡ shown_in n xs
none_shown n xs none = last_is n _ 0 (record {
  upto = omega arith;
  found = λ p e. absurd (omega arith);
  later = λ p u h. rw (eq-eqb (get_or xs p 0) 0 (rw (get_or-take n xs p 0 h) at (none p h))) refl;
})

pub returns-in-Some : goal.returns-in-Some
returns-in-Some c =
    shown_at c.args.n c.in-Some.last c.args.stations.now (search (rules, chains)) (search (rules, chains)) (search (rules, chains))

pub returns-in-None : goal.returns-in-None
returns-in-None c = none_shown c.args.n c.args.stations.now (search (rules, chains))
