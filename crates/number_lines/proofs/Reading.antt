-- Numbers read back from lines of 12 bytes each.
use Rattle.std.proofs.Common.{Option, Some, None}
use Prim.Native.Nat.{ℕ, zero, suc, ◌+◌, ◌-◌, ◌*◌, ◌≤◌, ◌<◌, ◌^◌}
use native.Mathlib.Omega.{arith}
use mathlib.Core.Path.{◌≡◌, refl, sym, ap, ap₂, subst, ◌∙◌}
use mathlib.Core.Logic.{◌↔◌}
use mathlib.Core.Bool.{Bool, true, false, cond}
use mathlib.Core.List.{List, [], ◌∷◌, ◌++◌, append_assoc, append-nil}
use lib.ListN.{length, get_or, take, drop, set, length-drop, take-append-drop, length-set, get_or-eq_default}
use lib.Seq.{length-take-le, take_all, take_at, drop_at, get_or_at, get_or-take, take-take, take-add, take-suc, drop-set-lt, drop-drop}
use lib.Dec.{eqb, ltb}
use borrow.Author.Tests.{eqb-true, eq-eqb, ne_eqb, ltb-true, ltb-false}
use Rattle.basics.proofs.Filled.{taken_more}
use Rattle.columns.specs.Columns.{column}
use Rattle.columns.specs.Reading.{column_read}
use Rattle.columns.proofs.ColumnLaws.{length_column, column_iff}
use Rattle.number_lines.specs.Lines.{number_line, number_lines, NumberLine, NumberLines, number_read, lines_read, NumbersRead}
use Rattle.number_lines.proofs.Printing.{length_number, length_numbers}

-- ONE LINE

-- bytes that do not reach to a line's end, or do not end it
pub line_short : (bs : List ℕ) → length bs < 12 → number_read bs ≡ None
unfolding number_read
line_short bs h = rw (get_or-eq_default bs 0 {n = 11} (omega arith)) refl

pub line_no_end : (bs : List ℕ) → (get_or bs 11 0 ≡ 10 → ⊥) → number_read bs ≡ None
unfolding number_read
line_no_end bs d = rw (ne_eqb (get_or bs 11 0) 10 d) refl

pub line_end : (bs : List ℕ) → get_or bs 11 0 ≡ 10 → number_read bs ≡ column_read (take 11 bs)
unfolding number_read
line_end bs e = rw (eq-eqb (get_or bs 11 0) 10 e) refl

-- what is read is a whole line
pub line_long : (bs : List ℕ) (v : ℕ) → number_read bs ≡ Some v → 12 ≤ length bs
line_long bs v e = go (ltb (length bs) 12) refl
  where
    go : (b : Bool) → ltb (length bs) 12 ≡ b → 12 ≤ length bs
    go true t = cc (sym (line_short bs (ltb-true (length bs) 12 t)) ∙ e)
    go false t = ltb-false (length bs) 12 t

-- a number is read exactly where its line stands at the front
module _ (bs : List ℕ) (v : ℕ) where
  read_line : number_read bs ≡ Some v → NumberLine (take 12 bs) v
  unfolding number_read number_line
  read_line e = go (eqb (get_or bs 11 0) 10) refl e
    where
      long : 12 ≤ length bs
      long = line_long bs v e

      wide : length (take 11 bs) ≡ 11
      wide = length-take-le 11 bs (omega (arith, long))

      go : (b : Bool) → eqb (get_or bs 11 0) 10 ≡ b → cond b (column_read (take 11 bs)) None ≡ Some v → NumberLine (take 12 bs) v
      go true t k = let f = (column_iff (take 11 bs) v (omega (arith, wide))).0 k in record {
        line = take-suc bs 11 0 (omega (arith, long)) ∙ ap₂ (λ x y. x ++ (y ∷ [])) (f.0 ∙ ap (λ w. column w v) wide) (eqb-true (get_or bs 11 0) 10 t);
        fits = (rw wide at f).1;
      }
      go false t k = cc

  line_read : NumberLine (take 12 bs) v → number_read bs ≡ Some v
  unfolding number_line
  line_read f = line_end bs ends ∙ (column_iff (take 11 bs) v (omega (arith, wide))).1 (rw wide (front, f.fits))
    where
      ends : get_or bs 11 0 ≡ 10
      ends = sym (get_or-take 12 bs 11 0 (omega arith)) ∙ ap (λ x. get_or x 11 0) f.line ∙ get_or_at (column 11 v) 10 [] 0 11 (length_column 11 v)

      front : take 11 bs ≡ column 11 v
      front = sym (take-take 11 12 bs (omega arith)) ∙ ap (take 11) f.line ∙ take_at (column 11 v) (10 ∷ []) 11 (length_column 11 v)

      wide : length (take 11 bs) ≡ 11
      wide = ap length front ∙ length_column 11 v

  pub line_iff : (number_read bs ≡ Some v) ↔ NumberLine (take 12 bs) v
  line_iff = (read_line, line_read)

-- SEVERAL LINES
pub lines_none : (bs : List ℕ) → lines_read 0 bs ≡ []
unfolding lines_read
lines_none bs = refl

pub lines_bad : (k : ℕ) (bs : List ℕ) → number_read bs ≡ None → lines_read k bs ≡ []
unfolding lines_read
lines_bad zero bs e = refl
lines_bad (suc k) bs e = ap (λ (r : Option ℕ). elim r [ Some v ↦ v ∷ lines_read k (drop 12 bs) | None ↦ [] ]) e

pub lines_more : (k : ℕ) (bs : List ℕ) (v : ℕ) → number_read bs ≡ Some v → lines_read (suc k) bs ≡ v ∷ lines_read k (drop 12 bs)
unfolding lines_read
lines_more k bs v e = ap (λ (r : Option ℕ). elim r [ Some v ↦ v ∷ lines_read k (drop 12 bs) | None ↦ [] ]) e

-- THE LOOP: `count` numbers are read, and all that are to be read are these and those of the bytes behind their lines; the rest of the list is the old one
pub record ReadSoFar (bs list₀ list : List ℕ) (count : ℕ) : Type 0 where
  pub size : length list ≡ length list₀
  pub room : count ≤ length list₀
  pub within : count * 12 ≤ length bs
  pub read : lines_read (length list₀) bs ≡ take count list ++ lines_read (length list₀ - count) (drop (count * 12) bs)
  pub left : drop count list ≡ drop count list₀

pub read_start : (bs list : List ℕ) → ReadSoFar bs list list 0
read_start bs list = record {
  size = refl;
  room = omega arith;
  within = omega arith;
  read = let all : length list ≡ length list - 0 = omega arith in ap (λ k. lines_read k bs) all;
  left = refl;
}

module _ {bs list₀ list : List ℕ} {count : ℕ} (f : ReadSoFar bs list₀ list count) where
  -- the line that is read lies within the bytes
  read_within : (v : ℕ) → number_read (drop (count * 12) bs) ≡ Some v → (count + 1) * 12 ≤ length bs
  read_within v e = omega (arith, line_long (drop (count * 12) bs) v e, length-drop (count * 12) bs, f.within)

  -- one line more
  pub read_more : (v : ℕ) → count < length list₀ → number_read (drop (count * 12) bs) ≡ Some v → ReadSoFar bs list₀ (set list count v) (count + 1)
  read_more v h e = record {
    size = length-set list count v ∙ f.size;
    room = omega arith;
    within = read_within v e;
    read = f.read ∙ ap (λ t. take count list ++ t) next ∙ sym (append_assoc (take count list) (v ∷ []) later) ∙ ap (λ t. t ++ later) (sym more);
    left = drop-set-lt (count + 1) list count v (omega arith) ∙ sym (drop-drop 1 count list) ∙ ap (drop 1) f.left ∙ drop-drop 1 count list₀;
  }
    where
      later : List ℕ
      later = lines_read (length list₀ - (count + 1)) (drop ((count + 1) * 12) bs)

      more : take (count + 1) (set list count v) ≡ take count list ++ (v ∷ [])
      more = taken_more list count v (omega (arith, f.size))

      fewer : length list₀ - count ≡ suc (length list₀ - (count + 1))
      fewer = omega arith

      behind : drop 12 (drop (count * 12) bs) ≡ drop ((count + 1) * 12) bs
      behind = drop-drop 12 (count * 12) bs ∙ (let e : count * 12 + 12 ≡ (count + 1) * 12 = omega arith in ap (λ j. drop j bs) e)

      next : lines_read (length list₀ - count) (drop (count * 12) bs) ≡ v ∷ later
      next = ap (λ k. lines_read k (drop (count * 12) bs)) fewer ∙ lines_more (length list₀ - (count + 1)) (drop (count * 12) bs) v e
          ∙ ap (λ t. v ∷ lines_read (length list₀ - (count + 1)) t) behind

  -- the end: no more is to be read
  read_end : lines_read (length list₀ - count) (drop (count * 12) bs) ≡ [] → NumbersRead bs list₀ (eqb (count * 12) (length bs)) count list
  read_end e = record {
    counted = sym (ap length found ∙ long);
    room = f.room;
    left = sym (take-append-drop count list) ∙ ap₂ ◌++◌ (sym found) (f.left ∙ ap (λ k. drop k list₀) (sym (ap length found ∙ long)));
    whole = refl;
  }
    where
      found : lines_read (length list₀) bs ≡ take count list
      found = f.read ∙ ap (λ t. take count list ++ t) e ∙ append-nil (take count list)

      long : length (take count list) ≡ count
      long = length-take-le count list (omega (arith, f.size, f.room))

  pub read_full : length list₀ ≤ count → NumbersRead bs list₀ (eqb (length list * 12) (length bs)) (length list) list
  read_full h =
      let none : length list₀ - count ≡ 0 = omega arith in
      let all : count ≡ length list = omega (arith, f.size, f.room) in
      subst (λ k. NumbersRead bs list₀ (eqb (k * 12) (length bs)) k list) all
      (read_end (ap (λ k. lines_read k (drop (count * 12) bs)) none ∙ lines_none (drop (count * 12) bs)))

  pub read_bad : number_read (drop (count * 12) bs) ≡ None → NumbersRead bs list₀ (eqb (count * 12) (length bs)) count list
  read_bad e = read_end (lines_bad (length list₀ - count) (drop (count * 12) bs) e)

-- WHAT READING SAYS OF THE BYTES

-- the numbers read are those of the lines at the front
none_fit : (i : ℕ) → get_or {A = ℕ} [] i 0 < 10 ^ 11
none_fit zero = omega arith
none_fit (suc i) = omega arith

fit_first : (v : ℕ) (ns : List ℕ) → v < 10 ^ 11 → ((i : ℕ) → get_or ns i 0 < 10 ^ 11) → (i : ℕ) → get_or (v ∷ ns) i 0 < 10 ^ 11
fit_first v ns h f zero = h
fit_first v ns h f (suc i) = f i

lines_front : (k : ℕ) (bs : List ℕ) → NumberLines (take (length (lines_read k bs) * 12) bs) (lines_read k bs)
unfolding number_lines
lines_front zero bs = rw (lines_none bs) (record { lines = refl; fit = none_fit })
lines_front (suc k) bs = go (lines_front k (drop 12 bs)) (number_read bs) refl
  where
    go : NumberLines (take (length (lines_read k (drop 12 bs)) * 12) (drop 12 bs)) (lines_read k (drop 12 bs)) → (r : Option ℕ) → number_read bs ≡ r
        → NumberLines (take (length (lines_read (suc k) bs) * 12) bs) (lines_read (suc k) bs)
    go later None e = rw (lines_bad (suc k) bs e) (record { lines = refl; fit = none_fit })
    go later (Some v) e =
        let rest = lines_read k (drop 12 bs) in
        let here = (line_iff bs v).0 e in
        let split : suc (length rest) * 12 ≡ 12 + length rest * 12 = omega arith in
        rw (lines_more k bs v e) (record {
          lines = ap (λ j. take j bs) split ∙ take-add 12 (length rest * 12) bs ∙ ap₂ ◌++◌ here.line later.lines;
          fit = fit_first v rest here.fits later.fit;
        })

-- lines that are printed are read back
lines_back : (k : ℕ) (ns : List ℕ) → length ns ≤ k → ((i : ℕ) → get_or ns i 0 < 10 ^ 11) → lines_read k (number_lines ns) ≡ ns
unfolding number_lines
lines_back k [] h f = lines_bad k [] (line_short [] (omega arith))
lines_back zero (v ∷ ns) h f = absurd (omega arith)
lines_back (suc k) (v ∷ ns) h f =
    let rest = number_lines ns in
    let line = number_line v in
    lines_more k (line ++ rest) v ((line_iff (line ++ rest) v).1 (record { line = take_at line rest 12 (length_number v); fits = f 0 }))
    ∙ ap (λ t. v ∷ lines_read k t) (drop_at line rest 12 (length_number v))
    ∙ ap (λ t. v ∷ t) (lines_back k ns (omega arith) (λ i. f (suc i)))

module _ {bs list : List ℕ} {all : Bool} {count : ℕ} {list' : List ℕ} (f : NumbersRead bs list all count list') where
  read_front : take count list' ≡ lines_read (length list) bs
  read_front = ap (take count) f.left ∙ take_at (lines_read (length list) bs) _ count (sym f.counted)

  pub read_lines : NumberLines (take (count * 12) bs) (take count list')
  read_lines = rw (read_front, f.counted) (lines_front (length list) bs)

  -- whole bytes are the lines of the numbers read
  pub read_whole : all ≡ true → NumberLines bs (take count list')
  read_whole e =
      let long : count * 12 ≡ length bs = eqb-true (count * 12) (length bs) (sym f.whole ∙ e) in
      subst (λ l. NumberLines l (take count list')) (take_all (count * 12) bs (omega arith)) read_lines

  -- and the lines of any numbers for which there is room are whole, and are read back
  pub read_back : (ns : List ℕ) → length ns ≤ length list → NumberLines bs ns → (all ≡ true) × (count ≡ length ns) × (take count list' ≡ ns)
  read_back ns h g = (f.whole ∙ eq-eqb (count * 12) (length bs) long, counts, read_front ∙ found)
    where
      found : lines_read (length list) bs ≡ ns
      found = ap (lines_read (length list)) g.lines ∙ lines_back (length list) ns h g.fit

      counts : count ≡ length ns
      counts = f.counted ∙ ap length found

      long : count * 12 ≡ length bs
      long = ap (λ k. k * 12) counts ∙ sym (ap length g.lines ∙ length_numbers ns)
