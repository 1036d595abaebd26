-- What is told of a file that is only read, part by part: a part behind other lines, the first one, and all of them together.
use Prim.Native.Nat.{ℕ, ◌+◌, ◌-◌, ◌≤◌, ◌<◌}
use native.Mathlib.Nat.{zero-add}
use native.Mathlib.Omega.{arith}
use mathlib.Core.Path.{◌≡◌, refl, sym, ap, ◌∙◌}
use mathlib.Core.Logic.{◌⊎◌, inl, inr}
use mathlib.Core.Bool.{Bool, true, false, cond}
use mathlib.Core.List as Lists
use mathlib.Core.List.{[], ◌∷◌, ◌++◌, append_assoc, append-nil}
use lib.ListN.{length, take, drop, length-append, length-drop}
use lib.Seq.{take-append-le, drop-append-le, take_all}
use lib.Dec.{ltb}
use borrow.Author.Tests.{lt-ltb, le-ltb, ltb-true, ltb-false}
use Rattle.moves.specs.Moves.{final_number}
use Rattle.moves.specs.declared.Refusal.{Refusal}
use Rattle.moves.specs.declared.Refusal.TheVariants.{IncompleteLine, TooManySteps}
use Rattle.schedule.specs.Lines.{line_read, header_read}
use Rattle.schedule.specs.Files.{cut, pieces, lines_of}
use Rattle.schedule.specs.Demand.{step_calls, ending, file_calls}
use Rattle.schedule.specs.Numbers.{final_of, surveyed, reading_refusal, Surveys}
use Rattle.schedule.proofs.Cuts.{joined, Whole}
use Rattle.schedule.proofs.Runs.{rest_after}
use Rattle.schedule.proofs.Surveys.{all_lines, survey_parts_lem, first_of, surveyed_header, long_file}
use Rattle.schedule.specs.declared.Survey.{Survey}
use Rattle.std.specs.Prelude.{Option, Some, None, Ok, Err, IfSome, IsSome}
use Rattle.std.specs.Io.KnownBytes.{Consumes, IsAtEnd}
use Rattle.std.proofs.KnownBytes.{Consumes-nil, Consumes-trans}
use Rattle.std.proofs.lemmas.Bool.{cases_lt}
use Rattle.intake.specs.Clauses.{Reading, ahead_read, Within, Cut, ReadsPart, TooLong}
use Rattle.simulation.specs.Calls.{original}

-- LINES BEHIND OTHERS

-- the final refusal of a part and what follows it
ending_on : (lines : ℕ) (part more : Lists.List ℕ) → Cut part more
    → ending lines (lines_of (part ++ more))
    ≡ first_of (ending lines (lines_of part)) (ending (lines + length (step_calls original lines (lines_of part))) (lines_of more))
ending_on lines part more (inl whole) =
    let k = lines + length (step_calls original lines (lines_of part)) in
    ap (λ b. ending lines (lines_of (part ++ b))) (sym (append-nil more)) ∙ survey_parts_lem (part ∷ (more ∷ [])) lines (whole, tt)
    ∙ ap (first_of (ending lines (lines_of part))) (sym (survey_parts_lem (more ∷ []) k tt) ∙ ap (λ b. ending k (lines_of b)) (append-nil more))
ending_on lines part more (inr none) =
    ap (λ b. ending lines (lines_of (part ++ b))) none ∙ survey_parts_lem (part ∷ []) lines tt
    ∙ ap (first_of (ending lines (lines_of part))) (sym (survey_parts_lem [] k tt ∙ refl) ∙ ap (λ b. ending k (lines_of b)) (sym none))
  where
    k : ℕ
    k = lines + length (step_calls original lines (lines_of part))

module _ {lines : ℕ} (w : Within (Ok (Some lines))) (part : Lists.List ℕ) {s : Survey} (f : Surveys lines part s) where
  -- the final refusal of the part, as it was found, and what follows it
  ending_found : (more : Lists.List ℕ) → Cut part more
      → ending lines (lines_of (part ++ more)) ≡ first_of s.refusal (ending (lines + s.steps) (lines_of more))
  ending_found more h = rw (f.refusal, f.steps) (ending_on lines part more h)

  -- a part with a final refusal
  pub part_refused : {r : Refusal} → s.refusal ≡ Some r → ReadsPart (Ok (Some lines)) part (Err r)
  part_refused {r} d = record { same = same; within = tt; fewer = omega arith }
    where
      same : (more : Lists.List ℕ) → Cut part more → ahead_read (Ok (Some lines)) (part ++ more) ≡ Some r
      same more h = rw (ending_found more h, d) refl

  -- one without
  module _ (z : s.refusal ≡ None) where
    none : final_number (ending lines (lines_of part)) ≡ 0
    none = ap final_number (sym f.refusal ∙ z)

    counted : (s.steps ≡ pieces part) × (lines + pieces part ≤ 1000001)
    counted = let u = all_lines part lines w.1 none in (f.steps ∙ u.0, u.1)

    pub part_counted : lines + s.steps ≤ 1000001
    part_counted = omega (arith, counted)

    -- the lines of both are those of the part and those of the rest
    pieces_on : (more : Lists.List ℕ) → Cut part more → pieces (part ++ more) ≡ pieces part + pieces more
    pieces_on more (inl (k, e)) = rw (length-append part more) (omega arith)
    pieces_on more (inr e) = rw (e, append-nil part) (omega arith)

    pub part_passed : ReadsPart (Ok (Some lines)) part (Ok (Some (lines + s.steps)))
    part_passed = record { same = same; within = (omega (arith, w.0), part_counted); fewer = omega (arith, counted) }
      where
        same : (more : Lists.List ℕ) → Cut part more → ahead_read (Ok (Some lines)) (part ++ more) ≡ ahead_read (Ok (Some (lines + s.steps))) more
        same more h = rw e (go (ending k (lines_of more)) refl)
          where
            k : ℕ
            k = lines + s.steps

            e : ending lines (lines_of (part ++ more)) ≡ ending k (lines_of more)
            e = ending_found more h ∙ rw z refl

            go : (r : Option Refusal) → ending k (lines_of more) ≡ r
                → surveyed r (lines - 1 + length (step_calls original lines (lines_of (part ++ more)))) None
                ≡ surveyed r (k - 1 + length (step_calls original k (lines_of more))) None
            go (Some r) q = refl
            go None q =
                let all = all_lines (part ++ more) lines w.1 (ap final_number (e ∙ q)) in
                let rest = all_lines more k part_counted (ap final_number q) in
                ap (λ j. surveyed None j None)
                (let c : lines - 1 + length (step_calls original lines (lines_of (part ++ more))) ≡ k - 1 + length (step_calls original k (lines_of more))
                = omega (arith, all.0, rest.0, counted, pieces_on more h, w.0) in c)

-- THE FIRST PART, unless it is empty
module _ (part : Lists.List ℕ) (some : 0 < length part) {l : Lists.List ℕ} (p : l ≡ take 18 part) where
  -- the first 18 bytes of the file are those of the part, and what is behind them is what is left of it and what follows
  first : (more : Lists.List ℕ) → Cut part more → take 18 (part ++ more) ≡ l
  first more (inl (k, e)) = take-append-le 18 part more (omega arith) ∙ sym p
  first more (inr e) = ap (λ b. take 18 (part ++ b)) e ∙ ap (take 18) (append-nil part) ∙ sym p

  behind : (more : Lists.List ℕ) → Cut part more → drop 18 (part ++ more) ≡ drop 18 part ++ more
  behind more (inl (k, e)) = drop-append-le 18 part more (omega arith)
  behind more (inr e) = ap (λ b. drop 18 (part ++ b)) e ∙ ap (drop 18) (append-nil part) ∙ sym (append-nil (drop 18 part)) ∙ ap (λ b. drop 18 part ++ b) (sym e)

  cut_behind : (more : Lists.List ℕ) → Cut part more → Cut (drop 18 part) more
  cut_behind more (inl (k, e)) = inl (k - 1, omega (arith, length-drop 18 part))
  cut_behind more (inr e) = inr e

  pub first_refused : {r : Refusal} → header_read original l ≡ Err r → ReadsPart (Ok None) part (Err r)
  unfolding reading_refusal
  first_refused {r} e = record { same = same; within = tt; fewer = omega arith }
    where
      same : (more : Lists.List ℕ) → Cut part more → ahead_read (Ok None) (part ++ more) ≡ Some r
      same more h = surveyed_header (part ++ more) (sym (first more h)) e (length (file_calls original (part ++ more))) None

  pub first_read : {n : ℕ} → header_read original l ≡ Ok n → {rest : Lists.List ℕ} → rest ≡ drop (length l) part → {reading : Reading}
      → ReadsPart (Ok (Some 1)) rest reading → ReadsPart (Ok None) part reading
  unfolding reading_refusal
  first_read {n} e {rest} q {reading} f = record { same = same; within = f.within; fewer = omega (arith, f.fewer, lines) }
    where
      left : rest ≡ drop 18 part
      left = q ∙ rest_after part l p

      lines : pieces part ≡ 1 + pieces rest
      lines = omega (arith, ap length left ∙ length-drop 18 part)

      same : (more : Lists.List ℕ) → Cut part more → ahead_read (Ok None) (part ++ more) ≡ ahead_read reading more
      same more h =
          let joined = ap (λ b. b ++ more) left ∙ sym (behind more h) in
          let whole = ap (header_read original) (first more h) ∙ e in
          let bs = drop 18 (part ++ more) in
          rw whole (ap (λ j. surveyed (ending 1 (lines_of bs)) j None) (sym (zero-add (length (step_calls original 1 (lines_of bs)))))
          ∙ ap (ahead_read (Ok (Some 1))) (sym joined) ∙ f.same more (rw (← left) at (cut_behind more h)))

-- an empty part, and one behind a final refusal
pub first_none : (part : Lists.List ℕ) → length part ≡ 0 → ReadsPart (Ok None) part (Ok None)
first_none [] e = record { same = λ more h. refl; within = tt; fewer = omega arith }
first_none (x ∷ part) e = absurd (omega arith)

pub stays_refused : (part : Lists.List ℕ) (r : Refusal) → ReadsPart (Err r) part (Err r)
stays_refused part r = record { same = λ more h. refl; within = tt; fewer = omega arith }

-- THE END: no header, and lines of which none is refused
pub told_start : ahead_read (Ok None) [] ≡ Some IncompleteLine
unfolding reading_refusal header_read line_read
told_start = refl

pub told_lines : (lines : ℕ) → ahead_read (Ok (Some lines)) [] ≡ cond (ltb 4097 lines) (Some TooManySteps) None
unfolding ending step_calls cut
told_lines lines = ap (λ b. cond b (Some TooManySteps) None) (go (ltb 4097 lines) refl)
  where
    go : (b : Bool) → ltb 4097 lines ≡ b → ltb 4096 (lines - 1 + 0) ≡ b
    go true e = lt-ltb 4096 (lines - 1 + 0) (omega (arith, ltb-true 4097 lines e))
    go false e = le-ltb 4096 (lines - 1 + 0) (omega (arith, ltb-false 4097 lines e))

-- ALL PARTS: each is read where the one before it left the reading; in the end what is told is what is told of all their bytes together
abbrev pub ReadBy : Reading → Lists.List (Lists.List ℕ) → Reading → Type 0
ReadBy reading [] reading' = reading ≡ reading'
ReadBy reading (p ∷ ps) reading' = (next : Reading) × ReadsPart reading p next × ReadBy next ps reading'

pub parts_told : (ps : Lists.List (Lists.List ℕ)) (reading reading' : Reading) → Whole ps → ReadBy reading ps reading'
    → ahead_read reading (joined ps) ≡ ahead_read reading' []
parts_told [] reading reading' w e = ap (λ r. ahead_read r []) e
parts_told (p ∷ []) reading reading' w (next, f, e) = f.same [] (inr refl) ∙ ap (λ r. ahead_read r []) e
parts_told (p ∷ (q ∷ ps)) reading reading' w (next, f, g) = f.same (joined (q ∷ ps)) (inl w.0) ∙ parts_told (q ∷ ps) next reading' w.1 g

-- and from the start on it is what Card 7 tells of the file
pub file_told : (ps : Lists.List (Lists.List ℕ)) (reading : Reading) → Whole ps → ReadBy (Ok None) ps reading → ahead_read reading [] ≡ reading_refusal (joined ps)
file_told ps reading w f = sym (parts_told ps (Ok None) reading w f)

-- A FILE THAT IS TOO LONG is refused
pub long_refused : (bs : Lists.List ℕ) → 73764 ≤ length bs → IsSome (reading_refusal bs)
unfolding reading_refusal
long_refused bs h = go (final_of bs) refl
  where
    go : (r : Option Refusal) → final_of bs ≡ r → IsSome (surveyed (final_of bs) (length (file_calls original bs)) None)
    go (Some r) e = rw e refl
    go None e = rw (long_file bs None h (ap final_number e)) refl

-- THE BUFFER, read over and over until a part does not fill it: behind the bytes before it stands the last part, a full one
pub record Sofar (part : Lists.List ℕ) (reading : Reading) : Type 0 where
  pub before : Lists.List ℕ
  pub full : length part ≡ 73764
  pub same : (more : Lists.List ℕ) → reading_refusal ((before ++ part) ++ more) ≡ ahead_read reading more
  pub within : Within reading

-- a full part is one of whole lines
full_cut : (part more : Lists.List ℕ) → length part ≡ 73764 → Cut part more
full_cut part more e = inl (4098, omega arith)

pub sofar_first : {part : Lists.List ℕ} {reading : Reading} → length part ≡ 73764 → ReadsPart (Ok None) part reading → Sofar part reading
sofar_first {part} e f = record { before = []; full = e; same = λ more. f.same more (full_cut part more e); within = f.within }

-- behind a final refusal nothing that follows changes what is told
pub sofar_refused : {part : Lists.List ℕ} {r : Refusal} → Sofar part (Err r) → TooLong part r
sofar_refused {part} {r} f =
    let all : take (length part) part ≡ part = take_all (length part) part (omega arith) in
    record {
      before = f.before;
      count = length part;
      inside = omega arith;
      long = omega (arith, f.full);
      refusal = rw all (sym (f.same []) ∙ ap reading_refusal (append-nil (f.before ++ part)));
      ends = inr (λ more. ap (λ b. reading_refusal ((f.before ++ b) ++ more)) all ∙ f.same more);
    }

module _ {part : Lists.List ℕ} {reading : Reading} (f : Sofar part reading) where
  -- the next part
  module _ (part' : Lists.List ℕ) (k : ℕ) (h : k ≤ length part') {reading' : Reading} (g : ReadsPart reading (take k part') reading') where
    next : (more : Lists.List ℕ) → Cut (take k part') more → reading_refusal (((f.before ++ part) ++ take k part') ++ more) ≡ ahead_read reading' more
    next more c = ap reading_refusal (append_assoc (f.before ++ part) (take k part') more) ∙ f.same (take k part' ++ more) ∙ g.same more c

    -- it is the last
    ends_here : ahead_read reading' [] ≡ reading_refusal ((f.before ++ part) ++ take k part')
    ends_here = sym (next [] (inr refl)) ∙ ap reading_refusal (append-nil ((f.before ++ part) ++ take k part'))

    pub sofar_told : IsSome (ahead_read reading' [])
    sofar_told =
        rw ends_here (long_refused ((f.before ++ part) ++ take k part')
        (rw (length-append (f.before ++ part) (take k part'), length-append f.before part) (omega (arith, f.full))))

    pub sofar_ends : k < length part' → {r : Refusal} → ahead_read reading' [] ≡ Some r → TooLong part' r
    sofar_ends short e = record {
      before = f.before ++ part;
      count = k;
      inside = h;
      long = rw (length-append f.before part) (omega (arith, f.full));
      refusal = sym e ∙ ends_here;
      ends = inl short;
    }

    -- it is full
    pub sofar_more : length part' ≡ 73764 → length part' ≤ k → Sofar part' reading'
    sofar_more e l =
        let all : take k part' ≡ part' = take_all k part' (omega arith) in
        record {
          before = f.before ++ part;
          full = e;
          same = λ more. ap (λ b. reading_refusal (((f.before ++ part) ++ b) ++ more)) (sym all) ∙ next more (full_cut (take k part') more (rw all e));
          within = g.within;
        }

-- A READER that gave all of this; `first` was read from it before, and what it had left then is known, or claims nothing
pub record Passed (known left : Option (Lists.List ℕ)) (first part : Lists.List ℕ) (reading : Reading) : Type 0 where
  pub sofar : Sofar part reading
  pub read : Lists.List ℕ
  pub all : sofar.before ++ part ≡ first ++ read
  pub taken : Consumes known left read

pub passed_first : {part : Lists.List ℕ} {reading : Reading} → length part ≡ 73764 → ReadsPart (Ok None) part reading
    → (known : Option (Lists.List ℕ)) → Passed known known part part reading
unfolding sofar_first
passed_first {part} e f known = record { sofar = sofar_first e f; read = []; all = sym (append-nil part); taken = Consumes-nil known }

-- the file, by what is left of it
file_by : {known left : Option (Lists.List ℕ)} {first part : Lists.List ℕ} {reading : Reading} (p : Passed known left first part reading) (bs more : Lists.List ℕ)
    → bs ≡ p.read ++ more → first ++ bs ≡ (p.sofar.before ++ part) ++ more
file_by {first = first} p bs more e = ap (λ l. first ++ l) e ∙ sym (append_assoc first p.read more) ∙ ap (λ l. l ++ more) (sym p.all)

pub passed_refused : {known left : Option (Lists.List ℕ)} {first part : Lists.List ℕ} {r : Refusal} → Passed known left first part (Err r)
    → IfSome known (λ bs. Some r ≡ reading_refusal (first ++ bs))
passed_refused {known} {left} {first} {part} {r} p = go known left p.taken
  where
    go : (a b : Option (Lists.List ℕ)) → Consumes a b p.read → IfSome a (λ bs. Some r ≡ reading_refusal (first ++ bs))
    go None b t = tt
    go (Some bs) None t = absurd t
    go (Some bs) (Some more) t = sym (p.sofar.same more) ∙ ap reading_refusal (sym (file_by p bs more t))

module _ {known left : Option (Lists.List ℕ)} {first part : Lists.List ℕ} {reading : Reading} (p : Passed known left first part reading) where
  module _ (part' : Lists.List ℕ) (k : ℕ) (h : k ≤ length part') {reading' : Reading} (g : ReadsPart reading (take k part') reading')
      (left' : Option (Lists.List ℕ)) (t : Consumes left left' (take k part')) where
    -- the next part is the last
    pub passed_ends : IsAtEnd left' → {r : Refusal} → ahead_read reading' [] ≡ Some r → IfSome known (λ bs. Some r ≡ reading_refusal (first ++ bs))
    passed_ends end {r} e = go known left' (Consumes-trans known left left' p.read (take k part') p.taken t) end
      where
        go : (a b : Option (Lists.List ℕ)) → Consumes a b (p.read ++ take k part') → IsAtEnd b → IfSome a (λ bs. Some r ≡ reading_refusal (first ++ bs))
        go None b u nil = tt
        go (Some bs) None u nil = absurd u
        go (Some bs) (Some more) u nil =
            let same : bs ≡ p.read ++ take k part' = u ∙ ap (λ l. (p.read ++ take k part') ++ l) nil ∙ append-nil (p.read ++ take k part') in
            sym e ∙ ends_here p.sofar part' k h g ∙ ap reading_refusal (sym (file_by p bs (take k part') same))

    -- it is full
    pub passed_more : length part' ≡ 73764 → length part' ≤ k → Passed known left' first part' reading'
    unfolding sofar_more
    passed_more e l =
        let all : take k part' ≡ part' = take_all k part' (omega arith) in
        record {
          sofar = sofar_more p.sofar part' k h g e l;
          read = p.read ++ take k part';
          all = ap (λ b. (p.sofar.before ++ part) ++ b) (sym all) ∙ ap (λ l. l ++ take k part') p.all ∙ append_assoc first p.read (take k part');
          taken = Consumes-trans known left left' p.read (take k part') p.taken t;
        }

  -- it is refused, whether it is the last or full
  module _ (part' : Lists.List ℕ) (k : ℕ) (h : k ≤ length part') {r : Refusal} (g : ReadsPart reading (take k part') (Err r))
      (left' : Option (Lists.List ℕ)) (t : Consumes left left' (take k part')) (size : length part' ≡ 73764) where
    pub next_refused : TooLong part' r
    next_refused = go (cases_lt k (length part'))
      where
        go : (k < length part') ⊎ (length part' ≤ k) → TooLong part' r
        go (inl short) = sofar_ends p.sofar part' k h g short refl
        go (inr full) = sofar_refused (sofar_more p.sofar part' k h g size full)

    pub next_told : (k < length part' → IsAtEnd left') → IfSome known (λ bs. Some r ≡ reading_refusal (first ++ bs))
    next_told end = go (cases_lt k (length part'))
      where
        go : (k < length part') ⊎ (length part' ≤ k) → IfSome known (λ bs. Some r ≡ reading_refusal (first ++ bs))
        go (inl short) = passed_ends part' k h g left' t (end short) refl
        go (inr full) = passed_refused (passed_more part' k h g left' t size full)
