-- What a session serves, case by case; the header and the session that it opens; sessions that go on.
use Prim.Native.Nat.{ℕ, ◌≤◌}
use native.Mathlib.Omega.{arith}
use mathlib.Core.Path.{◌≡◌, refl, ap, subst}
use mathlib.Core.Logic.{◌≢◌}
use mathlib.Core.Bool.{Bool, true, false, ◌&&◌, cond, true≢false}
use mathlib.Core.List as Lists
use lib.ListN.{length, get_or, take, drop}
use lib.Dec.{eqb, ltb}
use Rattle.std.specs.Prelude.{Option, Some, None, Result, Ok, Err, is_some, IfOk, IfErr}
use Rattle.std.proofs.lemmas.Bool.Decides.{nat_tests}
use Rattle.columns.specs.Reading.{column_read}
use Rattle.simulation.specs.Calls.{Board, original, sized, Call, Buffer, Bytes, bytes_of}
use Rattle.transition.specs.Forms.{Form}
use Rattle.transition.proofs.Written.{Sized, sized_of}
use Rattle.transition.proofs.Theorem.{Lawful, step_bytes, ReachedTable, table_fresh, table_passes, table_step}
use Rattle.moves.specs.Moves.{refusal_number, final_number}
use Rattle.moves.proofs.MoveLaws.{positive, some_final, none_final}
use Rattle.moves.specs.declared.Refusal.{Refusal}
use Rattle.moves.specs.declared.Refusal.TheVariants.{IncompleteLine, TooManyLines}
use Rattle.schedule.specs.Tables.{Tables, tables}
use Rattle.schedule.specs.Lines.{step_read, line_read, next_line, header_said, header_read}
use Rattle.schedule.specs.Sessions.{Session, session, is_final, Served, unmoved, ill_formed, opened_by, header_of, step_line, serve_of, Serves}
use Rattle.schedule.specs.declared.Line.{Line}

-- A LINE THAT IS REFUSED WHEN IT IS READ: by 8, 9 or 12, so what holds of these three holds of its number
module _ (P : ℕ → Type 0) where
  abbrev pub Says : Result Line Refusal → Type 0
  Says l = IfErr l (λ r. P (refusal_number r))

  module _ (eight : P 8) (nine : P 9) where
    read_says : (x y z : Option ℕ) → Says (step_read x y z)
    read_says None y z = nine
    read_says (Some a) None z = nine
    read_says (Some a) (Some b) None = nine
    read_says (Some a) (Some b) (Some d) = tt

    line_says : (l : Lists.List ℕ) → Says (line_read l)
    unfolding line_read
    line_says l = go (eqb (length l) 18 && eqb (get_or l 17 0) 10)
      where
        columns : Result Line Refusal
        columns = step_read (column_read (take 3 l)) (column_read (take 3 (drop 3 l))) (column_read (take 11 (drop 6 l)))

        go : (b : Bool) → Says (cond b columns (Err IncompleteLine))
        go true = read_says (column_read (take 3 l)) (column_read (take 3 (drop 3 l))) (column_read (take 11 (drop 6 l)))
        go false = eight

    pub next_says : P 12 → (lines : ℕ) (l : Lists.List ℕ) → Says (next_line lines l)
    next_says twelve lines l = go (ltb 1000000 lines)
      where
        go : (b : Bool) → Says (cond b (Err TooManyLines) (line_read l))
        go true = twelve
        go false = line_says l

-- it has a number
abbrev pub Numbered : Result Line Refusal → Type 0
Numbered = Says (λ k. k ≢ 0)

-- it is not 7
pub next_long : (lines : ℕ) (l : Lists.List ℕ) (r : Refusal) → next_line lines l ≡ Err r → refusal_number r ≢ 7
next_long lines l r e = subst (Says (λ k. k ≢ 7)) e (next_says (λ k. k ≢ 7) (omega arith) (omega arith) (omega arith) lines l)

-- a step has 18 bytes
step_length : (l : Lists.List ℕ) (q : Line) → line_read l ≡ Ok q → length l ≡ 18
unfolding line_read
step_length l q e = grind (arith, nat_tests)

module _ (lines : ℕ) (l : Lists.List ℕ) where
  pub next_numbered : Numbered (next_line lines l)
  next_numbered = next_says (λ k. k ≢ 0) (omega arith) (omega arith) (omega arith) lines l

  pub next_refused : (r : Refusal) → next_line lines l ≡ Err r → refusal_number r ≢ 0
  next_refused r e = subst Numbered e next_numbered

  -- a line that is a step is whole, and none too many
  pub next_length : (q : Line) → next_line lines l ≡ Ok q → length l ≡ 18
  next_length q e = grind (arith, nat_tests, step_length l q)

  pub next_within : (q : Line) → next_line lines l ≡ Ok q → lines ≤ 1000000
  next_within q e = grind (arith, nat_tests)

-- THE HEADER

-- an accepted one has as many processes as the board can have
abbrev Sound : Board → Result ℕ Refusal → Type 0
Sound B h = IfOk h (λ n. sized B n ≡ true)

said_sound : (B : Board) (w : Result Line Refusal) → Sound B (header_said B w)
said_sound B (Err r) = tt
said_sound B (Ok q) = grind arith

module _ (B : Board) (l : Lists.List ℕ) where
  header_sound : Sound B (header_read B l)
  unfolding header_read
  header_sound = said_sound B (line_read l)

  pub header_refused : (r : Refusal) → header_read B l ≡ Err r → refusal_number r ≢ 0
  header_refused r e = positive r

  pub header_stations : 1 ≤ B.per_station → (n : ℕ) → header_read B l ≡ Ok n → Sized B n
  header_stations some n e = sized_of some (subst (Sound B) e header_sound)

  -- and it is a whole line
  pub header_length : (n : ℕ) → header_read B l ≡ Ok n → length l ≡ 18
  unfolding header_read
  header_length n e = grind (arith, step_length l)

-- on the original board, 2 to 32
pub original_stations : (l : Lists.List ℕ) (n : ℕ) → header_read original l ≡ Ok n → (2 ≤ n) × (n ≤ 32)
original_stations l n e = let z = header_stations original l (omega arith) n e in (z.low, z.high)

-- a session that goes on behind its header has an accepted one
pub header_accepted : (T : Tables) (l : Lists.List ℕ) → is_final (header_of T l) ≡ false → (n : ℕ) × (header_read T.board l ≡ Ok n)
header_accepted T l = go (header_read T.board l)
  where
    go : (h : Result ℕ Refusal) → is_final (opened_by T h) ≡ false → (n : ℕ) × (h ≡ Ok n)
    go (Err r) e = absurd (true≢false e)
    go (Ok n) e = (n, refl)

-- WHAT A SESSION SERVES

-- an outcome that is given under another name
pub serves_as : {T : Type 0} {o o' : Served T} {s : Session T} {refusal written : ℕ} {buffer buffer' : Lists.List ℕ} → o ≡ o'
    → Serves o' s refusal written buffer buffer' → Serves o s refusal written buffer buffer'
serves_as e h = rw e h

module _ (T : Tables) (s : Session T.Table) (line : Lists.List ℕ) where
  pub serve_final : final_number s.refusal ≢ 0 → serve_of T s line ≡ unmoved s
  unfolding serve_of
  serve_final f = simp (some_final _ f)

  module _ (none : final_number s.refusal ≡ 0) where
    pub serve_ill_formed : T.well_formed s.table ≡ false → serve_of T s line ≡ ill_formed s
    unfolding serve_of
    serve_ill_formed w = simp (none_final _ none, w)

    pub serve_next : T.well_formed s.table ≡ true → (l : Result Line Refusal) → next_line s.lines line ≡ l → serve_of T s line ≡ step_line T s l
    unfolding serve_of
    serve_next w l e = simp (none_final _ none, w, e)

-- A SESSION THAT GOES ON, on tables that calls lead to from the fresh one of n processes

-- what holds of all these tables: a line may come to them. A step call on a buffer writes bytes.
pub record Lead (T : Tables) (n : ℕ) : Type 1 where
  pub Led : T.Table → Type 0
  pub first : Led (T.fresh n)
  pub next : (t : T.Table) → Led t → (c : Call) → Led (T.step t c).table
  pub passes : (t : T.Table) → Led t → T.well_formed t ≡ true
  pub bytes : (t : T.Table) (c : Call) (b : ℕ) → c.room ≡ Buffer b → (T.step t c).report ≡ Bytes (bytes_of (T.step t c).report)

-- tables of a lawful form
pub lead : (F : Form) → Lawful F → (n : ℕ) → Sized F.board n → Lead (tables F) n
lead F L n z = record {
  Led = ReachedTable F n;
  first = table_fresh F L n z;
  next = table_step F L n z;
  passes = table_passes F L n z;
  bytes = step_bytes F;
}

pub record Live {T : Tables} {n : ℕ} (K : Lead T n) (s : Session T.Table) : Type 0 where
  pub going : s.refusal ≡ None
  pub led : K.Led s.table

module _ {T : Tables} {n : ℕ} (K : Lead T n) where
  pub fresh_live : (lines : ℕ) → Live K (session lines None (T.fresh n))
  fresh_live lines = record { going = refl; led = K.first }

  module _ (s : Session T.Table) (v : Live K s) where
    pub live_final : is_final s ≡ false
    live_final = ap is_some v.going

    pub live_serve : (l : Lists.List ℕ) → serve_of T s l ≡ step_line T s (next_line s.lines l)
    live_serve l = serve_next T s l (ap final_number v.going) (K.passes s.table v.led) (next_line s.lines l) refl

    -- a step keeps the session live
    pub next_live : (c : Call) (lines : ℕ) → Live K (session lines s.refusal (T.step s.table c).table)
    next_live c lines = record { going = v.going; led = K.next s.table v.led c }
