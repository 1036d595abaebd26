-- The buffer among the parameters of a walk, after the numbers of `Numbers.antt`: b says whether a slice is lent to the call beside the table, and of what
-- type. Each lemma is by cases on b.
--     buffer, buffer'      its slot in the call on a lent table, where the table has the first lifetime, and in a function on a table by value
--     contents, seen       what it holds at entry and at exit; nothing where there is no buffer
--     hand_on, take_back   the lent call passes it on to the step by value for good, and what says its last contents comes back
--     hand_off, have_back  an owner passes it on to the lent call, likewise
--     prepare, passed      the MIR that borrows it again for the call, and the operand that passes it
use mathlib.Core.Path.{◌≡◌, refl}
use Prim.Native.Nat.{ℕ, zero, suc}
use mathlib.Core.List.{List, [], ◌∷◌}
use lib.ListN.{length}
use seplogic.Ra.Ura.{Ura}
use base.Fraction.{full_share}
use mir.Syntax.{Ty, Step as PStep, named, erased, mut, ty_ref, deref, field, place, copy, Opd as Operand, addr_of, aggregate, Body, seq, assign}
use mir.Syntax.{Local, local, value_local}
use mir.Val.{vptr}
use base.Logic.{ent, id⊢}
use base.Fml.{ftrue, fat, froom, fdies}
use prog.Wp.{Heap, Env, Spot, Calls, Loops, spot_of}
use types.Logic.{Logic, sem}
use contract.Lifetimes.{Lfts}
use types.Kit.{Item, ‵, ◌⊛◌, given, mean, nth, Post, Goal, allocs, passes, frees, runs, Seq, Step, step, ◌$◌, ◌∵◌, !, qed, move, drop, split, join}
use types.Kit.{group, fsplit, fjoin, feq_l, check, done}
use types.Run.{Walks, Finds, Opds, look, init, forget, stop, hop, fld, load, addr, and_then, no_more, assigns, alloc1, pass1, pass0, free1}
use types.Part.{agg, whole, sub, look_in}
use denote.RattleType.{RattleType, Denots, owns, flat}
use denote.Laws.{Ises, Are, Spells, valss, Tellss}
use denote.Memory.{lone, pointee}
use denote.Ref.{MutBor}
use denote.Slice.{slice_val, slice_ty, Room, mut_slice_vals, mut_slice_Tells}
use denote.Signature.{Slot, plain, mut_slice_of, types_at}
use denote.Steps.{nothing}
use denote.Triple.End.{all, Fins, Outs, outs, lasts_of}
use denote.Triple.Walked.{Stays, gave_slice, fits_of, has_of, AllGo, Goes-gave_slice}
use denote.Exit.{yes}
use Rattle.walks.proofs.Numbers.{Nums, past, env, past_is, from_at, look_first}

-- what is lent beside the table: nothing, or a slice of a type
pub data Beside : Type 2 where
  none : Beside
  slice : RattleType → Beside

abbrev pub Cell : Beside → Type 0
Cell none = ℕ
Cell (slice X) = X.Denot

-- ---- a signature
-- the buffer's lifetimes
abbrev pub lives : Beside → ℕ
lives none = 0
lives (slice X) = 1

abbrev pub buffer : (b : Beside) → List (Slot (suc (lives b)))
buffer none = []
buffer (slice X) = mut_slice_of (1 ∷ []) tt (plain (λ _. X)) ∷ []

abbrev pub buffer' : (b : Beside) → List (Slot (lives b))
buffer' none = []
buffer' (slice X) = mut_slice_of (0 ∷ []) tt (plain (λ _. X)) ∷ []

abbrev pub gave : (b : Beside) → Stays (buffer b) (all yes (buffer b))
gave none = tt
gave (slice X) = (gave_slice (1 ∷ []) tt (plain (λ _. X)), tt)

abbrev pub gave' : (b : Beside) → Stays (buffer' b) (all yes (buffer' b))
gave' none = tt
gave' (slice X) = (gave_slice (0 ∷ []) tt (plain (λ _. X)), tt)

pub go_buffer : {M : Type 1} {𝓤 : Ura M} (𝓛 : Logic 𝓤) (b : Beside) → AllGo 𝓛 (suc (lives b)) (buffer b)
    (all yes (buffer b)) (gave b)
go_buffer 𝓛 none = tt
go_buffer 𝓛 (slice X) = (Goes-gave_slice 𝓛 2 1 tt (plain (λ _. X)), tt)

pub go_buffer' : {M : Type 1} {𝓤 : Ura M} (𝓛 : Logic 𝓤) (b : Beside) → AllGo 𝓛 (lives b) (buffer' b)
    (all yes (buffer' b)) (gave' b)
go_buffer' 𝓛 none = tt
go_buffer' 𝓛 (slice X) = (Goes-gave_slice 𝓛 1 0 tt (plain (λ _. X)), tt)

abbrev pub spell : (b : Beside) (κs : Lfts (suc (lives b))) → Spells (types_at (buffer b) κs)
spell none κs = tt
spell (slice X) κs = (mut_slice_vals, tt)

abbrev pub spell' : (b : Beside) (κs : Lfts (lives b)) → Spells (types_at (buffer' b) κs)
spell' none κs = tt
spell' (slice X) κs = (mut_slice_vals, tt)

pub spell_tells : (b : Beside) (κs : Lfts (suc (lives b))) → Tellss (types_at (buffer b) κs) (Ises (types_at (buffer b) κs)) (spell b κs)
spell_tells none κs = tt
spell_tells (slice X) κs = (mut_slice_Tells (named 1) κs.1.0 X, tt)

pub spell_tells' : (b : Beside) (κs : Lfts (lives b)) → Tellss (types_at (buffer' b) κs) (Ises (types_at (buffer' b) κs)) (spell' b κs)
spell_tells' none κs = tt
spell_tells' (slice X) κs = (mut_slice_Tells (named 0) κs.0 X, tt)

-- what it holds
abbrev pub contents : (b : Beside) (κs : Lfts (suc (lives b))) → Denots (types_at (buffer b) κs) → List (Cell b)
contents none κs x = []
contents (slice X) κs x = x.0.now

abbrev pub contents' : (b : Beside) (κs : Lfts (lives b)) → Denots (types_at (buffer' b) κs) → List (Cell b)
contents' none κs x = []
contents' (slice X) κs x = x.0.now

abbrev pub seen : (b : Beside) (κs : Lfts (suc (lives b))) → Outs κs (buffer b) (all yes (buffer b)) → List (Cell b)
seen none κs e = []
seen (slice X) κs e = e.0.now

abbrev pub seen' : (b : Beside) (κs : Lfts (lives b)) → Outs κs (buffer' b) (all yes (buffer' b)) → List (Cell b)
seen' none κs e = []
seen' (slice X) κs e = e.0.now

-- the reference itself, and that its count fits a machine word
abbrev pub Loan : Beside → Type 0
Loan none = Unit {0}
Loan (slice X) = MutBor (List X.Denot)

abbrev pub held : (b : Beside) (κs : Lfts (suc (lives b))) → Denots (types_at (buffer b) κs) → Loan b
held none κs x = tt
held (slice X) κs x = x.0

abbrev pub held' : (b : Beside) (κs : Lfts (lives b)) → Denots (types_at (buffer' b) κs) → Loan b
held' none κs x = tt
held' (slice X) κs x = x.0

abbrev pub Fine : (b : Beside) → Loan b → Type 0
Fine none y = Unit {0}
Fine (slice X) y = Room X (length y.now)

pub fine_of : (b : Beside) (κs : Lfts (suc (lives b))) (x : Denots (types_at (buffer b) κs))
    → Are (types_at (buffer b) κs) (Ises (types_at (buffer b) κs)) x (valss (types_at (buffer b) κs) (spell b κs) x) → Fine b (held b κs x)
fine_of none κs x are = tt
fine_of (slice X) κs x are = are.0.0.1

pub fine_of' : (b : Beside) (κs : Lfts (lives b)) (x : Denots (types_at (buffer' b) κs))
    → Are (types_at (buffer' b) κs) (Ises (types_at (buffer' b) κs)) x (valss (types_at (buffer' b) κs) (spell' b κs) x) → Fine b (held' b κs x)
fine_of' none κs x are = tt
fine_of' (slice X) κs x are = are.0.0.1

-- ---- the buffer that the step by value is handed, and what it leaves of it
abbrev pub on : (b : Beside) (κs : Lfts (suc (lives b))) → Denots (types_at (buffer b) κs) → Denots (types_at (buffer' b) κs.1)
on none κs x = tt
on (slice X) κs x = x

abbrev pub end : (b : Beside) (κs : Lfts (suc (lives b))) (x : Denots (types_at (buffer b) κs)) → Fins κs.1 (buffer' b) (all yes (buffer' b)) (on b κs x)
    → Fins κs (buffer b) (all yes (buffer b)) x
end none κs x w = tt
end (slice X) κs x w = w

-- what is said of the contents in the one is said in the other
pub same_said : (b : Beside) (κs : Lfts (suc (lives b))) (x : Denots (types_at (buffer b) κs)) (w : Fins κs.1 (buffer' b) (all yes (buffer' b)) (on b κs x))
    (P : List (Cell b) → List (Cell b) → Type 0)
    → P (contents' b κs.1 (on b κs x)) (seen' b κs.1 (outs κs.1 (buffer' b) (all yes (buffer' b)) (on b κs x) w))
    → P (contents b κs x) (seen b κs (outs κs (buffer b) (all yes (buffer b)) x (end b κs x w)))
same_said none κs x w P p = p
same_said (slice X) κs x w P p = p

-- the other way: the buffer that a lent call is handed by an owner, and what it leaves of it
abbrev pub off : (b : Beside) (κs : Lfts (suc (lives b))) → Denots (types_at (buffer' b) κs.1) → Denots (types_at (buffer b) κs)
off none κs x = tt
off (slice X) κs x = x

abbrev pub end' : (b : Beside) (κs : Lfts (suc (lives b))) (x : Denots (types_at (buffer' b) κs.1))
    → Fins κs (buffer b) (all yes (buffer b)) (off b κs x) → Fins κs.1 (buffer' b) (all yes (buffer' b)) x
end' none κs x w = tt
end' (slice X) κs x w = w

pub same_said' : (b : Beside) (κs : Lfts (suc (lives b))) (x : Denots (types_at (buffer' b) κs.1)) (w : Fins κs (buffer b) (all yes (buffer b)) (off b κs x))
    (P : List (Cell b) → List (Cell b) → Type 0)
    → P (contents b κs (off b κs x)) (seen b κs (outs κs (buffer b) (all yes (buffer b)) (off b κs x) w))
    → P (contents' b κs.1 x) (seen' b κs.1 (outs κs.1 (buffer' b) (all yes (buffer' b)) x (end' b κs x w)))
same_said' none κs x w P p = p
same_said' (slice X) κs x w P p = p

module _ {M : Type 1} {𝓤 : Ura M} (𝓛 : Logic 𝓤) where
  pub hand_on : (b : Beside) (κs : Lfts (suc (lives b))) (x : Denots (types_at (buffer b) κs))
      → ent 𝓤 (sem 𝓛 (owns (types_at (buffer b) κs) x (valss (types_at (buffer b) κs) (spell b κs) x)))
      (sem 𝓛 (owns (types_at (buffer' b) κs.1) (on b κs x) (valss (types_at (buffer' b) κs.1) (spell' b κs.1) (on b κs x))))
  hand_on none κs x = id⊢ 𝓤 _
  hand_on (slice X) κs x = id⊢ 𝓤 _

  pub take_back : (b : Beside) (κs : Lfts (suc (lives b))) (x : Denots (types_at (buffer b) κs)) (w : Fins κs.1 (buffer' b) (all yes (buffer' b)) (on b κs x))
      → ent 𝓤 (sem 𝓛 (lasts_of κs.1 (buffer' b) (all yes (buffer' b)) (on b κs x) w))
      (mean 𝓛 (given (fits_of κs (buffer b) (all yes (buffer b)) (gave b) x (end b κs x w))
      (‵ (has_of κs (buffer b) (all yes (buffer b)) (gave b) x (end b κs x w) (valss (types_at (buffer b) κs) (spell b κs) x)))))
  take_back none κs x w = qed 𝓛 (‵ ftrue ∷ []) ∵ check ! tt $ done !
  take_back (slice X) κs x w = qed 𝓛 (‵ (lasts_of κs.1 (buffer' (slice X)) (all yes (buffer' (slice X))) x w) ∷ []) ∵ fsplit ! $ fsplit ! $ fsplit ! $
      move ! (1 ∷ []) $ feq_l ! (λ l. check ! (l, tt) $ fjoin ! $ fjoin ! $ done !)

  pub hand_off : (b : Beside) (κs : Lfts (suc (lives b))) (x : Denots (types_at (buffer' b) κs.1))
      → ent 𝓤 (sem 𝓛 (owns (types_at (buffer' b) κs.1) x (valss (types_at (buffer' b) κs.1) (spell' b κs.1) x)))
      (sem 𝓛 (owns (types_at (buffer b) κs) (off b κs x) (valss (types_at (buffer b) κs) (spell b κs) (off b κs x))))
  hand_off none κs x = id⊢ 𝓤 _
  hand_off (slice X) κs x = id⊢ 𝓤 _

  pub have_back : (b : Beside) (κs : Lfts (suc (lives b))) (x : Denots (types_at (buffer' b) κs.1)) (w : Fins κs (buffer b) (all yes (buffer b)) (off b κs x))
      → ent 𝓤 (sem 𝓛 (lasts_of κs (buffer b) (all yes (buffer b)) (off b κs x) w))
      (mean 𝓛 (given (fits_of κs.1 (buffer' b) (all yes (buffer' b)) (gave' b) x (end' b κs x w))
      (‵ (has_of κs.1 (buffer' b) (all yes (buffer' b)) (gave' b) x (end' b κs x w) (valss (types_at (buffer' b) κs.1) (spell' b κs.1) x)))))
  have_back none κs x w = qed 𝓛 (‵ ftrue ∷ []) ∵ check ! tt $ done !
  have_back (slice X) κs x w = qed 𝓛 (‵ (lasts_of κs (buffer (slice X)) (all yes (buffer (slice X))) x w) ∷ []) ∵ fsplit ! $ fsplit ! $ fsplit ! $
      move ! (1 ∷ []) $ feq_l ! (λ l. check ! (l, tt) $ fjoin ! $ fjoin ! $ done !)

-- ---- the MIR
-- the local j places after the result, the table and the k numbers; and after the buffer
abbrev pub after : ℕ → ℕ → ℕ
after k j = suc (suc (past k j))

abbrev pub beyond : Beside → ℕ → ℕ
beyond none j = j
beyond (slice X) j = suc j

-- the types of a buffer at the lifetime n of the signature, and of a borrow for the call: its pointer, and the slice
abbrev buffer_ty : ℕ → RattleType → Ty
buffer_ty n X = slice_ty (ty_ref (named n) mut (pointee X.written))

abbrev pointer_ty : RattleType → Ty
pointer_ty X = ty_ref erased mut (pointee X.written)

-- the locals: the buffer; and after m others its pointer and the slice that is passed
abbrev pub buffer_local : ℕ → Beside → List Local → List Local
buffer_local n none ls = ls
buffer_local n (slice X) ls = local (buffer_ty n X) value_local ∷ ls

abbrev pub borrow_locals : Beside → List Local → List Local
borrow_locals none ls = ls
borrow_locals (slice X) ls = local (pointer_ty X) value_local ∷ local (slice_ty (pointer_ty X)) value_local ∷ ls

abbrev pub prepare : Beside → ℕ → ℕ → Body → Body
prepare none k m body = body
prepare (slice X) k m body = seq (assign (place (after k (suc m)) []) (addr_of (place (after k 0) (field 0 ∷ deref (lone X.mir) ∷ []))))
    (seq (assign (place (after k (suc (suc m))) []) (aggregate (copy (place (after k (suc m)) []) ∷ copy (place (after k 0) (field 1 ∷ [])) ∷ []))) body)

abbrev pub passed : Beside → ℕ → ℕ → List Operand
passed none k m = []
passed (slice X) k m = copy (place (after k (suc (suc m))) []) ∷ []

-- their part of the environment, at the blocks p, and i and j
abbrev pub buffer_env : ℕ → Beside → ℕ → List (Ty × ℕ) → List (Ty × ℕ)
buffer_env n none p E = E
buffer_env n (slice X) p E = (buffer_ty n X, p) ∷ E

abbrev pub borrow_env : Beside → ℕ → ℕ → List (Ty × ℕ) → List (Ty × ℕ)
borrow_env none i j E = E
borrow_env (slice X) i j E = (pointer_ty X, i) ∷ (slice_ty (pointer_ty X), j) ∷ E

-- where they stand in the environment of what comes after the result and the table
abbrev pub Stand : {M : Type 1} (𝓤 : Ura M) (H : Heap 𝓤) → Env 𝓤 H → ℕ → Beside → (k m p i j : ℕ) → Type 0
Stand 𝓤 H E n none k m p i j = Unit {0}
Stand 𝓤 H E n (slice X) k m p i j = (spot_of 𝓤 H E (past k 0) ≡ spot_of 𝓤 H ((buffer_ty n X, p) ∷ []) 0)
    × (spot_of 𝓤 H E (past k (suc m)) ≡ spot_of 𝓤 H ((pointer_ty X, i) ∷ []) 0)
    × (spot_of 𝓤 H E (past k (suc (suc m))) ≡ spot_of 𝓤 H ((slice_ty (pointer_ty X), j) ∷ []) 0)

-- ---- one entry of the context for the buffer's local, and one for the two of the borrow
module _ {M : Type 1} (𝓤 : Ura M) where
  abbrev pub buffer_room : ℕ → Beside → ℕ → Item 𝓤
  buffer_room n none p = ‵ ftrue
  buffer_room n (slice X) p = ‵ (froom (buffer_ty n X) p zero) ⊛ ‵ (fdies (buffer_ty n X) p)

  abbrev pub buffer_cell : ℕ → (b : Beside) → Loan b → ℕ → Item 𝓤
  buffer_cell n none y p = ‵ ftrue
  buffer_cell n (slice X) y p = ‵ (fat full_share (buffer_ty n X) p zero (slice_val y.ref_ptr (length y.now))) ⊛ ‵ (fdies (buffer_ty n X) p)

  abbrev pub borrow_rooms : Beside → ℕ → ℕ → Item 𝓤
  borrow_rooms none i j = ‵ ftrue
  borrow_rooms (slice X) i j =
      ‵ (froom (slice_ty (pointer_ty X)) j zero) ⊛ ‵ (fdies (slice_ty (pointer_ty X)) j) ⊛ ‵ (froom (pointer_ty X) i zero) ⊛ ‵ (fdies (pointer_ty X) i)

  abbrev pub borrow_cells : (b : Beside) → Loan b → ℕ → ℕ → Item 𝓤
  borrow_cells none y i j = ‵ ftrue
  borrow_cells (slice X) y i j =
      ‵ (fat full_share (slice_ty (pointer_ty X)) j zero (slice_val y.ref_ptr (length y.now))) ⊛ ‵ (fdies (slice_ty (pointer_ty X)) j) ⊛ ‵
      (fat full_share (pointer_ty X) i zero (vptr y.ref_ptr.0 y.ref_ptr.1)) ⊛ ‵ (fdies (pointer_ty X) i)

module _ {M : Type 1} {𝓤 : Ura M} {𝓛 : Logic 𝓤} {K : Type 0} {Γ : List (Item 𝓤)} where
  -- a local after the buffer
  open 𝓛 use {H}

  pub from_rest : K → (m : ℕ) (n : ℕ) (b : Beside) (k : ℕ) (bs : Nums k) (p : ℕ) (E : Env 𝓤 H) {e e' : Ty × ℕ} {st : List PStep} {sp : Spot 𝓤 H}
      → Walks K 𝓛 Γ (e ∷ e' ∷ env k bs (buffer_env n b p E)) (spot_of 𝓤 H E m) st sp
      → Finds K 𝓛 Γ (e ∷ e' ∷ env k bs (buffer_env n b p E)) (place (after k (beyond b m)) st) sp
  from_rest t m n none k bs p E = from_at t (past_is 𝓤 H k bs E m)
  from_rest t m n (slice X) k bs p E = from_at t (past_is 𝓤 H k bs (buffer_env n (slice X) p E) (suc m))

  pub alloc_buffer : K → (n : ℕ) (b : Beside) {ls : List Local} {Kt : Env 𝓤 H → Goal 𝓤 H} →
      ((p : ℕ) → Seq K 𝓛 (buffer_room 𝓤 n b p ∷ Γ) (allocs ls (λ E. Kt (buffer_env n b p E))))
      → Seq K 𝓛 Γ (allocs (buffer_local n b ls) Kt)
  alloc_buffer t n none h = nothing t $ h 0
  alloc_buffer t n (slice X) h = alloc1 t (λ p. join t $ h p)

  pub alloc_borrow : K → (b : Beside) {ls : List Local} {Kt : Env 𝓤 H → Goal 𝓤 H}
      → ((i j : ℕ) → Seq K 𝓛 (borrow_rooms 𝓤 b i j ∷ Γ) (allocs ls (λ E. Kt (borrow_env b i j E)))) → Seq K 𝓛 Γ (allocs (borrow_locals b ls) Kt)
  alloc_borrow t none h = nothing t $ h 0 0
  alloc_borrow t (slice X) h = alloc1 t (λ i. alloc1 t (λ j. group t 4 $ h i j))

  pub pass_buffer : K → (b : Beside) (κs : Lfts (suc (lives b))) (x : Denots (types_at (buffer b) κs)) → Fine b (held b κs x) → (p : ℕ) (E : Env 𝓤 H)
      {g : Goal 𝓤 H}
      → Step K 𝓛 (buffer_cell 𝓤 1 b (held b κs x) p ∷ Γ) g (buffer_room 𝓤 1 b p ∷ Γ) (passes (buffer_env 1 b p E)
      (flat (types_at (buffer b) κs) (valss (types_at (buffer b) κs) (spell b κs) x)) g)
  pass_buffer t none κs x fine p E = pass0 t
  pass_buffer t (slice X) κs x fine p E = step (λ s. split t $ pass1 t (init t 0 refl (tt, (tt, (record { fits = fine.0 }, tt)))) $ pass0 t $ join t $ s)

  pub pass_buffer' : K → (b : Beside) (κs : Lfts (lives b)) (x : Denots (types_at (buffer' b) κs)) → Fine b (held' b κs x) → (p : ℕ) (E : Env 𝓤 H)
      {g : Goal 𝓤 H}
      → Step K 𝓛 (buffer_cell 𝓤 0 b (held' b κs x) p ∷ Γ) g (buffer_room 𝓤 0 b p ∷ Γ) (passes (buffer_env 0 b p E)
      (flat (types_at (buffer' b) κs) (valss (types_at (buffer' b) κs) (spell' b κs) x)) g)
  pass_buffer' t none κs x fine p E = pass0 t
  pass_buffer' t (slice X) κs x fine p E = step (λ s. split t $ pass1 t (init t 0 refl (tt, (tt, (record { fits = fine.0 }, tt)))) $ pass0 t $ join t $ s)

  pub prepares : K → (n : ℕ) (b : Beside) (y : Loan b) → Fine b y → (k m p i j : ℕ) {e e' : Ty × ℕ} {E : Env 𝓤 H} → Stand 𝓤 H E n b k m p i j
      → {C : Calls 𝓤 H} {Λ : Loops 𝓤 H} {body : Body} {q : Post 𝓤 H}
      → Step K 𝓛 (borrow_cells 𝓤 b y i j ∷ buffer_cell 𝓤 n b y p ∷ Γ) (runs C Λ (e ∷ e' ∷ E) body q)
      (borrow_rooms 𝓤 b i j ∷ buffer_cell 𝓤 n b y p ∷ Γ) (runs C Λ (e ∷ e' ∷ E) (prepare b k m body) q)
  prepares t n none y fine k m p i j at = step (λ s. s)
  prepares t n (slice X) y fine k m p i j at = step (λ s.
      -- [the slice; …; the pointer; …; the buffer; …]
      split t $ move t (1 ∷ []) $ split t $ move t (1 ∷ []) $ split t $ move t (3 ∷ 2 ∷ 0 ∷ 1 ∷ []) $ move t (4 ∷ []) $ split t $
      move t (2 ∷ 3 ∷ 4 ∷ 5 ∷ 0 ∷ 1 ∷ []) $
      assigns t (addr t (from_at t at.0 (fld t refl (hop t (look_in t 4 (sub t 0 refl (whole t))) (stop t)))))
      (from_at t at.1 (stop t)) (init t 2 refl (tt, tt)) $
      assigns t (agg t (and_then t (load t (from_at t at.1 (stop t)) (look t 2 refl))
      (and_then t (load t (from_at t at.0 (fld t refl (stop t))) (look_in t 4 (sub t 1 refl (whole t)))) (no_more t))))
      (from_at t at.2 (stop t)) (init t 0 refl (tt, (tt, (record { fits = fine.0 }, tt)))) $
      move t (4 ∷ 5 ∷ []) $ join t $
      move t (1 ∷ 2 ∷ 3 ∷ 4 ∷ []) $ group t 4 $ s)

  -- entry l of the context is that of the borrow
  pub read_borrow : K → (l n : ℕ) (b : Beside) (κs : Lfts (suc (lives b))) (x : Denots (types_at (buffer b) κs)) (k m p i j : ℕ) {e e' : Ty × ℕ}
      {E : Env 𝓤 H} → Stand 𝓤 H E n b k m p i j → nth 𝓛 l Γ ≡ borrow_cells 𝓤 b (held b κs x) i j
      → Opds K 𝓛 Γ (e ∷ e' ∷ E) (passed b k m) (flat (types_at (buffer' b) κs.1) (valss (types_at (buffer' b) κs.1) (spell' b κs.1) (on b κs x)))
  read_borrow t l n none κs x k m p i j at is = no_more t
  read_borrow t l n (slice X) κs x k m p i j at is = and_then t (load t (from_at t at.2 (stop t)) (look_first t l is)) (no_more t)

  pub read_borrow' : K → (l n : ℕ) (b : Beside) (κs : Lfts (suc (lives b))) (x : Denots (types_at (buffer' b) κs.1)) (k m p i j : ℕ) {e e' : Ty × ℕ}
      {E : Env 𝓤 H} → Stand 𝓤 H E n b k m p i j → nth 𝓛 l Γ ≡ borrow_cells 𝓤 b (held' b κs.1 x) i j
      → Opds K 𝓛 Γ (e ∷ e' ∷ E) (passed b k m) (flat (types_at (buffer b) κs) (valss (types_at (buffer b) κs) (spell b κs) (off b κs x)))
  read_borrow' t l n none κs x k m p i j at is = no_more t
  read_borrow' t l n (slice X) κs x k m p i j at is = and_then t (load t (from_at t at.2 (stop t)) (look_first t l is)) (no_more t)

  pub free_buffer : K → (n : ℕ) (b : Beside) (y : Loan b) (p : ℕ) {E : Env 𝓤 H} {g : Goal 𝓤 H}
      → Step K 𝓛 Γ (frees E g) (buffer_cell 𝓤 n b y p ∷ Γ) (frees (buffer_env n b p E) g)
  free_buffer t n none y p = drop t
  free_buffer t n (slice X) y p = step (λ s. split t $ forget t 0 refl $ free1 t $ s)

  pub free_borrow : K → (b : Beside) (y : Loan b) (i j : ℕ) {E : Env 𝓤 H} {g : Goal 𝓤 H}
      → Step K 𝓛 Γ (frees E g) (borrow_cells 𝓤 b y i j ∷ Γ) (frees (borrow_env b i j E) g)
  free_borrow t none y i j = drop t
  free_borrow t (slice X) y i j = step (λ s. split t $ move t (1 ∷ []) $ split t $ move t (1 ∷ []) $ split t $ forget t 0 refl $ free1 t $
      move t (1 ∷ 0 ∷ []) $ forget t 0 refl $ free1 t $ s)
