-- A step call on a lent table, walked once: for any table T and reply R that are plain data and any struct S of the two, any count k of numbers, with a
-- buffer or without, a slice of any type (b), for every relation Q of what it is passed and what it leaves, and for every step by value whose contract says Q.
--     fn lent(t: &mut T, n₁: u64, …, buffer: &mut [X]) -> R { let next = step(*t, n₁, …, buffer); *t = next.table; next.reply }
-- The table's borrow is opened, the table is copied out and passed by value; the table returned is stored over it, and the borrow is closed at that.
--     Step, Lend     the contracts of the step by value and of the lent call
--     lent_spec      the function that has this MIR meets `Lend`, where the one that it calls meets `Step`
use mathlib.Core.Path.{◌≡◌, refl, sym, ap, subst}
use Prim.Native.Nat.{ℕ, suc}
use mathlib.Core.List.{[], ◌∷◌, List}
use seplogic.Ra.Ura.{Ura}
use base.Fraction.{full_share}
use mir.Syntax.{Ty, Step as PStep, Callee, Fn, named, mut, ty_ref, deref, field, place, copy, local, value_local, rv_opd, seq, assign, call, return}
use mir.Val.{Val, vptr}
use base.Logic.{SProp, ent, emp, via, fst∗, id⊢}
use base.Fml.{GName, fat, flft, fobs, fbor}
use prog.Model.{Model}
use prog.Routine.{Routine, Env}
use prog.Wp.{Heap, Spot, Calls, Loops, WpFn, Tables, Closed, spot_of}
use types.Logic.{Logic}
use contract.Monad.{fact}
use contract.Lifetimes.{Lfts, Shares, toks}
use contract.Running.{Running, tables}
use types.Kit.{Item, ‵, raw, ◌⊛◌, some, later, given, ⋆, ◌$◌, ◌∵◌, !, qed, by, move, keep, drop, use1, use3, split, join, pick, learn, rewrite, fsplit}
use types.Kit.{fsplit3, fjoin, fjoin3, feq_i, suffices, frame, await, done}
use types.Run.{Walks as Follows, Finds, look, look_raw, init, store_raw, forget, stop, hop, fld, from, load, of_opd, and_then, assigns, land, returns, enter, alloc1, params1, pass1}
use types.Run.{alloc0, free1, free0}
use types.Part.{whole, sub, look_in}
use types.SemTy.{Body}
use sound.WpLaws.{FmC, fm_of, WpFn-mono}
use denote.RattleType.{Denots, Valss, owns, flat}
use denote.Laws.{Is, shows, valss}
use denote.Memory.{mem, cell_at, pointee}
use denote.Ref.{mut_vals, mut_Tells}
use denote.Signature.{plain, mut_ref_to, types_at}
use denote.Steps.{only, opens, closes, owned, peeks, heard}
use denote.Struct.Steps.{spelt}
use denote.Triple.Statement.{Contract, Triple}
use denote.Triple.Call.{calls_at}
use denote.Triple.Clauses.{Clauses, Ended, Lasts, at_exit, ensured, lasts as lasting, closing}
use denote.Triple.Entry.{Args, Vals, on_entry}
use denote.Triple.Spec.{triple_of}
use denote.Triple.End.{all, Fins, Outs, outs, lasts_of}
use denote.Triple.Walked.{says, Stays, stay_ref, walk_of, fits_of, has_of, Goes-ref, Walks, ends_at, walked, walk_Meets}
use denote.Exit.{yes}
use Rattle.walks.proofs.Numbers.{Nums, Fit, nums, stays, args, vals, spells, tells, front, back, args_is, vals_is, fit_of, are_of, Clause, lasts}
use Rattle.walks.proofs.Numbers.{last, clause_in, clause_out, fit_in, go_nums, own_rest, own_all, has_all, last_rest, locals, past, reads, env, past_is}
use Rattle.walks.proofs.Numbers.{alloc_nums, pass_nums, read_nums, free_nums}
use Rattle.walks.proofs.Report.{Beside, Cell, lives, buffer, buffer', gave, go_buffer, spell, spell', spell_tells, contents, contents', seen}
use Rattle.walks.proofs.Report.{none, slice, seen', held, Fine, fine_of, on, end, same_said, hand_on, take_back, after, beyond, buffer_local}
use Rattle.walks.proofs.Report.{borrow_locals, prepare, passed, buffer_env, borrow_env, Stand, from_rest, alloc_buffer, alloc_borrow, pass_buffer}
use Rattle.walks.proofs.Linked.{linked}
use Rattle.walks.proofs.Plain.{Plainly, Both, layout}
use Rattle.walks.proofs.Report.{prepares, read_borrow, free_buffer, free_borrow}

-- what a call says: of the table, the numbers and the buffer passed, and of the table, the reply and the buffer left
abbrev pub Says : {T R : Plainly} → Both T R → Beside → ℕ → Type 1
Says {T} {R} S b k = T.R.Denot → Nums k → List (Cell b) → T.R.Denot → R.R.Denot → List (Cell b) → Type 0

-- in the MIR of the call the table that is stored stands after the borrow of the buffer
abbrev behind : Beside → ℕ
behind none = 2
behind (slice X) = 4

module _ {T R : Plainly} (S : Both T R) (b : Beside) (k : ℕ) where
  -- ---- the signatures of the step by value and of the call on a lent table
  abbrev pub step_ended : Ended
  step_ended = record {
    signature = record { lifetimes = lives b; outlives = []; params = plain (λ _. T.R) ∷ nums k (buffer' b); result = plain (λ _. S.R) };
    kept = (yes, all yes (nums k (buffer' b)));
  }

  abbrev pub lent_ended : Ended
  lent_ended = record {
    signature = record {
      lifetimes = suc (lives b);
      outlives = [];
      params = mut_ref_to (0 ∷ []) tt (plain (λ _. T.R)) ∷ nums k (buffer b);
      result = plain (λ _. R.R);
    };
    kept = (yes, all yes (nums k (buffer b)));
  }

  -- ---- their contracts
  abbrev pub step_clauses : Says S b k → {M : Type 1} (𝓤 : Ura M) → Clauses 𝓤 step_ended
  step_clauses Q 𝓤 κs a = record {
    ghost = Unit {0};
    requires = λ _. emp 𝓤;
    ensures = λ _ r e. fact 𝓤 (Clause κs (buffer' b) k (λ ns x f. Q a.0 ns (contents' b κs x) (S.first r) (S.second r) (seen' b κs f)) a.1 e.1);
  }

  abbrev pub lent_clauses : Says S b k → {M : Type 1} (𝓤 : Ura M) → Clauses 𝓤 lent_ended
  lent_clauses Q 𝓤 κs a = record {
    ghost = Unit {0};
    requires = λ _. emp 𝓤;
    ensures = λ _ r e. fact 𝓤 (Clause κs (buffer b) k (λ ns x f. Q a.0.now ns (contents b κs x) e.0.now r (seen b κs f)) a.1 e.1);
  }

  -- ---- the MIR of the call, which calls the key
  abbrev pub lent_function : Callee → Fn
  lent_function key = record {
    lifetimes = suc (lives b);
    outlives = [];
    ty_params = [];
    givens = 0;
    params = suc (past k (beyond b 0));
    locals = local R.mir value_local ∷ local (ty_ref (named 0) mut (pointee T.R.written)) value_local
        ∷ locals k (buffer_local 1 b (local (layout S) value_local ∷ local T.mir value_local ∷ borrow_locals b (local T.mir value_local ∷ [])));
    body = seq (assign (place (after k (beyond b 1)) []) (rv_opd (copy (place 1 (deref T.mir ∷ [])))))
        (prepare b k 2
        (seq (call key (copy (place (after k (beyond b 1)) []) ∷ reads k (λ i. suc (suc i)) (passed b k 2)) (place (after k (beyond b 0)) []))
        (seq (assign (place (after k (beyond b (behind b))) []) (rv_opd (copy (place (after k (beyond b 0)) (field 0 ∷ [])))))
        (seq (assign (place 1 (deref T.mir ∷ [])) (rv_opd (copy (place (after k (beyond b (behind b))) []))))
        (seq (assign (place 0 []) (rv_opd (copy (place (after k (beyond b 0)) (field 1 ∷ []))))) return)))));
  }

  abbrev stayed : Stays lent_ended.signature.params lent_ended.kept
  stayed = (stay_ref (0 ∷ []) tt (plain (λ _. T.R)), stays k (buffer b) (gave b))

  abbrev pub Step : Says S b k → {M : Type 1} {𝓤 : Ura M} (𝓛 : Logic 𝓤) → Contract 𝓤
  Step Q {𝓤 = 𝓤} 𝓛 = triple_of 𝓛 step_ended.signature (closing 𝓛 step_ended (step_clauses Q 𝓤))

  abbrev pub Lend : Says S b k → {M : Type 1} {𝓤 : Ura M} (𝓛 : Logic 𝓤) → Contract 𝓤
  Lend Q {𝓤 = 𝓤} 𝓛 = triple_of 𝓛 lent_ended.signature (closing 𝓛 lent_ended (lent_clauses Q 𝓤))

-- the locals after the numbers and the buffer, at their blocks: what the step returns, the table, the borrow, and the table that is stored; and where the
-- buffer and the borrow stand
abbrev rest : {T R : Plainly} → Both T R → Beside → (r₀ r₁ i j r₂ : ℕ) → List (Ty × ℕ)
rest {T} S b r₀ r₁ i j r₂ = (layout S, r₀) ∷ (T.mir, r₁) ∷ borrow_env b i j ((T.mir, r₂) ∷ [])

stand : {M : Type 1} (𝓤 : Ura M) (H : Heap 𝓤) {T R : Plainly} (S : Both T R) (b : Beside) (k : ℕ) (bs : Nums k) (p r₀ r₁ i j r₂ : ℕ)
    → Stand 𝓤 H (env k bs (buffer_env 1 b p (rest S b r₀ r₁ i j r₂))) 1 b k 2 p i j
stand 𝓤 H S none k bs p r₀ r₁ i j r₂ = tt
stand 𝓤 H S (slice X) k bs p r₀ r₁ i j r₂ =
    let at = past_is 𝓤 H k bs (buffer_env 1 (slice X) p (rest S (slice X) r₀ r₁ i j r₂)) in (at 0, at 3, at 4)

module _ {M : Type 1} {𝓤 : Ura M} {𝓛 : Logic 𝓤} {K : Type 0} {Γ : List (Item 𝓤)} where
  -- the table that is stored
  open 𝓛 use {H}

  from_stored : K → {T R : Plainly} (S : Both T R) (b : Beside) (k : ℕ) (bs : Nums k) (p r₀ r₁ i j r₂ : ℕ) {e e' : Ty × ℕ} {st : List PStep} {sp : Spot 𝓤 H}
      → Follows K 𝓛 Γ (e ∷ e' ∷ env k bs (buffer_env 1 b p (rest S b r₀ r₁ i j r₂))) (spot_of 𝓤 H ((T.mir, r₂) ∷ []) 0) st sp
      → Finds K 𝓛 Γ (e ∷ e' ∷ env k bs (buffer_env 1 b p (rest S b r₀ r₁ i j r₂))) (place (after k (beyond b (behind b))) st) sp
  from_stored t S none k bs p r₀ r₁ i j r₂ = from_rest t 2 1 none k bs p (rest S none r₀ r₁ i j r₂)
  from_stored t S (slice X) k bs p r₀ r₁ i j r₂ = from_rest t 4 1 (slice X) k bs p (rest S (slice X) r₀ r₁ i j r₂)

module _ {M : Type 1} {𝓤 : Ura M} (𝓛 : Logic 𝓤) {T R : Plainly} (S : Both T R) (b : Beside) (k : ℕ)
    (Q : Says S b k) (key : Callee) (κs : Lfts (suc (lives b))) (qs : Shares (suc (lives b))) (m o : ℕ) (γ : GName) (h : T.R.Denot) (ns : Nums k)
    (x : Denots (types_at (buffer b) κs)) (fit : Fit k ns) (fine : Fine b (held b κs x)) where
  open 𝓛 use {H}

  abbrev tv : T.R.Denot → Val
  tv = T.val

  -- the machine values of the buffer, and the buffer as the step by value has it, with its own
  abbrev vs : Valss (types_at (buffer b) κs)
  vs = valss (types_at (buffer b) κs) (spell b κs) x

  abbrev x' : Denots (types_at (buffer' b) κs.1)
  x' = on b κs x

  abbrev vs' : Valss (types_at (buffer' b) κs.1)
  vs' = valss (types_at (buffer' b) κs.1) (spell' b κs.1) x'

  -- the arguments of the call and of the step by value, and their machine values
  abbrev a : Args (lent_ended S b k).signature κs
  a = (record { ref_ptr = (m, o); ghost_name = γ; now = h }, args κs (buffer b) k ns x)

  abbrev av : Vals (lent_ended S b k).signature κs
  av = (vptr m o ∷ [], vals κs (buffer b) k ns vs)

  abbrev a' : Args (step_ended S b k).signature κs.1
  a' = (h, args κs.1 (buffer' b) k ns x')

  abbrev av' : Vals (step_ended S b k).signature κs.1
  av' = (tv h ∷ [], vals κs.1 (buffer' b) k ns vs')

  -- what the step by value ensures of what it returns, and of the last contents of the buffer
  abbrev Said' : S.R.Denot → Nums k → Denots (types_at (buffer' b) κs.1) → Outs κs.1 (buffer' b) (all yes (buffer' b)) → Type 0
  Said' r ns x f = Q h ns (contents' b κs.1 x) (S.first r) (S.second r) (seen' b κs.1 f)

  abbrev Ensured : S.R.Denot → Lasts (step_ended S b k) κs.1 a' → Type 0
  Ensured r ws = Clause κs.1 (buffer' b) k (Said' r) a'.1 (at_exit (step_ended S b k) κs.1 a' ws).1

  -- and what the call says then
  abbrev Said : S.R.Denot → Nums k → Denots (types_at (buffer b) κs) → Outs κs (buffer b) (all yes (buffer b)) → Type 0
  Said r ns x f = Q h ns (contents b κs x) (S.first r) (S.second r) (seen b κs f)

  -- the last contents
  abbrev last' : Lasts (step_ended S b k) κs.1 a' → Fins κs.1 (buffer' b) (all yes (buffer' b)) x'
  last' ws = last κs.1 (buffer' b) x' k ns ws.1

  abbrev answer : S.R.Denot → Val
  answer r = R.val (S.second r)

  abbrev Post : Val → SProp 𝓤
  Post = (walk_of 𝓛 (lent_ended S b k) (stayed S b k) (lent_clauses S b k Q 𝓤)).post ((κs, qs, tt, a, av), tt)

  -- what the triple of the step by value binds outside
  abbrev to : (Step S b k Q 𝓛).Ghost
  to = ((κs.1, qs.1, tt, a', av'), tt)

  goes : ent 𝓤 (⋆ 𝓛 (raw (toks 𝓛 (lives b) κs.1 qs.1) ∷ ‵ (owns (types_at (buffer' b) κs.1) x' vs') ∷ ‵ (T.R.own_val h (tv h ∷ [])) ∷ []))
      ((Step S b k Q 𝓛).pre to)
  goes =
      qed 𝓛 (raw (toks 𝓛 (lives b) κs.1 qs.1) ∷ ‵ (owns (types_at (buffer' b) κs.1) x' vs') ∷ ‵ (T.R.own_val h (tv h ∷ [])) ∷ []) ∵ move !
      (1 ∷ []) $
      use1 𝓛 (‵ (owns (types_at (nums k (buffer' b)) κs.1) a'.1 av'.1)) (own_all 𝓛 κs.1 (buffer' b) x' vs' k ns fit) $
      move ! (2 ∷ 0 ∷ []) $ fjoin ! $
      move ! (1 ∷ 0 ∷ []) $ join ! $ frame ! $ done !

  exits : (r : S.R.Denot) (w : Fins κs (buffer b) (all yes (buffer b)) x) → Said r ns x (outs κs (buffer b) (all yes (buffer b)) x w)
      → fits_of κs (buffer b) (all yes (buffer b)) (gave b) x w → Is R.R (S.second r) (answer r ∷ [])
      → ent 𝓤 (⋆ 𝓛 (‵ (fobs γ (T.R.coded.code (S.first r))) ∷ ‵ (fbor κs.0 (Body (mem T.R) m o γ)) ∷ ‵ (flft κs.0 qs.0) ∷ raw
      (toks 𝓛 (lives b) κs.1 qs.1) ∷ ‵ (has_of κs (buffer b) (all yes (buffer b)) (gave b) x w vs) ∷ [])) (Post (answer r))
  exits r w e f is =
      qed 𝓛 (‵ (fobs γ (T.R.coded.code (S.first r))) ∷ ‵ (fbor κs.0 (Body (mem T.R) m o γ)) ∷ ‵ (flft κs.0 qs.0) ∷ raw
      (toks 𝓛 (lives b) κs.1 qs.1) ∷ ‵ (has_of κs (buffer b) (all yes (buffer b)) (gave b) x w vs) ∷ []) ∵
      suffices ! _ (ends_at 𝓛 (lent_ended S b k) (stayed S b k) (lent_clauses S b k Q 𝓤) ((κs, qs, tt, a, av), tt) (answer r) (S.second r)
      (S.first r, lasts κs (buffer b) x k ns w) (tt, fit_in κs (buffer b) x (gave b) k ns w f)) $
      says ! (clause_in κs (buffer b) x k (Said r) ns w e) $ move ! (2 ∷ 3 ∷ []) $ join ! $ frame ! $
      -- [obs; the borrow; what is had of the buffer]
      feq_i ! (List Val) (vptr m o ∷ []) (vptr m o ∷ []) refl $ fjoin3 ! $ move ! (1 ∷ []) $
      use1 𝓛 (‵ (has_of κs (nums k (buffer b)) (all yes (nums k (buffer b))) (stays k (buffer b) (gave b)) a.1 (lasts κs (buffer b) x k ns w) av.1))
      (has_all 𝓛 κs (buffer b) x vs (gave b) w k ns fit) $
      move ! (1 ∷ 0 ∷ []) $ fjoin ! $ frame ! $ owned ! R.R (Is R.R) (R.makes M 𝓤 𝓛) (S.second r) _ is $ done !

  module _ (C : Calls 𝓤 H) (Λ : Loops 𝓤 H) (fm : FmC 𝓤 H 𝓛.laws C) (known : Triple 𝓤 (C key) (Step S b k Q 𝓛)) where
    walk : ent 𝓤 (on_entry 𝓛 (lent_ended S b k).signature κs qs a av) (WpFn 𝓤 H C Λ (lent_function S b k key)
        (flat (types_at (lent_ended S b k).signature.params κs) av) Post)
    walk =
        qed 𝓛 ((‵ (flft κs.0 qs.0) ⊛ raw (toks 𝓛 (lives b) κs.1 qs.1)) ∷ ‵
        (owns (types_at (lent_ended S b k).signature.params κs) a av) ∷ []) ∵ enter ! C Λ
        (lent_function S b k key) (flat (types_at (lent_ended S b k).signature.params κs) av) _ $
        alloc1 ! (λ l₀. alloc1 ! (λ l₁. alloc_nums ! k (λ bs. alloc_buffer ! 1 b (λ p. alloc1 ! (λ r₀. alloc1 ! (λ r₁. alloc_borrow ! b (λ i j.
        alloc1 ! (λ r₂. alloc0 ! $ params1 ! $
        -- [r₂; …; the borrow's; r₁; …; r₀; …; the buffer's; the numbers; _1; …; room for _0; …; the tokens; what the parameters own]
        pass1 ! (init ! 9 refl (tt, tt)) $ move ! (8 ∷ []) $ pass_nums ! k bs ns fit κs (buffer b) vs $ move ! (8 ∷ []) $
        pass_buffer ! b κs x fine p (rest S b r₀ r₁ i j r₂) $
        -- r₂ is put last
        move ! (0 ∷ 1 ∷ 4 ∷ 5 ∷ 6 ∷ 7 ∷ 8 ∷ 9 ∷ 10 ∷ 11 ∷ 12 ∷ 13 ∷ 14 ∷ []) $
        -- [the buffer's; the numbers; the borrow's; r₁; …; r₀; …; _1; …; room for _0; …; the tokens; what the parameters own; r₂; …]
        move ! (12 ∷ []) $ fsplit ! $ move ! (1 ∷ []) $ use1 𝓛 (‵ (owns (types_at (buffer b) κs) x vs)) (own_rest 𝓛 κs (buffer b) x vs k ns) $
        use1 𝓛 (‵ (owns (types_at (buffer' b) κs.1) x' vs')) (hand_on 𝓛 b κs x) $
        move ! (13 ∷ []) $ split ! $ move ! (3 ∷ []) $ fsplit3 ! $ drop ! $
        -- [obs; the borrow of t; the table's token; the buffer's; what it owns; the buffer's cell; the numbers; the borrow's; r₁; …; r₀; …; _1; …; room for
        -- _0; …]
        opens ! tt T.R {h = h} m o (λ us. spelt ! T.R (Is T.R) (shows 𝓛 T.R) (λ y. T.val y ∷ [])
        T.tells full_share h us m o $
        rewrite ! 0 (λ (τs : List Ty). ‵ (cell_at full_share τs (tv h ∷ []) m o)) T.mir_is refl $
        move ! (1 ∷ []) $ peeks ! T.R (Is T.R) (shows 𝓛 T.R) h (tv h ∷ []) (λ g. move ! (1 ∷ 0 ∷ []) $
        -- [the table's cell; what a Table owns; the open borrow; obs; auth; the buffer's token; what it owns; its cell; the numbers; the borrow's; r₁; …;
        -- r₀; …; _1;
        -- …; room for _0; …]
        assigns ! (of_opd ! (load ! (from ! (hop ! (look ! 14 refl) (stop !))) (look_raw ! 0 refl))) (from_rest ! 1 1 b k bs p (rest S b r₀ r₁ i j r₂) (stop !))
        (init ! 10 refl (T.typed M 𝓤 𝓛 h _ g)) $
        move ! (9 ∷ 7 ∷ []) $ prepares ! 1 b (held b κs x) fine k 2 p i j (stand 𝓤 H S b k bs p r₀ r₁ i j r₂) $
        move ! (7 ∷ 8 ∷ 3 ∷ []) $ use3 𝓛 (raw ((Step S b k Q 𝓛).pre to)) goes $
        -- [what the step asks; the borrow's; the buffer's; the table's cell; the open borrow; obs; auth; the numbers; r₁; …; r₀; …; _1; …; room for _0; …]
        calls_at ! fm (Step S b k Q 𝓛) known to (and_then ! (load ! (from_rest ! 1 1 b k bs p (rest S b r₀ r₁ i j r₂) (stop !)) (look ! 8 refl))
        (read_nums ! 7 k bs ns κs.1 (buffer' b) vs' (λ i. suc (suc i)) (buffer_env 1 b p (rest S b r₀ r₁ i j r₂)) refl (λ i. refl)
        (read_borrow ! 1 1 b κs x k 2 p i j (stand 𝓤 H S b k bs p r₀ r₁ i j r₂) refl)))
        (λ v.
        use1 𝓛 (later (some (λ (r : S.R.Denot). (raw (toks 𝓛 (lives b) κs.1 qs.1) ⊛ ‵ (S.R.own_val r (v ∷ []))) ⊛ raw
        (ensured 𝓛 (step_ended S b k) (step_clauses S b k Q 𝓤) κs.1 a' tt r)))) (id⊢ 𝓤 _) $ await ! tt $ pick ! (λ r.
        -- what the step ensures, at some last contents of the buffer
        split ! $ move ! (1 ∷ []) $ use1 𝓛 (some (λ (ws : Lasts (step_ended S b k) κs.1 a'). ‵ (lasting (step_ended S b k) κs.1 a' ws) ⊛ raw
        (fact 𝓤 (Ensured r ws))))
        (id⊢ 𝓤 _) $ pick ! (λ ws. split ! $ move ! (1 ∷ []) $ heard ! (Ensured r ws) (λ e. fsplit ! $ drop ! $
        use1 𝓛 (‵ (lasts_of κs.1 (buffer' b) (all yes (buffer' b)) x' (last' ws))) (last_rest 𝓛 κs.1 (buffer' b) x' vs' k ns ws.1) $
        use1 𝓛 (given (fits_of κs (buffer b) (all yes (buffer b)) (gave b) x (end b κs x (last' ws)))
        (‵ (has_of κs (buffer b) (all yes (buffer b)) (gave b) x (end b κs x (last' ws)) vs))) (take_back 𝓛 b κs x (last' ws)) $ learn ! (λ f.
        move ! (1 ∷ []) $ split ! $ move ! (1 ∷ []) $ peeks ! S.R (Is S.R) (shows 𝓛 S.R) r (v ∷ []) (λ is.
        -- [what an Outcome owns; the buffer's token; what is had of it; the borrow's; the buffer's; the table's cell; the open borrow; obs; auth; the
        -- numbers; r₁;
        -- …; r₀; …; _1; …; room for _0; …]
        land ! (from_rest ! 0 1 b k bs p (rest S b r₀ r₁ i j r₂) (stop !)) (init ! 12 refl (S.typed M 𝓤 𝓛 r _ is)) $
        rewrite ! 12 (λ (u : Val). ‵ (fat full_share (layout S) r₀ 0 u)) (ap only (S.tells r _ is)) refl $
        drop ! $ assigns ! (of_opd ! (load ! (from_rest ! 0 1 b k bs p (rest S b r₀ r₁ i j r₂) (fld ! refl (stop !))) (look_in ! 11 (sub ! 0 refl (whole !)))))
        (from_stored ! S b k bs p r₀ r₁ i j r₂ (stop !)) (init ! 17 refl (T.typed M 𝓤 𝓛 (S.first r) _ (S.is_first r _ is))) $
        assigns ! (of_opd ! (load ! (from_stored ! S b k bs p r₀ r₁ i j r₂ (stop !)) (look ! 17 refl)))
        (from ! (hop ! (look ! 13 refl) (stop !)))
        (store_raw ! 4 refl (T.typed M 𝓤 𝓛 (S.first r) _ (S.is_first r _ is))) $
        assigns ! (of_opd ! (load ! (from_rest ! 0 1 b k bs p (rest S b r₀ r₁ i j r₂) (fld ! refl (stop !))) (look_in ! 11 (sub ! 1 refl (whole !)))))
        (from ! (stop !)) (init ! 15 refl (R.typed M 𝓤 𝓛 (S.second r) _ (S.is_second r _ is))) $
        rewrite ! 4 (λ (τs : List Ty). ‵ (cell_at full_share τs (tv (S.first r) ∷ []) m o)) (sym T.mir_is) refl $
        owned ! T.R (Is T.R) (T.makes M 𝓤 𝓛) (S.first r) _ (S.is_first r _ is) $ move ! (5 ∷ 0 ∷ 6 ∷ 7 ∷ 8 ∷ []) $
        closes ! tt T.R (S.first r) (tv (S.first r) ∷ []) m o $
        -- [obs; the borrow of t; the table's token; the buffer's; what is had of it; the borrow's; the buffer's cell; the numbers; r₁; …; r₀; …; _1; …; _0; …]
        returns ! (look ! 14 refl) $ forget ! 8 refl $ forget ! 10 refl $ forget ! 12 refl $ forget ! 14 refl $ forget ! 16 refl $
        move ! (14 ∷ 15 ∷ []) $ free1 ! $ move ! (12 ∷ 13 ∷ []) $ free1 ! $ move ! (7 ∷ []) $ free_nums ! k bs ns $ move ! (6 ∷ []) $
        free_buffer ! 1 b (held b κs x) p $ move ! (8 ∷ 9 ∷ []) $ free1 ! $ move ! (6 ∷ 7 ∷ []) $ free1 ! $ move ! (5 ∷ []) $
        free_borrow ! b (held b κs x) i j $ move ! (5 ∷ 6 ∷ []) $ free1 ! $ free0 ! $ keep ! (0 ∷ 1 ∷ 2 ∷ 3 ∷ 4 ∷ []) $
        by ! (exits r (end b κs x (last' ws)) (same_said b κs x (last' ws) (λ ys zs. Q h ns ys (S.first r) (S.second r) zs)
        (clause_out κs.1 (buffer' b) x' k (Said' r) ns ws.1 e)) f (S.is_second r _ is))))))))))))))))))

module _ {M : Type 1} {𝓤 : Ura M} (𝓛 : Logic 𝓤) {T R : Plainly} (S : Both T R) (b : Beside) (k : ℕ)
    (Q : Says S b k) (key : Callee) where
  -- the numbers and the buffer, and their machine values
  open 𝓛 use {H}

  abbrev Rest : Lfts (suc (lives b)) → Type 0
  Rest κs = Denots (types_at (nums k (buffer b)) κs) × Valss (types_at (nums k (buffer b)) κs)

  lent_walks : (C : Calls 𝓤 H) (Λ : Loops 𝓤 H) → FmC 𝓤 H 𝓛.laws C → Triple 𝓤 (C key) (Step S b k Q 𝓛)
      → Walks 𝓛 (lent_ended S b k) (stayed S b k) (WpFn 𝓤 H C Λ (lent_function S b k key)) (lent_clauses S b k Q 𝓤)
  lent_walks C Λ fm known = walked 𝓛 (lent_ended S b k) (stayed S b k) (lent_clauses S b k Q 𝓤) (WpFn 𝓤 H C Λ (lent_function S b k key))
      (λ κs. (mut_vals, spells κs (buffer b) k (spell b κs))) (λ κs. (
        mut_Tells (named 0) κs.0 T.R,
        tells κs (buffer b) k (spell b κs)
            (spell_tells b κs),
      ))
      (λ κs qs bounds a g are. via 𝓤 _ (fst∗ 𝓤 _ (emp 𝓤))
      (subst (λ (y : Rest κs). ent 𝓤 (on_entry 𝓛 (lent_ended S b k).signature κs qs (a.0, y.0) (mut_vals a.0, y.1))
      (WpFn 𝓤 H C Λ (lent_function S b k key) (flat (types_at (lent_ended S b k).signature.params κs) (mut_vals a.0, y.1))
      ((walk_of 𝓛 (lent_ended S b k) (stayed S b k) (lent_clauses S b k Q 𝓤)).post ((κs, qs, tt, (a.0, y.0), (mut_vals a.0, y.1)), tt))))
      (λ i. (args_is κs (buffer b) k a.1 i, vals_is κs (buffer b) k (spell b κs) a.1 i))
      (walk 𝓛 S b k Q key κs qs a.0.ref_ptr.0 a.0.ref_ptr.1 a.0.ghost_name a.0.now (front κs (buffer b) k a.1) (back κs (buffer b) k a.1)
      (fit_of κs (buffer b) (spell b κs) k a.1 are.1) (fine_of b κs (back κs (buffer b) k a.1)
      (are_of κs (buffer b) (spell b κs) k a.1 are.1)) C Λ fm known)))

lent_meets : {T R : Plainly} (S : Both T R) (b : Beside) (k : ℕ) (Q : Says S b k) (key : Callee) {M : Type 1} {𝓤 : Ura M} (𝓛 : Logic 𝓤)
    → (𝓣 : Tables 𝓤 𝓛.H) → Triple 𝓤 (𝓣.C key) (Step S b k Q 𝓛)
    → Triple 𝓤 (WpFn 𝓤 𝓛.H 𝓣.C 𝓣.Λ (lent_function S b k key)) (Lend S b k Q 𝓛)
lent_meets {T} S b k Q key {𝓤 = 𝓤} 𝓛 𝓣 known =
    walk_Meets 𝓛 (lent_ended S b k) (stayed S b k) (
      Goes-ref 𝓛 (suc (lives b)) 0 tt (plain (λ _. T.R)),
      go_nums 𝓛 k (buffer b) (gave b) (go_buffer 𝓛 b),
    ) (lent_clauses S b k Q 𝓤)
    (WpFn 𝓤 𝓛.H 𝓣.C 𝓣.Λ (lent_function S b k key)) (WpFn-mono 𝓤 𝓛.H 𝓛.laws 𝓣 (lent_function S b k key))
    (lent_walks 𝓛 S b k Q key 𝓣.C 𝓣.Λ (fm_of 𝓤 𝓛.H 𝓛.laws 𝓣) known)

pub lent_spec : {T R : Plainly} (S : Both T R) (b : Beside) (k : ℕ) (Q : Says S b k) {M : Type 1} {𝓤 : Ura M} (𝓛 : Logic 𝓤) (𝓜 : Model 𝓤 𝓛.H)
    (𝓡 : Running 𝓤 𝓛.H 𝓜) (γ : Env) (n key : Callee) (r : Routine) → γ key ≡ r
    → Closed 𝓤 𝓛.H (tables 𝓤 𝓛.H 𝓜 𝓡 γ).C (tables 𝓤 𝓛.H 𝓜 𝓡 γ).Λ n (lent_function S b k key)
    → Triple 𝓤 (𝓡.run r) (Step S b k Q 𝓛) → Triple 𝓤 (𝓡.run (γ n)) (Lend S b k Q 𝓛)
lent_spec S b k Q {𝓤 = 𝓤} 𝓛 𝓜 𝓡 γ n key r at closed =
    linked 𝓤 𝓛.H 𝓜 𝓡 γ n key r (lent_function S b k key) (Lend S b k Q 𝓛) (Step S b k Q 𝓛) at closed
    (lent_meets S b k Q key 𝓛)
