-- An owner of a table that lends it to a call, walked once, over all that `Lent.antt` is over.
--     fn owned(t: T, n₁: u64, …, buffer: &mut [X]) -> S { let mut own = t; let reply = lent(&mut own, n₁, …, buffer); S { table: own, reply } }
-- The table is copied into a local, which is lent to the call for a lifetime that is made for it, and comes back as the call left it. The buffer is passed on
-- at its own lifetime, share and ghost name.
--     own_spec     the function that has this MIR meets the contract of a step by value, where the one that it calls meets that of the lent call
use mathlib.Core.Path.{◌≡◌, refl, sym, ap, subst}
use Prim.Native.Nat.{ℕ, suc}
use mathlib.Core.List.{[], ◌∷◌, List}
use seplogic.Ra.Ura.{Ura}
use base.Fraction.{full_share}
use mir.Syntax.{Ty, Step as PStep, Callee, Fn, named, erased, mut, ty_ref, place, copy, local, value_local, memory_slot, rv_opd, addr_of, aggregate, seq, assign, call}
use mir.Syntax.{return}
use mir.Val.{Val, vptr, vstruct, vnil, vcons}
use base.Logic.{SProp, ent, emp, via, fst∗, id⊢}
use base.Fml.{GName, fat, flft, flent}
use prog.Model.{Model}
use prog.Routine.{Routine, Env}
use prog.Wp.{Heap, Spot, Calls, Loops, WpFn, Tables, Closed, spot_of}
use types.Logic.{Logic}
use contract.Monad.{fact}
use contract.Lifetimes.{Lfts, Shares, toks}
use contract.Running.{Running, tables}
use types.Kit.{Item, ‵, raw, ◌⊛◌, some, later, given, ⋆, ◌$◌, ◌∵◌, !, qed, by, move, keep, drop, use1, use2, use3, split, join, pick, learn, rewrite}
use types.Kit.{fsplit, fjoin, suffices, frame, await, done}
use types.Run.{Walks as Follows, Finds, look, init, forget, stop, from, load, addr, of_opd, and_then, no_more, assigns, land, returns, enter, alloc1, alloc0}
use types.Run.{params1, pass1, free1, free0}
use types.Part.{agg}
use types.SemTy.{Body}
use types.Tokens.{lft_new, lft_end}
use sound.WpLaws.{FmC, fm_of, WpFn-mono}
use denote.RattleType.{Denots, Valss, owns, flat}
use denote.Laws.{Is, shows, valss}
use denote.Memory.{mem, pointee}
use denote.Lend.{lends_ref, ref_back}
use denote.Ref.{MutBor, MutRef}
use denote.Signature.{types_at}
use denote.Steps.{only, owned, peeks, heard}
use denote.Triple.Statement.{Triple}
use denote.Triple.Call.{calls_at}
use denote.Triple.Clauses.{Lasts, at_exit, ensured, lasts as lasting}
use denote.Triple.Entry.{Args, Vals, on_entry}
use denote.Triple.End.{all, Fins, Outs, outs, lasts_of}
use denote.Triple.Walked.{says, Stays, stay_none, walk_of, fits_of, has_of, Goes-none, Walks, ends_at, walked, walk_Meets}
use denote.Exit.{yes}
use Rattle.walks.proofs.Linked.{linked}
use Rattle.walks.proofs.Plain.{Plainly, Both, layout, last_same, silent, lies_in, lies_out}
use Rattle.walks.proofs.Lent.{Says, Step, Lend, step_ended, lent_ended, step_clauses, lent_clauses}
use Rattle.walks.proofs.Numbers.{Nums, Fit, nums, stays, args, vals, spells, tells, front, back, args_is, vals_is, fit_of, are_of, Clause, lasts}
use Rattle.walks.proofs.Numbers.{last, clause_in, clause_out, fit_in, go_nums, own_rest, own_all, has_all, last_rest, locals, past, reads, env}
use Rattle.walks.proofs.Numbers.{past_is, alloc_nums, pass_nums, read_nums, free_nums}
use Rattle.walks.proofs.Report.{Beside, none, slice, lives, buffer, buffer', gave', go_buffer', spell, spell', spell_tells', contents, contents'}
use Rattle.walks.proofs.Report.{seen, seen', held', Fine, fine_of', off, end', same_said', hand_off, have_back, after, beyond, buffer_local}
use Rattle.walks.proofs.Report.{borrow_locals, prepare, passed, buffer_env, borrow_env, Stand, from_rest, alloc_buffer, alloc_borrow, pass_buffer'}
use Rattle.walks.proofs.Report.{prepares, read_borrow', free_buffer, free_borrow}

-- ---- the MIR of the owner, which calls the key. After the buffer stand the local that is lent, the reply, the reference, the borrow of the buffer, and a copy
-- of the local.
abbrev ref_ty : Plainly → Ty
ref_ty T = ty_ref erased mut (pointee T.R.written)

abbrev behind : Beside → ℕ
behind none = 3
behind (slice X) = 5

module _ {T R : Plainly} (S : Both T R) (b : Beside) (k : ℕ) where
  abbrev pub own_function : Callee → Fn
  own_function key = record {
    lifetimes = lives b;
    outlives = [];
    ty_params = [];
    givens = 0;
    params = suc (past k (beyond b 0));
    locals = local (layout S) value_local ∷ local T.mir value_local ∷ locals k (buffer_local 0 b
        (local T.mir memory_slot ∷ local R.mir value_local ∷ local (ref_ty T) value_local ∷ borrow_locals b (local T.mir value_local ∷ [])));
    body = seq (assign (place (after k (beyond b 0)) []) (rv_opd (copy (place 1 []))))
        (seq (assign (place (after k (beyond b 2)) []) (addr_of (place (after k (beyond b 0)) [])))
        (prepare b k 3
        (seq (call key (copy (place (after k (beyond b 2)) []) ∷ reads k (λ i. suc (suc i)) (passed b k 3)) (place (after k (beyond b 1)) []))
        (seq (assign (place (after k (beyond b (behind b))) []) (rv_opd (copy (place (after k (beyond b 0)) []))))
        (seq (assign (place 0 []) (aggregate (copy (place (after k (beyond b (behind b))) []) ∷ copy (place (after k (beyond b 1)) []) ∷ []))) return)))));
  }

  abbrev stayed : Stays (step_ended S b k).signature.params (step_ended S b k).kept
  stayed = (stay_none (λ _. T.R) yes, stays k (buffer' b) (gave' b))

-- the locals after the numbers and the buffer, at their blocks, and where the buffer and the borrow stand
abbrev rest : {T R : Plainly} → Both T R → Beside → (r₀ r₁ r₂ i j r₃ : ℕ) → List (Ty × ℕ)
rest {T} {R} S b r₀ r₁ r₂ i j r₃ = (T.mir, r₀) ∷ (R.mir, r₁) ∷ (ref_ty T, r₂) ∷ borrow_env b i j ((T.mir, r₃) ∷ [])

stand : {M : Type 1} (𝓤 : Ura M) (H : Heap 𝓤) {T R : Plainly} (S : Both T R) (b : Beside) (k : ℕ) (bs : Nums k) (p r₀ r₁ r₂ i j r₃ : ℕ)
    → Stand 𝓤 H (env k bs (buffer_env 0 b p (rest S b r₀ r₁ r₂ i j r₃))) 0 b k 3 p i j
stand 𝓤 H S none k bs p r₀ r₁ r₂ i j r₃ = tt
stand 𝓤 H S (slice X) k bs p r₀ r₁ r₂ i j r₃ =
    let at = past_is 𝓤 H k bs (buffer_env 0 (slice X) p (rest S (slice X) r₀ r₁ r₂ i j r₃)) in (at 0, at 4, at 5)

module _ {M : Type 1} {𝓤 : Ura M} {𝓛 : Logic 𝓤} {K : Type 0} {Γ : List (Item 𝓤)} where
  -- the copy
  open 𝓛 use {H}

  from_copy : K → {T R : Plainly} (S : Both T R) (b : Beside) (k : ℕ) (bs : Nums k) (p r₀ r₁ r₂ i j r₃ : ℕ) {e e' : Ty × ℕ} {st : List PStep} {sp : Spot 𝓤 H}
      → Follows K 𝓛 Γ (e ∷ e' ∷ env k bs (buffer_env 0 b p (rest S b r₀ r₁ r₂ i j r₃))) (spot_of 𝓤 H ((T.mir, r₃) ∷ []) 0) st sp
      → Finds K 𝓛 Γ (e ∷ e' ∷ env k bs (buffer_env 0 b p (rest S b r₀ r₁ r₂ i j r₃))) (place (after k (beyond b (behind b))) st) sp
  from_copy t S none k bs p r₀ r₁ r₂ i j r₃ = from_rest t 3 0 none k bs p (rest S none r₀ r₁ r₂ i j r₃)
  from_copy t S (slice X) k bs p r₀ r₁ r₂ i j r₃ = from_rest t 5 0 (slice X) k bs p (rest S (slice X) r₀ r₁ r₂ i j r₃)

module _ {M : Type 1} {𝓤 : Ura M} (𝓛 : Logic 𝓤) {T R : Plainly} (S : Both T R) (b : Beside) (k : ℕ)
    (Q : Says S b k) (key : Callee) (κs : Lfts (lives b)) (qs : Shares (lives b)) (h : T.R.Denot) (ns : Nums k) (x : Denots (types_at (buffer' b) κs))
    (is-h : Is T.R h (T.val h ∷ [])) (fit : Fit k ns) (fine : Fine b (held' b κs x)) where
  open 𝓛 use {H}

  abbrev vs : Valss (types_at (buffer' b) κs)
  vs = valss (types_at (buffer' b) κs) (spell' b κs) x

  abbrev a : Args (step_ended S b k).signature κs
  a = (h, args κs (buffer' b) k ns x)

  abbrev av : Vals (step_ended S b k).signature κs
  av = (T.val h ∷ [], vals κs (buffer' b) k ns vs)

  abbrev mach : R.R.Denot → T.R.Denot → Val
  mach r t = vstruct (vcons (T.val t) (vcons (R.val r) vnil))

  abbrev Post : Val → SProp 𝓤
  Post = (walk_of 𝓛 (step_ended S b k) (stayed S b k) (step_clauses S b k Q 𝓤)).post ((κs, qs, tt, a, av), tt)

  -- what the owner says then
  abbrev Said : R.R.Denot → T.R.Denot → Nums k → Denots (types_at (buffer' b) κs) → Outs κs (buffer' b) (all yes (buffer' b)) → Type 0
  Said r t ns x f = Q h ns (contents' b κs x) t r (seen' b κs f)

  states : (r : R.R.Denot) (t : T.R.Denot) (f : Outs κs (buffer' b) (all yes (buffer' b))) → Said r t ns x f
      → Said (S.second (S.both t r)) (S.first (S.both t r)) ns x f
  states r t f e = subst (λ (y : T.R.Denot × R.R.Denot). Said y.1 y.0 ns x f) (λ i. (sym (S.parts t r).0 i, sym (S.parts t r).1 i)) e

  exits : (r : R.R.Denot) (t : T.R.Denot) (w : Fins κs (buffer' b) (all yes (buffer' b)) x) → Said r t ns x (outs κs (buffer' b) (all yes (buffer' b)) x w)
      → fits_of κs (buffer' b) (all yes (buffer' b)) (gave' b) x w → Is S.R (S.both t r) (mach r t ∷ [])
      → ent 𝓤 (⋆ 𝓛 (raw (toks 𝓛 (lives b) κs qs) ∷ ‵ (has_of κs (buffer' b) (all yes (buffer' b)) (gave' b) x w vs) ∷ [])) (Post (mach r t))
  exits r t w e f is =
      qed 𝓛 (raw (toks 𝓛 (lives b) κs qs) ∷ ‵ (has_of κs (buffer' b) (all yes (buffer' b)) (gave' b) x w vs) ∷ []) ∵
      suffices ! _ (ends_at 𝓛 (step_ended S b k) (stayed S b k) (step_clauses S b k Q 𝓤) ((κs, qs, tt, a, av), tt) (mach r t) (S.both t r)
      (last_same (T.still yes) h, lasts κs (buffer' b) x k ns w) (tt, fit_in κs (buffer' b) x (gave' b) k ns w f)) $
      says ! (clause_in κs (buffer' b) x k (Said (S.second (S.both t r)) (S.first (S.both t r))) ns w
      (states r t (outs κs (buffer' b) (all yes (buffer' b)) x w) e)) $ frame ! $
      use1 𝓛 (‵ (has_of κs (nums k (buffer' b)) (all yes (nums k (buffer' b))) (stays k (buffer' b) (gave' b)) a.1 (lasts κs (buffer' b) x k ns w) av.1))
      (has_all 𝓛 κs (buffer' b) x vs (gave' b) w k ns fit) $
      owned ! T.R (Is T.R) (T.makes M 𝓤 𝓛) h _ is-h $ fjoin ! $ frame ! $
      owned ! S.R (Is S.R) (S.makes M 𝓤 𝓛) (S.both t r) _ is $ done !

  -- the call: the local l is lent for the lifetime ν under the name δ
  module _ (l ν : ℕ) (δ : GName) where
    abbrev κs' : Lfts (suc (lives b))
    κs' = (ν ∷ [], κs)

    abbrev loan : MutBor T.R.Denot
    loan = record { ref_ptr = (l, 0); ghost_name = δ; now = h }

    abbrev x' : Denots (types_at (buffer b) κs')
    x' = off b κs' x

    abbrev vs' : Valss (types_at (buffer b) κs')
    vs' = valss (types_at (buffer b) κs') (spell b κs') x'

    abbrev a' : Args (lent_ended S b k).signature κs'
    a' = (loan, args κs' (buffer b) k ns x')

    abbrev av' : Vals (lent_ended S b k).signature κs'
    av' = (vptr l 0 ∷ [], vals κs' (buffer b) k ns vs')

    abbrev to : (Lend S b k Q 𝓛).Ghost
    to = ((κs', (full_share, qs), tt, a', av'), tt)

    -- what the call ensures of what it returns, and of the last contents of the table and the buffer
    abbrev Said' : R.R.Denot → T.R.Denot → Nums k → Denots (types_at (buffer b) κs') → Outs κs' (buffer b) (all yes (buffer b)) → Type 0
    Said' r t ns x f = Q h ns (contents b κs' x) t r (seen b κs' f)

    abbrev Ensured : R.R.Denot → Lasts (lent_ended S b k) κs' a' → Type 0
    Ensured r ws = Clause κs' (buffer b) k (Said' r ws.0) a'.1 (at_exit (lent_ended S b k) κs' a' ws).1

    abbrev last' : Lasts (lent_ended S b k) κs' a' → Fins κs' (buffer b) (all yes (buffer b)) x'
    last' ws = last κs' (buffer b) x' k ns ws.1

    goes : ent 𝓤 (⋆ 𝓛 ((‵ (flft (ν ∷ []) full_share) ⊛ raw (toks 𝓛 (lives b) κs qs)) ∷ ‵
        ((MutRef (named 0) (ν ∷ []) T.R).own_val loan (vptr l 0 ∷ [])) ∷ ‵ (owns (types_at (buffer' b) κs) x vs) ∷ [])) ((Lend S b k Q 𝓛).pre to)
    goes =
        qed 𝓛 ((‵ (flft (ν ∷ []) full_share) ⊛ raw (toks 𝓛 (lives b) κs qs)) ∷ ‵ ((MutRef (named 0) (ν ∷ []) T.R).own_val loan (vptr l 0 ∷ [])) ∷ ‵
        (owns (types_at (buffer' b) κs) x vs) ∷ []) ∵ move ! (2 ∷ []) $ use1 𝓛 (‵ (owns (types_at (buffer b) κs') x' vs')) (hand_off 𝓛 b κs' x) $
        use1 𝓛 (‵ (owns (types_at (nums k (buffer b)) κs') a'.1 av'.1)) (own_all 𝓛 κs' (buffer b) x' vs' k ns fit) $
        move ! (2 ∷ 0 ∷ []) $ fjoin ! $ move ! (1 ∷ 0 ∷ []) $ join ! $ frame ! $ done !

  module _ (C : Calls 𝓤 H) (Λ : Loops 𝓤 H) (fm : FmC 𝓤 H 𝓛.laws C) (known : Triple 𝓤 (C key) (Lend S b k Q 𝓛)) where
    walk : ent 𝓤 (on_entry 𝓛 (step_ended S b k).signature κs qs a av) (WpFn 𝓤 H C Λ (own_function S b k key)
        (flat (types_at (step_ended S b k).signature.params κs) av) Post)
    walk =
        qed 𝓛 (raw (toks 𝓛 (lives b) κs qs) ∷ ‵ (owns (types_at (step_ended S b k).signature.params κs) a av) ∷ []) ∵ enter ! C Λ
        (own_function S b k key) (flat (types_at (step_ended S b k).signature.params κs) av) _ $
        alloc1 ! (λ l₀. alloc1 ! (λ l₁. alloc_nums ! k (λ bs. alloc_buffer ! 0 b (λ p. alloc1 ! (λ r₀. alloc1 ! (λ r₁. alloc1 ! (λ r₂. alloc_borrow ! b
        (λ i j. alloc1 ! (λ r₃. alloc0 ! $ params1 ! $
        -- [r₃; …; the borrow's; r₂; …; r₁; …; r₀; …; the buffer's; the numbers; _1; …; room for _0; …; the tokens; what the parameters own]
        pass1 ! (init ! 11 refl (T.typed M 𝓤 𝓛 h _ is-h)) $
        move ! (10 ∷ []) $ pass_nums ! k bs ns fit κs (buffer' b) vs $ move ! (10 ∷ []) $ pass_buffer' ! b κs x fine p (rest S b r₀ r₁ r₂ i j r₃) $
        -- [the buffer's; the numbers; r₃; …; the borrow's; r₂; …; r₁; …; r₀; …; _1; …; room for _0; …; the tokens; what the parameters own]
        move ! (16 ∷ []) $ fsplit ! $ move ! (1 ∷ []) $ use1 𝓛 (‵ (owns (types_at (buffer' b) κs) x vs)) (own_rest 𝓛 κs (buffer' b) x vs k ns) $
        -- [what the buffer owns; what t owns; the buffer's; the numbers; r₃; …; the borrow's; r₂; …; r₁; …; r₀; …; _1; …; room for _0; …; the tokens]
        assigns ! (of_opd ! (load ! (from ! (stop !)) (look ! 13 refl))) (from_rest ! 0 0 b k bs p (rest S b r₀ r₁ r₂ i j r₃) (stop !))
        (init ! 11 refl (T.typed M 𝓤 𝓛 h _ is-h)) $
        assigns ! (addr ! (from_rest ! 0 0 b k bs p (rest S b r₀ r₁ r₂ i j r₃) (stop !))) (from_rest ! 2 0 b k bs p (rest S b r₀ r₁ r₂ i j r₃) (stop !))
        (init ! 7 refl (tt, tt)) $
        move ! (6 ∷ 2 ∷ []) $ prepares ! 0 b (held' b κs x) fine k 3 p i j (stand 𝓤 H S b k bs p r₀ r₁ r₂ i j r₃) $
        -- [the borrow's; the buffer's; what it owns; what t owns; the numbers; r₃; …; r₂; …; r₁; …; r₀; …; _1; …; room for _0; …; the tokens]
        -- the local is lent for a lifetime ν of the call
        move ! (11 ∷ 3 ∷ []) $ use2 𝓛 (‵ ((mem T.R).own_at h r₀ 0)) (lies_in 𝓛 T h r₀) $ lft_new ! tt (λ ν. move ! (1 ∷ []) $
        use1 𝓛 (later (some (λ (δ : GName). ‵ ((MutRef (named 0) (ν ∷ []) T.R).own_val (loan r₀ ν δ) (vptr r₀ 0 ∷ [])) ⊛ ‵
        (flent (ν ∷ []) (Body (mem T.R) r₀ 0 δ))))) (lends_ref 𝓛 T.R (named 0) (ν ∷ []) h r₀ 0) $ await ! tt $ pick ! (λ δ. split ! $
        -- [the loan; the lender's part; ν's token; the borrow's; the buffer's; what it owns; the numbers; r₃; …; r₂; …; r₁; …; r₀'s end; _1; …; room for _0;
        -- …; the tokens]
        move ! (2 ∷ 18 ∷ 0 ∷ 5 ∷ []) $ join ! $ use3 𝓛 (raw ((Lend S b k Q 𝓛).pre (to r₀ ν δ))) (goes r₀ ν δ) $
        -- [what the call asks; the lender's part; the borrow's; the buffer's; the numbers; r₃; …; r₂; …; r₁; …; r₀'s end; _1; …; room for _0; …]
        calls_at ! fm (Lend S b k Q 𝓛) known (to r₀ ν δ) (and_then ! (load ! (from_rest ! 2 0 b k bs p (rest S b r₀ r₁ r₂ i j r₃) (stop !)) (look ! 7 refl))
        (read_nums ! 4 k bs ns (κs' r₀ ν δ) (buffer b) (vs' r₀ ν δ) (λ i. suc (suc i)) (buffer_env 0 b p (rest S b r₀ r₁ r₂ i j r₃)) refl (λ i. refl)
        (read_borrow' ! 2 0 b (κs' r₀ ν δ) x k 3 p i j (stand 𝓤 H S b k bs p r₀ r₁ r₂ i j r₃) refl))) (λ v.
        use1 𝓛 (later (some (λ (r : R.R.Denot). ((‵ (flft (ν ∷ []) full_share) ⊛ raw (toks 𝓛 (lives b) κs qs)) ⊛ ‵ (R.R.own_val r (v ∷ []))) ⊛ raw
        (ensured 𝓛 (lent_ended S b k) (lent_clauses S b k Q 𝓤) (κs' r₀ ν δ) (a' r₀ ν δ) tt r)))) (id⊢ 𝓤 _) $ await ! tt $ pick ! (λ r.
        -- what the call ensures, at some last contents of the table and the buffer
        split ! $ move ! (1 ∷ []) $ use1 𝓛 (some (λ (ws : Lasts (lent_ended S b k) (κs' r₀ ν δ) (a' r₀ ν δ)). ‵
        (lasting (lent_ended S b k) (κs' r₀ ν δ) (a' r₀ ν δ) ws) ⊛ raw (fact 𝓤 (Ensured r₀ ν δ r ws)))) (id⊢ 𝓤 _) $ pick ! (λ ws.
        split ! $ move ! (1 ∷ []) $ heard ! (Ensured r₀ ν δ r ws) (λ e. fsplit ! $ fsplit ! $ move ! (1 ∷ []) $ drop ! $ move ! (1 ∷ []) $
        use1 𝓛 (‵ (lasts_of (κs' r₀ ν δ) (buffer b) (all yes (buffer b)) (x' r₀ ν δ) (last' r₀ ν δ ws)))
        (last_rest 𝓛 (κs' r₀ ν δ) (buffer b) (x' r₀ ν δ) (vs' r₀ ν δ) k ns ws.1) $
        use1 𝓛 (given (fits_of κs (buffer' b) (all yes (buffer' b)) (gave' b) x (end' b (κs' r₀ ν δ) x (last' r₀ ν δ ws)))
        (‵ (has_of κs (buffer' b) (all yes (buffer' b)) (gave' b) x (end' b (κs' r₀ ν δ) x (last' r₀ ν δ ws)) vs)))
        (have_back 𝓛 b (κs' r₀ ν δ) x (last' r₀ ν δ ws)) $ learn ! (λ f.
        -- [what is had of the buffer; the table's last value; the tokens and the result; the lender's part; the borrow's; the buffer's; the numbers; r₃; …;
        -- r₂; …; r₁; …; r₀'s end; _1; …; room for _0; …]
        move ! (2 ∷ []) $ split ! $ move ! (1 ∷ []) $ peeks ! R.R (Is R.R) (shows 𝓛 R.R) r (v ∷ []) (λ is.
        land ! (from_rest ! 1 0 b k bs p (rest S b r₀ r₁ r₂ i j r₃) (stop !)) (init ! 12 refl (R.typed M 𝓤 𝓛 r _ is)) $
        rewrite ! 12 (λ (u : Val). ‵ (fat full_share R.mir r₁ 0 u)) (ap only (R.tells r _ is)) refl $ drop ! $
        -- the lifetime is ended, and the local comes back at that table
        split ! $ lft_end ! tt $ move ! (0 ∷ 4 ∷ 3 ∷ []) $ use3 𝓛 (later (‵ ((mem T.R).own_at ws.0 r₀ 0)))
        (ref_back 𝓛 T.R (ν ∷ []) δ ws.0 r₀ 0) $ await ! tt $
        use1 𝓛 (‵ (fat full_share T.mir r₀ 0 (T.val ws.0)) ⊛ ‵ (T.R.own_val ws.0 (T.val ws.0 ∷ []))) (lies_out 𝓛 T ws.0 r₀) $ split ! $
        move ! (1 ∷ []) $ peeks ! T.R (Is T.R) (shows 𝓛 T.R) ws.0 (T.val ws.0 ∷ []) (λ g. move ! (1 ∷ 0 ∷ []) $
        -- [r₀; what the table owns; the tokens; what is had of the buffer; the borrow's; the buffer's; the numbers; r₃; …; r₂; …; r₁; …; r₀'s end; _1; …; room
        -- for _0; …]
        assigns ! (of_opd ! (load ! (from_rest ! 0 0 b k bs p (rest S b r₀ r₁ r₂ i j r₃) (stop !)) (look ! 0 refl)))
        (from_copy ! S b k bs p r₀ r₁ r₂ i j r₃ (stop !)) (init ! 7 refl (T.typed M 𝓤 𝓛 ws.0 _ g)) $
        assigns ! (agg ! (and_then ! (load ! (from_copy ! S b k bs p r₀ r₁ r₂ i j r₃ (stop !)) (look ! 7 refl)) (and_then !
        (load ! (from_rest ! 1 0 b k bs p (rest S b r₀ r₁ r₂ i j r₃) (stop !)) (look ! 11 refl)) (no_more !)))) (from ! (stop !))
        (init ! 16 refl (S.typed M 𝓤 𝓛 (S.both ws.0 r) _
        (S.is_both ws.0 r g (subst (Is R.R r) (R.tells r _ is) is)))) $
        returns ! (look ! 16 refl) $ forget ! 0 refl $ forget ! 7 refl $ forget ! 9 refl $ forget ! 11 refl $ forget ! 14 refl $ forget ! 16 refl $
        move ! (16 ∷ 17 ∷ []) $ free1 ! $ move ! (14 ∷ 15 ∷ []) $ free1 ! $ move ! (6 ∷ []) $ free_nums ! k bs ns $ move ! (5 ∷ []) $
        free_buffer ! 0 b (held' b κs x) p $
        -- [r₀; what the table owns; the tokens; what is had of the buffer; the borrow's; r₃; …; r₂; …; r₁; …; r₀'s end]
        move ! (0 ∷ 11 ∷ []) $ free1 ! $ move ! (8 ∷ 9 ∷ []) $ free1 ! $ move ! (6 ∷ 7 ∷ []) $ free1 ! $ move ! (3 ∷ []) $
        free_borrow ! b (held' b κs x) i j $ move ! (3 ∷ 4 ∷ []) $ free1 ! $ free0 ! $
        keep ! (1 ∷ 2 ∷ []) $ by ! (exits r ws.0 (end' b (κs' r₀ ν δ) x (last' r₀ ν δ ws))
        (same_said' b (κs' r₀ ν δ) x (last' r₀ ν δ ws) (λ ys zs. Q h ns ys ws.0 r zs)
        (clause_out (κs' r₀ ν δ) (buffer b) (x' r₀ ν δ) k (Said' r₀ ν δ r ws.0) ns ws.1 e)) f
        (S.is_both ws.0 r g (subst (Is R.R r) (R.tells r _ is) is)))))))))))))))))))))

module _ {M : Type 1} {𝓤 : Ura M} (𝓛 : Logic 𝓤) {T R : Plainly} (S : Both T R) (b : Beside) (k : ℕ)
    (Q : Says S b k) (key : Callee) where
  -- the numbers and the buffer, and their machine values
  open 𝓛 use {H}

  abbrev Rest : Lfts (lives b) → Type 0
  Rest κs = Denots (types_at (nums k (buffer' b)) κs) × Valss (types_at (nums k (buffer' b)) κs)

  own_walks : (C : Calls 𝓤 H) (Λ : Loops 𝓤 H) → FmC 𝓤 H 𝓛.laws C → Triple 𝓤 (C key) (Lend S b k Q 𝓛)
      → Walks 𝓛 (step_ended S b k) (stayed S b k) (WpFn 𝓤 H C Λ (own_function S b k key)) (step_clauses S b k Q 𝓤)
  own_walks C Λ fm known = walked 𝓛 (step_ended S b k) (stayed S b k) (step_clauses S b k Q 𝓤) (WpFn 𝓤 H C Λ (own_function S b k key))
      (λ κs. ((λ y. T.val y ∷ []), spells κs (buffer' b) k (spell' b κs)))
      (λ κs. (T.tells, tells κs (buffer' b) k (spell' b κs) (spell_tells' b κs)))
      (λ κs qs bounds a g are. via 𝓤 _ (fst∗ 𝓤 _ (emp 𝓤))
      (subst (λ (y : Rest κs). ent 𝓤 (on_entry 𝓛 (step_ended S b k).signature κs qs (a.0, y.0) (T.val a.0 ∷ [], y.1))
      (WpFn 𝓤 H C Λ (own_function S b k key) (flat (types_at (step_ended S b k).signature.params κs) (T.val a.0 ∷ [], y.1))
      ((walk_of 𝓛 (step_ended S b k) (stayed S b k) (step_clauses S b k Q 𝓤)).post ((κs, qs, tt, (a.0, y.0), (T.val a.0 ∷ [], y.1)), tt))))
      (λ i. (args_is κs (buffer' b) k a.1 i, vals_is κs (buffer' b) k (spell' b κs) a.1 i))
      (walk 𝓛 S b k Q key κs qs a.0 (front κs (buffer' b) k a.1) (back κs (buffer' b) k a.1) are.0
      (fit_of κs (buffer' b) (spell' b κs) k a.1 are.1) (fine_of' b κs (back κs (buffer' b) k a.1)
      (are_of κs (buffer' b) (spell' b κs) k a.1 are.1)) C Λ fm known)))

own_meets : {T R : Plainly} (S : Both T R) (b : Beside) (k : ℕ) (Q : Says S b k) (key : Callee) {M : Type 1} {𝓤 : Ura M} (𝓛 : Logic 𝓤)
    → (𝓣 : Tables 𝓤 𝓛.H) → Triple 𝓤 (𝓣.C key) (Lend S b k Q 𝓛)
    → Triple 𝓤 (WpFn 𝓤 𝓛.H 𝓣.C 𝓣.Λ (own_function S b k key)) (Step S b k Q 𝓛)
own_meets {T} S b k Q key {𝓤 = 𝓤} 𝓛 𝓣 known =
    walk_Meets 𝓛 (step_ended S b k) (stayed S b k) (
      Goes-none 𝓛 (lives b) (λ _. T.R) yes (λ κs. silent (T.still yes)),
      go_nums 𝓛 k (buffer' b) (gave' b) (go_buffer' 𝓛 b),
    ) (step_clauses S b k Q 𝓤)
    (WpFn 𝓤 𝓛.H 𝓣.C 𝓣.Λ (own_function S b k key)) (WpFn-mono 𝓤 𝓛.H 𝓛.laws 𝓣 (own_function S b k key))
    (own_walks 𝓛 S b k Q key 𝓣.C 𝓣.Λ (fm_of 𝓤 𝓛.H 𝓛.laws 𝓣) known)

pub own_spec : {T R : Plainly} (S : Both T R) (b : Beside) (k : ℕ) (Q : Says S b k) {M : Type 1} {𝓤 : Ura M} (𝓛 : Logic 𝓤) (𝓜 : Model 𝓤 𝓛.H)
    (𝓡 : Running 𝓤 𝓛.H 𝓜) (γ : Env) (n key : Callee) (r : Routine) → γ key ≡ r
    → Closed 𝓤 𝓛.H (tables 𝓤 𝓛.H 𝓜 𝓡 γ).C (tables 𝓤 𝓛.H 𝓜 𝓡 γ).Λ n (own_function S b k key)
    → Triple 𝓤 (𝓡.run r) (Lend S b k Q 𝓛) → Triple 𝓤 (𝓡.run (γ n)) (Step S b k Q 𝓛)
own_spec S b k Q {𝓤 = 𝓤} 𝓛 𝓜 𝓡 γ n key r at closed =
    linked 𝓤 𝓛.H 𝓜 𝓡 γ n key r (own_function S b k key) (Step S b k Q 𝓛) (Lend S b k Q 𝓛) at closed
    (own_meets S b k Q key 𝓛)
