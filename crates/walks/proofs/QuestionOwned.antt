-- An owner of a table that lends it for a question, walked once, over all that `Question.antt` is over.
--     fn owned(t: T) -> R { let own = t; lent(&own) }
-- The table is copied into a local, which is lent for a lifetime that is made for the call and comes back unchanged.
--     ask_owned_spec     the function that has this MIR meets the contract of the question by value, where the one that it calls meets that on a lent table
use mathlib.Core.Path.{◌≡◌, refl}
use Prim.Native.Nat.{ℕ}
use mathlib.Core.List.{[], ◌∷◌}
use seplogic.Ra.Ura.{Ura}
use base.Fraction.{full_share}
use mir.Syntax.{Callee, Fn, named, erased, imm, ty_ref, place, copy, local, value_local, memory_slot, rv_opd, addr_of, seq, assign, call, return}
use mir.Val.{Val, vptr}
use base.Logic.{SProp, ent, emp, via, fst∗, snd∗, ex_e, id⊢}
use base.Fml.{Lft, ftrue, fat, flft, flent}
use prog.Model.{Model}
use prog.Routine.{Routine, Env}
use prog.Wp.{Calls, Loops, WpFn, Tables, Closed}
use types.Logic.{Logic, sem}
use contract.Monad.{fact}
use contract.Running.{Running, tables}
use types.Kit.{‵, raw, ◌⊛◌, some, later, ⋆, ◌$◌, ◌∵◌, !, qed, by, move, keep, use1, use2, split, join, pick, fsplit, fjoin, suffices, frame, await}
use types.Kit.{done}
use types.Run.{look, init, forget, stop, from, load, addr, of_opd, and_then, no_more, assigns, land, returns, enter, alloc1, alloc0, params1, pass1, pass0}
use types.Run.{free1, free0}
use types.Tokens.{lft_new, lft_end, lent_back}
use sound.WpLaws.{FmC, fm_of, WpFn-mono}
use denote.RattleType.{owns}
use denote.Laws.{Is, shows}
use denote.Memory.{mem, part_at, pointee}
use denote.Lend.{lends_free}
use denote.Ref.{Bor, ShrRef}
use denote.Steps.{owned, peeks, heard, nothing}
use denote.Triple.Statement.{Triple}
use denote.Triple.Call.{calls_at}
use denote.Triple.Clauses.{ensured, lasts}
use denote.Triple.Entry.{on_entry}
use denote.Triple.Walked.{says, Stays, stay_none, walk_of, Goes-none, Walks, ends_at, walked, walk_Meets}
use denote.Exit.{yes}
use Rattle.walks.proofs.Linked.{linked}
use Rattle.walks.proofs.Plain.{Plainly, last_same, silent, lies_in, lies_out}
use Rattle.walks.proofs.Question.{Told, Ask, AskLent, ask_ended, ask_clauses, lent_ended, lent_clauses}

module _ (T R : Plainly) where
  -- ---- the MIR of the owner, which calls the key
  abbrev pub own_function : Callee → Fn
  own_function key = record {
    lifetimes = 0;
    outlives = [];
    ty_params = [];
    givens = 0;
    params = 1;
    locals = local R.mir value_local ∷ local T.mir value_local ∷ local T.mir memory_slot
        ∷ local (ty_ref erased imm (pointee T.R.written)) value_local ∷ [];
    body = seq (assign (place 2 []) (rv_opd (copy (place 1 [])))) (seq (assign (place 3 []) (addr_of (place 2 [])))
        (seq (call key (copy (place 3 []) ∷ []) (place 0 [])) return));
  }

  abbrev stayed : Stays (ask_ended T R).signature.params (ask_ended T R).kept
  stayed = (stay_none (λ _. T.R) yes, tt)

module _ {M : Type 1} {𝓤 : Ura M} (𝓛 : Logic 𝓤) (T R : Plainly) (Q : Told T R) (key : Callee) (h : T.R.Denot)
    (is-h : Is T.R h (T.val h ∷ [])) where
  -- the loan of the local l
  open 𝓛 use {H}

  abbrev loan : ℕ → Bor T.R.Denot
  loan l = record { ref_ptr = (l, 0); now = h }

  -- what the question to a lent table says then
  abbrev Says : R.R.Denot → Type 0
  Says r = Q h r × (h ≡ h)

  abbrev Post : Val → SProp 𝓤
  Post = (walk_of 𝓛 (ask_ended T R) (stayed T R) (ask_clauses T R Q 𝓤)).post ((tt, tt, tt, (h, tt), (T.val h ∷ [], tt)), tt)

  abbrev to : ℕ → Lft → (AskLent T R Q 𝓛).Ghost
  to l κ = (((κ, tt), (full_share, tt), tt, (loan l, tt), (vptr l 0 ∷ [], tt)), tt)

  goes : (l : ℕ) (κ : Lft) → ent 𝓤 (⋆ 𝓛 (‵ (flft κ full_share) ∷ ‵ ((ShrRef (named 0) κ T.R).own_val (loan l) (vptr l 0 ∷ [])) ∷ []))
      ((AskLent T R Q 𝓛).pre (to l κ))
  goes l κ =
      qed 𝓛 (‵ (flft κ full_share) ∷ ‵ ((ShrRef (named 0) κ T.R).own_val (loan l) (vptr l 0 ∷ [])) ∷ []) ∵
      nothing ! $ move ! (2 ∷ 0 ∷ []) $ fjoin ! $ nothing ! $ move ! (2 ∷ 0 ∷ []) $ join ! $ move ! (0 ∷ 1 ∷ []) $ join ! $ frame ! $ done !

  said : (l : ℕ) (κ : Lft) (r : R.R.Denot)
      → ent 𝓤 (ensured 𝓛 (lent_ended T R) (lent_clauses T R Q 𝓤) (κ, tt) (loan l, tt) tt r) (fact 𝓤 (Says r))
  said l κ r = ex_e 𝓤 _ (λ ws. snd∗ 𝓤 (sem 𝓛 (lasts (lent_ended T R) (κ, tt) (loan l, tt) ws)) (fact 𝓤 (Says r)))

  exits : (r : R.R.Denot) (v : Val) → Says r → ent 𝓤 (sem 𝓛 (R.R.own_val r (v ∷ []))) (Post v)
  exits r v e =
      qed 𝓛 (‵ (R.R.own_val r (v ∷ [])) ∷ []) ∵
      suffices ! _ (ends_at 𝓛 (ask_ended T R) (stayed T R) (ask_clauses T R Q 𝓤) ((tt, tt, tt, (h, tt), (T.val h ∷ [], tt)), tt) v r
      (last_same (T.still yes) h, tt) (tt, tt)) $
      says ! e.0 $ owned ! T.R (Is T.R) (T.makes M 𝓤 𝓛) h _ is-h $ nothing ! $ move ! (1 ∷ 0 ∷ []) $ fjoin ! $ nothing ! $ done !

  module _ (C : Calls 𝓤 H) (Λ : Loops 𝓤 H) (fm : FmC 𝓤 H 𝓛.laws C) (known : Triple 𝓤 (C key) (AskLent T R Q 𝓛)) where
    walk : ent 𝓤 (on_entry 𝓛 (ask_ended T R).signature tt tt (h, tt) (T.val h ∷ [], tt)) (WpFn 𝓤 H C Λ (own_function T R key) (T.val h ∷ []) Post)
    walk =
        qed 𝓛 (‵ ftrue ∷ ‵ (owns (T.R ∷ []) (h, tt) (T.val h ∷ [], tt)) ∷ []) ∵ enter ! C Λ (own_function T R key) (T.val h ∷ []) _ $
        alloc1 ! (λ l₀. alloc1 ! (λ l₁. alloc1 ! (λ l₂. alloc1 ! (λ l₃. alloc0 ! $ params1 ! $
        pass1 ! (init ! 4 refl (T.typed M 𝓤 𝓛 h _ is-h)) $ pass0 ! $
        -- [room for _3; …; room for _2; …; _1; …; room for _0; …; true; what the parameter owns]
        assigns ! (of_opd ! (load ! (from ! (stop !)) (look ! 4 refl))) (from ! (stop !)) (init ! 2 refl (T.typed M 𝓤 𝓛 h _ is-h)) $
        assigns ! (addr ! (from ! (stop !))) (from ! (stop !)) (init ! 0 refl (tt, tt)) $
        move ! (9 ∷ []) $ fsplit ! $ move ! (4 ∷ 0 ∷ []) $ use2 𝓛 (‵ ((mem T.R).own_at h l₂ 0)) (lies_in 𝓛 T h l₂) $
        -- the local is lent for a lifetime ν of the call
        lft_new ! tt (λ ν. move ! (1 ∷ []) $
        use1 𝓛 (later (‵ ((ShrRef (named 0) (ν ∷ []) T.R).own_val (loan l₂) (vptr l₂ 0 ∷ [])) ⊛ ‵
        (flent (ν ∷ []) (part_at T.R full_share h l₂ 0)))) (lends_free 𝓛 T.R (named 0) (ν ∷ []) full_share h l₂ 0 ((T.copied M 𝓤 𝓛).lends full_share h l₂ 0)) $
        await ! tt $ split ! $
        -- [the loan; the lender's part; ν's token; true; _3; …; _2's end; _1; …; room for _0; …; true]
        move ! (2 ∷ 0 ∷ []) $ use2 𝓛 (raw ((AskLent T R Q 𝓛).pre (to l₂ (ν ∷ [])))) (goes l₂ (ν ∷ [])) $
        calls_at ! fm (AskLent T R Q 𝓛) known (to l₂ (ν ∷ [])) (and_then ! (load ! (from ! (stop !)) (look ! 3 refl)) (no_more !)) (λ v.
        use1 𝓛 (later (some (λ (r : R.R.Denot). ((‵ (flft (ν ∷ []) full_share) ⊛ ‵ ftrue) ⊛ ‵ (R.R.own_val r (v ∷ []))) ⊛ raw
        (ensured 𝓛 (lent_ended T R) (lent_clauses T R Q 𝓤) (ν ∷ [], tt) (loan l₂, tt) tt r)))) (id⊢ 𝓤 _) $ await ! tt $ pick ! (λ r.
        split ! $ move ! (1 ∷ []) $ use1 𝓛 (raw (fact 𝓤 (Says r))) (said l₂ (ν ∷ []) r) $ heard ! (Says r) (λ e. split ! $ move ! (1 ∷ []) $
        peeks ! R.R (Is R.R) (shows 𝓛 R.R) r (v ∷ []) (λ is.
        -- [what the answer owns; the token and true; the lender's part; true; _3; …; _2's end; _1; …; room for _0; …; true]
        land ! (from ! (stop !)) (init ! 9 refl (R.typed M 𝓤 𝓛 r _ is)) $
        -- the lifetime is ended, and the local comes back
        move ! (1 ∷ []) $ split ! $ lft_end ! tt $ move ! (0 ∷ 3 ∷ []) $ lent_back ! tt $
        use1 𝓛 (‵ (fat full_share T.mir l₂ 0 (T.val h)) ⊛ ‵ (T.R.own_val h (T.val h ∷ []))) (lies_out 𝓛 T h l₂) $ split ! $
        -- [_2; what the table owns; true; what the answer owns; true; _3; …; _2's end; _1; …; _0; …; true]
        returns ! (look ! 10 refl) $ forget ! 0 refl $ forget ! 5 refl $ forget ! 8 refl $ forget ! 10 refl $
        move ! (10 ∷ 11 ∷ []) $ free1 ! $ move ! (8 ∷ 9 ∷ []) $ free1 ! $ move ! (0 ∷ 7 ∷ []) $ free1 ! $ move ! (4 ∷ 5 ∷ []) $ free1 ! $ free0 ! $
        keep ! (2 ∷ []) $ by ! (exits r v e))))))))))

module _ {M : Type 1} {𝓤 : Ura M} (𝓛 : Logic 𝓤) (T R : Plainly) (Q : Told T R) (key : Callee) where
  open 𝓛 use {H}

  own_walks : (C : Calls 𝓤 H) (Λ : Loops 𝓤 H) → FmC 𝓤 H 𝓛.laws C → Triple 𝓤 (C key) (AskLent T R Q 𝓛)
      → Walks 𝓛 (ask_ended T R) (stayed T R) (WpFn 𝓤 H C Λ (own_function T R key)) (ask_clauses T R Q 𝓤)
  own_walks C Λ fm known = walked 𝓛 (ask_ended T R) (stayed T R) (ask_clauses T R Q 𝓤) (WpFn 𝓤 H C Λ (own_function T R key))
      (λ κs. ((λ y. T.val y ∷ []), tt)) (λ κs. (T.tells, tt))
      (λ κs qs bounds a g are. via 𝓤 _ (fst∗ 𝓤 _ (emp 𝓤)) (walk 𝓛 T R Q key a.0 are.0 C Λ fm known))

  own_meets : (𝓣 : Tables 𝓤 H) → Triple 𝓤 (𝓣.C key) (AskLent T R Q 𝓛)
      → Triple 𝓤 (WpFn 𝓤 H 𝓣.C 𝓣.Λ (own_function T R key)) (Ask T R Q 𝓛)
  own_meets 𝓣 known =
      walk_Meets 𝓛 (ask_ended T R) (stayed T R) (Goes-none 𝓛 0 (λ _. T.R) yes (λ κs. silent (T.still yes)), tt) (ask_clauses T R Q 𝓤)
      (WpFn 𝓤 H 𝓣.C 𝓣.Λ (own_function T R key)) (WpFn-mono 𝓤 H 𝓛.laws 𝓣 (own_function T R key))
      (own_walks 𝓣.C 𝓣.Λ (fm_of 𝓤 H 𝓛.laws 𝓣) known)

pub ask_owned_spec : (T R : Plainly) (Q : Told T R) {M : Type 1} {𝓤 : Ura M} (𝓛 : Logic 𝓤) (𝓜 : Model 𝓤 𝓛.H) (𝓡 : Running 𝓤 𝓛.H 𝓜)
    (γ : Env) (n key : Callee) (r : Routine) → γ key ≡ r → Closed 𝓤 𝓛.H (tables 𝓤 𝓛.H 𝓜 𝓡 γ).C (tables 𝓤 𝓛.H 𝓜 𝓡 γ).Λ n (own_function T R key)
    → Triple 𝓤 (𝓡.run r) (AskLent T R Q 𝓛) → Triple 𝓤 (𝓡.run (γ n)) (Ask T R Q 𝓛)
ask_owned_spec T R Q {𝓤 = 𝓤} 𝓛 𝓜 𝓡 γ n key r at closed =
    linked 𝓤 𝓛.H 𝓜 𝓡 γ n key r (own_function T R key) (Ask T R Q 𝓛) (AskLent T R Q 𝓛) at closed
    (own_meets 𝓛 T R Q key)
