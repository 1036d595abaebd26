-- A function of two callees, as a proof of its contract meets it: as `Linked.antt` says of one.
use mathlib.Core.Path.{◌≡◌}
use seplogic.Ra.Ura.{Ura}
use mir.Syntax.{Callee, Fn}
use prog.Model.{Model}
use prog.Routine.{Routine, Env}
use prog.Wp.{Heap, WpFn, Tables, Closed}
use contract.Running.{Running, tables, tables_of}
use denote.Triple.Statement.{Contract, Triple}
use denote.Triple.Table.{entered, cited}

module _ {M : Type 1} (𝓤 : Ura M) (H : Heap 𝓤) (𝓜 : Model 𝓤 H) (𝓡 : Running 𝓤 H 𝓜) (γ : Env) (n k k' : Callee) (r r' : Routine) (e : Fn) (c d d' : Contract 𝓤)
    (at : γ k ≡ r) (at' : γ k' ≡ r') where
  pub linked_two : Closed 𝓤 H (tables 𝓤 H 𝓜 𝓡 γ).C (tables 𝓤 H 𝓜 𝓡 γ).Λ n e
      → ((𝓣 : Tables 𝓤 H) → Triple 𝓤 (𝓣.C k) d → Triple 𝓤 (𝓣.C k') d' → Triple 𝓤 (WpFn 𝓤 H 𝓣.C 𝓣.Λ e) c)
      → Triple 𝓤 (𝓡.run r) d → Triple 𝓤 (𝓡.run r') d' → Triple 𝓤 (𝓡.run (γ n)) c
  unfolding tables_of
  linked_two closed walk met met' = entered 𝓤 H c (tables 𝓤 H 𝓜 𝓡 γ).C (tables 𝓤 H 𝓜 𝓡 γ).Λ n e closed
      (walk (tables_of 𝓤 H 𝓜 (tables 𝓤 H 𝓜 𝓡 γ)) (cited 𝓤 H d 𝓜 𝓡 γ k r at met) (cited 𝓤 H d' 𝓜 𝓡 γ k' r' at' met'))
