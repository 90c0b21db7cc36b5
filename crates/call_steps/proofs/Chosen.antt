-- A value that is known only to be there, in a proof by hand.
use contract.Lifetimes.{Lfts}
use contract.Monad.{fact, fact_i, fact_use, Fun}
use base.Logic.{SProp, sep, via, mono_r, snd∗}
use seplogic.Ra.Ura.{Ura}
use types.Logic.{Logic}
use Prim.Native.Nat.{ℕ}
use mathlib.Core.List.{List}
use denote.Triple.Statement.{Triple}
use denote.Triple.Entry.{on_entry}
use borrow.Fn.Kind.{ParamKind, ResultKind}
use borrow.Fn.Kinds.{In, Out, Dens, sig_of}
use borrow.Fn.Function.{plain_of}

module _ {M : Type 1} {𝓤 : Ura M} (𝓛 : Logic 𝓤) (n : ℕ) (ps : List (ParamKind n)) (r : ResultKind n) where
  -- a function that is proved for each value is proved where one is there
  pub for_some : (W : Type 0) (Pre : In n ps) (At : W → In n ps) (Post : Out n ps r) (run : Fun 𝓤)
      → (pick : (κs : Lfts n) (a : Dens κs ps) → Pre κs a → W)
      → ((κs : Lfts n) (a : Dens κs ps) (p : Pre κs a) → At (pick κs a p) κs a)
      → ((w : W) → Triple 𝓤 run (plain_of 𝓛 n ps r (At w) Post))
      → Triple 𝓤 run (plain_of 𝓛 n ps r Pre Post)
  for_some W Pre At Post run pick fits t y =
      let On : SProp 𝓤 = on_entry 𝓛 (sig_of n ps r) y.0.0 y.0.1 y.0.3 y.0.4 in
      fact_use 𝓤 {Q = run ((plain_of 𝓛 n ps r Pre Post).args y) ((plain_of 𝓛 n ps r Pre Post).post y)} (Pre y.0.0 y.0.3) (snd∗ 𝓤 On (fact 𝓤 (Pre y.0.0 y.0.3))) (λ p.
      via 𝓤 (sep 𝓤 On (fact 𝓤 (At (pick y.0.0 y.0.3 p) y.0.0 y.0.3)))
      (mono_r 𝓤 On (fact_i 𝓤 (At (pick y.0.0 y.0.3 p) y.0.0 y.0.3) (fact 𝓤 (Pre y.0.0 y.0.3)) (fits y.0.0 y.0.3 p)))
      (t (pick y.0.0 y.0.3 p) y))
