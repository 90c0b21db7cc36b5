-- A change of an object leaves its file in the format that it has.
use Rattle.std.proofs.Common.{◌≡◌, ap, ◌∙◌, subst, sym, true≢false}
use Rattle.std.specs.Prelude.{Option, Some, None, IfSome, IsSome, true}
use Rattle.htree_file.specs.Value.{Staged}
use Rattle.object_file.specs.Value.{ObjectValue}

-- what is adopted once it is settled
abbrev Adopts : {F : Type 0} → (before after : ObjectValue F) → Option Staged → Type 0
Adopts before after settled =
    IfSome settled (λ (s : Staged). after ≡ record before { tree = record before.tree { root = s.root; tree = s.tree; stage = None } })

pub adopted_format : {F : Type 0} (staged settled : Option Staged) (before after : ObjectValue F)
    → IsSome staged → IfSome staged (λ (s : Staged). s.root.format ≡ 2) → IfSome staged (λ (s : Staged). settled ≡ Some (record s { settled = true }))
    → IfSome settled (λ (s : Staged). after ≡ record before { tree = record before.tree { root = s.root; tree = s.tree; stage = None } })
    → after.tree.root.format ≡ 2
adopted_format None settled before after some format settles adopts = absurd (true≢false (sym some))
adopted_format (Some s) settled before after some format settles adopts =
    let is : after ≡ record before { tree = record before.tree { root = s.root; tree = s.tree; stage = None } } =
    subst (Adopts before after) settles adopts in
    ap (λ o. o.tree.root.format) is ∙ format
