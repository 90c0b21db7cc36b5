use Rattle.std.proofs.Common.{◌==◌, ◌∙◌, IsSome, ap, subst, sym}
use Rattle.std.proofs.lemmas.Bool.{false≢true}
use Rattle.std.specs.Map.{lookup}
use Rattle.enumerators.specs.Places.{AreRising}
use Rattle.enumerators.proofs.Searches.{AreRising-numbered}
use Rattle.enumerators.proofs.enumerators.Enumerators.place.Goals as goal

pub place_of-requires : goal.place_of-requires
place_of-requires c =
    subst AreRising (sym c.as_slice.ensures.value) (AreRising-numbered 0 c.self.inside.live.items c.self.inside.next c.self.invariant)

pub returns-in-None-clause-live : goal.returns-in-None-clause-live
returns-in-None-clause-live c =
    let find = lookup (λ n. n == c.args.number) in (
      λ wrong. absurd (false≢true wrong),
      λ live. absurd (false≢true (subst IsSome (ap (λ table. find table.live) (sym c.self.view_is) ∙ ap find (sym c.as_slice.ensures.value) ∙ c.in-None.ensures.none) live)),
    )
