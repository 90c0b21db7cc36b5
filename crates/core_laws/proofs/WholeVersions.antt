-- A version without damage stands under every tamper scenario.
use Rattle.std.proofs.Common.{◌≡◌, ◌+◌, ℕ, List, [], ◌∷◌, refl, sym, ap, ◌∙◌, subst}
use Rattle.std.specs.Prelude.{Contains}
use Rattle.std.specs.List.{list_any}
use Rattle.std.proofs.lemmas.List.{ext_get_or}
use Rattle.store_model.specs.Object.{Contents, Damaged, Object, Sound}
use Rattle.store_model.specs.Data.{meets_block}
use Rattle.store_model.specs.Damage.{HasFewerBad, HasLessDamage}
use Rattle.core_laws.proofs.Contained.{contains_first, contains_none}
use Rattle.core_laws.specs.TamperScenarios.{object_under}
use Rattle.core_laws.proofs.Mending.{less_under}
use Rattle.core_laws.specs.CommitMaps.{WholeVersionsStand}

no_bad : (l : List ℕ) → ((k : ℕ) → Contains l k → Contains [] k) → l ≡ []
no_bad [] none = refl
no_bad (k ∷ l) none = absurd (contains_none k (none k (contains_first k k l refl)))

fewer_same : (old new : Contents) → old.bad ≡ [] → HasFewerBad old new → new ≡ old
fewer_same old new none f =
    let bad : new.bad ≡ old.bad = no_bad new.bad (λ k there. subst (λ (l : List ℕ). Contains l k) none (f.bad k there)) ∙ sym none in
    let bytes : new.bytes ≡ old.bytes =
    ext_get_or 0 new.bytes old.bytes f.size (λ p within. f.good p (ap (list_any (meets_block p (p + 1))) none)) in
    (λ i. record { attributes = f.attributes i; bytes = bytes i; bad = bad i })

less_same : (c : Contents) (o : Object) → c.bad ≡ [] → HasLessDamage (Sound c) o → o ≡ Sound c
less_same c (Sound new) none f = ap (λ (x : Contents). Sound x) (fewer_same c new none f)
less_same c (Damaged size) none f = absurd f

pub whole_stand : WholeVersionsStand
whole_stand keys scenario file generation v c real is none =
    less_same c (object_under keys scenario file generation v) none
    (subst (λ (o : Object). HasLessDamage o (object_under keys scenario file generation v)) is (less_under keys scenario file generation v real))
