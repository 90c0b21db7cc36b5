-- Where there is no room for one more object.
use Rattle.std.specs.Prelude.{nat_le}
use Rattle.std.proofs.Common.{◌≡◌, ◌∙◌, ◌&&◌, ℕ, Bool, not, List, length, Option, Some, None, is_none, refl, sym, ap, subst}
use Rattle.std.specs.Option.{option_map}
use Rattle.store_model.specs.declared.name.ObjectName.{ObjectName}
use Rattle.store_model.specs.Object.{ObjectMap}
use Rattle.store_model.specs.Handles.{lacks_room}
use Rattle.dir_records.specs.declared.entry.DirEntry.{DirEntry}
use Rattle.core_laws.specs.DirectoryLaws.{AreEntries}
use Rattle.dir_index.specs.declared.Held.{Held}
use Rattle.dir_index.specs.EntryNames.{IsEntryNamed, IsFirstFree}
use Rattle.call_rules.specs.Shapes.{HasShape}
use Rattle.call_rules.proofs.LookedUp.{free_places}
use Rattle.call_rules.specs.declared.decision.NewPlace.{NewPlace}
use Rattle.call_rules.specs.declared.decision.NewPlace.TheVariants.{Replaces, Adds}
use Rattle.call_rules.specs.Rows.{IsPlaceAfter}
use Rattle.call_rules.specs.Places.{IsNewPlace}
use Rattle.call_rules.proofs.Lookups.{held_is}

unwrapped : (a b : NewPlace) → Some a ≡ Some b → a ≡ b
unwrapped a b h = cc

same_lack : (free : Option ℕ) → is_none free ≡ is_none (option_map Adds free)
same_lack (Some index) = refl
same_lack None = refl

module _ (entries : List (Option DirEntry)) (objects : ObjectMap) (shape : HasShape entries objects) (are : AreEntries entries) (name : ObjectName) where
  -- There is no room exactly where there is no place.
  pub lacks_is : (found : Option Held) (place : Option NewPlace) → IsEntryNamed entries name found → IsPlaceAfter entries found place → lacks_room objects name ≡ is_none place
  lacks_is (Some held) place is after =
      ap (λ (b : Bool). not b && nat_le 256 (length objects)) (held_is entries objects shape name (Some held) is) ∙ sym (ap is_none after)
  lacks_is None place none after =
      free_places entries objects name after.0 are.whole are.distinct shape after.1
      ∙ ap (λ (b : Bool). not b && is_none after.0) (held_is entries objects shape name None none) ∙ same_lack after.0 ∙ sym (ap is_none after.2)

module _ (entries : List (Option DirEntry)) (name : ObjectName) where
  free_new : (free : Option ℕ) (place : NewPlace) → IsEntryNamed entries name None → IsFirstFree entries free → Some place ≡ option_map Adds free → IsNewPlace entries name place
  free_new (Some index) place none free is = subst (IsNewPlace entries name) (sym (unwrapped place (Adds index) is)) (none, free)
  free_new None place none free is = absurd (cc (is))

  -- the place is one for the name
  pub place_new : (found : Option Held) (place : NewPlace) → IsEntryNamed entries name found → IsPlaceAfter entries found (Some place) → IsNewPlace entries name place
  place_new (Some held) place is after = subst (IsNewPlace entries name) (sym (unwrapped place (Replaces held) after)) is
  place_new None place none after = free_new after.0 place none after.1 after.2
