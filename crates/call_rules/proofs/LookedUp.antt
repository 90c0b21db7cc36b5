-- What is looked up among the entries tells of the map.
use Rattle.std.proofs.Common.{not, is_some, Option, Some, None, sym, ap, ◌∙◌, option_map, arith}
use Rattle.store_model.specs.Object.{Object, holds, size_of}
use Rattle.store_model.specs.Enumerating.{shown}
use Rattle.call_rules.specs.LookLaws.{ApplicationsAreListed, FreePlacesAreRoom, NamedEntriesAreObjects, NextEntriesAreNextObjects}
use Rattle.call_rules.proofs.NextObjects.{application_none, application_there, least_next, none_next}
use Rattle.call_rules.proofs.Rooms.{and-false, and-true, free_room, full_room}
use Rattle.call_rules.proofs.ShownNames.{listed_held, unlisted_free}

pub named_objects : NamedEntriesAreObjects
named_objects entries objects name None shape none =
    let free = unlisted_free entries objects name shape none in
    (ap is_some free, ap (λ (o : Option Object). elim o [ Some object ↦ size_of object | None ↦ 0 ]) free)
named_objects entries objects name (Some held) shape named = listed_held entries objects name held.index held.entry shape named.0 named.1

pub free_places : FreePlacesAreRoom
free_places entries objects name None long distinct shape full =
    full_room entries objects name long distinct shape (λ index lt. full index (omega (arith, lt, long))) ∙ sym (and-true (not (holds objects name)))
free_places entries objects name (Some index) long distinct shape free =
    free_room entries objects name index long distinct shape (omega (arith, free.0, long)) free.1 ∙ sym (and-false (not (holds objects name)))

pub next_objects : NextEntriesAreNextObjects
next_objects entries objects app after None shape none = ap (option_map shown) (none_next entries objects app after shape none)
next_objects entries objects app after (Some e) shape next = least_next entries objects app after next.index e shape next.at next.above next.least

pub applications_listed : ApplicationsAreListed
applications_listed entries objects app None shape none = application_none entries objects app shape none
applications_listed entries objects app (Some e) shape first = application_there entries objects app first.index e shape first.at first.above
