-- A mount, read by read: the table is that of the card, or the first fault is the card's.
use Rattle.std.proofs.Common.{◌≡◌, ◌∙◌, ◌||◌, ℕ, ◌+◌, ◌<◌, ◌≤◌, Bool, true, false, List, length, get_or, Option, Some, None, Result, Ok, Err, refl, sym, ap, subst, true≢false}
use Rattle.std.specs.Prelude.{IfErr, IfOk, nat_lt}
use Rattle.rpmb_card.specs.Card.{CardState}
use Rattle.rpmb_card.specs.Port.{PortState, Sound}
use Rattle.rpmb_host.specs.Honest.{HasCard}
use Rattle.card_maps.specs.CardMaps.{BadCard, CardMap, blocks_of, objects_of}
use Rattle.card_maps.specs.CardWrites.{live_in}
use Rattle.card_maps.specs.Form.{is_live, map_fault}
use Rattle.card_maps.specs.Loading.{HasEntries, HasNone}
use Rattle.card_maps.specs.Names.{names_of}
use Rattle.card_maps.specs.TableStates.{TableState}
use Rattle.card_maps.specs.Tables.{entry_at, is_used_at}
use Rattle.card_maps.proofs.Loading.{entries_more, entries_none, entries_skip, entry_refused, live_from, map_refused, table_read}
use Rattle.card_maps.proofs.Shown.{names_are}
use Rattle.tee_types.specs.declared.reply.Cause.{Cause}
use Rattle.rpmb_files.specs.declared.fault.CardFault.{CardFault}
use Rattle.rpmb_files.specs.declared.fault.CardFault.TheVariants.{TooLarge, NotFound, Full, Spent, Device, Bad, NoMemory}
use Rattle.rpmb_files.specs.declared.store.Doubt.{Doubt}
use Rattle.rpmb_files.specs.Calls.{MountFaultStands, Mounts}
use Rattle.rpmb_files.specs.Causes.{CauseStands, NoCard}
use Rattle.rpmb_files.specs.Devices.{Devices, GoesOn, devices}
use Rattle.rpmb_files.specs.Knows.{IsStore}
use Rattle.rpmb_files.specs.Links.{TellsBlock, TellsCounter}
use Rattle.rpmb_files.specs.Parts.{parts}
use Rattle.rpmb_files.specs.Reading.{EntriesFault, EntriesRead, EntryFault, EntryRead, MapRead, TableRead}
use Rattle.rpmb_files.specs.Replies.{FaultStands}
use Rattle.rpmb_files.specs.Stores.{ShowsNames}
use Rattle.rpmb_files.proofs.Ends.{moved_card, one_map, sound_card}
use Rattle.rpmb_files.proofs.Exchanges.{cause_then, goes_same, goes_then}

-- a cause that stands from a later time on, where the card is as it was
pub read_cause_then : (key own : List ℕ) (old mid new : Devices) (cause : Cause) → own ≡ key → GoesOn key old mid → mid.port.card ≡ old.port.card
    → CauseStands (NoCard own mid) own mid new cause → CauseStands (NoCard key old) key old new cause
read_cause_then key own old mid new cause same goes stays stands =
    cause_then (NoCard key mid) (NoCard key old) key old mid new cause goes (λ none card has. none card (moved_card old.port mid.port key key card stays refl has))
    (subst (λ (k : List ℕ). CauseStands (NoCard k mid) k mid new cause) same stands)

pub fault_then : (key own : List ℕ) (old mid new : Devices) (fault : CardFault) → own ≡ key → GoesOn key old mid → mid.port.card ≡ old.port.card → FaultStands own mid new fault → FaultStands key old new fault
fault_then key own old mid new (Device cause) same goes stays stands = read_cause_then key own old mid new cause same goes stays stands
fault_then key own old mid new (TooLarge size) same goes stays stands = tt
fault_then key own old mid new NotFound same goes stays stands = tt
fault_then key own old mid new (Full need free) same goes stays stands = tt
fault_then key own old mid new Spent same goes stays stands = tt
fault_then key own old mid new (Bad block offset) same goes stays stands = tt
fault_then key own old mid new NoMemory same goes stays stands = tt

pub answer_then : {A : Type 0} (key own : List ℕ) (old mid new : Devices) (result : Result A CardFault) → own ≡ key → GoesOn key old mid → mid.port.card ≡ old.port.card → IfErr result (FaultStands own mid new)
    → IfErr result (FaultStands key old new)
answer_then key own old mid new (Ok value) same goes stays stands = stands
answer_then key own old mid new (Err fault) same goes stays stands = fault_then key own old mid new fault same goes stays stands

-- THE ENTRIES
-- The entries below a block were read.
pub record IsReadBelow (key : List ℕ) (old now : Devices) (map : List ℕ) (b : ℕ) (t : TableState) : Type 0 where
  pub goes : GoesOn key old now
  pub stays : now.port.card ≡ old.port.card
  pub entries : (card : CardState) → HasCard old.port key card → blocks_of card 1 ≡ map → HasEntries (blocks_of card) (live_in card) b t

pub read_none : (key : List ℕ) (old : Devices) (map : List ℕ) (t : TableState) → map_fault map ≡ None → HasNone (is_live map) t → IsReadBelow key old old map 2 t
read_none key old map t formed none = record {
  goes = goes_same key old;
  stays = refl;
  entries = λ card has is.
      entries_none (blocks_of card) (live_in card) t (live_from card (ap map_fault is ∙ formed)) (subst (λ (x : List ℕ). HasNone (is_live x) t) (sym is) none);
}

module _ (key own : List ℕ) (old now : Devices) (map : List ℕ) (b : ℕ) (t : TableState) (formed : map_fault map ≡ None) (h : IsReadBelow key old now map b t) (same : own ≡ key)
    (ge : 2 ≤ b) (lt : b < 256) where
  pub read_skip : is_live map b ≡ false → IsReadBelow key old now map (b + 1) t
  read_skip off = record {
    goes = h.goes;
    stays = h.stays;
    entries = λ card has is. entries_skip (blocks_of card) (live_in card) b t (h.entries card has is) ge (ap (λ (x : List ℕ). is_live x b) is ∙ off);
  }

  pub read_more : (new : Devices) (u : TableState) → is_live map b ≡ true → GoesOn own now new → new.port.card ≡ now.port.card → EntryRead own now.port b t u
      → IsReadBelow key old new map (b + 1) u
  read_more new u on goes stays read = record {
    goes = goes_then key old now new h.goes (subst (λ (k : List ℕ). GoesOn k now new) same goes);
    stays = stays ∙ h.stays;
    entries = λ card has is.
        let added = read card (moved_card old.port now.port key own card h.stays same has) in
        entries_more (blocks_of card) (live_in card) b t (live_from card (ap map_fault is ∙ formed)) (h.entries card has is) ge lt added.bytes u added
        (ap (λ (x : List ℕ). is_live x b) is ∙ on);
  }

  -- the fault of the entry is the first of the card
  pub entry_fault_then : (new : Devices) (fault : CardFault) → is_live map b ≡ true → EntryFault own b t now new fault → EntriesFault key map old new fault
  entry_fault_then new (Bad block offset) on refused = λ card has is.
      entry_refused card (ap map_fault is ∙ formed) b offset t ge lt (ap (λ (x : List ℕ). is_live x b) is ∙ on) (h.entries card has is)
      (refused.1 card (moved_card old.port now.port key own card h.stays same has))
      ∙ ap (λ (k : ℕ). let r : Result CardMap BadCard = Err (record { block = k; offset = offset }) in r) (sym refused.0)
  entry_fault_then new (Device cause) on stands = read_cause_then key own old now new cause same h.goes h.stays stands
  entry_fault_then new (TooLarge size) on fault = absurd fault
  entry_fault_then new NotFound on fault = absurd fault
  entry_fault_then new (Full need free) on fault = absurd fault
  entry_fault_then new Spent on fault = absurd fault
  entry_fault_then new NoMemory on fault = absurd fault

-- THE MAP BLOCK
-- a new table that uses the live entries
pub has_none : (map : List ℕ) (t u : TableState) → length t.entries ≡ 256 → ((c : ℕ) → entry_at t c ≡ None) → ((d : ℕ) → d < 256 → is_used_at t d ≡ nat_lt d 2) → u.entries ≡ t.entries
    → ((d : ℕ) → d < 256 → is_used_at u d ≡ (is_used_at t d || is_live map d)) → HasNone (is_live map) u
has_none map t u long none used same uses = record {
  long = ap (λ (es : List (Option (List ℕ))). length es) same ∙ long;
  entries = λ c. ap (λ (es : List (Option (List ℕ))). get_or es c None) same ∙ none c;
  used = λ d lt. uses d lt ∙ ap (λ (x : Bool). x || is_live map d) (used d lt);
}

module _ (key own : List ℕ) (old mid : Devices) (same : own ≡ key) (goes : GoesOn key old mid) (stays : mid.port.card ≡ old.port.card) where
  there : (card : CardState) → HasCard old.port key card → HasCard mid.port own card
  there card has = moved_card old.port mid.port key own card stays same has

  pub map_bad : (map : List ℕ) (offset : ℕ) → TellsBlock key old.port 1 map → map_fault map ≡ Some offset → MountFaultStands key old mid (Bad 1 offset)
  map_bad map offset told bad card has = map_refused card offset (ap map_fault (told card has) ∙ bad)

  pub map_read : (map : List ℕ) (t : TableState) → TellsBlock key old.port 1 map → map_fault map ≡ None → EntriesRead own mid.port map t → MapRead key old.port t
  map_read map t told formed read card has =
      (objects_of (blocks_of card) (live_in card), table_read card (ap map_fault (told card has) ∙ formed) t (read card (there card has) (told card has)))

  pub entries_fault_then : (map : List ℕ) (new : Devices) (fault : CardFault) → TellsBlock key old.port 1 map → EntriesFault own map mid new fault → MountFaultStands key old new fault
  entries_fault_then map new (Bad block offset) told fault = λ card has. fault card (there card has) (told card has)
  entries_fault_then map new (Device cause) told stands = read_cause_then key own old mid new cause same goes stays stands
  entries_fault_then map new (TooLarge size) told fault = absurd fault
  entries_fault_then map new NotFound told fault = absurd fault
  entries_fault_then map new (Full need free) told fault = absurd fault
  entries_fault_then map new Spent told fault = absurd fault
  entries_fault_then map new NoMemory told fault = absurd fault

  -- THE COUNTER, AND THE WHOLE
  pub counter_table : (counter kept : ℕ) (t : TableState) → TellsCounter key old.port counter → kept ≡ counter → MapRead own mid.port t → TableRead key old.port kept t
  counter_table counter kept t told is read card has = (read card (there card has), told card has ∙ sym is)

  pub mount_fault_then : (new : Devices) (fault : CardFault) → MountFaultStands own mid new fault → MountFaultStands key old new fault
  mount_fault_then new (Bad block offset) fault = λ card has. fault card (there card has)
  mount_fault_then new (Device cause) stands = read_cause_then key own old mid new cause same goes stays stands
  mount_fault_then new NoMemory fault = tt
  mount_fault_then new (TooLarge size) fault = absurd fault
  mount_fault_then new NotFound fault = absurd fault
  mount_fault_then new (Full need free) fault = absurd fault
  mount_fault_then new Spent fault = absurd fault

  -- whichever it is
  pub table_result : (counter kept : ℕ) (new : Devices) (result : Result TableState CardFault) → TellsCounter key old.port counter → kept ≡ counter
      → IfOk result (MapRead own mid.port) → IfOk result (TableRead key old.port kept)
  table_result counter kept new (Ok t) told is read = counter_table counter kept t told is read
  table_result counter kept new (Err fault) told is read = read

  pub fault_result : (new : Devices) (result : Result TableState CardFault) → IfErr result (MountFaultStands own mid new) → IfErr result (MountFaultStands key old new)
  fault_result new (Ok t) fault = fault
  fault_result new (Err fault) stands = mount_fault_then new fault stands

-- a store that is mounted knows its card
module _ (key own : List ℕ) (old new : PortState) (same : own ≡ key) (stays : new.card ≡ old.card) (counter : ℕ) (t : TableState) (read : TableRead key old counter t) where
  back : (card : CardState) → HasCard new own card → HasCard old key card
  back card has = moved_card new old own key card (sym stays) (sym same) has

  pub is_store : IsStore new own counter t None
  is_store card has = read card (back card has)

  pub mounted : (draws after : ℕ) → Sound old → Mounts key (devices old draws) (parts new own after t None)
  mounted draws after sound card has =
      let known = read card has in
      record {
        objects = known.0.0;
        is = known.0.1.map;
        has = moved_card old new key own card stays same has;
        shown = names_are t card known.0.0 known.0.1 (sound_card old key card sound has);
      }

-- where a store knows its card, its names are those of the card's map
pub shows : (port : PortState) (key : List ℕ) (draws counter : ℕ) (t : TableState) (doubt : Option Doubt) → Sound port → IsStore port key counter t doubt → ShowsNames (parts port key draws t doubt)
shows port key draws counter t None sound store card has m is settled =
    let known = store card has in
    names_are t card known.0.0 known.0.1 (sound_card port key card sound has) ∙ ap names_of (one_map card known.0.0 m known.0.1.map is)
shows port key draws counter t (Some doubt) sound store card has m is settled = absurd (true≢false (sym settled))
