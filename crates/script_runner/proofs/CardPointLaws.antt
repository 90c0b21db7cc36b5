-- The lines of a script over a card that has the key.
use Rattle.std.proofs.Common.{◌≡◌, ℕ, List, [], ◌∷◌, Result, Ok, sym, ap, subst, ◌∙◌}
use Rattle.rpmb_card.specs.Card.{CardState}
use Rattle.rpmb_card.specs.Arms.{Arms}
use Rattle.rpmb_card.specs.Port.{PortState, Rearmed}
use Rattle.rpmb_host.specs.Honest.{HasCard}
use Rattle.card_script.specs.declared.card_line.CardLine.{CardLine}
use Rattle.card_script.specs.declared.card_line.CardLine.TheVariants.{Put, Get, Remove, List as ListLine, Stop, Remount}
use Rattle.card_maps.specs.CardMaps.{BadCard, CardMap, card_map}
use Rattle.card_maps.specs.Course as course
use Rattle.card_maps.specs.Course.{side}
use Rattle.card_maps.specs.Names.{names_of}
use Rattle.card_maps.specs.Tables.{named}
use Rattle.rpmb_files.specs.Devices.{Devices}
use Rattle.rpmb_files.specs.Stores.{StoreState}
use Rattle.script_runner.specs.CardRecords.{CardRecord, Named, Told, map_reply}
use Rattle.script_runner.specs.CardPoints.{CallOnCard, CardPoint, LineOnCard, LinesOnCard, mounted_on}
use Rattle.script_runner.specs.CardSteps.{DoesLine, GoesThrough, MakesCall, MountsOn}

-- the point of a store over a card with this map
abbrev pub point_at : StoreState → CardState → CardMap → CardPoint
point_at s card m = record { card = card; stands = side m s.shown s.settled }

-- arming, or its end, leaves the card
pub HasCard-rearmed : (old new : PortState) (arms : Arms) (key : List ℕ) (card : CardState) → Rearmed old new arms → HasCard old key card → HasCard new key card
HasCard-rearmed old new arms key card rearmed has = record { told = ap (λ (p : PortState). p.card) rearmed.others ∙ has.told; keyed = has.keyed }

one_map : (card : CardState) (m n : CardMap) → card_map card ≡ Ok m → card_map card ≡ Ok n → m ≡ n
one_map card m n a b = let e : ◌≡◌ {A = Result CardMap BadCard} (Ok m) (Ok n) = sym a ∙ b in cc

-- what one line left of the card
pub record LeavesPoint (line : CardLine) (done : CardRecord) (old : CardPoint) (new : StoreState) (key : List ℕ) : Type 0 where
  pub card : CardState
  pub map : CardMap
  pub is : card_map card ≡ Ok map
  pub has : HasCard new.devices.port key card
  pub does : LineOnCard line done old (point_at new card map)

-- what a call left
pub record LeavesCall (call : course.CardCall) (reply : course.CardReply) (old : CardPoint) (new : StoreState) (key : List ℕ) : Type 0 where
  pub card : CardState
  pub map : CardMap
  pub is : card_map card ≡ Ok map
  pub has : HasCard new.devices.port key card
  pub does : CallOnCard call reply old (point_at new card map)

module _ (Reliable : Type 0) (old new : StoreState) (card : CardState) (has : HasCard old.devices.port old.key card) (m : CardMap) (is : card_map card ≡ Ok m) where
  pub call-on_card : (call : course.CardCall) (reply : course.CardReply) → MakesCall Reliable old new call reply → LeavesCall call reply (point_at old card m) new old.key
  call-on_card call reply makes =
      let l = makes.leaves card has m is in record {
        card = l.left;
        map = l.objects;
        is = l.is;
        has = subst (λ key. HasCard new.devices.port key l.left) makes.key l.has;
        does = record { is = l.is; runs = l.runs; first = l.first; answers = l.answers; counter = l.counter };
      }

  pub line-on_card : (line : CardLine) (done : CardRecord) → DoesLine Reliable line done old new → LeavesPoint line done (point_at old card m) new old.key
  line-on_card (Put app id bytes) (Told reply) does =
      let l = call-on_card (course.Put (named app id) bytes) (map_reply reply) does in record { card = l.card; map = l.map; is = l.is; has = l.has; does = l.does }
  line-on_card (Get app id) (Told reply) does =
      let l = call-on_card (course.Get (named app id)) (map_reply reply) does in record { card = l.card; map = l.map; is = l.is; has = l.has; does = l.does }
  line-on_card (Remove app id) (Told reply) does =
      let l = call-on_card (course.Remove (named app id)) (map_reply reply) does in record { card = l.card; map = l.map; is = l.is; has = l.has; does = l.does }
  line-on_card ListLine (Named names) does = record {
    card = card;
    map = m;
    is = is;
    has = subst (λ s. HasCard s.devices.port old.key card) (sym does.same) has;
    does = record { same = ap (λ s. point_at s card m) does.same; listing = does.listing; known = does.shown card has m is };
  }
  line-on_card (Stop exchanges) (Told reply) does = record {
    card = card;
    map = m;
    is = is;
    has = HasCard-rearmed old.devices.port new.devices.port _ old.key card (does.1).port has;
    does = ap (λ s. point_at s card m) (does.1).others;
  }
  line-on_card Remount (Told reply) does =
      let r = does.1 in
      let between = r.between in
      let told : HasCard between.port old.key card = HasCard-rearmed old.devices.port between.port _ old.key card r.disarms.port has in
      let mounted = r.mounts.mounts card told in
      let same : mounted.objects ≡ m = one_map card mounted.objects m mounted.is is in record {
        card = card;
        map = m;
        is = is;
        has = subst (λ key. HasCard new.devices.port key card) r.mounts.key_is mounted.has;
        does = (λ i. record { card = card; stands = side m ((mounted.shown ∙ ap names_of same) i) (r.mounts.settled i) });
      }
  line-on_card line done does = absurd does

-- the key stays
pub same_key : (Reliable : Type 0) (old new : StoreState) (line : CardLine) (done : CardRecord) → DoesLine Reliable line done old new → new.key ≡ old.key
same_key Reliable old new (Put app id bytes) (Told reply) does = does.key
same_key Reliable old new (Get app id) (Told reply) does = does.key
same_key Reliable old new (Remove app id) (Told reply) does = does.key
same_key Reliable old new ListLine (Named names) does = ap (λ (s : StoreState). s.key) does.same
same_key Reliable old new (Stop exchanges) (Told reply) does = ap (λ (s : StoreState). s.key) (does.1).others
same_key Reliable old new Remount (Told reply) does = (does.1).mounts.key_is
same_key Reliable old new line done does = absurd does

-- what several lines left of the card
pub record LeavesPoints (lines : List CardLine) (records : List CardRecord) (old : CardPoint) (new : StoreState) (key : List ℕ) : Type 0 where
  pub card : CardState
  pub map : CardMap
  pub is : card_map card ≡ Ok map
  pub has : HasCard new.devices.port new.key card
  pub key_is : new.key ≡ key
  pub goes : LinesOnCard lines records old (point_at new card map)

pub lines-on_card : (Reliable : Type 0) (lines : List CardLine) (records : List CardRecord) (old new : StoreState) (card : CardState) (m : CardMap) → GoesThrough Reliable lines records old new
    → HasCard old.devices.port old.key card → card_map card ≡ Ok m → LeavesPoints lines records (point_at old card m) new old.key
unfolding GoesThrough LinesOnCard
lines-on_card Reliable [] [] old new card m same has is = record {
  card = card;
  map = m;
  is = is;
  has = subst (λ s. HasCard s.devices.port s.key card) (sym same) has;
  key_is = ap (λ (s : StoreState). s.key) same;
  goes = ap (λ s. point_at s card m) same;
}
lines-on_card Reliable [] (r ∷ records) old new card m goes has is = absurd goes
lines-on_card Reliable (l ∷ lines) [] old new card m goes has is = absurd goes
lines-on_card Reliable (l ∷ lines) (r ∷ records) old new card m goes has is =
    let between = goes.0 in
    let one = line-on_card Reliable old between card has m is l r goes.1 in
    let key = same_key Reliable old between l r goes.1 in
    let rest = lines-on_card Reliable lines records between new one.card one.map goes.2 (subst (λ k. HasCard between.devices.port k one.card) (sym key) one.has) one.is in record {
      card = rest.card;
      map = rest.map;
      is = rest.is;
      has = rest.has;
      key_is = rest.key_is ∙ key;
      goes = (point_at between one.card one.map, one.does, rest.goes);
    }

-- a store that was mounted over a card
pub record MountedOn (key : List ℕ) (first : StoreState) (card : CardState) (m : CardMap) : Type 0 where
  pub has : HasCard first.devices.port first.key card
  pub point : point_at first card m ≡ mounted_on card m

pub mounted-on_card : (key : List ℕ) (old : Devices) (first : StoreState) (card : CardState) (m : CardMap) → MountsOn key old first → HasCard old.port key card → card_map card ≡ Ok m → MountedOn key first card m
mounted-on_card key old first card m mounts has is =
    let mounted = mounts.mounts card has in
    let same : mounted.objects ≡ m = one_map card mounted.objects m mounted.is is in record {
      has = mounted.has;
      point = (λ i. record { card = card; stands = side m ((mounted.shown ∙ ap names_of same) i) (mounts.settled i) });
    }
