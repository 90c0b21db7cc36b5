-- A call that changes objects: what stands behind its reads, and behind its writes.
use Rattle.std.proofs.Common.{◌≡◌, ◌∙◌, ℕ, suc, ◌+◌, ◌≤◌, false, List, length, take, Option, Some, None, Result, Ok, Err, refl, sym, ap, subst, arith}
use Rattle.std.specs.Prelude.{IfErr, IsSome, is_none, position}
use Rattle.std.proofs.lemmas.List.{length-take-le}
use Rattle.store_model.specs.declared.name.ObjectName.{ObjectName}
use Rattle.rpmb_card.specs.Card.{CardState, IsCard}
use Rattle.rpmb_card.specs.Port.{PortState, Sound}
use Rattle.rpmb_host.specs.Honest.{HadCard, HasCard}
use Rattle.card_maps.specs.declared.change.TableChange.{TableChange}
use Rattle.card_maps.specs.declared.change.TableChange.TheVariants.{Remove as RemoveEntry}
use Rattle.card_maps.specs.CardMaps.{CardMap, card_map}
use Rattle.card_maps.specs.Course.{Answers, CardCall, CardReply, CardSide, Done, IsRead, Put, Remove, StaysUnread, side}
use Rattle.card_maps.specs.Form.{data_blocks}
use Rattle.card_maps.specs.Plans.{CardWrite, IsFit, IsPutOf, write_count, write_of}
use Rattle.card_maps.specs.TableStates.{TableState}
use Rattle.card_maps.specs.Tables.{IsTableOf, has_name, unused}
use Rattle.card_maps.proofs.Codec.{size_back}
use Rattle.card_maps.proofs.PutPlans.{count_is, put_change}
use Rattle.card_maps.proofs.Shown.{bytes_absent, bytes_found, free_is}
use Rattle.rpmb_files.specs.declared.fault.CardFault.{CardFault}
use Rattle.rpmb_files.specs.declared.fault.CardFault.TheVariants.{TooLarge, NotFound, Full, Spent, Device, Bad, NoMemory}
use Rattle.rpmb_files.specs.declared.plan.PlanEnd.{PlanEnd}
use Rattle.rpmb_files.specs.declared.store.Doubt.{Doubt}
use Rattle.rpmb_files.specs.Calls.{CallLeaves, CallRuns, Leaves}
use Rattle.rpmb_files.specs.Carried.{PlanEndLeaves}
use Rattle.rpmb_files.specs.Devices.{Devices, GoesOn}
use Rattle.rpmb_files.specs.Knows.{IsStore, Knows}
use Rattle.rpmb_files.specs.Makes.{EndsIn, Makes, map_after}
use Rattle.rpmb_files.specs.Parts.{PutPlanned, parts}
use Rattle.rpmb_files.specs.Replies.{FaultCause, OfNoCard, OfNoDraw, done_reply, fault_reply}
use Rattle.rpmb_files.specs.Stores.{StoreState}
use Rattle.rpmb_files.proofs.Ends.{moved_card, one_map, sound_card}
use Rattle.rpmb_files.proofs.Exchanges.{cause_then}
use Rattle.rpmb_files.proofs.Outcomes.{call_stays, fault_not_done, no_put, no_removal, read_side, unread_side}
use Rattle.rpmb_files.proofs.Putting.{PutOutcome, put_outcome}
use Rattle.rpmb_files.proofs.Removing.{RemoveOutcome, remove_outcome}

some_bytes : {o : Option (List ℕ)} {x : List ℕ} → o ≡ Some x → IsSome o
some_bytes is = subst (λ (p : Option (List ℕ)). IsSome p) (sym is) refl

-- how many writes a planned put has
pub planned_count : (t : TableState) (name : ObjectName) (size : ℕ) (change : TableChange) → IsPutOf t name size change → write_count change ≡ data_blocks size + 2
planned_count t name size change p =
    let numbers : List ℕ = take (data_blocks size) (unused t.used) in
    let few : length numbers ≡ data_blocks size = length-take-le (data_blocks size) (unused t.used) (omega (arith, p.room)) in
    ap write_count p.is ∙ ap (λ (k : ℕ). data_blocks k + 2) (size_back name size numbers p.fit.app p.fit.short p.small few)

-- a fault of a plan is no device's
pub planned_cause : (Besides : Type 0) (key : List ℕ) (was now : Devices) (t : TableState) (counter : ℕ) (name : ObjectName) (size : ℕ) (fault : CardFault) → PutPlanned t counter name size (Err fault)
    → FaultCause Besides key was now fault × OfNoCard fault × OfNoDraw fault
planned_cause Besides key was now t counter name size (Full need free) planned = (tt, tt, tt)
planned_cause Besides key was now t counter name size Spent planned = (tt, tt, tt)
planned_cause Besides key was now t counter name size (TooLarge n) planned = absurd planned
planned_cause Besides key was now t counter name size NotFound planned = absurd planned
planned_cause Besides key was now t counter name size (Device cause) planned = absurd planned
planned_cause Besides key was now t counter name size (Bad block offset) planned = absurd planned
planned_cause Besides key was now t counter name size NoMemory planned = absurd planned

-- the cause of a change's fault, from before the reads of a doubt on
pub change_cause : (Before After : Type 0) (key : List ℕ) (was mid now : Devices) (result : Result Unit CardFault) → GoesOn key was mid → (After → Before)
    → IfErr result (FaultCause After key mid now) → IfErr result (FaultCause Before key was now)
change_cause Before After key was mid now (Ok done) goes on cause = tt
change_cause Before After key was mid now (Err (Device cause)) goes on stands = cause_then After Before key was mid now cause goes on stands
change_cause Before After key was mid now (Err (TooLarge size)) goes on stands = tt
change_cause Before After key was mid now (Err NotFound) goes on stands = tt
change_cause Before After key was mid now (Err (Full need free)) goes on stands = tt
change_cause Before After key was mid now (Err Spent) goes on stands = tt
change_cause Before After key was mid now (Err (Bad block offset)) goes on stands = tt
change_cause Before After key was mid now (Err NoMemory) goes on stands = tt

-- the store before, and behind the reads that its doubt made, which leave the card
module _ (p0 : PortState) (key0 : List ℕ) (draws0 c0 : ℕ) (t0 : TableState) (d0 : Option Doubt) (p1 : PortState) (key1 : List ℕ) (draws1 c1 : ℕ) (t1 : TableState)
    (stays : p1.card ≡ p0.card) (same : key1 ≡ key0) (store : IsStore p0 key0 c0 t0 d0) where
  abbrev old : StoreState
  old = parts p0 key0 draws0 t0 d0

  pub there : (card : CardState) → HasCard p0 key0 card → HasCard p1 key1 card
  there card has = moved_card p0 p1 key0 key1 card stays same has

  pub back : (card : CardState) → HasCard p1 key1 card → HasCard p0 key0 card
  back card has = moved_card p1 p0 key1 key0 card (sym stays) (sym same) has

  -- THE READS FAILED
  abbrev Unread : CardCall → CardReply → Type 0
  Unread call reply =
      (card : CardState) (m : CardMap) (b : CardSide) → StaysUnread (side m (parts p0 key0 draws0 t0 d0).shown (parts p0 key0 draws0 t0 d0).settled) b
      → Answers (side m (parts p0 key0 draws0 t0 d0).shown (parts p0 key0 draws0 t0 d0).settled) card.counter call reply b

  abbrev Rests : CardCall → Type 0
  Rests call = (card : CardState) (m : CardMap) → card_map card ≡ Ok m → CallRuns m call card card

  unsure : (d : Option Doubt) → IsSome d → is_none d ≡ false
  unsure (Some d) is = refl
  unsure None is = absurd (cc (is))

  pub unread_leaves : (d1 : Option Doubt) (call : CardCall) (reply : CardReply) → t1 ≡ t0 → d1 ≡ d0 → IsSome d0 → (reply ≡ Done → ⊥) → Rests call → Unread call reply
      → Leaves old (parts p1 key1 draws1 t1 d1) call reply
  unread_leaves d1 call reply kept left some other rests answers card has m is =
      call_stays old (parts p1 key1 draws1 t1 d1) call reply card m (there card has) is (rests card m is)
      (answers card m (side m (parts p1 key1 draws1 t1 d1).shown (parts p1 key1 draws1 t1 d1).settled)
      (unread_side old.shown (parts p1 key1 draws1 t1 d1).shown old.settled (parts p1 key1 draws1 t1 d1).settled m
      (ap (λ (t : TableState). (parts p1 key1 draws1 t d1).shown) kept) (ap (λ (d : Option Doubt). is_none d) left) (unsure d0 some))) other

  pub unread_store : (d1 : Option Doubt) → c1 ≡ c0 → t1 ≡ t0 → d1 ≡ d0 → IsStore p1 key1 c1 t1 d1
  unread_store d1 counter kept left card has =
      subst (λ (c : ℕ). Knows c t1 d1 card) (sym counter)
      (subst (λ (t : TableState). Knows c0 t d1 card) (sym kept) (subst (λ (d : Option Doubt). Knows c0 t0 d card) (sym left) (store card (back card has))))

  -- OR THEY TOLD ALL
  module _ (knows : (card : CardState) → HasCard p0 key0 card → Knows c0 t0 d0 card → Knows c1 t1 None card) (sound : Sound p0) where
    pub known : (card : CardState) → HasCard p0 key0 card → Knows c1 t1 None card
    known card has = knows card has (store card has)

    pub table_of : (card : CardState) (m : CardMap) → HasCard p0 key0 card → card_map card ≡ Ok m → IsTableOf t1 card m
    table_of card m has is =
        let k = known card has in
        subst (IsTableOf t1 card) (one_map card k.0.0 m k.0.1.map is) k.0.1

    pub is_card : (card : CardState) → HasCard p0 key0 card → IsCard card
    is_card card has = sound_card p0 key0 card sound has

    abbrev Read : CardCall → CardReply → Type 0
    Read call reply =
        (card : CardState) (m : CardMap) → IsTableOf t1 card m → IsCard card → card.counter ≡ c1 → (b : CardSide)
        → IsRead (side m (parts p0 key0 draws0 t0 d0).shown (parts p0 key0 draws0 t0 d0).settled) b
        → Answers (side m (parts p0 key0 draws0 t0 d0).shown (parts p0 key0 draws0 t0 d0).settled) card.counter call reply b

    pub read_leaves : (d1 : Option Doubt) (call : CardCall) (reply : CardReply) → d1 ≡ None → (reply ≡ Done → ⊥) → Rests call → Read call reply
        → Leaves old (parts p1 key1 draws1 t1 d1) call reply
    read_leaves d1 call reply none other rests answers card has m is =
        subst (λ (d : Option Doubt). CallLeaves old (parts p1 key1 draws1 t1 d) call reply card m) (sym none)
        (call_stays old (parts p1 key1 draws1 t1 None) call reply card m (there card has) is (rests card m is)
        (answers card m (table_of card m has is) (is_card card has) (known card has).1 (side m (parts p1 key1 draws1 t1 None).shown (parts p1 key1 draws1 t1 None).settled)
        (read_side old.shown old.settled m t1 card (table_of card m has is) (is_card card has))) other)

    pub read_store : (d1 : Option Doubt) → d1 ≡ None → IsStore p1 key1 c1 t1 d1
    read_store d1 none card has = subst (λ (d : Option Doubt). Knows c1 t1 d card) (sym none) (known card (back card has))

    -- NOTHING IS WRITTEN
    pub put_refused : (name : ObjectName) (bytes : List ℕ) (fault : CardFault) → length bytes ≤ 16384 → PutPlanned t1 c1 name (length bytes) (Err fault)
        → (card : CardState) (m : CardMap) → IsTableOf t1 card m → IsCard card → card.counter ≡ c1 → (b : CardSide)
        → IsRead (side m (parts p0 key0 draws0 t0 d0).shown (parts p0 key0 draws0 t0 d0).settled) b
        → Answers (side m (parts p0 key0 draws0 t0 d0).shown (parts p0 key0 draws0 t0 d0).settled) card.counter (Put name bytes) (fault_reply fault) b
    put_refused name bytes (Full need free) small planned card m table own current b read =
        (small, planned.0, planned.1, planned.2 ∙ free_is t1 card m table own, read)
    put_refused name bytes Spent small planned card m table own current b read =
        (small, omega (arith, planned.0, free_is t1 card m table own), omega (arith, planned.1, current), read)
    put_refused name bytes (TooLarge size) small planned card m table own current b read = absurd planned
    put_refused name bytes NotFound small planned card m table own current b read = absurd planned
    put_refused name bytes (Device cause) small planned card m table own current b read = absurd planned
    put_refused name bytes (Bad block offset) small planned card m table own current b read = absurd planned
    put_refused name bytes NoMemory small planned card m table own current b read = absurd planned

    pub put_refused_leaves : (d1 : Option Doubt) (name : ObjectName) (bytes : List ℕ) (fault : CardFault) → d1 ≡ None → length bytes ≤ 16384 → PutPlanned t1 c1 name (length bytes) (Err fault)
        → Leaves old (parts p1 key1 draws1 t1 d1) (Put name bytes) (fault_reply fault)
    put_refused_leaves d1 name bytes fault none small planned =
        read_leaves d1 (Put name bytes) (fault_reply fault) none (fault_not_done fault) (λ card m is. no_put m name bytes card is) (put_refused name bytes fault small planned)

    pub absent_leaves : (d1 : Option Doubt) (name : ObjectName) → d1 ≡ None → position (has_name name) t1.entries ≡ None → Leaves old (parts p1 key1 draws1 t1 d1) (Remove name) (fault_reply NotFound)
    absent_leaves d1 name none absent =
        read_leaves d1 (Remove name) (fault_reply NotFound) none (fault_not_done NotFound) (λ card m is. no_removal m name card is)
        (λ card m table own current b read. (bytes_absent t1 card m table own name absent, read))

    pub spent_leaves : (d1 : Option Doubt) (name : ObjectName) (at : ℕ) → d1 ≡ None → position (has_name name) t1.entries ≡ Some at → c1 ≡ 4294967295
        → Leaves old (parts p1 key1 draws1 t1 d1) (Remove name) (fault_reply Spent)
    spent_leaves d1 name at none found spent =
        read_leaves d1 (Remove name) (fault_reply Spent) none (fault_not_done Spent) (λ card m is. no_removal m name card is)
        (λ card m table own current b read. (some_bytes (bytes_found t1 card m table own name at found), omega (arith, current, spent), read))

    -- THE WRITES
    module _ (p2 : PortState) (key2 : List ℕ) (draws2 c2 : ℕ) (t2 : TableState) (d1 d2 : Option Doubt) (result : Result Unit CardFault) (sound_after : Sound p2) (none : d1 ≡ None)
        (key_is : key2 ≡ key1) (change : TableChange) (bytes : List ℕ) (name : ObjectName) where
      sounds : (c : CardState) → HasCard p2 key2 c → IsCard c
      sounds c has = sound_card p2 key2 c sound_after has

      ended : (end : PlanEnd) → EndsIn end change t1 t2 d1 d2 result → EndsIn end change t1 t2 None d2 result
      ended end ends = subst (λ (d : Option Doubt). EndsIn end change t1 t2 d d2 result) none ends

      -- what the end of the writes leaves of a card, in its own counter and the key behind
      left_of : (card : CardState) (end : PlanEnd) → HasCard p0 key0 card → (write : ℕ → CardWrite) (count : ℕ) → PlanEndLeaves key1 p2 c1 c2 card write count end
          → PlanEndLeaves key2 p2 card.counter c2 card write count end
      left_of card end has write count leaves =
          subst (λ (k : List ℕ). PlanEndLeaves k p2 card.counter c2 card write count end) (sym key_is)
          (subst (λ (n : ℕ). PlanEndLeaves key1 p2 n c2 card write count end) (sym (known card has).1) leaves)

      module _ (made : Makes key1 p1 p2 c1 c2 change bytes t1 t2 d1 d2 result) where
        pub put_made : PutPlanned t1 c1 name (length bytes) (Ok change) → (card : CardState) (m : CardMap) → HasCard p0 key0 card → card_map card ≡ Ok m
            → PutOutcome old p2 key2 draws2 c2 t2 d2 name bytes (done_reply result) card m
        put_made planned card m has is =
            let table : IsTableOf t1 card m = table_of card m has is in
            let own : IsCard card = is_card card has in
            let fit : IsFit name = planned.0.fit in
            let room : card.counter + (data_blocks (length bytes) + 2) ≤ 4294967295 = omega (arith, planned.1, (known card has).1) in
            let put : TableChange = put_change t1 card m table own.blocks name bytes fit.app fit.some fit.short planned.0.small planned.0.room room in
            let is_put : change ≡ put = planned.0.is in
            let count : write_count put ≡ suc (suc (data_blocks (length bytes))) =
            omega (arith, count_is t1 card m table own.blocks name bytes fit.app fit.some fit.short planned.0.small planned.0.room room) in
            let leaves : PlanEndLeaves key1 p2 c1 c2 card (write_of change (map_after t1 change) bytes) (write_count change) made.end =
            made.leaves card (there card has) (known card has).1 in
            let of_put : PlanEndLeaves key1 p2 c1 c2 card (write_of put (map_after t1 put) bytes) (write_count put) made.end =
            subst (λ (x : TableChange). PlanEndLeaves key1 p2 c1 c2 card (write_of x (map_after t1 x) bytes) (write_count x) made.end) is_put leaves in
            put_outcome old p2 key2 draws2 t1 card m table own sounds name bytes fit planned.0.small planned.0.room room made.end c2 t2 d2 result
            (left_of card made.end has (write_of put (map_after t1 put) bytes) (suc (suc (data_blocks (length bytes))))
            (subst (λ (k : ℕ). PlanEndLeaves key1 p2 c1 c2 card (write_of put (map_after t1 put) bytes) k made.end) count of_put))
            (subst (λ (x : TableChange). EndsIn made.end x t1 t2 None d2 result) is_put (ended made.end made.ends))

        pub put_leaves : PutPlanned t1 c1 name (length bytes) (Ok change) → Leaves old (parts p2 key2 draws2 t2 d2) (Put name bytes) (done_reply result)
        put_leaves planned card has m is = (put_made planned card m has is).leaves

        pub put_store : PutPlanned t1 c1 name (length bytes) (Ok change) → ((card : CardState) → HasCard p2 key2 card → HadCard p1 key1) → IsStore p2 key2 c2 t2 d2
        put_store planned was card has =
            let before = was card has in
            let has_before : HasCard p0 key0 before.0 = back before.0 before.1 in
            let k = known before.0 has_before in
            (put_made planned before.0 k.0.0 has_before k.0.1.map).knows card has

        pub remove_made : (at : ℕ) → change ≡ RemoveEntry at → position (has_name name) t1.entries ≡ Some at → c1 + 1 ≤ 4294967295 → (card : CardState) (m : CardMap) → HasCard p0 key0 card
            → card_map card ≡ Ok m → RemoveOutcome old p2 key2 draws2 c2 t2 d2 name (done_reply result) card m
        remove_made at is_removal found room card m has is =
            let removal : TableChange = RemoveEntry at in
            let leaves : PlanEndLeaves key1 p2 c1 c2 card (write_of change (map_after t1 change) bytes) (write_count change) made.end =
            made.leaves card (there card has) (known card has).1 in
            remove_outcome old p2 key2 draws2 t1 card m (table_of card m has is) (is_card card has) sounds name at found bytes (omega (arith, room, (known card has).1)) made.end c2 t2 d2 result
            (left_of card made.end has (write_of removal (map_after t1 removal) bytes) 1
            (subst (λ (x : TableChange). PlanEndLeaves key1 p2 c1 c2 card (write_of x (map_after t1 x) bytes) (write_count x) made.end) is_removal leaves))
            (subst (λ (x : TableChange). EndsIn made.end x t1 t2 None d2 result) is_removal (ended made.end made.ends))

        pub remove_leaves : (at : ℕ) → change ≡ RemoveEntry at → position (has_name name) t1.entries ≡ Some at → c1 + 1 ≤ 4294967295
            → Leaves old (parts p2 key2 draws2 t2 d2) (Remove name) (done_reply result)
        remove_leaves at is_removal found room card has m is = (remove_made at is_removal found room card m has is).leaves

        pub remove_store : (at : ℕ) → change ≡ RemoveEntry at → position (has_name name) t1.entries ≡ Some at → c1 + 1 ≤ 4294967295
            → ((card : CardState) → HasCard p2 key2 card → HadCard p1 key1) → IsStore p2 key2 c2 t2 d2
        remove_store at is_removal found room was card has =
            let before = was card has in
            let has_before : HasCard p0 key0 before.0 = back before.0 before.1 in
            let k = known before.0 has_before in
            (remove_made at is_removal found room before.0 k.0.0 has_before k.0.1.map).knows card has
