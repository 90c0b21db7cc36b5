-- How often a run over a card that has the key was answered for a device.
use Rattle.std.proofs.Common.{◌≡◌, ◌+◌, ◌≤◌, ℕ, List, [], ◌∷◌, Option, refl, sym, ap, subst, arith}
use Rattle.tee_types.specs.declared.reply.Cause.{Cause}
use Rattle.tee_types.specs.declared.reply.Cause.TheVariants.{CardResult, Fault, Frame}
use Rattle.tee_types.specs.declared.reply.Device.TheVariants.{Card, Dir, Entropy, File}
use Rattle.rpmb_card.specs.Arms.{Arms}
use Rattle.rpmb_card.specs.Port.{PortState, Rearmed}
use Rattle.rpmb_host.specs.Honest.{HadCard}
use Rattle.card_script.specs.declared.card_line.CardLine.{CardLine}
use Rattle.card_script.specs.declared.card_line.CardLine.TheVariants.{Put, Get, Remove, List as ListLine, Stop, Remount}
use Rattle.card_script.specs.declared.card_line.CardReply.{CardReply}
use Rattle.card_script.specs.declared.card_line.CardReply.TheVariants.{Done, Content, NotFound, TooLarge, Full, Spent, Device}
use Rattle.card_maps.specs.Course as course
use Rattle.rpmb_files.specs.declared.fault.CardFault.{CardFault}
use Rattle.rpmb_files.specs.Causes.{CauseStands, NoCard, NotDrawn}
use Rattle.rpmb_files.specs.Stores.{StoreState}
use Rattle.script_runner.specs.declared.status.Status.{Status}
use Rattle.script_runner.specs.RunCauses.{World}
use Rattle.script_runner.specs.CardRecords.{CardRecord, Named, Told, map_reply}
use Rattle.script_runner.specs.CardPoints.{device_replies}
use Rattle.script_runner.specs.CardRuns.{CardTrace, EndsCard, EndsLines, IsSilentCard, all_done, at_mount, cut_off, no_script, ran, starved, unread}
use Rattle.rpmb_files.specs.Counts.{RoseBy}
use Rattle.script_runner.specs.CardRunLaws.{CardRunsCount}
use Rattle.script_runner.specs.CardSteps.{DoesLine, GoesThrough, IsRefusedAt, MakesCall, StandsAt, at_first, at_line}
use Rattle.script_runner.proofs.CardPointLaws.{HasCard-rearmed, same_key}

stays : (old new : ℕ) → old ≤ new → RoseBy 0 old new
stays old new le = omega arith

joined : (m n a b c : ℕ) → RoseBy m a b → RoseBy n b c → RoseBy (m + n) a c
joined m n a b c first second = omega arith

-- the port tells a card that has the key still, and its count rose by so many
pub record Counts (number : ℕ) (key : List ℕ) (old new : PortState) : Type 0 where
  pub had : HadCard new key
  pub rose : RoseBy number old.faults new.faults

replies-cons : (done : CardRecord) (records : List CardRecord) → device_replies (done ∷ records) ≡ device_replies (done ∷ []) + device_replies records
replies-cons (Told Device) records = omega arith
replies-cons (Told Done) records = omega arith
replies-cons (Told (Content bytes)) records = omega arith
replies-cons (Told NotFound) records = omega arith
replies-cons (Told (TooLarge size)) records = omega arith
replies-cons (Told (Full need free)) records = omega arith
replies-cons (Told Spent) records = omega arith
replies-cons (Named names) records = omega arith

module _ (Reliable : Type 0) (reliable : Reliable) where
  -- a reply for a device over a card that has the key: the count of the card's port rose
  of_card : (old new : StoreState) (cause : Cause) → HadCard old.devices.port old.key → CauseStands (NoCard old.key old.devices) old.key old.devices new.devices cause → NotDrawn cause
      → RoseBy 1 old.devices.port.faults new.devices.port.faults
  of_card old new (Fault Card count) had stands undrawn = omega (arith, stands.0)
  of_card old new (Fault Entropy count) had stands undrawn = absurd undrawn
  of_card old new (Fault Dir count) had stands undrawn = absurd stands
  of_card old new (Fault (File n) count) had stands undrawn = absurd stands
  of_card old new (Frame fault) had stands undrawn = absurd (stands.1 had.0 had.1)
  of_card old new (CardResult result) had stands undrawn = absurd (stands.1 had.0 had.1)

  module _ (old new : StoreState) (had : HadCard old.devices.port old.key) where
    call-rose : (call : course.CardCall) (reply : CardReply) → MakesCall Reliable old new call (map_reply reply) → RoseBy (device_replies (Told reply ∷ [])) old.devices.port.faults new.devices.port.faults
    call-rose call Device makes = let f = makes.failed refl in of_card old new f.cause had f.stands (f.reliable reliable)
    call-rose call Done makes = stays _ _ makes.goes_on.counted
    call-rose call (Content bytes) makes = stays _ _ makes.goes_on.counted
    call-rose call NotFound makes = stays _ _ makes.goes_on.counted
    call-rose call (TooLarge size) makes = stays _ _ makes.goes_on.counted
    call-rose call (Full need free) makes = stays _ _ makes.goes_on.counted
    call-rose call Spent makes = stays _ _ makes.goes_on.counted

    call-counts : (call : course.CardCall) (reply : CardReply) → MakesCall Reliable old new call (map_reply reply) → Counts (device_replies (Told reply ∷ [])) old.key old.devices.port new.devices.port
    call-counts call reply makes = record { had = makes.goes_on.keeps had.0 had.1; rose = call-rose call reply makes }

    rearmed-counts : (port : PortState) (arms : Arms) → Rearmed old.devices.port port arms → Counts 0 old.key old.devices.port port
    rearmed-counts port arms rearmed = record {
      had = (had.0, HasCard-rearmed old.devices.port port arms old.key had.0 rearmed had.1);
      rose = let same : port.faults ≡ old.devices.port.faults = ap (λ (p : PortState). p.faults) rearmed.others in omega (arith, same);
    }

    line-counts : (line : CardLine) (done : CardRecord) → DoesLine Reliable line done old new → Counts (device_replies (done ∷ [])) old.key old.devices.port new.devices.port
    line-counts (Put app id bytes) (Told reply) does = call-counts _ reply does
    line-counts (Get app id) (Told reply) does = call-counts _ reply does
    line-counts (Remove app id) (Told reply) does = call-counts _ reply does
    line-counts ListLine (Named names) does = record {
      had = subst (λ (s : StoreState). HadCard s.devices.port old.key) (sym does.same) had;
      rose = let same : new.devices.port.faults ≡ old.devices.port.faults = ap (λ (s : StoreState). s.devices.port.faults) does.same in omega (arith, same);
    }
    line-counts (Stop exchanges) (Told reply) does =
        subst (λ r. Counts (device_replies (Told r ∷ [])) old.key old.devices.port new.devices.port) (sym does.0) (rearmed-counts new.devices.port _ (does.1).port)
    line-counts Remount (Told reply) does =
        let r = does.1 in
        let armed = rearmed-counts r.between.port _ r.disarms.port in
        subst (λ reply. Counts (device_replies (Told reply ∷ [])) old.key old.devices.port new.devices.port) (sym does.0) (record {
          had = r.mounts.goes_on.keeps (armed.had).0 (armed.had).1;
          rose = omega (arith, armed.rose, r.mounts.goes_on.counted);
        })
    line-counts line done does = absurd does

  lines-count : (lines : List CardLine) (records : List CardRecord) (old new : StoreState) → GoesThrough Reliable lines records old new → HadCard old.devices.port old.key
      → Counts (device_replies records) new.key old.devices.port new.devices.port
  unfolding GoesThrough
  lines-count [] [] old new same had = record {
    had = subst (λ (s : StoreState). HadCard s.devices.port s.key) (sym same) had;
    rose = let faults : new.devices.port.faults ≡ old.devices.port.faults = ap (λ (s : StoreState). s.devices.port.faults) same in omega (arith, faults);
  }
  lines-count [] (r ∷ records) old new goes had = absurd goes
  lines-count (l ∷ lines) [] old new goes had = absurd goes
  lines-count (l ∷ lines) (r ∷ records) old new goes had =
      let between = goes.0 in
      let one = line-counts old between had l r goes.1 in
      let key = same_key Reliable old between l r goes.1 in
      let rest = lines-count lines records between new goes.2 (subst (λ k. HadCard between.devices.port k) (sym key) one.had) in record {
        had = rest.had;
        rose = subst (λ n. RoseBy n old.devices.port.faults new.devices.port.faults) (sym (replies-cons r records))
            (joined (device_replies (r ∷ [])) (device_replies records) old.devices.port.faults between.devices.port.faults new.devices.port.faults one.rose rest.rose);
      }

  module _ (key : List ℕ) (lines : List CardLine) (handed : PortState) (had : HadCard handed key) where
    later : (number : ℕ) (a b c : ℕ) → a ≤ b → RoseBy number b c → RoseBy number a c
    later number a b c le rose = omega arith

    stood : (records : List CardRecord) (left : List CardLine) (last : StoreState) → StandsAt Reliable key lines handed records left last → RoseBy (device_replies records) handed.faults last.devices.port.faults
    stood records left last s =
        let first = s.mounted.goes_on.keeps had.0 had.1 in
        let rest = lines-count s.done records s.first last s.goes (subst (λ k. HadCard s.first.devices.port k) (sym s.mounted.key_is) first) in
        later (device_replies records) handed.faults s.first.devices.port.faults last.devices.port.faults s.mounted.goes_on.counted rest.rose

    more : (number : ℕ) (a b c : ℕ) → RoseBy number a b → b ≤ c → RoseBy number a c
    more number a b c rose le = omega arith

    at_port : (records : List CardRecord) (given last : PortState) → given ≡ last → RoseBy (device_replies records) handed.faults last.faults → RoseBy (device_replies records) handed.faults given.faults
    at_port records given last same rose = subst (λ (p : PortState). RoseBy (device_replies records) handed.faults p.faults) (sym same) rose

    refused : (records : List CardRecord) (given : PortState) (fault : CardFault) → IsRefusedAt Reliable key lines handed given records fault → RoseBy (device_replies records) handed.faults given.faults
    refused records given fault (at_first drawn none refuses) =
        subst (λ rs. RoseBy (device_replies rs) handed.faults given.faults) (sym none) (stays _ _ refuses.goes_on.counted)
    refused records given fault (at_line left last between drawn at disarms refuses) =
        let same : between.port.faults ≡ last.devices.port.faults = ap (λ (p : PortState). p.faults) disarms.port.others in
        more (device_replies records) handed.faults last.devices.port.faults given.faults (stood records _ last at) (omega (arith, same, refuses.goes_on.counted))

    ends-count : (failed : Type 0) (put : List ℕ) (records : List CardRecord) (why : Option CardFault) (given : PortState) (status : Status) → EndsLines Reliable key failed lines put records why handed given status
        → RoseBy (device_replies records) handed.faults given.faults
    ends-count failed put records why given status (all_done last at port none text done) = at_port records given last.devices.port port (stood records [] last at)
    ends-count failed put records why given status (cut_off left last at port none begins error) = at_port records given last.devices.port port (stood records left last at)
    ends-count failed put records why given status (starved line left last next call reply at makes port none begins done) =
        at_port records given next.devices.port port (more (device_replies records) handed.faults last.devices.port.faults next.devices.port.faults (stood records _ last at) makes.goes_on.counted)
    ends-count failed put records why given status (at_mount fault is_fault at begins ends) = refused records given fault at

silent : (t : CardTrace) (handed given : PortState) → IsSilentCard t → given ≡ handed → RoseBy (device_replies t.records) handed.faults given.faults
silent t handed given s same =
    let faults : given.faults ≡ handed.faults = ap (λ (p : PortState). p.faults) same in
    subst (λ rs. RoseBy (device_replies rs) handed.faults given.faults) (sym s.records) (omega (arith, faults))

run-counts : (Reliable : Type 0) (w : World) (key : List ℕ) (t : CardTrace) (handed given : PortState) (status : Status) → EndsCard Reliable key w t handed given status → HadCard handed key → Reliable
    → RoseBy (device_replies t.records) handed.faults given.faults
run-counts Reliable w key t handed given status (unread error s same) had reliable = silent t handed given s same
run-counts Reliable w key t handed given status (no_script taken error s same) had reliable = silent t handed given s same
run-counts Reliable w key t handed given status (ran lines taken script ends) had reliable = ends-count Reliable reliable key lines handed had _ t.put t.records t.refused given status ends

pub card_runs_count : (Reliable : Type 0) (w : World) → CardRunsCount Reliable w
card_runs_count Reliable w key left_old left_new held_old held_new handed given status r card has reliable = run-counts Reliable w key r.trace handed given status r.ends (card, has) reliable
