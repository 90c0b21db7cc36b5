-- The replies of a run over a card that has the key are those of a finite map.
use Rattle.std.proofs.Common.{◌≡◌, inl, inr, ℕ, List, [], ◌∷◌, ◌++◌, Option, Result, Ok, refl, sym, subst, ◌∙◌}
use Rattle.rpmb_card.specs.Card.{CardState}
use Rattle.rpmb_card.specs.Port.{PortState}
use Rattle.rpmb_host.specs.Honest.{HasCard}
use Rattle.card_script.specs.declared.card_line.CardLine.{CardLine}
use Rattle.card_script.specs.declared.reading.CardScriptFault.{CardScriptFault}
use Rattle.card_script.specs.CardScripts.{script_of}
use Rattle.card_maps.specs.CardMaps.{CardMap, card_map}
use Rattle.rpmb_files.specs.declared.fault.CardFault.{CardFault}
use Rattle.rpmb_files.specs.Devices.{devices}
use Rattle.rpmb_files.specs.Stores.{StoreState}
use Rattle.script_runner.specs.declared.status.Status.{Status}
use Rattle.script_runner.specs.RunCauses.{World}
use Rattle.script_runner.specs.CardRecords.{CardRecord}
use Rattle.script_runner.specs.CardPoints.{CardPoint, LinesOnCard, mounted_on}
use Rattle.script_runner.specs.CardRuns.{CardTrace, EndsCard, EndsLines, IsSilentCard, all_done, at_mount, cut_off, no_script, ran, starved, unread}
use Rattle.script_runner.specs.CardRunLaws.{CardRunsAreOfAMap, EndsOnCard, RunsOnCard}
use Rattle.script_runner.specs.CardSteps.{IsRefusedAt, StandsAt, at_first, at_line}
use Rattle.script_runner.proofs.CardPointLaws.{HasCard-rearmed, call-on_card, lines-on_card, mounted-on_card, point_at}

-- what the lines of a script left of a card
pub record LinesLeft (key : List ℕ) (lines : List CardLine) (records : List CardRecord) (card : CardState) (m : CardMap) (given : PortState) : Type 0 where
  pub done : List CardLine
  pub left : List CardLine
  pub front : lines ≡ done ++ left
  pub last : CardPoint
  pub goes : LinesOnCard done records (mounted_on card m) last
  pub ends : EndsOnCard key last given

module _ (Reliable : Type 0) (key : List ℕ) (lines : List CardLine) (handed : PortState) (card : CardState) (has : HasCard handed key card) (m : CardMap) (is : card_map card ≡ Ok m) where
  -- where the store stood last
  pub record Stood (records : List CardRecord) (left : List CardLine) (last : StoreState) : Type 0 where
    pub done : List CardLine
    pub front : lines ≡ done ++ left
    pub card_left : CardState
    pub map : CardMap
    pub map_is : card_map card_left ≡ Ok map
    pub has_left : HasCard last.devices.port last.key card_left
    pub key_is : last.key ≡ key
    pub goes : LinesOnCard done records (mounted_on card m) (point_at last card_left map)

  pub stood : (records : List CardRecord) (left : List CardLine) (last : StoreState) → StandsAt Reliable key lines handed records left last → Stood records left last
  stood records left last s =
      let on = mounted-on_card key (devices handed 0) s.first card m s.mounted has is in
      let l = lines-on_card Reliable s.done records s.first last card m s.goes on.has is in record {
        done = s.done;
        front = s.front;
        card_left = l.card;
        map = l.map;
        map_is = l.is;
        has_left = l.has;
        key_is = l.key_is ∙ s.mounted.key_is;
        goes = subst (λ from. LinesOnCard s.done records from (point_at last l.card l.map)) on.point l.goes;
      }

  left_by : (records : List CardRecord) (left : List CardLine) (last : StoreState) (given : PortState) (s : Stood records left last) → EndsOnCard key (point_at last s.card_left s.map) given → LinesLeft key lines records card m given
  left_by records left last given s ends = record { done = s.done; left = left; front = s.front; last = point_at last s.card_left s.map; goes = s.goes; ends = ends }

  -- the run ended between two lines
  between : (records : List CardRecord) (left : List CardLine) (last : StoreState) (given : PortState) → StandsAt Reliable key lines handed records left last → given ≡ last.devices.port → LinesLeft key lines records card m given
  between records left last given at port =
      let s = stood records left last at in
      let told : HasCard given last.key s.card_left = subst (λ p. HasCard p last.key s.card_left) (sym port) s.has_left in
      left_by records left last given s (inl (subst (λ k. HasCard given k s.card_left) s.key_is told))

  refused : (records : List CardRecord) (given : PortState) (fault : CardFault) → IsRefusedAt Reliable key lines handed given records fault → LinesLeft key lines records card m given
  unfolding LinesOnCard
  refused records given fault (at_first drawn none refuses) = record {
    done = [];
    left = lines;
    front = refl;
    last = mounted_on card m;
    goes = subst (λ rs. LinesOnCard [] rs (mounted_on card m) (mounted_on card m)) (sym none) refl;
    ends = inl (record { told = refuses.card ∙ has.told; keyed = has.keyed });
  }
  refused records given fault (at_line left last between drawn at disarms refuses) =
      let s = stood records _ last at in
      let there : HasCard between.port last.key s.card_left = HasCard-rearmed last.devices.port between.port _ last.key s.card_left disarms.port s.has_left in
      let told : HasCard given last.key s.card_left = record { told = refuses.card ∙ there.told; keyed = there.keyed } in
      left_by records _ last given s (inl (subst (λ k. HasCard given k s.card_left) s.key_is told))

  pub lines-left : (failed : Type 0) (put : List ℕ) (records : List CardRecord) (why : Option CardFault) (given : PortState) (status : Status) → EndsLines Reliable key failed lines put records why handed given status → LinesLeft key lines records card m given
  lines-left failed put records why given status (all_done last at port none text done) = between records [] last given at port
  lines-left failed put records why given status (cut_off left last at port none begins error) = between records left last given at port
  lines-left failed put records why given status (starved line left last next call reply at makes port none begins done) =
      let s = stood records (line ∷ left) last at in
      let l = call-on_card Reliable last next s.card_left s.has_left s.map s.map_is call reply makes in
      let told : HasCard given last.key l.card = subst (λ p. HasCard p last.key l.card) (sym port) l.has in
      left_by records (line ∷ left) last given s (inr (call, reply, point_at next l.card l.map, l.does, subst (λ k. HasCard given k l.card) s.key_is told))
  lines-left failed put records why given status (at_mount fault is_fault at begins ends) = refused records given fault at

pub one_script : (text : List ℕ) (a b : List CardLine) → script_of text ≡ Ok a → script_of text ≡ Ok b → a ≡ b
one_script text a b x y = let e : ◌≡◌ {A = Result (List CardLine) CardScriptFault} (Ok a) (Ok b) = sym x ∙ y in cc

-- nothing was done
nothing : (key : List ℕ) (t : CardTrace) (card : CardState) (m : CardMap) (handed given : PortState) → IsSilentCard t → given ≡ handed → HasCard handed key card → RunsOnCard key t card m given
unfolding LinesOnCard
nothing key t card m handed given silent same has = record {
  done = [];
  of_script = λ lines is. (lines, refl);
  last = mounted_on card m;
  goes = subst (λ rs. LinesOnCard [] rs (mounted_on card m) (mounted_on card m)) (sym silent.records) refl;
  ends = inl (subst (λ p. HasCard p key card) (sym same) has);
}

run-on_card : (Reliable : Type 0) (w : World) (key : List ℕ) (t : CardTrace) (handed given : PortState) (status : Status) (card : CardState) (m : CardMap) → EndsCard Reliable key w t handed given status
    → HasCard handed key card → card_map card ≡ Ok m → RunsOnCard key t card m given
run-on_card Reliable w key t handed given status card m (unread error silent same) has is = nothing key t card m handed given silent same has
run-on_card Reliable w key t handed given status card m (no_script taken error silent same) has is = nothing key t card m handed given silent same has
run-on_card Reliable w key t handed given status card m (ran lines taken script ends) has is =
    let l = lines-left Reliable key lines handed card has m is _ t.put t.records t.refused given status ends in record {
      done = l.done;
      of_script = λ other other_is. (l.left, one_script t.taken other lines other_is script ∙ l.front);
      last = l.last;
      goes = l.goes;
      ends = l.ends;
    }

pub card_runs_are_of_a_map : (Reliable : Type 0) (w : World) → CardRunsAreOfAMap Reliable w
card_runs_are_of_a_map Reliable w key left_old left_new held_old held_new handed given status r card has m is = run-on_card Reliable w key r.trace handed given status card m r.ends has is
