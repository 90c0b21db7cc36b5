-- A part of a state that others' records do not change, but for the event that settles its doubt.
use Rattle.std.proofs.Common.{◌≡◌, List, [], ◌∷◌, Bool, false, cond, Option, Some, None, refl, ap, ◌∙◌}
use Rattle.std.specs.List.{list_any, fold}
use Rattle.store_model.specs.declared.event.Event.{Event}
use Rattle.store_model.specs.declared.event.Event.TheVariants.{Call as CallEvent, Landed}
use Rattle.store_model.specs.declared.event.Mark.{Mark}
use Rattle.store_model.specs.declared.event.Mark.TheVariants.{Unchanged, Made, Doubtful}
use Rattle.history_seats.specs.Records.{HistoryRecord}
use Rattle.history_seats.specs.Settling.{Pending, calm, as_landed, settled_by_mark, settled_by, is_settling_mark, settles, settling, settled}
use Rattle.history_seats.proofs.Lists.{neither}

module _ {X : Type 0} where
  -- a value that no doubt touches stays so
  pub calm-settled : (x : X) (o : Option Event) → settled o (calm x) ≡ calm x
  calm-settled x None = refl
  calm-settled x (Some (CallEvent session number call reply mark)) = marked mark
    where
      marked : (m : Mark) → settled_by_mark m (calm x) ≡ calm x
      marked Unchanged = refl
      marked (Made commit) = refl
      marked (Doubtful commit) = refl
  calm-settled x (Some (Landed commit)) = refl

  -- an event that settles leaves nothing for later ones to settle
  pub settled-twice : (event : Event) (p : Pending X) (o : Option Event) → settled o (settled_by event p) ≡ settled (cond (settles event) (Some event) o) p
  settled-twice (CallEvent session number call reply mark) p o = marked mark
    where
      marked : (m : Mark) → settled o (settled_by_mark m p) ≡ settled (cond (is_settling_mark m) (Some (CallEvent session number call reply m)) o) p
      marked Unchanged = refl
      marked (Made commit) = calm-settled p.now o
      marked (Doubtful commit) = calm-settled p.now o
  settled-twice (Landed commit) p o = calm-settled (as_landed p).now o

  -- the events of records, one after the other, do what the settling one does
  pub settled-all : (p : Pending X) (records : List HistoryRecord) → fold (λ q r. settled_by r.event q) p records ≡ settled (settling records) p
  settled-all p [] = refl
  settled-all p (r ∷ records) = settled-all (settled_by r.event p) records ∙ settled-twice r.event p (settling records)

-- `Fine` is what is known of the records from a state on; a record that is not of the part does to it what its event does.
pub part-kept : {S X : Type 0} (next : S → HistoryRecord → S) (part : S → Pending X) (those : HistoryRecord → Bool) (Fine : S → List HistoryRecord → Type 0)
    → ((s : S) (r : HistoryRecord) (rs : List HistoryRecord) → Fine s (r ∷ rs) → those r ≡ false → part (next s r) ≡ settled_by r.event (part s))
    → ((s : S) (r : HistoryRecord) (rs : List HistoryRecord) → Fine s (r ∷ rs) → Fine (next s r) rs)
    → (s : S) (records : List HistoryRecord) → Fine s records → list_any those records ≡ false → part (fold next s records) ≡ settled (settling records) (part s)
part-kept next part those Fine first later s [] fine lacks = refl
part-kept next part those Fine first later s (r ∷ rs) fine lacks =
    let off = neither (those r) (list_any those rs) lacks in
    part-kept next part those Fine first later (next s r) rs (later s r rs fine) off.1
    ∙ ap (settled (settling rs)) (first s r rs fine off.0)
    ∙ settled-twice r.event (part s) (settling rs)
