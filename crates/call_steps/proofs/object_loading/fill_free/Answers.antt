-- What was loaded is of the version, under the key of the entry's application.
use Rattle.std.proofs.Common.{◌≡◌, ap, subst, ◌∙◌, List, ℕ, rules}
use Rattle.hmac_keys.specs.KeyTable.{ssk, tsk}
use Rattle.crash_core.specs.DeviceKeys.{object_key}
use Rattle.call_steps.proofs.LoadedVersions.{filled-version, fills-free, gives-still}
use Rattle.object_slots.specs.Loads.{LoadsObject}
use Rattle.object_slots.specs.SlotValues.{IsFree}
use Rattle.call_steps.proofs.object_loading.fill_free.Goals as goal

pub returns-then-is_free-clause-version : goal.returns-then-is_free-clause-version
returns-then-is_free-clause-version g c = λ v gives.
    let old = c.args.slot.now in
    let new = c.fill-filled.new.slot in
    filled-version g.L.StoreName.store old new c.args.entry.now c.tsk-key.result v c.fill-filled.ensures.guarded (gives-still old new v c.fill-filled.ensures.same gives) c.fill-filled.result c.fill-filled.ensures.loads
    (c.fill-filled.ensures.damaged v gives)

pub returns-then-is_free-clause-filled : goal.returns-then-is_free-clause-filled
returns-then-is_free-clause-filled g c =
    let keys = g.L.StoreName.store.keys in
    let e = c.args.entry.now in
    let key : c.tsk-key.result ≡ object_key keys e.app = c.tsk-key.ensures ∙ ap (λ k. tsk k c.bytes.result) c.requires.keyed ∙ ap (tsk (ssk keys.huk keys.chip)) c.bytes.ensures in
    let old = c.args.slot.now in
    let free : IsFree old.holds = search rules in
    fills-free old.holds old c.fill-filled.new.slot (object_key keys e.app) e c.fill-filled.result free
    (subst (λ (k : List ℕ). LoadsObject old.file c.fill-filled.new.slot.file k e c.fill-filled.new.slot.holds c.fill-filled.result) key c.fill-filled.ensures.loads)
