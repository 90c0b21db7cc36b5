use Rattle.std.proofs.Common.{◌≡◌, List, ℕ, refl, sym, subst}
use Rattle.hmac_keys.specs.KeyTable.{rpmb_key}
use Rattle.rpmb_card.specs.Card.{CardState}
use Rattle.disk_model.proofs.Goings.{rests_none}
use Rattle.tee_types.specs.Limits.{directory_file}
use Rattle.store_commit.proofs.Syncing.{err_map, ok_map}
use Rattle.object_calls.specs.Begins.{MountsAsRead}
use Rattle.object_calls.specs.Opening.{bench_files}
use Rattle.object_calls.specs.OpeningFiles.{files_of}
use Rattle.object_calls.specs.declared.bench.Bench.{Bench}
use Rattle.kept_store.specs.declared.fault.OpenFault.TheVariants.{CardMissing}
use Rattle.kept_store.specs.Kept.{FindsBlank, IsEmpty, KeepsStore, LacksCard, LacksStore, OpensExport, OpensStore, StaysUnmade, TakesNothing, TakesOver}
use Rattle.kept_store.proofs.Opened.{lacks_still, opens_export, opens_store, unmade_before}
use Rattle.kept_store.proofs.opening.open_devices.Given as given
use Rattle.kept_store.proofs.opening.open_devices.Goals as goal
use Rattle.kept_store.proofs.opening.open_devices.Goals.{In-Err}

-- what becomes of the card and of the exported file, by the devices as they were handed in
taken : (g : given.Over) (c : goal.After-open_store g) → TakesOver (g.R.RpmbPort.state c.args.devices.card) (g.R.RpmbPort.state c.into_port-card.result)
    (rpmb_key c.args.keys.now.huk) (g.G.StoreFile.state c.args.exported.now) (g.G.StoreFile.state c.take_over-taken.new.exported)
taken g c =
    let port = g.R.RpmbPort.state in
    let file = g.G.StoreFile.state c.args.exported.now in
    let left = g.G.StoreFile.state c.take_over-taken.new.exported in
    subst (λ p. TakesOver (port c.args.devices.card) (port p) (rpmb_key c.args.keys.now.huk) file left) (sym c.into_port-card.ensures)
    (subst (λ (key : List ℕ). TakesOver (port c.args.devices.card) (port c.take_over-taken.new.host.port) key file left) c.rpmb_key.ensures
    (subst (λ h. TakesOver (port h.port) (port c.take_over-taken.new.host.port) h.key file left) c.new-host.ensures c.in-Ok.ensures.takes))

untaken : (g : given.Over) (c : goal.After-open_store g) → TakesNothing (g.R.RpmbPort.state c.args.devices.card) (g.R.RpmbPort.state c.into_port-card.result)
    (rpmb_key c.args.keys.now.huk) (g.G.StoreFile.state c.args.exported.now) (g.G.StoreFile.state c.take_over-taken.new.exported)
untaken g c =
    let port = g.R.RpmbPort.state in
    let file = g.G.StoreFile.state c.args.exported.now in
    let left = g.G.StoreFile.state c.take_over-taken.new.exported in
    subst (λ p. TakesNothing (port c.args.devices.card) (port p) (rpmb_key c.args.keys.now.huk) file left) (sym c.into_port-card.ensures)
    (subst (λ (key : List ℕ). TakesNothing (port c.args.devices.card) (port c.take_over-taken.new.host.port) key file left) c.rpmb_key.ensures
    (subst (λ h. TakesNothing (port h.port) (port c.take_over-taken.new.host.port) h.key file left) c.new-host.ensures c.in-Ok.ensures.alone))

-- and where nothing was taken over
untaken_err : (g : given.Over) (c : In-Err g) → TakesNothing (g.R.RpmbPort.state c.args.devices.card) (g.R.RpmbPort.state c.into_port-card.result)
    (rpmb_key c.args.keys.now.huk) (g.G.StoreFile.state c.args.exported.now) (g.G.StoreFile.state c.take_over-taken.new.exported)
untaken_err g c =
    let port = g.R.RpmbPort.state in
    let file = g.G.StoreFile.state c.args.exported.now in
    let left = g.G.StoreFile.state c.take_over-taken.new.exported in
    subst (λ p. TakesNothing (port c.args.devices.card) (port p) (rpmb_key c.args.keys.now.huk) file left) (sym c.into_port-card.ensures)
    (subst (λ (key : List ℕ). TakesNothing (port c.args.devices.card) (port c.take_over-taken.new.host.port) key file left) c.rpmb_key.ensures
    (subst (λ h. TakesNothing (port h.port) (port c.take_over-taken.new.host.port) h.key file left) c.new-host.ensures c.in-Err.ensures.alone))

pub returns-in-Ok-clause-store : goal.returns-in-Ok-clause-store
returns-in-Ok-clause-store g c =
    let dir = files_of g.F.StoreFile.state c.args.devices.files.items directory_file in
    let port = g.R.RpmbPort.state c.args.devices.card in
    let mid = g.R.RpmbPort.state c.into_port-card.result in
    let keys = c.args.keys.now in
    ok_map c.open_store.result (λ o. KeepsStore mid (rpmb_key keys.huk) (MountsAsRead g.F.StoreFile.state dir mid keys o))
    (λ o. OpensStore g.F.StoreFile.state dir port keys o)
    (λ o mounts. opens_store g.F.StoreFile.state dir keys o port mid (g.G.StoreFile.state c.args.exported.now) (g.G.StoreFile.state c.take_over-taken.new.exported) (taken g c) mounts)
    c.open_store.ensures.keeps

pub returns-in-Ok-clause-exported : goal.returns-in-Ok-clause-exported
returns-in-Ok-clause-exported g c =
    let dir = files_of g.F.StoreFile.state c.args.devices.files.items directory_file in
    let port = g.R.RpmbPort.state c.args.devices.card in
    let mid = g.R.RpmbPort.state c.into_port-card.result in
    let file = g.G.StoreFile.state c.args.exported.now in
    let left = g.G.StoreFile.state c.take_over-taken.new.exported in
    let keys = c.args.keys.now in
    ok_map c.open_store.result (λ o. KeepsStore mid (rpmb_key keys.huk) (MountsAsRead g.F.StoreFile.state dir mid keys o))
    (λ o. OpensExport g.F.StoreFile.state dir port file left keys o)
    (λ o mounts. opens_export g.F.StoreFile.state dir keys o port mid file left (taken g c) mounts) c.open_store.ensures.keeps

pub returns-in-Ok-clause-made : goal.returns-in-Ok-clause-made
returns-in-Ok-clause-made g c =
    let port = g.R.RpmbPort.state c.args.devices.card in
    let mid = g.R.RpmbPort.state c.into_port-card.result in
    let file = g.G.StoreFile.state c.args.exported.now in
    let left = g.G.StoreFile.state c.take_over-taken.new.exported in
    let key = rpmb_key c.args.keys.now.huk in
    let dir = files_of g.F.StoreFile.state c.args.devices.files.items directory_file in
    ok_map c.open_store.result (λ o. FindsBlank mid key (IsEmpty dir (bench_files g.F.StoreFile.state o directory_file)))
    (λ o. (card : CardState) → LacksStore port key file left card → IsEmpty dir (bench_files g.F.StoreFile.state o directory_file))
    (λ o made card lacks. made card (lacks_still port mid key file left card (untaken g c card lacks.alone).0 lacks.alone) lacks.blank) c.open_store.ensures.made

pub returns-in-Ok-clause-refused : goal.returns-in-Ok-clause-refused
returns-in-Ok-clause-refused g c =
    let port = g.R.RpmbPort.state c.args.devices.card in
    let mid = g.R.RpmbPort.state c.into_port-card.result in
    let file = g.G.StoreFile.state c.args.exported.now in
    let left = g.G.StoreFile.state c.take_over-taken.new.exported in
    let key = rpmb_key c.args.keys.now.huk in
    let devices : Bench g.row.F.Denot g.row.R.Denot = record { files = c.args.devices.files; card = c.into_port-card.result } in
    err_map c.open_store.result (λ u. FindsBlank mid key (StaysUnmade g.F.StoreFile.state g.R.RpmbPort.state devices u.devices))
    (λ u. (card : CardState) → LacksStore port key file left card → StaysUnmade g.F.StoreFile.state g.R.RpmbPort.state c.args.devices u.devices)
    (λ u stays card lacks. let same = (untaken g c card lacks.alone).0 in
    unmade_before g.F.StoreFile.state g.R.RpmbPort.state c.args.devices devices u.devices refl same
    (stays card (lacks_still port mid key file left card same lacks.alone) lacks.blank)) c.open_store.ensures.refused

pub returns-in-Ok-clause-missing : goal.returns-in-Ok-clause-missing
returns-in-Ok-clause-missing g c =
    let port = g.R.RpmbPort.state c.args.devices.card in
    let mid = g.R.RpmbPort.state c.into_port-card.result in
    let key = rpmb_key c.args.keys.now.huk in
    let old = files_of g.F.StoreFile.state c.args.devices.files.items directory_file in
    err_map c.open_store.result (λ u. u.fault ≡ CardMissing → LacksCard mid key old (files_of g.F.StoreFile.state u.devices.files.items directory_file))
    (λ u. u.fault ≡ CardMissing → LacksCard port key old (files_of g.F.StoreFile.state u.devices.files.items directory_file))
    (λ u lacks is. record { blank = (taken g c).blank (lacks is).blank; bytes = (lacks is).bytes }) c.open_store.ensures.missing

pub returns-in-Ok-clause-rests : goal.returns-in-Ok-clause-rests
returns-in-Ok-clause-rests g c card names = (untaken g c card names).1

pub returns-in-Err-clause-rests : goal.returns-in-Err-clause-rests
returns-in-Err-clause-rests g c card names = (untaken_err g c card names).1

pub returns-in-Err-clause-refused : goal.returns-in-Err-clause-refused
returns-in-Err-clause-refused g c card lacks told bytes = record {
  files = λ number. rests_none (files_of g.F.StoreFile.state c.args.devices.files.items number);
  card = (untaken_err g c card lacks.alone).0;
}
