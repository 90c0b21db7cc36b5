use Rattle.std.proofs.Common.{◌≡◌, ◌⊎◌, ◌∙◌, ℕ, List, Ok, Err, IsTrue, refl, sym, ap, subst}
use Rattle.disk_model.specs.Keeps.{Anywhere}
use Rattle.disk_model.proofs.Laws.{keeps_none}
use Rattle.hmac_keys.specs.KeyTable.{dir_tsk, rpmb_key}
use Rattle.rpmb_card.specs.Card.{CardState}
use Rattle.rpmb_host.specs.Honest.{HasCard}
use Rattle.htree_file.specs.Standing.{Told}
use Rattle.node_image.specs.References.{current_format}
use Rattle.crash_core.specs.CardBlock.{root_in}
use Rattle.crash_core.specs.DeviceKeys.{directory_key}
use Rattle.crash_core.specs.Directory.{directory_of}
use Rattle.dir_file.specs.Held.{IsDurable}
use Rattle.dir_file.specs.Loading.{IsOutsideDir, SeesDirectory}
use Rattle.dir_file.specs.Refusals.{DirDiffers}
use Rattle.store_commit.specs.declared.fault.MountFault.TheVariants.{NoMemory}
use Rattle.store_commit.specs.Gates.{gate_sides}
use Rattle.store_commit.specs.Causes.{counts}
use Rattle.store_commit.specs.Counts.{NoneRose, RefusalCounts, RefusalNotDrawn, RefusalNotOfCard}
use Rattle.store_commit.specs.Mounts.{CardRefused, HasRootRead, IsOfCurrentFormat, LeavesDevices, MountDiffers, MountHeard, MountRefused, OpensGate, Tells, TellsFailure}
use Rattle.store_commit.specs.Leaving.{KeepsPort}
use Rattle.store_commit.specs.Reads.{IsCardRead, IsReadRefused, OfHost}
use Rattle.store_commit.specs.Sides.{sides}
use Rattle.store_commit.proofs.Cards.{has_still}
use Rattle.store_commit.proofs.Counting.{root_counts, root_not_card, directory_counts, directory_not_card, file_same}
use Rattle.store_commit.proofs.Mounted.{answer_root, root_differs, root_refuses, card_refuses, card_names, card_tells, root_tells, directory_differs, directory_refuses, directory_tells, gate_opens, gate_settled}
use Rattle.store_commit.proofs.OldRoots.{card_current, directory_current, root_current}
use Rattle.store_commit.proofs.Readings.{root_heard, card_heard_so, directory_heard, root_read}
use Rattle.store_commit.proofs.Syncing.{err_map, ok_map}
use Rattle.store_commit.proofs.gate.Gate.mount.Goals as goal

pub new-requires : goal.new-requires
new-requires g c =
    let state = g.F.StoreFile.state in
    let port = g.R.RpmbPort.state in
    let keys = c.args.keys.now in
    let key : List ℕ = rpmb_key keys.huk in
    let d = c.in-Ok-open_directory.dir in
    let o = c.in-Ok-open_directory.ensures in
    let tsk_is : c.dir_tsk-tsk.result ≡ directory_key keys = c.dir_tsk-tsk.ensures ∙ ap dir_tsk c.ssk.ensures in
    let stays : (port c.read_card.new.host.port).card ≡ (port c.args.card).card = c.in-Ok.ensures.stays ∙ ap (λ h. (port h.port).card) c.new-host.ensures in
    let key_is : c.read_card.new.host.key ≡ key = c.in-Ok.ensures.key ∙ ap (λ h. h.key) c.new-host.ensures ∙ c.rpmb_key.ensures in
    let tells : (card : CardState) → HasCard (port c.args.card) key card → Tells card c.in-Ok.read.counter c.in-Ok.read.block =
    λ card has. subst (λ h. (x : CardState) → HasCard (port h.port) h.key x → Tells x c.in-Ok.read.counter c.in-Ok.read.block) c.new-host.ensures c.in-Ok.ensures.told card
    (has_still (port c.args.card) (port c.args.card) key c.rpmb_key.result card refl c.rpmb_key.ensures has) in
    let held : IsTrue (state d.file).honest → IsDurable (state d.file) (directory_key keys) c.in-Ok-root_served.root d.dir.tree d.dir.entries =
    subst (λ (t : List ℕ). IsTrue (state d.file).honest → IsDurable (state d.file) t c.in-Ok-root_served.root d.dir.tree d.dir.entries) tsk_is o.held in
    record {
      settled = gate_settled (state c.args.dir) (port c.args.card) (port c.read_card.new.host.port) keys c.read_card.new.host.key c.in-Ok.read.counter c.in-Ok.read.block c.in-Ok-root_served.root
          (state d.file) d.dir stays key_is tells c.in-Ok-root_served.ensures.named c.in-Ok-root_served.ensures.form o.root o.idle (o.tsk ∙ tsk_is) o.entries held;
    }

pub returns-in-Ok-open_directory-clause-opens : goal.returns-in-Ok-open_directory-clause-opens
returns-in-Ok-open_directory-clause-opens g c =
    let state = g.F.StoreFile.state in
    let port = g.R.RpmbPort.state in
    let keys = c.args.keys.now in
    let key : List ℕ = rpmb_key keys.huk in
    let d = c.in-Ok-open_directory.dir in
    let o = c.in-Ok-open_directory.ensures in
    let tsk_is : c.dir_tsk-tsk.result ≡ directory_key keys = c.dir_tsk-tsk.ensures ∙ ap dir_tsk c.ssk.ensures in
    let stays : (port c.read_card.new.host.port).card ≡ (port c.args.card).card = c.in-Ok.ensures.stays ∙ ap (λ h. (port h.port).card) c.new-host.ensures in
    let key_is : c.read_card.new.host.key ≡ key = c.in-Ok.ensures.key ∙ ap (λ h. h.key) c.new-host.ensures ∙ c.rpmb_key.ensures in
    let tells : (card : CardState) → HasCard (port c.args.card) key card → Tells card c.in-Ok.read.counter c.in-Ok.read.block =
    λ card has. subst (λ h. (x : CardState) → HasCard (port h.port) h.key x → Tells x c.in-Ok.read.counter c.in-Ok.read.block) c.new-host.ensures c.in-Ok.ensures.told card
    (has_still (port c.args.card) (port c.args.card) key c.rpmb_key.result card refl c.rpmb_key.ensures has) in
    let held : IsTrue (state d.file).honest → IsDurable (state d.file) (directory_key keys) c.in-Ok-root_served.root d.dir.tree d.dir.entries =
    subst (λ (t : List ℕ). IsTrue (state d.file).honest → IsDurable (state d.file) t c.in-Ok-root_served.root d.dir.tree d.dir.entries) tsk_is o.held in
    let directory : Told (state c.args.dir) (state d.file) → directory_of (directory_key keys) (state d.file).reads c.in-Ok-root_served.root ≡ Ok d.dir.entries =
    subst (λ (t : List ℕ). Told (state c.args.dir) (state d.file) → directory_of t (state d.file).reads c.in-Ok-root_served.root ≡ Ok d.dir.entries) tsk_is o.directory in
    let read : IsCardRead key (port c.args.card) (port c.read_card.new.host.port) c.in-Ok.read.counter c.in-Ok.read.block =
    subst (λ (k : List ℕ). IsCardRead k (port c.args.card) (port c.read_card.new.host.port) c.in-Ok.read.counter c.in-Ok.read.block) c.rpmb_key.ensures
    (subst (λ h. IsCardRead h.key (port h.port) (port c.read_card.new.host.port) c.in-Ok.read.counter c.in-Ok.read.block) c.new-host.ensures c.in-Ok.ensures.heard) in
    let keeps : KeepsPort (port c.args.card) (port c.read_card.new.host.port) = subst (λ h. KeepsPort (port h.port) (port c.read_card.new.host.port)) c.new-host.ensures c.in-Ok.ensures.goes_on in
    let devices : LeavesDevices (state c.args.dir) (state d.file) (port c.args.card) (port c.read_card.new.host.port) = record { keeps = o.keeps; reads = o.reads; left = o.left; card = stays; port = keeps } in
    let opens = gate_opens (state c.args.dir) (port c.args.card) (port c.read_card.new.host.port) keys c.read_card.new.host.key c.in-Ok.read.counter c.in-Ok.read.block c.in-Ok-root_served.root
    (state d.file) d.dir stays key_is tells c.in-Ok-root_served.ensures.named c.in-Ok-root_served.ensures.form o.root o.idle (o.tsk ∙ tsk_is) o.entries held
    devices o.synced o.unwritten (record { block = c.in-Ok.read.block; read = read; named = answer_root (root_in c.in-Ok.read.block) c.in-Ok-root_served.root c.in-Ok-root_served.ensures.named }) o.verified (subst (λ (t : List ℕ). SeesDirectory (state c.args.dir) (state d.file) t c.in-Ok-root_served.root d.dir.tree (Ok d.dir.entries)) tsk_is o.seen) directory in
    ok_map c.new.result (λ v. (v.dir ≡ d) × (v.host ≡ c.read_card.new.host) × (v.counter ≡ c.in-Ok.read.counter))
    (λ v. OpensGate (state c.args.dir) (port c.args.card) keys (gate_sides state port v))
    (λ v made. subst (OpensGate (state c.args.dir) (port c.args.card) keys)
    (λ i. sides (state (sym made.0 i).file) (sym made.0 i).dir (port (sym made.1 i).port) (sym made.1 i).key (sym made.2 i)) opens) c.new.ensures.made

pub returns-in-Err-root_served-clause-differs : goal.returns-in-Err-root_served-clause-differs
returns-in-Err-root_served-clause-differs g c =
    let p = g.R.RpmbPort.state c.args.card in
    root_differs (g.F.StoreFile.state c.args.dir) p p c.args.keys.now 0 0 c.in-Ok.read.block c.in-Err-root_served.fault c.in-Err-root_served.ensures.refused

pub returns-in-Err-open_directory-clause-differs : goal.returns-in-Err-open_directory-clause-differs
returns-in-Err-open_directory-clause-differs g c =
    let state = g.F.StoreFile.state in
    let port = g.R.RpmbPort.state in
    let keys = c.args.keys.now in
    let key : List ℕ = rpmb_key keys.huk in
    let p = port c.args.card in
    let b = c.in-Err-open_directory.field-0 in
    let tsk_is : c.dir_tsk-tsk.result ≡ directory_key keys = c.dir_tsk-tsk.ensures ∙ ap dir_tsk c.ssk.ensures in
    let tells : (card : CardState) → HasCard p key card → Tells card c.in-Ok.read.counter c.in-Ok.read.block =
    λ card has. subst (λ h. (x : CardState) → HasCard (port h.port) h.key x → Tells x c.in-Ok.read.counter c.in-Ok.read.block) c.new-host.ensures c.in-Ok.ensures.told card
    (has_still p p key c.rpmb_key.result card refl c.rpmb_key.ensures has) in
    subst (MountDiffers (state b.file) p keys) (sym c.directory_answer-fault.ensures)
    (directory_differs (state b.file) p p keys 0 0 c.in-Ok-root_served.root
    (card_names p key c.in-Ok.read.counter c.in-Ok.read.block c.in-Ok-root_served.root tells c.in-Ok-root_served.ensures.named) b.fault
    (subst (λ (t : List ℕ). DirDiffers t (state b.file) c.in-Ok-root_served.root b.fault) tsk_is c.in-Err-open_directory.ensures.differs))

pub returns-in-Err-open_directory-clause-refused : goal.returns-in-Err-open_directory-clause-refused
returns-in-Err-open_directory-clause-refused g c =
    let state = g.F.StoreFile.state in
    let port = g.R.RpmbPort.state in
    let keys = c.args.keys.now in
    let key : List ℕ = rpmb_key keys.huk in
    let p = port c.args.card in
    let q = port c.into_port-card-in-Err-open_directory.result in
    let b = c.in-Err-open_directory.field-0 in
    let old = state c.args.dir in
    let new = state b.file in
    let drew : ℕ = g.E.Entropy.faults c.args.entropy.now in
    let draws : ℕ = g.E.Entropy.faults c.read_card.new.entropy in
    let tsk_is : c.dir_tsk-tsk.result ≡ directory_key keys = c.dir_tsk-tsk.ensures ∙ ap dir_tsk c.ssk.ensures in
    let tells : (card : CardState) → HasCard p key card → Tells card c.in-Ok.read.counter c.in-Ok.read.block =
    λ card has. subst (λ h. (x : CardState) → HasCard (port h.port) h.key x → Tells x c.in-Ok.read.counter c.in-Ok.read.block) c.new-host.ensures c.in-Ok.ensures.told card
    (has_still p p key c.rpmb_key.result card refl c.rpmb_key.ensures has) in
    subst (MountRefused old new p q keys drew draws) (sym c.directory_answer-fault.ensures)
    (directory_refuses old new p q keys drew draws c.in-Ok.read.counter c.in-Ok.read.block tells c.in-Ok-root_served.root c.in-Ok-root_served.ensures.named b.fault
    (subst (λ (t : List ℕ). IsOutsideDir b.fault ⊎ (Told old new → directory_of t new.reads c.in-Ok-root_served.root ≡ Err b.fault)) tsk_is c.in-Err-open_directory.ensures.fault)
    c.in-Err-open_directory.ensures.cause)

-- the card refuses
pub returns-in-Err-clause-heard : goal.returns-in-Err-clause-heard
returns-in-Err-clause-heard g c =
    let state = g.F.StoreFile.state in
    let port = g.R.RpmbPort.state in
    let keys = c.args.keys.now in
    let key : List ℕ = rpmb_key keys.huk in
    let p0 = port c.args.card in
    let p1 = port c.read_card.new.host.port in
    let drew : ℕ = g.E.Entropy.faults c.args.entropy.now in
    let draws : ℕ = g.E.Entropy.faults c.read_card.new.entropy in
    let refused : CardRefused p0 p1 key drew draws c.in-Err.fault =
    subst (λ (k : List ℕ). CardRefused p0 p1 k drew draws c.in-Err.fault) c.rpmb_key.ensures
    (subst (λ h. CardRefused (port h.port) p1 h.key drew draws c.in-Err.fault) c.new-host.ensures c.in-Err.ensures.fault) in
    let heard : OfHost (IsReadRefused key p0 p1) c.in-Err.fault =
    subst (λ (k : List ℕ). OfHost (IsReadRefused k p0 p1) c.in-Err.fault) c.rpmb_key.ensures
    (subst (λ h. OfHost (IsReadRefused h.key (port h.port) p1) c.in-Err.fault) c.new-host.ensures c.in-Err.ensures.refused) in
    subst (λ r. MountHeard (state c.args.dir) p0 (port r) keys c.in-Err.fault) (sym c.into_port-card.ensures)
    (card_heard_so (state c.args.dir) p0 p1 keys drew draws c.in-Err.fault refused heard)

pub returns-in-Err-clause-counts : goal.returns-in-Err-clause-counts
returns-in-Err-clause-counts g c =
    let state = g.F.StoreFile.state in
    let port = g.R.RpmbPort.state in
    let keys = c.args.keys.now in
    let key : List ℕ = rpmb_key keys.huk in
    let p0 = port c.args.card in
    let p1 = port c.read_card.new.host.port in
    let drew : ℕ = g.E.Entropy.faults c.args.entropy.now in
    let draws : ℕ = g.E.Entropy.faults c.read_card.new.entropy in
    subst (λ r. RefusalCounts (counts (state c.args.dir) p0 drew) (counts (state c.args.dir) (port r) draws) c.in-Err.fault) (sym c.into_port-card.ensures)
    (subst (λ h. RefusalCounts (counts (state c.args.dir) (port h.port) drew) (counts (state c.args.dir) p1 draws) c.in-Err.fault) c.new-host.ensures (c.in-Err.ensures.counts (state c.args.dir)))

pub returns-in-Err-clause-calm_err : goal.returns-in-Err-clause-calm_err
returns-in-Err-clause-calm_err g c calm =
    let port = g.R.RpmbPort.state in
    let is = subst (λ h. IsTrue (port h.port).calm → IsTrue (port c.read_card.new.host.port).calm × RefusalNotOfCard c.in-Err.fault) c.new-host.ensures c.in-Err.ensures.calm calm in
    (subst (λ r. IsTrue (port r).calm) (sym c.into_port-card.ensures) is.0, is.1)

-- its block 0 refuses
pub returns-in-Err-root_served-clause-heard : goal.returns-in-Err-root_served-clause-heard
returns-in-Err-root_served-clause-heard g c =
    let state = g.F.StoreFile.state in
    let port = g.R.RpmbPort.state in
    let keys = c.args.keys.now in
    let key : List ℕ = rpmb_key keys.huk in
    let p0 = port c.args.card in
    let p1 = port c.read_card.new.host.port in
    let read : IsCardRead key (port c.args.card) (port c.read_card.new.host.port) c.in-Ok.read.counter c.in-Ok.read.block =
    subst (λ (k : List ℕ). IsCardRead k (port c.args.card) (port c.read_card.new.host.port) c.in-Ok.read.counter c.in-Ok.read.block) c.rpmb_key.ensures
    (subst (λ h. IsCardRead h.key (port h.port) (port c.read_card.new.host.port) c.in-Ok.read.counter c.in-Ok.read.block) c.new-host.ensures c.in-Ok.ensures.heard) in
    subst (λ r. MountHeard (state c.args.dir) p0 (port r) keys c.in-Err-root_served.fault) (sym c.into_port-card-in-Err-root_served.ensures)
    (root_heard (state c.args.dir) p0 p1 keys c.in-Ok.read.counter c.in-Ok.read.block read c.in-Err-root_served.fault c.in-Err-root_served.ensures.refused)

pub returns-in-Err-root_served-clause-counts : goal.returns-in-Err-root_served-clause-counts
returns-in-Err-root_served-clause-counts g c =
    let state = g.F.StoreFile.state in
    let port = g.R.RpmbPort.state in
    let keys = c.args.keys.now in
    let key : List ℕ = rpmb_key keys.huk in
    let p0 = port c.args.card in
    let p1 = port c.read_card.new.host.port in
    let drew : ℕ = g.E.Entropy.faults c.args.entropy.now in
    let draws : ℕ = g.E.Entropy.faults c.read_card.new.entropy in
    let passed = subst (λ h. (p1.faults ≡ (port h.port).faults) × (draws ≡ drew)) c.new-host.ensures c.in-Ok.ensures.passed in
    let q = c.into_port-card-in-Err-root_served.result in
    let stays : (port q).faults ≡ p0.faults = ap (λ r. (port r).faults) c.into_port-card-in-Err-root_served.ensures ∙ passed.0 in
    root_counts (counts (state c.args.dir) p0 drew) (counts (state c.args.dir) (port q) draws) c.in-Ok.read.block c.in-Err-root_served.fault c.in-Err-root_served.ensures.refused
    (record { file = file_same (state c.args.dir); card = stays; draws = passed.1 })

pub returns-in-Err-root_served-clause-calm_err : goal.returns-in-Err-root_served-clause-calm_err
returns-in-Err-root_served-clause-calm_err g c calm =
    let port = g.R.RpmbPort.state in
    let is = subst (λ h. IsTrue (port h.port).calm → IsTrue (port c.read_card.new.host.port).calm) c.new-host.ensures (λ x. (c.in-Ok.ensures.calm x).0) calm in
    (subst (λ r. IsTrue (port r).calm) (sym c.into_port-card-in-Err-root_served.ensures) is, (root_not_card c.in-Ok.read.block c.in-Err-root_served.fault c.in-Err-root_served.ensures.refused).0)

pub returns-in-Err-root_served-clause-drawn : goal.returns-in-Err-root_served-clause-drawn
returns-in-Err-root_served-clause-drawn g c reliable = (root_not_card c.in-Ok.read.block c.in-Err-root_served.fault c.in-Err-root_served.ensures.refused).1

-- the directory refuses
pub returns-in-Err-open_directory-clause-heard : goal.returns-in-Err-open_directory-clause-heard
returns-in-Err-open_directory-clause-heard g c =
    let state = g.F.StoreFile.state in
    let port = g.R.RpmbPort.state in
    let keys = c.args.keys.now in
    let key : List ℕ = rpmb_key keys.huk in
    let p0 = port c.args.card in
    let p1 = port c.read_card.new.host.port in
    let read : IsCardRead key (port c.args.card) (port c.read_card.new.host.port) c.in-Ok.read.counter c.in-Ok.read.block =
    subst (λ (k : List ℕ). IsCardRead k (port c.args.card) (port c.read_card.new.host.port) c.in-Ok.read.counter c.in-Ok.read.block) c.rpmb_key.ensures
    (subst (λ h. IsCardRead h.key (port h.port) (port c.read_card.new.host.port) c.in-Ok.read.counter c.in-Ok.read.block) c.new-host.ensures c.in-Ok.ensures.heard) in
    let b = c.in-Err-open_directory.field-0 in
    let tsk_is : c.dir_tsk-tsk.result ≡ directory_key keys = c.dir_tsk-tsk.ensures ∙ ap dir_tsk c.ssk.ensures in
    subst (λ r. MountHeard (state b.file) p0 (port r) keys c.directory_answer-fault.result) (sym c.into_port-card-in-Err-open_directory.ensures)
    (subst (MountHeard (state b.file) p0 p1 keys) (sym c.directory_answer-fault.ensures)
    (directory_heard (state b.file) p0 p1 keys c.in-Ok.read.counter c.in-Ok-root_served.root
    (root_read (state b.file) p0 p1 keys c.in-Ok.read.counter c.in-Ok.read.block read c.in-Ok-root_served.root c.in-Ok-root_served.ensures.named) b.fault
    (subst (λ (t : List ℕ). DirDiffers t (state b.file) c.in-Ok-root_served.root b.fault) tsk_is c.in-Err-open_directory.ensures.differs)))

pub returns-in-Err-open_directory-clause-counts : goal.returns-in-Err-open_directory-clause-counts
returns-in-Err-open_directory-clause-counts g c =
    let state = g.F.StoreFile.state in
    let port = g.R.RpmbPort.state in
    let keys = c.args.keys.now in
    let key : List ℕ = rpmb_key keys.huk in
    let p0 = port c.args.card in
    let p1 = port c.read_card.new.host.port in
    let b = c.in-Err-open_directory.field-0 in
    let drew : ℕ = g.E.Entropy.faults c.args.entropy.now in
    let draws : ℕ = g.E.Entropy.faults c.read_card.new.entropy in
    let passed = subst (λ h. (p1.faults ≡ (port h.port).faults) × (draws ≡ drew)) c.new-host.ensures c.in-Ok.ensures.passed in
    let q = c.into_port-card-in-Err-open_directory.result in
    let stays : (port q).faults ≡ p0.faults = ap (λ r. (port r).faults) c.into_port-card-in-Err-open_directory.ensures ∙ passed.0 in
    subst (RefusalCounts (counts (state c.args.dir) p0 drew) (counts (state b.file) (port q) draws)) (sym c.directory_answer-fault.ensures)
    (directory_counts (counts (state c.args.dir) p0 drew) (counts (state b.file) (port q) draws) stays passed.1 b.fault c.in-Err-open_directory.ensures.cause)

pub returns-in-Err-open_directory-clause-calm_err : goal.returns-in-Err-open_directory-clause-calm_err
returns-in-Err-open_directory-clause-calm_err g c calm =
    let port = g.R.RpmbPort.state in
    let is = subst (λ h. IsTrue (port h.port).calm → IsTrue (port c.read_card.new.host.port).calm) c.new-host.ensures (λ x. (c.in-Ok.ensures.calm x).0) calm in
    (subst (λ r. IsTrue (port r).calm) (sym c.into_port-card-in-Err-open_directory.ensures) is, subst RefusalNotOfCard (sym c.directory_answer-fault.ensures) (directory_not_card c.in-Err-open_directory.field-0.fault).0)

pub returns-in-Err-open_directory-clause-drawn : goal.returns-in-Err-open_directory-clause-drawn
returns-in-Err-open_directory-clause-drawn g c reliable = subst RefusalNotDrawn (sym c.directory_answer-fault.ensures) (directory_not_card c.in-Err-open_directory.field-0.fault).1

-- the gate
pub returns-in-Ok-open_directory-clause-heard : goal.returns-in-Ok-open_directory-clause-heard
returns-in-Ok-open_directory-clause-heard g c =
    let state = g.F.StoreFile.state in
    let port = g.R.RpmbPort.state in
    let keys = c.args.keys.now in
    let key : List ℕ = rpmb_key keys.huk in
    let p0 = port c.args.card in
    let p1 = port c.read_card.new.host.port in
    let read : IsCardRead key (port c.args.card) (port c.read_card.new.host.port) c.in-Ok.read.counter c.in-Ok.read.block =
    subst (λ (k : List ℕ). IsCardRead k (port c.args.card) (port c.read_card.new.host.port) c.in-Ok.read.counter c.in-Ok.read.block) c.rpmb_key.ensures
    (subst (λ h. IsCardRead h.key (port h.port) (port c.read_card.new.host.port) c.in-Ok.read.counter c.in-Ok.read.block) c.new-host.ensures c.in-Ok.ensures.heard) in
    let d = c.in-Ok-open_directory.dir in
    err_map c.new.result (λ b. (b.dir ≡ d.file) × (b.card ≡ c.read_card.new.host.port) × (b.fault ≡ NoMemory)) (λ b. MountHeard (state b.dir) p0 (port b.card) keys b.fault)
    (λ b is. subst (MountHeard (state b.dir) p0 (port b.card) keys) (sym is.2)
    (subst (λ r. HasRootRead key p0 (port r)) (sym is.1)
    (record { counter = c.in-Ok.read.counter; root = c.in-Ok-root_served.root; read = root_read (state d.file) p0 p1 keys c.in-Ok.read.counter c.in-Ok.read.block read c.in-Ok-root_served.root c.in-Ok-root_served.ensures.named }))) c.new.ensures.broken

pub returns-in-Ok-open_directory-clause-counts : goal.returns-in-Ok-open_directory-clause-counts
returns-in-Ok-open_directory-clause-counts g c =
    let state = g.F.StoreFile.state in
    let port = g.R.RpmbPort.state in
    let keys = c.args.keys.now in
    let key : List ℕ = rpmb_key keys.huk in
    let p0 = port c.args.card in
    let p1 = port c.read_card.new.host.port in
    let d = c.in-Ok-open_directory.dir in
    let drew : ℕ = g.E.Entropy.faults c.args.entropy.now in
    let draws : ℕ = g.E.Entropy.faults c.read_card.new.entropy in
    let passed = subst (λ h. (p1.faults ≡ (port h.port).faults) × (draws ≡ drew)) c.new-host.ensures c.in-Ok.ensures.passed in
    let none : NoneRose (counts (state c.args.dir) p0 drew) (counts (state d.file) p1 draws) = record { file = c.in-Ok-open_directory.ensures.passed; card = passed.0; draws = passed.1 } in
    err_map c.new.result (λ b. (b.dir ≡ d.file) × (b.card ≡ c.read_card.new.host.port) × (b.fault ≡ NoMemory)) (λ b. RefusalCounts (counts (state c.args.dir) p0 drew) (counts (state b.dir) (port b.card) draws) b.fault)
    (λ b is. subst (RefusalCounts (counts (state c.args.dir) p0 drew) (counts (state b.dir) (port b.card) draws)) (sym is.2)
    (subst (NoneRose (counts (state c.args.dir) p0 drew)) (λ i. counts (state (sym is.0 i)) (port (sym is.1 i)) draws) none)) c.new.ensures.broken

pub returns-in-Ok-open_directory-clause-passed : goal.returns-in-Ok-open_directory-clause-passed
returns-in-Ok-open_directory-clause-passed g c =
    let state = g.F.StoreFile.state in
    let port = g.R.RpmbPort.state in
    let keys = c.args.keys.now in
    let key : List ℕ = rpmb_key keys.huk in
    let p0 = port c.args.card in
    let p1 = port c.read_card.new.host.port in
    let d = c.in-Ok-open_directory.dir in
    let drew : ℕ = g.E.Entropy.faults c.args.entropy.now in
    let draws : ℕ = g.E.Entropy.faults c.read_card.new.entropy in
    let passed = subst (λ h. (p1.faults ≡ (port h.port).faults) × (draws ≡ drew)) c.new-host.ensures c.in-Ok.ensures.passed in
    let none : NoneRose (counts (state c.args.dir) p0 drew) (counts (state d.file) p1 draws) = record { file = c.in-Ok-open_directory.ensures.passed; card = passed.0; draws = passed.1 } in
    ok_map c.new.result (λ v. (v.dir ≡ d) × (v.host ≡ c.read_card.new.host) × (v.counter ≡ c.in-Ok.read.counter)) (λ v. NoneRose (counts (state c.args.dir) p0 drew) (counts (state v.dir.file) (port v.host.port) draws))
    (λ v made. subst (NoneRose (counts (state c.args.dir) p0 drew)) (λ i. counts (state (sym made.0 i).file) (port (sym made.1 i).port) draws) none) c.new.ensures.made

pub returns-in-Ok-open_directory-clause-calm : goal.returns-in-Ok-open_directory-clause-calm
returns-in-Ok-open_directory-clause-calm g c calm =
    let port = g.R.RpmbPort.state in
    let d = c.in-Ok-open_directory.dir in
    let is = subst (λ h. IsTrue (port h.port).calm → IsTrue (port c.read_card.new.host.port).calm) c.new-host.ensures (λ x. (c.in-Ok.ensures.calm x).0) calm in
    ok_map c.new.result (λ v. (v.dir ≡ d) × (v.host ≡ c.read_card.new.host) × (v.counter ≡ c.in-Ok.read.counter)) (λ v. IsTrue (port v.host.port).calm)
    (λ v made. subst (λ h. IsTrue (port h.port).calm) (sym made.1) is) c.new.ensures.made

pub returns-in-Ok-open_directory-clause-calm_err : goal.returns-in-Ok-open_directory-clause-calm_err
returns-in-Ok-open_directory-clause-calm_err g c calm =
    let port = g.R.RpmbPort.state in
    let d = c.in-Ok-open_directory.dir in
    let is = subst (λ h. IsTrue (port h.port).calm → IsTrue (port c.read_card.new.host.port).calm) c.new-host.ensures (λ x. (c.in-Ok.ensures.calm x).0) calm in
    err_map c.new.result (λ b. (b.dir ≡ d.file) × (b.card ≡ c.read_card.new.host.port) × (b.fault ≡ NoMemory)) (λ b. IsTrue (port b.card).calm × RefusalNotOfCard b.fault)
    (λ b broken. (subst (λ r. IsTrue (port r).calm) (sym broken.1) is, subst RefusalNotOfCard (sym broken.2) tt)) c.new.ensures.broken

pub returns-in-Ok-open_directory-clause-drawn : goal.returns-in-Ok-open_directory-clause-drawn
returns-in-Ok-open_directory-clause-drawn g c reliable =
    let d = c.in-Ok-open_directory.dir in
    err_map c.new.result (λ b. (b.dir ≡ d.file) × (b.card ≡ c.read_card.new.host.port) × (b.fault ≡ NoMemory)) (λ b. RefusalNotDrawn b.fault)
    (λ b broken. subst RefusalNotDrawn (sym broken.2) tt) c.new.ensures.broken

pub returns-in-Err-clause-refused : goal.returns-in-Err-clause-refused
returns-in-Err-clause-refused g c =
    let state = g.F.StoreFile.state in
    let port = g.R.RpmbPort.state in
    let keys = c.args.keys.now in
    let key : List ℕ = rpmb_key keys.huk in
    let p0 = port c.args.card in
    let p1 = port c.read_card.new.host.port in
    let drew : ℕ = g.E.Entropy.faults c.args.entropy.now in
    let draws : ℕ = g.E.Entropy.faults c.read_card.new.entropy in
    let refused : CardRefused p0 p1 key drew draws c.in-Err.fault =
    subst (λ (k : List ℕ). CardRefused p0 p1 k drew draws c.in-Err.fault) c.rpmb_key.ensures
    (subst (λ h. CardRefused (port h.port) p1 h.key drew draws c.in-Err.fault) c.new-host.ensures c.in-Err.ensures.fault) in
    subst (λ r. MountRefused (state c.args.dir) (state c.args.dir) p0 (port r) keys drew draws c.in-Err.fault) (sym c.into_port-card.ensures)
    (card_refuses (state c.args.dir) (state c.args.dir) p0 p1 keys drew draws c.in-Err.fault refused)

pub returns-in-Err-root_served-clause-refused : goal.returns-in-Err-root_served-clause-refused
returns-in-Err-root_served-clause-refused g c =
    let state = g.F.StoreFile.state in
    let port = g.R.RpmbPort.state in
    let keys = c.args.keys.now in
    let key : List ℕ = rpmb_key keys.huk in
    let p0 = port c.args.card in
    let p1 = port c.read_card.new.host.port in
    let drew : ℕ = g.E.Entropy.faults c.args.entropy.now in
    let draws : ℕ = g.E.Entropy.faults c.read_card.new.entropy in
    let tells : (card : CardState) → HasCard p0 key card → Tells card c.in-Ok.read.counter c.in-Ok.read.block =
    λ card has. subst (λ h. (x : CardState) → HasCard (port h.port) h.key x → Tells x c.in-Ok.read.counter c.in-Ok.read.block) c.new-host.ensures c.in-Ok.ensures.told card
    (has_still p0 p0 key c.rpmb_key.result card refl c.rpmb_key.ensures has) in
    let q = port c.into_port-card-in-Err-root_served.result in
    root_refuses (state c.args.dir) (state c.args.dir) p0 q keys drew draws c.in-Ok.read.counter c.in-Ok.read.block tells c.in-Err-root_served.fault c.in-Err-root_served.ensures.refused

pub returns-in-Ok-open_directory-clause-leaves : goal.returns-in-Ok-open_directory-clause-leaves
returns-in-Ok-open_directory-clause-leaves g c =
    let state = g.F.StoreFile.state in
    let port = g.R.RpmbPort.state in
    let p0 = port c.args.card in
    let p1 = port c.read_card.new.host.port in
    let d = c.in-Ok-open_directory.dir in
    let o = c.in-Ok-open_directory.ensures in
    let stays : p1.card ≡ p0.card = c.in-Ok.ensures.stays ∙ ap (λ h. (port h.port).card) c.new-host.ensures in
    let keeps : KeepsPort p0 p1 = subst (λ h. KeepsPort (port h.port) p1) c.new-host.ensures c.in-Ok.ensures.goes_on in
    let devices : LeavesDevices (state c.args.dir) (state d.file) p0 p1 = record { keeps = o.keeps; reads = o.reads; left = o.left; card = stays; port = keeps } in
    err_map c.new.result (λ b. (b.dir ≡ d.file) × (b.card ≡ c.read_card.new.host.port) × (b.fault ≡ NoMemory)) (λ b. LeavesDevices (state c.args.dir) (state b.dir) p0 (port b.card))
    (λ b is. subst (λ f. LeavesDevices (state c.args.dir) (state f) p0 (port b.card)) (sym is.0) (subst (λ r. LeavesDevices (state c.args.dir) (state d.file) p0 (port r)) (sym is.1) devices)) c.new.ensures.broken

-- what a refusal leaves of the devices
pub returns-in-Err-clause-leaves : goal.returns-in-Err-clause-leaves
returns-in-Err-clause-leaves g c =
    let state = g.F.StoreFile.state in
    let port = g.R.RpmbPort.state in
    let p0 = port c.args.card in
    let p1 = port c.read_card.new.host.port in
    let stays : p1.card ≡ p0.card = c.in-Err.ensures.stays ∙ ap (λ h. (port h.port).card) c.new-host.ensures in
    let keeps : KeepsPort p0 p1 = subst (λ h. KeepsPort (port h.port) p1) c.new-host.ensures c.in-Err.ensures.goes_on in
    subst (λ r. LeavesDevices (state c.args.dir) (state c.args.dir) p0 (port r)) (sym c.into_port-card.ensures)
    (record { keeps = keeps_none Anywhere (state c.args.dir); reads = λ known. refl; left = λ honest image left. left; card = stays; port = keeps })

pub returns-in-Err-root_served-clause-leaves : goal.returns-in-Err-root_served-clause-leaves
returns-in-Err-root_served-clause-leaves g c =
    let state = g.F.StoreFile.state in
    let port = g.R.RpmbPort.state in
    let p0 = port c.args.card in
    let p1 = port c.read_card.new.host.port in
    let stays : p1.card ≡ p0.card = c.in-Ok.ensures.stays ∙ ap (λ h. (port h.port).card) c.new-host.ensures in
    let keeps : KeepsPort p0 p1 = subst (λ h. KeepsPort (port h.port) p1) c.new-host.ensures c.in-Ok.ensures.goes_on in
    subst (λ r. LeavesDevices (state c.args.dir) (state c.args.dir) p0 (port r)) (sym c.into_port-card-in-Err-root_served.ensures)
    (record { keeps = keeps_none Anywhere (state c.args.dir); reads = λ known. refl; left = λ honest image left. left; card = stays; port = keeps })

pub returns-in-Err-open_directory-clause-leaves : goal.returns-in-Err-open_directory-clause-leaves
returns-in-Err-open_directory-clause-leaves g c =
    let state = g.F.StoreFile.state in
    let port = g.R.RpmbPort.state in
    let p0 = port c.args.card in
    let p1 = port c.read_card.new.host.port in
    let b = c.in-Err-open_directory.field-0 in
    let o = c.in-Err-open_directory.ensures in
    let stays : p1.card ≡ p0.card = c.in-Ok.ensures.stays ∙ ap (λ h. (port h.port).card) c.new-host.ensures in
    let keeps : KeepsPort p0 p1 = subst (λ h. KeepsPort (port h.port) p1) c.new-host.ensures c.in-Ok.ensures.goes_on in
    subst (λ r. LeavesDevices (state c.args.dir) (state b.file) p0 (port r)) (sym c.into_port-card-in-Err-open_directory.ensures)
    (record { keeps = o.keeps_err; reads = o.reads_err; left = o.left_err; card = stays; port = keeps })

-- a failure is told as one
pub returns-in-Err-clause-told : goal.returns-in-Err-clause-told
returns-in-Err-clause-told g c =
    let port = g.R.RpmbPort.state in
    card_tells (port c.new-host.result.port) (port c.read_card.new.host.port) c.new-host.result.key (g.E.Entropy.faults c.args.entropy.now) (g.E.Entropy.faults c.read_card.new.entropy)
    c.in-Err.fault c.in-Err.ensures.fault

pub returns-in-Err-root_served-clause-told : goal.returns-in-Err-root_served-clause-told
returns-in-Err-root_served-clause-told g c = root_tells c.in-Ok.read.block c.in-Err-root_served.fault c.in-Err-root_served.ensures.refused

pub returns-in-Err-open_directory-clause-told : goal.returns-in-Err-open_directory-clause-told
returns-in-Err-open_directory-clause-told g c =
    subst TellsFailure (sym c.directory_answer-fault.ensures) (directory_tells c.in-Err-open_directory.field-0.fault c.in-Err-open_directory.ensures.kind)

pub returns-in-Ok-open_directory-clause-told : goal.returns-in-Ok-open_directory-clause-told
returns-in-Ok-open_directory-clause-told g c =
    let d = c.in-Ok-open_directory.dir in
    err_map c.new.result (λ b. (b.dir ≡ d.file) × (b.card ≡ c.read_card.new.host.port) × (b.fault ≡ NoMemory)) (λ b. TellsFailure b.fault)
    (λ b is. subst TellsFailure (sym is.2) tt) c.new.ensures.broken

-- which format is told
pub returns-in-Ok-open_directory-clause-current : goal.returns-in-Ok-open_directory-clause-current
returns-in-Ok-open_directory-clause-current g c =
    let d = c.in-Ok-open_directory.dir in
    let format : d.dir.root.format ≡ current_format = ap (λ r. r.format) c.in-Ok-open_directory.ensures.root ∙ c.in-Ok-root_served.ensures.current in
    ok_map c.new.result (λ v. (v.dir ≡ d) × (v.host ≡ c.read_card.new.host) × (v.counter ≡ c.in-Ok.read.counter)) (λ v. v.dir.dir.root.format ≡ current_format)
    (λ v made. ap (λ x. x.dir.root.format) made.0 ∙ format) c.new.ensures.made

pub returns-in-Err-clause-only : goal.returns-in-Err-clause-only
returns-in-Err-clause-only g c =
    let port = g.R.RpmbPort.state in
    let keys = c.args.keys.now in
    let p1 = port c.read_card.new.host.port in
    let drew : ℕ = g.E.Entropy.faults c.args.entropy.now in
    let draws : ℕ = g.E.Entropy.faults c.read_card.new.entropy in
    let refused : CardRefused (port c.args.card) p1 (rpmb_key keys.huk) drew draws c.in-Err.fault =
    subst (λ (k : List ℕ). CardRefused (port c.args.card) p1 k drew draws c.in-Err.fault) c.rpmb_key.ensures
    (subst (λ h. CardRefused (port h.port) p1 h.key drew draws c.in-Err.fault) c.new-host.ensures c.in-Err.ensures.fault) in
    card_current (port c.args.card) keys p1 drew draws c.in-Err.fault refused

pub returns-in-Err-root_served-clause-only : goal.returns-in-Err-root_served-clause-only
returns-in-Err-root_served-clause-only g c =
    root_current (g.R.RpmbPort.state c.args.card) c.args.keys.now c.in-Ok.read.block c.in-Err-root_served.fault c.in-Err-root_served.ensures.refused

pub returns-in-Err-open_directory-clause-only : goal.returns-in-Err-open_directory-clause-only
returns-in-Err-open_directory-clause-only g c =
    let port = g.R.RpmbPort.state in
    let keys = c.args.keys.now in
    let key : List ℕ = rpmb_key keys.huk in
    let p = port c.args.card in
    let tells : (card : CardState) → HasCard p key card → Tells card c.in-Ok.read.counter c.in-Ok.read.block =
    λ card has. subst (λ h. (x : CardState) → HasCard (port h.port) h.key x → Tells x c.in-Ok.read.counter c.in-Ok.read.block) c.new-host.ensures c.in-Ok.ensures.told card
    (has_still p p key c.rpmb_key.result card refl c.rpmb_key.ensures has) in
    subst (IsOfCurrentFormat p keys) (sym c.directory_answer-fault.ensures)
    (directory_current p keys c.in-Ok-root_served.root (c.in-Ok-root_served.ensures.current)
    (card_names p key c.in-Ok.read.counter c.in-Ok.read.block c.in-Ok-root_served.root tells c.in-Ok-root_served.ensures.named) c.in-Err-open_directory.field-0.fault)

pub returns-in-Ok-open_directory-clause-only : goal.returns-in-Ok-open_directory-clause-only
returns-in-Ok-open_directory-clause-only g c =
    let p = g.R.RpmbPort.state c.args.card in
    err_map c.new.result (λ b. (b.dir ≡ c.in-Ok-open_directory.dir.file) × (b.card ≡ c.read_card.new.host.port) × (b.fault ≡ NoMemory)) (λ b. IsOfCurrentFormat p c.args.keys.now b.fault)
    (λ b is. subst (IsOfCurrentFormat p c.args.keys.now) (sym is.2) tt) c.new.ensures.broken
