use Rattle.std.proofs.Common.{◌≡◌, ◌≢◌, ◌∙◌, ◌+◌, ℕ, List, Ok, Err, IsTrue, refl, sym, ap, subst, inr, arith}
use Rattle.disk_model.specs.Calls.{GoesOn}
use Rattle.disk_model.proofs.Goings.{goes_on_none}
use Rattle.htree_file.specs.Answers.{FilePassed}
use Rattle.hmac_keys.specs.KeyTable.{dir_tsk, rpmb_key}
use Rattle.rpmb_card.specs.Protocol.{last_counter}
use Rattle.rpmb_card.specs.Card.{CardState}
use Rattle.rpmb_host.specs.Honest.{HasCard, card_write}
use Rattle.dir_records.specs.Form.{IsFormat}
use Rattle.crash_core.specs.CardBlock.{root_block}
use Rattle.crash_core.specs.DeviceKeys.{directory_key}
use Rattle.dir_file.specs.EntryForms.{no_entries}
use Rattle.dir_file.specs.Held.{IsDurable}
use Rattle.store_commit.specs.Causes.{counts}
use Rattle.store_commit.specs.Counts.{NoneRose, RefusalCounts, RefusalNotDrawn, RefusalNotOfCard}
use Rattle.store_commit.specs.Formats.{FormatGoesOn, FormatHeard, FormatRefused, Formats, IsFormatWritten, LeavesFormat}
use Rattle.store_commit.specs.Leaving.{KeepsPort}
use Rattle.store_commit.specs.Mounts.{CardRefused}
use Rattle.store_commit.specs.Reads.{AsksCounter, AsksWrite, IsCounterRead, IsRootWritten, OfHost}
use Rattle.store_commit.proofs.Cards.{card_writes, has_still, host_refused, refused_then}
use Rattle.store_commit.proofs.Counting.{faults_since, host_counts, host_not_card, host_not_drawn}
use Rattle.store_commit.proofs.Formatting.{card_formats, formats, leaves_format}
use Rattle.store_commit.proofs.Leavings.{port_then, writes_keep}
use Rattle.store_commit.proofs.Readings.{counter_heard_so, format_heard, write_made, write_refused}
use Rattle.store_commit.proofs.form.format_parts.Goals as goal

pub returns-in-Ok-write_block-clause-made : goal.returns-in-Ok-write_block-clause-made
returns-in-Ok-write_block-clause-made g c =
    let state = g.F.StoreFile.state in
    let port = g.R.RpmbPort.state in
    let keys = c.args.keys.now in
    let key : List ℕ = rpmb_key keys.huk in
    let m = c.in-Ok-make.ensures in
    let w = c.in-Ok-write_block.ensures in
    let tsk_is : c.dir_tsk-tsk.result ≡ directory_key keys = c.dir_tsk-tsk.ensures ∙ ap dir_tsk c.ssk.ensures in
    let stays : (port c.read_counter.new.host.port).card ≡ (port c.args.card).card = c.in-Ok.ensures.stays ∙ ap (λ h. (port h.port).card) c.new-host.ensures in
    let key_is : c.read_counter.new.host.key ≡ key = c.in-Ok.ensures.key ∙ ap (λ h. h.key) c.new-host.ensures ∙ c.rpmb_key.ensures in
    let told : (card : CardState) → HasCard (port c.args.card) key card → card.counter ≡ c.in-Ok.counter =
    λ card has. subst (λ h. (x : CardState) → HasCard (port h.port) h.key x → x.counter ≡ c.in-Ok.counter) c.new-host.ensures c.in-Ok.ensures.told card
    (has_still (port c.args.card) (port c.args.card) key c.rpmb_key.result card refl c.rpmb_key.ensures has) in
    let held : IsTrue (state c.into_file-file.result).honest → IsDurable (state c.into_file-file.result) (directory_key keys) c.in-Ok-make.root c.in-Ok-make.made.dir.tree no_entries =
    subst (λ f. IsTrue (state f).honest → IsDurable (state f) (directory_key keys) c.in-Ok-make.root c.in-Ok-make.made.dir.tree no_entries) (sym c.into_file-file.ensures)
    (subst (λ (t : List ℕ). IsTrue (state c.in-Ok-make.made.file).honest → IsDurable (state c.in-Ok-make.made.file) t c.in-Ok-make.root c.in-Ok-make.made.dir.tree no_entries) tsk_is m.held) in
    let unspent : c.in-Ok.counter ≢ last_counter = c.if-counter.false in
    subst (λ r. Formats (state c.into_file-file.result) (port c.args.card) (port r) keys) (sym c.into_port.ensures)
    (formats (state c.into_file-file.result) (port c.args.card) (port c.read_counter.new.host.port) (port c.write_block.new.self.port) keys c.read_counter.new.host.key c.write_block.new.self.key
    c.in-Ok.counter c.root_block.result c.in-Ok-make.root c.in-Ok-make.made.dir.tree stays key_is w.key told unspent c.root_block.ensures
    (record { version = omega (arith, m.root.1); format = subst IsFormat (sym m.format) (omega arith, omega arith); long = m.root.2 }) m.format (g.met.R.RpmbPort.sound c.args.card) held
    (λ card has. (w.honest unspent card has refl).1))

pub returns-in-Err-write_block-clause-left : goal.returns-in-Err-write_block-clause-left
returns-in-Err-write_block-clause-left g c =
    let state = g.F.StoreFile.state in
    let port = g.R.RpmbPort.state in
    let keys = c.args.keys.now in
    let key : List ℕ = rpmb_key keys.huk in
    let m = c.in-Ok-make.ensures in
    let w = c.in-Err-write_block.ensures in
    let tsk_is : c.dir_tsk-tsk.result ≡ directory_key keys = c.dir_tsk-tsk.ensures ∙ ap dir_tsk c.ssk.ensures in
    let stays : (port c.read_counter.new.host.port).card ≡ (port c.args.card).card = c.in-Ok.ensures.stays ∙ ap (λ h. (port h.port).card) c.new-host.ensures in
    let key_is : c.read_counter.new.host.key ≡ key = c.in-Ok.ensures.key ∙ ap (λ h. h.key) c.new-host.ensures ∙ c.rpmb_key.ensures in
    let told : (card : CardState) → HasCard (port c.args.card) key card → card.counter ≡ c.in-Ok.counter =
    λ card has. subst (λ h. (x : CardState) → HasCard (port h.port) h.key x → x.counter ≡ c.in-Ok.counter) c.new-host.ensures c.in-Ok.ensures.told card
    (has_still (port c.args.card) (port c.args.card) key c.rpmb_key.result card refl c.rpmb_key.ensures has) in
    let held : IsTrue (state c.into_file-file.result).honest → IsDurable (state c.into_file-file.result) (directory_key keys) c.in-Ok-make.root c.in-Ok-make.made.dir.tree no_entries =
    subst (λ f. IsTrue (state f).honest → IsDurable (state f) (directory_key keys) c.in-Ok-make.root c.in-Ok-make.made.dir.tree no_entries) (sym c.into_file-file.ensures)
    (subst (λ (t : List ℕ). IsTrue (state c.in-Ok-make.made.file).honest → IsDurable (state c.in-Ok-make.made.file) t c.in-Ok-make.root c.in-Ok-make.made.dir.tree no_entries) tsk_is m.held) in
    let unspent : c.in-Ok.counter ≢ last_counter = c.if-counter.false in
    subst (λ r. LeavesFormat (state c.into_file-file.result) (port c.args.card) (port r) keys) (sym c.into_port-card-in-Err-write_block.ensures)
    (leaves_format (state c.into_file-file.result) (port c.args.card) (port c.read_counter.new.host.port) (port c.write_block.new.self.port) keys c.read_counter.new.host.key c.write_block.new.self.key
    c.in-Ok.counter c.root_block.result c.in-Ok-make.root c.in-Ok-make.made.dir.tree stays key_is w.key told unspent c.root_block.ensures
    (record { version = omega (arith, m.root.1); format = subst IsFormat (sym m.format) (omega arith, omega arith); long = m.root.2 }) m.format (g.met.R.RpmbPort.sound c.args.card) held
    (λ card has. w.left unspent card has))

pub returns-in-Err-write_block-clause-refused : goal.returns-in-Err-write_block-clause-refused
returns-in-Err-write_block-clause-refused g c =
    let state = g.F.StoreFile.state in
    let port = g.R.RpmbPort.state in
    let keys = c.args.keys.now in
    let key : List ℕ = rpmb_key keys.huk in
    let w = c.in-Err-write_block.ensures in
    let p0 = port c.args.card in
    let p1 = port c.read_counter.new.host.port in
    let p2 = port c.write_block.new.self.port in
    let k = c.read_counter.new.host.key in
    let drew : ℕ = g.E.Entropy.faults c.args.entropy.now in
    let draws : ℕ = g.E.Entropy.faults c.make.new.entropy in
    let stays : p1.card ≡ p0.card = c.in-Ok.ensures.stays ∙ ap (λ h. (port h.port).card) c.new-host.ensures in
    let key_is : k ≡ key = c.in-Ok.ensures.key ∙ ap (λ h. h.key) c.new-host.ensures ∙ c.rpmb_key.ensures in
    let faults : p1.faults ≡ p0.faults = c.in-Ok.ensures.passed.0 ∙ ap (λ h. (port h.port).faults) c.new-host.ensures in
    let drawn : draws ≡ drew = c.in-Ok-make.ensures.drew ∙ c.in-Ok.ensures.passed.1 in
    let unspent : c.in-Ok.counter ≢ last_counter = c.if-counter.false in
    let told : (card : CardState) → HasCard p1 k card → card.counter ≡ c.in-Ok.counter =
    λ card has. subst (λ h. (x : CardState) → HasCard (port h.port) h.key x → x.counter ≡ c.in-Ok.counter) c.new-host.ensures c.in-Ok.ensures.told card
    (has_still p1 p0 k c.rpmb_key.result card (sym stays) (c.rpmb_key.ensures ∙ sym key_is) has) in
    subst (λ r. FormatRefused (state c.args.dir) (state c.into_file-file.result) p0 (port r) keys drew draws c.host_answer-fault.result) (sym c.into_port-card-in-Err-write_block.ensures)
    (subst (FormatRefused (state c.args.dir) (state c.into_file-file.result) p0 p2 keys drew draws) (sym c.host_answer-fault.ensures)
    (card_formats (state c.args.dir) (state c.into_file-file.result) p0 p2 keys drew draws _
    (refused_then p0 p1 p2 key k drew draws draws _ faults stays key_is drawn
    (host_refused p1 p2 k draws draws c.in-Err-write_block.fault ℕ (λ card. card_write card 0 c.in-Ok.counter) (λ card has. (c.in-Ok.counter + 1, card_writes card c.in-Ok.counter (told card has) unspent))
    w.counts (λ card has unfailed. (w.honest unspent card has unfailed).0) (λ is. unspent (w.spent.0 (λ i. Err (is i))))))))

pub returns-in-Err-clause-heard : goal.returns-in-Err-clause-heard
returns-in-Err-clause-heard g c =
    let state = g.F.StoreFile.state in
    let port = g.R.RpmbPort.state in
    let keys = c.args.keys.now in
    let key : List ℕ = rpmb_key keys.huk in
    let p0 = port c.args.card in
    let p1 = port c.read_counter.new.host.port in
    let drew : ℕ = g.E.Entropy.faults c.args.entropy.now in
    let draws : ℕ = g.E.Entropy.faults c.read_counter.new.entropy in
    let refused : CardRefused p0 p1 key drew draws c.in-Err.fault =
    subst (λ (k : List ℕ). CardRefused p0 p1 k drew draws c.in-Err.fault) c.rpmb_key.ensures
    (subst (λ h. CardRefused (port h.port) p1 h.key drew draws c.in-Err.fault) c.new-host.ensures c.in-Err.ensures.fault) in
    let heard : OfHost (λ f. AsksCounter key p0 p1 (Err f)) c.in-Err.fault =
    subst (λ (k : List ℕ). OfHost (λ f. AsksCounter k p0 p1 (Err f)) c.in-Err.fault) c.rpmb_key.ensures
    (subst (λ h. OfHost (λ f. AsksCounter h.key (port h.port) p1 (Err f)) c.in-Err.fault) c.new-host.ensures c.in-Err.ensures.refused) in
    subst (λ r. FormatHeard (state c.args.dir) (state c.args.dir) p0 (port r) keys c.in-Err.fault) (sym c.into_port-card.ensures)
    (counter_heard_so (state c.args.dir) (state c.args.dir) p0 p1 keys drew draws c.in-Err.fault refl refused heard)

pub returns-in-Err-clause-counts : goal.returns-in-Err-clause-counts
returns-in-Err-clause-counts g c =
    let state = g.F.StoreFile.state in
    let port = g.R.RpmbPort.state in
    let keys = c.args.keys.now in
    let key : List ℕ = rpmb_key keys.huk in
    let p0 = port c.args.card in
    let p1 = port c.read_counter.new.host.port in
    let drew : ℕ = g.E.Entropy.faults c.args.entropy.now in
    let draws : ℕ = g.E.Entropy.faults c.read_counter.new.entropy in
    subst (λ r. RefusalCounts (counts (state c.args.dir) p0 drew) (counts (state c.args.dir) (port r) draws) c.in-Err.fault) (sym c.into_port-card.ensures)
    (subst (λ h. RefusalCounts (counts (state c.args.dir) (port h.port) drew) (counts (state c.args.dir) p1 draws) c.in-Err.fault) c.new-host.ensures (c.in-Err.ensures.counts (state c.args.dir)))

pub returns-in-Err-clause-calm_err : goal.returns-in-Err-clause-calm_err
returns-in-Err-clause-calm_err g c calm =
    let port = g.R.RpmbPort.state in
    let is = subst (λ h. IsTrue (port h.port).calm → IsTrue (port c.read_counter.new.host.port).calm × RefusalNotOfCard c.in-Err.fault) c.new-host.ensures c.in-Err.ensures.calm calm in
    (subst (λ r. IsTrue (port r).calm) (sym c.into_port-card.ensures) is.0, is.1)

pub returns-in-Ok-write_block-clause-written : goal.returns-in-Ok-write_block-clause-written
returns-in-Ok-write_block-clause-written g c =
    let state = g.F.StoreFile.state in
    let port = g.R.RpmbPort.state in
    let keys = c.args.keys.now in
    let key : List ℕ = rpmb_key keys.huk in
    let p0 = port c.args.card in
    let p1 = port c.read_counter.new.host.port in
    let read : IsCounterRead key p0 p1 c.in-Ok.counter =
    subst (λ (k : List ℕ). IsCounterRead k p0 p1 c.in-Ok.counter) c.rpmb_key.ensures
    (subst (λ h. IsCounterRead h.key (port h.port) p1 c.in-Ok.counter) c.new-host.ensures c.in-Ok.ensures.heard) in
    let key_is : c.read_counter.new.host.key ≡ key = c.in-Ok.ensures.key ∙ ap (λ h. h.key) c.new-host.ensures ∙ c.rpmb_key.ensures in
    let m = c.in-Ok-make.ensures in
    let w = c.in-Ok-write_block.ensures in
    let unspent : c.in-Ok.counter ≢ last_counter = c.if-counter.false in
    let p2 = port c.write_block.new.self.port in
    let made = write_made c.read_counter.new.host.key c.root_block.result c.in-Ok.counter c.in-Ok-make.root p1 p2 c.root_block.ensures c.in-Ok-write_block.field-0 (w.exchanged unspent) (w.answer unspent) in
    let tsk_is : c.dir_tsk-tsk.result ≡ directory_key keys = c.dir_tsk-tsk.ensures ∙ ap dir_tsk c.ssk.ensures in
    let held : IsTrue (state c.into_file-file.result).honest → IsDurable (state c.into_file-file.result) (directory_key keys) c.in-Ok-make.root c.in-Ok-make.made.dir.tree no_entries =
    subst (λ f. IsTrue (state f).honest → IsDurable (state f) (directory_key keys) c.in-Ok-make.root c.in-Ok-make.made.dir.tree no_entries) (sym c.into_file-file.ensures)
    (subst (λ (t : List ℕ). IsTrue (state c.in-Ok-make.made.file).honest → IsDurable (state c.in-Ok-make.made.file) t c.in-Ok-make.root c.in-Ok-make.made.dir.tree no_entries) tsk_is m.held) in
    subst (λ r. IsFormatWritten (state c.into_file-file.result) p0 (port r) keys) (sym c.into_port.ensures)
    (record {
      root = c.in-Ok-make.root;
      tree = c.in-Ok-make.made.dir.tree;
      frame = made.0;
      written = record { between = p1; counter = c.in-Ok.counter; read = read; unspent = unspent; asks = subst (λ (k : List ℕ). AsksWrite k c.in-Ok.counter (root_block c.in-Ok-make.root) p1 p2 (Ok made.0)) key_is made.1 };
      held = held;
    })

pub returns-in-Ok-write_block-clause-passed : goal.returns-in-Ok-write_block-clause-passed
returns-in-Ok-write_block-clause-passed g c =
    let state = g.F.StoreFile.state in
    let port = g.R.RpmbPort.state in
    let keys = c.args.keys.now in
    let key : List ℕ = rpmb_key keys.huk in
    let p0 = port c.args.card in
    let p1 = port c.read_counter.new.host.port in
    let faults : p1.faults ≡ p0.faults = c.in-Ok.ensures.passed.0 ∙ ap (λ h. (port h.port).faults) c.new-host.ensures in
    let drew : ℕ = g.E.Entropy.faults c.args.entropy.now in
    let draws : ℕ = g.E.Entropy.faults c.make.new.entropy in
    subst (λ r. NoneRose (counts (state c.args.dir) p0 drew) (counts (state c.into_file-file.result) (port r) draws)) (sym c.into_port.ensures)
    (record {
      file = subst (λ f. FilePassed (state c.args.dir) (state f)) (sym c.into_file-file.ensures) c.in-Ok-make.ensures.passed;
      card = c.in-Ok-write_block.ensures.counts ∙ faults;
      draws = c.in-Ok-make.ensures.drew ∙ c.in-Ok.ensures.passed.1;
    })

pub returns-in-Ok-write_block-clause-calm : goal.returns-in-Ok-write_block-clause-calm
returns-in-Ok-write_block-clause-calm g c calm =
    let port = g.R.RpmbPort.state in
    let p1 = port c.read_counter.new.host.port in
    let is = subst (λ h. IsTrue (port h.port).calm → IsTrue p1.calm) c.new-host.ensures (λ x. (c.in-Ok.ensures.calm x).0) calm in
    subst (λ r. IsTrue (port r).calm) (sym c.into_port.ensures) (c.in-Ok-write_block.ensures.calm is).1

pub returns-in-Err-write_block-clause-heard : goal.returns-in-Err-write_block-clause-heard
returns-in-Err-write_block-clause-heard g c =
    let state = g.F.StoreFile.state in
    let port = g.R.RpmbPort.state in
    let keys = c.args.keys.now in
    let key : List ℕ = rpmb_key keys.huk in
    let p0 = port c.args.card in
    let p1 = port c.read_counter.new.host.port in
    let read : IsCounterRead key p0 p1 c.in-Ok.counter =
    subst (λ (k : List ℕ). IsCounterRead k p0 p1 c.in-Ok.counter) c.rpmb_key.ensures
    (subst (λ h. IsCounterRead h.key (port h.port) p1 c.in-Ok.counter) c.new-host.ensures c.in-Ok.ensures.heard) in
    let key_is : c.read_counter.new.host.key ≡ key = c.in-Ok.ensures.key ∙ ap (λ h. h.key) c.new-host.ensures ∙ c.rpmb_key.ensures in
    let w = c.in-Err-write_block.ensures in
    let unspent : c.in-Ok.counter ≢ last_counter = c.if-counter.false in
    let p2 = port c.write_block.new.self.port in
    let refused = write_refused c.read_counter.new.host.key c.root_block.result c.in-Ok.counter c.in-Ok-make.root p1 p2 c.root_block.ensures c.in-Err-write_block.fault (w.exchanged unspent) (w.answer unspent) in
    let written : IsRootWritten key p0 p2 c.in-Ok-make.root (Err c.in-Err-write_block.fault) =
    record { between = p1; counter = c.in-Ok.counter; read = read; unspent = unspent; asks = subst (λ (k : List ℕ). AsksWrite k c.in-Ok.counter (root_block c.in-Ok-make.root) p1 p2 (Err c.in-Err-write_block.fault)) key_is refused } in
    let file = state c.into_file-file.result in
    subst (λ r. FormatHeard (state c.args.dir) file p0 (port r) keys c.host_answer-fault.result) (sym c.into_port-card-in-Err-write_block.ensures)
    (subst (FormatHeard (state c.args.dir) file p0 p2 keys) (sym c.host_answer-fault.ensures)
    (format_heard (state c.args.dir) file p0 p2 keys c.in-Err-write_block.fault (λ is. unspent (w.spent.0 (λ i. Err (is i)))) (inr (c.in-Ok-make.root, written))))

pub returns-in-Err-write_block-clause-counts : goal.returns-in-Err-write_block-clause-counts
returns-in-Err-write_block-clause-counts g c =
    let state = g.F.StoreFile.state in
    let port = g.R.RpmbPort.state in
    let keys = c.args.keys.now in
    let key : List ℕ = rpmb_key keys.huk in
    let p0 = port c.args.card in
    let p1 = port c.read_counter.new.host.port in
    let faults : p1.faults ≡ p0.faults = c.in-Ok.ensures.passed.0 ∙ ap (λ h. (port h.port).faults) c.new-host.ensures in
    let drew : ℕ = g.E.Entropy.faults c.args.entropy.now in
    let draws : ℕ = g.E.Entropy.faults c.make.new.entropy in
    let p2 = port c.write_block.new.self.port in
    let file = state c.into_file-file.result in
    subst (λ r. RefusalCounts (counts (state c.args.dir) p0 drew) (counts file (port r) draws) c.host_answer-fault.result) (sym c.into_port-card-in-Err-write_block.ensures)
    (subst (RefusalCounts (counts (state c.args.dir) p0 drew) (counts file p2 draws)) (sym c.host_answer-fault.ensures)
    (host_counts (counts (state c.args.dir) p0 drew) (counts file p2 draws) c.in-Err-write_block.fault
    (subst (λ f. FilePassed (state c.args.dir) (state f)) (sym c.into_file-file.ensures) c.in-Ok-make.ensures.passed)
    (c.in-Ok-make.ensures.drew ∙ c.in-Ok.ensures.passed.1)
    (faults_since p0 p1 p2 c.in-Err-write_block.fault faults c.in-Err-write_block.ensures.counts)))

pub returns-in-Err-write_block-clause-calm_err : goal.returns-in-Err-write_block-clause-calm_err
returns-in-Err-write_block-clause-calm_err g c calm =
    let port = g.R.RpmbPort.state in
    let p1 = port c.read_counter.new.host.port in
    let is = subst (λ h. IsTrue (port h.port).calm → IsTrue p1.calm) c.new-host.ensures (λ x. (c.in-Ok.ensures.calm x).0) calm in
    let w = c.in-Err-write_block.ensures.calm is in
    (subst (λ r. IsTrue (port r).calm) (sym c.into_port-card-in-Err-write_block.ensures) w.1, subst RefusalNotOfCard (sym c.host_answer-fault.ensures) (host_not_card c.in-Err-write_block.fault w.0))

pub returns-in-Err-write_block-clause-drawn : goal.returns-in-Err-write_block-clause-drawn
returns-in-Err-write_block-clause-drawn g c reliable = subst RefusalNotDrawn (sym c.host_answer-fault.ensures) (host_not_drawn c.in-Err-write_block.fault)

pub returns-in-Err-clause-refused : goal.returns-in-Err-clause-refused
returns-in-Err-clause-refused g c =
    let state = g.F.StoreFile.state in
    let port = g.R.RpmbPort.state in
    let keys = c.args.keys.now in
    let key : List ℕ = rpmb_key keys.huk in
    let p0 = port c.args.card in
    let p1 = port c.read_counter.new.host.port in
    let drew : ℕ = g.E.Entropy.faults c.args.entropy.now in
    let draws : ℕ = g.E.Entropy.faults c.read_counter.new.entropy in
    let refused : CardRefused p0 p1 key drew draws c.in-Err.fault =
    subst (λ (k : List ℕ). CardRefused p0 p1 k drew draws c.in-Err.fault) c.rpmb_key.ensures
    (subst (λ h. CardRefused (port h.port) p1 h.key drew draws c.in-Err.fault) c.new-host.ensures c.in-Err.ensures.fault) in
    subst (λ r. FormatRefused (state c.args.dir) (state c.args.dir) p0 (port r) keys drew draws c.in-Err.fault) (sym c.into_port-card.ensures)
    (card_formats (state c.args.dir) (state c.args.dir) p0 p1 keys drew draws c.in-Err.fault refused)

pub returns-then-counter-clause-refused : goal.returns-then-counter-clause-refused
returns-then-counter-clause-refused g c card has =
    let port = g.R.RpmbPort.state in
    let key : List ℕ = rpmb_key c.args.keys.now.huk in
    let p0 = port c.args.card in
    subst (λ h. (x : CardState) → HasCard (port h.port) h.key x → x.counter ≡ c.in-Ok.counter) c.new-host.ensures c.in-Ok.ensures.told card
    (has_still p0 p0 key c.rpmb_key.result card refl c.rpmb_key.ensures has) ∙ c.if-counter.true

-- what is known of the devices goes on
pub returns-in-Err-clause-goes_on_err : goal.returns-in-Err-clause-goes_on_err
returns-in-Err-clause-goes_on_err g c =
    let state = g.F.StoreFile.state in
    let port = g.R.RpmbPort.state in
    let p0 = port c.args.card in
    let p1 = port c.read_counter.new.host.port in
    let keeps : KeepsPort p0 p1 = subst (λ h. KeepsPort (port h.port) p1) c.new-host.ensures c.in-Err.ensures.goes_on in
    subst (λ r. FormatGoesOn (state c.args.dir) (state c.args.dir) p0 (port r)) (sym c.into_port-card.ensures) (record { file = goes_on_none (state c.args.dir); port = keeps })

pub returns-then-counter-clause-goes_on_err : goal.returns-then-counter-clause-goes_on_err
returns-then-counter-clause-goes_on_err g c =
    let state = g.F.StoreFile.state in
    let port = g.R.RpmbPort.state in
    let p0 = port c.args.card in
    let p1 = port c.read_counter.new.host.port in
    let keeps : KeepsPort p0 p1 = subst (λ h. KeepsPort (port h.port) p1) c.new-host.ensures c.in-Ok.ensures.goes_on in
    subst (λ r. FormatGoesOn (state c.args.dir) (state c.args.dir) p0 (port r)) (sym c.into_port-card-then-counter.ensures) (record { file = goes_on_none (state c.args.dir); port = keeps })

pub returns-in-Err-make-clause-goes_on_err : goal.returns-in-Err-make-clause-goes_on_err
returns-in-Err-make-clause-goes_on_err g c =
    let state = g.F.StoreFile.state in
    let port = g.R.RpmbPort.state in
    let p0 = port c.args.card in
    let p1 = port c.read_counter.new.host.port in
    let b = c.in-Err-make.field-0 in
    let keeps : KeepsPort p0 p1 = subst (λ h. KeepsPort (port h.port) p1) c.new-host.ensures c.in-Ok.ensures.goes_on in
    subst (λ r. FormatGoesOn (state c.args.dir) (state b.file) p0 (port r)) (sym c.into_port-card-in-Err-make.ensures)
    (record { file = c.in-Err-make.ensures.keeps_err.goes_on; port = keeps })

pub returns-in-Ok-write_block-clause-goes_on : goal.returns-in-Ok-write_block-clause-goes_on
returns-in-Ok-write_block-clause-goes_on g c =
    let state = g.F.StoreFile.state in
    let port = g.R.RpmbPort.state in
    let p0 = port c.args.card in
    let p1 = port c.read_counter.new.host.port in
    let p2 = port c.write_block.new.self.port in
    let keeps : KeepsPort p0 p1 = subst (λ h. KeepsPort (port h.port) p1) c.new-host.ensures c.in-Ok.ensures.goes_on in
    let unspent : c.in-Ok.counter ≢ last_counter = c.if-counter.false in
    subst (λ r. FormatGoesOn (state c.args.dir) (state c.into_file-file.result) p0 (port r)) (sym c.into_port.ensures)
    (record {
      file = subst (λ f. GoesOn (state c.args.dir) (state f)) (sym c.into_file-file.ensures) c.in-Ok-make.ensures.keeps.goes_on;
      port = port_then p0 p1 p2 keeps (writes_keep p1 p2 _ _ (c.in-Ok-write_block.ensures.exchanged unspent));
    })

pub returns-in-Err-write_block-clause-goes_on_err : goal.returns-in-Err-write_block-clause-goes_on_err
returns-in-Err-write_block-clause-goes_on_err g c =
    let state = g.F.StoreFile.state in
    let port = g.R.RpmbPort.state in
    let p0 = port c.args.card in
    let p1 = port c.read_counter.new.host.port in
    let p2 = port c.write_block.new.self.port in
    let keeps : KeepsPort p0 p1 = subst (λ h. KeepsPort (port h.port) p1) c.new-host.ensures c.in-Ok.ensures.goes_on in
    let unspent : c.in-Ok.counter ≢ last_counter = c.if-counter.false in
    subst (λ r. FormatGoesOn (state c.args.dir) (state c.into_file-file.result) p0 (port r)) (sym c.into_port-card-in-Err-write_block.ensures)
    (record {
      file = subst (λ f. GoesOn (state c.args.dir) (state f)) (sym c.into_file-file.ensures) c.in-Ok-make.ensures.keeps.goes_on;
      port = port_then p0 p1 p2 keeps (writes_keep p1 p2 _ _ (c.in-Err-write_block.ensures.exchanged unspent));
    })
