use Rattle.std.proofs.Common.{◌≡◌, ℕ, ◌+◌, length, rules, subst}
use Rattle.disk_model.specs.State.{FileState}
use Rattle.disk_model.specs.Keeps.{Keeps, Outside}
use Rattle.disk_model.proofs.Laws.{change_keeps}
use Rattle.disk_model.proofs.Seen.{written_masked}
use Rattle.host_card.specs.Places.{begin}
use Rattle.host_card.proofs.Moments.{synced_keeps}
use Rattle.host_card.proofs.card_file.put.Goals as goal

pub returns-in_err-write_at-clause-keeps : goal.returns-in_err-write_at-clause-keeps
returns-in_err-write_at-clause-keeps g c =
    let old : FileState = g.F.StoreFile.state c.args.file.now in
    let new : FileState = g.F.StoreFile.state c.write_at.new.self in
    let from : ℕ = c.begin.result in
    let upto : ℕ = from + length c.args.bytes.now in
    let long : upto ≡ from + 1024 = search rules in
    let keeps : Keeps (Outside from upto) old new = change_keeps from upto old new (g.met.F.StoreFile.sound c.args.file.now) (record {
      changes = c.write_at.ensures.changes;
      others = c.write_at.ensures.others;
      masked = λ tells. written_masked from upto old new (c.write_at.ensures.others_struck tells);
    }) in
    subst (λ (b : ℕ). Keeps (Outside b (b + 1024)) old new) c.begin.ensures (subst (λ (e : ℕ). Keeps (Outside from e) old new) long keeps)

pub returns-clause-keeps : goal.returns-clause-keeps
returns-clause-keeps g c =
    let old : FileState = g.F.StoreFile.state c.args.file.now in
    let mid : FileState = g.F.StoreFile.state c.write_at.new.self in
    let from : ℕ = c.begin.result in
    let upto : ℕ = from + length c.args.bytes.now in
    let long : upto ≡ from + 1024 = search rules in
    let keeps : Keeps (Outside from upto) old mid = change_keeps from upto old mid (g.met.F.StoreFile.sound c.args.file.now) (record {
      changes = c.write_at.ensures.changes;
      others = c.write_at.ensures.others;
      masked = λ tells. written_masked from upto old mid (c.write_at.ensures.others_struck tells);
    }) in
    synced_keeps (Outside (begin c.args.place) (begin c.args.place + 1024)) old mid _ c.sync.result (g.met.F.StoreFile.sound c.write_at.new.self)
    (subst (λ (b : ℕ). Keeps (Outside b (b + 1024)) old mid) c.begin.ensures (subst (λ (e : ℕ). Keeps (Outside from e) old mid) long keeps))
    c.sync.ensures.synced c.sync.ensures.unsettled
