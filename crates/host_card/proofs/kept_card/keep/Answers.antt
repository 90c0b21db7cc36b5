use Rattle.std.proofs.Common.{◌≡◌, ◌∙◌, sym, ap, ℕ, ◌+◌, length, List, None, IsTrue, subst, rules}
use Rattle.disk_model.specs.Keeps.{Outside}
use Rattle.disk_model.specs.State.{FileState}
use Rattle.disk_model.specs.Bytes.{after_write}
use Rattle.disk_model.proofs.Goings.{then_known}
use Rattle.disk_model.proofs.Laws.{keeps_then}
use Rattle.rpmb_frame.specs.declared.frame.Frame.{Frame}
use Rattle.host_card.specs.Kept.{Nowhere}
use Rattle.disk_model.specs.Calls.{Known}
use Rattle.host_card.specs.declared.card_file.Place.{Place}
use Rattle.host_card.specs.CardFile.{IsWhole}
use Rattle.host_card.specs.Places.{HasCopies, IsSpare, Off, begin}
use Rattle.host_card.proofs.Acting.{has_copies}
use Rattle.host_card.proofs.Moments.{found_held, found_torn, found_written, holds_card, holds_on, nowhere, rests_off}
use Rattle.host_card.proofs.kept_card.keep.Goals as goal

-- the key's bytes are the key
same_key : (key bytes : List ℕ) (old mid : FileState) (place : Place) → bytes ≡ key → (IsTrue old.tells → Known old mid → IsWhole bytes old.reads → IsSpare bytes old.reads place)
    → IsTrue old.tells → Known old mid → IsWhole key old.reads → IsSpare key old.reads place
same_key key bytes old mid place same spare = subst (λ (k : List ℕ). IsTrue old.tells → Known old mid → IsWhole k old.reads → IsSpare k old.reads place) same spare

pub returns-in_default-clause-ran : goal.returns-in_default-clause-ran
returns-in_default-clause-ran g c = nowhere (Off None) _ _ (rests_off None _ _ (g.met.F.StoreFile.sound c.args.file.now) c.in_default.ensures.rests)

pub returns-in_default-clause-torn : goal.returns-in_default-clause-torn
returns-in_default-clause-torn g c = λ card holds.
    let sound = g.met.F.StoreFile.sound c.args.file.now in
    holds_on c.args.key.now _ _ card None sound (g.met.F.StoreFile.sound c.find_spare.new.file) (rests_off None _ _ sound c.in_default.ensures.rests) holds

pub returns-in_default-clause-held : goal.returns-in_default-clause-held
returns-in_default-clause-held g c = λ card holds.
    let sound = g.met.F.StoreFile.sound c.args.file.now in
    holds_card c.args.key.now _ _ card None sound (rests_off None _ _ sound c.in_default.ensures.rests) holds

pub returns-in-Ok-put-clause-ran : goal.returns-in-Ok-put-clause-ran
returns-in-Ok-put-clause-ran g c =
    let place = c.in-Ok.place in
    keeps_then Nowhere _ _ _ (nowhere (Off None) _ _ (rests_off None _ _ (g.met.F.StoreFile.sound c.args.file.now) c.in-Ok.ensures.rests))
    (nowhere (Outside (begin place) (begin place + 1024)) _ _ c.in-Ok-put.ensures.keeps)

pub returns-in-Err-clause-ran : goal.returns-in-Err-clause-ran
returns-in-Err-clause-ran g c =
    let place = c.in-Ok.place in
    keeps_then Nowhere _ _ _ (nowhere (Off None) _ _ (rests_off None _ _ (g.met.F.StoreFile.sound c.args.file.now) c.in-Ok.ensures.rests))
    (nowhere (Outside (begin place) (begin place + 1024)) _ _ c.in-Err.ensures.keeps)

pub returns-in-Ok-put-clause-kept : goal.returns-in-Ok-put-clause-kept
returns-in-Ok-put-clause-kept g c = λ card is_card does holds.
    let long : length c.args.request.now ≡ 512 = search rules in
    found_written c.args.key.now _ _ _ c.in-Ok.place card (g.met.F.StoreFile.sound c.args.file.now) (g.met.F.StoreFile.sound c.find_spare.new.file) c.in-Ok.ensures.rests
    (same_key _ _ (g.F.StoreFile.state c.args.file.now) (g.F.StoreFile.state c.find_spare.new.file) c.in-Ok.place c.bytes.ensures c.in-Ok.ensures.spare) holds
    c.args.request.now _ c.in-Ok-put.ensures.keeps c.in-Ok-put.ensures.put c.twice.ensures long (c.in-Ok.ensures.at ∙ ap (λ (f : Frame). f.address) c.parse-address.ensures.fields) is_card does

pub returns-in-Ok-put-clause-held : goal.returns-in-Ok-put-clause-held
returns-in-Ok-put-clause-held g c = λ card holds.
    found_held c.args.key.now _ _ _ c.in-Ok.place card (g.met.F.StoreFile.sound c.args.file.now) (g.met.F.StoreFile.sound c.find_spare.new.file) c.in-Ok.ensures.rests
    (same_key _ _ (g.F.StoreFile.state c.args.file.now) (g.F.StoreFile.state c.find_spare.new.file) c.in-Ok.place c.bytes.ensures c.in-Ok.ensures.spare) holds c.in-Ok-put.ensures.keeps

pub returns-in-Err-clause-torn : goal.returns-in-Err-clause-torn
returns-in-Err-clause-torn g c = λ card holds.
    found_torn c.args.key.now _ _ _ c.in-Ok.place card (g.met.F.StoreFile.sound c.args.file.now) (g.met.F.StoreFile.sound c.find_spare.new.file) c.in-Ok.ensures.rests
    (same_key _ _ (g.F.StoreFile.state c.args.file.now) (g.F.StoreFile.state c.find_spare.new.file) c.in-Ok.place c.bytes.ensures c.in-Ok.ensures.spare) holds (g.met.F.StoreFile.sound c.put.new.file) c.in-Err.ensures.keeps

pub returns-in-Err-clause-held : goal.returns-in-Err-clause-held
returns-in-Err-clause-held g c = λ card holds.
    found_held c.args.key.now _ _ _ c.in-Ok.place card (g.met.F.StoreFile.sound c.args.file.now) (g.met.F.StoreFile.sound c.find_spare.new.file) c.in-Ok.ensures.rests
    (same_key _ _ (g.F.StoreFile.state c.args.file.now) (g.F.StoreFile.state c.find_spare.new.file) c.in-Ok.place c.bytes.ensures c.in-Ok.ensures.spare) holds c.in-Err.ensures.keeps

pub returns-in-Ok-put-clause-copies : goal.returns-in-Ok-put-clause-copies
returns-in-Ok-put-clause-copies g c = λ known.
    let long : length c.args.request.now ≡ 512 = search rules in
    let mid : FileState = g.F.StoreFile.state c.find_spare.new.file in
    let place = c.in-Ok.place in
    let new : FileState = g.F.StoreFile.state c.put.new.file in
    let known_on : Known mid new = then_known (g.F.StoreFile.state c.args.file.now) mid new c.in-Ok.ensures.rests.goes_on known in
    subst (λ (l : List ℕ). HasCopies l c.args.request.now) (sym (c.in-Ok-put.ensures.put.reads known_on ∙ ap (after_write mid.reads (begin place)) c.twice.ensures))
    (has_copies mid.reads place c.args.request.now long c.in-Ok.ensures.below (c.in-Ok.ensures.at ∙ ap (λ (f : Frame). f.address) c.parse-address.ensures.fields))
