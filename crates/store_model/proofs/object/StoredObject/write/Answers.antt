use Rattle.std.proofs.Common.{◌++◌, ◌+◌, [], length, take, drop, ap, ◌∙◌}
use Rattle.store_model.specs.Object.{Sound, attributes_of, bytes_of}
use Rattle.store_model.specs.Data.{written}
use Rattle.store_model.proofs.Writes.{written-reached}
use Rattle.store_model.proofs.object.StoredObject.write.Goals as goal

pub returns-clause-ok : goal.returns-clause-ok
returns-clause-ok c =
    let at = c.args.position in
    let bytes = c.args.bytes.now in
    ap (λ l. Sound (record { attributes = c.self.inside.attributes; bytes = l; bad = [] })) c.overwrite.ensures
    ∙ ap (λ l. Sound (record { attributes = c.self.inside.attributes; bytes = take at l ++ (bytes ++ drop (at + length bytes) l); bad = [] })) c.in_ok-reach.ensures.ok
    ∙ ap (λ l. Sound (record { attributes = c.self.inside.attributes; bytes = l; bad = [] })) (written-reached c.self.inside.content.items at bytes)
    ∙ ap (λ o. Sound (record { attributes = attributes_of o; bytes = written (bytes_of o) at bytes; bad = [] })) c.self.view_is
