use Rattle.std.proofs.Common.{◌≡◌, ℕ, List, ap, sym, ◌∙◌}
use Rattle.byte_fields.specs.Field.{field}
use Rattle.card_maps.specs.Form.{id_length, size_in}
use Rattle.card_maps.specs.Tables.{entry_name}
use Rattle.card_maps.proofs.Faults.{front_length, id_taken}
use Rattle.card_maps.proofs.entry.CardEntry.name.Goals as goal

pub identifier-requires : goal.identifier-requires
identifier-requires c = front_length c.self.inside.block c.self.invariant

pub returns : goal.returns
returns c =
    let block : List ℕ = c.self.inside.block in
    let app : c.from_uuid.result ≡ field 0 16 c.self.inside.block = c.from_uuid.ensures ∙ c.from_bytes.ensures ∙ c.field.ensures in
    let id : c.unwrap.result ≡ field 16 (id_length c.self.inside.block) c.self.inside.block =
    id_taken c.self.inside.block c.unwrap.result (front_length c.self.inside.block c.self.invariant).1 (sym c.identifier.ensures ∙ c.unwrap.ensures) in
    let size : c.size.result ≡ size_in c.self.inside.block = c.size.ensures.value ∙ ap size_in (sym c.self.view_is) in
    (λ i. record { app = app i; id = id i; size = size i }) ∙ ap entry_name c.self.view_is
