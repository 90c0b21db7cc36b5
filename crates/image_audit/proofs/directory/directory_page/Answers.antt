use Rattle.std.proofs.Common.{◌≡◌, ◌∙◌, ℕ, List, ap}
use Rattle.aes_block.specs.WrappedKey.{unwrapped_of}
use Rattle.crash_core.specs.DeviceKeys.{directory_key}
use Rattle.hmac_keys.specs.KeyTable.{dir_tsk}
use Rattle.image_audit.proofs.Cutting.{dir_nodes_err, dir_answer}
use Rattle.image_audit.proofs.directory.directory_page.Goals as goal

pub returns-in-Err : goal.returns-in-Err
returns-in-Err c = dir_nodes_err c.args.keys.now c.args.root c.args.bytes.now c.in_ok-head.head c.read_nodes.new.nodes c.in_ok-head.ensures.head c.read_nodes.ensures c.in-Err.fault c.in-Err.ensures

pub returns : goal.returns
returns c =
    let wrap : List ℕ = c.dir_tsk.result in
    let wrap_is : c.dir_tsk.result ≡ directory_key c.args.keys.now = c.dir_tsk.ensures ∙ ap dir_tsk c.ssk.ensures in
    dir_answer c.args.keys.now c.args.root c.args.bytes.now c.in_ok-head.head c.read_nodes.new.nodes c.in_ok-head.ensures.head c.read_nodes.ensures
    c.new-key.result c.args.index c.from-block.result
    (c.new-key.ensures ∙ c.unwrap_key.ensures.value ∙ ap (λ (w : List ℕ). unwrapped_of w c.in_ok-head.head.wrapped) wrap_is)
    c.requires.index c.from-block.ensures c.in-Ok.ensures c.field.result c.open_block.new.page c.field.ensures c.open_block.result c.open_block.ensures
