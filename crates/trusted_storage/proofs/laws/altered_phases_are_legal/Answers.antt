use Rattle.trusted_storage.proofs.laws.altered_phases_are_legal.Goals as goal

pub returns : goal.returns
returns c = λ store view files port doubt leaves. (leaves.altered).legal_or_clashed
