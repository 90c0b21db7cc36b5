use Rattle.history_seats.proofs.GivenVersions.{have-versions}
use Rattle.history_seats.proofs.laws.entries_have_versions.Goals as goal

pub returns : goal.returns
returns c = λ gate mounted file generation sound is. have-versions file generation mounted gate.all (sound.tags_right mounted is)
