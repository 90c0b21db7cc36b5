use Rattle.commit_gate.proofs.EndedCommits.{doubtful_fair, doubtful_right, made_fair, made_right}
use Rattle.commit_gate.proofs.FairCommits.{unmade_fair}
use Rattle.commit_gate.proofs.commit_laws.ready_commits_are_fair.Goals as goal

pub returns : goal.returns
returns c = λ store view entries counter session number call reply change slot versions kept tied known ready. record {
  made = λ fits. made_fair store view entries counter session number call reply change slot versions kept tied known ready fits;
  doubtful = λ fits. doubtful_fair store view entries counter session number call reply change slot versions kept tied known ready fits;
  unmade = unmade_fair store view entries counter session number call reply change slot versions kept tied known ready;
  made_tag = made_right store view entries counter session number call reply change slot versions kept tied known ready;
  doubtful_tag = doubtful_right store view entries counter session number call reply change slot versions kept tied known ready;
}
