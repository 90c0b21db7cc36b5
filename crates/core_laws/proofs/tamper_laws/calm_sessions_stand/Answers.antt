use Rattle.core_laws.proofs.SessionSteps.{calm_session}
use Rattle.core_laws.proofs.tamper_laws.calm_sessions_stand.Goals as goal

pub returns : goal.returns
returns c = λ store scenario gate pass session fits known answered is. calm_session store scenario gate pass fits known answered session is
