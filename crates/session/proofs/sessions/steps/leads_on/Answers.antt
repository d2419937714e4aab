use Rattle.session.proofs.Leading.{leads_on_lem}
use Rattle.session.proofs.sessions.steps.leads_on.Goals as goal

pub returns : goal.returns
returns c = leads_on_lem
