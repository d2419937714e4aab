use Rattle.session.proofs.Leading.{leads_off_lem}
use Rattle.session.proofs.sessions.opens.leads_off.Goals as goal

pub returns : goal.returns
returns c = leads_off_lem
