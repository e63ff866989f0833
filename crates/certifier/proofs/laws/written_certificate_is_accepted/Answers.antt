use Rattle.certifier.proofs.Headed.{reply_is_accepted}
use Rattle.certifier.proofs.Reread.{written_is_accepted}
use Rattle.certifier.proofs.laws.written_certificate_is_accepted.Goals as goal

pub returns-clause-text : goal.returns-clause-text
returns-clause-text c = written_is_accepted

pub returns-clause-reply : goal.returns-clause-reply
returns-clause-reply c = reply_is_accepted
