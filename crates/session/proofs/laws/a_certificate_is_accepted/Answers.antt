use Rattle.session.proofs.CertificateReplies.{certificate_is_accepted}
use Rattle.session.proofs.laws.a_certificate_is_accepted.Goals as goal

pub returns : goal.returns
returns c = certificate_is_accepted
