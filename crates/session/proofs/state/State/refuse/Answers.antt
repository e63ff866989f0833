use Rattle.session.proofs.ShortReplies.{refused_owed}
use Rattle.session.proofs.state.State.refuse.Goals as goal

pub returns-clause-owed : goal.returns-clause-owed
returns-clause-owed c = refused_owed c.refuse.new.self _ _ _ c.refuse.ensures.run
