use Rattle.std.proofs.Common.{Ok}
use Rattle.session.proofs.Loading.{want_loads}
use Rattle.session.proofs.state.State.publish.Goals as goal

pub returns-in-Ok-clause-loads : goal.returns-in-Ok-clause-loads
returns-in-Ok-clause-loads g c = rw c.in-Ok.ensures.sheet at c.publish_record.ensures.loads

pub returns-in-Err-clause-loads : goal.returns-in-Err-clause-loads
returns-in-Err-clause-loads g c =
    want_loads c.refuse_load.ensures.looks (Ok c.args.sheet) c.refuse_load.ensures.reply
