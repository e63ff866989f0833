use Rattle.session.proofs.Loading.{closed_ok, closed_err}
use Rattle.session.proofs.state.State.end_text.Goals as goal

pub returns-in-Ok-clause-loads : goal.returns-in-Ok-clause-loads
returns-in-Ok-clause-loads g c = λ text read.
    closed_ok c.args.reader text read c.in-Ok.sheet c.in-Ok.ensures c.publish.ensures.loads

pub returns-in-Err-clause-loads : goal.returns-in-Err-clause-loads
returns-in-Err-clause-loads g c = λ text read.
    closed_err c.args.reader text read c.refuse_text.ensures.looks c.in-Err.fault c.in-Err.ensures
    c.refuse_text.ensures.reply c.refuse_text.ensures.lost
