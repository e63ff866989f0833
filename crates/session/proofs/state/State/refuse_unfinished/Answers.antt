use Rattle.session.proofs.Loading.{closed_err}
use Rattle.session.proofs.state.State.refuse_unfinished.Goals as goal

pub returns-clause-loads : goal.returns-clause-loads
returns-clause-loads g c = λ text read.
    rw c.requires.open at
    (closed_err c.args.reader text read c.refuse_text.ensures.looks c.in-Err.fault c.in-Err.ensures
    c.refuse_text.ensures.reply c.refuse_text.ensures.lost)
