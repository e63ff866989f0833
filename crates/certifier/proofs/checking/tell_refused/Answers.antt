use Rattle.certifier.proofs.Telling.{refused_lost, refused_put}
use Rattle.certifier.proofs.checking.tell_refused.Goals as goal

pub returns-in-Ok-clause-tells : goal.returns-in-Ok-clause-tells
returns-in-Ok-clause-tells g c =
    refused_put c.args.fault (g.K.Sink.written c.args.sink.now) (g.K.Sink.written c.write_refused.new.sink)
    c.in-Ok.ensures.bytes

pub returns-in-Err-clause-tells : goal.returns-in-Err-clause-tells
returns-in-Err-clause-tells g c =
    let put = c.in-Err.ensures.bytes in
    refused_lost c.args.fault put.0 (g.K.Sink.written c.args.sink.now) (g.K.Sink.written c.write_refused.new.sink)
    put.2
