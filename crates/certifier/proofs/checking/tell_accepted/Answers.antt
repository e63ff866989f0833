use Rattle.certifier.proofs.Telling.{accepted_lost, accepted_put}
use Rattle.certifier.proofs.checking.tell_accepted.Goals as goal

pub returns-in-Ok-clause-tells : goal.returns-in-Ok-clause-tells
returns-in-Ok-clause-tells g c =
    accepted_put c.args.routers c.args.links (g.K.Sink.written c.args.sink.now)
    (g.K.Sink.written c.write_accepted.new.sink) c.in-Ok.ensures.bytes

pub returns-in-Err-clause-tells : goal.returns-in-Err-clause-tells
returns-in-Err-clause-tells g c =
    let put = c.in-Err.ensures.bytes in
    accepted_lost c.args.routers c.args.links put.0 (g.K.Sink.written c.args.sink.now)
    (g.K.Sink.written c.write_accepted.new.sink) put.2
