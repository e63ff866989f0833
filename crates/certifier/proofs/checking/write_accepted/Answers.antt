use Rattle.std.proofs.Common.{◌∙◌, subst}
use Rattle.certifier.proofs.Telling.{accepted_pieces}
use Rattle.wires.specs.Puts.{Puts}
use Rattle.certifier.proofs.checking.write_accepted.Goals as goal

pub returns : goal.returns
returns g c =
    subst (Puts g.K.Sink c.args.sink.now c.put_pieces.new.sink c.put_pieces.result)
    (accepted_pieces c.as_bytes.result.now c.as_bytes-2.result.now c.args.routers c.args.links
    (c.as_bytes.ensures.value ∙ c.format.ensures.text) (c.as_bytes-2.ensures.value ∙ c.format-2.ensures.text))
    c.put_pieces.ensures.puts
