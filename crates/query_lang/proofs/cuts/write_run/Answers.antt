use Rattle.std.proofs.Common.{◌∙◌}
use Rattle.std.proofs.lemmas.List.{append-nil}
use Rattle.wires.proofs.Puts.{puts_same}
use Rattle.query_lang.proofs.cuts.write_run.Goals as goal

pub returns : goal.returns
returns g c =
    let names = c.names_between in
    record { puts = puts_same (append-nil names.result.now ∙ names.ensures.value) c.put_pieces.ensures.puts }
