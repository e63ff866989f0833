use Rattle.std.proofs.Common.{◌∙◌, map, sym, subst, arith}
use Rattle.std.specs.String.{string_bytes}
use Rattle.planner_server.proofs.Ranges.{AsksWithin, command_within}
use Rattle.planner_server.proofs.command.door_place.Goals as goal

-- a port that words name fits
pub overflow_cast-result : goal.overflow_cast-result
overflow_cast-result c =
    let serve = c.in-Some-Serve in
    let words = map string_bytes c.args.words.now in
    let limits = subst AsksWithin serve.field-0-is
    (command_within words serve.field-0 (sym c.read_command.ensures ∙ serve.is)) in
    omega (arith, limits.most_port)
