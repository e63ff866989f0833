use Rattle.std.proofs.Common.{◌∙◌, map, sym, subst}
use Rattle.std.specs.String.{string_bytes}
use Rattle.planner_server.proofs.Ranges.{AsksWithin, command_within}
use Rattle.planner_server.proofs.planner.run.Goals as goal

-- what the words ask for is within the limits
pub plan-requires-clause-some : goal.plan-requires-clause-some
plan-requires-clause-some g c κs within =
    let plan = c.in-Some-Plan in
    let words = map string_bytes c.args.words.now in
    (subst AsksWithin plan.field-0-is (command_within words plan.field-0 (sym c.read_command.ensures ∙ plan.is))).least

pub plan-requires-clause-most : goal.plan-requires-clause-most
plan-requires-clause-most g c κs within =
    let plan = c.in-Some-Plan in
    let words = map string_bytes c.args.words.now in
    (subst AsksWithin plan.field-0-is (command_within words plan.field-0 (sym c.read_command.ensures ∙ plan.is))).most

pub make-requires-after_bounds : goal.make-requires-after_bounds
make-requires-after_bounds g c κs within =
    let make = c.in-Some-Make in
    let words = map string_bytes c.args.words.now in
    subst AsksWithin make.field-0-is (command_within words make.field-0 (sym c.read_command.ensures ∙ make.is))

pub serve-requires-clause-open : goal.serve-requires-clause-open
serve-requires-clause-open g c κs within =
    let serve = c.in-Some-Serve in
    let words = map string_bytes c.args.words.now in
    subst AsksWithin serve.field-0-is (command_within words serve.field-0 (sym c.read_command.ensures ∙ serve.is))
