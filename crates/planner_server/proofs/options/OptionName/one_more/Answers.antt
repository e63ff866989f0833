use Rattle.std.proofs.Common.{sym, ◌∙◌, ap}
use Rattle.planner_server.specs.Options.{number_given}
use Rattle.planner_server.proofs.Reading.{given_in-first, given_in-further, given_in-other}
use Rattle.planner_server.proofs.options.OptionName.one_more.Goals as goal
use Rattle.text_forms.specs.Numbers.{number_in}

pub returns-in-None : goal.returns-in-None
returns-in-None c = λ earlier is. is ∙ sym (given_in-other c.args.self earlier c.args.word.now c.in-None.ensures)

pub returns-in-Missing : goal.returns-in-Missing
returns-in-Missing c = λ earlier is.
    c.number.ensures ∙ ap (λ text. number_given c.args.self (number_in text)) c.in-Some.ensures.1
    ∙ sym (given_in-first c.args.self earlier c.args.word.now c.in-Some.ensures.0 (sym is ∙ c.in-Missing.is))

pub returns-in_default : goal.returns-in_default
returns-in_default c = λ earlier is.
    sym (given_in-further c.args.self earlier c.args.word.now c.in-Some.ensures.0
    (λ missing. c.in_default.not-Missing (is ∙ missing)))
