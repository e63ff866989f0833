use Rattle.commit_rule.proofs.SixCuts.{cut_of_one, cut_of_two, cut_of_three, cut_of_three_anew, cut_of_four}
use Rattle.commit_rule.proofs.SixCuts.{cut_of_five}
use Rattle.commit_rule.proofs.tests.cut_of.Goals as goal

pub hold-requires-clause-least : goal.hold-requires-clause-least
hold-requires-clause-least c = rw (c.requires, c.side_of.ensures) cut_of_one

pub hold-requires-in-2-eq0-clause-least : goal.hold-requires-in-2-eq0-clause-least
hold-requires-in-2-eq0-clause-least c = rw (c.requires, c.side_of-in-2-eq0.ensures) cut_of_two

pub hold-requires-in-3-eq0-clause-least : goal.hold-requires-in-3-eq0-clause-least
hold-requires-in-3-eq0-clause-least c = rw (c.requires, c.side_of-in-3-eq0.ensures) cut_of_three

pub hold-requires-in-3-eq1-clause-least : goal.hold-requires-in-3-eq1-clause-least
hold-requires-in-3-eq1-clause-least c = rw (c.requires, c.side_of-in-3-eq1.ensures) cut_of_three_anew

pub hold-requires-in-4-eq1-clause-least : goal.hold-requires-in-4-eq1-clause-least
hold-requires-in-4-eq1-clause-least c = rw (c.requires, c.side_of-in-4-eq1.ensures) cut_of_four

pub hold-requires-in-5-eq3-clause-least : goal.hold-requires-in-5-eq3-clause-least
hold-requires-in-5-eq3-clause-least c = rw (c.requires, c.side_of-in-5-eq3.ensures) cut_of_five
