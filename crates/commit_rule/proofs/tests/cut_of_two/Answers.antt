use Rattle.commit_rule.proofs.SixCuts.{cut_of_two_routers}
use Rattle.commit_rule.proofs.tests.cut_of_two.Goals as goal

pub hold-requires-clause-least : goal.hold-requires-clause-least
hold-requires-clause-least c = rw (c.requires, c.put.ensures, c.empty-side.ensures) cut_of_two_routers
