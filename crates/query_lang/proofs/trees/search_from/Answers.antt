use Rattle.std.proofs.Common.{arith}
use Rattle.query_lang.specs.Trees.{is_child}
use Rattle.query_lang.proofs.Edges.{number_in-zero}
use Rattle.query_lang.proofs.trees.search_from.Goals as goal

pub returns-clause-passed : goal.returns-clause-passed
returns-clause-passed c = record { within = omega arith; edges_are = number_in-zero (is_child c.args.net.now) }
