use Rattle.std.specs.Arc.{arc_value}
use Rattle.worker_gate.proofs.build.build_tree.Given as goal

abbrev pub ghosts-build_with-L-Crew : goal.ghosts-build_with-L-Crew
ghosts-build_with-L-Crew g a = record { all = a.blank.parts; net = arc_value a.net.now }

abbrev pub ghosts-build_with-L-Ledger : goal.ghosts-build_with-L-Ledger
ghosts-build_with-L-Ledger g a = record { name = a.blank.name; parts = a.blank.parts }
