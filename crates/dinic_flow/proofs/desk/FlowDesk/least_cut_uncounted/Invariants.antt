use Rattle.dinic_flow.proofs.desk.FlowDesk.least_cut_uncounted.Given as goal

abbrev pub ghosts-least_cut_from : goal.ghosts-least_cut_from
ghosts-least_cut_from a = record { name = a.blank.name; parts = a.blank.parts }
