use Rattle.path_minimum.proofs.least_edge.least_on_path_uncounted.Given as goal

abbrev pub ghosts-least_on_path_from : goal.ghosts-least_on_path_from
ghosts-least_on_path_from a = record { name = a.blank.name; parts = a.blank.parts }
