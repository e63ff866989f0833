use Rattle.cut_model.proofs.Terminals.{all_terminals}
use Rattle.tree_state.proofs.LeastEdges.{least_edge_cut, path_least_edge}
use Rattle.certifier.specs.Trees.{up_in, width_in}
use Rattle.certifier.proofs.AcceptedTrees.{accepted_cut_tree}
use Rattle.certifier.proofs.SoundStages.{accepted_told}
use Rattle.certifier.proofs.laws.accepted_certificate_tells_least_cuts.Goals as goal

pub returns-clause-some : goal.returns-clause-some
returns-clause-some c = λ ended bytes told is a b a_low b_low apart.
    path_least_edge told.sheet.net told.root (up_in told) (width_in told)
    (accepted_cut_tree told (accepted_told ended bytes told is)) a b (all_terminals told.sheet.net a a_low)
    (all_terminals told.sheet.net b b_low) apart

pub returns-clause-least : goal.returns-clause-least
returns-clause-least c = λ ended bytes told is a b edge a_low b_low least.
    least_edge_cut told.sheet.net told.root (up_in told) (width_in told)
    (accepted_cut_tree told (accepted_told ended bytes told is)) a b edge (all_terminals told.sheet.net a a_low)
    (all_terminals told.sheet.net b b_low) least
