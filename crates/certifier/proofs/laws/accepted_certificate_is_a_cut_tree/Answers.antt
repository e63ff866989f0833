use Rattle.certifier.proofs.AcceptedTrees.{accepted_cut_tree}
use Rattle.certifier.proofs.SoundStages.{accepted_told}
use Rattle.certifier.proofs.laws.accepted_certificate_is_a_cut_tree.Goals as goal

pub returns-clause-sheet : goal.returns-clause-sheet
returns-clause-sheet c = λ ended bytes told is. (accepted_told ended bytes told is).sound.sheet

pub returns-clause-tree : goal.returns-clause-tree
returns-clause-tree c = λ ended bytes told is. accepted_cut_tree told (accepted_told ended bytes told is)
