use Rattle.cut_model.proofs.Terminals.{terminal-lt}
use Rattle.commit_rule.proofs.settling.note_moved.Goals as goal

pub neighbour-requires : goal.neighbour-requires
neighbour-requires c = terminal-lt c.args.grow.now.net c.args.s c.requires.terminal

pub last_read-requires : goal.last_read-requires
last_read-requires c = terminal-lt c.args.grow.now.net c.args.s c.requires.terminal
