use Rattle.std.proofs.Common.{◌≡◌, false, refl, sym, ◌∙◌, rules}
use Rattle.cut_model.proofs.Terminals.{terminal-lt}
use Rattle.tree_state.specs.History.{entered}
use Rattle.commit_rule.proofs.tickets.begin.Goals as goal

pub is_done-requires : goal.is_done-requires
is_done-requires c = terminal-lt c.args.grow.now.net c.args.s c.requires.terminal

pub neighbour-neighbour-requires : goal.neighbour-neighbour-requires
neighbour-neighbour-requires c = terminal-lt c.args.grow.now.net c.args.s c.requires.terminal

pub note_read-requires : goal.note_read-requires
note_read-requires c = terminal-lt c.args.grow.now.net c.args.s c.requires.terminal

pub returns-clause-answer : goal.returns-clause-answer
returns-clause-answer c =
    let fresh : entered c.args.grow.now.history c.args.s ≡ false = sym c.is_done.ensures ∙ c.if-is_done.false in
    record {
      fresh = fresh;
      router = refl;
      neighbour = c.neighbour-neighbour.ensures.value;
      differ = c.neighbour-neighbour.ensures.other fresh c.requires.not_root;
      router_in = terminal-lt c.args.grow.now.net c.args.s c.requires.terminal;
      neighbour_in = c.neighbour-neighbour.ensures.within;
      state = search rules;
    }
