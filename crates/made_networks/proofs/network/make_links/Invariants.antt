use Rattle.std.proofs.Common.{◌≡◌, ◌*◌}
use Rattle.made_networks.specs.Draws.{draw, made_links}
use Rattle.made_networks.proofs.network.make_links.Given as goal

-- the links so far, by three draws each
abbrev pub invariant-loop-number : goal.invariant-loop-number
invariant-loop-number l = record {
  links : l.links.items ≡ made_links l.seed l.routers l._number;
  draws : l.draws ≡ draw l.seed (3 * l._number);
}
