use Rattle.std.proofs.Common.{sym, ap, ◌∙◌}
use Rattle.cut_model.specs.Net.{Net}
use Rattle.cut_model.proofs.Terminals.{terminal_count-all}
use Rattle.cut_model.proofs.network.Network.terminals.Goals as goal

pub returns-clause-value : goal.returns-clause-value
returns-clause-value c = ap (λ (net : Net). net.routers) c.self.view_is ∙ sym (terminal_count-all c.args.self.now)
