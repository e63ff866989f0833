use Rattle.std.proofs.Common.{◌∙◌}
use Rattle.network_text.proofs.Adding.{inserted-few, placed}
use Rattle.network_text.proofs.drafting.number_in.Goals as goal

pub returns-clause-number : goal.returns-clause-number
returns-clause-number c =
    placed c.args.names.now.keys c.insert_full.new.self.keys c.args.name c.in_ok-number.number
    c.in_ok-number.ensures.keys c.in_ok-number.ensures.index

pub returns-clause-few : goal.returns-clause-few
returns-clause-few c =
    inserted-few c.args.names.now.keys c.insert_full.new.self.keys c.args.name c.in_ok-number.ensures.keys
    c.requires.few (λ full. c.if-len.false (c.len.ensures.len ∙ full))
