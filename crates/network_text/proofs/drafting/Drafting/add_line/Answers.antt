use Rattle.text_forms.specs.Words.{words_of}
use Rattle.network_text.proofs.Limits.{added-small}
use Rattle.network_text.proofs.drafting.Drafting.add_line.Goals as goal

pub returns-clause-limits : goal.returns-clause-limits
returns-clause-limits c =
    let words = words_of c.without_return.result.now in
    added-small c.args.self.now c.add_words-added.new.self words c.add_words-added.result c.add_words-added.ensures.adds
