use Rattle.std.proofs.Common.{sym}
use Rattle.text_forms.proofs.Splitting.{skipped-Some, skipped-None, skipped_to_word}
use Rattle.text_forms.proofs.words.from_first_word.Goals as goal

pub returns-in-Some-clause-same_words : goal.returns-in-Some-clause-same_words
returns-in-Some-clause-same_words c = skipped-Some c.args.bytes.now _ c.in-Some.ensures

pub returns-in-Some-clause-at_word : goal.returns-in-Some-clause-at_word
returns-in-Some-clause-at_word c = skipped_to_word c.args.bytes.now _ c.in-Some.ensures

pub returns-in-None-clause-same_words : goal.returns-in-None-clause-same_words
returns-in-None-clause-same_words c = sym (skipped-None c.args.bytes.now c.in-None.ensures)
