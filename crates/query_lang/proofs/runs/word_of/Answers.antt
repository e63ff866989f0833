use Rattle.query_lang.proofs.Sought.{bit-turned}
use Rattle.query_lang.proofs.runs.word_of.Goals as goal

pub returns-else-inside : goal.returns-else-inside
returns-else-inside c = λ i low.
    rw c.if-inside.false (bit-turned c.word-word.result i _ c.word-word.type_inv low (c.word-word.ensures i low))
