use Rattle.std.proofs.Common.{length, arith, ◌∙◌}
use Rattle.std.proofs.lemmas.Bool.{lt-ltb}
use Rattle.text_forms.proofs.Splitting.{word-to_blank}
use Rattle.text_forms.proofs.words.split_word.Goals as goal

pub returns : goal.returns
returns c =
    let any = lt-ltb 0 (length c.from_first_word-text.result.now)
    (grind (arith, c.is_empty.ensures, c.if-is_empty.false)) in
    let word = word-to_blank c.from_first_word-text.result.now c.unwrap_or-end.result
    (c.from_first_word-text.ensures.at_word ∙ any) (cc (c.unwrap_or-end.ensures, c.first_blank.ensures)) in
    rw (← c.from_first_word-text.ensures.same_words, c.split_at.ensures.front, c.split_at.ensures.back) word
