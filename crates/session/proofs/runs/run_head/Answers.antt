use Rattle.query_lang.specs.Replies.{head_text}
use Rattle.session.proofs.ShortReplies.{length-head, put_alone, takes_text}
use Rattle.session.proofs.runs.run_head.Goals as goal

pub unwrap-requires : goal.unwrap-requires
unwrap-requires c =
    let text = head_text c.args.version c.args.word.now c.args.lines in
    let short = length-head c.args.version c.args.lines c.args.word.now c.requires.short in
    c.write_head.ensures.puts.sure 0 (takes_text _ _ text c.clear.ensures short)

pub returns-clause-run : goal.returns-clause-run
returns-clause-run c =
    let text = head_text c.args.version c.args.word.now c.args.lines in
    put_alone text c.unwrap.result c.clear.ensures c.unwrap.ensures c.write_head.ensures.puts.bytes
