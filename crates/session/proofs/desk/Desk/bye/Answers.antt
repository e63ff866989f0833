use Rattle.query_lang.proofs.Lengths.{length-bye_text}
use Rattle.query_lang.specs.Replies.{bye_text}
use Rattle.session.proofs.ShortReplies.{put_alone, takes_text}
use Rattle.session.proofs.desk.Desk.bye.Goals as goal

pub unwrap-requires : goal.unwrap-requires
unwrap-requires c =
    let text = bye_text c.args.version in
    c.write_bye.ensures.puts.sure 0 (takes_text _ _ text c.begin.ensures.run (length-bye_text c.args.version))

pub returns-clause-run : goal.returns-clause-run
returns-clause-run c =
    let text = bye_text c.args.version in
    put_alone text c.unwrap.result c.begin.ensures.run c.unwrap.ensures c.write_bye.ensures.puts.bytes
