use Rattle.query_lang.proofs.Lengths.{length-loaded_text}
use Rattle.query_lang.specs.Replies.{loaded_text}
use Rattle.session.proofs.ShortReplies.{put_alone, takes_text}
use Rattle.session.proofs.desk.Desk.loaded.Goals as goal

pub unwrap-requires : goal.unwrap-requires
unwrap-requires c =
    let text = loaded_text c.args.version c.args.net.now in
    let short = length-loaded_text c.args.version c.args.net.now in
    c.write_loaded.ensures.puts.sure 0 (takes_text _ _ text c.begin.ensures.run short)

pub returns-clause-run : goal.returns-clause-run
returns-clause-run c =
    let text = loaded_text c.args.version c.args.net.now in
    put_alone text c.unwrap.result c.begin.ensures.run c.unwrap.ensures c.write_loaded.ensures.puts.bytes
