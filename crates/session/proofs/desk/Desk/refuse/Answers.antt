use Rattle.query_lang.proofs.Lengths.{length-refused_text}
use Rattle.query_lang.specs.Replies.{refused_text}
use Rattle.session.proofs.ShortReplies.{put_alone, takes_text}
use Rattle.session.proofs.desk.Desk.refuse.Goals as goal

pub unwrap-requires : goal.unwrap-requires
unwrap-requires c =
    let text = refused_text c.args.version c.args.number c.args.line in
    let short = length-refused_text c.args.version c.args.number c.args.line in
    c.write_refusal.ensures.puts.sure 0 (takes_text _ _ text c.begin.ensures.run short)

pub returns-clause-run : goal.returns-clause-run
returns-clause-run c =
    let text = refused_text c.args.version c.args.number c.args.line in
    put_alone text c.unwrap.result c.begin.ensures.run c.unwrap.ensures c.write_refusal.ensures.puts.bytes
