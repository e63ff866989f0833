use Rattle.std.proofs.Common.{sym, ◌∙◌}
use Rattle.network_text.proofs.Adding.{link_line-with_link}
use Rattle.network_text.proofs.drafting.Drafting.add_link_line.Goals as goal

pub returns : goal.returns
returns c =
    let words = rw c.in_ok-first.ensures.ok_part at c.three_words.ensures in
    let first = rw c.in_ok-first-2.ensures.ok_part at c.from_bytes.ensures.some in
    let second = rw c.in_ok-second.ensures.ok_part at c.from_bytes-2.ensures.some in
    let said = link_line-with_link c.args.self.now _ _ _ _ c.in_ok-cap.cap words first.0 second.0
    (sym c.in_ok-cap.ensures.ok_part ∙ c.parse_number.ensures) in
    rw (said, ← first.1, ← second.1) c.add_link.ensures
