use Rattle.std.proofs.Common.{◌≡◌, ◌<◌, length, take, ap, ◌∙◌, take_all}
use Rattle.cut_model.specs.Net.{Net}
use Rattle.cut_model.specs.declared.network.Link.{Link}
use Rattle.network_text.specs.Writing.{link_text}
use Rattle.network_text.proofs.PutLines.{puts_more, puts_stopped}
use Rattle.network_text.proofs.write.write_links.Goals as goal

-- The link that stands for one past the end.
no_link : Link
no_link = record { a = 0; b = 0; cap = 0 }

pub loop-link-preserved : goal.loop-link-preserved
unfolding no_link
loop-link-preserved g c =
    let links = c.args.sheet.now.net.links in
    let same : c.links-link-items.result.now ≡ links =
    c.links-link-items.ensures.value ∙ ap (λ (net : Net). net.links) (c.deref.ensures ∙ c.net.ensures.value) in
    let within : c.loop-link.link-index < length links = rw same at c.loop-link-test.true in
    let one = rw same at c.in_ok-write_link.ensures.puts in
    puts_more (link_text c.args.sheet.now.names) links c.loop-link.link-index no_link within c.loop-link.invariant one

pub returns : goal.returns
returns g c =
    let links = c.args.sheet.now.net.links in
    let same : c.links-link-items.result.now ≡ links =
    c.links-link-items.ensures.value ∙ ap (λ (net : Net). net.links) (c.deref.ensures ∙ c.net.ensures.value) in
    let whole : take c.loop-link.link-index links ≡ links = take_all _ _ (rw same at c.loop-link-test.false) in
    record { puts = rw whole at c.loop-link.invariant }

pub returns-in_err-write_link : goal.returns-in_err-write_link
unfolding no_link
returns-in_err-write_link g c =
    let links = c.args.sheet.now.net.links in
    let same : c.links-link-items.result.now ≡ links =
    c.links-link-items.ensures.value ∙ ap (λ (net : Net). net.links) (c.deref.ensures ∙ c.net.ensures.value) in
    let within : c.loop-link.link-index < length links = rw same at c.loop-link-test.true in
    let one = rw same at c.in_err-write_link.ensures.puts in
    let end = c.from_residual in
    record {
      puts = puts_stopped (link_text c.args.sheet.now.names) links c.loop-link.link-index no_link within
          c.loop-link.invariant one end.result end.ensures.0;
    }
