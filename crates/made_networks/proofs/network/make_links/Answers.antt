use Rattle.std.proofs.Common.{ap, ◌∙◌, sym}
use Rattle.made_networks.specs.Draws.{draw, draw_after_three, made_links}
use Rattle.made_networks.proofs.Drawing.{draw-three, made_links-more}
use Rattle.made_networks.proofs.network.make_links.Goals as goal

pub loop-number-init : goal.loop-number-init
unfolding draw made_links
loop-number-init c = record { links = c.in_ok-links.ensures.items; draws = c.of_seed-draws.ensures }

pub loop-number-preserved : goal.loop-number-preserved
loop-number-preserved c =
    let seed = c.args.seed in
    let number = c.loop-number._number in
    let more = made_links-more seed c.args.routers number in
    let pushed = c.in_ok-push.ensures.items in
    record {
      links = cc;
      draws = c.draw_link.ensures.last ∙ ap draw_after_three c.loop-number.invariant.draws
          ∙ sym (draw-three seed number);
    }
