use Rattle.std.proofs.Common.{◌≡◌, ◌-◌, ℕ, refl, ap, ◌∙◌, arith}
use Rattle.cut_model.specs.Net.{Net}
use Rattle.made_networks.specs.Summaries.{sum_from_first}
use Rattle.made_networks.proofs.Pairs.{sum_from_first-more}
use Rattle.made_networks.proofs.summary.sum_values.Goals as goal

pub loop-router-init : goal.loop-router-init
unfolding sum_from_first
loop-router-init c = record { so_far = refl; most = omega arith }

pub loop-router-preserved : goal.loop-router-preserved
loop-router-preserved c =
    let more = sum_from_first-more c.args.finished.now.tree.net c.loop-router.router (omega arith) in
    record {
      so_far = omega (arith, more, c.loop-router.invariant.so_far, c.value_from_first-sum.ensures.value);
      most = omega (arith, c.loop-router.invariant.most, c.value_from_first-sum.ensures.most);
    }

pub returns : goal.returns
returns c =
    let net = c.args.finished.now.tree.net in
    let routers : c.routers-router-end.result ≡ net.routers =
    c.routers-router-end.ensures.value ∙ ap (λ (net : Net). net.routers) (c.deref.ensures ∙ c.net.ensures.value) in
    let end : c.loop-router.router ≡ net.routers = omega arith in
    c.loop-router.invariant.so_far ∙ ap (λ (n : ℕ). sum_from_first net (n - 1)) end
