use Rattle.std.proofs.Common.{◌≡◌, ℕ, ◌+◌, ◌^◌, List, [], ◌∷◌, ◌++◌, length, ◌∙◌, ap, arith}
use Rattle.cut_model.specs.Net.{Net}
use Rattle.path_minimum.specs.Jumps.{RungView}
use Rattle.path_minimum.proofs.Jumping.{length-push, pow-twice, rungs-fewest, rungs-push}
use Rattle.path_minimum.proofs.rungs.make_rungs.Goals as goal

pub loop-reach-preserved : goal.loop-reach-preserved
loop-reach-preserved c =
    let tree = c.args.finished.now.tree in
    let rungs = c.loop-reach.rungs.items in
    let rung = c.in_ok-next_rung.field-0 in
    let before = c.loop-reach.invariant in
    let items : c.push.new.self.items ≡ rungs ++ rung ∷ [] = c.in_ok-push.ensures.items in
    let count : length c.push.new.self.items ≡ length rungs + 1 = ap length items ∙ length-push rungs rung in
    let steps : rung.steps ≡ 2 ^ length rungs =
    c.in_ok-next_rung.ensures.steps
    ∙ ap (λ (rs : List RungView). 2 ^ length rs) c.deref-in-loop-reach.ensures.value in
    let routers : c.routers-routers.result ≡ tree.net.routers =
    c.routers-routers.ensures.value ∙ ap (λ (net : Net). net.routers) (c.deref.ensures ∙ c.net.ensures.value) in
    record {
      rungs_are = rw items (rungs-push tree rungs rung before.rungs_are c.in_ok-next_rung.ensures.rung steps);
      reach_is = omega (arith, before.reach_is, pow-twice (length rungs), ap (λ (n : ℕ). 2 ^ n) count);
      fewest = λ levels enough. omega (
        arith,
        count,
        rungs-fewest tree.net.routers (length rungs)
            (omega (arith, before.reach_is, c.loop-reach-test.true, routers)) levels enough,
      );
    }
