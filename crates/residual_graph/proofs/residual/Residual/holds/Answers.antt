use Rattle.std.proofs.Common.{take, ap, sym, ◌∙◌}
use Rattle.std.proofs.lemmas.Bool.{eqb-true}
use Rattle.cut_model.specs.Net.{Net}
use Rattle.residual_graph.proofs.Reading.{is_of}
use Rattle.residual_graph.proofs.Stored.{held_is}
use Rattle.residual_graph.proofs.Views.{net_is}
use Rattle.residual_graph.proofs.residual.Residual.holds.Goals as goal

pub returns-then-self-routers : goal.returns-then-self-routers
returns-then-self-routers c =
    let links = take c.self.inside.links c.self.inside.kept.items in
    let held = held_is c.self.inside.routers links c.args.self.now.net c.args.net.now
    (net_is _ c.args.self.now c.self.view_is)
    (c.if-self-routers.true ∙ c.routers.ensures.value) in
    let mine = ap (take c.self.inside.links) c.deref.ensures.value in (
      λ same. held.0 (sym mine ∙ c.is_same.ensures.0 same ∙ c.links.ensures.value),
      λ same. c.is_same.ensures.1 (mine ∙ held.1 same ∙ sym c.links.ensures.value),
    )

pub returns-else-self-routers : goal.returns-else-self-routers
returns-else-self-routers c = (
  λ same. absurd (c.if-self-routers.false (eqb-true _ _ same)),
  λ same. absurd (c.if-self-routers.false (
      (is_of c.self.invariant c.args.self.now c.self.view_is).routers_are
      ∙ ap (λ (n : Net). n.routers) same ∙ sym c.routers.ensures.value)),
)
