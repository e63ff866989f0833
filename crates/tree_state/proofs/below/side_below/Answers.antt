use Rattle.std.proofs.Common.{◌≡◌, ◌∙◌, ap}
use Rattle.cut_model.specs.Net.{Net}
use Rattle.tree_state.specs.Below.{IsDecidedFor}
use Rattle.tree_state.proofs.Decided.{marked_start, decided_start, decided_shows}
use Rattle.tree_state.proofs.below.side_below.Goals as goal

pub decide_all-requires-clause-marked : goal.decide_all-requires-clause-marked
decide_all-requires-clause-marked c =
    let routers : c.routers-routers.result ≡ c.args.finished.now.tree.net.routers =
    c.routers-routers.ensures.value ∙ ap (λ (net : Net). net.routers) (c.deref.ensures ∙ c.net.ensures.value) in
    rw (
      c.put.ensures,
      c.decide.ensures.decided,
      c.decide.ensures.inside,
      c.empty-decided.ensures,
      c.empty-inside.ensures,
      routers,
      c.root.ensures.value,
    )
    (marked_start c.args.finished.now.tree c.net.ensures.tree c.args.child)

pub returns : goal.returns
returns c =
    let routers : c.routers-routers.result ≡ c.args.finished.now.tree.net.routers =
    c.routers-routers.ensures.value ∙ ap (λ (net : Net). net.routers) (c.deref.ensures ∙ c.net.ensures.value) in
    let start : IsDecidedFor c.args.finished.now.tree c.args.child c.put.new.self c.decide.new.inside =
    rw (
      c.put.ensures,
      c.decide.ensures.decided,
      c.decide.ensures.inside,
      c.empty-decided.ensures,
      c.empty-inside.ensures,
      routers,
      c.root.ensures.value,
    )
    (decided_start c.args.finished.now.tree c.net.ensures.tree c.args.child c.requires) in
    decided_shows c.args.finished.now.tree c.args.child c.decide_all.new.decided c.decide_all.new.inside
    c.decide_all.ensures.marked (c.decide_all.ensures.decided c.args.child start) c.decide_all.ensures.all
