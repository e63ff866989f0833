use Rattle.std.proofs.Common.{rules, true, ◌≡◌, ◌+◌, ◌∙◌, length, subst, ap}
use Rattle.std.specs.Arc.{arc_value}
use Rattle.tree_versions.specs.Shelves.{IsPublishedAt}
use Rattle.tree_versions.specs.Solo.{SoloView, views_of}
use Rattle.tree_versions.proofs.Views.{published_at-push, one_more}
use Rattle.tree_versions.proofs.solo.SoloShelfShelf.publish.Goals as goal

pub returns-clause-published : goal.returns-clause-published
returns-clause-published c =
    let records = c.self.inside.records.items in
    let seen : views_of records ≡ c.args.self.now.records = ap (λ (v : SoloView). v.records) c.self.view_is in
    let now = c.push_reserved.new.self.items in
    let size : c.len-2.result ≡ length now = search rules in
    let pushed = c.push_reserved.ensures.items in (
      subst (λ old. IsPublishedAt true old (views_of now) (arc_value c.args.new) c.len-2.result) seen
          (published_at-push records now c.args.new c.len-2.result pushed size),
      one_more _ _ c.args.new pushed ∙ ap (λ old. length old + 1) seen,
    )
