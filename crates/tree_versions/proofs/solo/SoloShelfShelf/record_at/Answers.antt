use Rattle.std.proofs.Common.{◌≡◌, ◌∙◌, ap, subst, sym, length, Some, ◌≤◌}
use Rattle.tree_versions.specs.Records.{record_at}
use Rattle.tree_versions.specs.Solo.{SoloView, views_of}
use Rattle.tree_versions.proofs.Views.{read_at}
use Rattle.tree_versions.proofs.solo.SoloShelfShelf.record_at.Goals as goal

pub returns : goal.returns
returns c =
    let version = c.args.version in
    let records = c.self.inside.records.items in
    let seen : views_of records ≡ c.args.self.now.records = ap (λ (v : SoloView). v.records) c.self.view_is in
    let last : version ≤ length (views_of records) = subst (λ v. version ≤ length v) (sym seen) c.requires.last in
    ap Some c.deref.ensures ∙ read_at records version c.index.result.now c.requires.first last c.index.ensures
    ∙ ap (λ v. record_at v version) seen
