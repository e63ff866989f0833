use Rattle.std.proofs.Common.{◌≡◌, ◌≤◌, ◌∙◌, Some, ap, length, subst, sym}
use Rattle.tree_versions.proofs.Views.{read_at}
use Rattle.tree_versions.proofs.seat.Seat.record_at.Goals as goal
use Rattle.tree_versions.specs.Boards.{SeatView}
use Rattle.tree_versions.specs.Records.{record_at}
use Rattle.tree_versions.specs.Solo.{views_of}

pub returns : goal.returns
returns g c =
    let version = c.args.version in
    let records = c.self.inside.records.items in
    let seen : views_of records ≡ c.args.self.now.seen =
    c.self.invariant.0 ∙ ap (λ (v : SeatView). v.seen) c.self.view_is in
    let last : version ≤ length (views_of records) = subst (λ v. version ≤ length v) (sym seen) c.requires.last in
    ap Some c.deref.ensures ∙ read_at records version c.index.result.now c.requires.first last c.index.ensures
    ∙ ap (λ v. record_at v version) seen
