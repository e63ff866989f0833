use Rattle.std.proofs.Common.{◌≡◌, ◌≤◌, List, arith, length, refl, rules}
use Rattle.std.proofs.lemmas.Option.{slice_get_read}
use Rattle.std.specs.declared.alloc.Global.{Global}
use Rattle.std.specs.declared.sync.Arc.{Arc}
use Rattle.tree_versions.proofs.Taking.{taken_one, untaken}
use Rattle.tree_versions.proofs.note.take_rest.Goals as goal
use Rattle.tree_versions.specs.Records.{RecordView}

pub returns-in-Err-clause-taken : goal.returns-in-Err-clause-taken
returns-in-Err-clause-taken c =
    let kept : List (Arc RecordView Global) = c.args.kept.now.items in
    let place = c.loop-place.place in
    let had : c.len-had.result ≡ length kept = search rules in
    let le : length kept ≤ place = search rules in
    rw (c.truncate.ensures.items, had)
    (untaken kept c.loop-place.kept.items _ place c.requires.grows le c.loop-place.invariant.0)

pub loop-place-preserved : goal.loop-place-preserved
loop-place-preserved c =
    let list : List (Arc RecordView Global) = c.args.list.now in
    let place = c.loop-place.place in
    let kept : List (Arc RecordView Global) = c.loop-place.kept.items in
    let now : List (Arc RecordView Global) = c.push_reserved.new.self.items in
    let there = c.index-list-place.result in
    let at = slice_get_read list (length list) place there refl (omega arith) c.index-list-place.is in (
      taken_one kept now list place there c.in-Ok.more at (search rules) c.loop-place.invariant.0
          c.push_reserved.ensures.items,
      search rules,
    )
