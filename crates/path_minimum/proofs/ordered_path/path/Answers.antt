use Rattle.std.proofs.Common.{◌≡◌, ℕ, ◌++◌, List, length, take, drop, reverse, ◌∙◌, ap, arith}
use Rattle.std.proofs.lemmas.List.{take_at}
use Rattle.tree_state.specs.Views.{up_of}
use Rattle.path_minimum.specs.Paths.{IsOrderedPath}
use Rattle.path_minimum.specs.Walks.{way_between}
use Rattle.path_minimum.proofs.Depths.{tree_in, depth_of-lt}
use Rattle.path_minimum.proofs.Ways.{meeting-above, meeting-turned, length-way_between}
use Rattle.path_minimum.proofs.Orders.{path-ordered, ways-short, length-path, path-within, turned-behind}
use Rattle.path_minimum.proofs.ordered_path.path.Goals as goal

pub push_way-requires-clause-above : goal.push_way-requires-clause-above
push_way-requires-clause-above c =
    let tree = c.args.finished.now.tree in
    meeting-above tree.net (tree_in tree c.meeting_of-meeting.ensures.tree) c.args.a c.args.b
    c.meeting_of-meeting.result c.meeting_of-meeting.ensures.meeting

pub push_way-requires-clause-room : goal.push_way-requires-clause-room
push_way-requires-clause-room c =
    omega (arith, c.clear.ensures.len, depth_of-lt c.args.finished.now.tree c.meeting_of-meeting.ensures.tree c.args.a)

pub push_way-requires-2-clause-above : goal.push_way-requires-2-clause-above
push_way-requires-2-clause-above c =
    let tree = c.args.finished.now.tree in
    meeting-above tree.net (tree_in tree c.meeting_of-meeting.ensures.tree) c.args.b c.args.a
    c.meeting_of-meeting.result
    (meeting-turned tree.net (up_of tree) c.args.a c.args.b c.meeting_of-meeting.result
    c.meeting_of-meeting.ensures.meeting)

pub push_way-requires-2-clause-room : goal.push_way-requires-2-clause-room
push_way-requires-2-clause-room c =
    let tree = c.args.finished.now.tree in
    let m = c.meeting_of-meeting.result in
    let items : c.push_way.new.children.items ≡ way_between tree c.args.a m =
    c.push_way.ensures.way ∙ ap (λ (front : List ℕ). front ++ way_between tree c.args.a m) c.clear.ensures.items in
    omega (
      arith,
      c.push_way.new.children.ok.0,
      ap length items,
      length-way_between tree c.args.a m,
      ways-short tree c.meeting_of-meeting.ensures.tree c.args.a c.args.b m c.meeting_of-meeting.ensures.meeting,
      depth_of-lt tree c.meeting_of-meeting.ensures.tree c.args.b,
    )

pub returns : goal.returns
returns c =
    let tree = c.args.finished.now.tree in
    let m = c.meeting_of-meeting.result in
    let holds = c.meeting_of-meeting.ensures.tree in
    let way = way_between tree c.args.a m in
    let back = way_between tree c.args.b m in
    let front : c.push_way.new.children.items ≡ way_between tree c.args.a m =
    c.push_way.ensures.way ∙ ap (λ (front : List ℕ). front ++ way) c.clear.ensures.items in
    let long : c.len-front.result ≡ length (way_between tree c.args.a m) =
    c.len-front.ensures ∙ c.push_way.new.children.ok.0 ∙ ap length front in
    let both : c.deref_mut.result.now ≡ way_between tree c.args.a m ++ way_between tree c.args.b m =
    c.deref_mut.ensures.value ∙ c.push_way-2.ensures.way ∙ ap (λ (front : List ℕ). front ++ back) front in
    let left : take c.push_way-2.new.children.len
    (c.turn_behind.new.children ++ drop (length c.turn_behind.new.children) c.push_way-2.new.children.items)
    ≡ way_between tree c.args.a m ++ reverse (way_between tree c.args.b m) =
    take_at c.turn_behind.new.children (drop (length c.turn_behind.new.children) c.push_way-2.new.children.items)
    c.push_way-2.new.children.len (c.turn_behind.auto.children ∙ c.deref_mut.ensures.len)
    ∙ c.turn_behind.ensures ∙ (λ i. take (long i) (both i) ++ reverse (drop (long i) (both i)))
    ∙ turned-behind way back in
    let path : IsOrderedPath tree.net (up_of tree) c.args.a c.args.b
    (way_between tree c.args.a m ++ reverse (way_between tree c.args.b m)) =
    path-ordered tree holds c.args.a c.args.b m c.requires.a c.requires.b c.meeting_of-meeting.ensures.meeting in
    rw left (record {
      path = path;
      few = length-path tree holds c.args.a c.args.b m c.meeting_of-meeting.ensures.meeting;
      within = path-within tree.net (up_of tree) c.args.a c.args.b _ path;
    })
