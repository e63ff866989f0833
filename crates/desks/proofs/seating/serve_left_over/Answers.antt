use Rattle.std.proofs.Common.{List, suc, [], ◌∷◌, All, ◌≡◌, None, length}
use Rattle.std.proofs.Common.{refl, sym, ap, ◌∙◌, arith, subst, length-append}
use Rattle.std.specs.Vec.Iter.{into_iter_items}
use Rattle.desks.specs.Desks.{Queue, ServesFront}
use Rattle.desks.specs.Doors.{door_view}
use Rattle.desks.specs.declared.seating.DoorsEnd.{DoorsEnd}
use Rattle.desks.proofs.Desking.{Turn, front-more, front-none}
use Rattle.session.specs.Shelved.{shelved}
use Rattle.desks.proofs.seating.serve_left_over.Goals as goal

pub loop-number-init : goal.loop-number-init
loop-number-init g c =
    let view = door_view g.D.Door g.D.Client.Source g.D.Client.Sink in
    let shelf = shelved g.H.Shelf c.args.kit.now.shelf in
    let queue : Queue g.row.D.Denot =
    record { waiting = into_iter_items c.args.waiting.now; doors = c.args.doors.now.items } in (
      subst (λ (end : DoorsEnd). ServesFront view c.args.means.now.quota 0 shelf shelf queue queue end)
          (sym c.none-all.ensures) (front-none view c.args.means.now.quota shelf queue),
      c.requires.nobody,
      omega arith,
      omega (arith, ap (λ (end : DoorsEnd). end.clients) c.none-all.ensures),
      omega arith,
      refl,
    )

-- nobody is out of the door that comes first
pub serve_door-end-requires-clause-nobody : goal.serve_door-end-requires-clause-nobody
serve_door-end-requires-clause-nobody g c κs outlives =
    let all = subst (λ doors. All (λ door. g.D.Door.out door ≡ None) doors) c.in-Some.ensures.items
    c.loop-number.invariant.1 in
    all 0 c.in-Some.door (omega arith)

pub loop-number-preserved : goal.loop-number-preserved
loop-number-preserved g c =
    let view = door_view g.D.Door g.D.Client.Source g.D.Client.Sink in
    let loop = c.loop-number.invariant in
    let turn : Turn g.row.D.Denot = record {
      mid = shelved g.H.Shelf c.loop-number.kit.shelf;
      now = shelved g.H.Shelf c.serve_door-end.new.shelf;
      door = c.in-Some.door;
      left = c.serve_door-end.new.door;
      rest = into_iter_items c.next.new.self;
      doors = c.loop-number.doors.items;
      end = c.serve_door-end.result;
    } in
    let before = subst (λ (waiting : List g.row.D.Denot). ServesFront view c.args.means.now.quota c.loop-number._number
    (shelved g.H.Shelf c.args.kit.now.shelf) turn.mid
    (record { waiting = into_iter_items c.args.waiting.now; doors = c.args.doors.now.items })
    (record { waiting = waiting; doors = turn.doors }) c.loop-number.all) c.in-Some.ensures.items loop.0 in
    let all = subst (λ doors. All (λ door. g.D.Door.out door ≡ None) doors) c.in-Some.ensures.items loop.1 in (
      rw (c.push_reserved.ensures.items, c.and-all.ensures, c.of.ensures.end)
          (front-more view turn before c.serve_door-end.ensures),
      λ k d low. all (suc k) d (omega (arith, low)),
      omega (arith, loop.2, c.next.ensures.len, c.in-Some.ensures.len),
      omega (arith, loop.3, ap (λ (end : DoorsEnd). end.clients) c.and-all.ensures, c.of.ensures.few),
      omega (
        arith,
        loop.4,
        ap length c.push_reserved.ensures.items,
        length-append c.loop-number.doors.items (c.serve_door-end.new.door ∷ []),
      ),
      c.push_reserved.ensures.capacity ∙ loop.5,
    )
