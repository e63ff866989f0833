use Rattle.std.proofs.Common.{All, List, ◌≡◌, ◌∙◌, ◌++◌, ◌-◌, None, ap, arith, length, map, subst, sym}
use Rattle.std.proofs.lemmas.Bool.{false≢true}
use Rattle.std.proofs.lemmas.List.{length-map}
use Rattle.std.specs.Vec.Iter.{into_iter_items}
use Rattle.desks.specs.Desks.{ServesFront}
use Rattle.desks.specs.Doors.{door_view}
use Rattle.desks.specs.declared.desk.Desk.{Desk}
use Rattle.desks.specs.declared.desk.Kit.{Kit}
use Rattle.desks.proofs.Desking.{AllServed, FirstDoors, Sight, all-back, all-front, first-served}
use Rattle.session.specs.Shelved.{shelved}
use Rattle.desks.proofs.seating.serve_taken.Goals as goal

-- nobody is out of the doors at which desks are
pub work_at_doors-requires-clause-nobody : goal.work_at_doors-requires-clause-nobody
work_at_doors-requires-clause-nobody g c κs outlives =
    let all = subst (λ doors. All (λ door. g.D.Door.out door ≡ None) doors)
    (sym c.into_iter-waiting.ensures.rest ∙ c.seat.ensures.doors) c.requires.nobody in
    all-front (λ door. g.D.Door.out door ≡ None) (λ desk. desk.door) c.seat.new.desks.items
    (into_iter_items c.seat.new.waiting) all

-- there is a kit
pub unreachable-requires : goal.unreachable-requires
unreachable-requires g c =
    false≢true (c.in_default.ensures.variant.1 (omega (
      arith,
      c.requires.some,
      ap length c.leave-first.ensures.kits,
      length-map c.work_at_doors.new.desks.items (λ desk. desk.kit),
      c.work_at_doors.ensures.count,
      ap length c.seat.ensures.kits,
      length-map c.seat.new.desks.items (λ desk. desk.kit),
    )))

-- nor of those that still wait
pub serve_left_over-rest-requires-clause-nobody : goal.serve_left_over-rest-requires-clause-nobody
serve_left_over-rest-requires-clause-nobody g c κs outlives =
    let all = subst (λ doors. All (λ door. g.D.Door.out door ≡ None) doors)
    (sym c.into_iter-waiting.ensures.rest ∙ c.seat.ensures.doors) c.requires.nobody in
    all-back (λ door. g.D.Door.out door ≡ None) (λ desk. desk.door) c.seat.new.desks.items
    (into_iter_items c.seat.new.waiting) all

pub returns-clause-first : goal.returns-clause-first
returns-clause-first g c =
    let see = door_view g.D.Door g.D.Client.Source g.D.Client.Sink in
    let sight : Sight (Desk g.row.H.Denot g.row.D.Denot) (Kit g.row.H.Denot) g.row.D.Denot = record {
      kit_of = λ desk. desk.kit;
      door_of = λ desk. desk.door;
      end_at = λ desk. desk.end;
      shelf_in = λ kit. shelved g.H.Shelf kit.shelf;
      see = see;
    } in
    let rest = c.serve_left_over-rest in
    let first : FirstDoors (Desk g.row.H.Denot g.row.D.Denot) (Kit g.row.H.Denot) g.row.D.Denot = record {
      kits = c.args.kits.items;
      front = c.pop.new.self.items;
      before = c.in-Some.last;
      last = rest.new.kit;
      taken = c.args.taken.items;
      left = into_iter_items c.seat.new.waiting;
      olds = c.seat.new.desks.items;
      news = c.work_at_doors.new.desks.items;
      after = record { waiting = into_iter_items rest.new.waiting; doors = rest.new.doors.items };
      end = rest.result;
    } in
    let doors_are : c.leave-first.new.doors.items ≡ map (λ desk. desk.door) first.news =
    c.leave-first.ensures.doors
    ∙ ap (λ doors. doors ++ map (λ desk. desk.door) c.work_at_doors.new.desks.items) c.requires.none in
    let all : AllServed sight c.args.means.now.quota c.args.count first = record {
      rest = c.args.count - c.len-seats.result;
      seated = sym c.into_iter-waiting.ensures.rest ∙ c.seat.ensures.doors;
      kits_are = c.seat.ensures.kits;
      size = c.work_at_doors.ensures.count;
      each = c.work_at_doors.ensures.each;
      popped = sym c.leave-first.ensures.kits ∙ c.in-Some.ensures.items;
      over = subst (λ (doors : List g.row.D.Denot). ServesFront see c.args.means.now.quota
          (c.args.count - c.len-seats.result) (sight.shelf_in first.before) (sight.shelf_in first.last)
          (record { waiting = first.left; doors = doors }) first.after first.end) doors_are rest.ensures.serves;
      fit = omega (arith, c.requires.seats, c.len-seats.ensures);
    } in
    rw (c.push_reserved.ensures.items, c.put_behind.ensures.doors, c.and.ensures, c.leave-first.ensures.end)
    (first-served sight c.args.means.now.quota c.args.count first all)
