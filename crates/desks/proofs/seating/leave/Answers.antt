use Rattle.std.proofs.Common.{◌∙◌, [], ◌∷◌, ◌++◌, ap, append_assoc, arith, length-append, sym}
use Rattle.std.proofs.lemmas.List.{map-append}
use Rattle.std.specs.Vec.Iter.{into_iter_items}
use Rattle.desks.specs.Doors.{both, end_of}
use Rattle.desks.specs.declared.seating.DoorsEnd.{DoorsEnd}
use Rattle.desks.proofs.Desking.{all-last}
use Rattle.desks.proofs.seating.leave.Goals as goal

pub loop-desk-preserved : goal.loop-desk-preserved
loop-desk-preserved g c =
    let before = c.loop-desk.yielded in
    let desk = c.in-Some.desk in
    let loop = c.loop-desk.invariant in (
      append_assoc before (desk ∷ []) (into_iter_items c.next.new.self)
          ∙ ap (λ rest. before ++ rest) (sym c.in-Some.ensures.steps.0) ∙ loop.0,
      c.push_reserved.ensures.items ∙ ap (λ doors. doors ++ desk.door ∷ []) loop.1
          ∙ append_assoc c.args.doors.now.items _ (desk.door ∷ [])
          ∙ ap (λ doors. c.args.doors.now.items ++ doors) (sym (map-append (λ d. d.door) before (desk ∷ []))),
      c.push_reserved-in-loop-desk.ensures.items ∙ ap (λ kits. kits ++ desk.kit ∷ []) loop.2
          ∙ sym (map-append (λ d. d.kit) before (desk ∷ [])),
      c.and-all.ensures ∙ ap (both c.loop-desk.all) c.of.ensures.end
          ∙ ap (λ (end : DoorsEnd). both end (end_of desk.end)) loop.3 ∙ all-last (λ d. d.end) before desk,
      omega (
        arith,
        loop.4,
        ap (λ (end : DoorsEnd). end.clients) c.and-all.ensures,
        c.of.ensures.few,
        length-append before (desk ∷ []),
      ),
      c.push_reserved.ensures.capacity ∙ loop.5,
      c.push_reserved-in-loop-desk.ensures.capacity ∙ loop.6,
    )
