use Rattle.std.proofs.Common.{◌≡◌, ◌+◌, ◌-◌, ◌≤◌, min, length, ◌∙◌, arith}
use Rattle.line_reader.proofs.Fronts.{front_add}
use Rattle.text_forms.specs.declared.lines.TheConstants.{MOST_LINE_BYTES}
use Rattle.line_reader.proofs.front.add_to_front.Goals as goal

pub returns-clause-front : goal.returns-clause-front
returns-clause-front c =
    let old = c.args.front.now.items in
    let part = c.args.part.now in
    let count = c.min-count.result in
    let most : length old ≤ MOST_LINE_BYTES + 1 = omega arith in
    let is : count ≡ min (length part) (MOST_LINE_BYTES + 1 - length old) = omega arith in
    (rw c.unwrap.ensures at c.extend_from_slice.ensures.items) ∙ front_add old part count most is
