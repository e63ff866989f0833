use Rattle.std.proofs.Common.{◌≤◌, ◌-◌, ◌∙◌, All, ap, arith, codes, length, subst, sym}
use Rattle.certifier.specs.Blocks.{Fits, layout_size, witness_layout}
use Rattle.certifier.specs.Lines.{IsLowerEnd}
use Rattle.network_text.specs.Sheets.{SheetView}
use Rattle.query_lang.specs.Replies.{head_text}
use Rattle.session.proofs.LowerEnds.{path_lower}
use Rattle.session.proofs.Running.{behind_tells, fits_of, found_path, head_tells, runs_in, within_of, witness_lays}
use Rattle.session.proofs.runs.run_witness.Goals as goal
use Rattle.tree_state.specs.Views.{TreeView}
use Rattle.tree_versions.specs.Records.{tree_of}

pub returns-then-from-eq0 : goal.returns-then-from-eq0
returns-then-from-eq0 c =
    let made = c.args.made.now in
    let asked = c.args.asked.now in
    let ends = c.args.ends in
    let children = c.children-children.result.now in
    let path = found_path made ends.0 ends.1 c.finished.ensures.value
    (_, c.path.ensures.path, c.children-children.ensures) in
    let h = witness_lays made asked ends.0 ends.1 children c.requires.is path in
    let count = c.witness_line_count-count.ensures
    ∙ ap (λ (s : SheetView). layout_size s.net (witness_layout children)) c.sheet-then-from-eq0.ensures in
    head_tells made asked h c.args.from c.run_head.new.run.rest
    (record { left = c.run_head.result.left; place = c.run_head.result.place; carry = c.args.rooms.now.flows })
    (omega (arith, c.if-from-eq0.true)) (record {
      is = c.run_head.ensures.run ∙ ap (head_text asked.version (codes "WITNESS")) count;
      all = c.run_head.ensures.left ∙ count;
      next = c.run_head.ensures.place;
    })

pub invariant_of-lines : goal.invariant_of-lines
invariant_of-lines c =
    let made = c.args.made.now in
    let ends = c.args.ends in
    let children = c.children-children.result.now in
    let path = found_path made ends.0 ends.1 c.finished.ensures.value
    (_, c.path.ensures.path, c.children-children.ensures) in
    let routers = c.net.ensures.sheet.limits.few_routers in
    let same = ap (λ (s : SheetView). s.net.routers) c.sheet.ensures in
    let tree = ap (λ (t : TreeView). t.net.routers) c.finished.ensures.value in record {
      same = ap (λ (t : TreeView). t.net) c.finished-2.ensures.value
          ∙ ap (λ (s : SheetView). s.net) (sym c.sheet-2.ensures);
      lower = subst (λ (s : SheetView). All (IsLowerEnd s.net) children) (sym c.sheet-2.ensures)
          (path_lower (tree_of made) c.finished.ensures.tree ends.0 ends.1 children c.requires.of.1 c.requires.of.2
          path);
      few = omega (arith, ap length c.children-children.ensures, c.path.ensures.few, tree, same, routers);
    }

pub run_lines-reached-requires-clause-within : goal.run_lines-reached-requires-clause-within
run_lines-reached-requires-clause-within c =
    let made = c.args.made.now in
    let asked = c.args.asked.now in
    let ends = c.args.ends in
    let children = c.children-children.result.now in
    let path = found_path made ends.0 ends.1 c.finished.ensures.value
    (_, c.path.ensures.path, c.children-children.ensures) in
    let h = witness_lays made asked ends.0 ends.1 children c.requires.is path in
    subst (λ (t : TreeView). c.args.from - 1 ≤ layout_size t.net (witness_layout children))
    (sym c.finished-2.ensures.value)
    (within_of made asked h c.args.from (omega (arith, c.if-from-eq0.false)) c.requires.within)

pub run_lines-reached-requires-clause-fits : goal.run_lines-reached-requires-clause-fits
run_lines-reached-requires-clause-fits c =
    let made = c.args.made.now in
    let asked = c.args.asked.now in
    let ends = c.args.ends in
    let children = c.children-children.result.now in
    let path = found_path made ends.0 ends.1 c.finished.ensures.value
    (_, c.path.ensures.path, c.children-children.ensures) in
    let h = witness_lays made asked ends.0 ends.1 children c.requires.is path in
    subst (λ (t : TreeView). Fits t (witness_layout children) (c.args.from - 1) c.args.rooms.now.flows)
    (sym c.finished-2.ensures.value)
    (fits_of made asked h c.args.from c.args.rooms.now.flows (omega (arith, c.if-from-eq0.false)) c.requires.fits)

pub returns : goal.returns
returns c =
    let made = c.args.made.now in
    let asked = c.args.asked.now in
    let ends = c.args.ends in
    let children = c.children-children.result.now in
    let path = found_path made ends.0 ends.1 c.finished.ensures.value
    (_, c.path.ensures.path, c.children-children.ensures) in
    let h = witness_lays made asked ends.0 ends.1 children c.requires.is path in
    behind_tells made asked h c.args.from c.args.rooms.now.flows c.run_lines-reached.new.run.rest
    (record {
      left = c.run_lines-reached.result.left;
      place = c.run_lines-reached.result.place;
      carry = c.run_lines-reached.new.lines.room.now;
    }) (
      omega (arith, c.if-from-eq0.false),
      runs_in made c.sheet-2.ensures c.finished-2.ensures.value (record {
        leads = c.run_lines-reached.ensures.leads;
        places = c.run_lines-reached.ensures.places;
        some = c.run_lines-reached.ensures.some;
        fits = c.run_lines-reached.ensures.fits;
      }),
    )
