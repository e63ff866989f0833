use Rattle.std.proofs.Common.{◌≤◌, ◌-◌, ◌∙◌, ap, arith, codes, subst, sym}
use Rattle.certifier.specs.Blocks.{Fits, certificate_layout, layout_size}
use Rattle.network_text.specs.Sheets.{IsSheet, SheetView}
use Rattle.query_lang.specs.Replies.{head_text}
use Rattle.session.proofs.Running.{behind_tells, certificate_lays, certificate_runs_in, fits_of, head_tells}
use Rattle.session.proofs.Running.{within_of}
use Rattle.session.proofs.Sizes.{certificate_small}
use Rattle.session.proofs.runs.run_certificate.Goals as goal
use Rattle.tree_state.specs.Views.{TreeView}

pub returns-then-from-eq0 : goal.returns-then-from-eq0
returns-then-from-eq0 c =
    let made = c.args.made.now in
    let asked = c.args.asked.now in
    let count = c.certificate_line_count-count.ensures
    ∙ ap (λ (s : SheetView). layout_size s.net (certificate_layout s)) c.sheet-then-from-eq0.ensures in
    head_tells made asked (certificate_lays made asked c.requires.is) c.args.from c.run_head.new.run.rest
    (record { left = c.run_head.result.left; place = c.run_head.result.place; carry = c.args.rooms.now.flows })
    (omega (arith, c.if-from-eq0.true)) (record {
      is = c.run_head.ensures.run ∙ ap (head_text asked.version (codes "CERTIFICATE")) count;
      all = c.run_head.ensures.left ∙ count;
      next = c.run_head.ensures.place;
    })

pub run_lines-reached-requires-clause-within : goal.run_lines-reached-requires-clause-within
run_lines-reached-requires-clause-within c =
    let made = c.args.made.now in
    let asked = c.args.asked.now in
    let layout = certificate_layout made.sheet in
    subst (λ (s : SheetView). c.args.from - 1 ≤ layout_size c.finished.result.now.tree.net (certificate_layout s))
    (sym c.sheet-2.ensures)
    (subst (λ (t : TreeView). c.args.from - 1 ≤ layout_size t.net layout) (sym c.finished.ensures.value)
    (within_of made asked (certificate_lays made asked c.requires.is) c.args.from (omega (arith, c.if-from-eq0.false))
    c.requires.within))

pub run_lines-reached-requires-clause-fits : goal.run_lines-reached-requires-clause-fits
run_lines-reached-requires-clause-fits c =
    let made = c.args.made.now in
    let asked = c.args.asked.now in
    let layout = certificate_layout made.sheet in
    subst (λ (s : SheetView). Fits c.finished.result.now.tree (certificate_layout s) (c.args.from - 1)
    c.args.rooms.now.flows) (sym c.sheet-2.ensures)
    (subst (λ (t : TreeView). Fits t layout (c.args.from - 1) c.args.rooms.now.flows) (sym c.finished.ensures.value)
    (fits_of made asked (certificate_lays made asked c.requires.is) c.args.from c.args.rooms.now.flows
    (omega (arith, c.if-from-eq0.false)) c.requires.fits))

pub overflow_add-result : goal.overflow_add-result
overflow_add-result c =
    let made = c.args.made.now in
    let is = subst (λ (s : SheetView). IsSheet s.names s.net) c.sheet.ensures c.net.ensures.sheet in
    let small = certificate_small made.sheet is in
    let size = ap (λ (s : SheetView). layout_size c.finished.result.now.tree.net (certificate_layout s))
    c.sheet-2.ensures
    ∙ ap (λ (t : TreeView). layout_size t.net (certificate_layout made.sheet)) c.finished.ensures.value in
    omega (arith, small, size, c.run_lines-reached.ensures.places)

pub returns : goal.returns
returns c =
    let made = c.args.made.now in
    let asked = c.args.asked.now in
    behind_tells made asked (certificate_lays made asked c.requires.is) c.args.from c.args.rooms.now.flows
    c.run_lines-reached.new.run.rest
    (record {
      left = c.run_lines-reached.result.left;
      place = c.run_lines-reached.result.place;
      carry = c.run_lines-reached.new.lines.room.now;
    }) (
      omega (arith, c.if-from-eq0.false),
      certificate_runs_in made c.sheet-2.ensures c.finished.ensures.value (record {
        leads = c.run_lines-reached.ensures.leads;
        places = c.run_lines-reached.ensures.places;
        some = c.run_lines-reached.ensures.some;
        fits = c.run_lines-reached.ensures.fits;
      }),
    )
