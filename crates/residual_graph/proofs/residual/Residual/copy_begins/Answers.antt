use Rattle.std.proofs.Common.{◌≡◌, ◌++◌, length, take, drop, get_or, sym, ap, ◌∙◌, arith}
use Rattle.std.proofs.lemmas.List.{get_or_append_left, get_or-take, length-take-le}
use Rattle.std.proofs.lemmas.Slice.{drop-append-drop}
use Rattle.residual_graph.proofs.Reading.{is_of, begin_is}
use Rattle.residual_graph.proofs.residual.Residual.copy_begins.Goals as goal

pub slice_bounds-copy_from_slice-end : goal.slice_bounds-copy_from_slice-end
slice_bounds-copy_from_slice-end c =
    omega (arith, (is_of c.self.invariant c.args.self.now c.self.view_is).routers_are, c.requires)

pub slice_bounds-copy_from_slice-end-2 : goal.slice_bounds-copy_from_slice-end-2
slice_bounds-copy_from_slice-end-2 c =
    let of = is_of c.self.invariant c.args.self.now c.self.view_is in
    sym (length-take-le c.self.inside.routers c.args.cursor.now (omega (arith, of.routers_are, c.requires)))

pub copy_from_slice-requires : goal.copy_from_slice-requires
copy_from_slice-requires c =
    let of = is_of c.self.invariant c.args.self.now c.self.view_is in
    length-take-le c.self.inside.routers c.args.cursor.now (omega (arith, of.routers_are, c.requires))
    ∙ sym (length-take-le c.self.inside.routers c.deref.result.now
    (omega (arith, of.routers_are, of.first_fits, ap length c.deref.ensures.value)))

pub returns-clause-begins : goal.returns-clause-begins
returns-clause-begins c = λ router low.
    let of = is_of c.self.invariant c.args.self.now c.self.view_is in
    let first = c.self.inside.first.items in
    let routers = c.self.inside.routers in
    let fits : length (take c.self.inside.routers c.self.inside.first.items) ≡ c.self.inside.routers =
    length-take-le routers first (omega (arith, of.routers_are, of.first_fits)) in
    let copied = c.copy_from_slice.ensures.after ∙ ap (take routers) c.deref.ensures.value in
    ap (λ xs. get_or (xs ++ drop routers c.args.cursor.now) router 0) copied
    ∙ get_or_append_left (take routers first) (drop routers c.args.cursor.now) 0 router
    (omega (arith, fits, of.routers_are))
    ∙ get_or-take routers first router 0 (omega (arith, of.routers_are))
    ∙ (begin_is of router (omega arith)).is

pub returns-clause-rest : goal.returns-clause-rest
returns-clause-rest c =
    let of = is_of c.self.invariant c.args.self.now c.self.view_is in
    let size = c.copy_from_slice.ensures.len
    ∙ length-take-le c.self.inside.routers c.args.cursor.now (omega (arith, of.routers_are, c.requires)) in
    drop-append-drop c.self.inside.routers c.args.cursor.now c.copy_from_slice.new.self c.args.self.now.net.routers
    (omega (arith, of.routers_are)) size
