use Rattle.std.proofs.Common.{sym, subst, ap}
use Rattle.path_minimum.specs.Ladders.{IsWeakestCutOf, LadderView}
use Rattle.path_minimum.proofs.Weakest.{found-all, found-none, found-least}
use Rattle.path_minimum.proofs.ladder.Ladder.weakest.Goals as goal

pub returns-clause-none : goal.returns-clause-none
returns-clause-none c =
    let tree = c.args.finished.now.tree in
    let kept : IsWeakestCutOf tree c.self.inside.weakest =
    subst (IsWeakestCutOf tree) (sym (ap (λ (view : LadderView). view.weakest) c.self.view_is)) c.requires.weakest_is in
    found-none tree c.self.inside.weakest kept

pub returns-clause-edge : goal.returns-clause-edge
returns-clause-edge c =
    let tree = c.args.finished.now.tree in
    let kept : IsWeakestCutOf tree c.self.inside.weakest =
    subst (IsWeakestCutOf tree) (sym (ap (λ (view : LadderView). view.weakest) c.self.view_is)) c.requires.weakest_is in
    found-all tree c.self.inside.weakest kept _ (λ cut is. is.weakest)

pub returns-clause-width : goal.returns-clause-width
returns-clause-width c =
    let tree = c.args.finished.now.tree in
    let kept : IsWeakestCutOf tree c.self.inside.weakest =
    subst (IsWeakestCutOf tree) (sym (ap (λ (view : LadderView). view.weakest) c.self.view_is)) c.requires.weakest_is in
    found-all tree c.self.inside.weakest kept _ (λ cut is. is.width)

pub returns-clause-least : goal.returns-clause-least
returns-clause-least c =
    let tree = c.args.finished.now.tree in
    let kept : IsWeakestCutOf tree c.self.inside.weakest =
    subst (IsWeakestCutOf tree) (sym (ap (λ (view : LadderView). view.weakest) c.self.view_is)) c.requires.weakest_is in
    found-all tree c.self.inside.weakest kept _ (λ cut is. found-least tree c.net.ensures.tree cut is)

pub returns-clause-within : goal.returns-clause-within
returns-clause-within c =
    let tree = c.args.finished.now.tree in
    let kept : IsWeakestCutOf tree c.self.inside.weakest =
    subst (IsWeakestCutOf tree) (sym (ap (λ (view : LadderView). view.weakest) c.self.view_is)) c.requires.weakest_is in
    found-all tree c.self.inside.weakest kept _ (λ cut is. is.within)

pub returns-clause-side : goal.returns-clause-side
returns-clause-side c =
    let tree = c.args.finished.now.tree in
    let kept : IsWeakestCutOf tree c.self.inside.weakest =
    subst (IsWeakestCutOf tree) (sym (ap (λ (view : LadderView). view.weakest) c.self.view_is)) c.requires.weakest_is in
    found-all tree c.self.inside.weakest kept _ (λ cut is. is.side_is)
