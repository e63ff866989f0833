-- A flow that grows phase by phase: how far t is, and what that cost.
use Rattle.std.proofs.Common.{◌≡◌, ◌≢◌, ℕ, zero, suc, ◌+◌, ◌-◌, ◌*◌, ◌<◌, ◌≤◌, List, get_or}
use Rattle.std.proofs.Common.{◌∙◌, ap, arith, inl, inr, mul-le-mul_left}
use Rattle.std.proofs.lemmas.Bool.{cases_lt}
use Rattle.cut_model.specs.Flow.{IsFlow}
use Rattle.residual_graph.specs.Arcs.{arc_count}
use Rattle.residual_graph.specs.View.{ResidualView, IsSound}
use Rattle.dinic_flow.specs.Levels.{Walk, IsFartherThan}
use Rattle.dinic_flow.specs.Searching.{IsJoined}

-- What the phases up to a distance cost at most, with their searches.
unfoldable pub paid : ℕ → ℕ → ℕ
paid arcs distance = arcs * distance + (arcs + 1) * (distance * (distance + 1))

-- Where a flow is to grow: from s to t, over arcs on which at least so much, the threshold, is left.
pub record Ends : Type 0 where
  pub threshold : ℕ
  pub s : ℕ
  pub t : ℕ

-- The ends with this threshold.
abbrev pub ends_of : ℕ → ℕ → ℕ → Ends
ends_of threshold s t = record { threshold = threshold; s = s; t = t }

-- Where a flow stands between two phases: the residual graph, its value, and the phases and steps by then.
pub record Standing : Type 0 where
  pub view : ResidualView
  pub value : ℕ
  pub phases : ℕ
  pub steps : ℕ

-- From a residual graph and so many steps on so many phases were made, t is farther than a distance, and the
-- steps since are those of the phases up to it.
pub record HasGrown (ends : Ends) (before : ResidualView) (earlier : ℕ) (now : Standing) : Type 0 where
  pub distance : ℕ
  pub same : now.view ≡ record before { flow = now.view.flow }
  pub sound : IsSound now.view
  pub flow : IsFlow now.view.net ends.s ends.t now.view.flow now.value
  pub farther : IsFartherThan now.view ends.threshold ends.s ends.t distance
  pub short : distance < now.view.net.routers
  pub few : now.phases ≤ distance
  pub some : 0 < distance → 0 < arc_count now.view.net
  pub cost : now.steps ≤ earlier + paid (arc_count now.view.net) distance

-- A search that found levels, and one phase over these.
pub record IsRound (ends : Ends) (now next : Standing) : Type 0 where
  pub label : List ℕ
  pub distance : ℕ
  pub searched : ℕ
  pub joined : IsJoined now.view ends.threshold ends.s ends.t label distance
  pub looked : searched ≤ now.steps + arc_count now.view.net
  pub counted : next.phases ≡ now.phases + 1
  pub same : next.view ≡ record now.view { flow = next.view.flow }
  pub sound : IsSound next.view
  pub flow : IsFlow next.view.net ends.s ends.t next.view.flow next.value
  pub farther : IsFartherThan next.view ends.threshold ends.s ends.t (get_or label ends.t 0 - 1)
  pub cost : next.steps ≤ searched + 2 * ((get_or label ends.t 0 - 1) * (arc_count now.view.net + 1))

-- No phase, and nothing paid.
paid-none : (arcs : ℕ) → paid arcs 0 ≡ 0
unfolding paid
paid-none arcs = omega arith

-- At least one arc leads from a router to another.
walk-some : (view : ResidualView) (threshold s t : ℕ) → s ≢ t → (arcs : ℕ) → Walk view threshold arcs s t →
    (0 < arcs) × (0 < arc_count view.net)
walk-some view threshold s t apart zero is = absurd (apart is)
walk-some view threshold s t apart (suc arcs) (w, arc, rest) = (omega arith, omega (arith, arc.within))

-- The phases up to a distance cost no more than those up to a larger one.
pub paid-more : (arcs distance more : ℕ) → distance ≤ more → paid arcs distance ≤ paid arcs more
unfolding paid
paid-more arcs distance more low =
    let first : arcs * distance ≤ arcs * more = mul-le-mul_left arcs low in
    let inner : distance * (distance + 1) ≤ more * (more + 1) = grind arith in
    let second : (arcs + 1) * (distance * (distance + 1)) ≤ (arcs + 1) * (more * (more + 1)) =
    mul-le-mul_left (arcs + 1) inner in
    omega arith

-- A search and a phase at one distance more.
paid-next : (arcs distance : ℕ) →
    paid arcs (distance + 1) ≡ paid arcs distance + arcs + 2 * ((distance + 1) * (arcs + 1))
unfolding paid
paid-next arcs distance = omega arith

-- One phase more, over levels where t is farther than before.
pub grows-on : (ends : Ends) (before : ResidualView) (earlier : ℕ) (now next : Standing) →
    HasGrown ends before earlier now → IsRound ends now next → HasGrown ends before earlier next
grows-on ends before earlier now next old round =
    let view : ResidualView = now.view in
    let after : ResidualView = next.view in
    let net : after.net ≡ view.net = ap (λ (v : ResidualView). v.net) round.same in
    let arcs : ℕ = arc_count view.net in
    let distance : ℕ = round.distance in
    let top : get_or round.label ends.t 0 - 1 ≡ distance = omega (arith, round.joined.end) in
    let later : old.distance < distance = old.farther distance round.joined.walk in
    let last : distance - 1 + 1 ≡ distance = omega arith in
    let less : paid arcs old.distance ≤ paid arcs (distance - 1) =
    paid-more arcs old.distance (distance - 1) (omega arith) in
    let more : paid arcs distance ≡ paid arcs (distance - 1) + arcs + 2 * (distance * (arcs + 1)) =
    rw last at (paid-next arcs (distance - 1)) in
    let paid_now : next.steps ≤ round.searched + 2 * (distance * (arcs + 1)) = rw top at round.cost in
    record {
      distance = distance;
      same = round.same
          ∙ ap (λ (v : ResidualView). let w : ResidualView = record v { flow = after.flow } in w) old.same;
      sound = round.sound;
      flow = round.flow;
      farther = rw top at round.farther;
      short = rw net round.joined.short;
      few = omega (arith, old.few, round.counted);
      some = λ _.
          rw net (walk-some view ends.threshold ends.s ends.t old.flow.differ_ends distance round.joined.walk).1;
      cost = rw net (omega (arith, old.cost, round.looked, paid_now, less, more));
    }

-- All phases up to one distance less than the number of routers, over some links, and the last search.
paid-links : (links last distance : ℕ) → distance ≤ last → 0 < links →
    paid (2 * links) distance + 2 * links ≤ 3 * links * (last + 1) * (last + 1)
unfolding paid
paid-links links last distance low some =
    let first : 2 * links * distance ≤ 2 * links * last = mul-le-mul_left (2 * links) low in
    let inner : distance * (distance + 1) ≤ last * (last + 1) = grind arith in
    let second : (2 * links + 1) * (distance * (distance + 1)) ≤ (2 * links + 1) * (last * (last + 1)) =
    mul-le-mul_left (2 * links + 1) inner in
    let third : (last + 1) * (last + 1) * 1 ≤ (last + 1) * (last + 1) * links =
    mul-le-mul_left ((last + 1) * (last + 1)) some in
    omega arith

-- They cost at most three steps for each link and each pair of routers.
pub paid-all : (links routers distance : ℕ) → distance < routers → (0 < distance → 0 < links) →
    paid (2 * links) distance + 2 * links ≤ 3 * links * routers * routers
paid-all links routers distance short some = elim (cases_lt 0 links) [
  | inl more ↦
      let last : routers - 1 + 1 ≡ routers = omega arith in
      rw last at (paid-links links (routers - 1) distance (omega arith) more)
  | inr none ↦
      let no_links : links ≡ 0 = omega arith in
      let near : distance ≡ 0 = elim (cases_lt 0 distance) [
        | inl far ↦ absurd (omega (arith, some far))
        | inr is ↦ omega arith
      ] in
      rw (no_links, near) (omega (arith, paid-none (2 * 0)))
]
