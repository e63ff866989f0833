-- What is sent on within a phase, arc by arc and part by part.
use Rattle.std.proofs.Common.{◌≡◌, ◌≢◌, ◌⊎◌, ℕ, ◌+◌, ◌/◌, ◌<◌, ◌≤◌, List, length, get_or}
use Rattle.std.proofs.Common.{sym, ◌∙◌, ap, subst, arith, refl, inl, inr}
use Rattle.std.specs.Prelude.{◌==◌, ℤ, pos, ◌+ℤ◌, ◌-ℤ◌, ◌≤ℤ◌, ◌<ℤ◌}
use Rattle.std.proofs.lemmas.Int.{ints}
use Rattle.std.proofs.lemmas.Bool.{cases_eq, cases_lt, cases_Bool, ne_eqb}
use Rattle.cut_model.specs.Net.{Net}
use Rattle.cut_model.specs.Flow.{out}
use Rattle.residual_graph.specs.declared.place.Place.{Place}
use Rattle.residual_graph.specs.Arcs.{tail_of, head_of, arc_count}
use Rattle.residual_graph.specs.Places.{place_at}
use Rattle.residual_graph.specs.View.{ResidualView, IsSound, left_on, pushed}
use Rattle.dinic_flow.specs.Levels.{IsOpen, height, IsLevelled}
use Rattle.dinic_flow.specs.Sending.{only_at}
use Rattle.dinic_flow.specs.Phases.{Moment, moment_of, Aim, Rises, IsSpent, IsBlocked}
use Rattle.dinic_flow.specs.Phases.{AreBlocked, IsPhase, Sends}
use Rattle.dinic_flow.proofs.Pushes.{caps-length, out-pushed, left-pushed, left-apart, IsTwin, twins}

-- What is at most a second number is at most what that is at most.
le-twice : (x y z : ℤ) → x ≤ℤ y → y ≤ℤ z → x ≤ℤ z
le-twice x y z first second = omega (arith, ints, first, second)

-- A number is at most what it fell from.
le-falls : (x y : ℤ) (amount : ℕ) → x ≡ (y -ℤ pos amount) → x ≤ℤ y
le-falls x y amount e = omega (arith, ints, e)

-- Equal numbers are in order.
same-le : (x y : ℤ) → x ≡ y → x ≤ℤ y
same-le x y e = omega (arith, ints, e)

-- ---- arcs by a pushed one

-- An arc is the one, its twin, or one of another link.
pub data Relation (net : Net) (other arc : ℕ) : Type 0 where
  Same : other ≡ arc → Relation net other arc
  Twin : IsTwin net other arc → Relation net other arc
  Other : (other / 2 ≡ arc / 2 → ⊥) → Relation net other arc

-- Any two arcs are one of these.
pub relation : (net : Net) (other arc : ℕ) → Relation net other arc
relation net other arc = elim (cases_eq (other / 2) (arc / 2)) [
  | inr apart ↦ Other apart
  | inl same ↦ elim (cases_eq other arc) [
    | inl e ↦ Same e
    | inr ne ↦ Twin (twins net other arc same ne)
  ]
]

-- A push along an arc that leads on.
pub record IsPush (before after : ResidualView) (label : List ℕ) (arc amount : ℕ) : Type 0 where
  pub within : arc < arc_count before.net
  pub even : length before.flow ≡ length before.net.links
  pub leads : Rises before.net label arc
  pub pushes : after ≡ record before { flow = pushed before.flow arc amount }

-- A push leaves the network.
push-net : (before after : ResidualView) (label : List ℕ) (arc amount : ℕ) → IsPush before after label arc amount →
    after.net ≡ before.net
push-net before after label arc amount push = ap (λ (v : ResidualView). v.net) push.pushes

-- A push changes the flow by the amount along the arc.
push-flow : (before after : ResidualView) (label : List ℕ) (arc amount : ℕ) → IsPush before after label arc amount →
    after.flow ≡ pushed before.flow arc amount
push-flow before after label arc amount push = ap (λ (v : ResidualView). v.flow) push.pushes

-- The arc itself has less left by the amount.
pub push-own : (before after : ResidualView) (label : List ℕ) (arc amount : ℕ) →
    IsPush before after label arc amount → left_on after arc ≡ (left_on before arc -ℤ pos amount)
push-own before after label arc amount push =
    let half : arc / 2 < length before.flow = omega (arith, push.within, push.even) in
    left-pushed before after arc amount (push-net before after label arc amount push)
    (push-flow before after label arc amount push) half

-- The arcs of other links have as much left as before.
push-apart : (before after : ResidualView) (label : List ℕ) (arc amount other : ℕ) →
    IsPush before after label arc amount → (other / 2 ≡ arc / 2 → ⊥) → left_on after other ≡ left_on before other
push-apart before after label arc amount other push apart =
    left-apart before after arc amount other (push-net before after label arc amount push)
    (push-flow before after label arc amount push) apart

-- No arc has more left, but one that leads a level back.
pub push-falls : (before after : ResidualView) (label : List ℕ) (arc amount other : ℕ) →
    IsPush before after label arc amount →
    (left_on after other ≤ℤ left_on before other) ⊎ IsTwin before.net other arc
push-falls before after label arc amount other push = elim (relation before.net other arc) [
  | Same e ↦ inl (subst (λ (x : ℕ). left_on after x ≤ℤ left_on before x) (sym e)
      (le-falls _ _ amount (push-own before after label arc amount push)))
  | Twin twin ↦ inr twin
  | Other apart ↦ inl (same-le _ _ (push-apart before after label arc amount other push apart))
]

-- ---- levels

-- A router with a label is as high as its label.
pub height-label : (mid : ℕ) (label : List ℕ) (r : ℕ) → 0 < get_or label r 0 → height mid label r ≡ get_or label r 0
height-label mid label r some = elim (cases_eq (get_or label r 0) 0) [
  | inl none ↦ absurd (omega arith)
  | inr ne ↦ rw (ne_eqb (get_or label r 0) 0 ne) refl
]

-- An arc that is open after a push was open before, or leads a level back.
open-before : (aim : Aim) (before after : ResidualView) (arc amount other : ℕ) →
    IsPush before after aim.label arc amount → IsOpen after aim.threshold other →
    IsOpen before aim.threshold other ⊎ IsTwin before.net other arc
open-before aim before after arc amount other push is_open =
    elim (push-falls before after aim.label arc amount other push) [
      | inl falls ↦ inl (le-twice _ _ _ is_open falls)
      | inr twin ↦ inr twin
    ]

-- Levels stay ones after a push along an arc that leads on.
levelled-push : (aim : Aim) (before after : ResidualView) (arc amount : ℕ) →
    IsPush before after aim.label arc amount → 0 < get_or aim.label (tail_of before.net arc) 0 →
    IsLevelled before aim.threshold aim.t aim.label → IsLevelled after aim.threshold aim.t aim.label
levelled-push aim before after arc amount push some old =
    let label : List ℕ = aim.label in
    let net : after.net ≡ before.net = push-net before after label arc amount push in
    let low = height-label old.mid label (tail_of before.net arc) some in
    let high = height-label old.mid label (head_of before.net arc) (omega (arith, push.leads)) in
    record {
      mid = old.mid;
      size = rw net old.size;
      few = rw net old.few;
      most = old.most;
      only = old.only;
      rises = λ other within is_open. elim (open-before aim before after arc amount other push is_open) [
        | inl was ↦ rw net (old.rises other (rw net at within) was)
        | inr twin ↦ rw (net, twin.head, twin.tail) (omega (arith, low, high, push.leads))
      ];
      stays = λ other within is_open none. elim (open-before aim before after arc amount other push is_open) [
        | inl was ↦ rw net (old.stays other (rw net at within) was (rw net at none))
        | inr twin ↦ absurd (omega (arith, rw (net, twin.tail) at none, push.leads))
      ];
    }

-- What is blocked stays blocked after a push along an arc that leads on.
blocked-push : (aim : Aim) (now : Moment) (after : ResidualView) (arc amount other : ℕ) →
    IsPush now.view after aim.label arc amount → IsBlocked aim now other →
    IsBlocked aim (moment_of after now.cursor) other
blocked-push aim now after arc amount other push old leads =
    let before : ResidualView = now.view in
    let net : after.net ≡ before.net = push-net before after aim.label arc amount push in
    let led : Rises before.net aim.label other = rw net at leads in
    elim (push-falls before after aim.label arc amount other push) [
      | inr twin ↦ absurd (omega (arith, rw (twin.head, twin.tail) at led, push.leads))
      | inl falls ↦ elim (old led) [
        | inl closed ↦ inl (lt-le _ _ _ falls closed)
        | inr spent ↦ inr (rw net spent)
      ]
    ]
  where
    lt-le : (x y z : ℤ) → x ≤ℤ y → y <ℤ z → x <ℤ z
    lt-le x y z first second = omega (arith, ints, first, second)

-- A state of a phase stays one after a push along an arc that leads on.
pub phase-push : (aim : Aim) (now : Moment) (after : ResidualView) (arc amount : ℕ) →
    IsPush now.view after aim.label arc amount → 0 < get_or aim.label (tail_of now.view.net arc) 0 →
    IsSound after → IsPhase aim now → IsPhase aim (moment_of after now.cursor)
phase-push aim now after arc amount push some sound old =
    let before : ResidualView = now.view in
    let net : after.net ≡ before.net = push-net before after aim.label arc amount push in
    record {
      sound = sound;
      levelled = levelled-push aim before after arc amount push some old.levelled;
      come = record {
        size = rw net old.come.size;
        fresh = rw net old.come.fresh;
        above = λ r labelled. rw net (old.come.above r labelled);
        below = λ r labelled. rw net (old.come.below r labelled);
        blocked = λ r labelled at low high.
            let was : IsBlocked aim now (place_at before.net at).arc =
            old.come.blocked r labelled at (rw net at low) high in
            subst (λ (n : Net). IsBlocked aim (moment_of after now.cursor) (place_at n at).arc) (sym net)
            (blocked-push aim now after arc amount (place_at before.net at).arc push was);
      };
    }

-- ---- what is sent

-- What changes the flow alone, twice, changes the flow alone.
same-twice : (before between after : ResidualView) →
    between ≡ record before { flow = between.flow } → after ≡ record between { flow = after.flow } →
    after ≡ record before { flow = after.flow }
same-twice before between after first second =
    second ∙ ap (λ (v : ResidualView). let w : ResidualView = record v { flow = after.flow } in w) first

-- What comes to the head of an arc, and over the arc, comes from its tail.
relayed : (o m n a b c : ℤ) → m ≡ ((o +ℤ b) -ℤ c) → n ≡ ((m +ℤ a) -ℤ b) → n ≡ ((o +ℤ a) -ℤ c)
relayed o m n a b c first second = omega (arith, ints, first, second)

-- What the head of an arc sends to t, its tail sends once it was pushed along the arc.
pub sends-over : (aim : Aim) (before between : Moment) (after : ResidualView) (arc amount : ℕ) →
    Sends aim before between (head_of before.view.net arc) amount →
    IsPush between.view after aim.label arc amount → arc < arc_count before.view.net →
    Sends aim before (moment_of after between.cursor) (tail_of before.view.net arc) amount
sends-over aim before between after arc amount sent push within =
    let start : ResidualView = before.view in
    let mid : ResidualView = between.view in
    let label : List ℕ = aim.label in
    let net : mid.net ≡ start.net = ap (λ (v : ResidualView). v.net) sent.same in
    let flow : after.flow ≡ pushed mid.flow arc amount = push-flow mid after label arc amount push in
    let leads : Rises start.net label arc = rw net at push.leads in
    let even : length mid.flow ≡ length start.net.links = rw net at push.even in
    let last : after ≡ record mid { flow = after.flow } =
    push.pushes ∙ ap (λ (f : List ℤ). let w : ResidualView = record mid { flow = f } in w) (sym flow) in
    record {
      same = same-twice start mid after sent.same last;
      sends = λ r.
          let over : out r start.net.links after.flow ≡ _ =
          ap (out r start.net.links) flow ∙ out-pushed start.net mid.flow arc amount within even r in
          relayed (out r start.net.links start.flow) (out r start.net.links mid.flow)
          (out r start.net.links after.flow) (only_at (tail_of start.net arc) r amount)
          (only_at (head_of start.net arc) r amount) (only_at aim.t r amount) (sent.sends r) over;
      falls = λ other inside on. elim (push-falls mid after label arc amount other push) [
        | inl falls ↦ le-twice _ _ _ falls (sent.falls other inside on)
        | inr twin ↦
            let back : IsTwin start.net other arc = rw net at twin in
            absurd (omega (arith, rw (back.head, back.tail) at on, leads))
      ];
      spares = λ other inside low. elim (relation start.net other arc) [
        | Same e ↦ absurd (omega (arith, ap (λ (x : ℕ). get_or label (tail_of start.net x) 0) e, low))
        | Twin twin ↦ absurd (omega (arith, rw twin.tail at low, leads))
        | Other apart ↦
            push-apart mid after label arc amount other push apart
            ∙ sent.spares other inside (omega (arith, leads, low))
      ];
      moves = sent.moves;
      keeps = λ r low apart.
          sent.keeps r (omega (arith, leads, low))
          (λ e. omega (arith, ap (λ (x : ℕ). get_or label x 0) e, low, leads));
    }

-- Two amounts one behind another.
both : (o m n a b c d : ℤ) → m ≡ ((o +ℤ a) -ℤ b) → n ≡ ((m +ℤ c) -ℤ d) →
    n ≡ ((o +ℤ (a +ℤ c)) -ℤ (b +ℤ d))
both o m n a b c d first second = omega (arith, ints, first, second)

-- They are one amount, at the router where they are.
only_at-sum : (router r x y : ℕ) → only_at router r (x + y) ≡ (only_at router r x +ℤ only_at router r y)
only_at-sum router r x y = elim (cases_Bool (router == r)) [
  | inl e ↦ rw e (omega (arith, ints))
  | inr e ↦ rw e refl
]

-- What a router sends first and then is sent together.
pub sends-both : (aim : Aim) (before between after : Moment) (router x y : ℕ) →
    Sends aim before between router x → Sends aim between after router y → Sends aim before after router (x + y)
sends-both aim before between after router x y first second =
    let start : ResidualView = before.view in
    let net : between.view.net ≡ start.net = ap (λ (v : ResidualView). v.net) first.same in
    record {
      same = same-twice start between.view after.view first.same second.same;
      sends = λ r.
          let later : out r start.net.links after.view.flow
          ≡ ((out r start.net.links between.view.flow +ℤ only_at router r y) -ℤ only_at aim.t r y) =
          rw net at (second.sends r) in
          rw (only_at-sum router r x y, only_at-sum aim.t r x y)
          (both (out r start.net.links start.flow) (out r start.net.links between.view.flow)
          (out r start.net.links after.view.flow) (only_at router r x) (only_at aim.t r x) (only_at router r y)
          (only_at aim.t r y) (first.sends r) later);
      falls = λ arc within leads.
          le-twice _ _ _ (second.falls arc (rw net within) (rw net leads)) (first.falls arc within leads);
      spares = λ arc within low. second.spares arc (rw net within) (rw net low) ∙ first.spares arc within low;
      moves = λ r. omega (arith, first.moves r, second.moves r);
      keeps = λ r low apart. second.keeps r low apart ∙ first.keeps r low apart;
    }

-- An arc that is blocked stays blocked, whatever is sent.
pub blocked-later : (aim : Aim) (before after : Moment) (router amount arc : ℕ) →
    Sends aim before after router amount → IsPhase aim after → arc < arc_count before.view.net →
    IsBlocked aim before arc → IsBlocked aim after arc
blocked-later aim before after router amount arc sent phase within was leads =
    let now : Net = after.view.net in
    let net : now ≡ before.view.net = ap (λ (v : ResidualView). v.net) sent.same in
    let led : Rises before.view.net aim.label arc = rw net at leads in
    elim (was led) [
      | inl closed ↦ inl (lt-le _ _ _ (sent.falls arc within led) closed)
      | inr spent ↦
          let head : ℕ = head_of now arc in
          let other : (head ≢ aim.t) × IsSpent now before.cursor head = rw net spent in
          inr (other.0, omega (arith, other.1, sent.moves head, phase.come.below head (omega (arith, leads))))
    ]
  where
    lt-le : (x y z : ℤ) → x ≤ℤ y → y <ℤ z → x <ℤ z
    lt-le x y z first second = omega (arith, ints, first, second)

-- ---- over the arc at a place

-- A place has its arc's head.
pub place_at-head : (net : Net) (at : ℕ) → (place_at net at).head ≡ head_of net (place_at net at).arc
unfolding place_at
place_at-head net at = refl

-- The head of an arc that leads on has sent an amount to t, which is then pushed along the arc.
pub record IsOver (aim : Aim) (before between : Moment) (after : ResidualView) (arc amount : ℕ) : Type 0 where
  pub within : arc < arc_count before.view.net
  pub same : between.view.net ≡ before.view.net
  pub sent : Sends aim before between (head_of before.view.net arc) amount
  pub push : IsPush between.view after aim.label arc amount

-- What is done at a place whose arc leads on is that.
pub is_over : (aim : Aim) (before between : Moment) (after : ResidualView) (place : Place) (at amount : ℕ) →
    place ≡ place_at before.view.net at → place.arc < arc_count before.view.net →
    get_or aim.label place.head 0
    ≡ get_or aim.label (tail_of before.view.net (place_at before.view.net at).arc) 0 + 1 →
    Sends aim before between place.head amount → IsPhase aim between →
    after ≡ record between.view { flow = pushed between.view.flow place.arc amount } →
    IsOver aim before between after (place_at before.view.net at).arc amount
is_over aim before between after place at amount is inside on sent phase pushes =
    let net : Net = before.view.net in
    let mid : ResidualView = between.view in
    let arc : ℕ = (place_at net at).arc in
    let is_arc : place.arc ≡ arc = ap (λ (p : Place). p.arc) is in
    let is_head : place.head ≡ head_of net arc = ap (λ (p : Place). p.head) is ∙ place_at-head net at in
    let within : arc < arc_count net = subst (λ (x : ℕ). x < arc_count net) is_arc inside in
    let leads : Rises net aim.label arc = sym (ap (λ (r : ℕ). get_or aim.label r 0) is_head) ∙ on in
    let same : mid.net ≡ net = ap (λ (v : ResidualView). v.net) sent.same in
    record {
      within = within;
      same = same;
      sent = subst (λ (r : ℕ). Sends aim before between r amount) is_head sent;
      push = record {
        within = rw same within;
        even = caps-length mid.net.links mid.flow phase.sound.within;
        leads = rw same leads;
        pushes = subst (λ (x : ℕ). after ≡ record mid { flow = pushed mid.flow x amount }) is_arc pushes;
      };
    }

-- The arc's tail has sent the amount.
pub over-sends : (aim : Aim) (before between : Moment) (after : ResidualView) (arc amount : ℕ) →
    IsOver aim before between after arc amount →
    Sends aim before (moment_of after between.cursor) (tail_of before.view.net arc) amount
over-sends aim before between after arc amount over =
    sends-over aim before between after arc amount over.sent over.push over.within

-- An arc of which all was taken is closed.
closes : (x y z : ℤ) (left amount threshold : ℕ) → pos left ≡ x → y ≡ x → z ≡ (y -ℤ pos amount) → amount ≡ left →
    0 < threshold → z <ℤ pos threshold
closes x y z left amount threshold first second third whole some = omega
    (arith, ints, first, second, third, whole, some)

-- The arc is blocked then, if less than the limit was sent: it is closed, or its head is spent.
pub over-blocked : (aim : Aim) (before between : Moment) (after : ResidualView) (arc amount left limit : ℕ) →
    IsOver aim before between after arc amount → 0 < aim.threshold →
    pos left ≡ left_on before.view arc → amount ≤ left →
    (amount < left → amount < limit → (head_of before.view.net arc ≢ aim.t)
    × IsSpent between.view.net between.cursor (head_of before.view.net arc)) →
    amount < limit → IsBlocked aim (moment_of after between.cursor) arc
over-blocked aim before between after arc amount left limit over some is below spent short leads =
    let start : ResidualView = before.view in
    let mid : ResidualView = between.view in
    let same : after.net ≡ mid.net = push-net mid after aim.label arc amount over.push in
    let led : Rises start.net aim.label arc = rw over.same at over.push.leads in
    let spared : left_on mid arc ≡ left_on start arc = over.sent.spares arc over.within (omega (arith, led)) in
    elim (cases_lt amount left) [
      | inl less ↦ inr (rw (same, over.same) (rw over.same at (spent less short)))
      | inr all ↦
          inl (closes (left_on start arc) (left_on mid arc) (left_on after arc) left amount aim.threshold is spared
          (push-own mid after aim.label arc amount over.push) (omega (arith, below, all)) some)
    ]

-- Arcs at places that are blocked stay blocked, whatever is sent.
pub passed-later : (aim : Aim) (before after : Moment) (router amount from to : ℕ) →
    Sends aim before after router amount → IsPhase aim after →
    ((at : ℕ) → from ≤ at → at < to → (place_at before.view.net at).arc < arc_count before.view.net) →
    AreBlocked aim before from to → AreBlocked aim after from to
passed-later aim before after router amount from to sent phase inside passed at low high =
    let net : after.view.net ≡ before.view.net = ap (λ (v : ResidualView). v.net) sent.same in
    subst (λ (n : Net). IsBlocked aim after (place_at n at).arc) (sym net)
    (blocked-later aim before after router amount (place_at before.view.net at).arc sent phase (inside at low high)
    (passed at low high))
