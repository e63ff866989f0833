-- A ball begins with its centre, and two that begin about two routers are apart.
use Rattle.std.proofs.Common.{◌≡◌, ◌≢◌, ℕ, ◌-◌, ◌<◌, Bool, List, length, get_or, set, replicate}
use Rattle.std.proofs.Common.{get_or-set_same, get_or-set_other, sym, ap, ◌∙◌, arith, inl, inr}
use Rattle.std.proofs.lemmas.Bool.{cases_eq, cases_lt}
use Rattle.std.proofs.lemmas.List.{get_or_past, get_or-replicate, length-replicate, length-set}
use Rattle.dinic_flow.specs.declared.search.Ball.{Ball}
use Rattle.dinic_flow.specs.Balls.{Search, ball_of, AreApart, IsBall}
use Rattle.dinic_flow.proofs.Walks.{walks-still}

-- Labels that only the centre has.
pub record IsAlone (label : List ℕ) (centre : ℕ) : Type 0 where
  pub here : get_or label centre 0 ≡ 1
  pub only : (r : ℕ) → r ≢ centre → get_or label r 0 ≡ 0

-- Where all labels are taken away and one is given, there is room for as many as before.
pub begun-long : (label : List ℕ) (size centre : ℕ) → label ≡ set (replicate size 0) centre 1 → length label ≡ size
begun-long label size centre is = ap length is ∙ length-set (replicate size 0) centre 1 ∙ length-replicate size 0

-- Only that router has one.
pub alone-begun : (label : List ℕ) (size centre : ℕ) → label ≡ set (replicate size 0) centre 1 → centre < size →
    IsAlone label centre
alone-begun label size centre is within =
    let bare : List ℕ = replicate size 0 in
    let long : length bare ≡ size = length-replicate size 0 in
    record {
      here = rw is (get_or-set_same bare centre 1 0 (omega (arith, within, long)));
      only = λ r apart. rw is (get_or-set_other bare centre r 1 0 apart ∙ elim (cases_lt r size) [
        | inl inside ↦ get_or-replicate size r 0 0 inside
        | inr past ↦ get_or_past bare r 0 (omega (arith, past, long))
      ]);
    }

-- A queue in whose first place the centre was put begins with it.
pub first-put : (queue before : List ℕ) (centre : ℕ) → queue ≡ set before 0 centre → 0 < length before →
    get_or queue 0 0 ≡ centre
first-put queue before centre put room = rw put (get_or-set_same before 0 centre 0 room)

-- A ball of the centre alone.
abbrev begun : Ball
begun = record { front = 0; known = 1; radius = 0 }

-- A ball begins with its centre.
pub begun-ball : (search : Search) (back : Bool) (label queue : List ℕ) (centre : ℕ) →
    IsAlone label centre → get_or queue 0 0 ≡ centre → centre < search.view.net.routers →
    IsBall search back (ball_of label queue begun)
begun-ball search back label queue centre alone first small =
    let level : get_or label (get_or queue 0 0) 0 ≡ 1 = rw first alone.here in
    let zero_only : (k : ℕ) → k < 1 → k ≡ 0 = λ k short. omega (arith, short) in
    record {
      labelled = record {
        some = omega arith;
        centre = level;
        routers = λ k short. rw (zero_only k short, first) small;
        positive = λ k short. rw (zero_only k short) (omega (arith, level));
        held = λ r some. elim (cases_eq r centre) [
          | inl same ↦ (0, omega arith, first ∙ sym same)
          | inr other ↦ absurd (omega (arith, some, alone.only r other))
        ];
        differ = λ i j below short. absurd (omega (arith, below, short));
        walks = λ k short.
            let none : get_or label (get_or queue 0 0) 0 - 1 ≡ 0 = omega (arith, level) in
            rw (zero_only k short, none) (walks-still search back (get_or queue 0 0));
      };
      ordered = omega arith;
      within = omega arith;
      deep = omega arith;
      inside = λ k short. rw (zero_only k short) (omega (arith, level));
      rim = λ k late short. rw (zero_only k short) (omega (arith, level));
      beyond = λ k late short. absurd (omega (arith, late, short));
      closed = λ k short. absurd (omega (arith, short));
    }

-- Two balls that begin are apart, if their centres differ.
pub begun-apart : (label marks : List ℕ) (s t : ℕ) → IsAlone label s → IsAlone marks t → s ≢ t → AreApart label marks
begun-apart label marks s t alone alone_too differ r some =
    elim (cases_eq r s) [
      | inl same ↦ alone_too.only r (λ e. differ (sym same ∙ e))
      | inr other ↦ absurd (omega (arith, some, alone.only r other))
    ]
