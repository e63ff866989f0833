-- The side holds just the routers so far.
use Rattle.std.proofs.Common.{◌≡◌, ℕ, ◌<◌, true, Bool, List, length, get_or, set, sym, ◌∙◌, ap, subst, arith, inl, inr}
use Rattle.std.proofs.lemmas.Bool.{cases_eq, cases_lt, false≢true}
use Rattle.std.proofs.lemmas.List.{get_or_default, length-set, length-replicate}
use Rattle.cut_model.specs.Cuts.{set_of}
use Rattle.dinic_flow.proofs.Sides.{set_of-none, set_of-put, set_of-kept, set_of-only}
use Rattle.dinic_flow.proofs.cut.hold_only.Goals as goal

pub loop-router-init : goal.loop-router-init
loop-router-init c = record {
  size = ap length c.clear.ensures ∙ length-replicate (length c.args.side.now) _;
  put = λ k none. absurd (omega arith);
  only = λ r h.
      absurd (false≢true (sym (set_of-none (length c.args.side.now) r)
      ∙ ap (λ (bits : List Bool). set_of bits r) (sym c.clear.ensures) ∙ h));
}

pub loop-router-preserved : goal.loop-router-preserved
loop-router-preserved c =
    let inv = c.loop-router.invariant in
    let at = c.loop-router.router-index in
    let router : ℕ = get_or c.args.routers.now at 0 in
    let side = c.loop-router.side in
    let within : router < length side = omega (arith, inv.size, c.requires at 0 c.loop-router-test.true) in
    record {
      size = ap length c.put.ensures ∙ length-set side router true ∙ inv.size;
      put = λ k below. rw c.put.ensures (elim (cases_lt k at) [
        | inl early ↦ set_of-kept side router (get_or c.args.routers.now k 0) (inv.put k early)
        | inr last ↦
            let is : at ≡ k = omega arith in
            subst (λ (j : ℕ). set_of (set side router true) (get_or c.args.routers.now j 0) ≡ true) is
            (set_of-put side router within)
      ]);
      only = λ r h.
          let held : set_of (set side router true) r ≡ true = rw c.put.ensures at h in
          elim (cases_eq r router) [
            | inl is ↦
                (at, omega arith, sym (get_or_default c.args.routers.now at 0 r c.loop-router-test.true) ∙ sym is)
            | inr apart ↦
                let (k, early, was) = inv.only r (set_of-only side router r apart held) in
                (k, omega arith, was)
          ];
    }

pub returns-clause-held : goal.returns-clause-held
returns-clause-held c = λ r.
    let inv = c.loop-router.invariant in
    let end : c.loop-router.router-index ≡ length c.args.routers.now =
    omega (arith, c.loop-router-test.false, c.loop-router.auto.router-index-end) in (
      λ h. rw end at (inv.only r h),
      λ (k, within, is). subst (λ (x : ℕ). set_of c.loop-router.side x ≡ true)
          (get_or_default c.args.routers.now k 0 r within ∙ is) (inv.put k (rw end within)),
    )
