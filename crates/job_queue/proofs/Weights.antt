-- What lists weigh: of changes, of one member, of two lists, of the jobs and marks of a queue.
use Rattle.std.proofs.Common.{◌≡◌, ℕ, zero, suc, ◌+◌, ◌≤◌, ◌<◌, Bool, true, false, cond, nat_eq, List, [], ◌∷◌, ◌++◌}
use Rattle.std.proofs.Common.{length, set, Contains, sym, refl, ap, arith}
use mathlib.Core.Option.{some, some-ne-none, some-injective}
use lib.ListN.{get_elem?}
use Rattle.std.proofs.lemmas.Bool.Decides.{nat_tests}
use Rattle.job_queue.specs.declared.item.Item.{Item}
use Rattle.job_queue.specs.declared.item.Item.TheVariants.{Job, End}
use Rattle.job_queue.specs.Rule.{is_tailed, mark, of_job, one}
use Rattle.job_queue.specs.Weights.{weigh}

-- What a list weighs after a change of one member.
pub weigh_set : {X : Type 0} (f : X → ℕ) (xs : List X) (place : ℕ) (x y : X) → get_elem? xs place ≡ some x →
    weigh f (set xs place y) + f x ≡ weigh f xs + f y
weigh_set f [] place x y at = absurd (some-ne-none x (sym at))
weigh_set f (z ∷ xs) zero x y at = let d : f z ≡ f x = ap f (some-injective z x at) in omega arith
weigh_set f (z ∷ xs) (suc place) x y at = let h = weigh_set f xs place x y at in omega arith

-- A member weighs no more than the list.
pub le_weigh : {X : Type 0} (f : X → ℕ) (xs : List X) (place : ℕ) (x : X) → get_elem? xs place ≡ some x →
    f x ≤ weigh f xs
le_weigh f [] place x at = absurd (some-ne-none x (sym at))
le_weigh f (z ∷ xs) zero x at = let d : f z ≡ f x = ap f (some-injective z x at) in omega arith
le_weigh f (z ∷ xs) (suc place) x at = let h = le_weigh f xs place x at in omega arith

pub weigh-append : {X : Type 0} (f : X → ℕ) (xs ys : List X) → weigh f (xs ++ ys) ≡ weigh f xs + weigh f ys
weigh-append f [] ys = omega arith
weigh-append f (x ∷ xs) ys = let e = weigh-append f xs ys in omega arith

pub weigh-snoc : {X : Type 0} (f : X → ℕ) (xs : List X) (x : X) → weigh f (xs ++ x ∷ []) ≡ weigh f xs + f x
weigh-snoc f xs x = let e = weigh-append f xs (x ∷ []) in omega arith

-- Where each member weighs one, the weight is the length.
pub weigh_one : (xs : List ℕ) → weigh one xs ≡ length xs
weigh_one [] = refl
weigh_one (x ∷ xs) = let e = weigh_one xs in omega arith

-- One number weighs one, and each other one nothing.
abbrev pub just : ℕ → ℕ → ℕ
just x y = cond (nat_eq y x) 1 0

pub just-self : (x : ℕ) → just x x ≡ 1
just-self x = grind (arith, nat_tests)

-- Where a number's own weight isn't zero, the list has it.
pub contains_just : (xs : List ℕ) (x : ℕ) → 0 < weigh (just x) xs → Contains xs x
contains_just [] x more = absurd (omega arith)
contains_just (y ∷ xs) x more = by (nat_eq y x) refl (λ later. contains_just xs x later)
  where
    by : (b : Bool) → nat_eq y x ≡ b → (0 < weigh (just x) xs → Contains xs x) → Contains (y ∷ xs) x
    by true e rest = (0, omega arith, grind (arith, nat_tests))
    by false e rest = let later = rest (let s = rw e at more in omega arith) in
        (suc later.0, (let l = later.1 in omega arith), later.2)

-- A queue without jobs has none behind a mark.
pub tailed_jobless : (items : List Item) → weigh (of_job one) items ≡ 0 → is_tailed items ≡ true
tailed_jobless [] none = refl
tailed_jobless (Job x ∷ items) none = absurd (omega arith)
tailed_jobless (End ∷ items) none = let jobless : weigh (of_job one) items ≡ 0 = omega arith in rw jobless refl

-- A queue without marks has no job behind one.
pub tailed_unmarked : (items : List Item) → weigh mark items ≡ 0 → is_tailed items ≡ true
tailed_unmarked [] none = refl
tailed_unmarked (Job x ∷ items) none = tailed_unmarked items (omega arith)
tailed_unmarked (End ∷ items) none = absurd (omega arith)

pub zero_from : (n : ℕ) → nat_eq n 0 ≡ true → n ≡ 0
zero_from n e = grind (arith, nat_tests)

-- One more mark leaves no job behind a mark.
pub tailed_mark : (items : List Item) → is_tailed items ≡ true → is_tailed (items ++ End ∷ []) ≡ true
tailed_mark [] tailed = refl
tailed_mark (Job x ∷ items) tailed = tailed_mark items tailed
tailed_mark (End ∷ items) tailed =
    let none : weigh (of_job one) items ≡ 0 = zero_from _ tailed in
    let still : weigh (of_job one) (items ++ End ∷ []) ≡ 0 =
    (let s = weigh-snoc (of_job one) items End in omega arith) in
    rw still refl
