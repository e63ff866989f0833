-- Clients that came back, each behind its beginning.
use Rattle.std.proofs.Common.{◌≡◌, List, [], ◌∷◌, ◌++◌, length, Some, None, refl, ap, ◌∙◌, subst, arith}
use Rattle.std.proofs.Common.{append_assoc}
use Rattle.std.proofs.lemmas.List.{append-nil}
use Rattle.std.specs.List.{zip}
use Rattle.std.specs.declared.option.Option.{Option}
use Rattle.wires.specs.Doors.{AddsServed, Beginning, IsOut, with_visits}

-- two lists of the same length that are told side by side, with one more of each
pub zip_more : {A B : Type 0} (xs : List A) (ys : List B) (x : A) (y : B) → length xs ≡ length ys
    → zip (xs ++ x ∷ []) (ys ++ y ∷ []) ≡ zip xs ys ++ (x, y) ∷ []
zip_more [] [] x y same = refl
zip_more [] (b ∷ ys) x y same = absurd (omega arith)
zip_more (a ∷ xs) [] x y same = absurd (omega arith)
zip_more (a ∷ xs) (b ∷ ys) x y same = ap (λ l. (a, b) ∷ l) (zip_more xs ys x y (omega arith))

-- a client that was given with this beginning and came back is the one more that is told, where any are
pub served_once : {C : Type 0} (out : Option (Option Beginning)) (beginning : Beginning) (client : C)
    (before given now : Option (List (Beginning × C))) → given ≡ before → IsOut out beginning
    → AddsServed out client given now → now ≡ with_visits ((beginning, client) ∷ []) before
served_once out beginning client None given now same is adds = subst (λ s. AddsServed out client s now) same adds
served_once None beginning client (Some before) given now same is adds = absurd is
served_once (Some None) beginning client (Some before) given now same is adds =
    let told = subst (λ s. AddsServed (Some None) client s now) same adds in absurd (cc)
served_once (Some (Some told)) beginning client (Some before) given now same is adds =
    let one = subst (λ s. AddsServed (Some (Some told)) client s now) same adds in
    let begun : one.0 ≡ beginning = cc in
    one.2 ∙ ap (λ (b : Beginning). with_visits ((b, client) ∷ []) (Some before)) begun

-- where nobody came back, nobody is more
pub with_visits-none : {C : Type 0} (served : Option (List (Beginning × C))) → with_visits [] served ≡ served
with_visits-none None = refl
with_visits-none (Some served) = ap (λ l. Some l) (append-nil served)

-- who came back in two stretches came back in both together
pub with_visits-append : {C : Type 0} (xs ys : List (Beginning × C)) (served : Option (List (Beginning × C)))
    → with_visits ys (with_visits xs served) ≡ with_visits (xs ++ ys) served
with_visits-append xs ys None = refl
with_visits-append xs ys (Some served) = ap (λ l. Some l) (append_assoc served xs ys)
