-- The two routers of a request are the same exactly where their names are.
use Rattle.std.proofs.Common.{◌≡◌, ◌↔◌, ℕ, List, [], Bool, true, false, None, Some, Ok, Err, get_or, refl, sym, ap}
use Rattle.std.proofs.Common.{◌∙◌, ◌==◌, subst, IsSome, Result, if◌then◌else◌}
use Rattle.std.proofs.lemmas.Bool.{eq-eqb, eqb-true}
use Rattle.std.proofs.lemmas.List.Quantifiers.{position-Some}
use Rattle.std.proofs.lemmas.Slice.Eq.{bytes_eq-Decides}
use Rattle.std.specs.Str.{bytes_eq}
use Rattle.std.specs.declared.option.Option.{Option}
use Rattle.network_text.specs.Sheets.{SheetView, number_of}
use Rattle.query_lang.specs.Requests.{ends_between, ends_named}
use Rattle.query_lang.specs.declared.request.RequestFault.{RequestFault}
use Rattle.query_lang.specs.declared.request.RequestFault.TheVariants.{SameRouter}

-- A router has one name.
one_name : (names : List (List ℕ)) (first second : List ℕ) (router : ℕ) → number_of names first ≡ Some router
    → number_of names second ≡ Some router → first ≡ second
one_name names first second router is also =
    let at_first = position-Some (bytes_eq first) names router [] is in
    let at_second = position-Some (bytes_eq second) names router [] also in
    let name = get_or names router [] in
    (bytes_eq-Decides first name).0 at_first.1 ∙ sym ((bytes_eq-Decides second name).0 at_second.1)

-- Two names that are refused as the same router are known and equal.
same_name : (names : List (List ℕ)) (first second : List ℕ) (one other : Option ℕ) → number_of names first ≡ one
    → number_of names second ≡ other → ends_between one other ≡ Err SameRouter → IsSome one × (first ≡ second)
same_name names first second None other is also refused = absurd (cc)
same_name names first second (Some a) None is also refused = absurd (cc)
same_name names first second (Some a) (Some b) is also refused = chosen (a == b) refl refused
  where
    chosen : (same : Bool) → (a == b) ≡ same
        → if◌then◌else◌ {A = Result (ℕ × ℕ) RequestFault} same (Err SameRouter) (Ok (a, b)) ≡ Err SameRouter
        → IsSome (Some a) × (first ≡ second)
    chosen true equal refused = (refl, one_name names first second a is (also ∙ ap Some (sym (eqb-true a b equal))))
    chosen false equal refused = absurd (cc)

-- A router is no pair with itself.
ends_itself : (router : Option ℕ) → IsSome router → ends_between router router ≡ Err SameRouter
ends_itself None some = absurd (cc)
ends_itself (Some a) some = rw (eq-eqb a a refl) refl

-- Two names are refused as the same router exactly where they are equal, and a router has them.
pub same_router : (sheet : SheetView) (first second : List ℕ)
    → (ends_named (Some sheet) first second ≡ Err SameRouter)
    ↔ (IsSome (number_of sheet.names first) × (first ≡ second))
same_router sheet first second =
    let names = sheet.names in (
      λ refused. same_name names first second (number_of names first) (number_of names second) refl refl refused,
      λ same. subst (λ name. ends_named (Some sheet) first name ≡ Err SameRouter) same.1
          (ends_itself (number_of names first) same.0),
    )
