-- What the records of a list show that are taken over one by one.
use Rattle.std.proofs.Common.{◌≡◌, ℕ, zero, suc, ◌+◌, ◌≤◌, List, [], ◌∷◌, ◌++◌, length, Some, slice_get, take}
use Rattle.std.proofs.Common.{◌∙◌, refl, ap, sym, arith}
use Rattle.std.specs.Arc.{arc_value}
use Rattle.std.specs.declared.alloc.Global.{Global}
use Rattle.std.specs.declared.sync.Arc.{Arc}
use Rattle.tree_versions.proofs.Views.{length-views, views-push}
use Rattle.tree_versions.specs.Records.{RecordView, Grows}
use Rattle.tree_versions.specs.Solo.{views_of}

-- the views of the first records are the first views
take-views : (n : ℕ) (records : List (Arc RecordView Global)) → take n (views_of records) ≡ views_of (take n records)
take-views zero records = refl
take-views (suc n) [] = refl
take-views (suc n) (r ∷ records) = ap (λ (v : List RecordView). arc_value r ∷ v) (take-views n records)

-- the first of the first ones
take-take : (n m : ℕ) (views : List RecordView) → n ≤ m → take n (take m views) ≡ take n views
take-take zero m views le = refl
take-take (suc n) zero views le = absurd (omega arith)
take-take (suc n) (suc m) [] le = refl
take-take (suc n) (suc m) (v ∷ views) le = ap (λ (w : List RecordView). v ∷ w) (take-take n m views (omega arith))

-- as many as a front has are the front
take-front : (front whole : List RecordView) → Grows front whole → take (length front) whole ≡ front
take-front [] whole p = refl
take-front (x ∷ front) [] p = absurd (cc (p.1))
take-front (x ∷ front) (y ∷ whole) p =
    let heads : x ≡ y = cc (p.1) in
    let rest = take-front front whole (p.0, cc (p.1)) in cc (heads, rest)

-- cutting off what was taken gives back what was kept before
pub untaken : (kept now : List (Arc RecordView Global)) (views : List RecordView) (place : ℕ)
    → Grows (views_of kept) views → length kept ≤ place → views_of now ≡ take place views
    → views_of (take (length kept) now) ≡ views_of kept
untaken kept now views place grows le is =
    let size : length kept ≡ length (views_of kept) = sym (length-views kept) in
    sym (take-views (length kept) now) ∙ ap (take (length kept)) is ∙ take-take (length kept) place views le
    ∙ (rw size (take-front (views_of kept) views grows))

-- one more of the first views is that of the record at the place behind them
take-next : (records : List (Arc RecordView Global)) (place : ℕ) (r : Arc RecordView Global)
    → slice_get records place ≡ Some r
    → take (suc place) (views_of records) ≡ take place (views_of records) ++ arc_value r ∷ []
take-next [] place r is = absurd cc
take-next (q ∷ records) zero r is = cc (is)
take-next (q ∷ records) (suc place) r is =
    ap (λ (v : List RecordView). arc_value q ∷ v) (take-next records place r is)

-- once a further owner of the record at a place is pushed, one record more is taken
pub taken_one : (kept now records : List (Arc RecordView Global)) (place : ℕ) (r more : Arc RecordView Global)
    → slice_get records place ≡ Some r → arc_value more ≡ arc_value r → views_of kept ≡ take place (views_of records)
    → now ≡ kept ++ more ∷ [] → views_of now ≡ take (place + 1) (views_of records)
taken_one kept now records place r more at same is push =
    let next : place + 1 ≡ suc place = omega arith in
    rw (next, take-next records place r at, push, views-push kept more, is, same) refl
