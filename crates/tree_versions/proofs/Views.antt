-- What kept records show when one more stands behind them.
use Rattle.std.proofs.Common.{◌≡◌, ℕ, zero, suc, ◌+◌, ◌-◌, ◌<◌, List, [], ◌∷◌, ◌++◌, length, Some, true, refl, sym, ap}
use Rattle.std.proofs.Common.{◌∙◌, ◌≤◌, arith, length-append}
use Rattle.std.specs.Arc.{arc_value}
use Rattle.std.specs.Option.{option_map}
use Rattle.std.specs.Prelude.{slice_get, slice_index_or}
use Rattle.std.specs.declared.alloc.Global.{Global}
use Rattle.std.specs.declared.sync.Arc.{Arc}
use Rattle.tree_versions.specs.Records.{RecordView, record_at}
use Rattle.tree_versions.specs.Shelves.{IsPublishedAt}
use Rattle.tree_versions.specs.Solo.{views_of}

-- there are as many views as records
pub length-views : (records : List (Arc RecordView Global)) → length (views_of records) ≡ length records
length-views [] = refl
length-views (r ∷ records) = ap suc (length-views records)

-- the view at a place is that of the record at it
slice_get-views : (records : List (Arc RecordView Global)) (i : ℕ)
    → slice_get (views_of records) i ≡ option_map (λ (r : Arc RecordView Global). arc_value r) (slice_get records i)
slice_get-views [] i = refl
slice_get-views (r ∷ records) zero = refl
slice_get-views (r ∷ records) (suc i) = slice_get-views records i

-- what is read at a place within the list is there
get_at : (records : List (Arc RecordView Global)) (i : ℕ) (r : Arc RecordView Global) → i < length records
    → r ≡ slice_index_or records i r → slice_get records i ≡ Some r
get_at [] i r low is = absurd (omega arith)
get_at (q ∷ records) zero r low is = ap Some (sym is)
get_at (q ∷ records) (suc i) r low is = get_at records i r (omega arith) is

-- the record of a version shows what the one at its place does
record_at-views : (records : List (Arc RecordView Global)) (version : ℕ) (r : Arc RecordView Global)
    → 0 < version → slice_get records (version - 1) ≡ Some r → Some (arc_value r) ≡ record_at (views_of records) version
record_at-views records zero r some is = absurd (omega (arith, some))
record_at-views records (suc version) r some is =
    let place : suc version - 1 ≡ version = omega arith in
    ap (option_map (λ (r : Arc RecordView Global). arc_value r)) (sym is ∙ ap (slice_get records) place)
    ∙ sym (slice_get-views records version)

-- and so does what is read there
pub read_at : (records : List (Arc RecordView Global)) (version : ℕ) (r : Arc RecordView Global)
    → 0 < version → version ≤ length (views_of records) → r ≡ slice_index_or records (version - 1) r
    → Some (arc_value r) ≡ record_at (views_of records) version
read_at records version r some low is =
    record_at-views records version r some
    (get_at records (version - 1) r (omega (arith, some, low, length-views records)) is)

-- the views of records behind which one more stands
pub views-push : (records : List (Arc RecordView Global)) (added : Arc RecordView Global)
    → views_of (records ++ added ∷ []) ≡ views_of records ++ arc_value added ∷ []
views-push [] added = refl
views-push (r ∷ records) added = ap (λ (v : List RecordView). arc_value r ∷ v) (views-push records added)

-- what was added stands at the seam
pub slice_get-seam : (records : List RecordView) (added : RecordView)
    → slice_get (records ++ added ∷ []) (length records) ≡ Some added
slice_get-seam [] added = refl
slice_get-seam (r ∷ records) added = slice_get-seam records added

-- a record that was added to the views is the next one
published_at-next : (old new : List RecordView) (added : RecordView) (version : ℕ) → new ≡ old ++ added ∷ []
    → version ≡ length new → IsPublishedAt true old new added version
published_at-next old new added version is count =
    let size : length new ≡ suc (length old) = omega (arith, ap length is, length-append old (added ∷ [])) in record {
      grows = (added ∷ [], is);
      later = omega (arith, size, count);
      last = sym count;
      place = ap (record_at new) (count ∙ size) ∙ ap (λ (v : List RecordView). slice_get v (length old)) is
          ∙ slice_get-seam old added;
      next = λ alone. is;
    }

-- a record that was pushed stands at the next version
pub published_at-push : (records new : List (Arc RecordView Global)) (added : Arc RecordView Global) (version : ℕ)
    → new ≡ records ++ added ∷ [] → version ≡ length new
    → IsPublishedAt true (views_of records) (views_of new) (arc_value added) version
published_at-push records new added version is count =
    published_at-next (views_of records) (views_of new) (arc_value added) version
    (ap views_of is ∙ views-push records added) (count ∙ sym (length-views new))

-- and the views are one more
pub one_more : (records new : List (Arc RecordView Global)) (added : Arc RecordView Global)
    → new ≡ records ++ added ∷ [] → length (views_of new) ≡ length (views_of records) + 1
one_more records new added is =
    omega (arith, ap length is, length-append records (added ∷ []), length-views records, length-views new)
