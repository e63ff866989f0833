-- What a note tells of a record that was added.
use Rattle.std.proofs.Common.{◌≡◌, ◌∙◌, ◌++◌, ◌∷◌, List, [], suc, ap, arith, length, length-append, slice_get}
use Rattle.tree_versions.proofs.Fronts.{Grows-length, Grows-trans}
use Rattle.tree_versions.proofs.Views.{slice_get-seam}
use Rattle.tree_versions.specs.Publishing.{TellsOf}
use Rattle.tree_versions.specs.Records.{RecordView, Grows, record_at}

-- a list that grew from what was seen, with a record behind it, tells of that record
pub tells_of-push : (seen list note : List RecordView) (added : RecordView) → Grows seen list
    → note ≡ list ++ added ∷ [] → TellsOf seen note added
tells_of-push seen list note added grows push =
    let size : length note ≡ suc (length list) =
    omega (arith, ap length push, length-append list (added ∷ [])) in record {
      grows = Grows-trans seen list note grows (added ∷ [], push);
      later = omega (arith, size, Grows-length seen list grows);
      place = ap (record_at note) size ∙ ap (λ (v : List RecordView). slice_get v (length list)) push
          ∙ slice_get-seam list added;
    }
