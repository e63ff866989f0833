-- Names are equal where their bytes are.
use Rattle.std.proofs.Common.{◌≡◌, ℕ, List, ◌&&◌, take, length, ap, sym, ◌∙◌}
use Rattle.std.specs.Bool.{Decides}
use Rattle.std.specs.Str.{bytes_eq}
use Rattle.std.proofs.Math.Dec.{eqb}
use Rattle.std.proofs.lemmas.Bool.{eq-eqb, eqb-true}
use Rattle.std.proofs.lemmas.Bool.Decides.{Decides-and, same_from_decides}
use Rattle.std.proofs.lemmas.Slice.Eq.{bytes_eq-Decides}
use Rattle.network_text.specs.Padding.{IsPadded, padded, padded-front, length-front}

-- What is padded, and its length, are told by the bytes of the name.
same_parts : (len size : ℕ) (bytes others : List ℕ) → IsPadded len bytes → IsPadded size others
    → take len bytes ≡ take size others → (len ≡ size) × (bytes ≡ others)
same_parts len size bytes others is also same = (
  sym (length-front len bytes is) ∙ ap length same ∙ length-front size others also,
  sym (padded-front len bytes is) ∙ ap padded same ∙ padded-front size others also,
)

-- So two names are equal where their lengths and all their padded bytes are.
pub names_equal : (len size : ℕ) (bytes others : List ℕ) → IsPadded len bytes → IsPadded size others
    → (eqb len size && bytes_eq bytes others) ≡ bytes_eq (take len bytes) (take size others)
names_equal len size bytes others is also =
    let lengths : Decides (eqb len size) (len ≡ size) = (eqb-true len size, eq-eqb len size) in
    let parts = Decides-and (eqb len size) (bytes_eq bytes others) lengths (bytes_eq-Decides bytes others) in
    let fronts : Decides (eqb len size && bytes_eq bytes others) (take len bytes ≡ take size others) = (
      λ h. let same = parts.0 h in λ i. take (same.0 i) (same.1 i),
      λ e. parts.1 (same_parts len size bytes others is also e),
    ) in
    same_from_decides _ _ fronts (bytes_eq-Decides (take len bytes) (take size others))
