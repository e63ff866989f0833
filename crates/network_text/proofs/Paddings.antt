-- The bytes of a name written over the front of zeros.
use Rattle.std.proofs.Common.{◌≡◌, ℕ, ◌-◌, ◌≤◌, List, ◌++◌, length, drop, replicate, refl, ◌∙◌, arith, subst, sym}
use Rattle.std.proofs.Common.{length-append, IsTrue}
use Rattle.std.proofs.lemmas.Bool.Decides.{nat_tests}
use Rattle.std.proofs.lemmas.List.{drop-replicate, drop_at, take_at}
use Rattle.std.proofs.Math.ListN.{length-replicate}
use Rattle.text_forms.specs.Names.{is_name}
use Rattle.text_forms.specs.declared.names.TheConstants.{MOST_NAME_BYTES}
use Rattle.network_text.specs.Padding.{IsPadded}

-- A name is short.
pub name-short : (bytes : List ℕ) → IsTrue (is_name bytes) → length bytes ≤ MOST_NAME_BYTES
name-short bytes named = grind (arith, nat_tests)

-- They are padded.
pub IsPadded-written : (bytes : List ℕ) → IsTrue (is_name bytes)
    → IsPadded (length bytes) (bytes ++ drop (length bytes) (replicate MOST_NAME_BYTES 0))
IsPadded-written bytes named =
    let short : length bytes ≤ MOST_NAME_BYTES = name-short bytes named in
    let behind : List ℕ = drop (length bytes) (replicate MOST_NAME_BYTES 0) in
    let zeros : behind ≡ replicate (MOST_NAME_BYTES - length bytes) 0 =
    drop-replicate (length bytes) MOST_NAME_BYTES 0 in
    let rest : length (replicate (MOST_NAME_BYTES - length bytes) 0) ≡ MOST_NAME_BYTES - length bytes =
    length-replicate {A = ℕ} (MOST_NAME_BYTES - length bytes) 0 in
    record {
      short = short;
      size = rw zeros (length-append bytes (replicate (MOST_NAME_BYTES - length bytes) 0) ∙ omega (arith, short, rest));
      zeros = drop_at bytes behind (length bytes) refl ∙ zeros;
      named = subst (λ (front : List ℕ). IsTrue (is_name front)) (sym (take_at bytes behind (length bytes) refl)) named;
    }
