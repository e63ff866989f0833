-- A reply to CERTIFICATE is accepted, its first line included.
use Rattle.std.proofs.Common.{◌≡◌, ℕ, ◌+◌, ◌≤◌, ◌<◌, List, [], ◌∷◌, ◌++◌, length, codes, decimal, refl, arith}
use Rattle.std.proofs.Common.{append_assoc, length-append, subst}
use Rattle.std.proofs.lemmas.Fmt.{length-decimal-le}
use Rattle.std.specs.List.{concat}
use Rattle.certifier.proofs.Headed.{reply_is_accepted}
use Rattle.certifier.specs.Accepting.{IsHead}
use Rattle.certifier.specs.Blocks.{IsLaidOut, certificate_layout, headed, layout_size}
use Rattle.query_lang.proofs.Feeds.{NoFeed-from_test, concat_clean, decimal_clean}
use Rattle.query_lang.specs.Replies.{head_text}
use Rattle.session.proofs.Sizes.{certificate_small}
use Rattle.session.specs.Laws.{CertificateIsAccepted}
use Rattle.tree_versions.specs.Records.{tree_of}

-- The first line of a reply, without its line feed.
abbrev head_of : ℕ → List ℕ → ℕ → List ℕ
head_of version word lines =
    concat (codes "@" ∷ decimal version ∷ codes " " ∷ word ∷ codes " " ∷ decimal lines ∷ [])

head_text-fed : (version : ℕ) (word : List ℕ) (lines : ℕ)
    → head_text version word lines ≡ head_of version word lines ++ 10 ∷ []
head_text-fed version word lines = simp append_assoc

-- That of a certificate begins a reply.
certificate_head : (version lines : ℕ) → version ≤ 256 → lines ≤ 9000000
    → IsHead (head_of version (codes "CERTIFICATE") lines)
certificate_head version lines few small =
    let version_short : length (decimal version) ≤ 9 =
    length-decimal-le 9 version (omega arith) (omega arith) (omega arith) in
    let lines_short : length (decimal lines) ≤ 9 =
    length-decimal-le 9 lines (omega arith) (omega arith) (omega arith) in
    let size : length (head_of version (codes "CERTIFICATE") lines) ≤ 512 = simp length-append (omega arith) in
    let space = NoFeed-from_test (codes " ") refl in
    record {
      reply = refl;
      short = size;
      clean = concat_clean
          (codes "@" ∷ decimal version ∷ codes " " ∷ codes "CERTIFICATE" ∷ codes " " ∷ decimal lines ∷ []) (
            NoFeed-from_test (codes "@") refl,
            (
              decimal_clean version,
              (space, (NoFeed-from_test (codes "CERTIFICATE") refl, (space, (decimal_clean lines, tt)))),
            ),
          );
    }

pub certificate_is_accepted : CertificateIsAccepted
certificate_is_accepted seen version reply more ended few is holds answers =
    let lines = layout_size seen.sheet.net (certificate_layout seen.sheet) in
    let head = head_of version (codes "CERTIFICATE") lines in
    let told = subst
    (λ line. IsLaidOut seen.sheet.names (tree_of seen) (headed line (certificate_layout seen.sheet)) reply)
    (head_text-fed version (codes "CERTIFICATE") lines) answers in
    reply_is_accepted seen.sheet (tree_of seen) head reply more ended
    (certificate_head version lines few (certificate_small seen.sheet is)) is refl holds told
