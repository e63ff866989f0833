-- A session that was sent MOST_BYTES, and no BYE among them, ends so.
use Rattle.std.proofs.Common.{◌≡◌, ℕ, List, [], ◌∷◌, ◌++◌, length, Some, Bool, true, false, sym, ap, ◌∙◌}
use Rattle.std.proofs.Common.{arith, subst, inl, inr, refl}
use Rattle.std.proofs.lemmas.List.{append_cancel_right}
use Rattle.std.specs.Io.KnownBytes.{Consumes}
use Rattle.std.specs.declared.option.Option.{Option}
use Rattle.line_reader.specs.declared.reader.TheConstants.{MOST_BYTES}
use Rattle.session.specs.Sessions.{EndsAs, IsComplete, Moment}
use Rattle.session.specs.declared.session.SessionEnd.{SessionEnd}
use Rattle.session.specs.declared.session.SessionEnd.TheVariants.{Done, ReadFault, WriteFault, TooLong}
use Rattle.text_forms.specs.Items.{Item, Ask, Load, Bye, NoBye, items_of}

-- what was taken from a source that tells its bytes
taken_is : (told told2 : Option (List ℕ)) (taken rest bytes : List ℕ) → told ≡ Some (taken ++ rest)
    → told2 ≡ Some rest → Consumes told told2 bytes
    → bytes ≡ taken
taken_is told told2 taken rest bytes before after gone =
    let known : Consumes (Some (taken ++ rest)) (Some rest) bytes =
    subst (λ (a : Option (List ℕ)). Consumes a (Some rest) bytes) before
    (subst (λ (b : Option (List ℕ)). Consumes told b bytes) after gone) in
    append_cancel_right bytes taken rest (sym known)

-- items that end in a BYE have one
bye_behind : (front : List Item) → NoBye (front ++ Bye ∷ []) → ⊥
bye_behind [] quiet = quiet
bye_behind (Ask line ∷ front) quiet = bye_behind front quiet
bye_behind (Load text whole ∷ front) quiet = bye_behind front quiet
bye_behind (Bye ∷ front) quiet = quiet

-- What was sent: MOST_BYTES without a BYE, all of which were taken without an end.
pub record IsLong (start now : Moment) : Type 0 where
  pub taken : List ℕ
  pub rest : List ℕ
  pub before : start.wire.left ≡ Some (taken ++ rest)
  pub after : now.wire.left ≡ Some rest
  pub many : length taken ≡ MOST_BYTES
  pub unmet : now.wire.ended ≡ false
  pub quiet : NoBye (items_of false taken)

-- MOST_BYTES without a BYE, and no end, are too many
pub always_long : (end : SessionEnd) (alone : Bool) (start now : Moment) → EndsAs end alone start now
    → IsLong start now → (end ≡ WriteFault → ⊥) → end ≡ TooLong
always_long Done alone start now e long sound = absurd (complete e.why)
  where
    same : e.bytes ≡ long.taken
    same = taken_is start.wire.left now.wire.left long.taken long.rest e.bytes long.before long.after e.gone

    complete : IsComplete now.wire e.bytes (items_of now.wire.ended e.bytes) → ⊥
    complete (inl (front, is)) =
        let items : items_of false long.taken ≡ front ++ Bye ∷ [] =
        ap (items_of false) (sym same) ∙ ap (λ (b : Bool). items_of b e.bytes) (sym long.unmet) ∙ is in
        bye_behind front (subst NoBye items long.quiet)
    complete (inr over) = let e : true ≡ false = sym over.0 ∙ long.unmet in cc
always_long ReadFault alone start now e long sound =
    absurd (omega (
      arith,
      e.why.0,
      ap length (taken_is start.wire.left now.wire.left long.taken long.rest e.bytes long.before long.after e.gone),
      long.many,
    ))
always_long WriteFault alone start now e long sound = absurd (sound refl)
always_long TooLong alone start now e long sound = refl
