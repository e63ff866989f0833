-- A session between two steps of its work, as contracts see it, and what a stretch of its work does.
use Rattle.std.specs.Prelude.{◌≡◌, ℕ, ◌+◌, ◌⊎◌, List, [], ◌∷◌, ◌++◌, Bool, true, false, length, if◌then◌else◌}
use Rattle.std.specs.Io.KnownBytes.{Consumes, Appends}
use Rattle.std.specs.declared.option.Option.{Option}
use Rattle.reply_lines.specs.Tails.{Spot, Tail}
use Rattle.session.specs.Modes.{Gives}
use Rattle.session.specs.Shelved.{Shelved}
use Rattle.text_forms.specs.Items.{Item, Bye, NoBye, items_on}
use Rattle.tree_versions.specs.Records.{RecordView, Grows}
use Rattle.wires.specs.Lazy.{Wire}

-- What was taken: how many bytes, and those that belong to no item whose answer was begun. These are the lines of a
-- text that is open and bytes behind it; or bytes that are dropped, since a BYE was answered.
pub record Rest : Type 0 where
  pub taken : ℕ
  pub over : Bool
  pub open_text : Option (List (List ℕ))
  pub bytes : List ℕ

-- A reply in work: the bytes of its run that weren't taken by the peer yet, and the spot behind the run. Where no reply
-- is in work, no such bytes and no lines are left.
pub record Work (R C : Type 0) : Type 0 where
  pub run : List ℕ
  pub reply : R
  pub at : Spot C

-- A session between two steps.
pub record Point (R C : Type 0) : Type 0 where
  pub shelf : Shelved
  pub wire : Wire
  pub rest : Rest
  pub work : Work R C

-- the whole items of what was taken and of bytes that follow
abbrev pub items_after : Rest → Bool → List ℕ → List Item
items_after rest met more = if rest.over then [] else items_on met rest.open_text (rest.bytes ++ more)

-- what may come from a peer: nothing behind its end
abbrev pub MayCome : Bool → Bool → List ℕ → Type 0
MayCome false met more = Unit {0}
MayCome true met more = (met ≡ true) × (more ≡ [])

-- Bytes came, and items were parted off. Whatever comes then, the items from before are these and then those from
-- after. What is dropped begins behind a BYE, and stays so.
pub record Parts (a b : Rest) (ended : Bool) (bytes : List ℕ) (items : List Item) : Type 0 where
  pub count : b.taken ≡ a.taken + length bytes
  pub are : (met : Bool) (more : List ℕ) → MayCome ended met more
      → items_after a met (bytes ++ more) ≡ items ++ items_after b met more
  pub over : a.over ≡ true → (b.over ≡ true) × (items ≡ [])
  pub bye : b.over ≡ true → (a.over ≡ true) ⊎ ((front : List Item) × (items ≡ front ++ Bye ∷ []))
  pub quiet : b.over ≡ false → NoBye items

-- This may still have to be written: the rest of the run, and then a text that may follow from the place behind it.
pub record Owed {R C : Type 0} (Line : List RecordView → R → ℕ → C → List ℕ → C → Type 0) (records : List RecordView)
    (work : Work R C) (text : List ℕ) : Type 0 where
  pub tail : List ℕ
  pub is : Tail C (Line records work.reply) work.at.left work.at.place work.at.carry tail
  pub joins : text ≡ work.run ++ tail

-- No reply is in work.
pub record IsIdle {R C : Type 0} (work : Work R C) : Type 0 where
  pub run : work.run ≡ []
  pub left : work.at.left ≡ 0

-- What was owed before, and the text that answers the items: what was written and what is owed now is the first and
-- then the second.
pub record Owes {R C : Type 0} (Line : List RecordView → R → ℕ → C → List ℕ → C → Type 0) (alone : Bool)
    (a b : Point R C) (items : List Item) (written now : List ℕ) : Type 0 where
  pub before : List ℕ
  pub text : List ℕ
  pub owed : Owed Line a.shelf.seen a.work before
  pub joins : written ++ now ≡ before ++ text
  pub gives : Gives alone a.shelf items text b.shelf

-- The work from one point to another: it took bytes, parted off items, and wrote bytes.
pub record Stretch {R C : Type 0} (Line : List RecordView → R → ℕ → C → List ℕ → C → Type 0) (alone : Bool)
    (a b : Point R C) (items : List Item) : Type 0 where
  pub bytes : List ℕ
  pub written : List ℕ
  pub grows : Grows a.shelf.seen b.shelf.seen
  pub gone : Consumes a.wire.left b.wire.left bytes
  pub wrote : Appends a.wire.written b.wire.written written
  pub ended : a.wire.ended ≡ true → (b.wire.ended ≡ true) × (bytes ≡ [])
  pub parts : Parts a.rest b.rest b.wire.ended bytes items
  pub owes : (now : List ℕ) → Owed Line b.shelf.seen b.work now → Owes Line alone a b items written now
