-- What reading on does to a reader and to the wire of its peer.
use Rattle.std.specs.Prelude.{◌≡◌, ℕ, ◌+◌, ◌<◌, List, ◌++◌, length, IsTrue}
use Rattle.std.specs.Io.KnownBytes.{Consumes}
use Rattle.wires.specs.Lazy.{ReadTells, Wire}
use Rattle.wires.specs.declared.lazy.Got.{Got}
use Rattle.wires.specs.declared.lazy.Got.TheVariants.{Bytes, End, NotYet, Failed}
use Rattle.line_reader.specs.Buffered.{Buffered, Holds}

-- so many bytes are buffered, where none was before, and are held behind those that were held
pub record Buffers (count : ℕ) (old new : Buffered) : Type 0 where
  pub some : 0 < count
  pub length_is : length new.bytes ≡ count
  pub taken : new.taken ≡ old.taken + count
  pub holds : (bytes : List ℕ) → Holds old bytes → Holds new (bytes ++ new.bytes)

-- what a reader has after the answer of a read: the bytes that came, and else it is as it was
abbrev pub Takes : Got → Buffered → Buffered → Type 0
Takes (Bytes count) old new = Buffers count old new
Takes End old new = new ≡ old
Takes NotYet old new = new ≡ old
Takes Failed old new = new ≡ old

-- a read was made, with room for a byte: the bytes that are buffered now are just those that were taken of the peer,
-- and its wire is as the answer tells; behind the end each answer is the end
pub record Reads (answer : Got) (old new : Buffered) (wire wire' : Wire) : Type 0 where
  pub takes : Takes answer old new
  pub gone : Consumes wire.left wire'.left new.bytes
  pub tells : ReadTells answer new.bytes wire wire'
  pub stays : IsTrue wire.ended → answer ≡ End
