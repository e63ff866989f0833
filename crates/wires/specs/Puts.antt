-- What a writer over a sink promises.
use Rattle.std.specs.Prelude.{◌≡◌, ℕ, ◌+◌, List, length, IsTrue, Result}
use Rattle.std.specs.Result.{IsOk}
use Rattle.wires.specs.Bytes.{PutAppends}
use Rattle.wires.specs.Causes.{HasCause}
use Rattle.wires.specs.declared.sinks.Sink.{Ghosts}

-- a text was put into a sink, in whatever pieces: all of it, or at a failure, which has its cause, a front of it;
-- nothing else of the sink changed, and one that surely takes the text and `n` more bytes still takes `n`
pub record Puts {S E : Type 0} (g : Ghosts S) (old new : S) (result : Result (Unit {0}) E) (text : List ℕ) : Type 0
  where
    pub bytes : PutAppends (g.written old) (g.written new) result text
    pub cause : HasCause (g.write_faults old) (g.write_faults new) result
    pub beside : g.beside_sink new ≡ g.beside_sink old
    pub sure : (n : ℕ) → IsTrue (g.takes old (length text + n)) → IsOk result
    pub room : (n : ℕ) → IsTrue (g.takes old (length text + n)) → IsTrue (g.takes new n)
