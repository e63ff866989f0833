use Rattle.std.proofs.Common.{ℕ, arith, ◌∙◌, ◌-◌, ◌+◌, ◌<◌, ◌++◌, length, take, drop, sym, ap, refl}
use Rattle.std.proofs.lemmas.List.{length-take, length-drop}
use Rattle.text_forms.specs.Lines.{front_of}
use Rattle.line_reader.proofs.Fronts.{buffered_around}
use Rattle.line_reader.specs.Buffered.{Buffered}
use Rattle.line_reader.proofs.reader.LineReader.add_part.Goals as goal

pub returns-in-Some-clause-found : goal.returns-in-Some-clause-found
returns-in-Some-clause-found c = λ _.
    let bytes = c.self.inside.buffer.items in
    let from = c.self.inside.from in
    let to = c.self.inside.to in
    let at = c.in-Some.at in
    let part = take at (take (to - from) (drop from bytes)) in
    let within : at < length (take (to - from) (drop from bytes)) =
    rw c.deref.ensures.value at c.in-Some.ensures.place in
    let inside : from + at < to = omega (arith, within, length-take {A = ℕ}, length-drop {A = ℕ}) in
    let is = rw c.deref.ensures.value at c.in-Some.ensures.feed in record {
      part = part;
      clean = rw c.deref.ensures.value at c.in-Some.ensures.before;
      is = ap (λ (b : Buffered). b.bytes) (sym c.self.view_is) ∙ buffered_around bytes from to at inside within is;
      front = rw c.deref.ensures.value at c.add_to_front.ensures.front
          ∙ ap (λ (b : Buffered). front_of (b.line ++ part)) c.self.view_is;
      whole = refl;
    }
