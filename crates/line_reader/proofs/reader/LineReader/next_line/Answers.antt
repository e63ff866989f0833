use Rattle.line_reader.proofs.Holding.{next_tells}
use Rattle.line_reader.proofs.reader.LineReader.next_line.Goals as goal

pub returns-clause-tells : goal.returns-clause-tells
returns-clause-tells c = λ bytes h.
    let part = c.add_part.ensures in
    next_tells c.add_part.new.self c.add_part.result bytes (c.go_on.ensures.holds bytes h) c.go_on.ensures.unended
    part.found part.all
