use Rattle.query_lang.proofs.Sought.{first-found, first-none, first-within, none-left}
use Rattle.query_lang.proofs.runs.first_bit.Goals as goal

pub returns-then-rest-eq0-clause-none : goal.returns-then-rest-eq0-clause-none
returns-then-rest-eq0-clause-none c = λ i behind low. none-left c.args.word c.args.place c.if-rest-eq0.true i behind

pub returns-clause-within : goal.returns-clause-within
returns-clause-within c = first-within c.args.word c.args.place c.ranges.word.fits c.if-rest-eq0.false

pub returns-clause-none : goal.returns-clause-none
returns-clause-none c = first-none c.args.word c.args.place c.ranges.word.fits c.if-rest-eq0.false

pub returns-clause-found : goal.returns-clause-found
returns-clause-found c = λ low. first-found c.args.word c.args.place c.ranges.word.fits c.if-rest-eq0.false
