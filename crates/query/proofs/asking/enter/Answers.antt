use Rattle.query.proofs.Keeping.{sees, takes, of_one_book}
use Rattle.query.proofs.asking.enter.Goals as goal

pub enter_as-requires : goal.enter_as-requires
enter_as-requires c x = sees _ _ x

pub begins-requires : goal.begins-requires
begins-requires c = of_one_book c.requires.0 c.in_ok-reading.reading.part.value c.get.result.now c.args.known.now c.again-front.result c.get.ensures c.again-front.ensures c.requires.2 (c.in_ok-reading.ensures.1.1 c.requires.0 c.requires.1)

pub returns-then-begins-clause-takes : goal.returns-then-begins-clause-takes
returns-then-begins-clause-takes c told is = takes told c.in_ok-reading.reading.part.value c.get.result.now c.args.known.now c.again-front.result c.get.ensures c.again-front.ensures c.if-begins.ensures (c.in_ok-reading.ensures.1.1 told is)
