use Rattle.c_calls.proofs.Refusing.{not_opened}
use Rattle.c_calls.proofs.opening.fabcommit_open.Goals as goal

pub returns-in-Err-clause-opened : goal.returns-in-Err-clause-opened
returns-in-Err-clause-opened c = λ ok. absurd (not_opened c.args.channel.now c.args.keys.now c.in-Err.code c.in-Err.ensures.code ok)
