use Rattle.std.proofs.Common.{◌∙◌, arith}
use Rattle.state_keys.proofs.Words.{word_is}
use Rattle.state_keys.proofs.head.word_at.Goals as goal

pub returns : goal.returns
returns c = c.from_be_bytes.ensures ∙ word_is c.args.head.now c.args.place (omega arith)
