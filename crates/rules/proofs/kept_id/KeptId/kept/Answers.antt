use Rattle.std.proofs.Common.{take, ap, ◌∙◌, arith}
use Rattle.std.proofs.lemmas.List.{take_all}
use Rattle.rules.proofs.kept_id.KeptId.kept.Goals as goal

pub returns : goal.returns
returns c = ap (take 64) (c.in_ok-new.ensures ∙ c.in_ok-from_slice.ensures) ∙ take_all 64 c.args.id.now (omega (arith, c.told-id))
