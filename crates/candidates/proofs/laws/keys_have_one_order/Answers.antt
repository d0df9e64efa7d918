use Rattle.candidates.proofs.KeysInOrder.{keys_rise, keys_stay, only_keys}
use Rattle.candidates.proofs.laws.keys_have_one_order.Goals as goal

pub returns : goal.returns
returns c = record { rising = keys_rise; members = keys_stay; only = only_keys }
