use Rattle.std.proofs.Common.{sym, ◌∙◌}
use Rattle.txid_index.proofs.found.first_use_of.Goals as goal

pub used-used-requires : goal.used-used-requires
used-used-requires c = c.requires c.id_hash.result c.in_ok-first.first (sym (c.copied.ensures ∙ c.get.ensures.value) ∙ c.in_ok-first.was)
