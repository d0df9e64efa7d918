use Rattle.history_index.proofs.Standing.{no_history}
use Rattle.history_index.proofs.index.HistoryIndex.new.Goals as goal

pub returns-clause-history : goal.returns-clause-history
returns-clause-history c = no_history c.new.result.items c.new.ensures.items
