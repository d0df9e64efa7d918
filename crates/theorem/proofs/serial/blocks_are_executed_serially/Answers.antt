use Rattle.rules.specs.Commit.{items_of}
use Rattle.theorem.proofs.AllPlaces.{all_serial}
use Rattle.theorem.proofs.serial.blocks_are_executed_serially.Goals as goal

pub returns-clause-flags : goal.returns-clause-flags
returns-clause-flags c channel accepts w b = (all_serial channel accepts w (items_of b)).flags

pub returns-clause-state : goal.returns-clause-state
returns-clause-state c channel accepts w bytes b = (all_serial channel accepts w (items_of b)).state

pub returns-clause-history : goal.returns-clause-history
returns-clause-history c channel accepts w bytes b = (all_serial channel accepts w (items_of b)).history

pub returns-clause-first_uses : goal.returns-clause-first_uses
returns-clause-first_uses c channel accepts w bytes b = (all_serial channel accepts w (items_of b)).first_uses

pub returns-clause-policies : goal.returns-clause-policies
returns-clause-policies c channel accepts w bytes b = (all_serial channel accepts w (items_of b)).policies
