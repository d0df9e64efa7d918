-- Faults of the handles as those of the committer. No public contract cites this.
use Rattle.query.specs.declared.opening.OpenFault as query
use Rattle.query.specs.declared.opening.OpenFault.TheVariants as of_query
use Rattle.commit.specs.declared.opening.OpenFault.{OpenFault}
use Rattle.commit.specs.declared.opening.OpenFault.TheVariants as own

abbrev pub open_fault_of : query.OpenFault → OpenFault
open_fault_of of_query.Readers = own.Readers
open_fault_of of_query.NoPlace = own.NoPlace
open_fault_of of_query.Memory = own.Memory
