-- The two ends of a deque may cross threads.
use denote.RattleType.{RattleType}
use denote.Param.Send.{IsSend, IsSync}
use Rattle.std.specs.contracts.alloc.Global as Heap
use Rattle.std.specs.contracts.impls.GlobalAllocator.TheImpl.{ghosts}
use Rattle.std.proofs.Crossing.{send, sync, frees}
use Rattle.crossbeam_deque.specs.declared.protocol.Protocol.{Ghosts}
use Rattle.crossbeam_deque.specs.contracts.handles.Worker as worker
use Rattle.crossbeam_deque.specs.contracts.handles.Stealer as stealer
use Rattle.crossbeam_deque.proofs.handles.Worker.TheSendSync as owner
use Rattle.crossbeam_deque.proofs.handles.Stealer.TheSendSync as thief

pub owner_send : (T V P : RattleType) (g : Ghosts P.Denot T.Denot V.Denot) → IsSend T → IsSend (worker.the_row T Heap.the_row V P ghosts g)
owner_send T V P g s = owner.the_send T Heap.the_row V P ghosts g s send sync frees

pub thief_sync : (T V P : RattleType) (g : Ghosts P.Denot T.Denot V.Denot) → IsSend T → IsSync (stealer.the_row T Heap.the_row V P ghosts g)
thief_sync T V P g s = thief.the_sync T Heap.the_row V P ghosts g s send sync frees
