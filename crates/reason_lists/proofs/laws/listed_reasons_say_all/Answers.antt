use Rattle.std.proofs.Common.{List, [], refl, sym, subst}
use Rattle.reason_lists.specs.declared.pooled.PooledReason.{PooledReason}
use Rattle.reason_lists.specs.Reading.{SayAll}
use Rattle.reason_lists.proofs.AllSaid.{say_all}
use Rattle.reason_lists.proofs.laws.listed_reasons_say_all.Goals as goal

pub returns : goal.returns
returns c = λ number reasons l are.
    subst (λ (ps : List PooledReason). SayAll number l.pool l.identities reasons ps) (sym are.each)
    (say_all number l.pool [] l.identities [] 0 0 reasons are.pooled refl are.named refl)
