use Rattle.std.proofs.Common.{arith}
use Rattle.txid_index.proofs.Adding.{index_alike, there_alike}
use Rattle.txid_index.proofs.ids.TxIds.reserve.Goals as goal

pub invariant_of-self : goal.invariant_of-self
invariant_of-self c = (
  index_alike c.self.inside.lists.items c.make_room.new.lists.items c.self.inside.firsts.entries c.make_room.new.firsts.entries c.self.inside.others.entries c.make_room.new.others.entries c.self.invariant.0
      c.make_room.ensures.lists c.make_room.ensures.firsts c.make_room.ensures.others,
  there_alike c.self.inside.lists.items c.make_room.new.lists.items c.self.inside.firsts.entries c.make_room.new.firsts.entries c.self.invariant.1 c.make_room.ensures.lists c.make_room.ensures.firsts,
  omega (arith, c.self.invariant.2, c.make_room.ensures.more.1),
  omega (arith, c.self.invariant.3, c.make_room.ensures.more.2),
  c.self.invariant.4,
  λ some. omega (arith, c.self.invariant.5 some, c.make_room.ensures.more.0, c.make_room.ensures.len),
  λ some. omega (arith, c.self.invariant.6 some, c.make_room.ensures.len),
)

pub invariant_of-self-2 : goal.invariant_of-self-2
invariant_of-self-2 c = (
  index_alike c.self.inside.lists.items c.make_room.new.lists.items c.self.inside.firsts.entries c.make_room.new.firsts.entries c.self.inside.others.entries c.make_room.new.others.entries c.self.invariant.0
      c.make_room.ensures.lists c.make_room.ensures.firsts c.make_room.ensures.others,
  there_alike c.self.inside.lists.items c.make_room.new.lists.items c.self.inside.firsts.entries c.make_room.new.firsts.entries c.self.invariant.1 c.make_room.ensures.lists c.make_room.ensures.firsts,
  omega (arith, c.self.invariant.2, c.make_room.ensures.more.1, c.max-self-inside.ensures, c.in_ok-make_room.ensures.room.1),
  omega (arith, c.self.invariant.3, c.make_room.ensures.more.2, c.max-self-inside.ensures, c.in_ok-make_room.ensures.room.2),
  omega (arith, c.self.invariant.4, c.max-self-inside.ensures, c.if-additional-gt-MOST.false),
  λ some. c.in_ok-make_room.ensures.room.0,
  λ some. omega (arith, c.if-len-gt-MOST.false, c.len.ensures, c.make_room.ensures.len),
)
