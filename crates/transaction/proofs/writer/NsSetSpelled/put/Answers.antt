use Rattle.std.proofs.Common.{◌≡◌, ◌++◌, List, subst}
use Rattle.transaction.specs.declared.transaction.Read.{Read}
use Rattle.transaction.specs.declared.transaction.Range.{Range}
use Rattle.transaction.specs.declared.transaction.Write.{Write}
use Rattle.transaction.specs.declared.transaction.PolicyWrite.{PolicyWrite}
use Rattle.transaction.specs.Grammar.{counted, listed, read_bytes, range_bytes, write_bytes, policy_write_bytes, AreItems, IsRead, IsRange, IsWrite, IsPolicyWrite}
use Rattle.transaction.proofs.PutLoop.{five_parts}
use Rattle.transaction.proofs.writer.NsSetSpelled.put.Goals as goal

pub returns : goal.returns
returns c =
    let n = c.args.self.now in
    let name = c.in_ok-put_name.ensures in
    let reads = subst (λ (xs : List Read). (c.put_list.new.out.items ≡ c.put_name.new.out.items ++ listed 2 read_bytes xs) × AreItems IsRead xs) c.as_slice.ensures c.in_ok-put_list.ensures in
    let ranges = subst (λ (xs : List Range). (c.put_list-2.new.out.items ≡ c.put_list.new.out.items ++ listed 2 range_bytes xs) × AreItems IsRange xs) c.as_slice-2.ensures c.in_ok-put_list-2.ensures in
    let writes = subst (λ (xs : List Write). (c.put_list-3.new.out.items ≡ c.put_list-2.new.out.items ++ listed 2 write_bytes xs) × AreItems IsWrite xs) c.as_slice-3.ensures c.in_ok-put_list-3.ensures in
    let policies = subst (λ (xs : List PolicyWrite). (c.put_list-4.new.out.items ≡ c.put_list-3.new.out.items ++ listed 2 policy_write_bytes xs) × AreItems IsPolicyWrite xs) c.as_slice-4.ensures c.in_ok-put_list-4.ensures in (
      five_parts c.args.out.now.items c.put_name.new.out.items c.put_list.new.out.items c.put_list-2.new.out.items c.put_list-3.new.out.items c.put_list-4.new.out.items
          (counted 1 n.name) (listed 2 read_bytes n.reads) (listed 2 range_bytes n.ranges) (listed 2 write_bytes n.writes) (listed 2 policy_write_bytes n.policy_writes)
          name.0 reads.0 ranges.0 writes.0 policies.0,
      record { name = name.1; reads = reads.1; ranges = ranges.1; writes = writes.1; policy_writes = policies.1 },
    )
