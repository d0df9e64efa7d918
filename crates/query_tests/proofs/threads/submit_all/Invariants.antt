use Rattle.std.proofs.Common.{◌≡◌, IfSome}
use Rattle.query_tests.proofs.threads.submit_all.Given as goal

abbrev pub invariant-loop-bytes : goal.invariant-loop-bytes
invariant-loop-bytes g l = record {
  book : l.committer.book ≡ l.fn.committer.book;
  last : IfSome l.last (λ r. r.front.book ≡ l.fn.committer.book);
}
