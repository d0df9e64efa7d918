-- That the orders of lines are total, which their trait requires.
use Rattle.std.specs.Cmp.{IsTotalOrder, nat_cmp_total, then_total, on_total, back_total}
use Rattle.std.specs.Cmp.Lexicographic.{nat_list_cmp_total}
use Rattle.rules.proofs.Keys.{key_cmp_total}
use Rattle.conflicts.specs.declared.chaincode_line.ChaincodeLine.{ChaincodeLine}
use Rattle.conflicts.specs.Chaincodes.{chaincode_cmp}
use Rattle.conflicts.specs.KeyCounts.{total_of}
use Rattle.conflicts.specs.Ranking.{Line, line_cmp}

pub line_cmp_total : IsTotalOrder line_cmp
line_cmp_total = then_total (on_total (λ (l : Line). total_of l.1) (back_total nat_cmp_total)) (on_total (λ (l : Line). l.0) key_cmp_total)

pub chaincode_cmp_total : IsTotalOrder chaincode_cmp
chaincode_cmp_total = then_total (on_total (λ (l : ChaincodeLine). l.transactions) (back_total nat_cmp_total)) (on_total (λ (l : ChaincodeLine). l.most_missing.0.0) nat_list_cmp_total)
