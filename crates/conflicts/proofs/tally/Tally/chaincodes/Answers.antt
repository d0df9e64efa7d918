use Rattle.std.proofs.Common.{List, [], map, subst, sym, ap, ◌∙◌}
use Rattle.std.specs.List.Sorted.{IsPermutation, IsSorted}
use Rattle.conflicts.specs.declared.chaincode_line.ChaincodeLine.{ChaincodeLine}
use Rattle.conflicts.specs.Chaincodes.{is_in, firsts, line_in, chaincode_cmp}
use Rattle.conflicts.specs.Lack.{lacks_of}
use Rattle.conflicts.specs.Ranking.{Line, IsRanking}
use Rattle.conflicts.specs.Tally.{Tally, CountsKeys}
use Rattle.conflicts.proofs.Spread.{lines_add_up}
use Rattle.conflicts.proofs.tally.Tally.chaincodes.Goals as goal

pub returns : goal.returns
returns c = λ reasons counted.
    let lacks = lacks_of reasons in
    let ranking = c.in_ok-ranking.ranking.items in
    let ranked : IsRanking lacks ranking = c.in_ok-ranking.ensures lacks (subst (λ (t : Tally). CountsKeys lacks t.lacks) (sym c.self.view_is) counted.lacks) in
    record {
      ranking = ranking;
      ranked = ranked;
      each = subst (λ (all : List ChaincodeLine). IsPermutation all c.from_vec.result)
          (ap (λ (r : List Line). map (line_in r) (firsts [] r)) c.as_slice.ensures.value
          ∙ ap (λ f. map f (firsts [] ranking)) (λ i l. record { transactions = (lines_add_up lacks ranking (is_in l.0.0) ranked) i; most_missing = l }))
          (subst (λ (all : List ChaincodeLine). IsPermutation (map (line_in c.as_slice.result.now) (firsts [] c.as_slice.result.now)) all) (sym c.from_vec.ensures) c.in_ok-chaincode_lines.ensures.each);
      order = subst (λ (all : List ChaincodeLine). IsSorted chaincode_cmp all) (sym c.from_vec.ensures) c.in_ok-chaincode_lines.ensures.order;
    }
