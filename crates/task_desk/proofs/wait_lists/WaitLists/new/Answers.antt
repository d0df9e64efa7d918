use Rattle.std.proofs.Common.{ap, ◌∙◌, map}
use Rattle.task_desk.specs.Links.{list_of}
use Rattle.task_desk.proofs.Linking.{no-lists, new-kept}
use Rattle.task_desk.proofs.wait_lists.WaitLists.new.Goals as goal

pub invariant_of-result : goal.invariant_of-result
invariant_of-result c = new-kept c.in_ok-next.next.items c.in_ok-lists.lists.items c.args.count c.requires c.in_ok-next.ensures c.in_ok-lists.ensures

pub returns : goal.returns
returns c = ap (map (list_of c.in_ok-next.next.items)) c.in_ok-lists.ensures ∙ no-lists c.in_ok-next.next.items c.args.count
