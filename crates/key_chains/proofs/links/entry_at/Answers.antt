use Rattle.std.proofs.Common.{arith}
use Rattle.key_chains.proofs.Chaining.{length-lists, read_list, read_link, older_below}
use Rattle.key_chains.proofs.links.entry_at.Goals as goal

pub offset_bounds-entries-number : goal.offset_bounds-entries-number
offset_bounds-entries-number g c = omega (arith, c.requires.place, length-lists c.args.entries.now)

pub bounds-entries-number : goal.bounds-entries-number
bounds-entries-number g c = omega (arith, c.requires.place, length-lists c.args.entries.now)

pub returns-clause-list : goal.returns-clause-list
returns-clause-list g c = read_list c.args.entries.now c.args.number c.index-entries-number.result c.requires.back c.requires.place c.index-entries-number.is

pub returns-clause-link : goal.returns-clause-link
returns-clause-link g c = read_link c.args.entries.now c.args.number c.index-entries-number.result c.requires.back c.requires.place c.index-entries-number.is

pub returns-clause-older : goal.returns-clause-older
returns-clause-older g c = older_below c.args.entries.now c.args.number c.index-entries-number.result c.requires.back c.requires.place c.index-entries-number.is
