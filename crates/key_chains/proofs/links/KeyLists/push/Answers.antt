use Rattle.std.proofs.Common.{◌<◌, Option, None, sym, subst, length, arith}
use Rattle.std.proofs.lemmas.List.{get_or_read}
use Rattle.std.specs.Prelude.{ℕ, slice_set, Some}
use Rattle.key_chains.specs.Linked.{KeyedLists, IsLink}
use Rattle.key_chains.specs.Lists.{lists_of}
use Rattle.key_chains.proofs.KeyListing.{IsPushed, pushed, link_at}
use Rattle.key_chains.proofs.Chaining.{linked_after}
use Rattle.key_chains.proofs.links.KeyLists.push.Given as given
use Rattle.key_chains.proofs.links.KeyLists.push.Goals as goal

abbrev made : (g : given.Over) (c : goal.After-self-1 g) → IsPushed c.args.key c.args.item c.args.self.now (lists_of c.push.new.self.items, slice_set c.self.inside.newest.items c.args.key (Some c.in-Ok.number))
made g c =
    let lt : c.args.key < length c.self.inside.newest.items = subst (λ (v : KeyedLists g.row.T.Denot). c.args.key < length v.1) (sym c.self.view_is) c.requires in
    subst (λ (v : KeyedLists g.row.T.Denot). IsPushed c.args.key c.args.item v (lists_of c.push.new.self.items, slice_set c.self.inside.newest.items c.args.key (Some c.in-Ok.number))) c.self.view_is
    (pushed c.self.inside.entries.items c.push.new.self.items c.self.inside.newest.items c.args.key c.args.item c.index-older.result.now c.in-Ok.number c.in_ok-push.ensures.items
    (get_or_read c.self.inside.newest.items c.args.key c.index-older.result.now lt c.index-older.ensures None) (omega (arith, c.in-Ok.ensures, c.len.ensures)) lt c.self.invariant.1)

pub invariant_of-self-2 : goal.invariant_of-self-2
invariant_of-self-2 g c =
    let lt : c.args.key < length c.self.inside.newest.items = subst (λ (v : KeyedLists g.row.T.Denot). c.args.key < length v.1) (sym c.self.view_is) c.requires in
    let read = get_or_read c.self.inside.newest.items c.args.key c.index-older.result.now lt c.index-older.ensures None in
    let link = subst (λ (l : Option ℕ). IsLink (lists_of c.self.inside.entries.items) l) (sym read) (link_at (lists_of c.self.inside.entries.items) c.self.inside.newest.items c.args.key c.self.invariant.1) in
    (linked_after c.self.inside.entries.items c.push.new.self.items (record { item = c.args.item; older = c.index-older.result.now }) c.self.invariant.0 link c.in_ok-push.ensures.items, (made g c).all)

pub returns-clause-key : goal.returns-clause-key
returns-clause-key g c = (made g c).here

pub returns-clause-others : goal.returns-clause-others
returns-clause-others g c = (made g c).others

pub returns-clause-links : goal.returns-clause-links
returns-clause-links g c = (made g c).links
