use Rattle.std.proofs.Common.{◌≡◌, refl, ap, sym, subst, ◌∙◌}
use Rattle.header_hash.specs.Hashes.{header_hash_of}
use Rattle.rules.specs.Commit.{commit_hash_in, committed_of}
use Rattle.rules.specs.Delta.{AreRealChanges, changes_in, uses_in, definitions_in}
use Rattle.rules.specs.State.{with_changes}
use Rattle.next_block.specs.Changes.{AddEntriesOf, Changes}
use Rattle.next_block.specs.PendingDelta.{hash_by_parts}
use Rattle.next_block.proofs.NextDeltas.{changes-is_delta}
use Rattle.next_block.proofs.next_delta.pending_delta_of.Goals as goal

pub returns : goal.returns
returns c =
    let j = c.args.job.now in
    let next = c.args.next in
    let b = next.block.now in
    let d = c.of_parts.result in
    let is = c.of_parts.ensures in
    let changed = c.in_ok-changed.ensures in
    let hash : hash_by_parts next.last c.version.result c.number.result c.args.flags.items c.in_ok-changed.changed.update.items (definitions_in c.in_ok-changed.changed.effects.definitions.items) ≡ commit_hash_in next.last b.version j =
    λ i. hash_by_parts next.last (c.version.ensures i) (c.number.ensures i) (c.requires.flags i) (changed.update i) (changed.definitions i) in
    let of_header = c.header_hash.ensures ∙ ap header_hash_of c.header.ensures in
    let made : Changes j c.args.ids.now (committed_of next.bytes next.last b j) d = record {
      state = ap (λ cs. with_changes j.state (changes_in cs)) is.changes ∙ changed.state;
      real = subst (λ cs. AreRealChanges j.state (changes_in cs)) (sym is.changes) changed.real;
      history = subst (λ es. AddEntriesOf j es) (sym is.entries) changed.history;
      uses = ap uses_in is.uses ∙ changed.uses;
      definitions = ap definitions_in is.definitions ∙ changed.definitions;
      block = is.block ∙ (λ i. record { bytes = next.bytes; header_hash = of_header i; commit_hash = hash i; version = c.version.ensures i; flags = c.requires.flags i });
    } in
    λ channel accepts w job_is ids_are last_is.
    changes-is_delta channel accepts w next.bytes b j c.args.ids.now next.last (committed_of next.bytes next.last b j) d job_is ids_are last_is refl made
