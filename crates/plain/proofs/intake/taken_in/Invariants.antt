use Rattle.std.proofs.Common.{◌≡◌, ◌++◌, [], drop, take, map}
use Rattle.transaction.specs.Items.{item_of}
use Rattle.rules.specs.Candidate.{used_id, candidates_from}
use Rattle.plain.specs.Seen.{seen, channel_with}
use Rattle.plain.proofs.intake.taken_in.Given as goal

abbrev pub invariant-loop-bytes : goal.invariant-loop-bytes
invariant-loop-bytes g l = record {
  candidates :
      candidates_from (channel_with l.setting.channel.now l.setting.world.now) (g.V.Verify.accepts l.setting.verifier.now) l.setting.alone l.setting.world.now.first_uses [] (map (item_of l.version) l.txs)
      ≡ map seen l.candidates.items ++ candidates_from (channel_with l.setting.channel.now l.setting.world.now) (g.V.Verify.accepts l.setting.verifier.now) l.setting.alone l.setting.world.now.first_uses l.earlier.items (map (item_of l.version) (drop l.bytes-index l.txs));
  ids : l.ids.items ≡ map (used_id l.setting.channel.now (g.V.Verify.accepts l.setting.verifier.now)) (map (item_of l.version) (take l.bytes-index l.txs));
}
