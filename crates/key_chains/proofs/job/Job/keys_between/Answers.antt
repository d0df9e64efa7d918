use Rattle.std.proofs.Common.{◌≡◌, Bool, true, false, ◌&&◌, List, map, refl, sym, ap, ◌∙◌}
use Rattle.std.specs.Prelude.{IsTrue, flat_map}
use Rattle.std.specs.Str.{bytes_eq}
use Rattle.std.specs.Cmp.Lexicographic.{bytes_decides}
use Rattle.candidates.specs.Seen.{seen}
use Rattle.candidates.specs.Written.{keys_in_order}
use Rattle.rules.specs.State.{StateKey, is_among}
use Rattle.rules.specs.Candidate.{Candidate}
use Rattle.rules.specs.Ranges.{is_within}
use Rattle.rules.specs.Job.{Job}
use Rattle.key_chains.specs.Job.{written_by, keys_where}
use Rattle.key_chains.specs.Operations.{operations}
use Rattle.key_chains.proofs.Bounds.{among_passed}
use Rattle.key_chains.proofs.Unwritten.{nobody_writes}
use Rattle.key_chains.proofs.job.Job.keys_between.Goals as goal

pub returns-clause-keys : goal.returns-clause-keys
returns-clause-keys c =
    c.between.ensures
    ∙ ap (λ (keys : List StateKey). keys_where keys c.args.namespace.now (is_within c.args.start.now c.args.end.now)) (
    c.self.invariant.1.keys ∙ ap (λ (cs : List Candidate). keys_in_order (flat_map written_by cs)) (ap (λ (j : Job). j.candidates) c.self.view_is))

pub returns-clause-operated : goal.returns-clause-operated
returns-clause-operated c k i namespace within writes = by (is_among k c.self.inside.chains.keys) refl
  where
    same : ◌≡◌ {A = List Candidate} (map seen c.self.inside.candidates.items) c.args.self.now.candidates
    same = ap (λ (j : Job). j.candidates) c.self.view_is

    passes : (bytes_eq c.args.namespace.now k.0 && is_within c.args.start.now c.args.end.now k.1) ≡ true
    passes = rw ((bytes_decides c.args.namespace.now k.0).1 (sym namespace), within) refl

    by : (b : Bool) → is_among k c.self.inside.chains.keys ≡ b → IsTrue (is_among k c.between.result.now)
    by true e =
        ap (is_among k) c.between.ensures ∙ among_passed (λ x. bytes_eq c.args.namespace.now x.0 && is_within c.args.start.now c.args.end.now x.1) c.self.inside.chains.keys k passes e
    by false e = absurd (writes (
        ap (λ (cs : List Candidate). operations cs k i) (sym same) ∙ nobody_writes (map seen c.self.inside.candidates.items) k (ap (is_among k) (sym c.self.invariant.1.keys) ∙ e) i))
