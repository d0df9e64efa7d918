use Rattle.std.proofs.Common.{◌≡◌, ℕ, ◌<◌, ◌/◌, length, ap, ◌∙◌, arith}
use Rattle.std.specs.Prelude.{◌==◌, slice_set, if◌then◌else◌}
use Rattle.std.specs.Int.{bit_at}
use Rattle.std.specs.Prelude.{◌%◌}
use Rattle.std.proofs.lemmas.List.{get_or_default}
use Rattle.task_desk.specs.Bits.{members}
use Rattle.task_desk.proofs.Members.{members-length, write-members, write-words}
use Rattle.task_desk.proofs.bit_set.BitSet.set.Goals as goal

below_count : (words : _) (count k : ℕ) (now : _) → members words count ≡ now → k < length now → k < count
below_count words count k now is lt = omega (arith, members-length words count, ap (λ ms. length ms) is)

pub index_mut-word-requires : goal.index_mut-word-requires
index_mut-word-requires c =
    let lt = below_count c.self.inside.words.items c.self.inside.count c.args.k c.args.self.now c.self.view_is c.requires in
    let enough = c.self.invariant.enough in
    let fits = c.self.inside.words.ok in omega (arith, lt, enough)

pub invariant_of-self : goal.invariant_of-self
invariant_of-self c =
    let words = c.self.inside.words.items in
    let lt = below_count words c.self.inside.count c.args.k c.args.self.now c.self.view_is c.requires in
    let enough = c.self.invariant.enough in
    let inside : c.args.k / 64 < length words = omega (arith, lt, enough) in
    let word = c.index_mut-word.ensures.value ∙ get_or_default words (c.args.k / 64) c.index_mut-word.result.now 0 inside in
    write-words words c.self.inside.count c.args.k c.with_bit.result c.args.member c.self.invariant lt
    (λ i small. c.with_bit.ensures i small ∙ ap (λ (n : ℕ). if i == c.args.k % 64 then c.args.member else bit_at n i == 1) word)

pub returns : goal.returns
returns c =
    let words = c.self.inside.words.items in
    let lt = below_count words c.self.inside.count c.args.k c.args.self.now c.self.view_is c.requires in
    let enough = c.self.invariant.enough in
    let inside : c.args.k / 64 < length words = omega (arith, lt, enough) in
    let word = c.index_mut-word.ensures.value ∙ get_or_default words (c.args.k / 64) c.index_mut-word.result.now 0 inside in
    write-members words c.self.inside.count c.args.k c.with_bit.result c.args.member c.self.invariant lt
    (λ i small. c.with_bit.ensures i small ∙ ap (λ (n : ℕ). if i == c.args.k % 64 then c.args.member else bit_at n i == 1) word)
    ∙ ap (λ ms. slice_set ms c.args.k c.args.member) c.self.view_is
