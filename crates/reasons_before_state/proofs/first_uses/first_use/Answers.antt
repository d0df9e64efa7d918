use Rattle.std.proofs.Common.{◌≡◌, ◌<◌, length, length-take, List, get_or, Some, sym, ap, ◌∙◌, arith}
use Rattle.rules.specs.declared.flag.Flag.{Flag}
use Rattle.rules.specs.declared.flag.Flag.TheVariants.{Valid}
use Rattle.rules.specs.Commit.{job_of}
use Rattle.rules.specs.Fold.{flag}
use Rattle.rules.proofs.BlockFlags.{length-flags, flags-at}
use Rattle.reasons.specs.declared.id_use.IdUse.{IdUse}
use Rattle.reasons.specs.declared.id_use.IdUse.TheVariants.{Here}
use Rattle.reasons_before_state.proofs.Uses.{use_here}
use Rattle.reasons_before_state.proofs.first_uses.first_use.Goals as goal

pub returns-in_err-place : goal.returns-in_err-place
returns-in_err-place c channel accepts items same flags first used =
    let it = use_here channel accepts c.args.world.now c.args.ids.now items same c.args.id.now c.args.i (sym c.flag_of.ensures ∙ c.in_default.is) c.place_of.result c.place_of.ensures.place first used in
    absurd (cc (c.in_err-place.was, it.1))

pub returns : goal.returns
returns c channel accepts items same flags first used =
    let j = job_of channel accepts c.args.world.now items in
    let it = use_here channel accepts c.args.world.now c.args.ids.now items same c.args.id.now c.args.i (sym c.flag_of.ensures ∙ c.in_default.is) c.place_of.result c.place_of.ensures.place first used in
    let place : c.in_ok-place.place ≡ it.0 = cc (c.in_ok-place.was, it.1) in
    let count : length c.args.flags.now ≡ length j.candidates = ap (λ (l : List Flag). length l) flags ∙ length-flags j in
    let before = length-take c.args.i c.args.ids.now in
    let inside : c.in_ok-place.place < length j.candidates = omega (arith, count, before, c.in_ok-place.ensures.inside, c.requires.place, c.requires.flags) in
    let given = ap (λ (l : List Flag). get_or l c.in_ok-place.place Valid) flags ∙ flags-at j c.in_ok-place.place Valid inside in
    ap (λ (g : Flag). Some (Here c.in_ok-place.place g)) given ∙ (λ t. Some (Here (place t) (flag j (place t)))) ∙ ap (λ (x : IdUse). Some x) (sym it.2)
