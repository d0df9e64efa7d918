-- One thing is said of a block.
use Rattle.std.proofs.Common.{◌≡◌, ℕ, List, Option, Some, None, refl, sym, ap, subst, ◌∙◌}
use Rattle.std.proofs.lemmas.Option.{none-some, same_Some}
use Rattle.block.specs.declared.block.Block.{Block}
use Rattle.rules.specs.declared.committed.CommittedBlock.{CommittedBlock}
use Rattle.rules.specs.World.{World}
use Rattle.known_blocks.specs.declared.known.Known.{Known}
use Rattle.known_blocks.specs.declared.known.KnownAs.{KnownAs}
use Rattle.known_blocks.specs.declared.known.KnownAs.TheVariants.{Same, Twin, Fork, Other}
use Rattle.known_blocks.specs.Known.{IsKnownAs, IsBeside, IsSaid}

one_kind : (w : World) (c : CommittedBlock) (b : Block) (x y : KnownAs) → IsKnownAs w c b x → IsKnownAs w c b y → x ≡ y
one_kind w c b Same Same p q = refl
one_kind w c b Same Twin p q = absurd (q.0 p)
one_kind w c b Same Fork p q = absurd (q.0 p)
one_kind w c b Same Other p q = absurd (q.0 p)
one_kind w c b Twin Same p q = absurd (p.0 q)
one_kind w c b Twin Twin p q = refl
one_kind w c b Twin Fork p q = absurd (q.2 p.2)
one_kind w c b Twin Other p q = absurd (q.1 p.1)
one_kind w c b Fork Same p q = absurd (p.0 q)
one_kind w c b Fork Twin p q = absurd (p.2 q.2)
one_kind w c b Fork Fork p q = refl
one_kind w c b Fork Other p q = absurd (q.1 p.1)
one_kind w c b Other Same p q = absurd (p.0 q)
one_kind w c b Other Twin p q = absurd (p.1 q.1)
one_kind w c b Other Fork p q = absurd (p.1 q.1)
one_kind w c b Other Other p q = refl

same_parts : (x y : Known) → x.number ≡ y.number → x.how ≡ y.how → x.accepted ≡ y.accepted → x.own ≡ y.own → x ≡ y
same_parts x y number how accepted own =
    ap (λ (n : ℕ). record x { number = n }) number
    ∙ (ap (λ (h : KnownAs). record y { how = h; accepted = x.accepted; own = x.own }) how
    ∙ (ap (λ (h : List ℕ). record y { accepted = h; own = x.own }) accepted
    ∙ ap (λ (h : List ℕ). record y { own = h }) own))

one_beside : (w : World) (c : CommittedBlock) (b : Block) (x y : Known) → IsBeside w c b x → IsBeside w c b y → x ≡ y
one_beside w c b x y p q = same_parts x y (p.number ∙ sym q.number) (one_kind w c b x.how y.how p.how q.how) (p.accepted ∙ sym q.accepted) (p.own ∙ sym q.own)

pub one_said : (w : World) (b : Block) (x y : Option Known) → IsSaid w b x → IsSaid w b y → x ≡ y
one_said w b None None p q = refl
one_said w b None (Some y) p q = absurd (none-some q.0 (sym p ∙ q.1))
one_said w b (Some x) None p q = absurd (none-some p.0 (sym q ∙ p.1))
one_said w b (Some x) (Some y) p q =
    let same : q.0 ≡ p.0 = same_Some q.0 p.0 (sym q.1 ∙ p.1) in
    ap Some (one_beside w p.0 b x y p.2 (subst (λ (c : CommittedBlock). IsBeside w c b y) same q.2))
