-- What the first version returns, worked out by hand.
use Rattle.std.specs.Prelude.{◌≡◌, true, false, [], ◌∷◌, codes, Err, refl}
use Rattle.block.specs.declared.fault.BlockFault.TheVariants.{BadMagic, Truncated}
use Rattle.policy_eval.specs.Accepts.{Accepts}
use Rattle.rules.specs.declared.answer.Refused.TheVariants.{Malformed, WrongPrevious, Memory}
use Rattle.first_version.specs.AnswersThen.{is_second, answer_then, answers_then}

pub second : is_second (codes "FBK2 and more") ≡ true
second = refl

pub first : is_second (codes "FBK1 and more") ≡ false
first = refl

pub too_short : is_second (codes "FBK") ≡ false
too_short = refl

pub the_magic_is_wrong : answer_then (codes "FBK2") (Err WrongPrevious) ≡ Err (Malformed BadMagic)
the_magic_is_wrong = refl

pub each_in_order : (accepts : Accepts) → answers_then (record { bytes = codes "FBK1"; accepts = accepts } ∷ record { bytes = codes "FBK2"; accepts = accepts } ∷ record { bytes = []; accepts = accepts } ∷ [])
    (Err (Malformed Truncated) ∷ Err (Malformed Truncated) ∷ Err Memory ∷ []) ≡ Err (Malformed Truncated) ∷ Err (Malformed BadMagic) ∷ Err Memory ∷ []
each_in_order accepts = refl
