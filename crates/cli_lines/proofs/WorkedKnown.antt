-- The line of a known block, worked by hand: in words, and the object of the same content.
use Rattle.std.proofs.Common.{◌≡◌, [], ◌∷◌, refl, codes}
use Rattle.std.specs.Fmt.{digits}
use Rattle.hex.specs.Hex.{encode_with}
use Rattle.cli_values.specs.declared.format.Format.TheVariants.{Plain, Json}
use Rattle.known_blocks.specs.declared.known.Known.{Known}
use Rattle.known_blocks.specs.declared.known.KnownAs.{KnownAs}
use Rattle.known_blocks.specs.declared.known.KnownAs.TheVariants.{Same, Twin, Fork, Other}
use Rattle.cli_lines.specs.KnownLine.{known_line}

abbrev known_as : KnownAs → Known
known_as how = record { number = 17; how = how; accepted = 0xab ∷ 1 ∷ []; own = 0xcd ∷ 2 ∷ [] }

same_words : known_line Plain (known_as Same) ≡ codes "known 17 same ab01 is cd02\n"
unfolding encode_with digits
same_words = refl

twin_words : known_line Plain (known_as Twin) ≡ codes "known 17 twin ab01 is cd02\n"
unfolding encode_with digits
twin_words = refl

fork_words : known_line Plain (known_as Fork) ≡ codes "known 17 fork ab01 is cd02\n"
unfolding encode_with digits
fork_words = refl

other_object : known_line Json (known_as Other) ≡ codes "{\"kind\":\"known\",\"number\":17,\"as\":\"other\",\"accepted\":\"ab01\",\"own\":\"cd02\"}\n"
unfolding encode_with digits
other_object = refl

fork_object : known_line Json (known_as Fork) ≡ codes "{\"kind\":\"known\",\"number\":17,\"as\":\"fork\",\"accepted\":\"ab01\",\"own\":\"cd02\"}\n"
unfolding encode_with digits
fork_object = refl
