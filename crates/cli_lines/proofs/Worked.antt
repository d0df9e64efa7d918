-- Rows worked by hand, which compute: lines in words, and the objects of the same content.
use Rattle.std.proofs.Common.{◌≡◌, ℕ, List, [], ◌∷◌, refl, codes}
use Rattle.std.specs.Str.{is_utf8, chars}
use lib.Utf8.{encode}
use Rattle.std.specs.Fmt.{digits}
use Rattle.hex.specs.Hex.{encode_with}
use Rattle.rules.specs.declared.flag.Flag.TheVariants.{Valid, MvccReadConflict}
use Rattle.conflicts.specs.declared.chaincode_line.ChaincodeLine.{ChaincodeLine}
use Rattle.conflicts.specs.declared.key_counts.KeyCounts.{KeyCounts}
use Rattle.cli_values.specs.declared.format.Format.TheVariants.{Plain, Json}
use Rattle.cli_lines.specs.declared.refusal.Refusal.TheVariants as refusal
use Rattle.cli_lines.specs.BlockLines.{accepted_line, block_line, commit_line, refused_line}
use Rattle.cli_lines.specs.ConflictLines.{flag_line, line_of_some, key_line, chaincode_line}
use Rattle.cli_lines.specs.SessionLines.{end_line, fault_line, help_line}

-- ---- blocks

accepted_words : accepted_line Plain 7 (0xab ∷ 1 ∷ []) (Valid ∷ MvccReadConflict ∷ []) ≡ codes "accepted 7 ab01 0 11\n"
unfolding encode_with digits
accepted_words = refl

accepted_object : accepted_line Json 7 (0xab ∷ 1 ∷ []) (Valid ∷ MvccReadConflict ∷ []) ≡ codes "{\"kind\":\"accepted\",\"number\":7,\"hash\":\"ab01\",\"flags\":[0,11]}\n"
unfolding encode_with digits
accepted_object = refl

no_transactions : accepted_line Json 0 (1 ∷ []) [] ≡ codes "{\"kind\":\"accepted\",\"number\":0,\"hash\":\"01\",\"flags\":[]}\n"
unfolding encode_with digits
no_transactions = refl

commit_words : commit_line Plain 7 (0xab ∷ []) ≡ codes "commit 7 ab\n"
unfolding encode_with digits
commit_words = refl

block_object : block_line Json 7 (0xab ∷ []) ≡ codes "{\"kind\":\"block\",\"number\":7,\"hash\":\"ab\"}\n"
unfolding encode_with digits
block_object = refl

refused_words : refused_line Plain 2 (refusal.WrongNumber 1 0) ≡ codes "refused 2 C2 want 1 got 0\n"
unfolding digits
refused_words = refl

refused_object : refused_line Json 2 (refusal.WrongNumber 1 0) ≡ codes "{\"kind\":\"refused\",\"place\":2,\"fault\":\"C2\",\"want\":1,\"got\":0}\n"
unfolding digits
refused_object = refl

no_numbers : refused_line Json 1 refusal.BadMagic ≡ codes "{\"kind\":\"refused\",\"place\":1,\"fault\":\"C1 B1\"}\n"
unfolding digits
no_numbers = refl

-- ---- conflicts

flag_words : flag_line Plain MvccReadConflict 12 ≡ codes "flag 11 MVCC_READ_CONFLICT 12\n"
unfolding digits
flag_words = refl

flag_object : flag_line Json MvccReadConflict 12 ≡ codes "{\"kind\":\"flag\",\"flag\":11,\"name\":\"MVCC_READ_CONFLICT\",\"count\":12}\n"
unfolding digits
flag_object = refl

none_has_it : line_of_some Json Valid 0 ≡ []
none_has_it = refl

abbrev counts : KeyCounts
counts = record { stale_reads = 1; phantoms = 2; own_policy = 3; policy_touched = 4; in_block = 5 }

-- a quotation mark and a line feed
abbrev key : List ℕ
key = 34 ∷ 10 ∷ []

key_words : key_line Plain ((codes "cc", key), counts) ≡ codes "key cc \"%0A 10 stale 1 phantom 2 policy 3 touched 4 in-block 5\n"
unfolding digits
key_words = refl

key_object : key_line Json ((codes "cc", key), counts) ≡ codes "{\"kind\":\"key\",\"namespace\":\"cc\",\"key\":\"\\\"\\u000a\",\"count\":10,\"stale\":1,\"phantom\":2,\"policy\":3,\"touched\":4,\"in_block\":5}\n"
unfolding is_utf8 chars encode encode_with digits
key_object = refl

no_text : key_line Json ((codes "cc", 255 ∷ []), counts) ≡ codes "{\"kind\":\"key\",\"namespace\":\"cc\",\"key\":{\"hex\":\"ff\"},\"count\":10,\"stale\":1,\"phantom\":2,\"policy\":3,\"touched\":4,\"in_block\":5}\n"
unfolding is_utf8 chars encode encode_with digits
no_text = refl

abbrev chaincode : ChaincodeLine
chaincode = record { transactions = 11; most_missing = ((codes "cc", codes "Org1.peer"), counts) }

chaincode_words : chaincode_line Plain chaincode ≡ codes "chaincode cc 11 missing Org1.peer 10\n"
unfolding digits
chaincode_words = refl

chaincode_object : chaincode_line Json chaincode ≡ codes "{\"kind\":\"chaincode\",\"chaincode\":\"cc\",\"count\":11,\"missing\":\"Org1.peer\",\"times\":10}\n"
unfolding is_utf8 chars encode digits
chaincode_object = refl

-- ---- a session

end_words : end_line Plain 3 ≡ codes "end 3\n"
unfolding digits
end_words = refl

end_object : end_line Json 3 ≡ codes "{\"kind\":\"end\",\"status\":3}\n"
unfolding digits
end_object = refl

fault_words : fault_line Plain (codes "bad word") ≡ codes "fault bad word\n"
fault_words = refl

fault_object : fault_line Json (codes "no \"") ≡ codes "{\"kind\":\"fault\",\"text\":\"no \\\"\"}\n"
unfolding is_utf8 chars encode
fault_object = refl

help_words : help_line Plain (codes "  --ids") ≡ codes "  --ids\n"
help_words = refl

help_object : help_line Json (codes "  --ids") ≡ codes "{\"kind\":\"help\",\"text\":\"  --ids\"}\n"
unfolding is_utf8 chars encode
help_object = refl
