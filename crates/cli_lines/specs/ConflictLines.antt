-- The lines that state what made transactions invalid, each with the line feed that ends it.
use Rattle.std.specs.Prelude.{◌≡◌, ℕ, nat_lt, if◌then◌else◌, List, [], ◌++◌, codes}
use Rattle.std.specs.List.{flat_map}
use Rattle.std.specs.Fmt.{decimal}
use Rattle.text_lines.specs.Printed.{word_of}
use Rattle.rules.specs.declared.flag.Flag.{Flag}
use Rattle.rules.specs.declared.flag.Flag.TheVariants.{Valid, BadPayload, BadCreatorSignature, InvalidConfigTransaction, BadProposalTxId, DuplicateTxId, EndorsementPolicyFailure, MvccReadConflict, PhantomReadConflict, TargetChainNotFound, BadRwset, InvalidChaincode}
use Rattle.rules.specs.Flags.{number_of}
use Rattle.reasons.specs.declared.reason.Reason.{Reason}
use Rattle.json_lines.specs.Json.{value_of}
use Rattle.cli_values.specs.declared.format.Format.{Format}
use Rattle.cli_values.specs.declared.format.Format.TheVariants.{Plain, Json}
use Rattle.conflicts.specs.declared.chaincode_line.ChaincodeLine.{ChaincodeLine}
use Rattle.conflicts.specs.declared.key_counts.KeyCounts.{KeyCounts}
use Rattle.conflicts.specs.Chaincodes.{AreChaincodes}
use Rattle.conflicts.specs.Conflict.{conflicts_of}
use Rattle.conflicts.specs.FlagCounts.{with_flag}
use Rattle.conflicts.specs.KeyCounts.{total_of}
use Rattle.conflicts.specs.Lack.{lacks_of}
use Rattle.conflicts.specs.Laws.{all_flags}
use Rattle.conflicts.specs.Ranking.{Line, AreFirst}

-- its name in `peer.TxValidationCode`
abbrev pub flag_name : Flag → List ℕ
flag_name Valid = codes "VALID"
flag_name BadPayload = codes "BAD_PAYLOAD"
flag_name BadCreatorSignature = codes "BAD_CREATOR_SIGNATURE"
flag_name InvalidConfigTransaction = codes "INVALID_CONFIG_TRANSACTION"
flag_name BadProposalTxId = codes "BAD_PROPOSAL_TXID"
flag_name DuplicateTxId = codes "DUPLICATE_TXID"
flag_name EndorsementPolicyFailure = codes "ENDORSEMENT_POLICY_FAILURE"
flag_name MvccReadConflict = codes "MVCC_READ_CONFLICT"
flag_name PhantomReadConflict = codes "PHANTOM_READ_CONFLICT"
flag_name TargetChainNotFound = codes "TARGET_CHAIN_NOT_FOUND"
flag_name BadRwset = codes "BAD_RWSET"
flag_name InvalidChaincode = codes "INVALID_CHAINCODE"

abbrev pub flag_line : Format → Flag → ℕ → List ℕ
flag_line Plain flag n = codes "flag " ++ (decimal (number_of flag) ++ (codes " " ++ (flag_name flag ++ (codes " " ++ (decimal n ++ codes "\n")))))
flag_line Json flag n =
    codes "{\"kind\":\"flag\",\"flag\":" ++ (decimal (number_of flag) ++ (codes ",\"name\":\"" ++ (flag_name flag
    ++ (codes "\",\"count\":" ++ (decimal n ++ codes "}\n")))))

-- a flag that no transaction has gets no line
abbrev pub line_of_some : Format → Flag → ℕ → List ℕ
line_of_some format flag n = if nat_lt 0 n then flag_line format flag n else []

abbrev pub counted_line : Format → List Reason → Flag → List ℕ
counted_line format reasons flag = line_of_some format flag (with_flag flag reasons)

abbrev pub lines_of : Format → List Reason → List Flag → List ℕ
lines_of format reasons flags = flat_map (counted_line format reasons) flags

-- by the flags' numbers
abbrev pub flag_lines : Format → List Reason → List ℕ
flag_lines format reasons = lines_of format reasons all_flags

-- in which ways, and how many of all in their own blocks
abbrev pub ways : KeyCounts → List ℕ
ways n =
    codes " stale " ++ (decimal n.stale_reads ++ (codes " phantom " ++ (decimal n.phantoms ++ (codes " policy " ++ (decimal n.own_policy
    ++ (codes " touched " ++ (decimal n.policy_touched ++ (codes " in-block " ++ (decimal n.in_block ++ codes "\n")))))))))

-- the same in JSON
abbrev pub way_members : KeyCounts → List ℕ
way_members n =
    codes ",\"stale\":" ++ (decimal n.stale_reads ++ (codes ",\"phantom\":" ++ (decimal n.phantoms ++ (codes ",\"policy\":" ++ (decimal n.own_policy
    ++ (codes ",\"touched\":" ++ (decimal n.policy_touched ++ (codes ",\"in_block\":" ++ (decimal n.in_block ++ codes "}\n")))))))))

abbrev pub key_words : Line → List ℕ
key_words l = (codes "key " ++ (word_of l.0.0 ++ (codes " " ++ (word_of l.0.1 ++ (codes " " ++ decimal (total_of l.1)))))) ++ ways l.1

abbrev pub key_members : List ℕ → List ℕ → ℕ → KeyCounts → List ℕ
key_members namespace key total n =
    codes "{\"kind\":\"key\",\"namespace\":" ++ (value_of namespace ++ (codes ",\"key\":" ++ (value_of key
    ++ ((codes ",\"count\":" ++ decimal total) ++ way_members n))))

abbrev pub key_line : Format → Line → List ℕ
key_line Plain l = key_words l
key_line Json l = key_members l.0.0 l.0.1 (total_of l.1) l.1

abbrev pub chaincode_words : ChaincodeLine → List ℕ
chaincode_words l =
    codes "chaincode " ++ (word_of l.most_missing.0.0 ++ (codes " " ++ (decimal l.transactions
    ++ (codes " missing " ++ (word_of l.most_missing.0.1 ++ (codes " " ++ (decimal (total_of l.most_missing.1) ++ codes "\n")))))))

abbrev pub chaincode_members : List ℕ → ℕ → List ℕ → ℕ → List ℕ
chaincode_members chaincode transactions principal times =
    codes "{\"kind\":\"chaincode\",\"chaincode\":" ++ (value_of chaincode ++ ((codes ",\"count\":" ++ (decimal transactions ++ codes ",\"missing\":"))
    ++ (value_of principal ++ (codes ",\"times\":" ++ (decimal times ++ codes "}\n")))))

abbrev pub chaincode_line : Format → ChaincodeLine → List ℕ
chaincode_line Plain l = chaincode_words l
chaincode_line Json l = chaincode_members l.most_missing.0.0 l.transactions l.most_missing.0.1 (total_of l.most_missing.1)

abbrev pub report_text : Format → List Reason → List Line → List ChaincodeLine → List ℕ
report_text format reasons keys chaincodes = flag_lines format reasons ++ (flat_map (key_line format) keys ++ flat_map (chaincode_line format) chaincodes)

-- What is reported of transactions that have these reasons, with `top` keys at most.
pub record IsReport (format : Format) (reasons : List Reason) (top : ℕ) (text : List ℕ) : Type 0 where
  pub keys : List Line
  pub are_first : AreFirst (conflicts_of reasons) top keys
  pub chaincodes : List ChaincodeLine
  pub are_chaincodes : AreChaincodes (lacks_of reasons) chaincodes
  pub is : text ≡ report_text format reasons keys chaincodes
