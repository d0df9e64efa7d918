-- What the calls of a job speak of.
use Rattle.std.specs.Prelude.{◌≡◌, ◌⊎◌, ℕ, List, [], ◌&&◌, Bool, map, filter, flat_map}
use Rattle.std.specs.Str.{bytes_eq}
use Rattle.transaction.specs.declared.identity.Identity.{Identity}
use Rattle.transaction.specs.declared.transaction.Tx.{Tx}
use Rattle.transaction.specs.declared.update.Update.{Update}
use Rattle.rules.specs.declared.early_flag.EarlyFlag.{EarlyFlag}
use Rattle.rules.specs.State.{StateKey}
use Rattle.rules.specs.Candidate.{Candidate, flagged, opened, updates}
use Rattle.rules.specs.Job.{Job, candidate_at, operated_by}
use Rattle.candidates.specs.declared.open_tx.OpenTx.{OpenTx}
use Rattle.candidates.specs.Written.{keys_in_order}

-- candidate i is this open transaction
abbrev pub IsOpened : Job → ℕ → OpenTx → Type 0
IsOpened j i o = candidate_at j i ≡ opened o.tx o.signers

abbrev pub IsOpenTx : Job → ℕ → Type 0
IsOpenTx j i = (tx : Tx) × (signers : List Identity) × (candidate_at j i ≡ opened tx signers)

abbrev pub IsOpenUpdate : Job → ℕ → Type 0
IsOpenUpdate j i = (u : Update) × (signers : List Identity) × (candidate_at j i ≡ updates u signers)

abbrev pub IsOpen : Job → ℕ → Type 0
IsOpen j i = IsOpenTx j i ⊎ IsOpenUpdate j i

abbrev pub IsFlagged : Job → ℕ → Type 0
IsFlagged j i = (flag : EarlyFlag) × (candidate_at j i ≡ flagged flag)

abbrev pub IsNoOpenTx : Job → ℕ → Type 0
IsNoOpenTx j i = IsFlagged j i ⊎ IsOpenUpdate j i

-- the keys that it reads, in the order of its namespaces and reads
abbrev pub read_keys : Tx → List StateKey
read_keys tx = flat_map (λ n. map (λ r. (n.name, r.key)) n.reads) tx.namespaces

abbrev pub read_by : Candidate → List StateKey
read_by (flagged flag) = []
read_by (opened tx signers) = read_keys tx
read_by (updates u signers) = []

-- the keys that the candidates of a block read, as often as they read them
abbrev pub reads_in : List Candidate → List StateKey
reads_in cs = flat_map read_by cs

-- the keys that it writes, in the keys' order, each once
abbrev pub written_by : Candidate → List StateKey
written_by c = keys_in_order (operated_by c)

-- the keys that the candidates of a block write, in their order, each once
abbrev pub keys_in : List Candidate → List StateKey
keys_in cs = keys_in_order (flat_map written_by cs)

abbrev pub keys_of : Job → List StateKey
keys_of j = keys_in j.candidates

-- of these keys, those of a namespace that pass a test
abbrev pub keys_where : List StateKey → List ℕ → (List ℕ → Bool) → List StateKey
keys_where ks namespace test = filter (λ k. bytes_eq namespace k.0 && test k.1) ks
