-- Verifiers that agree on the requests of items find the same candidates and the same used ids.
use Rattle.std.proofs.Common.{◌≡◌, ℕ, ◌==◌, Bool, cond, List, [], ◌∷◌, ◌++◌, map, length, Option, Some, None, refl, ap, ◌∙◌}
use Rattle.std.specs.Prelude.{filter, is_none, if◌then◌else◌, option_to_list}
use Rattle.std.specs.Str.{bytes_eq}
use Rattle.transaction.specs.declared.identity.Identity.{Identity}
use Rattle.transaction.specs.declared.transaction.Endorsement.{Endorsement}
use Rattle.transaction.specs.declared.transaction.Tx.{Tx}
use Rattle.transaction.specs.declared.update.Update.{Update}
use Rattle.transaction.specs.declared.item.Item.{Item}
use Rattle.transaction.specs.declared.item.Item.TheVariants as item
use Rattle.transaction.specs.Grammar.{identity_bytes, body_bytes}
use Rattle.transaction.specs.UpdateGrammar.{update_body_bytes}
use Rattle.header_hash.specs.Hashes.{tx_id_of}
use Rattle.policy_eval.specs.Accepts.{Accepts}
use Rattle.policy_eval.specs.Signers.{each_once, signers_of}
use Rattle.policy_eval.specs.UpdateSigners.{update_signers_of}
use Rattle.policy_eval.specs.Over.{is_accepted_over}
use Rattle.channel.specs.Configuration.{Configuration}
use Rattle.rules.specs.declared.early_flag.EarlyFlag.{EarlyFlag}
use Rattle.rules.specs.declared.early_flag.EarlyFlag.TheVariants.{TargetChainNotFound, BadCreatorSignature, BadProposalTxId}
use Rattle.rules.specs.FirstUses.{FirstUses}
use Rattle.rules.specs.Candidate.{opened, updates, first_failed, origin_of, origin_fault, content_fault, flagged_or, open_of, candidate_of, used_id, is_used, candidates_from}
use Rattle.rules.specs.World.{World, height_of}
use Rattle.rules.specs.Commit.{channel_in, job_of}
use Rattle.signature_requests.specs.declared.request.Request.{Request}
use Rattle.signature_requests.specs.Requests.{endorser_request, requests_of, requests_in}
use Rattle.signature_requests.specs.Agreement.{AgreeOn}

module _ (accepts others : Accepts) where
  -- ---- parts of a list

  pub agree-front : (xs ys : List Request) → AgreeOn accepts others (xs ++ ys) → AgreeOn accepts others xs
  agree-front [] ys agree = tt
  agree-front (x ∷ xs) ys agree = (agree.0, agree-front xs ys agree.1)

  pub agree-behind : (xs ys : List Request) → AgreeOn accepts others (xs ++ ys) → AgreeOn accepts others ys
  agree-behind [] ys agree = agree
  agree-behind (x ∷ xs) ys agree = agree-behind xs ys agree.1

  -- ---- who signed

  accepted-same : (body : List ℕ) (es : List Endorsement) → AgreeOn accepts others (map (endorser_request body) es) → filter (is_accepted_over accepts body) es ≡ filter (is_accepted_over others body) es
  accepted-same body [] agree = refl
  accepted-same body (e ∷ es) agree =
      let one : is_accepted_over accepts body e ≡ is_accepted_over others body e = agree.0 in
      let rest = accepted-same body es agree.1 in
      λ i. cond (one i) (e ∷ rest i) (rest i)

  pub signers-same : (tx : Tx) → AgreeOn accepts others (requests_of (Some (item.Tx tx))) → signers_of accepts tx ≡ signers_of others tx
  signers-same tx agree = ap (λ (es : List Endorsement). each_once (map (λ (e : Endorsement). e.endorser) es)) (accepted-same (body_bytes tx) tx.endorsements agree.1)

  pub update_signers-same : (u : Update) → AgreeOn accepts others (requests_of (Some (item.Update u))) → update_signers_of accepts u ≡ update_signers_of others u
  update_signers-same u agree = ap (λ (es : List Endorsement). each_once (map (λ (e : Endorsement). e.endorser) es)) (accepted-same (update_body_bytes u) u.endorsements agree.1)

  -- ---- one item

  origin-same : (channel : Configuration) (x : Item) → AgreeOn accepts others (requests_of (Some x)) → origin_fault channel accepts x ≡ origin_fault channel others x
  origin-same channel x agree =
      ap (λ (signed : Bool). first_failed (
      (bytes_eq (origin_of x).channel channel.name, TargetChainNotFound)
      ∷ (signed, BadCreatorSignature)
      ∷ (bytes_eq (origin_of x).id (tx_id_of (origin_of x).nonce (identity_bytes (origin_of x).creator)), BadProposalTxId)
      ∷ [])) agree.0

  open-same : (x : Item) → AgreeOn accepts others (requests_of (Some x)) → open_of accepts x ≡ open_of others x
  open-same (item.Tx tx) agree = ap (λ (signers : List Identity). opened tx signers) (signers-same tx agree)
  open-same (item.Update u) agree = ap (λ (signers : List Identity). updates u signers) (update_signers-same u agree)

  candidate-same : (channel : Configuration) (alone used : Bool) (x : Option Item) → AgreeOn accepts others (requests_of x) → candidate_of channel accepts alone used x ≡ candidate_of channel others alone used x
  candidate-same channel alone used None agree = refl
  candidate-same channel alone used (Some x) agree =
      let origin = origin-same channel x agree in
      let whole = open-same x agree in
      λ i. flagged_or (origin i) (flagged_or (content_fault channel alone used x) (whole i))

  pub id-same : (channel : Configuration) (x : Option Item) → AgreeOn accepts others (requests_of x) → used_id channel accepts x ≡ used_id channel others x
  id-same channel None agree = refl
  id-same channel (Some x) agree = ap (λ (fault : Option EarlyFlag). if is_none fault then Some (origin_of x).id else None) (origin-same channel x agree)

  -- ---- the items of a block

  pub ids-same : (channel : Configuration) (items : List (Option Item)) → AgreeOn accepts others (requests_in items) → map (used_id channel accepts) items ≡ map (used_id channel others) items
  ids-same channel [] agree = refl
  ids-same channel (x ∷ items) agree =
      let first = id-same channel x (agree-front (requests_of x) (requests_in items) agree) in
      let rest = ids-same channel items (agree-behind (requests_of x) (requests_in items) agree) in
      λ i. first i ∷ rest i

  candidates-same : (channel : Configuration) (alone : Bool) (uses : FirstUses) (earlier : List (List ℕ)) (items : List (Option Item)) → AgreeOn accepts others (requests_in items)
      → candidates_from channel accepts alone uses earlier items ≡ candidates_from channel others alone uses earlier items
  candidates-same channel alone uses earlier [] agree = refl
  candidates-same channel alone uses earlier (x ∷ items) agree =
      let here = agree-front (requests_of x) (requests_in items) agree in
      let own = used_id channel others x in
      let first = candidate-same channel alone (is_used uses earlier own) x here in
      let rest = candidates-same channel alone uses (earlier ++ option_to_list own) items (agree-behind (requests_of x) (requests_in items) agree) in
      ap (λ (id : Option (List ℕ)). candidate_of channel accepts alone (is_used uses earlier id) x ∷ candidates_from channel accepts alone uses (earlier ++ option_to_list id) items) (id-same channel x here)
      ∙ (λ i. first i ∷ rest i)

  pub job-same : (channel : Configuration) (w : World) (items : List (Option Item)) → AgreeOn accepts others (requests_in items) → job_of channel accepts w items ≡ job_of channel others w items
  job-same channel w items agree =
      let same = candidates-same (channel_in channel w) (length items == 1) w.first_uses [] items agree in
      λ i. record { number = height_of w; state = w.state; definitions = w.definitions; admin = channel.admin; candidates = same i }
