-- Listed reasons are read out of their records.
use Rattle.std.proofs.Common.{◌≡◌, ℕ, ◌+◌, List, [], ◌∷◌, ◌++◌, length, map, Option, refl, sym, ap, ◌∙◌}
use Rattle.std.specs.List.{flat_map}
use Rattle.std.proofs.lemmas.List.{append_assoc}
use Rattle.transaction.specs.declared.identity.Identity.{Identity}
use Rattle.reasons.specs.declared.reason.Reason.{Reason}
use Rattle.reasons.specs.declared.shortfall.Shortfall.{Shortfall}
use Rattle.reason_lists.specs.declared.places.Places.{Places}
use Rattle.reason_lists.specs.declared.pooled.PooledIdentity.{PooledIdentity}
use Rattle.reason_lists.specs.Places.{places_in}
use Rattle.reason_lists.specs.Shortfalls.{shortfall_in, policy_in, missing_in, missing_org}
use Rattle.reason_lists.specs.Pooled.{id_in, reason_bytes, identity_bytes, identity_list_bytes, identities_from, signers_of, refused_of, pooled_bytes, identities_of, pooled_reason, reasons_pool, all_identities, reasons_from}
use Rattle.reason_lists.specs.Reading.{parts_read, Says, SayAll}
use Rattle.reason_lists.proofs.Pieces.{further, first, second, third, fourth, fifth, sixth, seventh, parts-identities, length-identities, between}

module _ (number : ℕ) (pool front rest : List ℕ) (n : ℕ) (r : Reason) (whole : pool ≡ front ++ (pooled_bytes r ++ rest)) (at : n ≡ length front)
    (all before behind : List PooledIdentity) (m : ℕ) (listed : all ≡ before ++ (identities_of n r ++ behind)) (from : m ≡ length before) where
  abbrev p : Places
  p = places_in r

  abbrev x : Option Shortfall
  x = shortfall_in r

  abbrev signers : List Identity
  signers = signers_of r

  abbrev refused : List Identity
  refused = refused_of r

  -- where the first identity's bytes begin
  abbrev k : ℕ
  k = n + length (reason_bytes r)

  abbrev signed : List ℕ
  signed = flat_map identity_bytes signers

  abbrev unsigned : List ℕ
  unsigned = flat_map identity_bytes refused

  abbrev behind_signers : ℕ
  behind_signers = k + length signed

  in_a_row : pool ≡ front ++ (reason_bytes r ++ (identity_list_bytes r ++ rest))
  in_a_row = whole ∙ ap (λ ys. front ++ ys) (append_assoc (reason_bytes r) (identity_list_bytes r) rest)

  at-signers : k ≡ length (front ++ reason_bytes r)
  at-signers = further front (reason_bytes r) n at

  whole-signers : pool ≡ (front ++ reason_bytes r) ++ (signed ++ (unsigned ++ rest))
  whole-signers =
      in_a_row ∙ ap (λ ys. front ++ (reason_bytes r ++ ys)) (append_assoc signed unsigned rest) ∙ sym (append_assoc front (reason_bytes r) (signed ++ (unsigned ++ rest)))

  whole-refused : pool ≡ ((front ++ reason_bytes r) ++ signed) ++ (unsigned ++ rest)
  whole-refused = whole-signers ∙ sym (append_assoc (front ++ reason_bytes r) signed (unsigned ++ rest))

  at-refused : behind_signers ≡ length ((front ++ reason_bytes r) ++ signed)
  at-refused = further (front ++ reason_bytes r) signed k at-signers

  listed-signers : all ≡ before ++ (identities_from k signers ++ (identities_from behind_signers refused ++ behind))
  listed-signers = listed ∙ ap (λ ys. before ++ ys) (append_assoc (identities_from k signers) (identities_from behind_signers refused) behind)

  listed-refused : all ≡ (before ++ identities_from k signers) ++ (identities_from behind_signers refused ++ behind)
  listed-refused = listed-signers ∙ sym (append_assoc before (identities_from k signers) (identities_from behind_signers refused ++ behind))

  from-refused : m + length signers ≡ length (before ++ identities_from k signers)
  from-refused = ap (λ l. m + l) (length-identities k signers) ∙ further before (identities_from k signers) m from

  pub it_says : Says number pool all r (pooled_reason number n m r)
  it_says = record {
    in_numbers = refl;
    places = λ i. record {
      name = first pool front (identity_list_bytes r ++ rest) p.name p.key p.start p.end (id_in r) (policy_in x) (missing_org (missing_in x)) n in_a_row at i;
      key = second pool front (identity_list_bytes r ++ rest) p.name p.key p.start p.end (id_in r) (policy_in x) (missing_org (missing_in x)) n in_a_row at i;
      start = third pool front (identity_list_bytes r ++ rest) p.name p.key p.start p.end (id_in r) (policy_in x) (missing_org (missing_in x)) n in_a_row at i;
      end = fourth pool front (identity_list_bytes r ++ rest) p.name p.key p.start p.end (id_in r) (policy_in x) (missing_org (missing_in x)) n in_a_row at i;
    };
    id = fifth pool front (identity_list_bytes r ++ rest) p.name p.key p.start p.end (id_in r) (policy_in x) (missing_org (missing_in x)) n in_a_row at;
    policy = sixth pool front (identity_list_bytes r ++ rest) p.name p.key p.start p.end (id_in r) (policy_in x) (missing_org (missing_in x)) n in_a_row at;
    missing = seventh pool front (identity_list_bytes r ++ rest) p.name p.key p.start p.end (id_in r) (policy_in x) (missing_org (missing_in x)) n in_a_row at;
    signers =
        ap (map (parts_read pool))
        (between all before (identities_from k signers) (identities_from behind_signers refused ++ behind) m (length signers) listed-signers from (length-identities k signers))
        ∙ parts-identities pool (front ++ reason_bytes r) (unsigned ++ rest) k signers whole-signers at-signers;
    refused =
        ap (map (parts_read pool))
        (between all (before ++ identities_from k signers) (identities_from behind_signers refused) behind (m + length signers) (length refused) listed-refused from-refused (length-identities behind_signers refused))
        ∙ parts-identities pool ((front ++ reason_bytes r) ++ signed) rest behind_signers refused whole-refused at-refused;
  }

pub say_all : (number : ℕ) (pool front : List ℕ) (all before : List PooledIdentity) (n m : ℕ) (reasons : List Reason)
    → pool ≡ front ++ reasons_pool reasons → n ≡ length front → all ≡ before ++ all_identities n reasons → m ≡ length before
    → SayAll number pool all reasons (reasons_from number n m reasons)
say_all number pool front all before n m [] whole at listed from = refl
say_all number pool front all before n m (r ∷ reasons) whole at listed from = (
  it_says number pool front (reasons_pool reasons) n r whole at all before (all_identities (n + length (pooled_bytes r)) reasons) m listed from,
  say_all number pool (front ++ pooled_bytes r) all (before ++ identities_of n r) (n + length (pooled_bytes r)) (m + length (identities_of n r)) reasons
      (whole ∙ sym (append_assoc front (pooled_bytes r) (reasons_pool reasons))) (further front (pooled_bytes r) n at)
      (listed ∙ sym (append_assoc before (identities_of n r) (all_identities (n + length (pooled_bytes r)) reasons))) (further before (identities_of n r) m from),
)
