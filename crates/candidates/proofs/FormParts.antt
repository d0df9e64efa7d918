-- Well-formed read and write sets, part by part.
use Rattle.std.proofs.Common.{◌≡◌, Bool, true, false, ◌&&◌, List, [], ◌∷◌, map, refl, sym, ap, ◌∙◌}
use Rattle.std.specs.List.{list_all}
use Rattle.transaction.specs.declared.transaction.Range.{Range}
use Rattle.transaction.specs.declared.transaction.KeyVersion.{KeyVersion}
use Rattle.transaction.specs.declared.transaction.NsSet.{NsSet}
use Rattle.transaction.specs.declared.transaction.Tx.{Tx}
use Rattle.rules.specs.Ranges.{is_within}
use Rattle.rules.specs.ReadWriteSets.{are_distinct, has_results_in_form, is_set_in_form, is_in_form}
use Rattle.candidates.specs.Rising.{are_rising}
use Rattle.candidates.specs.Form.{have_lists_in_form, are_lists_in_form, has_policies_in_form, are_policies_in_form}
use Rattle.candidates.proofs.Rising.{rise_keys}

-- ---- the results of a range

pub results_in_form : (r : Range) (rs : List KeyVersion) (rise within : Bool) → rs ≡ r.results → rise ≡ are_rising (map (λ x. x.key) rs) → within ≡ list_all (λ x. is_within r.start r.end x.key) rs → (rise && within) ≡ has_results_in_form r
results_in_form r rs rise within same up inside =
    (λ i. (up ∙ rise_keys (λ x. x.key) (λ x. x.version) rs) i && inside i)
    ∙ ap (λ l. has_results_in_form (record r { results = l })) same

pub first_test : (r : Range) (rs : List KeyVersion) (rise : Bool) → rise ≡ false → rs ≡ r.results → rise ≡ are_rising (map (λ x. x.key) rs) → rise ≡ has_results_in_form r
first_test r rs rise off same up = off ∙ ap (λ b. b && list_all (λ x. is_within r.start r.end x.key) rs) (sym off) ∙ results_in_form r rs rise _ same up refl

pub second_test : (r : Range) (rs : List KeyVersion) (rise within : Bool) → rise ≡ true → rs ≡ r.results → rise ≡ are_rising (map (λ x. x.key) rs) → within ≡ list_all (λ x. is_within r.start r.end x.key) rs → within ≡ has_results_in_form r
second_test r rs rise within on same up inside = ap (λ b. b && within) (sym on) ∙ results_in_form r rs rise within same up inside

-- ---- the two parts

regroup : (a p b q : Bool) → ((a && p) && (b && q)) ≡ ((a && b) && (p && q))
regroup true true b q = refl
regroup true false true q = refl
regroup true false false q = refl
regroup false p b q = refl

sets_apart : (ns : List NsSet) → list_all is_set_in_form ns ≡ (list_all have_lists_in_form ns && list_all has_policies_in_form ns)
sets_apart [] = refl
sets_apart (n ∷ ns) = ap (λ b. is_set_in_form n && b) (sets_apart ns) ∙ regroup (have_lists_in_form n) (has_policies_in_form n) (list_all have_lists_in_form ns) (list_all has_policies_in_form ns)

assoc : (a b c : Bool) → (a && (b && c)) ≡ ((a && b) && c)
assoc true b c = refl
assoc false b c = refl

pub in_form_is : (tx : Tx) → is_in_form tx ≡ (are_lists_in_form tx && are_policies_in_form tx)
in_form_is tx =
    let names = are_distinct (map (λ n. n.name) tx.namespaces) in
    ap (λ b. names && b) (sets_apart tx.namespaces) ∙ assoc names (list_all have_lists_in_form tx.namespaces) (are_policies_in_form tx)

pub not_in_form : (tx : Tx) → are_lists_in_form tx ≡ false → is_in_form tx ≡ false
not_in_form tx e = in_form_is tx ∙ ap (λ b. b && are_policies_in_form tx) e

pub in_form_by_policies : (tx : Tx) → are_lists_in_form tx ≡ true → is_in_form tx ≡ are_policies_in_form tx
in_form_by_policies tx e = in_form_is tx ∙ ap (λ b. b && are_policies_in_form tx) e
