-- What is hashed of a block tells all that it is made of.
use Rattle.std.proofs.Common.{◌≡◌, ℕ, ◌<◌, ◌^◌, ◌≤◌, eqb, Bool, true, false, cond, List, [], ◌∷◌, ◌++◌, length, map, drop, get_or, Option, Some, None, refl, sym, ap, ◌∙◌, append_assoc, arith}
use Rattle.std.specs.Prelude.{IfSome, option_map}
use Rattle.std.specs.List.{flat_map, AllByRecursion}
use Rattle.std.proofs.lemmas.Bool.{eqb-true}
use Rattle.std.proofs.lemmas.List.{length-map}
use Rattle.std.specs.FinMap.{get, same_map}
use Rattle.byteorder.specs.Endian.{big_bytes}
use Rattle.values.proofs.Numbers.{wide1, wide2, wide4, wide8}
use Rattle.transaction.specs.declared.block_version.BlockVersion.{BlockVersion}
use Rattle.transaction.specs.declared.block_version.BlockVersion.TheVariants.{V1, V2}
use Rattle.transaction.specs.Combined.{Reader, Read, number_at, counted_at, pair_at, byte_at, optional_at, listed_at}
use Rattle.transaction.specs.Grammar.{counted, listed, optional, version_bytes, IsVersion}
use Rattle.transaction.specs.Reading.{version_at}
use Rattle.transaction.proofs.FieldLaws.{IsField, some_is, number_field, counted_field, byte_field, optional_field, listed_field}
use Rattle.transaction.proofs.RecordLaws.{pair_of, version_field}
use Rattle.policy.specs.Tree.{Tree}
use Rattle.rules.specs.declared.flag.Flag.{Flag}
use Rattle.rules.specs.declared.row.Row.{Row}
use Rattle.rules.specs.Flags.{number_of, flag_numbered}
use Rattle.rules.specs.State.{StateKey, State, ChangeOf, key_cmp}
use Rattle.rules.specs.Differing.{differing, policy_text}
use Rattle.rules.specs.CommitBytes.{BlockCommit, version_number, row_bytes, change_bytes, update_bytes, definition_bytes, commit_bytes, ToldRow, ToldChange, told_change, told_definition, HasRoomForRow, HasRoomForChange, HasRoom}
use Rattle.rules.proofs.Keys.{key_cmp_total, key_cmp-IsAntisymmetric}
use Rattle.rules.proofs.Numbers.{flag_back, number_back}

-- ---- states that have the same rows

pub same_rows_told : (before a b : State) → ((k : StateKey) → get a k ≡ get b k) → update_bytes before a ≡ update_bytes before b
same_rows_told before a b same = ap (update_bytes before) (same_map key_cmp_total key_cmp-IsAntisymmetric a b same)

-- ---- fields

optional_of : {A : Type 0} {r : Reader A} {s : A → List ℕ} {F : A → Type 0} → IsField r s F → IsField (optional_at r) (optional s) (λ o. IfSome o F)
optional_of {r = r} {s = s} {F = F} a = optional_field r s F a

listed_of : {A : Type 0} {r : Reader A} {s : A → List ℕ} {F : A → Type 0} → IsField r s F → IsField (listed_at 4 r) (listed 4 s) (λ xs. (length xs < 256 ^ 4) × AllByRecursion F xs)
listed_of {r = r} {s = s} {F = F} a = listed_field r s F a 4 wide4

-- a field that is spelled the same is the same
told : {A : Type 0} {r : Reader A} {s : A → List ℕ} {F : A → Type 0} → IsField r s F → (x y : A) → F x → F y → s x ≡ s y → x ≡ y
told {A = A} {r = r} {s = s} field x y fits also same =
    let one : ◌≡◌ {A = Option (A × List ℕ)} (Some (x, [])) (Some (y, [])) = sym (field.again x [] fits) ∙ ap (λ (bytes : List ℕ). r (bytes ++ [])) same ∙ field.again y [] also in
    ap (λ (p : A × List ℕ). p.0) (some_is (x, []) (y, []) one)

version_numbered : ℕ → Option BlockVersion
version_numbered n = cond (eqb n 1) (Some V1) (cond (eqb n 2) (Some V2) None)

version_back : (n : ℕ) (v : BlockVersion) → version_numbered n ≡ Some v → n ≡ version_number v
unfolding version_numbered
version_back n v e = by_1 (eqb n 1) refl e
  where
    by_2 : (t : Bool) → eqb n 2 ≡ t → cond t (Some V2) None ≡ Some v → n ≡ version_number v
    by_2 true t h = let same : V2 ≡ v = cc in eqb-true _ _ t ∙ ap version_number same
    by_2 false t h = absurd cc

    by_1 : (t : Bool) → eqb n 1 ≡ t → cond t (Some V1) (cond (eqb n 2) (Some V2) None) ≡ Some v → n ≡ version_number v
    by_1 true t h = let same : V1 ≡ v = cc in eqb-true _ _ t ∙ ap version_number same
    by_1 false t h = by_2 (eqb n 2) refl h

version_forth : (v : BlockVersion) → version_numbered (version_number v) ≡ Some v
unfolding version_numbered
version_forth V1 = refl
version_forth V2 = refl

row_at : Reader ToldRow
row_at = pair_at version_at (pair_at (counted_at 4) (counted_at 2))

told_row_bytes : ToldRow → List ℕ
told_row_bytes r = version_bytes r.0 ++ (counted 4 r.1.0 ++ counted 2 r.1.1)

row_field : IsField row_at told_row_bytes HasRoomForRow
unfolding row_at told_row_bytes
row_field = pair_of version_field (pair_of (counted_field 4 wide4) (counted_field 2 wide2))

change_at : Reader ToldChange
change_at = pair_at (counted_at 1) (pair_at (counted_at 2) (optional_at row_at))

told_change_bytes : ToldChange → List ℕ
told_change_bytes c = counted 1 c.0 ++ (counted 2 c.1.0 ++ optional told_row_bytes c.1.1)

change_field : IsField change_at told_change_bytes HasRoomForChange
unfolding change_at told_change_bytes
change_field = pair_of (counted_field 1 wide1) (pair_of (counted_field 2 wide2) (optional_of row_field))

-- ---- a whole block

abbrev Told : Type 0
Told = BlockVersion × (ℕ × (List Flag × (List ToldChange × Option (List ℕ × List ℕ))))

abbrev told_of : BlockCommit → Told
told_of c = (c.version, (c.number, (c.flags, (map told_change (differing c.before c.after), option_map told_definition c.definition))))

told_bytes : Told → List ℕ
told_bytes t =
    (version_number t.0 ∷ []) ++ (big_bytes 8 t.1.0 ++ (listed 4 (λ f. number_of f ∷ []) t.1.1.0 ++ (listed 4 told_change_bytes t.1.1.1.0 ++ optional (λ d. counted 1 d.0 ++ counted 2 d.1) t.1.1.1.1)))

abbrev HasRoomTold : Told → Type 0
HasRoomTold t =
    Unit {0} × ((t.1.0 < 2 ^ 64) × (((length t.1.1.0 < 256 ^ 4) × AllByRecursion (λ f. Unit {0}) t.1.1.0) × (((length t.1.1.1.0 < 256 ^ 4) × AllByRecursion HasRoomForChange t.1.1.1.0) × IfSome t.1.1.1.1 (λ d. (length d.0 < 2 ^ 8) × (length d.1 < 2 ^ 16)))))

told_field : IsField
    (pair_at (byte_at version_numbered) (pair_at (number_at 8) (pair_at (listed_at 4 (byte_at flag_numbered)) (pair_at (listed_at 4 change_at) (optional_at (pair_at (counted_at 1) (counted_at 2)))))))
    told_bytes HasRoomTold
unfolding told_bytes
told_field =
    pair_of (byte_field version_numbered version_number version_back version_forth) (pair_of (number_field 8 wide8)
    (pair_of (listed_of (byte_field flag_numbered number_of (λ n f e. sym (number_back n f e)) flag_back))
    (pair_of (listed_of change_field) (optional_of (pair_of (counted_field 1 wide1) (counted_field 2 wide2))))))

-- ---- the bytes of the definition are those of what they tell

row_told : (o : Option Row) → optional told_row_bytes (option_map (λ r. (r.version, (r.value, policy_text r.policy))) o) ≡ optional row_bytes o
unfolding told_row_bytes
row_told None = refl
row_told (Some r) = refl

change_told : (c : ChangeOf Row) → told_change_bytes (told_change c) ≡ change_bytes c
unfolding told_change_bytes
change_told c = ap (λ (bytes : List ℕ). counted 1 c.0.0 ++ (counted 2 c.0.1 ++ bytes)) (row_told c.1)

changes_told : (cs : List (ChangeOf Row)) → flat_map told_change_bytes (map told_change cs) ≡ flat_map change_bytes cs
changes_told [] = refl
changes_told (c ∷ cs) = λ i. change_told c i ++ changes_told cs i

rows_told : (cs : List (ChangeOf Row)) → listed 4 told_change_bytes (map told_change cs) ≡ listed 4 change_bytes cs
rows_told cs = λ i. big_bytes 4 (length-map cs told_change i) ++ changes_told cs i

definition_told : (o : Option (List ℕ × Tree)) → optional (λ d. counted 1 d.0 ++ counted 2 d.1) (option_map told_definition o) ≡ optional definition_bytes o
definition_told None = refl
definition_told (Some d) = refl

bytes_told : (c : BlockCommit) → told_bytes (told_of c) ≡ commit_bytes c
unfolding told_bytes
bytes_told c = λ i.
    version_number c.version ∷ (big_bytes 8 c.number ++ (listed 4 (λ f. number_of f ∷ []) c.flags ++ (rows_told (differing c.before c.after) i ++ definition_told c.definition i)))

no_limits : (fs : List Flag) → AllByRecursion (λ f. Unit {0}) fs
no_limits [] = tt
no_limits (f ∷ fs) = (tt, no_limits fs)

has_room : (c : BlockCommit) → HasRoom c → HasRoomTold (told_of c)
has_room c h =
    let count : length (map told_change (differing c.before c.after)) < 256 ^ 4 = omega (arith, length-map (differing c.before c.after) told_change, h.count) in
    (tt, (h.number, ((h.flags, no_limits c.flags), ((count, h.rows), h.definition))))

pub commits_told : (a b : BlockCommit) → HasRoom a → HasRoom b → commit_bytes a ≡ commit_bytes b
    → (a.version ≡ b.version) × (a.number ≡ b.number) × (a.flags ≡ b.flags)
    × (map told_change (differing a.before a.after) ≡ map told_change (differing b.before b.after)) × (option_map told_definition a.definition ≡ option_map told_definition b.definition)
commits_told a b room also same =
    let one : told_of a ≡ told_of b = told told_field (told_of a) (told_of b) (has_room a room) (has_room b also) (bytes_told a ∙ same ∙ sym (bytes_told b)) in
    (ap (λ (t : Told). t.0) one, ap (λ (t : Told). t.1.0) one, ap (λ (t : Told). t.1.1.0) one, ap (λ (t : Told). t.1.1.1.0) one, ap (λ (t : Told). t.1.1.1.1) one)

-- ---- behind a hash

-- two lists that are the same, with fronts of one length
pub same_front : (p q x y : List ℕ) → length p ≡ length q → p ++ x ≡ q ++ y → (p ≡ q) × (x ≡ y)
same_front [] [] x y n e = (refl, e)
same_front [] (b ∷ q) x y n e = absurd (omega (arith, n))
same_front (a ∷ p) [] x y n e = absurd (omega (arith, n))
same_front (a ∷ p) (b ∷ q) x y n e =
    let first : a ≡ b = ap (λ (l : List ℕ). get_or l 0 0) e in
    let others = same_front p q x y (omega (arith, n)) (ap (drop 1) e) in
    ((λ i. first i ∷ others.0 i), others.1)
