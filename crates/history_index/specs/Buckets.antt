-- A step between the hashes and the code: places in buckets by their hashes, and how those of a bucket are linked.
use Rattle.std.specs.Prelude.{◌≡◌, ◌==◌, ◌<◌, ◌≤◌, ◌-◌, ℕ, List, length, map, take, get_or, bit_and}
use Rattle.history_index.specs.declared.links.Link.{Link}
use Rattle.history_index.specs.Places.{last_place}

-- the bucket of a hash, of n buckets
abbrev pub bucket_of : ℕ → ℕ → ℕ
bucket_of n hash = bit_and hash (n - 1)

-- the last place that is in a bucket, of n buckets
abbrev pub last_in : ℕ → ℕ → List ℕ → ℕ
last_in n bucket hashes = last_place (λ h. bucket_of n h == bucket) hashes

abbrev pub hashes_of : List Link → List ℕ
hashes_of links = map (λ l. l.hash) links

abbrev pub no_link : Link
no_link = record { hash = 0; older = 0 }

-- after these hashes it has the last place of its bucket
abbrev pub IsLinked : ℕ → List ℕ → Link → Type 0
IsLinked n before l = l.older ≡ last_in n (bucket_of n l.hash) before

-- so it is of each of the first m places
abbrev pub AreLinkedTo : ℕ → List Link → ℕ → Type 0
AreLinkedTo n links m = (i : ℕ) → i < m → IsLinked n (take i (hashes_of links)) (get_or links i no_link)

abbrev pub AreLinked : ℕ → List Link → Type 0
AreLinked n links = AreLinkedTo n links (length links)

-- each one has an earlier one
abbrev pub LeadBack : List Link → Type 0
LeadBack links = (i : ℕ) → i < length links → (get_or links i no_link).older ≤ i

-- what is kept for a bucket is the last place that is in it
abbrev pub KeepsLast : List ℕ → List ℕ → Type 0
KeepsLast buckets hashes = (b : ℕ) → b < length buckets → get_or buckets b 0 ≡ last_in (length buckets) b hashes

-- this is 0, or a place that is in the bucket
abbrev pub IsChain : ℕ → ℕ → List ℕ → ℕ → Type 0
IsChain n bucket hashes place = (place ≤ length hashes) × (last_in n bucket (take place hashes) ≡ place)
