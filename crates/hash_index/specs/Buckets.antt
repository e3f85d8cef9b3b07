-- What contracts see of an index: the hash under which each number is listed.
use Rattle.std.specs.Prelude.{◌≡◌, ◌≢◌, ◌==◌, ◌&&◌, ℕ, ◌+◌, ◌%◌, ◌^◌, ◌<◌, Bool, List, [], ◌∷◌, ◌++◌, length, Option, None, Some, if◌then◌else◌, count_by, nat_lt, slice_index_or}
use Rattle.std.specs.List.{Contains, filter}
use Rattle.std.specs.Ordering.{nat_cmp}
use Rattle.std.specs.FinMap as map
use Rattle.std.specs.FinMap.{FinMap}
use Rattle.hash_index.specs.declared.entry.Entry.{Entry}

abbrev pub Entries : Type 0
Entries = List Entry

-- these entries' numbers and hashes, before what is given
abbrev pub listed : Entries → List (ℕ × ℕ) → List (ℕ × ℕ)
listed [] rest = rest
listed (entry ∷ entries) rest = (entry.number, entry.hash) ∷ listed entries rest

abbrev pub all_listed : List Entries → List (ℕ × ℕ)
all_listed [] = []
all_listed (entries ∷ buckets) = listed entries (all_listed buckets)

-- the hash of each number
unfoldable pub hashes_of : List Entries → FinMap nat_cmp ℕ
hashes_of buckets = map.from_entries (all_listed buckets)

-- the entries of a bucket; none where there is no such bucket
abbrev pub entries_at : List Entries → ℕ → Entries
entries_at buckets bucket = slice_index_or buckets bucket []

-- the bucket of a hash, by its last bits, where there are so many buckets
abbrev pub bucket_of : ℕ → ℕ → ℕ → ℕ
bucket_of bits count hash = if nat_lt (hash % 2 ^ (bits + 1)) count then hash % 2 ^ (bits + 1) else hash % 2 ^ bits

abbrev pub is_entry : ℕ → ℕ → Entry → Bool
is_entry hash number entry = entry.hash == hash && entry.number == number

-- how often an entry stands among these
abbrev pub times : ℕ → ℕ → Entries → ℕ
times hash number entries = count_by (is_entry hash number) entries

-- 1 where this is the hash, and else 0
abbrev pub one_at : Option ℕ → ℕ → ℕ
one_at None hash = 0
one_at (Some own) hash = if own == hash then 1 else 0

-- each number stands once with its hash in the bucket of the hash, and nothing else stands in a bucket
abbrev pub IsListedOnce : FinMap nat_cmp ℕ → ℕ → List Entries → Type 0
IsListedOnce hashes bits buckets =
    (bucket hash number : ℕ) → times hash number (entries_at buckets bucket) ≡ (if bucket_of bits (length buckets) hash == bucket then one_at (map.get hashes number) hash else 0)

-- what is listed once in the old buckets is listed once in the new ones
abbrev pub KeepListed : ℕ → List Entries → ℕ → List Entries → Type 0
KeepListed old_bits old new_bits new = (hashes : FinMap nat_cmp ℕ) → IsListedOnce hashes old_bits old → IsListedOnce hashes new_bits new

-- each number under the hash stands with it among the entries
abbrev pub HasAllUnder : FinMap nat_cmp ℕ → ℕ → Entries → Type 0
HasAllUnder hashes hash entries = (number : ℕ) → map.get hashes number ≡ Some hash → Contains entries (record { hash = hash; number = number })

pub record IsSound (buckets : List Entries) (bits : ℕ) : Type 0 where
  pub once : IsListedOnce (hashes_of buckets) bits buckets
  pub small : bits < 32

-- these entries have one more, behind the others
abbrev pub Adds : Entry → Entries → Entries → Type 0
Adds entry old new = new ≡ old ++ entry ∷ []

-- the entry stands once less, and every other entry as often
abbrev pub TakesOne : ℕ → ℕ → Entries → Entries → Type 0
TakesOne hash number old new =
    (other_hash other : ℕ) → times other_hash other new + (if hash == other_hash && number == other then 1 else 0) ≡ times other_hash other old

-- every other bucket is as it was
pub record ChangesOne (Changes : Entries → Entries → Type 0) (bucket : ℕ) (old new : List Entries) : Type 0 where
  pub changed : Changes (entries_at old bucket) (entries_at new bucket)
  pub others : (other : ℕ) → other ≢ bucket → entries_at new other ≡ entries_at old other
  pub count : length new ≡ length old

-- the same, where it is the bucket of a hash
abbrev pub ChangesOneOf : (Entries → Entries → Type 0) → ℕ → ℕ → List Entries → List Entries → Type 0
ChangesOneOf Changes bits hash old new = ChangesOne Changes (bucket_of bits (length old) hash) old new

-- a bucket more, which gets a part of one that was there
pub record IsParted (bits : ℕ) (old new : List Entries) : Type 0 where
  pub count : length new ≡ length old + 1
  pub stay : entries_at new (length old % 2 ^ bits) ≡ filter (λ e. bucket_of bits (length old + 1) e.hash == length old % 2 ^ bits) (entries_at old (length old % 2 ^ bits))
  pub moved : entries_at new (length old) ≡ filter (λ e. bucket_of bits (length old + 1) e.hash == length old) (entries_at old (length old % 2 ^ bits))
  pub others : (b : ℕ) → b ≢ length old % 2 ^ bits → b ≢ length old → entries_at new b ≡ entries_at old b
