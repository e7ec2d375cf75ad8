-- Internal: the index of the lent tables. They share one list of slots, a part each: first its hints, then its keys, sorted.
use Rattle.std.specs.Prelude.{ℕ, ◌+◌, ◌-◌, ◌*◌, ◌%◌, ◌<◌, ◌≤◌, ◌≡◌, true, List, length, get_or}
use Rattle.format.specs.Bytes.{Bytes, among}
use Rattle.rules.specs.Tables.{Tables, language_size, society_size, category_size, most_entries, entries}

abbrev pub hint_count : ℕ
hint_count = 4093

abbrev pub part_size : ℕ
part_size = hint_count + most_entries

abbrev pub slot_count : ℕ
slot_count = part_size + part_size + part_size

-- ---- codes

-- the number that stands for a code of two or three bytes, made of its first, second and last; 0 stands for none
unfoldable pub key_of : Bytes → ℕ
key_of code = (get_or code 0 0 * 256 + get_or code 1 0) * 256 + get_or code (length code - 1) 0 + 1

-- which of the hints is a key's
abbrev pub hint_of : ℕ → ℕ
hint_of key = key % hint_count

abbrev pub AreBytes : Bytes → Type 0
AreBytes code = (i : ℕ) → get_or code i 0 < 256

pub record Code (size : ℕ) (code : Bytes) : Type 0 where
  pub long : length code ≡ size
  pub bytes : AreBytes code

-- a code of that size that has this key is among the entries
unfoldable pub KeyOfAny : ℕ → List Bytes → ℕ → Type 0
KeyOfAny size es key = (code : Bytes) → Code size code → key ≡ key_of code → among code es ≡ true

-- ---- slots, from one on and before an end

abbrev pub Empty : ℕ → ℕ → List ℕ → Type 0
Empty from end slots = (p : ℕ) → from ≤ p → p < end → get_or slots p 0 ≡ 0

-- all slots from one on
abbrev pub Free : ℕ → List ℕ → Type 0
Free from slots = (length slots ≡ slot_count) × Empty from slot_count slots

abbrev pub Ascending : ℕ → ℕ → List ℕ → Type 0
Ascending from end slots = (p : ℕ) → from ≤ p → p + 1 < end → get_or slots p 0 ≤ get_or slots (p + 1) 0

pub record Stands (key from end : ℕ) (slots : List ℕ) : Type 0 where
  pub slot : ℕ
  pub after : from ≤ slot
  pub before : slot < end
  pub is : get_or slots slot 0 ≡ key

-- the slots outside that range stay as they were
pub record Kept (from end : ℕ) (old slots : List ℕ) : Type 0 where
  pub long : length slots ≡ length old
  pub same : (p : ℕ) → (from ≤ p → p < end → ⊥) → get_or slots p 0 ≡ get_or old p 0

-- the key is put behind the lower ones that follow the first slot of the range; these move down by one, over what stood there
pub record Inserted (key from end : ℕ) (old slots : List ℕ) : Type 0 where
  pub slot : ℕ
  pub after : from ≤ slot
  pub before : slot < end
  pub kept : Kept from (slot + 1) old slots
  pub moved : (p : ℕ) → from ≤ p → p < slot → get_or slots p 0 ≡ get_or old (p + 1) 0
  pub lower : (p : ℕ) → from ≤ p → p < slot → get_or slots p 0 < key
  pub is : get_or slots slot 0 ≡ key
  pub higher : slot + 1 < end → key ≤ get_or old (slot + 1) 0

-- ---- the index

-- the part from that slot on is the index of entries: no slot has the key of a code that is not among them; a code that is has a key in its
-- hint, its own or another's, and its own in one of the sorted slots
pub record Part (size : ℕ) (es : List Bytes) (first : ℕ) (slots : List ℕ) : Type 0 where
  pub sound : (p : ℕ) → first ≤ p → p < first + part_size → KeyOfAny size es (get_or slots p 0)
  pub hinted : (code : Bytes) → among code es ≡ true → 0 < get_or slots (first + hint_of (key_of code)) 0
  pub listed : (code : Bytes) → among code es ≡ true → Stands (key_of code) (first + hint_count) (first + part_size) slots
  pub ascending : Ascending (first + hint_count) (first + part_size) slots

-- the slots are the index of the tables
pub record Indexed (tables : Tables) (slots : List ℕ) : Type 0 where
  pub of_languages : Part language_size (entries language_size tables.languages) 0 slots
  pub of_societies : Part society_size (entries society_size tables.societies) part_size slots
  pub of_categories : Part category_size (entries category_size tables.categories) (part_size + part_size) slots
