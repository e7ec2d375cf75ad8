-- Internal: the code's counts as the format has them, and what a walk keeps: bounds, so that no counter wraps, and the digits of counts.
use Rattle.std.specs.Prelude.{ℕ, pred, ◌+◌, ◌^◌, ◌<◌, ◌≤◌, ◌≡◌}
use Rattle.format.specs.Bytes.{decimal}
use Rattle.format.specs.Checks.{Counts as FormatCounts}
use Rattle.text.specs.Words.{word_of}
use Rattle.counts.specs.declared.Counts.{Counts}

abbrev pub counts_in : Counts → FormatCounts
counts_in n =
    record {
      groups = n.groups;
      transactions = n.transactions;
      in_group = n.in_group;
      group_records = n.group_records;
      in_transaction = n.in_transaction;
      records = n.records;
    }

-- no counter passes the number of records
abbrev pub Within : Counts → Type 0
Within n =
    (n.groups ≤ n.records) × (n.transactions ≤ n.records) × (n.in_group ≤ n.records) × (n.group_records ≤ n.records)
    × (n.in_transaction ≤ n.records)

-- the words are made of the digits that the next header, detail and GRT carry
abbrev pub Written : Counts → Type 0
Written n =
    (n.header_word ≡ word_of (decimal 8 n.in_group)) × (n.detail_word ≡ word_of (decimal 8 (pred n.in_group)))
    × (n.record_word ≡ word_of (decimal 8 n.in_transaction)) × (n.closing_word ≡ word_of (decimal 8 (n.group_records + 1)))

abbrev pub Kept : Counts → Type 0
Kept n = Within n × Written n

-- more records than any file has
abbrev pub too_many : ℕ
too_many = 2 ^ 32

-- no counter can wrap
abbrev pub CanGrow : Counts → Type 0
CanGrow n = Kept n × (n.records < too_many)
