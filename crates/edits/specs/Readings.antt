-- Internal: what is read off a publisher record and off a writer record.
use Rattle.std.specs.Prelude.{◌<◌, ◌≡◌, Bool, not, [], ◌∷◌}
use Rattle.format.specs.Bytes.{Bytes, among}
use Rattle.rules.specs.Tables.{publisher_types, designations}
use Rattle.rules.specs.Records.{is_type}
use Rattle.rules.specs.Publisher.{indicator, publisher_type, is_e, is_aq, is30}
use Rattle.rules.specs.Writer.{designation, designation_in_force, is41}
use Rattle.rules.specs.Writers.{creators, changers, authors}
use Rattle.rules.specs.Totals.{publisher_share, writer_share}
use Rattle.totals.specs.Sums.{rights, AtMost}
use Rattle.edits.specs.Kinds.{PublisherRecord, WriterRecord}
use Rattle.edits.specs.Sequences.{sequence_of}
use Rattle.edits.specs.declared.publisher.Sequence.{Sequence}
use Rattle.edits.specs.declared.publisher.Publisher.{Publisher}
use Rattle.edits.specs.declared.writer.Writer.{Writer}

pub record PublisherReads (p : Publisher) (r : Bytes) : Type 0 where
  pub kind : PublisherRecord r
  pub spu : p.spu ≡ is_type "SPU" r
  pub opu : not p.spu ≡ is_type "OPU" r
  pub sequence : p.sequence ≡ sequence_of r
  pub indicator : p.indicator ∷ [] ≡ indicator r
  pub listed : p.listed ≡ among (publisher_type r) publisher_types
  pub e : p.e ≡ is_e r
  pub aq : p.aq ≡ is_aq r
  pub shares : p.shares ≡ rights (λ right. publisher_share right r)
  pub bad : p.bad_share ≡ is30 r

-- a finding that holds or not of whatever record was so read
abbrev pub FindsPublisher : Publisher → Bool → (Bytes → Bool) → Type 0
FindsPublisher p b is = (r : Bytes) → PublisherReads p r → b ≡ is r

abbrev pub Below100 : Sequence → Type 0
Below100 Sequence.NoRecord = Unit {0}
Below100 Sequence.NotDigits = Unit {0}
Below100 (Sequence.Number k) = k < 100

-- what the code relies on, whatever record was read
abbrev pub Bounded : Publisher → Type 0
Bounded p = AtMost 99999 p.shares × Below100 p.sequence

pub record WriterReads (w : Writer) (r : Bytes) : Type 0 where
  pub kind : WriterRecord r
  pub swr : w.swr ≡ is_type "SWR" r
  pub owr : not w.swr ≡ is_type "OWR" r
  pub listed : w.listed ≡ among (designation r) designations
  pub creator : w.creator ≡ among (designation_in_force r) creators
  pub changer : w.changer ≡ among (designation_in_force r) changers
  pub author : w.author ≡ among (designation_in_force r) authors
  pub shares : w.shares ≡ rights (λ right. writer_share right r)
  pub bad : w.bad_share ≡ is41 r

abbrev pub FindsWriter : Writer → Bool → (Bytes → Bool) → Type 0
FindsWriter w b is = (r : Bytes) → WriterReads w r → b ≡ is r
