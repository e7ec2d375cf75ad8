-- The types of records, and the records before one in its transaction.
use Prim.Native.String.{String}
use Rattle.std.specs.Prelude.{Bool, false, cond, ◌||◌, List, [], ◌∷◌, take}
use Rattle.std.proofs.Math.Option.{Option, none, some}
use Rattle.format.specs.Ascii.{ascii}
use Rattle.format.specs.Bytes.{Bytes, same_bytes}

abbrev pub is_type : String → Bytes → Bool
is_type type r = same_bytes (ascii type) (take 3 r)

abbrev pub is_header : Bytes → Bool
is_header r = is_type "NWR" r || is_type "REV" r

abbrev pub is_publisher : Bytes → Bool
is_publisher r = is_type "SPU" r || is_type "OPU" r

abbrev pub is_writer : Bytes → Bool
is_writer r = is_type "SWR" r || is_type "OWR" r

-- ---- lists, of records and others

-- those that pass, in order
abbrev pub only : {A : Type 0} → (A → Bool) → List A → List A
only p [] = []
only p (x ∷ xs) = cond (p x) (x ∷ only p xs) (only p xs)

-- some element passes
abbrev pub any : {A : Type 0} → (A → Bool) → List A → Bool
any p [] = false
any p (x ∷ xs) = p x || any p xs

-- the last record, if there is one
abbrev pub latest : List Bytes → Option Bytes
latest [] = none
latest (r ∷ []) = some r
latest (r ∷ s ∷ rs) = latest (s ∷ rs)
