-- The chains of publishers in a transaction, findings 11 to 14. What a chain is stands in Publisher, because 32 asks for chains too.
use Rattle.std.specs.Prelude.{ℕ, zero, suc, ◌+◌, Bool, false, ◌&&◌, ◌||◌, List, [], ◌∷◌, ltb, eqb, length}
use Rattle.format.specs.Bytes.{Bytes}
use Rattle.format.specs.Structure.{first_record}
use Rattle.rules.specs.Records.{is_type, only, any}
use Rattle.rules.specs.Publisher.{chain, is_e, is_aq, aq_spu, has_share}
use Rattle.rules.specs.Totals.{PR, MR, SR, publisher_share, sum_of}

-- some chain of a number below n
abbrev pub any_below : ℕ → (List Bytes → Bool) → List Bytes → Bool
any_below zero p details = false
any_below (suc n) p details = p (chain n details) || any_below n p details

-- of 00 to 99
abbrev pub any_chain : (List Bytes → Bool) → List Bytes → Bool
any_chain p details = any_below 100 p details

-- T17, TR: a chain with more than one E
abbrev pub many_e : List Bytes → Bool
many_e c = ltb 1 (length (only is_e c))

unfoldable pub is11 : List Bytes → Bool
is11 ds = any_chain many_e ds

-- its first record is an SPU
abbrev pub begun_by_spu : List Bytes → Bool
begun_by_spu c = is_type "SPU" (first_record c)

-- the three shares of a record
abbrev pub all_shares : Bytes → ℕ
all_shares r = publisher_share PR r + publisher_share MR r + publisher_share SR r

-- T25, TR: a chain begun by SPU whose SPU records of type E and AQ total 0 in all rights
abbrev pub counts_spu : Bytes → Bool
counts_spu r = is_type "SPU" r && (is_e r || is_aq r)

abbrev pub shareless : List Bytes → Bool
shareless c = begun_by_spu c && eqb (sum_of all_shares (only counts_spu c)) 0

unfoldable pub is12 : List Bytes → Bool
is12 ds = any_chain shareless ds

-- T16, TR: OPU in a chain begun by SPU
abbrev pub joined_by_opu : List Bytes → Bool
joined_by_opu c = begun_by_spu c && any (is_type "OPU") c

unfoldable pub is13 : List Bytes → Bool
is13 ds = any_chain joined_by_opu ds

-- T26, TR: an AQ SPU in a chain where an earlier E has a share above 0
abbrev pub paid_e : Bytes → Bool
paid_e r = is_e r && has_share r

-- there is such an E, and after it an AQ SPU
abbrev pub aq_after_paid_e : List Bytes → Bool
aq_after_paid_e [] = false
aq_after_paid_e (r ∷ rs) = (paid_e r && any aq_spu rs) || aq_after_paid_e rs

unfoldable pub is14 : List Bytes → Bool
is14 ds = any_chain aq_after_paid_e ds
