-- The entry of a list of claims that is all zeros.
use Rattle.claims.specs.declared.Claim.{Claim}

abbrev pub no_claim : Claim
no_claim = record { party = 0; code = 0; mark = 0; pr = 0; mr = 0; sr = 0 }
