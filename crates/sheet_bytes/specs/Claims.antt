-- The layout loses nothing, so that one call can follow another. proofs/Back.antt has the proofs.
use Rattle.std.specs.Prelude.{◌≤◌, ◌<◌, ◌^◌, ◌≡◌, [], ◌++◌, length, drop, replicate}
use Rattle.std.specs.Int.Signed.{mag}
use Rattle.format.specs.Bytes.{Bytes, All}
use Rattle.rules.specs.Sheet.{Sheet, sheet_of}
use Rattle.rules.specs.Claims.{unsigned, signed}
use Rattle.sheet_bytes.specs.Layout.{sheet_size, sheet_in, bytes_of_sheet}

-- a sheet whose figures have room
pub record Fits (s : Sheet) : Type 0 where
  pub findings : length s.findings ≡ 64
  pub verdicts : length s.verdicts ≡ 5
  pub unsigned : All (λ n. n < 2 ^ 64) (unsigned s)
  pub signed : All (λ z. mag z < 2 ^ 63) (signed s)

pub record BothWays : Type 0 where
  -- zeros are the sheet of no file, and no other bytes are written for it
  pub fresh : sheet_in (replicate sheet_size 0) ≡ sheet_of []
  pub zeros : bytes_of_sheet (sheet_of []) ≡ replicate sheet_size 0
  -- a sheet whose figures have room is read back as it was written, whatever stands beyond it,
  pub read_back : (s : Sheet) (rest : Bytes) → Fits s → sheet_in (bytes_of_sheet s ++ rest) ≡ s
  -- and bytes that were read as a sheet are written back as they were
  pub written_back : (bytes : Bytes) → sheet_size ≤ length bytes → All (λ b. b < 256) bytes
      → bytes_of_sheet (sheet_in bytes) ++ drop sheet_size bytes ≡ bytes
  pub size : (s : Sheet) → Fits s → length (bytes_of_sheet s) ≡ sheet_size
