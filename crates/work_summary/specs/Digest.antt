-- The digest of lines.
use Rattle.std.specs.Prelude.{ℕ, List}
use Rattle.hex.specs.Hex.{encode_lower}
use Rattle.sha2.specs.Hashers.{Holds256}
use Rattle.sha2.specs.Sha256.{sha256}
use Rattle.work_summary.specs.declared.digest.LineDigest.{LineDigest}

-- the digest is of these bytes
abbrev pub HasTaken : LineDigest → List ℕ → Type 0
HasTaken digest taken = Holds256 digest.hasher taken

-- the SHA-256 of the bytes in lower-case hexadecimal digits
abbrev pub hex_digest : List ℕ → List ℕ
hex_digest bytes = encode_lower (sha256 bytes)
