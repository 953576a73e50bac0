use Rattle.std.proofs.Common.{◌≡◌, ◌%◌, take}
use Rattle.nemo_value.specs.Bucket.{hash_of}
use Rattle.nemo_value.proofs.bucket.low_hash.Given as goal

-- the low byte of the hash of the first bytes
abbrev pub invariant-loop-byte : goal.invariant-loop-byte
invariant-loop-byte l = l.hash ≡ hash_of (take l.byte-index l.bytes) % 256
