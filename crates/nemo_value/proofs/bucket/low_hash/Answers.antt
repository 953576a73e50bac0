use Rattle.std.proofs.Common.{◌≡◌, ◌∙◌, ap, sym, ◌+◌, ◌*◌, ◌%◌, ◌<◌, take, get_or, bit_xor, arith}
use Rattle.std.proofs.lemmas.List.Sums.{fold_more}
use Rattle.nemo_value.specs.Bucket.{hash_step, hash_of}
use Rattle.nemo_value.proofs.LowHash.{low_step}
use Rattle.nemo_value.proofs.bucket.low_hash.Goals as goal

pub loop-byte-preserved : goal.loop-byte-preserved
loop-byte-preserved c =
    let bytes = c.args.bytes.now in
    let i = c.loop-byte.byte-index in
    let byte = get_or bytes i 0 in
    let before = hash_of (take i bytes) in
    let more : hash_of (take (i + 1) bytes) ≡ hash_step before byte = fold_more hash_step 14695981039346656037 bytes i 0 c.loop-byte-test.true in
    let small : byte < 256 = omega (arith, c.type_inv.bytes i) in
    ap (λ h. (bit_xor h byte * 179) % 256) c.loop-byte.invariant
    ∙ sym (ap (λ h. h % 256) more ∙ low_step before byte small)
