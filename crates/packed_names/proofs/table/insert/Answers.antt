use Rattle.std.proofs.Common.{◌≡◌, ℕ, ◌+◌, ◌<◌, length, set, refl, subst, arith}
use Rattle.packed_names.specs.Hash.{bucket}
use Rattle.packed_names.specs.Table.{hashes_of, Skips}
use Rattle.packed_names.proofs.TableLemmas.{Follows, table_pushed, follows_set, follows_none}
use Rattle.packed_names.proofs.table.insert.Goals as goal

pub returns-then-index-len-clause-table : goal.returns-then-index-len-clause-table
returns-then-index-len-clause-table c =
    let heads = c.args.heads.now.items in
    let suffixes = c.args.suffixes.now.items in
    let s : Skips (hashes_of suffixes) c.bucket_head-next.result (length suffixes) (bucket c.args.hash) = rw (← c.as_slice-2.ensures.value) c.bucket_head-next.ensures in
    let count : c.len-count.result + 1 ≡ length suffixes + 1 = omega (arith, c.len-count.ensures) in
    let less : c.bucket-index.result < length heads = omega (arith, c.if-index-len.true, c.len.ensures) in
    let f : Follows heads (set heads c.bucket-index.result (c.len-count.result + 1)) (bucket c.args.hash) (length suffixes + 1) =
    subst (λ (n : ℕ). Follows heads (set heads c.bucket-index.result (c.len-count.result + 1)) n (length suffixes + 1)) c.bucket-index.ensures
    (subst (λ (n : ℕ). Follows heads (set heads c.bucket-index.result (c.len-count.result + 1)) c.bucket-index.result n) count (follows_set heads c.bucket-index.result (c.len-count.result + 1) less)) in
    table_pushed c.args.key heads (set heads c.bucket-index.result (c.len-count.result + 1)) suffixes c.push.new.self.items
    (record { octets = c.args.octets; hash = c.args.hash; offset = c.args.offset; next = c.bucket_head-next.result })
    c.args.hash c.args.octets.now c.requires.table c.in_ok-push.ensures.items c.requires.wire c.requires.hash c.requires.none refl refl c.requires.near s f

pub returns-else-index-len-clause-table : goal.returns-else-index-len-clause-table
returns-else-index-len-clause-table c =
    let heads = c.args.heads.now.items in
    let suffixes = c.args.suffixes.now.items in
    let s : Skips (hashes_of suffixes) c.bucket_head-next.result (length suffixes) (bucket c.args.hash) = rw (← c.as_slice-2.ensures.value) c.bucket_head-next.ensures in
    table_pushed c.args.key heads heads suffixes c.push.new.self.items
    (record { octets = c.args.octets; hash = c.args.hash; offset = c.args.offset; next = c.bucket_head-next.result })
    c.args.hash c.args.octets.now c.requires.table c.in_ok-push.ensures.items c.requires.wire c.requires.hash c.requires.none refl refl c.requires.near s
    (follows_none heads (bucket c.args.hash) (length suffixes + 1) (omega (arith, c.if-index-len.false, c.len.ensures, c.bucket-index.ensures)))
