use Rattle.std.proofs.Common.{◌≡◌, drop}
use Rattle.rpz_words.specs.Endpoint.{endpoint_of}
use Rattle.rpz_words.specs.Lists.{each_of, listen_fault}
use Rattle.rpz_words.proofs.EachLemmas.{continued, texts_of}
use Rattle.rpz_words.proofs.endpoints.read_each.Given as goal

abbrev pub invariant-loop-text : goal.invariant-loop-text
invariant-loop-text l = record {
  count : l.number ≡ l.text-index;
  reads : continued endpoint_of listen_fault l.number l.endpoints (texts_of (drop l.text-index l.texts)) ≡ each_of endpoint_of listen_fault 1 (texts_of l.texts);
}
