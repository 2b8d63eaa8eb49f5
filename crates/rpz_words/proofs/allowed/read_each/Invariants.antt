use Rattle.std.proofs.Common.{◌≡◌, drop}
use Rattle.networks.specs.NetworkText.{network_text}
use Rattle.rpz_words.specs.Lists.{allow_fault, each_of}
use Rattle.rpz_words.proofs.EachLemmas.{continued, texts_of}
use Rattle.rpz_words.proofs.allowed.read_each.Given as goal

abbrev pub invariant-loop-text : goal.invariant-loop-text
invariant-loop-text l = record {
  count : l.number ≡ l.text-index;
  reads : continued network_text allow_fault l.number l.networks.items (texts_of (drop l.text-index l.texts)) ≡ each_of network_text allow_fault 1 (texts_of l.texts);
}
