use Rattle.std.proofs.Common.{◌≡◌, drop}
use Rattle.rpz_words.specs.Lists.{each_of}
use Rattle.rpz_words.specs.ZoneWords.{zone_fault, zone_setting_of}
use Rattle.rpz_words.proofs.EachLemmas.{continued, texts_of}
use Rattle.rpz_words.proofs.zone_words.read_each.Given as goal

abbrev pub invariant-loop-text : goal.invariant-loop-text
invariant-loop-text l = record {
  count : l.number ≡ l.text-index;
  reads : continued zone_setting_of zone_fault l.number l.zones (texts_of (drop l.text-index l.texts)) ≡ each_of zone_setting_of zone_fault 1 (texts_of l.texts);
}
