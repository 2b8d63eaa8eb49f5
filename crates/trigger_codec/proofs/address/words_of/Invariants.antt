use Rattle.std.proofs.Common.{◌≡◌, ◌-◌, ◌+◌, ◌≤◌, take, length}
use Rattle.trigger_codec.specs.Address.{words_read}
use Rattle.trigger_codec.proofs.WordLemmas.{Reads}
use Rattle.trigger_codec.proofs.address.words_of.Given as goal

abbrev pub invariant-loop-i : goal.invariant-loop-i
invariant-loop-i l = record {
  reads : Reads l.missing (words_read l.missing (take l.count l.initial.labels)) (take (l.count - l._i) l.labels) l.words l.place;
  within : l.count ≤ length l.labels + l._i;
  eight : length l.words ≡ 8;
}
