-- What the code borrows, as plain values.
use Rattle.std.specs.Prelude.{Bool, List, map, is_some}
use Rattle.dns_name.specs.Labels.{Name}
use Rattle.dns_record.specs.Record.{PlainRecord}
use Rattle.dns_message.specs.Aged.{aged}
use Rattle.upstream_link.specs.Chain.{alias_of, chain_aliases}
use Rattle.reply_build.specs.declared.place.HitPlaceRef.{HitPlaceRef}
use Rattle.reply_build.specs.Reply.{HitPlace}

-- the records have an alias of this name
abbrev pub has_alias : List PlainRecord → Name → Bool
has_alias records name = is_some (alias_of records name)

abbrev pub place_seen : HitPlaceRef → HitPlace
place_seen place =
    record {
      kept = map (aged place.age) (chain_aliases place.records.now place.before.now);
      name = place.name.now;
      soa = place.soa.now;
    }
