-- The summary of a load: what the replies to all its queries come to. It knows nothing of workers.
use Rattle.std.specs.Prelude.{ℕ, ◌+◌, ◌*◌, ◌%◌, ◌^◌, ◌==◌, ◌&&◌, Bool, true, false, not, List, [], ◌∷◌, ◌++◌, length, map, flat_map, fold, count_by, slice_index, Option, Some, None, codes, decimal}
use Rattle.dns_name.specs.Labels.{Name}
use Rattle.ip_prefix.specs.declared.Transport.TheVariants.{Udp}
use Rattle.dns_record.specs.declared.soa.Soa.{Soa}
use Rattle.dns_record.specs.Record.{PlainRecord}
use Rattle.dns_record.specs.Row.{row_of}
use Rattle.dns_message.specs.declared.request.Incoming.{Incoming}
use Rattle.dns_message.specs.Request.{incoming_of}
use Rattle.zone_rows.specs.declared.transfer.Transfer.TheVariants.{Whole}
use Rattle.zone_rows.specs.declared.zone.Content.{Content}
use Rattle.zone_rows.specs.declared.zone.PlainZone.{PlainZone}
use Rattle.policy_snapshot.specs.declared.entry.Entry.{Entry}
use Rattle.policy_override.specs.ZoneSet.{given_zones}
use Rattle.policy_snapshot.specs.Policy.{PlainPolicy, policy_after, zone_at}
use Rattle.upstream_link.specs.declared.facts.TheConstants.{FACT_LIMIT}
use Rattle.reply_build.specs.declared.said.Said.TheVariants as said
use Rattle.reply_build.specs.declared.turn.Turn.{Turn}
use Rattle.reply_build.specs.declared.turn.Turn.TheVariants.{Ask, Said}
use Rattle.query_session.specs.Laws.{Upstream, facts_after}
use Rattle.query_session.specs.Session.{turn_by}
use Rattle.load_gen.specs.declared.load.LoadQuery.{LoadQuery}
use Rattle.load_gen.specs.declared.summary.Summary.{Summary}
use Rattle.load_gen.specs.Loads.{PlainLoad}
use Rattle.load_gen.specs.Upstream.{fact_for}
use Rattle.load_gen.specs.Written.{written_name}

-- the policy zone
abbrev pub origin : Name
origin = written_name (codes "rpz.example")

-- its SOA
abbrev pub load_soa : Soa
load_soa =
    record {
      mname = [];
      rname = [];
      serial = 1;
      refresh = 3600;
      retry = 600;
      expire = 86400;
      minimum = 60;
      ttl = 60;
    }

-- the transfer that brings the rows: the whole zone
abbrev pub load_entry : List PlainRecord → Entry
load_entry rows = record { zone = 1; transfer = Whole load_soa (map row_of rows) }

-- the policy of the one zone after that transfer, whose rules do what it says
abbrev pub load_policy : List PlainRecord → PlainPolicy
load_policy rows = policy_after (given_zones (origin ∷ [])) (load_entry rows ∷ [])

-- the upstream, which answers a question so whatever was asked before
abbrev pub upstream : Upstream
upstream facts question = fact_for question

-- what is said once what comes from the upstream leaves no question
abbrev pub last_turn : PlainPolicy → Incoming → Turn
last_turn policy incoming =
    turn_by policy incoming (facts_after policy incoming upstream FACT_LIMIT [])

-- what is said to a query, which came over UDP from a client that may ask
abbrev pub turn_for : PlainPolicy → LoadQuery → Turn
turn_for policy query = last_turn policy (incoming_of true query.message query.client Udp)

-- the bytes of a reply
abbrev pub reply_octets : Turn → List ℕ
reply_octets (Ask question) = []
reply_octets (Said said.Silent) = []
reply_octets (Said (said.Reply octets)) = octets

-- the bytes of a message have this rcode, the lower half of the fourth of them (RFC 1035, section 4.1.1)
abbrev pub has_rcode : ℕ → List ℕ → Bool
has_rcode rcode octets = slice_index octets 3 % 16 == rcode

-- they count no answer, by the seventh and the eighth of them
abbrev pub has_no_answer : List ℕ → Bool
has_no_answer octets = slice_index octets 6 == 0 && slice_index octets 7 == 0

abbrev pub has_nodata : List ℕ → Bool
has_nodata octets = has_rcode 0 octets && has_no_answer octets

abbrev pub has_other : List ℕ → Bool
has_other octets = not (has_rcode 3 octets) && not (has_nodata octets)

-- it is a reply, and the test holds for its bytes
abbrev pub is_reply_with : (List ℕ → Bool) → Turn → Bool
is_reply_with test (Ask question) = false
is_reply_with test (Said said.Silent) = false
is_reply_with test (Said (said.Reply octets)) = test octets

-- a reply with rcode 3
abbrev pub is_nxdomain : Turn → Bool
is_nxdomain turn = is_reply_with (has_rcode 3) turn

-- a reply with rcode 0 and no answer
abbrev pub is_nodata : Turn → Bool
is_nodata turn = is_reply_with has_nodata turn

-- any other reply
abbrev pub is_other : Turn → Bool
is_other turn = is_reply_with has_other turn

-- a byte more of the replies
abbrev pub next_mark : ℕ → ℕ → ℕ
next_mark mark byte = (31 * mark + byte) % 2 ^ 64

-- what the bytes of all replies come to, one after another
abbrev pub mark_of : List Turn → ℕ
mark_of turns = fold next_mark 0 (flat_map reply_octets turns)

-- how many rows are loaded
abbrev pub rows_in : Option Content → ℕ
rows_in None = 0
rows_in (Some content) = length content.rows

-- how many rows the first zone has; rows that came twice count once
abbrev pub zone_rows : Option PlainZone → ℕ
zone_rows None = 0
zone_rows (Some zone) = rows_in zone.content

-- What all queries come to, under the policy of the rows.
abbrev pub summary_under : PlainPolicy → List LoadQuery → Summary
summary_under policy queries = record {
  rows = zone_rows (zone_at policy.zones 1);
  nxdomain = count_by is_nxdomain (map (turn_for policy) queries);
  nodata = count_by is_nodata (map (turn_for policy) queries);
  other = count_by is_other (map (turn_for policy) queries);
  mark = mark_of (map (turn_for policy) queries);
}

-- The summary of a load.
abbrev pub summary : PlainLoad → Summary
summary load = summary_under (load_policy load.rows) load.queries

-- the line of a summary
abbrev pub summary_line : Summary → List ℕ
summary_line s =
    codes "rows "
    ++ (decimal s.rows
    ++ (codes " nxdomain " ++ (decimal s.nxdomain ++ (codes " nodata " ++ (decimal s.nodata
    ++ (codes " other "
    ++ (decimal s.other ++ (codes " mark " ++ (decimal s.mark ++ 10 ∷ [])))))))))
