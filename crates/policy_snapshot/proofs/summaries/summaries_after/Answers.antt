use Rattle.policy_snapshot.specs.Listing.{zones_after, zones_before}
use Rattle.policy_snapshot.proofs.KnownZones.{address_known, all_known, client_known, name_known, response_known, server_known}
use Rattle.policy_snapshot.proofs.summaries.summaries_after.Goals as goal

pub returns : goal.returns
returns c =
    all_known (zones_after c.args.next.now)
    (record { client_ip = c.in_ok-client_ip.client_ip; qname = c.in_ok-qname.qname; response_ip = c.in_ok-response_ip.response_ip; nsdname = c.in_ok-nsdname.nsdname; nsip = c.in_ok-nsip.nsip })
    c.in_ok-client_ip.ensures c.in_ok-qname.ensures c.in_ok-response_ip.ensures c.in_ok-nsdname.ensures c.in_ok-nsip.ensures

pub prefixes_after-requires-clause-known : goal.prefixes_after-requires-clause-known
prefixes_after-requires-clause-known c = client_known (zones_before c.args.next.now) c.args.before.now c.requires.known

pub names_after-requires-clause-known : goal.names_after-requires-clause-known
names_after-requires-clause-known c = name_known (zones_before c.args.next.now) c.args.before.now c.requires.known

pub prefixes_after-requires-2-clause-known : goal.prefixes_after-requires-2-clause-known
prefixes_after-requires-2-clause-known c = response_known (zones_before c.args.next.now) c.args.before.now c.requires.known

pub names_after-requires-2-clause-known : goal.names_after-requires-2-clause-known
names_after-requires-2-clause-known c = server_known (zones_before c.args.next.now) c.args.before.now c.requires.known

pub prefixes_after-requires-3-clause-known : goal.prefixes_after-requires-3-clause-known
prefixes_after-requires-3-clause-known c = address_known (zones_before c.args.next.now) c.args.before.now c.requires.known
