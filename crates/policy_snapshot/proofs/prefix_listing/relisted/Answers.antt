use Rattle.std.proofs.Common.{◌∙◌, ap}
use Rattle.ip_prefix.specs.Prefix.{prefix_order}
use Rattle.summary_index.specs.Summary.{zones_at}
use Rattle.summary_index.specs.Zones.{has_zone}
use Rattle.policy_snapshot.specs.Listing.{zones_after}
use Rattle.policy_snapshot.proofs.PrefixRules.{listed_if, prefixes_merged}
use Rattle.policy_snapshot.proofs.prefix_listing.relisted.Goals as goal

pub returns : goal.returns
returns c =
    listed_if c.args.kind c.requires.kind (zones_after c.args.next.now) c.args.having c.deref-2.result.now c.listed.result c.requires.having c.listed.ensures.having c.listed.ensures.at
    (prefixes_merged c.args.kind c.requires.kind c.args.next.now c.requires.there c.args.before.now c.requires.known c.deref.result.now c.deref-2.result.now c.requires.listed
    (λ p n some within. ap (λ l. has_zone (zones_at prefix_order p l) n) c.deref.ensures.value ∙ c.in_ok-others.ensures.zones p n some within)
    (λ p n some within. ap (λ l. has_zone (zones_at prefix_order p l) n) c.deref-2.ensures.value ∙ c.in_ok-entries.ensures.rules p n some within))
