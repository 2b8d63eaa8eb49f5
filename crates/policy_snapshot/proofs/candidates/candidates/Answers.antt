use Rattle.std.proofs.Common.{◌||◌, ap, ◌∙◌}
use Rattle.dns_name.specs.Alike.{matches}
use Rattle.summary_index.specs.Summary.{may_fit}
use Rattle.policy_snapshot.proofs.candidates.candidates.Goals as goal

pub returns : goal.returns
returns c = λ n.
    let name = c.matching-name.ensures n
    ∙ (λ i. may_fit (λ p. (ap (matches p) c.requires.name ∙ c.case_does_not_matter.ensures.pattern p c.args.sight.now.name.now) i) c.args.summaries.now.qname n) in
    let last = c.union.ensures.union n ∙ (λ i. c.for_lists-servers.ensures n i || c.for_addresses-addresses.ensures n i) in
    let more = c.union-2.ensures.union n ∙ (λ i. c.for_records-records.ensures n i || last i) in
    let some = c.union-3.ensures.union n ∙ (λ i. name i || more i) in
    c.union-4.ensures.union n ∙ (λ i. c.for_client-client.ensures n i || some i)
