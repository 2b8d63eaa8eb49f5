use Rattle.std.proofs.Common.{is_ok}
use Rattle.upstream_link.specs.Entries.{entries_of}
use Rattle.upstream_link.proofs.FactLemmas.{facts_pushed}
use Rattle.upstream_link.proofs.Found.{pushed_entries}
use Rattle.upstream_link.proofs.facts.Facts.push.Goals as goal

pub invariant_of-self : goal.invariant_of-self
invariant_of-self c =
    facts_pushed (entries_of c.self.inside.facts.items) c.args.self.now (entries_of c.push.new.self.items) (c.args.question, c.args.fact) (is_ok c.push.result) c.self.invariant c.self.view_is c.requires.fresh c.requires.room c.life-life.ensures.kept
    (pushed_entries c.self.inside.facts.items c.push.new.self.items c.in_ok-known.known c.args.question c.args.fact (is_ok c.push.result) c.push.ensures.items c.in_ok-known.ensures.question c.in_ok-known.ensures.fact)
