use Rattle.std.proofs.Common.{◌≡◌, ap, ◌∙◌}
use Rattle.dns_name.specs.Alike.{PlainPattern}
use Rattle.dns_name.specs.Order.{canonical_order}
use Rattle.qname_index.specs.Patterns.{name_in}
use Rattle.qname_index.proofs.Written.{base_is, key_in}
use Rattle.qname_index.proofs.pattern_ref.PatternRef.canonical_cmp.Goals as goal

pub compare_keys-requires-clause-first : goal.compare_keys-requires-clause-first
compare_keys-requires-clause-first c = key_in c.self.inside.key.now c.self.inside.wild c.self.invariant

pub compare_keys-requires-clause-second : goal.compare_keys-requires-clause-second
compare_keys-requires-clause-second c = key_in c.other.inside.key.now c.other.inside.wild c.other.invariant

pub returns : goal.returns
returns c =
    let mine : name_in c.self.inside.key.now ≡ c.args.self.now.base = base_is c.self.inside.key.now c.self.inside.wild ∙ ap (λ (p : PlainPattern). p.base) c.self.view_is in
    let theirs : name_in c.other.inside.key.now ≡ c.args.other.now.base = base_is c.other.inside.key.now c.other.inside.wild ∙ ap (λ (p : PlainPattern). p.base) c.other.view_is in
    c.compare_keys.ensures ∙ (λ i. canonical_order (mine i) (theirs i))
