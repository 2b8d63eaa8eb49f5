-- What the set's `insert` says in its order, on the keys' bytes.
use Rattle.std.proofs.Common.{◌∙◌, ap, not, bytes_eq, ◌||◌}
use Rattle.zone_rows.specs.KeySet.{has_key}
use Rattle.zone_rows.proofs.Keys.{any_is_has_key, has_key-insert}
use Rattle.zone_rows.proofs.key_set.KeySet.insert.Goals as goal

pub returns-clause-new : goal.returns-clause-new
returns-clause-new c =
    c.in_ok-insert.ensures.added
    ∙ ap not (any_is_has_key (λ k. k.items) c.args.key.items c.self.inside.keys.keys ∙ ap (λ keys. has_key keys c.args.key.items) c.self.view_is)

pub returns-clause-ok : goal.returns-clause-ok
returns-clause-ok c = λ other.
    let updates = c.in_ok-insert.ensures.updates in
    has_key-insert (λ k. k.items) c.args.key.items c.self.inside.keys.keys c.insert.new.self.keys updates.1 updates.3 other
    ∙ ap (λ keys. bytes_eq other c.args.key.items || has_key keys other) c.self.view_is
