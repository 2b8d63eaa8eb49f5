-- The set's look-up is the exact test on the keys' bytes.
use Rattle.std.proofs.Common.{◌∙◌, ap}
use Rattle.zone_rows.specs.KeySet.{has_key}
use Rattle.zone_rows.proofs.Keys.{any_is_has_key}
use Rattle.zone_rows.proofs.key_set.KeySet.contains.Goals as goal

pub returns : goal.returns
returns c = c.contains.ensures ∙ any_is_has_key (λ k. k.items) c.args.key.now c.self.inside.keys.keys ∙ ap (λ keys. has_key keys c.args.key.now) c.self.view_is
