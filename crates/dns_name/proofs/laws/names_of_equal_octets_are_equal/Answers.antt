use Rattle.std.proofs.Common.{refl, sym, ◌∙◌}
use Rattle.dns_name.specs.Labels.{name_octets}
use Rattle.dns_name.proofs.WireLemmas.{labels_in-octets}
use Rattle.dns_name.proofs.laws.names_of_equal_octets_are_equal.Goals as goal

pub returns : goal.returns
returns c = λ name other is_name is_other same. sym (labels_in-octets (name_octets name) name refl is_name) ∙ labels_in-octets (name_octets name) other same is_other
