use Rattle.std.proofs.Common.{◌≡◌, take, Err, sym, ap, ◌∙◌, arith}
use Rattle.ip_prefix.specs.declared.prefix.PrefixFault.{PrefixFault}
use Rattle.ip_prefix.specs.Prefix.{prefix_of}
use Rattle.trigger_codec.specs.Address.{as_inert, prefix_read}
use Rattle.trigger_codec.proofs.Firsts.{prefix_is}
use Rattle.trigger_codec.proofs.address.prefix_of.Goals as goal
use Rattle.trigger_codec.proofs.address.prefix_of.Goals.{After-new}

is_made : (c : After-new) → prefix_read (take c.args.count c.args.owner.now) ≡ as_inert (prefix_of c.in-Some-address_of.addr c.in-Some-length_of.len)
is_made c = prefix_is c.args.owner.now c.args.count c.in-Some.first.now c.next_label.new.self c.in-Some-length_of.len c.in-Some-address_of.addr (sym c.labels.ensures.labels ∙ c.in-Some.ensures.next) (omega arith) c.in-Some-length_of.ensures c.in-Some-address_of.ensures

pub returns-in-Ok : goal.returns-in-Ok
returns-in-Ok c = ap as_inert c.in-Ok.ensures ∙ sym (is_made ((goal.at.returns-in-Ok c).After-new))

pub returns-in-Err-Length : goal.returns-in-Err-Length
returns-in-Err-Length c = ap (λ (f : PrefixFault). as_inert (Err f)) (sym c.in-Err-Length.field-0-is) ∙ ap as_inert (sym c.in-Err-Length.is ∙ c.new.ensures) ∙ sym (is_made ((goal.at.returns-in-Err-Length c).After-new))

pub returns-in-Err-HostBits : goal.returns-in-Err-HostBits
returns-in-Err-HostBits c = ap (λ (f : PrefixFault). as_inert (Err f)) (sym c.in-Err-HostBits.field-0-is) ∙ ap as_inert (sym c.in-Err-HostBits.is ∙ c.new.ensures) ∙ sym (is_made ((goal.at.returns-in-Err-HostBits c).After-new))
