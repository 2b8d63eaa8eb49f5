use Rattle.std.proofs.Common.{◌≡◌, ℕ, List, ◌++◌, length, map, sym, ap, ◌∙◌}
use Rattle.std.specs.Char.{to_ascii_lowercase}
use Rattle.std.proofs.lemmas.List.{with_items_is, length-map}
use Rattle.dns_name.specs.Labels.{name_octets, lowered}
use Rattle.dns_name.proofs.WireLemmas.{octets-lowered}
use Rattle.dns_record.specs.Number.{number_octets}
use Rattle.answer_cache.specs.Key.{key_of}
use Rattle.answer_cache.proofs.key.key_octets.Goals as goal

pub returns : goal.returns
unfolding key_of
returns c =
    let question = c.args.question.now in
    let key = c.extend_from_slice.new.self in
    let copied : key.items ≡ name_octets question.name =
    c.in_ok-extend_from_slice.ensures.items ∙ ap (λ (front : List ℕ). front ++ c.octets-name.result.now) c.in_ok-key.ensures.items ∙ c.octets-name.ensures.octets in
    let small : c.make_ascii_lowercase.new.self ≡ map to_ascii_lowercase key.items = c.make_ascii_lowercase.ensures.after ∙ ap (map to_ascii_lowercase) c.deref_mut.ensures.value in
    let name : c.from_vec-octets.result ≡ name_octets (lowered question.name) =
    c.from_vec-octets.ensures
    ∙ with_items_is key c.make_ascii_lowercase.new.self (ap length small ∙ length-map key.items to_ascii_lowercase ∙ sym key.ok.0)
    ∙ small ∙ ap (map to_ascii_lowercase) copied ∙ octets-lowered question.name c.octets-name.ensures.name.labels in
    let with_type = c.in_ok-push_u16.ensures.ok ∙ ap (λ (octets : List ℕ). octets ++ number_octets 2 question.qtype) name in
    c.in_ok-push_u16-2.ensures.ok ∙ ap (λ (octets : List ℕ). octets ++ number_octets 2 question.qclass) with_type
