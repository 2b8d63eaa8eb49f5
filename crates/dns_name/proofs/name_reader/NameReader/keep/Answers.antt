use Rattle.std.proofs.Common.{◌≡◌, ◌++◌, ◌∙◌, arith}
use Rattle.dns_name.specs.Tails.{IsNameAt}
use Rattle.dns_name.proofs.TailLemmas.{tails_more, tail_new}
use Rattle.dns_name.proofs.name_reader.NameReader.keep.Goals as goal

pub mark-requires-clause-are : goal.mark-requires-clause-are
mark-requires-clause-are c = rw (c.as_slice.ensures.value, c.in_ok-extend_from_slice.ensures.items) (tails_more c.self.inside.message.now c.self.inside.octets.items _ c.self.inside.spans.items c.self.invariant)

pub mark-requires-clause-name : goal.mark-requires-clause-name
mark-requires-clause-name c =
    let stands : IsNameAt c.self.inside.message.now c.args.at c.args.name.now = rw (c.self.view_is, c.has_table.ensures) c.requires in
    let whole : c.as_slice.result.now ≡ c.self.inside.octets.items ++ c.octets.result.now = c.as_slice.ensures.value ∙ c.in_ok-extend_from_slice.ensures.items in
    tail_new c.self.inside.message.now c.self.inside.octets.items c.as_slice.result.now c.args.at c.len-from.result c.args.name.now c.octets.result.now (omega (arith, c.self.inside.octets.ok.0)) stands c.octets.ensures.octets whole
