use Rattle.std.proofs.Common.{◌∙◌, arith}
use Rattle.dns_message.proofs.Drafts.{number_set}
use Rattle.dns_message.proofs.compressed_data.set_length.Goals as goal

pub returns : goal.returns
returns c =
    number_set c.args.out.now c.into_vec-octets.result.items c.from_vec.result c.args.at c.len.result c.requires (c.into_vec-octets.ensures ∙ c.replace.ensures.value) (omega (arith, c.len.ensures, c.into_vec-octets.result.ok.0)) c.from_vec.ensures
