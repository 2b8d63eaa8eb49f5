use Rattle.std.proofs.Common.{◌≡◌, ◌-◌, List, ℕ, length, take, sym, ap, ◌∙◌, arith}
use Rattle.std.proofs.lemmas.List.{length-take-le}
use Rattle.trigger_codec.specs.Address.{v6_of, words_read}
use Rattle.trigger_codec.specs.Words.{word_count}
use Rattle.trigger_codec.proofs.WordLemmas.{eight_words, zz_address}
use Rattle.trigger_codec.proofs.address.shortened.Goals as goal

pub address_6-requires-clause-eight : goal.address_6-requires-clause-eight
address_6-requires-clause-eight c =
    let labels : List (List ℕ) = take c.args.count c.args.labels.now in
    let len : length labels ≡ c.args.count = length-take-le c.args.count c.args.labels.now c.requires.within in
    ap (λ (n : ℕ). word_count (9 - n) labels) (sym len) ∙ eight_words labels c.requires.one (omega (arith, len, c.requires.few))

pub returns : goal.returns
returns c =
    let labels : List (List ℕ) = take c.args.count c.args.labels.now in
    let len : length labels ≡ c.args.count = length-take-le c.args.count c.args.labels.now c.requires.within in
    c.address_6.ensures ∙ ap (λ (n : ℕ). v6_of (words_read (9 - n) labels)) (sym len) ∙ sym (zz_address labels c.requires.one (omega (arith, len, c.requires.few)))
