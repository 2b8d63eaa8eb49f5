use Rattle.std.proofs.Common.{◌≡◌, ◌-◌, ap, sym, ◌∙◌, length, true, refl, arith, length-append}
use Rattle.std.specs.List.{flat_map}
use Rattle.dns_name.specs.Labels.{label_octets}
use Rattle.packed_names.proofs.RecentLemmas.{no_match, no_suffix, tail_all, begins_of, is_match}
use Rattle.packed_names.proofs.recent.offset_in.Goals as goal

pub returns-then-octets-whole-clause-place : goal.returns-then-octets-whole-clause-place
returns-then-octets-whole-clause-place c =
    no_match c.args.name.now c.args.octets.now c.requires.name c.requires.wire (λ front labels parts lt. omega (arith, ap length parts, length-append (flat_map label_octets front) c.args.octets.now))

pub returns-then-at-from-clause-place : goal.returns-then-at-from-clause-place
returns-then-at-from-clause-place c =
    no_match c.args.name.now c.args.octets.now c.requires.name c.requires.wire (λ front labels parts lt. omega (arith, ap length parts, length-append (flat_map label_octets front) c.args.octets.now))

pub returns-then-not-is_same-clause-place : goal.returns-then-not-is_same-clause-place
returns-then-not-is_same-clause-place c =
    let index = length c.args.name.now.octets.now - length c.args.octets.now in
    no_match c.args.name.now c.args.octets.now c.requires.name c.requires.wire
    (λ front labels parts lt. let same : c.is_same.result ≡ true = c.is_same.ensures.1 (tail_all c.args.name.now.octets.now index ∙ no_suffix c.args.name.now.octets.now (flat_map label_octets front) c.args.octets.now index parts refl) in cc)

pub returns-then-not-begins_label-clause-place : goal.returns-then-not-begins_label-clause-place
returns-then-not-begins_label-clause-place c =
    let index = length c.args.name.now.octets.now - length c.args.octets.now in
    no_match c.args.name.now c.args.octets.now c.requires.name c.requires.wire
    (λ front labels parts lt. let begins : c.begins_label.result ≡ true = c.begins_label.ensures.others (begins_of c.args.name.now.octets.now c.args.octets.now front index labels parts refl) in cc)

pub returns-clause-place : goal.returns-clause-place
returns-clause-place c =
    let index = length c.args.name.now.octets.now - length c.args.octets.now in
    let start : c.from.result ≡ c.args.name.now.start = c.from.ensures in
    rw start (is_match c.args.name.now c.args.octets.now index c.requires.name c.requires.wire c.requires.label (c.begins_label.ensures.begins c.if-not-begins_label.false)
    (sym (tail_all c.args.name.now.octets.now index) ∙ c.is_same.ensures.0 c.if-not-is_same.false) (omega (arith, c.from.ensures, c.from-2.ensures, c.if-at-from.false)))
