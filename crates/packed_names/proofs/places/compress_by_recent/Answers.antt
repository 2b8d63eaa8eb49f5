use Rattle.std.proofs.Common.{◌≡◌, ℕ, List, [], ◌++◌, sym, ap, ◌∙◌}
use Rattle.std.proofs.lemmas.Result.{on_ok_weaker}
use Rattle.dns_name.specs.Wire.{labels_in}
use Rattle.packed_names.specs.declared.table.SuffixEntry.{SuffixEntry}
use Rattle.packed_names.specs.declared.recent.RecentName.{RecentName}
use Rattle.packed_names.specs.Places.{Place, new_places}
use Rattle.packed_names.specs.Recent.{known_after, known_places, count_before_match, match_offset}
use Rattle.packed_names.proofs.WrittenLemmas.{written_match, new_places_match}
use Rattle.packed_names.proofs.places.compress_by_recent.Goals as goal

pub returns-clause-octets : goal.returns-clause-octets
returns-clause-octets c =
    let recent = c.args.recent.now in
    let name = labels_in c.args.octets.now in
    let places = known_places c.args.suffixes.now.items recent in
    let none : places ≡ known_after [] recent = ap (λ (s : List SuffixEntry). known_places s recent) c.requires.none in
    let count : c.longest_match-count.result.0 ≡ count_before_match places name =
    c.longest_match-count.ensures.count ∙ ap (λ (ns : List RecentName). count_before_match (known_after [] ns) name) c.as_slice.ensures ∙ ap (λ (ps : List Place). count_before_match ps name) (sym none) in
    let offset : c.longest_match-count.result.1 ≡ match_offset places name =
    c.longest_match-count.ensures.offset ∙ ap (λ (ns : List RecentName). match_offset (known_after [] ns) name) c.as_slice.ensures ∙ ap (λ (ps : List Place). match_offset ps name) (sym none) in
    on_ok_weaker c.remember.result
    (λ e. written_match places c.args.out.now c.write_cut.new.out c.args.octets.now c.longest_match-count.result.0 c.longest_match-count.result.1 c.requires.wire count offset c.in_ok-write_cut.ensures.octets)
    c.remember.ensures.places

pub returns-clause-places : goal.returns-clause-places
returns-clause-places c =
    let recent = c.args.recent.now in
    let name = labels_in c.args.octets.now in
    let places = known_places c.args.suffixes.now.items recent in
    let none : places ≡ known_after [] recent = ap (λ (s : List SuffixEntry). known_places s recent) c.requires.none in
    let count : c.longest_match-count.result.0 ≡ count_before_match places name =
    c.longest_match-count.ensures.count ∙ ap (λ (ns : List RecentName). count_before_match (known_after [] ns) name) c.as_slice.ensures ∙ ap (λ (ps : List Place). count_before_match ps name) (sym none) in
    on_ok_weaker c.remember.result
    (λ e. e ∙ ap (λ (ps : List Place). places ++ ps) (new_places_match places c.args.octets.now c.len-start.result c.longest_match-count.result.0 c.reach-end.result count c.reach-end.ensures ∙ ap (λ (n : ℕ). new_places places n name) c.len-start.ensures))
    c.remember.ensures.places
