-- The hit in a zone is that in its index.
use Rattle.std.proofs.Common.{◌≡◌, ℕ, List, Option, Some, None, refl, ap, ◌∙◌}
use Rattle.zone_rows.specs.declared.zone.Content.{Content}
use Rattle.zone_index.specs.Indexed.{PlainIndex, index_of}
use Rattle.rpz_precedence.specs.Best.{PlainHit}
use Rattle.policy_snapshot.specs.Lookup.{content_hit, index_hit}
use Rattle.policy_snapshot.specs.Sight.{PlainSight}

module _ (number : ℕ) (sight : PlainSight) where
  hit_by : Option PlainIndex → Option PlainHit
  hit_by None = None
  hit_by (Some index) = index_hit number index.soa_record sight index.rules

  in_content : (origin : List (List ℕ)) (content : Option Content) → hit_by (index_of origin content) ≡ content_hit number sight origin content
  unfolding hit_by
  in_content origin None = refl
  in_content origin (Some content) = refl

  pub hit_in_zone : (origin : List (List ℕ)) (content : Option Content) (index : PlainIndex) → Some index ≡ index_of origin content → index_hit number index.soa_record sight index.rules ≡ content_hit number sight origin content
  unfolding hit_by
  hit_in_zone origin content index e = ap hit_by e ∙ in_content origin content
