-- What a loaded zone lends is what its content has.
use Rattle.std.proofs.Common.{◌≡◌, ℕ, Option, Some, None, List, Result, Ok, Err, ap, sym, subst, ◌∙◌}
use Rattle.dns_name.specs.Reading.{◌>>=◌}
use Rattle.dns_record.specs.Row.{PlainRow}
use Rattle.dns_record.specs.declared.soa.Soa.{Soa}
use Rattle.zone_rows.specs.Repeats.{without_repeats}
use Rattle.zone_rows.specs.Stepping.{whole_outcome}
use Rattle.zone_rows.specs.Steps.{PlainStep, steps_outcome}
use Rattle.zone_rows.specs.Zone.{Fails, apply_outcome, apply_outcome_within, fewer_rows, newer_soa}
use Rattle.zone_rows.specs.declared.fault.ApplyError.{ApplyError}
use Rattle.zone_rows.specs.declared.fault.ApplyError.TheVariants.{OutOfMemory, Fault}
use Rattle.zone_rows.specs.declared.transfer.Transfer.{Transfer}
use Rattle.zone_rows.specs.declared.transfer.Transfer.TheVariants.{Whole, Steps}
use Rattle.zone_rows.specs.declared.zone.TheConstants.{ROW_LIMIT}
use Rattle.zone_rows.specs.declared.fault.ApplyFault.{ApplyFault}
use Rattle.zone_rows.specs.declared.zone.Content.{Content}
use Rattle.zone_rows.specs.declared.zone.PlainZone.{PlainZone}
use Rattle.trigger_codec.specs.declared.trigger.Trigger.{Trigger}
use Rattle.zone_index.specs.Indexed.{IsLoaded, IsLoadedIf, PlainIndex, content_after, content_of, content_rule, index_of}
use Rattle.zone_index.specs.Laws.{rule_at}
use Rattle.zone_index.specs.Placed.{rules_in}
use Rattle.zone_index.specs.Rules.{rules_of}
use Rattle.zone_index.specs.declared.loaded.Loaded.{Loaded}
use Rattle.zone_index.proofs.Gathered.{rule_of_rows}

module _ (origin : List (List ℕ)) (loaded : Loaded) (is : IsLoaded origin loaded) where
  pub rule_of_loaded : (t : Trigger) → rule_at (rules_in loaded.rows) t ≡ content_rule origin (content_of (Some loaded)) t
  rule_of_loaded t =
      ap (λ (o : List (List ℕ)). rule_at (rules_of o loaded.rows.rows) t) is.origin_is ∙ rule_of_rows origin loaded.rows.rows t

  pub index_of_loaded : (index : PlainIndex) → index.soa_record ≡ loaded.soa_record → index.rules ≡ rules_in loaded.rows → Some index ≡ index_of origin (content_of (Some loaded))
  index_of_loaded index soa rules =
      let record_is : index.soa_record ≡ _ = soa ∙ is.record_is in
      let rules_are : index.rules ≡ rules_of origin loaded.rows.rows = rules ∙ ap (λ (o : List (List ℕ)). rules_of o loaded.rows.rows) is.origin_is in
      λ i. Some (record { soa_record = record_is i; rules = rules_are i })

-- of the zone that holds it
pub zone_rule : (origin : List (List ℕ)) (held : Option Loaded) (loaded : Loaded) (zone : PlainZone) (t : Trigger) → IsLoadedIf origin held → held ≡ Some loaded → record { origin = origin; content = content_of held } ≡ zone
    → rule_at (rules_in loaded.rows) t ≡ content_rule zone.origin zone.content t
zone_rule origin held loaded zone t is e view =
    rule_of_loaded origin loaded (subst (IsLoadedIf origin) e is) t
    ∙ ap (λ (h : Option Loaded). content_rule origin (content_of h) t) (sym e)
    ∙ ap (λ (z : PlainZone). content_rule z.origin z.content t) view

-- what a whole transfer makes
pub whole_made : (bound : ℕ) (content : Option Content) (soa newer : Soa) (rows kept few : List PlainRow) (new : Loaded)
    → Ok newer ≡ newer_soa content soa → kept ≡ without_repeats rows → Ok few ≡ fewer_rows bound kept → new.soa ≡ newer → new.rows.rows ≡ few
    → whole_outcome bound content soa rows ≡ Ok (record { soa = new.soa; rows = new.rows.rows })
whole_made bound content soa newer rows kept few new first no_repeats fewer its_soa its_rows =
    ap (λ (r : Result Soa ApplyFault). r >>= (λ n. fewer_rows bound (without_repeats rows) >>= (λ k. made n k))) (sym first)
    ∙ ap (λ (ks : List PlainRow). fewer_rows bound ks >>= (λ k. made newer k)) (sym no_repeats)
    ∙ ap (λ (r : Result (List PlainRow) ApplyFault). r >>= (λ k. made newer k)) (sym fewer)
    ∙ (λ i. Ok (record { soa = sym its_soa i; rows = sym its_rows i })) where
      made : Soa → List PlainRow → Result Content ApplyFault
      made n k = Ok (record { soa = n; rows = k })

abbrev held_by : List (List ℕ) → Content → PlainZone
held_by origin content = record { origin = origin; content = Some content }

fails_by : (origin : List (List ℕ)) (error : ApplyError) (r : Result Content ApplyFault) → Fails error (r >>= (λ content. Ok (held_by origin content))) → Fails error r
fails_by origin OutOfMemory r h = tt
fails_by origin (Fault f) (Ok c) h = cc h
fails_by origin (Fault f) (Err g) h = cc h

made_by : (origin : List (List ℕ)) (zone : PlainZone) (content : Content) (r : Result Content ApplyFault) → (r >>= (λ content. Ok (held_by origin content))) ≡ Ok zone → zone.content ≡ Some content → r ≡ Ok content
made_by origin zone content (Ok c) e held =
    let same : held_by origin c ≡ zone = cc e in
    let both : Some c ≡ Some content = ap (λ (z : PlainZone). z.content) same ∙ held in
    let one : c ≡ content = cc both in
    ap (λ (x : Content). Ok x) one
made_by origin zone content (Err f) e held = cc e

held_so : (origin : List (List ℕ)) (zone : PlainZone) (r : Result Content ApplyFault) → (r >>= (λ content. Ok (held_by origin content))) ≡ Ok zone → zone.content ≡ None → ⊥
held_so origin zone (Ok c) e held =
    let same : held_by origin c ≡ zone = cc e in
    some_not_none c (ap (λ (z : PlainZone). z.content) same ∙ held) where
      some_not_none : (c : Content) → ◌≡◌ {A = Option Content} (Some c) None → ⊥
      some_not_none c e = cc e
held_so origin zone (Err f) e held = err_not_ok f zone e where
  err_not_ok : (f : ApplyFault) (zone : PlainZone) → ◌≡◌ {A = Result PlainZone ApplyFault} (Err f) (Ok zone) → ⊥
  err_not_ok f zone e = cc e

-- what steps make of a plain zone is what they make of its content
module _ (origin : List (List ℕ)) (content : Content) (steps : List PlainStep) where
  pub plain_fails : (error : ApplyError) → Fails error (apply_outcome (held_by origin content) (Steps steps)) → Fails error (steps_outcome ROW_LIMIT (Some content) steps)
  unfolding apply_outcome_within
  plain_fails error h = fails_by origin error (steps_outcome ROW_LIMIT (Some content) steps) h

  pub plain_made : (zone : PlainZone) (after : Content) → apply_outcome (held_by origin content) (Steps steps) ≡ Ok zone → zone.content ≡ Some after → steps_outcome ROW_LIMIT (Some content) steps ≡ Ok after
  unfolding apply_outcome_within
  plain_made zone after e held = made_by origin zone after (steps_outcome ROW_LIMIT (Some content) steps) e held

  pub plain_held : (zone : PlainZone) → apply_outcome (held_by origin content) (Steps steps) ≡ Ok zone → zone.content ≡ None → ⊥
  unfolding apply_outcome_within
  plain_held zone e held = held_so origin zone (steps_outcome ROW_LIMIT (Some content) steps) e held

-- ---- the zone after a transfer

abbrev content_of_both : Soa → List PlainRow → Content
content_of_both soa rows = record { soa = soa; rows = rows }

whole_by : (origin : List (List ℕ)) (a : Result Soa ApplyFault) (b : Result (List PlainRow) ApplyFault) (c : Content) → (a >>= (λ n. b >>= (λ k. Ok (record { soa = n; rows = k })))) ≡ Ok c
    → (a >>= (λ n. b >>= (λ k. Ok (held_by origin (record { soa = n; rows = k }))))) ≡ Ok (held_by origin c)
whole_by origin (Ok n) (Ok k) c e = let same : record { soa = n; rows = k } ≡ c = cc e in ap (λ (x : Content). Ok (held_by origin x)) same
whole_by origin (Ok n) (Err f) c e = cc e
whole_by origin (Err f) b c e = cc e

steps_by : (origin : List (List ℕ)) (r : Result Content ApplyFault) (c : Content) → r ≡ Ok c → (r >>= (λ content. Ok (held_by origin content))) ≡ Ok (held_by origin c)
steps_by origin r c e = ap (λ (x : Result Content ApplyFault). x >>= (λ content. Ok (held_by origin content))) e

zone_by : (origin : List (List ℕ)) (content : Option Content) (transfer : Transfer) (c : Content) → content_after content transfer ≡ Ok c → apply_outcome (record { origin = origin; content = content }) transfer ≡ Ok (held_by origin c)
unfolding apply_outcome_within
zone_by origin content (Whole soa rows) c e = whole_by origin (newer_soa content soa) (fewer_rows ROW_LIMIT (without_repeats rows)) c e
zone_by origin content (Steps steps) c e = steps_by origin (steps_outcome ROW_LIMIT content steps) c e

pub zone_made : (zone : PlainZone) (transfer : Transfer) (c : Content) (origin : List (List ℕ)) → content_after zone.content transfer ≡ Ok c → origin ≡ zone.origin → apply_outcome zone transfer ≡ Ok (held_by origin c)
zone_made zone transfer c origin e same = zone_by zone.origin zone.content transfer c e ∙ ap (λ (o : List (List ℕ)). Ok (held_by o c)) (sym same)

whole_fails : (origin : List (List ℕ)) (error : ApplyError) (a : Result Soa ApplyFault) (b : Result (List PlainRow) ApplyFault) → Fails error (a >>= (λ n. b >>= (λ k. Ok (content_of_both n k))))
    → Fails error (a >>= (λ n. b >>= (λ k. Ok (held_by origin (record { soa = n; rows = k })))))
whole_fails origin OutOfMemory a b h = tt
whole_fails origin (Fault f) (Ok n) (Ok k) h = cc h
whole_fails origin (Fault f) (Ok n) (Err g) h = cc h
whole_fails origin (Fault f) (Err g) b h = cc h

steps_fail : (origin : List (List ℕ)) (error : ApplyError) (r : Result Content ApplyFault) → Fails error r → Fails error (r >>= (λ content. Ok (held_by origin content)))
steps_fail origin OutOfMemory r h = tt
steps_fail origin (Fault f) (Ok c) h = cc h
steps_fail origin (Fault f) (Err g) h = cc h

pub zone_fails : (zone : PlainZone) (transfer : Transfer) (error : ApplyError) → Fails error (content_after zone.content transfer) → Fails error (apply_outcome zone transfer)
unfolding apply_outcome_within
zone_fails zone (Whole soa rows) error h = whole_fails zone.origin error (newer_soa zone.content soa) (fewer_rows ROW_LIMIT (without_repeats rows)) h
zone_fails zone (Steps steps) error h = steps_fail zone.origin error (steps_outcome ROW_LIMIT zone.content steps) h
