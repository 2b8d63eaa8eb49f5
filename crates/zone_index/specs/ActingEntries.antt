-- Entries that act, with one value in place of their own: of these a summary of several zones is made.
use Rattle.std.specs.Prelude.{◌≡◌, ℕ, Bool, true, if◌then◌else◌, List, [], ◌∷◌, flat_map, Option, Some, None}
use Rattle.std.specs.BTreeMap.{is_at}
use Rattle.std.specs.Cmp.Lexicographic.{slice_cmp}
use Rattle.std.specs.Map.{lookup}
use Rattle.std.specs.Option.{option_map}
use Rattle.std.specs.Ordering.{nat_cmp}
use Rattle.dns_name.specs.Alike.{PlainPattern}
use Rattle.ip_prefix.specs.Prefix.{PlainPrefix, prefix_order}
use Rattle.qname_index.specs.Best.{pattern_order}
use Rattle.qname_index.specs.Ranked.{pattern_key}
use Rattle.trie_keys.specs.declared.marked.Marked.{Marked}
use Rattle.trigger_codec.specs.Bases.{IsPattern}
use Rattle.trigger_codec.specs.declared.trigger.Kind.{Kind}
use Rattle.trigger_codec.specs.declared.trigger.Kind.TheVariants as kinds
use Rattle.action_codec.specs.declared.action.Action.{Action}
use Rattle.zone_index.specs.Does.{acts}
use Rattle.zone_index.specs.Entry.{PlainEntry}
use Rattle.zone_index.specs.Kept.{kept_acts}
use Rattle.zone_index.specs.Kinds.{PlainRules}
use Rattle.zone_index.specs.Places.{RulesOf}
use Rattle.zone_index.specs.declared.kept.Kept.{Kept}

-- the value, with a mark that says that it is there
abbrev pub marked : {N : Type 0} → N → Marked N Bool
marked value = record { value = value; mark = true }

-- the value, where something acts
abbrev pub marked_if : {N : Type 0} → N → Bool → Option (Marked N Bool)
marked_if value b = if b then Some (marked value) else None

-- the value at a key, where what the trie has there acts
abbrev pub marked_if_kept : {N : Type 0} → N → Option (Marked ℕ Kept) → Option (Marked N Bool)
marked_if_kept value None = None
marked_if_kept value (Some kept) = marked_if value (kept_acts kept.mark)

-- and where the entry there acts
abbrev pub marked_if_entry : {N : Type 0} → N → Option PlainEntry → Option (Marked N Bool)
marked_if_entry value None = None
marked_if_entry value (Some entry) = marked_if value (acts entry.does)

-- and where there is a rule
abbrev pub marked_if_rule : {N : Type 0} → N → Option Action → Option (Marked N Bool)
marked_if_rule value rule = option_map (λ _. marked value) rule

-- the key with the value, if its entry acts
abbrev pub acting_one : {K N : Type 0} → N → K × Marked ℕ Kept → List (K × Marked N Bool)
acting_one value e = if kept_acts e.1.mark then (e.0, marked value) ∷ [] else []

-- the keys of the entries that act, each with the value
abbrev pub acting_marked : {K N : Type 0} → N → List (K × Marked ℕ Kept) → List (K × Marked N Bool)
acting_marked value entries = flat_map (acting_one value) entries

-- what there is for a kind whose triggers are patterns; nothing for another kind
abbrev pub pattern_values : {V : Type 0} → RulesOf V → Kind → List (PlainPattern × V)
pattern_values rules kinds.ClientIp = []
pattern_values rules kinds.Qname = rules.qname
pattern_values rules kinds.ResponseIp = []
pattern_values rules kinds.NsDname = rules.nsdname
pattern_values rules kinds.NsIp = []

-- what there is for a kind whose triggers are prefixes; nothing for another kind
abbrev pub prefix_values : {V : Type 0} → RulesOf V → Kind → List (PlainPrefix × V)
prefix_values rules kinds.ClientIp = rules.client_ip
prefix_values rules kinds.Qname = []
prefix_values rules kinds.ResponseIp = rules.response_ip
prefix_values rules kinds.NsDname = []
prefix_values rules kinds.NsIp = rules.nsip

-- the rules of a kind whose triggers are patterns; none of another kind
abbrev pub pattern_rules : PlainRules → Kind → List (PlainPattern × Action)
pattern_rules rules kinds.ClientIp = []
pattern_rules rules kinds.Qname = rules.qname
pattern_rules rules kinds.ResponseIp = []
pattern_rules rules kinds.NsDname = rules.nsdname
pattern_rules rules kinds.NsIp = []

-- the rules of a kind whose triggers are prefixes; none of another kind
abbrev pub prefix_rules : PlainRules → Kind → List (PlainPrefix × Action)
prefix_rules rules kinds.ClientIp = rules.client_ip
prefix_rules rules kinds.Qname = []
prefix_rules rules kinds.ResponseIp = rules.response_ip
prefix_rules rules kinds.NsDname = []
prefix_rules rules kinds.NsIp = rules.nsip

-- at a pattern's key stands what the look-up of the pattern gives
abbrev pub StandsByKey : {V : Type 0} → (PlainPattern → Option V) → List (List ℕ × V) → Type 0
StandsByKey found entries =
    (pattern : PlainPattern) → IsPattern pattern → lookup (is_at (slice_cmp nat_cmp (pattern_key pattern))) entries ≡ found pattern

-- at a prefix stands what the look-up of the prefix gives
abbrev pub StandsAt : {V : Type 0} → (PlainPrefix → Option V) → List (PlainPrefix × V) → Type 0
StandsAt found entries = (prefix : PlainPrefix) → lookup (is_at (prefix_order prefix)) entries ≡ found prefix

-- what stands at a pattern, or at a prefix
abbrev pub at_pattern : {V : Type 0} → List (PlainPattern × V) → PlainPattern → Option V
at_pattern entries pattern = lookup (is_at (pattern_order pattern)) entries

abbrev pub at_prefix : {V : Type 0} → List (PlainPrefix × V) → PlainPrefix → Option V
at_prefix entries prefix = lookup (is_at (prefix_order prefix)) entries
