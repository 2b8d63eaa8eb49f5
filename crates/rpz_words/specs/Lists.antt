-- Lists of words: endpoints and networks with commas between them.
use Rattle.std.specs.Prelude.{ℕ, ◌+◌, ◌==◌, ◌&&◌, ◌||◌, Bool, false, nat_lt, List, [], ◌∷◌, length, Option, Some, None, Result, Ok}
use Rattle.std.specs.List.{list_any, slice_split}
use Rattle.ip_prefix.specs.Prefix.{PlainPrefix}
use Rattle.networks.specs.Allowed.{is_same_addr, is_same_network}
use Rattle.networks.specs.declared.allow_list.TheConstants.{NETWORK_LIMIT}
use Rattle.networks.specs.NetworkText.{network_text}
use Rattle.networks.specs.declared.network_text.NetworkTextFault.{NetworkTextFault}
use Rattle.edge_io.specs.declared.endpoint.Endpoint.{Endpoint}
use Rattle.edge_io.specs.declared.limits.TheConstants.{LISTEN_LIMIT}
use Rattle.rpz_words.specs.declared.usage_cause.AllowFault.TheVariants as allow
use Rattle.rpz_words.specs.declared.usage_cause.EndpointFault.{EndpointFault}
use Rattle.rpz_words.specs.declared.usage_cause.ListFault.TheVariants as listen
use Rattle.rpz_words.specs.declared.usage_cause.UsageCause.{UsageCause}
use Rattle.rpz_words.specs.declared.usage_cause.UsageCause.TheVariants.{Allow, Listen}
use Rattle.rpz_words.specs.Endpoint.{endpoint_of}
use Rattle.dns_name.specs.Reading.{◌>>=◌}
use Rattle.rpz_words.specs.Outcome.{cause_if, or_said}

-- `,`, which stands between the parts of a list
abbrev pub is_comma : ℕ → Bool
is_comma b = b == 44

-- the parts of a list, one at least
abbrev pub comma_parts : List ℕ → List (List ℕ)
comma_parts text = slice_split is_comma text

-- Each text as a form reads it; or the first fault, with the number of its text, the first of which has this number.
abbrev pub each_of : {A E : Type 0} → (List ℕ → Result A E) → (ℕ → E → UsageCause) → ℕ →
    List (List ℕ) → Result (List A) UsageCause
each_of form said number [] = Ok []
each_of form said number (text ∷ texts) = do
  one ← or_said (said number) (form text)
  others ← each_of form said (number + 1) texts
  Ok (one ∷ others)

-- two of them are the same by this test
abbrev pub has_twice : {A : Type 0} → (A → A → Bool) → List A → Bool
has_twice same [] = false
has_twice same (one ∷ others) = list_any (λ other. same other one) others || has_twice same others

-- the same address and the same port
abbrev pub is_same_endpoint : Endpoint → Endpoint → Bool
is_same_endpoint a b = is_same_addr a.addr b.addr && a.port == b.port

-- what is wrong with the endpoint of this number
abbrev pub listen_fault : ℕ → EndpointFault → UsageCause
listen_fault number why = Listen (listen.At number why)

-- LISTEN: 1 to 16 endpoints, none twice
unfoldable pub listen_of : List ℕ → Result (List Endpoint) UsageCause
listen_of text = do
  _ ← cause_if (nat_lt LISTEN_LIMIT (length (comma_parts text))) (Listen listen.Many)
  endpoints ← each_of endpoint_of listen_fault 1 (comma_parts text)
  _ ← cause_if (has_twice is_same_endpoint endpoints) (Listen listen.Repeated)
  Ok endpoints

-- what is wrong with the network of this number
abbrev pub allow_fault : ℕ → NetworkTextFault → UsageCause
allow_fault number why = Allow (allow.At number why)

-- the networks of clients that may ask: 1 to 64, none twice
unfoldable pub networks_of : List ℕ → Result (List PlainPrefix) UsageCause
networks_of text = do
  _ ← cause_if (nat_lt NETWORK_LIMIT (length (comma_parts text))) (Allow allow.Many)
  networks ← each_of network_text allow_fault 1 (comma_parts text)
  _ ← cause_if (has_twice is_same_network networks) (Allow allow.Repeated)
  Ok networks

-- who may ask, by the value of `--allow`: everyone where it isn't given
abbrev pub allowed_of : Option (List ℕ) → Result (List PlainPrefix) UsageCause
allowed_of None = Ok []
allowed_of (Some text) = networks_of text
