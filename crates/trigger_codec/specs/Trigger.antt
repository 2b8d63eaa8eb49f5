-- The kinds of triggers, and the labels of owners that name them (draft-vixie-dnsop-dns-rpz, section 4).
use Rattle.std.specs.Prelude.{ℕ, Bool, if◌then◌else◌, List, take, map, codes}
use Rattle.std.specs.Char.{to_ascii_lowercase}
use Rattle.std.specs.Str.{bytes_eq}

-- the labels that name a kind of trigger
pub data Marker : Type 0 where
  client_ip : Marker
  response_ip : Marker
  nsip : Marker
  nsdname : Marker
  unknown : Marker
  plain : Marker

-- the label is this word, in any case
abbrev pub is_word : List ℕ → List ℕ → Bool
is_word word label = bytes_eq (map to_ascii_lowercase label) word

-- a label that begins `rpz-` in any case
abbrev pub is_reserved : List ℕ → Bool
is_reserved label = bytes_eq (map to_ascii_lowercase (take 4 label)) (codes "rpz-")

-- what the last label names; any other label that begins `rpz-` names no kind that is known
abbrev pub marker_of : List ℕ → Marker
marker_of label =
    if is_word (codes "rpz-client-ip") label then client_ip
    else (if is_word (codes "rpz-ip") label then response_ip
    else (if is_word (codes "rpz-nsip") label then nsip
    else (if is_word (codes "rpz-nsdname") label then nsdname
    else (if is_reserved label then unknown
    else plain))))

-- the label `*`
abbrev pub is_asterisk : List ℕ → Bool
is_asterisk label = bytes_eq label (codes "*")
