-- Names by their texts (RFC 1035, section 5.1).
use Rattle.std.specs.Prelude.{ℕ, List, [], ◌++◌, Result, Ok, Err, codes, decimal}
use Rattle.dns_name.specs.Labels.{Name}
use Rattle.dns_name.specs.Text.{text_name}
use Rattle.dns_name.specs.declared.fault.TextFault.{TextFault}

abbrev pub name_by : Result Name TextFault → Name
name_by (Ok name) = name
name_by (Err fault) = []

-- the name that a text writes; the root where it writes no labels, as `.`
abbrev pub written_name : List ℕ → Name
written_name text = name_by (text_name text)

-- `hH.gG` with this behind it
abbrev pub host_text : ℕ → ℕ → List ℕ → List ℕ
host_text host group rest = codes "h" ++ (decimal host ++ (codes ".g" ++ (decimal group ++ rest)))
