-- How long an answer may be kept (RFC 2308, section 5).
use Rattle.std.specs.Prelude.{◌≡◌, ℕ, ◌==◌, ◌||◌, min, if◌then◌else◌, List, fold, length, Option, Some, None, Result, Ok, Err}
use Rattle.dns_name.specs.declared.fault.NameFault.{NameFault}
use Rattle.dns_record.specs.declared.soa.Soa.{Soa}
use Rattle.dns_record.specs.Record.{PlainRecord}
use Rattle.dns_record.specs.Soa.{soa_in}
use Rattle.upstream_link.specs.declared.life.TheConstants.{LIFE_LIMIT}
use Rattle.upstream_link.specs.Kept.{PlainAnswer, IsAnswer}

-- the least of so many seconds and of the TTLs of the records
abbrev pub least_ttl : ℕ → List PlainRecord → ℕ
least_ttl seconds records = fold (λ least (r : PlainRecord). min r.ttl least) seconds records

abbrev pub minimum_by : Result Soa NameFault → ℕ
minimum_by (Ok soa) = soa.minimum
minimum_by (Err fault) = 0

-- what a SOA record allows: its TTL, its MINIMUM, and a day at most
abbrev pub soa_limit : PlainRecord → ℕ
soa_limit r = min (min r.ttl (minimum_by (soa_in r.ttl r.rdata))) LIFE_LIMIT

-- For how many seconds an answer of these parts may be kept (RFC 2308, section 5).
abbrev pub life_by : ℕ → List PlainRecord → Option PlainRecord → ℕ
life_by rcode answers (Some soa) = least_ttl (soa_limit soa) answers
life_by rcode answers None =
    if rcode == 3 || length answers == 0 then 0 else least_ttl LIFE_LIMIT answers

-- For how many seconds an answer may be kept (RFC 2308, section 5). The least of the TTLs of its answers and, if there is a
-- SOA, of the SOA's TTL and its MINIMUM, and a day at most. Without a SOA it isn't kept if the name doesn't exist, or if it has
-- no answers.
abbrev pub life_in : PlainAnswer → ℕ
life_in answer = life_by answer.rcode answer.answers answer.soa

-- it is an answer, and may be kept for so many seconds
pub record HasLife (answer : PlainAnswer) (life : ℕ) : Type 0 where
  pub is_answer : IsAnswer answer
  pub is_life : life ≡ life_in answer
