-- What is kept of an answer.
use Rattle.std.specs.Prelude.{◌≡◌, ℕ, ◌==◌, ◌⊎◌, true, List, map, Option, IfSome}
use Rattle.std.specs.List.{list_all}
use Rattle.dns_record.specs.Record.{PlainRecord}
use Rattle.dns_record.specs.declared.rtype.TheConstants.{SOA}
use Rattle.dns_record.specs.declared.class.TheConstants.{IN}
use Rattle.dns_message.specs.Aged.{aged}

-- The records are as they came, and the age is how many seconds have passed since.
pub record PlainAnswer : Type 0 where
  pub rcode : ℕ
  pub answers : List PlainRecord
  pub soa : Option PlainRecord
  pub age : ℕ

-- An answer by its rcode, its records, its SOA record and its age.
abbrev pub plain_answer : ℕ → List PlainRecord → Option PlainRecord → ℕ → PlainAnswer
plain_answer rcode answers soa age =
    record { rcode = rcode; answers = answers; soa = soa; age = age }

-- the same answer at another age
abbrev pub at_age : ℕ → PlainAnswer → PlainAnswer
at_age seconds answer = plain_answer answer.rcode answer.answers answer.soa seconds

-- the answers as they are by now: with what is left of their TTLs
abbrev pub aged_answers : PlainAnswer → List PlainRecord
aged_answers answer = map (aged answer.age) answer.answers

-- a SOA record of class IN
abbrev pub IsSoa : PlainRecord → Type 0
IsSoa r = (r.rtype ≡ SOA) × (r.class ≡ IN)

-- It says something or that the name doesn't exist, its records are of class IN, and its SOA is a SOA record.
pub record IsAnswer (answer : PlainAnswer) : Type 0 where
  pub is_answer_rcode : (answer.rcode ≡ 0) ⊎ (answer.rcode ≡ 3)
  pub in_class : list_all (λ (r : PlainRecord). r.class == IN) answer.answers ≡ true
  pub is_soa : IfSome answer.soa IsSoa
