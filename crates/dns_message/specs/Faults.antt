-- The faults of messages, by rules (RFC 1035, section 4.1): what is wrong, apart from how a message is read.
use Rattle.std.specs.Prelude.{◌≡◌, ℕ, ◌+◌, ◌<◌, ◌≤◌, ◌⊎◌, List, length, drop, Option}
use Rattle.std.specs.List.{filter}
use Rattle.dns_record.specs.declared.fault.RecordFault.{RecordFault}
use Rattle.dns_record.specs.Faults.{RecordShows}
use Rattle.dns_record.specs.Number.{number_at}
use Rattle.dns_record.specs.Record.{PlainRecord}
use Rattle.dns_message.specs.declared.fault.MessageFault.{MessageFault}
use Rattle.dns_message.specs.declared.fault.MessageFault.TheVariants.{Short, Question as Questions, Record, Trailing, TwoOpts}
use Rattle.dns_message.specs.declared.question.Question.{Question}
use Rattle.dns_message.specs.Grammar.{RecordsAt, OneQuestionAt, QuestionAt}
use Rattle.dns_message.specs.Reading.{is_opt}

-- the header counts one question, and none stands behind it
pub record HasNoQuestion (bytes : List ℕ) : Type 0 where
  pub long : 12 ≤ length bytes
  pub counted : number_at 2 bytes 4 ≡ 1
  pub no_question : (q : Question) (after : ℕ) → ¬ OneQuestionAt bytes q after

-- so many records the header counts in front of the additional section, and in all
abbrev pub count_before : List ℕ → ℕ
count_before bytes = number_at 2 bytes 6 + number_at 2 bytes 8

abbrev pub count_in_all : List ℕ → ℕ
count_in_all bytes = count_before bytes + number_at 2 bytes 10

-- the question or none stands behind the header, as it counts them, and these records behind it, up to a place
pub record HasRecords (bytes : List ℕ) (records : List PlainRecord) (after : ℕ) : Type 0 where
  pub long : 12 ≤ length bytes
  pub question : Option Question
  pub question_end : ℕ
  pub asked : QuestionAt (number_at 2 bytes 4) bytes question question_end
  pub stand : RecordsAt records bytes question_end after

-- the record behind these, which the header counts, shows a fault
pub record HasFaultyRecord (bytes : List ℕ) (fault : RecordFault) : Type 0 where
  pub before : List PlainRecord
  pub place : ℕ
  pub stand : HasRecords bytes before place
  pub counted : length before < count_in_all bytes
  pub shows : RecordShows bytes place fault

-- bytes stand behind the last record
pub record HasTrailing (bytes : List ℕ) : Type 0 where
  pub records : List PlainRecord
  pub after : ℕ
  pub stand : HasRecords bytes records after
  pub counted : length records ≡ count_in_all bytes
  pub more : after < length bytes

-- all is whole, but two OPT records stand in the additional section (RFC 6891, section 6.1.1)
pub record HasTwoOpts (bytes : List ℕ) : Type 0 where
  pub records : List PlainRecord
  pub stand : HasRecords bytes records (length bytes)
  pub counted : length records ≡ count_in_all bytes
  pub two : 1 < length (filter is_opt (drop (count_before bytes) records))

-- the bytes show this fault
abbrev pub MessageShows : List ℕ → MessageFault → Type 0
MessageShows bytes Short = (length bytes < 12) ⊎ HasNoQuestion bytes
MessageShows bytes Questions = (12 ≤ length bytes) × (1 < number_at 2 bytes 4)
MessageShows bytes (Record fault) = HasFaultyRecord bytes fault
MessageShows bytes Trailing = HasTrailing bytes
MessageShows bytes TwoOpts = HasTwoOpts bytes
