use Rattle.std.proofs.Common.{refl}
use Rattle.rpz_words.proofs.Forms.{no_sign}
use Rattle.rpz_words.proofs.laws.a_number_has_no_sign.Goals as goal

pub returns : goal.returns
returns c = record {
  plus = λ least most digits. no_sign least most 43 digits refl;
  minus = λ least most digits. no_sign least most 45 digits refl;
}
