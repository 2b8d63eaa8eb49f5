-- A form without a SOA that closes the transfer.
use Rattle.std.specs.Prelude.{◌≡◌, List, None, refl}
use Rattle.dns_record.specs.declared.soa.Soa.{Soa}
use Rattle.dns_record.specs.Row.{PlainRow}
use Rattle.zone_rows.specs.Steps.{PlainStep}
use Rattle.axfr_apply.specs.declared.gathered.Form.{Form}
use Rattle.axfr_apply.specs.declared.gathered.Form.TheVariants.{Nothing, Whole, ClosedWhole, Deleting, Adding, ClosedSteps}
use Rattle.axfr_apply.specs.Block.{transfer_of}
use Rattle.axfr_apply.specs.Gathered.{IsForm, adding_blocks, blocks_in, deleting_blocks}
use Rattle.axfr_apply.proofs.OpenSteps.{open_is_none}

pub unclosed_is_none : (form : Form) → IsForm form
    → ((soa : Soa) (rows : List PlainRow) (last : Soa) → form ≡ ClosedWhole soa rows last → ⊥)
    → ((soa : Soa) (steps : List PlainStep) (last : Soa) → form ≡ ClosedSteps soa steps last → ⊥)
    → transfer_of (blocks_in form) ≡ None
unclosed_is_none Nothing is whole steps = refl
unclosed_is_none (Whole soa rows) is whole steps = refl
unclosed_is_none (ClosedWhole soa rows last) is whole steps = absurd (whole soa rows last refl)
unclosed_is_none (Deleting soa step) is whole steps = open_is_none soa (deleting_blocks step) is
unclosed_is_none (Adding soa step) is whole steps = open_is_none soa (adding_blocks step) is
unclosed_is_none (ClosedSteps soa others last) is whole steps = absurd (steps soa others last refl)
