use Rattle.script_codec.proofs.Cuts.{fields_whole, fields_cut}
use Rattle.script_codec.proofs.fields.split_field.Goals as goal

pub returns-in-Some : goal.returns-in-Some
returns-in-Some c = fields_cut _ _ c.in-Some.ensures.value c.in-Some.ensures.bound

pub returns-in-None : goal.returns-in-None
returns-in-None c = fields_whole _ c.in-None.ensures.value
