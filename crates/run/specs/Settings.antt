-- What the caller asks for, in the definition's words.
use Rattle.definition.specs.Alignment.{Arrangement, as_listed, alignment}
use Rattle.definition.specs.Reencoding.{Form, counter_form, order_form, Settings}
use Rattle.run.specs.declared.Form as CodeForm
use Rattle.run.specs.declared.Form.TheVariants as Form
use Rattle.run.specs.declared.Arrangement as CodeArrangement
use Rattle.run.specs.declared.Arrangement.TheVariants as Arrangement
use Rattle.run.specs.declared.Settings as CodeSettings

abbrev pub named_form : CodeForm.Form → Form
named_form Form.Counter = counter_form
named_form Form.Order = order_form

abbrev pub named_arrangement : CodeArrangement.Arrangement → Arrangement
named_arrangement Arrangement.AsListed = as_listed
named_arrangement Arrangement.Alignment = alignment

abbrev pub settings_of : CodeSettings.Settings → Settings
settings_of s = record { form = named_form s.form; arrangement = named_arrangement s.arrangement; step = s.step }
