use Rattle.std.proofs.Common.{ap, ◌∙◌, sym, subst}
use Rattle.std.specs.String.{string_bytes}
use Rattle.cron_text.specs.Meaning.{MeansNothing}
use Rattle.cron.proofs.schedule.expression.Schedule.try_from_string.Goals as goal

pub refusal-requires : goal.refusal-requires
refusal-requires c = subst MeansNothing (sym (c.as_str.ensures.value ∙ ap string_bytes c.in-Err.ensures.same)) c.in-Err.ensures.nothing
