-- What is written before the rows of fires, and after them.
use Rattle.std.specs.Prelude.{◌≡◌, ℤ}
use Rattle.std.specs.String.{string_bytes}
use Rattle.jiff_tz.specs.declared.timezone.TimeZone.{TimeZone}
use Rattle.cron_time.specs.Seconds.{Seconds}
use Rattle.cron_answers.specs.Explanations.{IsYearAfter, start_of}
use Rattle.cron_answers.specs.Expressions.{changes_by}
use Rattle.cron_answers.specs.Reports.{IsHead, tally_text}
use Rattle.cron_answers.specs.Tallies.{IsTallyBy}
use Rattle.cron_answers.specs.declared.answer.Request.{Request}
use Rattle.cron_answers.specs.declared.explain.Texts.{Texts}
use Rattle.cron_answers.specs.declared.expression.Expression.{Expression}
use Rattle.cron_answers.specs.declared.fires.Asked.{Asked}
use Rattle.cron_answers.specs.declared.tally.Tally.{Tally}

pub record AreTexts (r : Request) (e : Expression) (s : Seconds) (z : TimeZone) (asked : Asked) (texts : Texts) : Type 0 where
  pub is_head : IsHead r.form r.expression.now e r.plan_lines.now (string_bytes texts.head)
  pub end : ℤ
  pub is_end : IsYearAfter (start_of asked) end
  pub tally : Tally
  pub is_tally : IsTallyBy (changes_by r.changes e) s z (start_of asked) end tally
  pub tail : string_bytes texts.tail ≡ tally_text r.form tally
