-- The windows that words name, as a list.
use Rattle.std.specs.Prelude.{◌≡◌, ◌⊎◌, ℤ, Bool, List}
use Rattle.jiff_tz.specs.declared.timezone.TimeZone.{TimeZone}
use Rattle.cron_answers.specs.Answers.{Given}
use Rattle.cron_answers.specs.Spans.{IsNoSpan, IsSpan}
use Rattle.cron_answers.specs.declared.span.Span.{Span}
use Rattle.cron_answers.specs.declared.trouble.Trouble.{Trouble}
use Rattle.cron_answers.specs.declared.trouble.Trouble.TheVariants.{NoMemory}
use Rattle.cron_stretches.specs.declared.stretch.Stretch.{Stretch}
use Rattle.cron_windows.specs.Windows.{WindowFires}
use Rattle.cron_window_answers.specs.Answers.{AreNamed, IsTrouble}
use Rattle.cron_window_answers.specs.Listings.{windows_in}
use Rattle.cron_window_answers.specs.declared.words.Words.{Words}

-- The list has the windows of a span that the words name, cut at its ends.
pub record HasWindows {F : Type 0} (g : Given F) (words : Words) (span : Span) (old : F) (list : List (Stretch Bool)) (new : F) : Type 0 where
  pub windows : WindowFires
  pub zone : TimeZone
  pub named : AreNamed g words old windows zone new
  pub from : ℤ
  pub to : ℤ
  pub spans : IsSpan span zone g.now from to
  pub are : list ≡ windows_in windows from to

-- Why there is no list: what is wrong with the words or the span, or memory ran out.
abbrev pub HasNoWindows : {F : Type 0} → Given F → Words → Span → F → Trouble → F → Type 0
HasNoWindows g words span old = IsTrouble g words old (λ z t. IsNoSpan span z g.now t ⊎ (t ≡ NoMemory))
