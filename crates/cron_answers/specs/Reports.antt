-- What is said of an expression.
use Rattle.std.specs.Prelude.{◌≡◌, ◌⊎◌, ◌++◌, ℕ, List, [], Option, Some, None, codes}
use Rattle.std.specs.Fmt.{decimal}
use Rattle.cron_crontab.specs.Crontab as tabs
use Rattle.cron_tab_lines.specs.declared.kinds.Crontab.TheVariants.{User}
use Rattle.cron_tab_warnings.specs.Messages.{warning_text}
use Rattle.cron_tab_warnings.specs.Warnings.{Warns}
use Rattle.cron_tab_warnings.specs.declared.warnings.TheConstants.{WARNINGS}
use Rattle.cron_words.specs.Sentence.{sentence}
use Rattle.cron_words.specs.Waits.{wait_text}
use Rattle.cron_replies.specs.Telling.{TellsThose}
use Rattle.cron_answers.specs.Expressions.{schedules_of}
use Rattle.cron_answers.specs.declared.expression.Expression.{Expression}
use Rattle.cron_answers.specs.declared.expression.Expression.TheVariants.{Crontab, Reboot, Own, Quartz}
use Rattle.cron_replies.specs.declared.form.Form.{Form}
use Rattle.cron_replies.specs.declared.form.Form.TheVariants.{Text, Json}
use Rattle.cron_answers.specs.declared.tally.Tally.{Tally}
use Rattle.cron_answers.specs.declared.tally.Waits.{Waits}

-- the sentence of an expression
abbrev pub sentence_of : Expression → List ℕ
sentence_of Reboot = codes "When the machine starts"
sentence_of e = sentence (schedules_of e)

-- the sentence as a line, or as a JSON object
abbrev pub sentence_line : Form → List ℕ → List ℕ
sentence_line Text text = text ++ codes "\n"
sentence_line Json text = codes "{\"sentence\":\"" ++ (text ++ codes "\"}\n")

abbrev pub warning_line : Form → List ℕ → List ℕ
warning_line Text text = codes "warning: " ++ (text ++ codes "\n")
warning_line Json text = codes "{\"warning\":\"" ++ (text ++ codes "\"}\n")

-- `told` has a line for each warning that applies to a crontab's expression.
abbrev pub TellsOfTab : Form → List ℕ → tabs.Meaning → List ℕ → Type 0
TellsOfTab form text meaning told = TellsThose (λ w. Warns User w text meaning) (λ w. warning_line form (warning_text w)) WARNINGS told

-- what a crontab's expression means
abbrev pub IsTab : Expression → tabs.Meaning → Type 0
IsTab (Crontab some changes) m = m ≡ tabs.schedules some
IsTab Reboot m = m ≡ tabs.reboot
IsTab (Own one) m = ⊥
IsTab (Quartz union) m = ⊥

abbrev pub IsNoTab : Expression → Type 0
IsNoTab e = (m : tabs.Meaning) → IsTab e m → ⊥

-- `told` has the warnings of an expression, by its text or its line. There are none if it isn't a
-- crontab's.
abbrev pub TellsWarnings : Form → List ℕ → Expression → List ℕ → Type 0
TellsWarnings form text e told = ((m : tabs.Meaning) × IsTab e m × TellsOfTab form text m told) ⊎ (IsNoTab e × (told ≡ []))

-- the sentence of an expression, then its warnings, and then the lines that tell of its plan
pub record IsHead (form : Form) (text : List ℕ) (e : Expression) (plan_lines head : List ℕ) : Type 0 where
  pub warnings : List ℕ
  pub tells : TellsWarnings form text e warnings
  pub joined : head ≡ (sentence_line form (sentence_of e) ++ warnings) ++ plan_lines

-- the shortest and the longest wait between fires, in words, or in seconds for JSON; nothing if
-- there is no wait
abbrev pub waits_text : Form → Option Waits → List ℕ
waits_text form None = []
waits_text Text (Some w) =
    codes "shortest wait: " ++ (wait_text w.shortest ++ (codes "\nlongest wait: " ++ (wait_text w.longest ++ codes "\n")))
waits_text Json (Some w) = codes ",\"shortest_wait\":" ++ (decimal w.shortest ++ (codes ",\"longest_wait\":" ++ decimal w.longest))

abbrev pub tally_text : Form → Tally → List ℕ
tally_text Text t = codes "fires in 365 days: " ++ (decimal t.fires ++ (codes "\n" ++ waits_text Text t.waits))
tally_text Json t = codes "{\"fires_in_365_days\":" ++ (decimal t.fires ++ (waits_text Json t.waits ++ codes "}\n"))
