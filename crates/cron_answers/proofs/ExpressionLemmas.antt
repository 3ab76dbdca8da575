-- A text that means something is read as that.
use Rattle.std.proofs.Common.{◌≡◌, ℕ, List, [], ◌∷◌, sym, ap, ◌∙◌}
use Rattle.cron_text.proofs.MeaningLemmas.{means_once}
use Rattle.cron_units.specs.Sets.{Sets}
use Rattle.cron_crontab.specs.Crontab as tabs
use Rattle.cron_crontab.specs.Crontab.{Meaning, outcome_of, reboot, schedules, words}
use Rattle.cron_dialects.proofs.LawLemmas.{meanings_agree}
use Rattle.cron_answers.specs.Expressions.{KeepsCrontabs, KeepsOwn}
use Rattle.cron_answers.specs.declared.expression.Expression.TheVariants.{Crontab, Reboot, Own, Quartz}

same_schedules : (ss ts : List Sets) → schedules ss ≡ schedules ts → ss ≡ ts
same_schedules ss ts h = cc

one_meaning : (text : List ℕ) (a b : Meaning) → tabs.Means text a → tabs.Means text b → a ≡ b
one_meaning text a b h k = let same = sym h ∙ k in cc

pub keeps_crontabs : KeepsCrontabs
keeps_crontabs text ss (Crontab more changes) means read = same_schedules more ss (one_meaning text (schedules more) (schedules ss) read.0 means)
keeps_crontabs text ss Reboot means read = absurd (let same = one_meaning text reboot (schedules ss) read means in cc)
keeps_crontabs text ss (Own one) means read = absurd (let same = sym means ∙ read.0.1 in cc)
keeps_crontabs text ss (Quartz union) means read = absurd read

pub keeps_own : KeepsOwn
keeps_own text s (Crontab more changes) means read = same_schedules more (s ∷ []) (meanings_agree text s (schedules more) means read.0)
keeps_own text s Reboot means read = absurd (let same = meanings_agree text s reboot means read in cc)
keeps_own text s (Own one) means read = read.1.2 ∙ ap (λ t. t ∷ []) (means_once text read.1.0 s read.1.1 means)
keeps_own text s (Quartz union) means read = absurd read
