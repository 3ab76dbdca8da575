-- The next fires of entries.
use Rattle.std.proofs.Common.{◌≡◌, ℤ, List, [], ◌∷◌, Option, Some, None, MatchOption, slice_get, sym, ap, ◌∙◌}
use Rattle.std.specs.Option.{option_map}
use Rattle.jiff_tz.specs.declared.timezone.TimeZone.{TimeZone}
use Rattle.cron_units.specs.Sets.{Sets}
use Rattle.cron_moments.specs.Readings.{Reading}
use Rattle.cron_dues.specs.Due.{Due}
use Rattle.cron_dues.specs.FirstDues.{IsFirstDueAfter}
use Rattle.cron_instants.specs.Instants.{IsFirstAfter}
use Rattle.cron_unions.specs.Unions.{any_of}
use Rattle.cron_crontab.specs.Crontab.{schedules}
use Rattle.cron_fires.specs.declared.changes.ClockChanges.TheVariants as rule
use Rattle.cron_agenda.specs.Fires.{fires_after, fires_past}
use Rattle.cron_agenda.specs.declared.fire.EntryFire.{EntryFire}
use Rattle.cron_agenda.specs.declared.fire.EntryFire.TheVariants.{AsShown, Once}
use Rattle.cron_agenda.proofs.NextLemmas.{first_due_after, first_shown_after}
use Rattle.cron_tab_answers.specs.Explained.{next_of}

first_in : (fires : List EntryFire) (past : EntryFire → List EntryFire) (answer : Option EntryFire) → MatchOption answer (fires ≡ []) (λ fire. fires ≡ fire ∷ past fire)
    → answer ≡ slice_get fires 0
first_in fires past None h = sym (ap (λ (l : List EntryFire). slice_get l 0) h)
first_in fires past (Some fire) h = sym (ap (λ (l : List EntryFire). slice_get l 0) h)

pub next_shown : (some more : List Sets) (z : TimeZone) (t : ℤ) (answer : Option Reading) → some ≡ more → IsFirstAfter (any_of some) z t answer
    → option_map AsShown answer ≡ next_of z rule.AsShown t (schedules more)
next_shown some more z t answer same h =
    first_in _ (fires_past (any_of some) z) (option_map AsShown answer) (first_shown_after (any_of some) z t answer h).0
    ∙ ap (λ (x : List Sets). slice_get (fires_after (any_of x) z rule.AsShown t) 0) same

pub next_due : (some more : List Sets) (z : TimeZone) (t : ℤ) (answer : Option Due) → some ≡ more → IsFirstDueAfter (any_of some) z t answer
    → option_map Once answer ≡ next_of z rule.Once t (schedules more)
next_due some more z t answer same h =
    first_in _ (fires_past (any_of some) z) (option_map Once answer) (first_due_after (any_of some) z t answer h).0
    ∙ ap (λ (x : List Sets). slice_get (fires_after (any_of x) z rule.Once t) 0) same
