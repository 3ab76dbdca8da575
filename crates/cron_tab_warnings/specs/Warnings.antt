-- What is probably a mistake in a crontab's line or expression. The text begins with the fields,
-- and what follows the fifth is the rest of its line, in a user's crontab or the system's.
use Rattle.std.specs.Prelude.{codes, ◌≡◌, ℕ, zero, suc, ◌+◌, ◌<◌, ◌==◌, ◌&&◌, ◌||◌, Bool, false, not, nat_lt, nat_le, List, Contains, length, if◌then◌else◌, IsTrue, ◌↔◌}
use Rattle.std.specs.List.{list_all}
use Rattle.std.specs.Str.{bytes_eq}
use Rattle.cron_moments.specs.Civil.{civil, seconds_in_range}
use Rattle.cron_crontab.specs.Crontab.{Five, Meaning, schedules, reboot, schedules_of}
use Rattle.cron_crontab.specs.Items.{begins_with_star}
use Rattle.cron_crontab.specs.declared.field.Field.{Field}
use Rattle.cron_crontab.specs.declared.field.Field.TheVariants.{Minute, Hour, DayOfMonth, DayOfWeek, Month}
use Rattle.cron_tab_lines.specs.declared.kinds.Crontab.{Crontab}
use Rattle.cron_tab_lines.specs.declared.kinds.Crontab.TheVariants.{User, System}
use Rattle.cron_tabs.specs.DayRule.{matches_one, runs_at}
use Rattle.cron_tab_warnings.specs.Written.{field_word, has_fields, has_item, is_backward, is_field, is_past_end, is_uneven, names, names_all, word_at}
use Rattle.cron_tab_warnings.specs.declared.warnings.Warning.{Warning}
use Rattle.cron_tab_warnings.specs.declared.warnings.Warning.TheVariants.{NeverFires, Backward, StepPastEnd, UnevenStep, StarStep, LeftOutDays, EitherDays, EachMinute, SixFields, SevenFields}

-- the expression never fires: no civil second of 1970 to 2100 matches
abbrev pub NeverRuns : Meaning → Type 0
NeverRuns (schedules some) = (c : ℕ) → c < seconds_in_range → matches_one some (civil c) ≡ false
NeverRuns reboot = ⊥

-- five fields never fire exactly if they match no civil second of 1970 to 2100
abbrev pub NeverRunsByFields : Type 0
NeverRunsByFields = (f : Five) → NeverRuns (schedules (schedules_of f)) ↔ ((c : ℕ) → c < seconds_in_range → runs_at f (civil c) ≡ false)

-- the number of days of a month in its shortest year
abbrev pub shortest : ℕ → ℕ
shortest m = if m == 2 then 28 else (if (m == 4) || ((m == 6) || ((m == 9) || (m == 11))) then 30 else 31)

-- whether the month field names the month m, and m lacks the day in some or all years
abbrev pub lacks : List ℕ → ℕ → ℕ → Bool
lacks months m day = nat_lt (shortest m) day && names Month months m

-- whether the month field names one of the first so many months that lacks the day in some or all
-- years
abbrev pub some_lacks : List ℕ → ℕ → ℕ → Bool
some_lacks months day zero = false
some_lacks months day (suc n) = some_lacks months day n || lacks months (n + 1) day

abbrev pub is_left_out : List ℕ → ℕ → Bool
is_left_out text day = names DayOfMonth (field_word text DayOfMonth) day && some_lacks (field_word text Month) day 12

-- whether the day field names a day that a month in the month field lacks. A day field that begins
-- with a star or names all days isn't counted.
abbrev pub leaves_out : List ℕ → Bool
leaves_out text =
    not (begins_with_star (field_word text DayOfMonth)) && (not (names_all DayOfMonth (field_word text DayOfMonth))
    && (is_left_out text 29 || (is_left_out text 30 || is_left_out text 31)))

-- the other kind of day
abbrev pub other_days : Field → Field
other_days DayOfMonth = DayOfWeek
other_days f = DayOfMonth

-- Whether only the kind of day `f` begins with a star, and it leaves days out, as `*/2`. Then both
-- kinds must match, though neither has all days.
abbrev pub stars_step : Field → List ℕ → Bool
stars_step f text =
    begins_with_star (field_word text f)
    && (not (begins_with_star (field_word text (other_days f))) && not (names_all f (field_word text f)))

abbrev pub is_star_step : Field → List ℕ → Bool
is_star_step DayOfMonth text = stars_step DayOfMonth text
is_star_step DayOfWeek text = stars_step DayOfWeek text
is_star_step f text = false

-- whether both kinds of day are restricted: neither field begins with a star. Then one that matches
-- suffices.
abbrev pub restricts_both : List ℕ → Bool
restricts_both text = not (begins_with_star (field_word text DayOfMonth)) && not (begins_with_star (field_word text DayOfWeek))

-- whether the minute begins with a star and names all minutes, and the hour leaves hours out
abbrev pub has_each_minute : List ℕ → Bool
has_each_minute text =
    begins_with_star (field_word text Minute) && (names_all Minute (field_word text Minute) && not (names_all Hour (field_word text Hour)))

-- whether a byte is a digit, a comma, a dash, a star or a slash
abbrev pub in_numbers : ℕ → Bool
in_numbers c = (nat_le 48 c && nat_le c 57) || ((c == 44) || ((c == 45) || ((c == 42) || (c == 47))))

abbrev pub is_numbers : List ℕ → Bool
is_numbers word = nat_lt 0 (length word) && list_all in_numbers word

-- Whether the word after the fifth field is itself a field of days of the week. In a system crontab
-- that word is the user, whose name may be a day's.
abbrev pub is_sixth : Crontab → List ℕ → Bool
is_sixth User word = is_field DayOfWeek word
is_sixth System word = is_numbers word && is_field DayOfWeek word

-- whether the word after the fifth field is a sixth field, as in an expression that begins with
-- seconds; `?` is one in other dialects
abbrev pub has_sixth : Crontab → List ℕ → Bool
has_sixth kind text = bytes_eq (word_at text 5) (codes "?") || is_sixth kind (word_at text 5)

abbrev pub has_seventh : Crontab → List ℕ → Bool
has_seventh kind text = has_sixth kind text && is_numbers (word_at text 6)

-- whether a warning applies to a text with fields, by how they are written
abbrev pub is_so : Crontab → Warning → List ℕ → Bool
is_so kind NeverFires text = false
is_so kind (Backward f) text = has_item is_backward f (field_word text f)
is_so kind (StepPastEnd f) text = has_item is_past_end f (field_word text f)
is_so kind (UnevenStep f) text = has_item (is_uneven f) f (field_word text f)
is_so kind (StarStep f) text = is_star_step f text
is_so kind LeftOutDays text = leaves_out text
is_so kind EitherDays text = restricts_both text
is_so kind EachMinute text = has_each_minute text
is_so kind SixFields text = has_sixth kind text && not (has_seventh kind text)
is_so kind SevenFields text = has_seventh kind text

-- a warning applies to a text, or to what its fields mean
abbrev pub Warns : Crontab → Warning → List ℕ → Meaning → Type 0
Warns kind NeverFires text meaning = NeverRuns meaning
Warns kind w text meaning = IsTrue (has_fields text && is_so kind w text)

-- the list has each warning that applies to some text
abbrev pub AllAreListed : List Warning → Type 0
AllAreListed all = (kind : Crontab) (w : Warning) (text : List ℕ) (meaning : Meaning) → Warns kind w text meaning → Contains all w
