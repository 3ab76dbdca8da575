-- The definitions on written examples.
use Rattle.std.specs.Prelude.{◌≡◌, ℕ, ◌+◌, ◌*◌, ◌-◌, ◌<◌, pos, true, false, List, [], ◌∷◌, Some, None, codes}
use Rattle.jiff_core.specs.Calendar.{days_from_civil}
use Rattle.jiff_core.specs.DateTime.{civil_seconds}
use Rattle.jiff_tz.specs.declared.timezone.TimeZone.{TimeZone}
use Rattle.cron_units.specs.declared.way.Way.TheVariants.{Ahead, Back}
use Rattle.cron_units.specs.Units as units
use Rattle.cron_units.specs.Units.{unmarked, with_mark}
use Rattle.cron_units.specs.Denotation.{Denotes}
use Rattle.cron_units.specs.Refusals.{Refusal, IsRefusedFor, message}
use Rattle.cron_moments.specs.Civil.{civil, seconds_in_range}
use Rattle.cron_time.specs.Walk.Cursor.{Place, Ended, step_on}
use Rattle.cron_text.specs.Fields.{every, single, number_range, name_range, Item, plain, stepped, name, IsField, spacing_fits_all}
use Rattle.cron_moments.specs.Readings.{Reading}
use Rattle.cron_text.specs.Tokens.{Token, tokens}

abbrev pub token : List ℕ → Token
token text = record { spaced = false; text = text }

abbrev pub spaced_token : List ℕ → Token
spaced_token text = record { spaced = true; text = text }

-- the tokens of example texts, and the fields that they are
pub record TextsAreCut : Type 0 where
  pub steps_tokens : tokens (codes "*/ 2") ≡ token (codes "*") ∷ token (codes "/") ∷ spaced_token (codes "2") ∷ []
  pub steps_field : IsField units.seconds (tokens (codes "*/ 2")) (stepped every 2 ∷ [])
  pub list_tokens :
      tokens (codes "1,2,3/5")
      ≡ token (codes "1") ∷ token (codes ",") ∷ token (codes "2") ∷ token (codes ",") ∷ token (codes "3") ∷ token (codes "/") ∷ token (codes "5") ∷ []
  pub list_field : IsField units.seconds (tokens (codes "1,2,3/5")) (plain (single 1) ∷ plain (single 2) ∷ stepped (single 3) 5 ∷ [])
  pub names_tokens :
      tokens (codes " mon-FRI/2, SAT ")
      ≡ spaced_token (codes "mon") ∷ token (codes "-") ∷ token (codes "FRI") ∷ token (codes "/") ∷ token (codes "2") ∷ token (codes ",") ∷ spaced_token
      (codes "SAT") ∷ []
  pub names_field :
      IsField units.days_of_week (tokens (codes " mon-FRI/2, SAT ")) (stepped (name_range (codes "mon") (codes "FRI")) 2 ∷ name (codes "SAT") ∷ [])
  pub apart : spacing_fits_all (tokens (codes "* / 2")) ≡ false

-- the sets that example items denote
pub record ItemsDenote : Type 0 where
  pub steps :
      Denotes units.seconds (plain (single 1) ∷ plain (single 2) ∷ stepped (single 3) 5 ∷ [])
      (unmarked (1 ∷ 2 ∷ 3 ∷ 8 ∷ 13 ∷ 18 ∷ 23 ∷ 28 ∷ 33 ∷ 38 ∷ 43 ∷ 48 ∷ 53 ∷ 58 ∷ []))
  pub names : Denotes units.days_of_week (stepped (name_range (codes "Mon") (codes "Thurs")) 2 ∷ []) (unmarked (2 ∷ 4 ∷ []))
  pub last_day : Denotes units.days_of_month (name (codes "L") ∷ []) (with_mark [] true)
  pub last_day_first : Denotes units.days_of_month (name (codes "l") ∷ plain (number_range 30 31) ∷ []) (with_mark (30 ∷ 31 ∷ []) true)

-- an item is refused with this message
pub record IsRefusedWith (u : units.TimeUnit) (i : Item) (text : List ℕ) : Type 0 where
  pub refusal : Refusal
  pub refused : IsRefusedFor u i refusal
  pub told : message u refusal ≡ text

-- one refusal of each kind
pub record ItemsAreRefused : Type 0 where
  pub small : IsRefusedWith units.days_of_month (plain (single 0)) (codes "Days of Month must be greater than or equal to 1. ('0' specified.)")
  pub large : IsRefusedWith units.seconds (plain (single 60)) (codes "Seconds must be less than 59. ('60' specified.)")
  pub unknown : IsRefusedWith units.months (name (codes "Foo")) (codes "'Foo' is not a valid month name.")
  pub unnamed : IsRefusedWith units.hours (name (codes "Jan")) (codes "The 'Hours' field does not support using names. 'Jan' specified.")
  pub lone : IsRefusedWith units.days_of_week (name (codes "L")) (codes "'L' is not a valid day of the week.")
  pub longer :
      IsRefusedWith units.days_of_month (name (codes "LW")) (codes "The 'Days of Month' field does not support using names. 'LW' specified.")
  pub last_days :
      IsRefusedWith units.days_of_month (plain (name_range (codes "L") (codes "L")))
      (codes "The 'Days of Month' field does not support using names. 'L' specified.")
  pub range : IsRefusedWith units.seconds (plain (number_range 5 1)) (codes "Invalid range for Seconds: 5-1")
  pub names : IsRefusedWith units.days_of_week (plain (name_range (codes "Fri") (codes "Mon"))) (codes "Invalid named range for Days of Week: Fri-Mon")
  pub zero : IsRefusedWith units.seconds (stepped (number_range 9 3) 0) (codes "range step cannot be zero")
  pub step : IsRefusedWith units.hours (stepped every 25) (codes "Hours must be between 1 and 23. ('25' specified.)")

-- the steps of a cursor on four items
pub record CursorsStep : Type 0 where
  pub ahead : (a b c d : Reading) (z : TimeZone) → step_on (a ∷ b ∷ c ∷ d ∷ []) z Ahead (Place 1) ≡ record { answer = Some c; cursor = Place 2 }
  pub back : (a b c d : Reading) (z : TimeZone) → step_on (a ∷ b ∷ c ∷ d ∷ []) z Back (Place 1) ≡ record { answer = Some a; cursor = Place 0 }
  pub past_the_last : (a b c d : Reading) (z : TimeZone) → step_on (a ∷ b ∷ c ∷ d ∷ []) z Ahead (Place 3) ≡ record { answer = None; cursor = Ended }
  pub before_the_first : (a b c d : Reading) (z : TimeZone) → step_on (a ∷ b ∷ c ∷ d ∷ []) z Back (Place 0) ≡ record { answer = None; cursor = Ended }
  pub ended : (a b c d : Reading) (z : TimeZone) → step_on (a ∷ b ∷ c ∷ d ∷ []) z Back Ended ≡ record { answer = None; cursor = Ended }

-- the number of a civil second, the ends of the range, and a leap day
pub record DaysAreNumbered : Type 0 where
  pub numbered : (c : ℕ) → c < seconds_in_range → civil_seconds (civil c) ≡ pos c
  pub first_day : days_from_civil (pos 1970) 1 1 ≡ pos 0
  pub last_day : days_from_civil (pos 2100) 12 31 ≡ pos 47846
  pub last_second : 47846 * 86400 + 86399 ≡ seconds_in_range - 1
  pub leap_day : days_from_civil (pos 2096) 2 29 ≡ pos 46080
